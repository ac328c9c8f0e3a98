-- Nets with more pins.
use Rattle.std.proofs.Common.{◌≡◌, ℕ, ◌+◌, ◌<◌, Bool, true, false, cond, List, [], ◌∷◌, ◌++◌, length, map, drop, get_or, refl, sym, ap, ◌∙◌, arith}
use Rattle.std.specs.Prelude.{◌==◌, count_by, filter}
use Rattle.std.specs.List.{flat_map}
use Rattle.std.proofs.lemmas.Bool.{eqb-true}
use Rattle.std.proofs.lemmas.Grind.{common_steps}
use Rattle.lf_wire_length.specs.declared.pins.NetPin.{NetPin}
use Rattle.lf_wire_length.specs.declared.pins.NetPin.TheVariants.{Unplaced}
use Rattle.lf_wire_length.specs.Stored.{with_pin}
use Rattle.lf_wire_nets.specs.declared.nets.DesignNet.{DesignNet}
use Rattle.lf_wire_nets.specs.declared.design_pins.DesignPort.{DesignPort}
use Rattle.lf_wire_nets.specs.Binding.{bound_net, bound_nets, is_signal, is_supply, pin_of_port, pins_of_ports}
use Rattle.lf_wire_nets.specs.Texts.{DesignFacts}
use Rattle.lf_wire_nets.specs.Rows.{with_pins}

with_pin_last : (nets : List (List NetPin)) (net : List NetPin) (pin : NetPin) → with_pin pin (nets ++ net ∷ []) ≡ nets ++ (net ++ pin ∷ []) ∷ []
with_pin_last [] net pin = refl
with_pin_last (n ∷ []) net pin = refl
with_pin_last (n ∷ m ∷ nets) net pin = ap (λ rest. n ∷ rest) (with_pin_last (m ∷ nets) net pin)

nothing_more : (net : List NetPin) → net ≡ net ++ []
nothing_more net = grind (arith, common_steps)

pub pins_last : (pins : List NetPin) (nets : List (List NetPin)) (net : List NetPin) → with_pins pins (nets ++ net ∷ []) ≡ nets ++ (net ++ pins) ∷ []
pins_last [] nets net = ap (λ n. nets ++ n ∷ []) (nothing_more net)
pins_last (pin ∷ pins) nets net =
    let joined : (net ++ pin ∷ []) ++ pins ≡ net ++ pin ∷ pins = grind (arith, common_steps) in
    ap (with_pins pins) (with_pin_last nets net pin) ∙ pins_last pins nets (net ++ pin ∷ []) ∙ ap (λ n. nets ++ n ∷ []) joined

-- A list with nets still has nets.
pub nets_remain : (pin : NetPin) (nets : List (List NetPin)) → 0 < length nets → 0 < length (with_pin pin nets)
nets_remain pin [] some = absurd (omega arith)
nets_remain pin (n ∷ []) some = omega arith
nets_remain pin (n ∷ m ∷ nets) some = omega arith

pub nets_remain_with : (pins : List NetPin) (nets : List (List NetPin)) → 0 < length nets → 0 < length (with_pins pins nets)
nets_remain_with [] nets some = some
nets_remain_with (pin ∷ pins) nets some = nets_remain_with pins (with_pin pin nets) (nets_remain pin nets some)

-- Pins one list after the other.
pins_after_pins : (first later : List NetPin) (nets : List (List NetPin)) → with_pins (first ++ later) nets ≡ with_pins later (with_pins first nets)
pins_after_pins [] later nets = refl
pins_after_pins (pin ∷ first) later nets = pins_after_pins first later (with_pin pin nets)

-- The pin of one port more, and those of the remaining ones, come to what these ports did.
pub one_port : (ports : List DesignPort) (i : ℕ) (d : DesignPort) (pin : NetPin) (before after all : List (List NetPin)) → i < length ports →
    pin ≡ pin_of_port (get_or ports i d) → after ≡ with_pin pin before →
    with_pins (map pin_of_port (drop i ports)) before ≡ all → with_pins (map pin_of_port (drop (i + 1) ports)) after ≡ all
one_port ports i d pin before after all within is pushed e =
    let here : drop i ports ≡ get_or ports i d ∷ drop (i + 1) ports = grind (arith, common_steps) in
    ap (with_pins (map pin_of_port (drop (i + 1) ports))) (pushed ∙ ap (λ p. with_pin p before) is)
    ∙ sym (ap (λ xs. with_pins (map pin_of_port xs) before) here) ∙ e

-- The pins of one entry more, and those of the remaining ones, come to what these entries did.
pub one_bound : {X : Type 0} (bind : X → List NetPin) (entries : List X) (i : ℕ) (x : X) (before after all : List (List NetPin)) →
    drop i entries ≡ x ∷ drop (i + 1) entries → after ≡ with_pins (bind x) before →
    with_pins (flat_map bind (drop i entries)) before ≡ all → with_pins (flat_map bind (drop (i + 1) entries)) after ≡ all
one_bound bind entries i x before after all here pushed e =
    let rest = flat_map bind (drop (i + 1) entries) in
    ap (with_pins rest) pushed
    ∙ sym (pins_after_pins (bind x) rest before)
    ∙ sym (ap (λ xs. with_pins (flat_map bind xs) before) here) ∙ e

-- The pins of a pin of the design whose ports are placed.
pub some_port : (ports : List DesignPort) → (length ports == 0) ≡ false → pins_of_ports ports ≡ map pin_of_port ports
some_port [] e = absurd cc
some_port (p ∷ ports) e = refl

pub no_port : (ports : List DesignPort) → (length ports == 0) ≡ true → pins_of_ports ports ≡ Unplaced ∷ []
no_port [] e = refl
no_port (p ∷ ports) e =
    let none : length (p ∷ ports) ≡ 0 = eqb-true (length (p ∷ ports)) 0 e in
    absurd (omega arith)

first_net : (f : DesignFacts) (n : DesignNet) (nets : List DesignNet) → bound_nets f (n ∷ nets) ≡ bound_nets f (n ∷ []) ++ bound_nets f nets
first_net f n nets = by (is_signal n)
  where
    by : (t : Bool) → map (bound_net f) (cond t (n ∷ filter is_signal nets) (filter is_signal nets)) ≡ map (bound_net f) (cond t (n ∷ []) []) ++ map (bound_net f) (filter is_signal nets)
    by true = refl
    by false = refl

joined : (xs ys zs : List (List NetPin)) → (xs ++ ys) ++ zs ≡ xs ++ (ys ++ zs)
joined xs ys zs = grind (arith, common_steps)

-- One net more, and the remaining ones, are what these nets were.
pub one_net : (f : DesignFacts) (nets : List DesignNet) (i : ℕ) (n : DesignNet) (before after all : List (List NetPin)) →
    drop i nets ≡ n ∷ drop (i + 1) nets → after ≡ before ++ bound_nets f (n ∷ []) →
    before ++ bound_nets f (drop i nets) ≡ all → after ++ bound_nets f (drop (i + 1) nets) ≡ all
one_net f nets i n before after all here pushed e =
    let rest = bound_nets f (drop (i + 1) nets) in
    ap (λ ns. ns ++ rest) pushed ∙ joined before (bound_nets f (n ∷ [])) rest
    ∙ ap (λ ns. before ++ ns) (sym (first_net f n (drop (i + 1) nets)))
    ∙ ap (λ ns. before ++ bound_nets f ns) (sym here) ∙ e

first_supply : (n : DesignNet) (nets : List DesignNet) → count_by is_supply (n ∷ nets) ≡ count_by is_supply (n ∷ []) + count_by is_supply nets
first_supply n nets = grind (arith, common_steps)

-- The supplies so far, and those of the remaining nets, are all of them.
pub one_supply : (nets : List DesignNet) (i : ℕ) (n : DesignNet) (so_far more all : ℕ) → drop i nets ≡ n ∷ drop (i + 1) nets → more ≡ count_by is_supply (n ∷ []) →
    so_far + count_by is_supply (drop i nets) ≡ all → so_far + more + count_by is_supply (drop (i + 1) nets) ≡ all
one_supply nets i n so_far more all here is e =
    let parts : count_by is_supply (drop i nets) ≡ count_by is_supply (n ∷ []) + count_by is_supply (drop (i + 1) nets) = ap (count_by is_supply) here ∙ first_supply n (drop (i + 1) nets) in
    omega arith
