-- The points of pins, pin by pin and net by net.
use Rattle.std.proofs.Common.{◌≡◌, ◌∙◌, ℕ, ◌+◌, ◌<◌, List, [], ◌∷◌, ◌++◌, Option, length, take, get_or, ap, sym}
use Rattle.std.specs.Prelude.{flat_map, slice_get}
use Rattle.std.specs.List.{filter_map}
use Rattle.std.specs.Option.{option_to_list}
use Rattle.std.proofs.lemmas.Grind.{flat_map-append}
use Rattle.std.proofs.lemmas.List.{append-nil, append_assoc, take_more}
use Rattle.std.proofs.lemmas.List.Elements.{filter_map-append}
use Rattle.std.proofs.lemmas.Option.{slice_get-get_or}
use Rattle.lf_units.specs.declared.geometry.Point.{Point}
use Rattle.lf_wire_length.specs.declared.pins.NetPin.{NetPin}
use Rattle.lf_wire_length.specs.declared.pins.NetPin.TheVariants.{Unknown}

-- one pin more of a net
pub next_pin : (f : NetPin → Option Point) (pins : List NetPin) (at : ℕ) (begin now new : List Point) → at < length pins
    → now ≡ begin ++ filter_map f (take at pins) → new ≡ now ++ filter_map f (option_to_list (slice_get pins at))
    → new ≡ begin ++ filter_map f (take (at + 1) pins)
next_pin f pins at begin now new inside so_far is =
    let here = filter_map f (option_to_list (slice_get pins at)) in
    let more : filter_map f (take (at + 1) pins) ≡ filter_map f (take at pins) ++ here =
    ap (λ (ps : List NetPin). filter_map f ps) (take_more pins at Unknown inside) ∙ filter_map-append f (take at pins) (get_or pins at Unknown ∷ [])
    ∙ ap (λ (o : Option NetPin). filter_map f (take at pins) ++ filter_map f (option_to_list o)) (sym (slice_get-get_or pins at Unknown inside)) in
    is ∙ ap (λ (ps : List Point). ps ++ here) so_far ∙ append_assoc begin (filter_map f (take at pins)) here ∙ ap (λ (ps : List Point). begin ++ ps) (sym more)

-- one net more
pub next_net : (f : NetPin → Option Point) (nets : List (List NetPin)) (net : ℕ) (now new : List Point) → net < length nets
    → now ≡ flat_map (λ pins. filter_map f pins) (take net nets) → new ≡ now ++ filter_map f (get_or nets net [])
    → new ≡ flat_map (λ pins. filter_map f pins) (take (net + 1) nets)
next_net f nets net now new inside so_far is =
    let here = filter_map f (get_or nets net []) in
    let more : flat_map (λ pins. filter_map f pins) (take (net + 1) nets) ≡ flat_map (λ pins. filter_map f pins) (take net nets) ++ here =
    ap (λ (ns : List (List NetPin)). flat_map (λ pins. filter_map f pins) ns) (take_more nets net [] inside)
    ∙ flat_map-append (λ pins. filter_map f pins) (take net nets) (get_or nets net [] ∷ [])
    ∙ ap (λ (ps : List Point). flat_map (λ pins. filter_map f pins) (take net nets) ++ ps) (append-nil here) in
    is ∙ ap (λ (ps : List Point). ps ++ here) so_far ∙ sym more
