-- The first words of the hub's own lines are no first words of requests.
use Rattle.std.proofs.Common.{◌≡◌, ℕ, Bool, true, false, cond, List, [], ◌∷◌, Option, Some, None, refl, sym, ap, ◌∙◌, subst}
use Rattle.std.specs.Prelude.{codes, option_and_then}
use Rattle.std.specs.List.{list_all}
use Rattle.std.specs.Str.{bytes_eq}
use Rattle.std.proofs.lemmas.Slice.Eq.{bytes_eq-Decides}
use Rattle.lf_floorplan.specs.declared.place.Place.{Place}
use Rattle.lf_proto.specs.Lines.{fields, is_line_byte}
use Rattle.lf_proto.specs.Requests.{command_in}
use Rattle.lf_hub_lines.specs.declared.hub_line.HubLine.{HubLine}
use Rattle.lf_hub_lines.specs.HubLines.{HubLinesAreNotRequests, hub_line_in, label_of, units_of, wait_of}

iam_is_none : (arguments : List (List ℕ)) → command_in (codes "iam" ∷ arguments) ≡ None
iam_is_none arguments = refl

units_is_none : (arguments : List (List ℕ)) → command_in (codes "units" ∷ arguments) ≡ None
units_is_none arguments = refl

wait_is_none : (arguments : List (List ℕ)) → command_in (codes "wait" ∷ arguments) ≡ None
wait_is_none arguments = refl

-- A word that equals a text.
word_is : (word text : List ℕ) (arguments : List (List ℕ)) → bytes_eq word text ≡ true → command_in (text ∷ arguments) ≡ None
    → command_in (word ∷ arguments) ≡ None
word_is word text arguments same none =
    subst (λ (w : List ℕ). command_in (w ∷ arguments) ≡ None) (sym ((bytes_eq-Decides word text).0 same)) none

third : (word : List ℕ) (arguments : List (List ℕ)) (own : HubLine (List ℕ)) (b : Bool) → bytes_eq word (codes "wait") ≡ b
    → cond b (wait_of arguments) None ≡ Some own → command_in (word ∷ arguments) ≡ None
third word arguments own true same is = word_is word (codes "wait") arguments same (wait_is_none arguments)
third word arguments own false other is = cc

second : (word : List ℕ) (arguments : List (List ℕ)) (own : HubLine (List ℕ)) (b : Bool) → bytes_eq word (codes "units") ≡ b
    → cond b (units_of arguments) (cond (bytes_eq word (codes "wait")) (wait_of arguments) None) ≡ Some own
    → command_in (word ∷ arguments) ≡ None
second word arguments own true same is = word_is word (codes "units") arguments same (units_is_none arguments)
second word arguments own false other is = third word arguments own (bytes_eq word (codes "wait")) refl is

first : (word : List ℕ) (arguments : List (List ℕ)) (own : HubLine (List ℕ)) (b : Bool) → bytes_eq word (codes "iam") ≡ b
    → cond b (label_of arguments)
    (cond (bytes_eq word (codes "units")) (units_of arguments) (cond (bytes_eq word (codes "wait")) (wait_of arguments) None)) ≡ Some own
    → command_in (word ∷ arguments) ≡ None
first word arguments own true same is = word_is word (codes "iam") arguments same (iam_is_none arguments)
first word arguments own false other is = second word arguments own (bytes_eq word (codes "units")) refl is

in_fields : (fs : List (List ℕ)) (own : HubLine (List ℕ)) → hub_line_in fs ≡ Some own → command_in fs ≡ None
in_fields [] own is = refl
in_fields (word ∷ arguments) own is = first word arguments own (bytes_eq word (codes "iam")) refl is

on_line : (b : Bool) (fs : List (List ℕ)) (own : HubLine (List ℕ)) → option_and_then hub_line_in (cond b (Some fs) None) ≡ Some own
    → cond b (command_in fs) None ≡ None
on_line true fs own is = in_fields fs own is
on_line false fs own is = refl

pub not_requests : HubLinesAreNotRequests
not_requests line own is = on_line (list_all is_line_byte line) (fields line) own is
