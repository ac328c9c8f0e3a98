use Rattle.std.proofs.Common.{◌≡◌, ◌∙◌, ◌++◌, ◌∷◌, ◌==◌, [], Bool, List, Some, ℕ, ap, arith, false, length, not, refl, subst, sym}
use Rattle.std.proofs.lemmas.Bool.Decides.{nat_tests}
use Rattle.lf_floor_model.proofs.LegalPlaces.{some_one}
use Rattle.lf_proto.specs.Lines.{IsLineName}
use Rattle.lf_repair_team.proofs.Lines.{line_name, some_byte}
use Rattle.lf_repair_team.proofs.cell_edits.copy_name.Goals as goal

copied : (new clear bytes : List ℕ) → new ≡ clear ++ bytes → clear ≡ [] → new ≡ bytes
copied new clear bytes is none = is ∙ ap (λ (xs : List ℕ). xs ++ bytes) none

pub returns-clause-plain : goal.returns-clause-plain
returns-clause-plain g c = λ some.
    let bytes = c.in-Some.bytes.now in
    subst IsLineName (sym (copied c.extend_from_slice.new.self.items c.clear.new.self.items bytes c.in_ok-extend_from_slice.ensures.items c.clear.ensures.items))
    (line_name bytes c.in-Some.ensures.printed (some_byte bytes c.is_empty.result c.is_empty.ensures some))

pub returns-clause-known : goal.returns-clause-known
returns-clause-known g c = λ some.
    let bytes = c.in-Some.bytes.now in
    sym c.in-Some.ensures.name
    ∙ ap (λ (xs : List ℕ). Some xs) (sym (copied c.extend_from_slice.new.self.items c.clear.new.self.items bytes c.in_ok-extend_from_slice.ensures.items c.clear.ensures.items))

no_byte : (name : List ℕ) (empty : Bool) → empty ≡ (length name == 0) → not empty ≡ false → name ≡ []
no_byte [] empty is none = refl
no_byte (b ∷ bs) empty is none = absurd (grind (arith, nat_tests))

pub returns-clause-skipped : goal.returns-clause-skipped
returns-clause-skipped g c = λ its there none.
    let bytes = c.in-Some.bytes.now in
    some_one (sym there ∙ sym c.in-Some.ensures.name) ∙ no_byte bytes c.is_empty.result c.is_empty.ensures none
