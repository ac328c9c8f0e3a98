-- The stored clauses of components determine what is replaced.
use Rattle.std.proofs.Common.{◌≡◌, ℕ, ◌-◌, Bool, true, false, inl, inr, List, map, length, take, drop, Option, Some, None, refl, sym, ap, ◌∙◌}
use Rattle.std.specs.Prelude.{slice_get, option_map}
use Rattle.std.specs.Option.{option_and_then}
use Rattle.std.proofs.lemmas.List.{length-map}
use Rattle.std.proofs.lemmas.Option.{slice_get-map}
use Rattle.std.proofs.lemmas.Slice.Eq.{bytes_eq-Decides}
use Rattle.lf_lex.specs.Splices.{joined_words}
use Rattle.lf_team_def.specs.Clauses.{clause_words}
use Rattle.lf_floorplan.specs.declared.place.Place.{Place}
use Rattle.lf_def.specs.Laws as def
use Rattle.lf_def.specs.declared.components.Component.{Component}
use Rattle.lf_def.specs.declared.components.Location.{Location}
use Rattle.lf_def.specs.declared.components.PlacementClause.{PlacementClause}
use Rattle.lf_write.specs.Export.{AreExportable, CanBeRenewed, place_location, change, change_at, clause_from, clause_of, clause_splice, clause_with}
use Rattle.lf_write.specs.Export.{exported, is_at, is_unchanged, is_plain, location_clause_words, renewal, renewal_at, renewed, splice_at}
use Rattle.lf_write.proofs.Apart.{IsOf, clauses_rise}
use Rattle.lf_write.proofs.Idle.{Agree, agree_same, same_spliced}
use Rattle.lf_write.proofs.Positions.{Given, listed}
use Rattle.lf_write.proofs.WrittenLocations.{is_placed_by}

-- A plain clause, written again for the component's own place, is unchanged.

same_words : (given : Option Place) → location_clause_words (option_map place_location given) ≡ clause_words given
same_words None = refl
same_words (Some p) = refl

written_again : (text : List ℕ) (p : PlacementClause) (given : Option Place) → is_plain text p ≡ true → is_at p.place given ≡ true
    → joined_words (clause_words given) ≡ take (p.stop - p.start) (drop p.start text)
written_again text p given plain is_in_place =
    let bytes = (bytes_eq-Decides (take (p.stop - p.start) (drop p.start text)) (joined_words (location_clause_words p.place))).0 plain in
    let place : p.place ≡ option_map place_location given = (is_placed_by p.place given).0 is_in_place in
    ap (λ (w : List (List ℕ)). joined_words w) (sym (same_words given)) ∙ ap (λ (l : Option Location). joined_words (location_clause_words l)) (sym place) ∙ sym bytes

-- The clause of one component.

plain_agrees : (text : List ℕ) (c : Component) (p : PlacementClause) (given : Option Place) → is_plain text p ≡ true
    → (test : Bool) → is_at p.place given ≡ test → Agree text (renewal (clause_with true p) given) (change (record c { placement = Some p }) given)
plain_agrees text c p given plain true e = rw e (inr (refl, written_again text p given plain e))
plain_agrees text c p given plain false e = rw e (inl refl)

clause_agrees : (text : List ℕ) (c : Component) (p : PlacementClause) (given : Option Place) (test : Bool) → is_plain text p ≡ test
    → Agree text (renewal (clause_with test p) given) (change (record c { placement = Some p }) given)
clause_agrees text c p given true e = plain_agrees text c p given e (is_at p.place given) refl
clause_agrees text c p given false e = agree_same text (change (record c { placement = Some p }) given)

with_placement : (text : List ℕ) (c : Component) (p : Option PlacementClause) (given : Option Place)
    → Agree text (renewal (clause_from text p c.semicolon) given) (change (record c { placement = p }) given)
with_placement text c None given = agree_same text (change (record c { placement = None }) given)
with_placement text c (Some p) given = clause_agrees text c p given (is_plain text p) refl

of_found : (text : List ℕ) (o : Option Component) (given : Option Place)
    → Agree text (option_and_then (λ k. renewal k given) (option_map (clause_of text) o)) (option_and_then (λ c. change c given) o)
of_found text None given = refl
of_found text (Some c) given = with_placement text c c.placement given

at_position : (text : List ℕ) (cs : List Component) (g : ℕ × Option Place) → Agree text (renewal_at (map (clause_of text) cs) g) (change_at cs g)
at_position text cs g = rw (slice_get-map (clause_of text) cs g.0) (of_found text (slice_get cs g.0) g.1)

-- The texts are the same.
pub same_text : (text : List ℕ) (cs : List Component) (places : Given) → CanBeRenewed text (map (clause_of text) cs) places
    → renewed text (map (clause_of text) cs) places ≡ exported text cs places
same_text text cs places can =
    same_spliced text (renewal_at (map (clause_of text) cs)) (change_at cs) places (at_position text cs) can.rising

-- The clause of the component is what is replaced.

splice_is : (test : Bool) (p : PlacementClause) (semicolon : ℕ) (given : Option Place)
    → splice_at (clause_with test p) given ≡ clause_splice (Some p) semicolon given
splice_is true p semicolon given = refl
splice_is false p semicolon given = refl

splice_from : (text : List ℕ) (p : Option PlacementClause) (semicolon : ℕ) (given : Option Place)
    → splice_at (clause_from text p semicolon) given ≡ clause_splice p semicolon given
splice_from text None semicolon given = refl
splice_from text (Some p) semicolon given = splice_is (is_plain text p) p semicolon given

renewal_is : (text : List ℕ) (cs : List Component) (g : ℕ × Option Place) (c : Component) → slice_get cs g.0 ≡ Some c
    → (test : Bool) → is_unchanged (clause_of text c) g.1 ≡ test → IsOf cs g (renewal (clause_of text c) g.1)
renewal_is text cs g c there true e = rw e tt
renewal_is text cs g c there false e = rw e (c, there, splice_from text c.placement c.semicolon g.1)

renewal_of : (text : List ℕ) (cs : List Component) (g : ℕ × Option Place) (o : Option Component) → slice_get cs g.0 ≡ o
    → IsOf cs g (option_and_then (λ k. renewal k g.1) (option_map (clause_of text) o))
renewal_of text cs g None e = tt
renewal_of text cs g (Some c) e = renewal_is text cs g c e (is_unchanged (clause_of text c) g.1) refl

renewals_are : (text : List ℕ) (cs : List Component) (g : ℕ × Option Place) → IsOf cs g (renewal_at (map (clause_of text) cs) g)
renewals_are text cs g = rw (slice_get-map (clause_of text) cs g.0) (renewal_of text cs g (slice_get cs g.0) refl)

pub ready_for : (text : List ℕ) (cs : List Component) (places : Given) → def.AreInTextOrder 0 (length text) cs → AreExportable cs places
    → CanBeRenewed text (map (clause_of text) cs) places
ready_for text cs places rise can = record {
  listed = rw (length-map cs (clause_of text)) (listed 0 (length cs) places can.rise);
  rising = clauses_rise (length text) cs (renewal_at (map (clause_of text) cs)) places (length cs) rise (renewals_are text cs) can.rise;
}
