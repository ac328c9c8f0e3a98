-- A tidy of a team on two frames that are alike.
use Rattle.std.proofs.Common.{◌≡◌, ℕ, zero, suc, ◌+◌, List, length, Option, Some, None, refl, ap, ◌∙◌, subst}
use Rattle.std.specs.Prelude.{slice_get}
use Rattle.std.specs.Option.{option_map}
use Rattle.std.specs.List.{AllZip}
use Rattle.lf_units.specs.declared.geometry.Point.{Point}
use Rattle.lf_floorplan.specs.declared.frame.Frame.{Frame}
use Rattle.lf_floorplan.specs.Boxes.{IsSized, macro_of}
use Rattle.lf_rules.specs.declared.rule.Broken.{Broken}
use Rattle.lf_rules.specs.Choice.{SpotPlace, PlacementQuery, candidate_at, BestPlaceIsUnique}
use Rattle.lf_rules.specs.Legalizer.{Legalizer, VerdictIsUnique}
use Rattle.lf_rules.specs.Team.{Member, query_from}
use Rattle.lf_rules.specs.Tidy.{Tidied, Going, Stuck, point_of, target_of, tidied_to_best, tidied_to, tidied_own, tidy_cell, tidied_from, tidied}
use Rattle.lf_laws_slices.specs.Alike.{AreFramesAlike}
use Rattle.lf_laws_slices.specs.Laws.{query_on}
use Rattle.lf_laws_slices.proofs.Zips.{OptionZip, zip_length, zip_get, zip_set}
use Rattle.lf_laws_slices.proofs.Places.{verdict_same, best_same, anchor_same}
use Rattle.lf_laws_slices.proofs.Members.{AreMembersAlike, query_same}

-- two states of tidying: both continue with cells that are alike, or the same cell is stuck
abbrev pub AreTidiedAlike : Frame → Frame → Tidied → Tidied → Type 0
AreTidiedAlike f g (Going ms moved) (Going ns moved') = AllZip (AreMembersAlike f g) ms ns × (moved ≡ moved')
AreTidiedAlike f g (Stuck own) (Stuck own') = own ≡ own'
AreTidiedAlike f g (Going ms moved) (Stuck own) = ⊥
AreTidiedAlike f g (Stuck own) (Going ns moved) = ⊥

module _ (verdict_one : VerdictIsUnique) (choice_one : BestPlaceIsUnique) (l l' : Legalizer) (f g : Frame) (a : AreFramesAlike f g) (team padding : ℕ) where
  target_same : (c : PlacementQuery) → c.frame ≡ f → IsSized c.frame c.mac → AreFramesAlike c.frame g → (place : Option SpotPlace)
      → target_of l c place ≡ target_of l' (query_on g c) place
  target_same c is sized alike None = ap (λ (p : Point). Some p) (anchor_same c.frame g alike c.team)
  target_same c is sized alike (Some p) =
      ap (λ (o : Option Broken). option_map (λ (broken : Broken). point_of p) o) (verdict_same verdict_one l l' (candidate_at c p) g alike sized)

  sent_same : (found : Option SpotPlace) (ms ns : List Member) (moved own mac other : ℕ) → AllZip (AreMembersAlike f g) ms ns
      → macro_of f mac ≡ macro_of g other → IsSized f (macro_of f mac)
      → AreTidiedAlike f g (tidied_to_best found ms moved own mac) (tidied_to_best found ns moved own other)
  sent_same None ms ns moved own mac other z same sized = refl
  sent_same (Some p) ms ns moved own mac other z same sized =
      let new : AreMembersAlike f g (record { mac = mac; place = Some p }) (record { mac = other; place = Some p }) =
      record { place = refl; same_macro = same; sized = sized } in
      (zip_set (AreMembersAlike f g) ms ns own (record { mac = mac; place = Some p }) (record { mac = other; place = Some p }) z new, refl)

  aimed_same : (target : Option Point) (c : PlacementQuery) → IsSized c.frame c.mac → AreFramesAlike c.frame g → (ms ns : List Member) (moved own mac other : ℕ)
      → AllZip (AreMembersAlike f g) ms ns → macro_of f mac ≡ macro_of g other → IsSized f (macro_of f mac)
      → AreTidiedAlike f g (tidied_to target l c ms moved own mac) (tidied_to target l' (query_on g c) ns moved own other)
  aimed_same None c whole alike ms ns moved own mac other z same sized = (z, refl)
  aimed_same (Some target) c whole alike ms ns moved own mac other z same sized =
      subst (λ (o : Option SpotPlace). AreTidiedAlike f g (tidied_to_best (l.best_place c target) ms moved own mac) (tidied_to_best o ns moved own other))
      (best_same choice_one l l' c target g alike whole)
      (sent_same (l.best_place c target) ms ns moved own mac other z same sized)

  own_same : (o p : Option Member) (ms ns : List Member) (moved own : ℕ) → OptionZip (AreMembersAlike f g) o p → AllZip (AreMembersAlike f g) ms ns
      → AreTidiedAlike f g (tidied_own o l f team padding ms moved own) (tidied_own p l' g team padding ns moved own)
  own_same None None ms ns moved own there z = (z, refl)
  own_same None (Some n) ms ns moved own there z = absurd there
  own_same (Some m) None ms ns moved own there z = absurd there
  own_same (Some m) (Some n) ms ns moved own there z =
      let c = query_from f team padding ms own m.mac in
      let aimed = aimed_same (target_of l c m.place) c there.sized a ms ns moved own m.mac n.mac z there.same_macro there.sized in
      let targets : target_of l c m.place ≡ target_of l' (query_on g c) n.place =
      target_same c refl there.sized a m.place ∙ ap (λ (place : Option SpotPlace). target_of l' (query_on g c) place) there.place in
      let known = subst (λ (o : Option Point). AreTidiedAlike f g (tidied_to (target_of l c m.place) l c ms moved own m.mac) (tidied_to o l' (query_on g c) ns moved own n.mac)) targets aimed in
      subst (λ (d : PlacementQuery). AreTidiedAlike f g (tidied_to (target_of l c m.place) l c ms moved own m.mac) (tidied_to (target_of l' d n.place) l' d ns moved own n.mac))
      (query_same f g a team padding ms ns own m.mac n.mac z there.same_macro) known

  cell_same : (t u : Tidied) (own : ℕ) → AreTidiedAlike f g t u → AreTidiedAlike f g (tidy_cell l f team padding t own) (tidy_cell l' g team padding u own)
  cell_same (Going ms moved) (Going ns moved') own z =
      subst (λ (k : ℕ). AreTidiedAlike f g (tidy_cell l f team padding (Going ms moved) own) (tidy_cell l' g team padding (Going ns k) own)) z.1
      (own_same (slice_get ms own) (slice_get ns own) ms ns moved own (zip_get (AreMembersAlike f g) ms ns z.0 own) z.0)
  cell_same (Going ms moved) (Stuck own') own z = absurd z
  cell_same (Stuck own') (Going ns moved) own z = absurd z
  cell_same (Stuck stuck) (Stuck stuck') own z = z

  from_same : (own count : ℕ) (t u : Tidied) → AreTidiedAlike f g t u
      → AreTidiedAlike f g (tidied_from l f team padding own count t) (tidied_from l' g team padding own count u)
  from_same own zero t u z = z
  from_same own (suc count) t u z =
      from_same (own + 1) count (tidy_cell l f team padding t own) (tidy_cell l' g team padding u own) (cell_same t u own z)

  -- the results of tidying are alike
  pub tidied_same : (ms ns : List Member) → AllZip (AreMembersAlike f g) ms ns
      → AreTidiedAlike f g (tidied l f team padding ms) (tidied l' g team padding ns)
  unfolding tidied
  tidied_same ms ns z =
      subst (λ (k : ℕ). AreTidiedAlike f g (tidied_from l f team padding 0 (length ms) (Going ms 0)) (tidied_from l' g team padding 0 k (Going ns 0)))
      (zip_length (AreMembersAlike f g) ms ns z)
      (from_same 0 (length ms) (Going ms 0) (Going ns 0) (z, refl))
