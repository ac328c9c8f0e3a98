-- The effect of a tidy on a team's cells, and what a commit tests.
use Rattle.std.proofs.Common.{◌≡◌, ℕ, zero, suc, ◌+◌, ◌<◌, List, [], ◌∷◌, Bool, true, false, cond, length, map, Option, Some, None, refl, ap, sym, ◌∙◌, subst, arith}
use Rattle.std.specs.Prelude.{All, slice_get, slice_set, is_none, filter_map, option_map, option_and_then, MatchOption}
use Rattle.std.specs.List.{range_with_len, position_from, cons_option}
use Rattle.std.proofs.lemmas.Iterator.Adapters.{position_from-zero}
use Rattle.std.proofs.lemmas.List.Elements.{All-map}
use Rattle.std.proofs.lemmas.Option.{slice_get-map, slice_get_within}
use Rattle.lf_units.specs.declared.geometry.Point.{Point}
use Rattle.lf_floorplan.specs.declared.frame.Frame.{Frame}
use Rattle.lf_floorplan.specs.declared.place.Place.{Place}
use Rattle.lf_floorplan.specs.Boxes.{IsSized, macro_of}
use Rattle.lf_rules.specs.declared.rule.Broken.{Broken}
use Rattle.lf_rules.specs.Choice.{SpotPlace, PlacementQuery, spot_of, IsLegalAt, IsChoice, LegalInRange}
use Rattle.lf_rules.specs.Legalizer.{Legalizer}
use Rattle.lf_rules.specs.Team.{Member, query_from, IsLegalCell}
use Rattle.lf_rules.specs.Tidy.{Tidied, Going, Stuck, target_of, tidied_to_best, tidied_to, tidied_own, tidy_cell, tidied_from, tidied}
use Rattle.lf_rules.proofs.TidyLemmas.{tidied_legal}
use Rattle.lf_cells.specs.declared.cell.Cell.{Cell}
use Rattle.lf_floor_model.specs.Teams.{TeamRules, query_of_cell}
use Rattle.lf_legalize.specs.Members.{IsSizedCell, member_of}
use Rattle.lf_cells.specs.Cells.{working_at, as_committed}
use Rattle.lf_floor_model.specs.Queries.{place_of_spot, best_at}
use Rattle.lf_reports.specs.declared.broken_cell.BrokenCell.{BrokenCell}
use Rattle.lf_floor_model.specs.Changes.{restored, broken_where, first_unplaced, broken_cells}
use Rattle.lf_floor_model.proofs.Forms.{places_in}
use Rattle.lf_floor_model.proofs.LegalPlaces.{some_one, none_some, member_there, place_is, sized_at, is_placed_where}

-- ---- the macros are unchanged

abbrev macs : List Member → List ℕ
macs members = map (λ (m : Member). m.mac) members

set_macs : (cells : List Member) (own : ℕ) (m : Member) (place : Option SpotPlace) → slice_get cells own ≡ Some m
    → macs (slice_set cells own (record { mac = m.mac; place = place })) ≡ macs cells
set_macs [] own m place there = refl
set_macs (x ∷ xs) zero m place there = ap (λ (n : ℕ). n ∷ macs xs) (sym (ap (λ (y : Member). y.mac) (some_one there)))
set_macs (x ∷ xs) (suc own) m place there = ap (λ (ns : List ℕ). x.mac ∷ ns) (set_macs xs own m place there)

abbrev SameMacs : List Member → Tidied → Type 0
SameMacs cells (Going new moved) = macs new ≡ macs cells
SameMacs cells (Stuck own) = Unit {0}

sent_macs : (old cells : List Member) (found : Option SpotPlace) (moved own : ℕ) (m : Member) → macs cells ≡ macs old → slice_get cells own ≡ Some m
    → SameMacs old (tidied_to_best found cells moved own m.mac)
sent_macs old cells None moved own m same there = tt
sent_macs old cells (Some p) moved own m same there = set_macs cells own m (Some p) there ∙ same

aimed_macs : (l : Legalizer) (c : PlacementQuery) (old cells : List Member) (target : Option Point) (moved own : ℕ) (m : Member) → macs cells ≡ macs old
    → slice_get cells own ≡ Some m → SameMacs old (tidied_to target l c cells moved own m.mac)
aimed_macs l c old cells None moved own m same there = same
aimed_macs l c old cells (Some target) moved own m same there = sent_macs old cells (l.best_place c target) moved own m same there

own_macs : (l : Legalizer) (f : Frame) (team padding : ℕ) (old cells : List Member) (moved own : ℕ) (o : Option Member) → macs cells ≡ macs old
    → slice_get cells own ≡ o → SameMacs old (tidied_own o l f team padding cells moved own)
own_macs l f team padding old cells moved own None same there = same
own_macs l f team padding old cells moved own (Some m) same there =
    let c = query_from f team padding cells own m.mac in aimed_macs l c old cells (target_of l c m.place) moved own m same there

cell_macs : (l : Legalizer) (f : Frame) (team padding : ℕ) (old : List Member) (t : Tidied) (own : ℕ) → SameMacs old t → SameMacs old (tidy_cell l f team padding t own)
cell_macs l f team padding old (Stuck stuck) own same = tt
cell_macs l f team padding old (Going cells moved) own same = own_macs l f team padding old cells moved own (slice_get cells own) same refl

from_macs : (l : Legalizer) (f : Frame) (team padding : ℕ) (old : List Member) (own count : ℕ) (t : Tidied) → SameMacs old t
    → SameMacs old (tidied_from l f team padding own count t)
from_macs l f team padding old own zero t same = same
from_macs l f team padding old own (suc count) t same = from_macs l f team padding old (own + 1) count (tidy_cell l f team padding t own) (cell_macs l f team padding old t own same)

tidied_macs : (l : Legalizer) (f : Frame) (team padding : ℕ) (cells new : List Member) (moved : ℕ) → tidied l f team padding cells ≡ Going new moved → macs new ≡ macs cells
unfolding tidied
tidied_macs l f team padding cells new moved is = subst (λ (t : Tidied). SameMacs cells t) is (from_macs l f team padding cells 0 (length cells) (Going cells 0) refl)

-- ---- the cells of a tidied team

-- the cell is at a place of the program
abbrev IsPlacedAt : Member → Type 0
IsPlacedAt m = (q : Place) × (m.place ≡ Some (spot_of q)) × (place_of_spot (spot_of q) ≡ Some q)

abbrev member : ℕ → Option SpotPlace → Member
member mac place = record { mac = mac; place = place }

same_member : (a b : ℕ) (p q : Option SpotPlace) → a ≡ b → p ≡ q → member a p ≡ member b q
same_member a b p q e h = cc

placed_member : (c : Cell) (m : Member) → m.mac ≡ c.mac → IsPlacedAt m → member_of (record c { working = option_and_then place_of_spot m.place }) ≡ m
placed_member c m mac at =
    let place : option_map spot_of (option_and_then place_of_spot m.place) ≡ m.place =
    ap (λ (o : Option SpotPlace). option_map spot_of (option_and_then place_of_spot o)) at.1 ∙ ap (λ (o : Option Place). option_map spot_of o) at.2 ∙ sym at.1 in
    same_member c.mac m.mac (option_map spot_of (option_and_then place_of_spot m.place)) m.place (sym mac) place

-- if each cell is at a place of the program, the team's cells are the tidied ones
restored_members : (new : List Member) (cells : List Cell) → macs new ≡ macs (map member_of cells)
    → ((k : ℕ) (m : Member) → slice_get new k ≡ Some m → IsPlacedAt m)
    → map member_of (restored (places_in new) cells) ≡ new
restored_members [] [] same at = refl
restored_members [] (c ∷ cs) same at = absurd cc
restored_members (m ∷ ms) [] same at = absurd cc
restored_members (m ∷ ms) (c ∷ cs) same at =
    let first : m.mac ≡ c.mac = cc in
    let rest : macs ms ≡ macs (map member_of cs) = cc in
    let there = restored_members ms cs rest (λ k x is. at (suc k) x is) in
    ap (λ (x : Member). x ∷ map member_of (restored (places_in ms) cs)) (placed_member c m first (at 0 m refl)) ∙ ap (λ (xs : List Member). m ∷ xs) there

module _ (t : TeamRules) (cells : List Cell) (sized : All (λ c. IsSizedCell t.frame c) cells) (in_range : LegalInRange) where
  sized_members : All (λ m. IsSized t.frame (macro_of t.frame m.mac)) (map member_of cells)
  sized_members = All-map (λ (m : Member). IsSized t.frame (macro_of t.frame m.mac)) member_of cells (λ i d within. (sized i d within).sized)

  mac_there : (new : List Member) (k : ℕ) (m : Member) → macs new ≡ macs (map member_of cells) → slice_get new k ≡ Some m
      → IsSized t.frame (macro_of t.frame m.mac)
  mac_there new k m same there = go (slice_get cells k) refl where
    old : option_map (λ (x : Member). x.mac) (slice_get (map member_of cells) k) ≡ Some m.mac
    old =
        sym (slice_get-map (λ (x : Member). x.mac) (map member_of cells) k) ∙ ap (λ (ns : List ℕ). slice_get ns k) (sym same)
        ∙ slice_get-map (λ (x : Member). x.mac) new k ∙ ap (λ (o : Option Member). option_map (λ (x : Member). x.mac) o) there

    was : option_map (λ (x : Member). x.mac) (option_map member_of (slice_get cells k)) ≡ Some m.mac
    was = ap (λ (o : Option Member). option_map (λ (x : Member). x.mac) o) (sym (slice_get-map member_of cells k)) ∙ old

    go : (o : Option Cell) → slice_get cells k ≡ o → IsSized t.frame (macro_of t.frame m.mac)
    go None is = absurd (none_some (ap (λ (o : Option Cell). option_map (λ (x : Member). x.mac) (option_map member_of o)) (sym is) ∙ was))
    go (Some c) is =
        let mac : c.mac ≡ m.mac = some_one (ap (λ (o : Option Cell). option_map (λ (x : Member). x.mac) (option_map member_of o)) (sym is) ∙ was) in
        subst (λ (n : ℕ). IsSized t.frame (macro_of t.frame n)) mac (sized_at t.frame cells k c sized is)

  placed_legal : (new : List Member) (k : ℕ) (m : Member) → IsSized t.frame (macro_of t.frame m.mac) → (place : Option SpotPlace) → m.place ≡ place
      → MatchOption place ⊥ (λ p. IsLegalAt (query_from t.frame t.number t.padding new k m.mac) p) → IsPlacedAt m
  placed_legal new k m whole None is legal = absurd legal
  placed_legal new k m whole (Some p) is legal =
      let found = place_is in_range (query_from t.frame t.number t.padding new k m.mac) p whole legal in
      (found.0, is ∙ ap (λ (s : SpotPlace). Some s) (sym found.2), ap (λ (s : SpotPlace). place_of_spot s) found.2 ∙ found.1)

  -- a tidied team's cells are at team-legal places
  pub tidied_placed : (new : List Member) (moved : ℕ) → tidied t.legalizer t.frame t.number t.padding (map member_of cells) ≡ Going new moved
      → (own : ℕ) → IsLegalCell t.frame t.number t.padding (map member_of (restored (places_in new) cells)) own
  tidied_placed new moved is own =
      let legal = tidied_legal t.legalizer t.frame t.number t.padding (map member_of cells) new moved sized_members is in
      let same = tidied_macs t.legalizer t.frame t.number t.padding (map member_of cells) new moved is in
      let at : (k : ℕ) (m : Member) → slice_get new k ≡ Some m → IsPlacedAt m = λ k m there. placed_legal new k m (mac_there new k m same there) m.place refl (legal k m there) in
      subst (λ (ms : List Member). IsLegalCell t.frame t.number t.padding ms own) (sym (restored_members new cells same at)) (legal own)

  -- the place found for a cell is its best place; no place is found only if no place is legal for
  -- it
  pub best_choice : (own : ℕ) (c : Cell) (target : Point) → slice_get cells own ≡ Some c
      → IsChoice (query_of_cell t cells own c) target (option_map spot_of (best_at t cells own target))
  best_choice own c target there =
      subst (λ (o : Option Place). IsChoice query_unplaced target (option_map spot_of o)) (sym found) (by (t.legalizer.best_place query_unplaced target) (t.legalizer.finds_best_place query_unplaced target whole))
    where
      query_unplaced : PlacementQuery
      query_unplaced = query_of_cell t cells own c

      whole : IsSized t.frame (macro_of t.frame c.mac)
      whole = sized_at t.frame cells own c sized there

      found : best_at t cells own target ≡ option_and_then place_of_spot (t.legalizer.best_place query_unplaced target)
      found =
          ap (λ (o : Option Cell). option_and_then (λ (d : Cell). option_and_then place_of_spot (t.legalizer.best_place (query_of_cell t cells own d) target)) o) there

      by : (o : Option SpotPlace) → IsChoice query_unplaced target o → IsChoice query_unplaced target (option_map spot_of (option_and_then place_of_spot o))
      by None choice = choice
      by (Some p) choice =
          let place = place_is in_range query_unplaced p whole choice.may_go.legal in
          subst (λ (q : Option SpotPlace). IsChoice query_unplaced target q) (sym (ap (λ (q : Option Place). option_map spot_of q) place.1 ∙ ap (λ (s : SpotPlace). Some s) place.2)) choice

  -- the place found is team-legal
  pub best_legal : (own : ℕ) (c : Cell) (target : Point) (place : Place) → slice_get cells own ≡ Some c → best_at t cells own target ≡ Some place
      → IsLegalAt (query_of_cell t cells own c) (spot_of place)
  best_legal own c target place there is =
      let choice = subst (λ (o : Option Place). IsChoice (query_of_cell t cells own c) target (option_map spot_of o)) is (best_choice own c target there) in
      choice.may_go.legal

-- ---- what a commit tests

abbrev NoneUnplaced : List Cell → Type 0
NoneUnplaced cells = (k : ℕ) (c : Cell) → slice_get cells k ≡ Some c → is_none c.working ≡ false

none_first : (i : ℕ) (cells : List Cell) → position_from (λ (c : Cell). is_none c.working) i cells ≡ None → NoneUnplaced cells
none_first i [] none k c there = absurd (none_some there)
none_first i (d ∷ ds) none k c there = go (is_none d.working) refl none (λ rest. none_first (i + 1) ds rest) k c there where
  go : (b : Bool) → is_none d.working ≡ b → cond b (Some i) (position_from (λ (c : Cell). is_none c.working) (i + 1) ds) ≡ None
      → (position_from (λ (c : Cell). is_none c.working) (i + 1) ds ≡ None → NoneUnplaced ds) → NoneUnplaced (d ∷ ds)
  go true is e rest k c there = absurd (none_some (sym e))
  go false is e rest zero c there = subst (λ (x : Cell). is_none x.working ≡ false) (some_one there) is
  go false is e rest (suc k) c there = rest e k c there

-- if there is no first unplaced cell, each cell is placed
each_placed : (cells : List Cell) → first_unplaced cells ≡ None → (k : ℕ) (c : Cell) → slice_get cells k ≡ Some c → (place : Place) × (c.working ≡ Some place)
each_placed cells none k c there =
    go c.working refl (none_first 0 cells (sym (position_from-zero (λ (c : Cell). is_none c.working) cells) ∙ none) k c there) where
      go : (o : Option Place) → c.working ≡ o → is_none o ≡ false → (place : Place) × (c.working ≡ Some place)
      go None is e = absurd cc
      go (Some place) is e = (place, is)

no_cons : {Y : Type 0} (o : Option Y) (ys : List Y) → cons_option o ys ≡ [] → (o ≡ None) × (ys ≡ [])
no_cons None ys e = (refl, e)
no_cons (Some y) ys e = absurd cc

no_filtered : {Y : Type 0} (h : ℕ → Option Y) (a n : ℕ) → filter_map h (range_with_len a n) ≡ [] → (k : ℕ) → k < n → h (a + k) ≡ None
no_filtered h a zero none k within = absurd (omega (arith, within))
no_filtered h a (suc n) none zero within =
    let at : a + 0 ≡ a = omega arith in
    rw at (no_cons (h a) (filter_map h (range_with_len (a + 1) n)) none).0
no_filtered h a (suc n) none (suc k) within =
    let at : a + suc k ≡ a + 1 + k = omega arith in
    rw at (no_filtered h (a + 1) n (no_cons (h a) (filter_map h (range_with_len (a + 1) n)) none).1 k (omega (arith, within)))

abbrev cell_at : ℕ → Broken → BrokenCell
cell_at own broken = record { own = own; broken = broken }

-- if no cell breaks a rule at its working place, each has no broken rule
each_unbroken : (t : TeamRules) (cells : List Cell) → broken_cells t cells ≡ [] → (k : ℕ) → k < length cells → broken_where t cells k ≡ None
each_unbroken t cells none k within =
    let at : 0 + k ≡ k = omega arith in
    go (broken_where t cells k) (rw at at (no_filtered (λ own. option_map (cell_at own) (broken_where t cells own)) 0 (length cells) none k within))
  where
    go : (o : Option Broken) → option_map (cell_at k) o ≡ None → o ≡ None
    go None e = refl
    go (Some b) e = absurd cc

committed_members : (cells : List Cell) → map member_of (map as_committed cells) ≡ map member_of cells
committed_members [] = refl
committed_members (c ∷ cs) = ap (λ (ms : List Member). member_of c ∷ ms) (committed_members cs)

-- after a commit each cell is at a team-legal place
pub committed_are_placed : (t : TeamRules) (cells : List Cell) → All (λ c. IsSizedCell t.frame c) cells → first_unplaced cells ≡ None → broken_cells t cells ≡ []
    → (own : ℕ) → IsLegalCell t.frame t.number t.padding (map member_of (map as_committed cells)) own
committed_are_placed t cells sized placed unbroken own =
    subst (λ (ms : List Member). IsLegalCell t.frame t.number t.padding ms own) (sym (committed_members cells)) (λ m there. one m there (member_there cells own m there))
  where
    one : (m : Member) → slice_get (map member_of cells) own ≡ Some m → ((c : Cell) × (slice_get cells own ≡ Some c) × (member_of c ≡ m))
        → MatchOption m.place ⊥ (λ p. IsLegalAt (query_from t.frame t.number t.padding (map member_of cells) own m.mac) p)
    one m there found =
        let at = each_placed cells placed own found.0 found.1 in
        let works : working_at cells own ≡ Some at.0 = ap (λ (o : Option Cell). option_and_then (λ (c : Cell). c.working) o) found.1 ∙ at.1 in
        is_placed_where t cells own at.0 sized works (each_unbroken t cells unbroken own (slice_get_within cells own found.0 found.1)) m there
