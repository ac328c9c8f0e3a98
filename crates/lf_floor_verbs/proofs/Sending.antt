-- Cells that tidying moves.
use Rattle.std.proofs.Common.{◌≡◌, ◌<◌, ◌≤◌, ℕ, zero, suc, ◌+◌, ◌-◌, List, [], ◌∷◌, map, length, get_or, Option, Some, None, true, refl, ap, sym, ◌∙◌, arith}
use Rattle.std.specs.Prelude.{slice_get, slice_set, option_map, option_and_then}
use Rattle.std.proofs.lemmas.List.{length-map}
use Rattle.std.proofs.lemmas.Option.{slice_get-map}
use Rattle.lf_units.specs.declared.geometry.Point.{Point}
use Rattle.lf_floorplan.specs.declared.frame.Frame.{Frame}
use Rattle.lf_floorplan.specs.declared.place.Place.{Place}
use Rattle.lf_rules.specs.declared.rule.Broken.{Broken}
use Rattle.lf_rules.specs.Choice.{SpotPlace, spot_of}
use Rattle.lf_rules.specs.Legalizer.{Legalizer}
use Rattle.lf_rules.specs.Team.{Member}
use Rattle.lf_rules.specs.Tidy.{Tidied, Going, Stuck, point_of, target_of, tidied_to_best, tidied_to, tidied_own, tidy_cell, tidied_from, tidied}
use Rattle.lf_proto.specs.declared.reply.Reply.TheVariants.{Tidied as TidyDone}
use Rattle.lf_proto.specs.declared.reply.Refusal.TheVariants.{NoPlace}
use Rattle.lf_cells.specs.declared.cell.Cell.{Cell}
use Rattle.lf_cells.specs.declared.cell.CellId.{CellId}
use Rattle.lf_cells.specs.declared.cell.CellPlacement.{CellPlacement}
use Rattle.lf_cells.specs.Cells.{id_of, ids_of, moved, placement_of}
use Rattle.lf_cells.proofs.TeamIds.{ids_long, ids_read}
use Rattle.lf_placement.proofs.Moves.{length_same}
use Rattle.lf_legalize.specs.Members.{member_of, best_of}
use Rattle.lf_floor_verbs.specs.declared.tidy.Tidy.TheVariants.{Done, Stopped}
use Rattle.lf_floor_model.specs.States.{TeamState}
use Rattle.lf_floor_model.specs.Outcomes.{places_of, refused, recorded, with_reply, may_be_short}
use Rattle.lf_placement.specs.Placements.{SameButPlaces}
use Rattle.lf_floor_model.specs.Teams.{TeamRules, broken_at, query_of_cell}
use Rattle.lf_floor_model.specs.Queries.{place_of_spot}
use Rattle.lf_floor_model.specs.Changes.{restored, tidied_by, tidied_team}
use Rattle.lf_floor_model.proofs.Forms.{broken_by, places_in}
use Rattle.lf_floor_verbs.specs.declared.tidy.TidyStep.{TidyStep}
use Rattle.lf_floor_verbs.specs.Tidying.{TidiesOneCell, TidiesCells, tidy_result_of, tidy_target_at}
use Rattle.lf_floor_verbs.proofs.Moves.{restored_is}
use Rattle.lf_floor_verbs.proofs.Seeking.{back}
use Rattle.lf_floor_model.proofs.LegalPlaces.{some_one}

-- ---- one cell that is moved

-- the target to which a placed cell is tidied
pub target_placed : (t : TeamRules) (cells : List Cell) (own : ℕ) (s : CellPlacement) (place : Place) (broken : Option Broken)
    → Some s ≡ option_map placement_of (slice_get cells own) → s.working ≡ Some place → broken ≡ broken_at t cells own place
    → option_map (λ (b : Broken). point_of (spot_of place)) broken ≡ tidy_target_at t cells own
target_placed t cells own s place broken is_in_place placed is = go (slice_get cells own) is_in_place is where
  go : (o : Option Cell) → Some s ≡ option_map placement_of o → broken ≡ broken_by o t cells own place
      → option_map (λ (b : Broken). point_of (spot_of place)) broken
      ≡ option_and_then (λ c. target_of t.legalizer (query_of_cell t cells own c) (option_map spot_of c.working)) o
  go None e b = absurd cc
  go (Some c) e b =
      let at : c.working ≡ Some place = ap (λ (x : CellPlacement). x.working) (sym (some_one e)) ∙ placed in
      rw at (ap (option_map (λ (x : Broken). point_of (spot_of place))) b)

abbrev tidy_one : TeamRules → List Cell → ℕ → ℕ → Tidied
tidy_one t cells own moved = tidy_cell t.legalizer t.frame t.number t.padding (Going (map member_of cells) moved) own

abbrev one_by : Option Cell → TeamRules → List Cell → ℕ → ℕ → Tidied
one_by None t cells own moved = Going (map member_of cells) moved
one_by (Some c) t cells own moved =
    tidied_to (target_of t.legalizer (query_of_cell t cells own c) (option_map spot_of c.working)) t.legalizer (query_of_cell t cells own c)
    (map member_of cells) moved own c.mac

tidy_one_is : (t : TeamRules) (cells : List Cell) (own moved : ℕ) → tidy_one t cells own moved ≡ one_by (slice_get cells own) t cells own moved
tidy_one_is t cells own moved =
    ap (λ (o : Option Member). tidied_own o t.legalizer t.frame t.number t.padding (map member_of cells) moved own) (slice_get-map member_of cells own)
    ∙ go (slice_get cells own)
  where
    go : (o : Option Cell) → tidied_own (option_map member_of o) t.legalizer t.frame t.number t.padding (map member_of cells) moved own ≡ one_by o t cells own moved
    go None = refl
    go (Some c) = refl

-- a cell without a target stays
pub one_stays : (t : TeamRules) (cells : List Cell) (own moved : ℕ) → tidy_target_at t cells own ≡ None
    → tidy_one t cells own moved ≡ Going (map member_of cells) moved
one_stays t cells own moved none = tidy_one_is t cells own moved ∙ go (slice_get cells own) none where
  go : (o : Option Cell) → option_and_then (λ c. target_of t.legalizer (query_of_cell t cells own c) (option_map spot_of c.working)) o ≡ None
      → one_by o t cells own moved ≡ Going (map member_of cells) moved
  go None e = refl
  go (Some c) e = ap (λ (p : Option Point). tidied_to p t.legalizer (query_of_cell t cells own c) (map member_of cells) moved own c.mac) e

-- one more place among the members
moved_members : (cells : List Cell) (own : ℕ) (c : Cell) (place : Place) → slice_get cells own ≡ Some c
    → slice_set (map member_of cells) own (record { mac = c.mac; place = Some (spot_of place) }) ≡ map member_of (moved cells own (Some place))
moved_members [] own c place there = refl
moved_members (d ∷ ds) zero c place there =
    ap (λ (x : Cell). record { mac = x.mac; place = Some (spot_of place) } ∷ map member_of ds) (sym (some_one there))
moved_members (d ∷ ds) (suc own) c place there = ap (λ (r : List Member). member_of d ∷ r) (moved_members ds own c place there)

-- a cell with a target is moved to the place that is found for it, or has no best place
abbrev pub sent_by : Option Place → List Cell → ℕ → ℕ → Tidied
sent_by None cells own moved = Stuck own
sent_by (Some place) cells own n = Going (map member_of (moved cells own (Some place))) (n + 1)

pub one_sent : (t : TeamRules) (cells : List Cell) (own moved : ℕ) (target : Point) (found : Option Place) → Some target ≡ tidy_target_at t cells own
    → option_map spot_of found ≡ best_of t.legalizer t.frame t.number t.padding cells own target → tidy_one t cells own moved ≡ sent_by found cells own moved
one_sent t cells own n target found aimed best = tidy_one_is t cells own n ∙ go (slice_get cells own) refl aimed best where
  by : (c : Cell) (o : Option Place) → slice_get cells own ≡ Some c → tidied_to_best (option_map spot_of o) (map member_of cells) n own c.mac ≡ sent_by o cells own n
  by c None there = refl
  by c (Some place) there = ap (λ (ms : List Member). Going ms (n + 1)) (moved_members cells own c place there)

  go : (o : Option Cell) → slice_get cells own ≡ o
      → Some target ≡ option_and_then (λ c. target_of t.legalizer (query_of_cell t cells own c) (option_map spot_of c.working)) o
      → option_map spot_of found ≡ option_and_then (λ c. t.legalizer.best_place (query_of_cell t cells own c) target) o
      → one_by o t cells own n ≡ sent_by found cells own n
  go None there e b = absurd cc
  go (Some c) there e b =
      ap (λ (p : Option Point). tidied_to p t.legalizer (query_of_cell t cells own c) (map member_of cells) n own c.mac) (sym e)
      ∙ ap (λ (p : Option SpotPlace). tidied_to_best p (map member_of cells) n own c.mac) (sym b)
      ∙ by c found there

-- ---- all cells

-- the team has the same number of cells at each turn
pub still_within : (number own : ℕ) (first now : List Cell) (all ids : List CellId) → all ≡ ids_of number first → ids ≡ ids_of number now
    → SameButPlaces first now → own < length all → own < length ids
still_within number own first now all ids all_are are same within =
    let many = ids_long number first all all_are in
    let here = ids_long number now ids are in
    let kept = length_same first now same in
    omega (arith, many, here, kept, within)

-- the cell whose turn it is
pub id_at_turn : (number own : ℕ) (first now : List Cell) (all ids : List CellId) (id : CellId) → all ≡ ids_of number first → ids ≡ ids_of number now
    → SameButPlaces first now → own < length all → id ≡ get_or ids own id → id ≡ id_of number own
id_at_turn number own first now all ids id all_are are same within is =
    ids_read number own now ids id are (still_within number own first now all ids all_are are same within) is

-- one cell less remains
pub one_less : (l : Legalizer) (f : Frame) (team padding own last : ℕ) (t now : Tidied) → own < last → tidy_cell l f team padding t own ≡ now
    → tidied_from l f team padding own (last - own) t ≡ tidied_from l f team padding (own + 1) (last - (own + 1)) now
one_less l f team padding own last t now within is =
    let left : last - own ≡ suc (last - (own + 1)) = omega (arith, within) in
    rw left (ap (λ (x : Tidied). tidied_from l f team padding (own + 1) (last - (own + 1)) x) is)

pub stuck_stays : (l : Legalizer) (f : Frame) (team padding own count stuck : ℕ) → tidied_from l f team padding own count (Stuck stuck) ≡ Stuck stuck
stuck_stays l f team padding own zero stuck = refl
stuck_stays l f team padding own (suc count) stuck = stuck_stays l f team padding (own + 1) count stuck

pub none_left : (l : Legalizer) (f : Frame) (team padding own last : ℕ) (t : Tidied) → last ≤ own → tidied_from l f team padding own (last - own) t ≡ t
none_left l f team padding own last t past = let left : last - own ≡ 0 = omega (arith, past) in rw left refl

pub all_to_go : (l : Legalizer) (f : Frame) (team padding last : ℕ) (cells : List Cell) → last ≡ length cells
    → tidied_from l f team padding 0 (last - 0) (Going (map member_of cells) 0) ≡ tidied l f team padding (map member_of cells)
unfolding tidied
all_to_go l f team padding last cells is =
    let count : last - 0 ≡ length (map member_of cells) = omega (arith, is, length-map cells member_of) in
    rw count refl

-- tidying continues after a cell as it would have continued from it
pub on_going : (t : TeamRules) (own last moved : ℕ) (first old new : List Cell) (sent : TidyStep) (now : Tidied) → own < last → TidiesOneCell t own old new sent
    → tidy_result_of sent new moved own ≡ now
    → tidied_from t.legalizer t.frame t.number t.padding own (last - own) (Going (map member_of old) moved) ≡ tidied t.legalizer t.frame t.number t.padding (map member_of first)
    → tidied_from t.legalizer t.frame t.number t.padding (own + 1) (last - (own + 1)) now ≡ tidied t.legalizer t.frame t.number t.padding (map member_of first)
on_going t own last moved first old new sent now within sends is going =
    sym (one_less t.legalizer t.frame t.number t.padding own last (Going (map member_of old) moved) now within (sends moved ∙ is)) ∙ going

-- ---- the team afterwards

places_back : (cells : List Cell) → places_in (map member_of cells) ≡ places_of cells
places_back [] = refl
places_back (c ∷ cs) =
    ap (λ (p : Option Place). p ∷ places_in (map member_of cs)) (at c.working) ∙ ap (λ (r : List (Option Place)). c.working ∷ r) (places_back cs) where
      at : (o : Option Place) → option_and_then place_of_spot (option_map spot_of o) ≡ o
      at None = refl
      at (Some q) = back q

-- each cell was moved to its best place or stayed
pub tidied_done : (t : TeamRules) (session : ℕ) (s : TeamState) (new : List Cell) (count : ℕ) → TidiesCells t s.cells new (Done count) → SameButPlaces s.cells new
    → tidied_team t session s ≡ with_reply (TidyDone (s.revision + 1) count) (recorded t session new s)
unfolding tidied_team
tidied_done t session s new count is same =
    ap (λ (x : Tidied). tidied_by x t session s) is
    ∙ ap (λ (ps : List (Option Place)). with_reply (TidyDone (s.revision + 1) count) (recorded t session (restored ps s.cells) s)) (places_back new)
    ∙ ap (λ (cells : List Cell). with_reply (TidyDone (s.revision + 1) count) (recorded t session cells s)) (restored_is s.cells new same)

pub tidied_stuck : (t : TeamRules) (session : ℕ) (s : TeamState) (new : List Cell) (own : ℕ) → TidiesCells t s.cells new (Stopped own)
    → tidied_team t session s ≡ refused (NoPlace own) s
unfolding tidied_team
tidied_stuck t session s new own is = ap (λ (x : Tidied). tidied_by x t session s) is

pub tidied_short : (t : TeamRules) (session : ℕ) (s : TeamState) → may_be_short (tidied_team t session s).reply ≡ true
unfolding tidied_team
tidied_short t session s = go (tidied t.legalizer t.frame t.number t.padding (map member_of s.cells)) where
  go : (x : Tidied) → may_be_short (tidied_by x t session s).reply ≡ true
  go (Going members count) = refl
  go (Stuck own) = refl
