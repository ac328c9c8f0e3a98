-- Legal cells, and why tidying keeps them legal.
use Rattle.std.proofs.Common.{◌≡◌, ◌≢◌, ◌∙◌, ⊎_elim, ℕ, zero, suc, List, map, set, replicate, Bool, true, false, Option, Some, None, refl, sym, ap, subst}
use Rattle.std.specs.Prelude.{All, MatchOption, is_none, slice_get, option_map, option_and_then}
use Rattle.std.proofs.lemmas.Bool.{cases_eq}
use Rattle.std.proofs.lemmas.List.Elements.{All-map}
use Rattle.std.proofs.lemmas.Option.{slice_get-map}
use Rattle.lf_undo.proofs.Places.{slice_get-set_other}
use Rattle.lf_floorplan.specs.declared.frame.Frame.{Frame}
use Rattle.lf_floorplan.specs.declared.place.Place.{Place}
use Rattle.lf_floorplan.specs.Boxes.{IsSized, macro_of}
use Rattle.lf_rules.specs.declared.rule.Broken.{Broken}
use Rattle.lf_rules.specs.declared.rule.Rule.{Rule}
use Rattle.lf_rules.specs.Choice.{IsLegalAt, spot_of}
use Rattle.lf_rules.specs.Legality.{IsTeamLegal}
use Rattle.lf_rules.specs.Legalizer.{Legalizer, VerdictIsUnique}
use Rattle.lf_rules.specs.Team.{IsLegalCell}
use Rattle.lf_rules.specs.Tidy.{Going, TidyKeepsLegal, point_of, target_of, tidy_cell}
use Rattle.lf_cells.specs.declared.cell.Cell.{Cell}
use Rattle.lf_cells.specs.declared.cell.CellId.{CellId}
use Rattle.lf_cells.specs.Cells.{cells_of, id_in, id_of, working_at}
use Rattle.lf_legalize.specs.Members.{IsSizedCell, member_of}
use Rattle.lf_placement.specs.Placements.{IsBrokenFrameRule, OverlapsNoCell, Placing}
use Rattle.lf_floor_model.specs.Teams.{TeamRules, broken_at, query_of_cell, team_rules}
use Rattle.lf_floor_model.specs.Changes.{broken_where}
use Rattle.lf_floor_model.proofs.Forms.{broken_by, candidate_of_cell}
use Rattle.lf_floor_model.proofs.LegalPlaces.{some_one, is_placed_where}
use Rattle.lf_floor_verbs.specs.Marking.{AreMarked}
use Rattle.lf_floor_verbs.specs.Tidying.{tidy_target_at}
use Rattle.lf_floor_verbs.proofs.BrokenRules.{broken_there, sized_there}

-- ---- marks

no_true : (count own : ℕ) → slice_get (replicate count false) own ≡ Some true → ⊥
no_true zero own e = cc
no_true (suc n) zero e = cc
no_true (suc n) (suc own) e = no_true n own e

-- if no mark is set, each mark is right
pub none_marked : (f : Frame) (number padding count : ℕ) (cells : List Cell) (marks : List Bool) → marks ≡ replicate count false →
    AreMarked f number padding cells marks
none_marked f number padding count cells marks are own marked =
    absurd (no_true count own (subst (λ (ms : List Bool). slice_get ms own ≡ Some true) are marked))

-- one more mark is set, and its cell is legal
pub one_more_mark : (f : Frame) (number padding own : ℕ) (cells : List Cell) (old new : List Bool) → new ≡ set old own true →
    IsLegalCell f number padding (map member_of cells) own → AreMarked f number padding cells old → AreMarked f number padding cells new
one_more_mark f number padding own cells old new is is_in_place are other marked = ⊎_elim
    (λ (same : other ≡ own). subst (λ (k : ℕ). IsLegalCell f number padding (map member_of cells) k) (sym same) is_in_place)
    (λ (differ : other ≢ own).
    are other (sym (slice_get-set_other old own other true differ) ∙ subst (λ (ms : List Bool). slice_get ms other ≡ Some true) is marked))
    (cases_eq other own)

-- ---- a legal cell breaks no rule

no_rule : (t : TeamRules) (cells : List Cell) (own : ℕ) (c : Cell) (place : Place) → VerdictIsUnique → IsSizedCell t.frame c →
    IsTeamLegal (candidate_of_cell t cells own c place) → t.legalizer.first_broken (candidate_of_cell t cells own c place) ≡ None
no_rule t cells own c place one sized legal =
    one (candidate_of_cell t cells own c place) (t.legalizer.first_broken (candidate_of_cell t cells own c place)) None
    (t.legalizer.finds_first_broken (candidate_of_cell t cells own c place) sized.sized) legal

pub legal_breaks_none : (t : TeamRules) (cells : List Cell) (own : ℕ) → VerdictIsUnique → All (IsSizedCell t.frame) cells →
    IsLegalCell t.frame t.number t.padding (map member_of cells) own → None ≡ broken_where t cells own
legal_breaks_none t cells own one all is_in_place = go (slice_get cells own) refl where
  by : (c : Cell) (o : Option Place) → IsSizedCell t.frame c → MatchOption (option_map spot_of o) ⊥ (λ p. IsLegalAt (query_of_cell t cells own c) p) →
      None ≡ option_and_then (λ place. broken_by (Some c) t cells own place) o
  by c None sized none = absurd none
  by c (Some place) sized legal = sym (no_rule t cells own c place one sized legal)

  go : (o : Option Cell) → slice_get cells own ≡ o →
      None ≡ option_and_then (λ place. broken_by o t cells own place) (option_and_then (λ c. c.working) o)
  go None there = refl
  go (Some c) there =
      by c c.working (sized_there t.frame cells own c all there)
      (is_in_place (member_of c) (slice_get-map member_of cells own ∙ ap (option_map member_of) there))

-- ---- a legal cell is not tidied

pub legal_stays : (t : TeamRules) (cells : List Cell) (own : ℕ) → VerdictIsUnique → All (IsSizedCell t.frame) cells →
    IsLegalCell t.frame t.number t.padding (map member_of cells) own → None ≡ tidy_target_at t cells own
legal_stays t cells own one all is_in_place = go (slice_get cells own) refl where
  by : (c : Cell) (o : Option Place) → IsSizedCell t.frame c → MatchOption (option_map spot_of o) ⊥ (λ p. IsLegalAt (query_of_cell t cells own c) p) →
      None ≡ target_of t.legalizer (query_of_cell t cells own c) (option_map spot_of o)
  by c None sized none = absurd none
  by c (Some place) sized legal = sym (ap (option_map (λ (b : Broken). point_of (spot_of place))) (no_rule t cells own c place one sized legal))

  go : (o : Option Cell) → slice_get cells own ≡ o →
      None ≡ option_and_then (λ c. target_of t.legalizer (query_of_cell t cells own c) (option_map spot_of c.working)) o
  go None there = refl
  go (Some c) there =
      by c c.working (sized_there t.frame cells own c all there)
      (is_in_place (member_of c) (slice_get-map member_of cells own ∙ ap (option_map member_of) there))

-- cells with marks stay legal while a cell is tidied
pub marked_through : (t : TeamRules) (own moved count : ℕ) (old new : List Cell) (marks : List Bool) → TidyKeepsLegal → All (IsSizedCell t.frame) old →
    tidy_cell t.legalizer t.frame t.number t.padding (Going (map member_of old) moved) own ≡ Going (map member_of new) count →
    AreMarked t.frame t.number t.padding old marks → AreMarked t.frame t.number t.padding new marks
marked_through t own moved count old new marks keeps all is are other marked =
    keeps t.legalizer t.frame t.number t.padding (map member_of old) (map member_of new) moved count own other sized is (are other marked)
  where
    sized : All (λ m. IsSized t.frame (macro_of t.frame m.mac)) (map member_of old)
    sized = All-map (λ m. IsSized t.frame (macro_of t.frame m.mac)) member_of old (λ i d within. (all i d within).sized)

-- ---- a placed cell that breaks no rule is legal

pub is_placed_by : (t : TeamRules) (cells : List Cell) (own : ℕ) (broken : Option Broken) → All (IsSizedCell t.frame) cells → false ≡ is_none (working_at cells own)
    → broken ≡ broken_where t cells own → is_none broken ≡ true → IsLegalCell t.frame t.number t.padding (map member_of cells) own
is_placed_by t cells own broken sized placed is none = go (working_at cells own) refl placed where
  no_broken : (o : Option Broken) → is_none o ≡ true → o ≡ None
  no_broken None e = refl
  no_broken (Some b) e = absurd cc

  go : (o : Option Place) → working_at cells own ≡ o → false ≡ is_none o → IsLegalCell t.frame t.number t.padding (map member_of cells) own
  go None at e = absurd cc
  go (Some p) at e = is_placed_where t cells own p sized at (sym is ∙ no_broken broken none)

-- the id of the team's cell at that position
pub id_is : (cells : List Cell) (number own : ℕ) (id : CellId) → Some id ≡ id_in cells number own → id ≡ id_of number own
id_is cells number own id is = go (slice_get cells own) is where
  go : (o : Option Cell) → Some id ≡ option_map (λ (c : Cell). id_of number own) o → id ≡ id_of number own
  go None e = absurd cc
  go (Some c) e = some_one e

-- ---- a cell that overlaps no other is legal if it breaks no other rule

no_rule_left : (alone : Option Rule) → is_none alone ≡ true → alone ≡ None
no_rule_left None e = refl
no_rule_left (Some r) e = absurd cc

pub apart_is_legal : (l : Legalizer) (p : Placing) (padding : ℕ) (id : CellId) (place : Place) (alone : Option Rule) → VerdictIsUnique →
    All (IsSizedCell p.frame) (cells_of p.cells id.team) → working_at (cells_of p.cells id.team) id.own ≡ Some place → IsBrokenFrameRule p id place alone →
    is_none alone ≡ true → OverlapsNoCell p padding id → IsLegalCell p.frame id.team padding (map member_of (cells_of p.cells id.team)) id.own
apart_is_legal l p padding id place alone one sized at verdict none apart =
    let t = team_rules l p.frame id.team padding in
    let cells = cells_of p.cells id.team in
    let held = subst (λ (o : Option Rule). IsBrokenFrameRule p id place o) (no_rule_left alone none) verdict in
    let unbroken = broken_there l p padding id place None one sized (apart place at held) in
    is_placed_where t cells id.own place sized at
    (ap (λ (o : Option Place). option_and_then (λ (q : Place). broken_at t cells id.own q) o) at ∙ sym unbroken)
