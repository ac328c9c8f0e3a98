-- When the cells of a team are at team-legal places.
use Rattle.std.proofs.Common.{◌≡◌, ◌≢◌, ℕ, zero, suc, ◌+◌, ◌<◌, List, [], ◌∷◌, not, cond, eqb, length, map, filter, Option, Some, None, refl, ap, sym, ◌∙◌, subst, arith}
use Rattle.std.specs.Prelude.{All, slice_get, bytes_eq, option_map, option_and_then, MatchOption}
use Rattle.std.specs.List.{position_from}
use Rattle.std.proofs.lemmas.Bool.{eq-eqb}
use Rattle.std.proofs.lemmas.Iterator.Adapters.{position_from-zero}
use Rattle.std.proofs.lemmas.List.Quantifiers.{position-Some}
use Rattle.std.proofs.lemmas.Option.{slice_get-map, slice_get_within, get_or_from_slice_get}
use Rattle.lf_floorplan.specs.declared.frame.Frame.{Frame}
use Rattle.lf_floorplan.specs.declared.place.Place.{Place}
use Rattle.lf_floorplan.specs.Boxes.{IsSized, macro_of}
use Rattle.lf_rules.specs.declared.rule.Broken.{Broken}
use Rattle.lf_units.specs.declared.placed.Placed.{Placed}
use Rattle.lf_rules.specs.Choice.{SpotPlace, PlacementQuery, spot_of, candidate_at, IsLegalAt, LegalInRange}
use Rattle.lf_rules.specs.Legalizer.{IsVerdict}
use Rattle.lf_rules.specs.Team.{Member, with_box, boxes_from, boxes_beside, query_from, IsLegalCell}
use Rattle.lf_proto.proofs.Places.{place_at-some}
use Rattle.lf_cells.specs.declared.cell.Cell.{Cell}
use Rattle.lf_floor_model.specs.Teams.{TeamRules, broken_at, query_of_cell}
use Rattle.lf_legalize.specs.Members.{IsSizedCell, member_of}
use Rattle.lf_cells.specs.Cells.{cell_named, moved, working_at}
use Rattle.lf_floor_model.specs.Queries.{place_of_spot}
use Rattle.lf_floor_model.specs.Changes.{broken_where}
use Rattle.lf_floor_model.proofs.Forms.{candidate_of_cell, broken_by}

-- ---- cells by their position

pub some_one : {X : Type 0} {a b : X} → Some a ≡ Some b → a ≡ b
some_one {X} {a} {b} e = ap (λ (o : Option X). or_else o) e where
  or_else : Option X → X
  or_else None = a
  or_else (Some x) = x

pub none_some : {X : Type 0} {x : X} → None ≡ Some x → ⊥
none_some e = cc

-- a member at that position is the cell there
pub member_there : (cells : List Cell) (own : ℕ) (m : Member) → slice_get (map member_of cells) own ≡ Some m
    → (c : Cell) × (slice_get cells own ≡ Some c) × (member_of c ≡ m)
member_there cells own m there = go (slice_get cells own) refl (sym (slice_get-map member_of cells own) ∙ there) where
  go : (o : Option Cell) → slice_get cells own ≡ o → option_map member_of o ≡ Some m → (c : Cell) × (slice_get cells own ≡ Some c) × (member_of c ≡ m)
  go None is e = absurd cc
  go (Some c) is e = (c, is, some_one e)

pub member_is : (cells : List Cell) (own : ℕ) (c : Cell) → slice_get cells own ≡ Some c → slice_get (map member_of cells) own ≡ Some (member_of c)
member_is cells own c there = slice_get-map member_of cells own ∙ ap (λ (o : Option Cell). option_map member_of o) there

-- a placed cell at that position
pub working_is : (cells : List Cell) (own : ℕ) (place : Place) → working_at cells own ≡ Some place
    → (c : Cell) × (slice_get cells own ≡ Some c) × (c.working ≡ Some place)
working_is cells own place e = go (slice_get cells own) refl e where
  go : (o : Option Cell) → slice_get cells own ≡ o → option_and_then (λ (c : Cell). c.working) o ≡ Some place
      → (c : Cell) × (slice_get cells own ≡ Some c) × (c.working ≡ Some place)
  go None is e = absurd cc
  go (Some c) is e = (c, is, e)

abbrev no_cell : Cell
no_cell = record { name = []; mac = 0; working = None; committed = None }

pub there_within : (cells : List Cell) (own : ℕ) → own < length cells → (c : Cell) × (slice_get cells own ≡ Some c)
there_within [] own within = absurd (omega (arith, within))
there_within (c ∷ cs) zero within = (c, refl)
there_within (c ∷ cs) (suc own) within = there_within cs own (omega (arith, within))

-- the cell of a name exists
pub named_there : (name : List ℕ) (cells : List Cell) (own : ℕ) → cell_named name cells ≡ Some own → (c : Cell) × (slice_get cells own ≡ Some c)
named_there name cells own named = there_within cells own (position-Some (λ (c : Cell). bytes_eq c.name name) cells own no_cell named).0

from_named : (name : List ℕ) (i : ℕ) (cells : List Cell)
    → position_from (λ (c : Cell). bytes_eq c.name name) i cells ≡ position_from (λ m. bytes_eq m name) i (map (λ (c : Cell). c.name) cells)
from_named name i [] = refl
from_named name i (c ∷ cs) = ap (λ (o : Option ℕ). cond (bytes_eq c.name name) (Some i) o) (from_named name (i + 1) cs)

-- lists with the same names have the cell of a name at the same position
pub named_alike : (name : List ℕ) (old new : List Cell) → map (λ c. c.name) new ≡ map (λ c. c.name) old → cell_named name new ≡ cell_named name old
named_alike name old new same =
    position_from-zero (λ (c : Cell). bytes_eq c.name name) new
    ∙ from_named name 0 new
    ∙ ap (λ (names : List (List ℕ)). position_from (λ m. bytes_eq m name) 0 names) same
    ∙ sym (from_named name 0 old)
    ∙ sym (position_from-zero (λ (c : Cell). bytes_eq c.name name) old)

-- ---- a place in integers as a place of the program

-- a legal place is a place of the program
pub place_is : LegalInRange → (c : PlacementQuery) (p : SpotPlace) → IsSized c.frame c.mac → IsLegalAt c p → (q : Place) × (place_of_spot p ≡ Some q) × (spot_of q ≡ p)
place_is in_range c p sized legal =
    let fits = in_range (candidate_at c p) sized legal in
    let q : Place = record { x = p.x; y = p.y; orient = p.orient; x_in_def = fits.0.above; y_in_def = fits.1.above } in
    (q, place_at-some q, refl)

-- ---- cells at legal places

pub sized_at : (f : Frame) (cells : List Cell) (own : ℕ) (c : Cell) → All (λ c. IsSizedCell f c) cells → slice_get cells own ≡ Some c
    → IsSized f (macro_of f c.mac)
sized_at f cells own c all there =
    subst (λ (d : Cell). IsSized f (macro_of f d.mac)) (get_or_from_slice_get cells own c c there) (all own c (slice_get_within cells own c there)).sized

pub is_in_place : (t : TeamRules) (cells : List Cell) (own : ℕ) (c : Cell) (place : Place) → slice_get cells own ≡ Some c → c.working ≡ Some place
    → IsLegalAt (query_of_cell t cells own c) (spot_of place) → IsLegalCell t.frame t.number t.padding (map member_of cells) own
is_in_place t cells own c place there placed legal m here =
    let same : member_of c ≡ m = some_one (sym (member_is cells own c there) ∙ here) in
    let P : Option Place → Type 0 = λ o. MatchOption (option_map spot_of o) ⊥ (λ p. IsLegalAt (query_of_cell t cells own c) p) in
    subst (λ (x : Member). MatchOption x.place ⊥ (λ p. IsLegalAt (query_from t.frame t.number t.padding (map member_of cells) own x.mac) p)) same (subst P (sym placed) legal)

-- a place that breaks no rule is legal
pub unbroken : (t : TeamRules) (cells : List Cell) (own : ℕ) (c : Cell) (place : Place) → slice_get cells own ≡ Some c → IsSized t.frame (macro_of t.frame c.mac)
    → broken_at t cells own place ≡ None → IsLegalAt (query_of_cell t cells own c) (spot_of place)
unbroken t cells own c place there sized none =
    let candidate_cell = candidate_of_cell t cells own c place in
    let verdict : t.legalizer.first_broken candidate_cell ≡ None = sym (ap (λ (o : Option Cell). broken_by o t cells own place) there) ∙ none in
    subst (λ (o : Option Broken). IsVerdict candidate_cell o) verdict (t.legalizer.finds_first_broken candidate_cell sized)

-- a placed cell that breaks no rule at its working place
pub is_placed_where : (t : TeamRules) (cells : List Cell) (own : ℕ) (place : Place) → All (λ c. IsSizedCell t.frame c) cells → working_at cells own ≡ Some place
    → broken_where t cells own ≡ None
    → IsLegalCell t.frame t.number t.padding (map member_of cells) own
is_placed_where t cells own place sized placed none =
    let found = working_is cells own place placed in
    let here : broken_at t cells own place ≡ None = sym (ap (λ (o : Option Place). option_and_then (λ (p : Place). broken_at t cells own p) o) placed) ∙ none in
    is_in_place t cells own found.0 place found.1 found.2 (unbroken t cells own found.0 place found.1 (sized_at t.frame cells own found.0 sized found.1) here)

-- ---- one cell that is moved

pub moved_here : (cells : List Cell) (own : ℕ) (place : Option Place) (c : Cell) → slice_get cells own ≡ Some c
    → slice_get (moved cells own place) own ≡ Some (record c { working = place })
moved_here [] own place c there = absurd cc
moved_here (d ∷ ds) zero place c there = ap (λ (x : Cell). Some (record x { working = place })) (some_one there)
moved_here (d ∷ ds) (suc own) place c there = moved_here ds own place c there

pub moved_there : (cells : List Cell) (own other : ℕ) (place : Option Place) → other ≢ own → slice_get (moved cells own place) other ≡ slice_get cells other
moved_there [] own other place differ = refl
moved_there (d ∷ ds) zero zero place differ = absurd (differ refl)
moved_there (d ∷ ds) zero (suc other) place differ = refl
moved_there (d ∷ ds) (suc own) zero place differ = refl
moved_there (d ∷ ds) (suc own) (suc other) place differ = moved_there ds own other place (λ e. differ (ap suc e))

abbrev beside : ℕ → List Placed → List Placed
beside own boxes = filter (λ box. not (eqb box.own own)) boxes

own_dropped : (f : Frame) (own mac : ℕ) (place : Option SpotPlace) (rest : List Placed) → beside own (with_box f own mac place rest) ≡ beside own rest
own_dropped f own mac None rest = refl
own_dropped f own mac (Some p) rest = rw (eq-eqb own own refl) refl

kept_beside : (f : Frame) (own n mac : ℕ) (place : Option SpotPlace) (a b : List Placed) → beside own a ≡ beside own b
    → beside own (with_box f n mac place a) ≡ beside own (with_box f n mac place b)
kept_beside f own n mac None a b same = same
kept_beside f own n mac (Some p) a b same = rw same refl

beside_from : (f : Frame) (cells : List Cell) (n k : ℕ) (place : Option Place)
    → beside (n + k) (boxes_from f n (map member_of (moved cells k place))) ≡ beside (n + k) (boxes_from f n (map member_of cells))
beside_from f [] n k place = refl
beside_from f (c ∷ cs) n zero place =
    let at : n + 0 ≡ n = omega arith in
    let rest = boxes_from f (n + 1) (map member_of cs) in
    rw at (own_dropped f n c.mac (option_map spot_of place) rest ∙ sym (own_dropped f n c.mac (option_map spot_of c.working) rest))
beside_from f (c ∷ cs) n (suc k) place =
    let at : n + suc k ≡ n + 1 + k = omega arith in
    rw at (kept_beside f (n + 1 + k) n c.mac (option_map spot_of c.working) (boxes_from f (n + 1) (map member_of (moved cs k place))) (boxes_from f (n + 1) (map member_of cs)) (beside_from f cs (n + 1) k place))

-- the boxes of the other cells do not depend on the place of a cell
pub beside_moved : (f : Frame) (cells : List Cell) (own : ℕ) (place : Option Place)
    → boxes_beside f (map member_of (moved cells own place)) own ≡ boxes_beside f (map member_of cells) own
beside_moved f cells own place =
    let at : 0 + own ≡ own = omega arith in
    rw at at (beside_from f cells 0 own place)

-- a cell that is moved to a legal place is legal there
pub is_placed_moved : (t : TeamRules) (cells : List Cell) (own : ℕ) (c : Cell) (place : Place) → slice_get cells own ≡ Some c
    → IsLegalAt (query_of_cell t cells own c) (spot_of place)
    → IsLegalCell t.frame t.number t.padding (map member_of (moved cells own (Some place))) own
is_placed_moved t cells own c place there legal =
    let P : List Placed → Type 0 = λ others. IsLegalAt (record { frame = t.frame; team = t.number; padding = t.padding; mac = macro_of t.frame c.mac; others = others }) (spot_of place) in
    is_in_place t (moved cells own (Some place)) own (record c { working = Some place }) place (moved_here cells own (Some place) c there) refl
    (subst P (sym (beside_moved t.frame cells own (Some place))) legal)
