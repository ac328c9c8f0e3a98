-- The tests of a cell at a place, in the words of the rules.
use Rattle.std.proofs.Common.{◌≡◌, ◌<◌, ℕ, zero, suc, List, [], ◌∷◌, length, get_or, set, Option, Some, None, refl, ap, sym, subst, ◌∙◌, arith}
use Rattle.std.specs.Prelude.{All, MatchOption, slice_get}
use Rattle.std.proofs.lemmas.List.{get_or-set_same}
use Rattle.std.proofs.lemmas.Option.{get_or_from_slice_get, slice_get_within}
use Rattle.lf_floorplan.specs.declared.frame.Frame.{Frame}
use Rattle.lf_floorplan.specs.declared.place.Place.{Place}
use Rattle.lf_rules.specs.declared.rule.Broken.{Broken}
use Rattle.lf_rules.specs.declared.rule.Rule.{Rule}
use Rattle.lf_rules.specs.Legalizer.{IsVerdict, Legalizer, VerdictIsUnique}
use Rattle.lf_cells.specs.declared.cell.Cell.{Cell}
use Rattle.lf_cells.specs.declared.cell.CellId.{CellId}
use Rattle.lf_cells.specs.Cells.{cell_at, cells_of, working_at}
use Rattle.lf_legalize.specs.Members.{IsSizedCell}
use Rattle.lf_placement.specs.Placements.{IsBrokenFrameRule, IsBrokenAt, Placing, SameButPlaces}
use Rattle.lf_placement.proofs.Changing.{macs_same, sized_in}
use Rattle.lf_placement.proofs.FirstBroken.{alone_lasts, broken_alone}
use Rattle.lf_floor_model.specs.Teams.{TeamRules, broken_at, team_rules}
use Rattle.lf_floor_model.proofs.Forms.{broken_by, candidate_of_cell}
use Rattle.lf_floor_verbs.specs.Tables.{OnlyMovesTeam}

pub sized_there : (f : Frame) (cells : List Cell) (own : ℕ) (c : Cell) → All (IsSizedCell f) cells → slice_get cells own ≡ Some c → IsSizedCell f c
sized_there f cells own c all there =
    subst (λ (x : Cell). IsSizedCell f x) (get_or_from_slice_get cells own c c there) (all own c (slice_get_within cells own c there))

-- the unique verdict on a cell is the legalizer's
the_verdict : (t : TeamRules) (cells : List Cell) (own : ℕ) (place : Place) (broken : Option Broken) (o : Option Cell) → VerdictIsUnique
    → All (IsSizedCell t.frame) cells → slice_get cells own ≡ o
    → MatchOption o (broken ≡ None) (λ c. IsVerdict (candidate_of_cell t cells own c place) broken) → broken ≡ broken_by o t cells own place
the_verdict t cells own place broken None one sized there none = none
the_verdict t cells own place broken (Some c) one sized there verdict =
    one (candidate_of_cell t cells own c place) broken (t.legalizer.first_broken (candidate_of_cell t cells own c place)) verdict
    (t.legalizer.finds_first_broken (candidate_of_cell t cells own c place) (sized_there t.frame cells own c sized there).sized)

pub broken_there : (l : Legalizer) (p : Placing) (padding : ℕ) (id : CellId) (place : Place) (broken : Option Broken) → VerdictIsUnique
    → All (IsSizedCell p.frame) (cells_of p.cells id.team) → IsBrokenAt p padding id place broken
    → broken ≡ broken_at (team_rules l p.frame id.team padding) (cells_of p.cells id.team) id.own place
broken_there l p padding id place broken one sized is =
    the_verdict (team_rules l p.frame id.team padding) (cells_of p.cells id.team) id.own place broken (cell_at p.cells id) one sized refl is

-- ---- the rules except overlap, which do not depend on other cells

abbrev pub first_broken : Rule → Option Broken
first_broken rule = Some record { rule = rule; other = None }

pub alone_first : (p : Placing) (padding : ℕ) (id : CellId) (place : Place) (rule : Rule) (alone : Option Rule) → alone ≡ Some rule → IsBrokenFrameRule p id place alone
    → IsBrokenAt p padding id place (first_broken rule)
alone_first p padding id place rule alone is broken =
    broken_alone p padding id place rule (subst (λ (a : Option Rule). IsBrokenFrameRule p id place a) is broken)

pub alone_moved : (k : ℕ) (old new : Placing) (id : CellId) (place : Place) (alone : Option Rule) → id.team ≡ k → OnlyMovesTeam k old new
    → IsBrokenFrameRule old id place alone → IsBrokenFrameRule new id place alone
alone_moved k old new id place alone team only is =
    alone_lasts old new id place alone only.ground.frame
    (macs_same (cells_of old.cells id.team) (cells_of new.cells id.team)
    (subst (λ (n : ℕ). SameButPlaces (cells_of old.cells n) (cells_of new.cells n)) (sym team) only.same)) is

row_there : (rows : List (List Cell)) (k own : ℕ) (place : Place) → working_at (get_or rows k []) own ≡ Some place → k < length rows
row_there [] zero own place is = absurd cc
row_there [] (suc k) own place is = absurd cc
row_there (r ∷ rows) zero own place is = omega arith
row_there (r ∷ rows) (suc k) own place is = let h = row_there rows k own place is in omega (arith, h)

-- such a rule is the first that the cell breaks, wherever the other cells of the team are
pub alone_anywhere : (l : Legalizer) (p : Placing) (padding : ℕ) (id : CellId) (place was : Place) (rule : Rule) (now : List Cell) → VerdictIsUnique
    → All (IsSizedCell p.frame) (cells_of p.cells id.team) → working_at (cells_of p.cells id.team) id.own ≡ Some was
    → SameButPlaces (cells_of p.cells id.team) now → IsBrokenFrameRule p id place (Some rule)
    → first_broken rule ≡ broken_at (team_rules l p.frame id.team padding) now id.own place
alone_anywhere l p padding id place was rule now one sized original_place same alone =
    let old = cells_of p.cells id.team in
    let q : Placing = record p { cells = record p.cells { cells = set p.cells.cells id.team now } } in
    let within : id.team < length p.cells.cells = row_there p.cells.cells id.team id.own was original_place in
    let are : cells_of q.cells id.team ≡ now = get_or-set_same p.cells.cells id.team now [] within in
    let macros = macs_same old now same in
    let last = alone_lasts p q id place (Some rule) refl (ap (λ (cs : List Cell). Rattle.std.proofs.Common.map (λ (c : Cell). c.mac) cs) are ∙ macros) alone in
    broken_there l q padding id place (first_broken rule) one (rw are (sized_in p.frame old now macros sized)) (broken_alone q padding id place rule last)
    ∙ ap (λ (cs : List Cell). broken_at (team_rules l p.frame id.team padding) cs id.own place) are
