use Rattle.std.proofs.Common.{◌≡◌, ◌<◌, ℕ, None}
use Rattle.lf_rules.specs.Legalizer.{Legalizer}
use Rattle.lf_cells.specs.Cells.{cells_of}
use Rattle.lf_floor_model.specs.Teams.{team_rules}
use Rattle.lf_floor_model.specs.Changes.{broken_where}
use Rattle.lf_floor_verbs.proofs.team_legality.first_broken.Given as goal

-- the cells so far break no rule
abbrev pub invariant-loop-id : goal.invariant-loop-id
invariant-loop-id l =
    (lz : Legalizer) (i : ℕ) → i < l.id-index →
    None ≡ broken_where (team_rules lz l.placement.frame l.number l.padding.sites) (cells_of l.placement.cells l.number) i
