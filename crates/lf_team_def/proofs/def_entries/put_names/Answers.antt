use Rattle.std.proofs.Common.{◌++◌, ap, refl, subst, ◌∙◌}
use Rattle.std.specs.List.{flat_map}
use Rattle.lf_cells.specs.Cells.{cell_at}
use Rattle.lf_team_def.specs.Entries.{spaced_name}
use Rattle.lf_team_def.proofs.Lines.{put_all}
use Rattle.lf_team_def.proofs.ByIds.{names_by_ids}
use Rattle.lf_team_def.proofs.def_entries.put_names.Goals as goal

pub returns : goal.returns
returns g c = λ start before had.
    subst (g.O.Output.took start c.loop-id.out)
    (put_all (λ id. spaced_name (cell_at c.args.cells.now id)) before _ c.cells_of-id-items.result.now c.loop-id.id-index
    c.loop-id-test.false refl
    ∙ ap (λ ids. before ++ flat_map (λ id. spaced_name (cell_at c.args.cells.now id)) ids) c.cells_of-id-items.ensures
    ∙ ap (λ l. before ++ l) (names_by_ids c.args.cells.now c.args.team))
    (c.loop-id.invariant start before had)
