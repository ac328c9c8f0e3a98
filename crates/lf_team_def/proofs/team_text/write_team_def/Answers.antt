use Rattle.std.proofs.Common.{[], ◌∷◌, map, refl, subst}
use Rattle.std.specs.Prelude.{codes, slice_get}
use Rattle.lf_cells.specs.Cells.{cells_of}
use Rattle.lf_team_def.specs.TeamText.{team_component_words, group_lines, header_lines, region_lines, section_lines, team_text}
use Rattle.lf_team_def.proofs.Lines.{put_whole}
use Rattle.lf_team_def.proofs.team_text.write_team_def.Goals as goal

pub returns : goal.returns
unfolding team_text
returns g c = λ start before had.
    subst (g.O.Output.took start c.put_end.new.out)
    (put_whole before _ _ _ _ _
    (header_lines c.args.frame.now.header) (region_lines (slice_get c.args.frame.now.teams c.args.team))
    (section_lines (codes "COMPONENTS") (map (team_component_words c.args.frame.now) (cells_of c.args.cells.now c.args.team)))
    (group_lines (slice_get c.args.frame.now.teams c.args.team) (cells_of c.args.cells.now c.args.team)) (codes "END" ∷ codes "DESIGN" ∷ [])
    refl refl refl refl refl)
    (c.put_end.ensures start _ (c.put_groups.ensures start _ (c.put_cells.ensures start _ (c.put_regions.ensures start _ (c.put_header.ensures start before had)))))
