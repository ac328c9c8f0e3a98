use Rattle.std.proofs.Common.{[], ◌∷◌, ◌++◌, map, length, sym, ap, refl, subst, ◌∙◌}
use Rattle.std.specs.Prelude.{codes, decimal}
use Rattle.std.proofs.lemmas.List.{length-map}
use Rattle.lf_cells.specs.Cells.{cells_of}
use Rattle.lf_cells.proofs.TeamIds.{ids_long}
use Rattle.lf_team_def.specs.TeamText.{words_line, team_component_words}
use Rattle.lf_team_def.proofs.Lines.{put_section}
use Rattle.lf_team_def.proofs.team_text.put_cells.Goals as goal

pub returns : goal.returns
returns g c =
    let lines = map (team_component_words c.args.frame.now) (cells_of c.args.cells.now c.args.team) in
    λ start before had.
    subst (g.O.Output.took start c.put_end.new.out)
    (put_section before _ _ _
    (codes "COMPONENTS" ∷ decimal (length lines) ∷ codes ";" ∷ []) (codes "END" ∷ codes "COMPONENTS" ∷ []) lines
    (ap (λ n. before ++ words_line (codes "COMPONENTS" ∷ decimal n ∷ codes ";" ∷ []))
    (ids_long c.args.team (cells_of c.args.cells.now c.args.team) c.cells_of.result.now c.cells_of.ensures ∙ sym (length-map (cells_of c.args.cells.now c.args.team) (team_component_words c.args.frame.now))))
    refl refl)
    (c.put_end.ensures start _ (c.put_components.ensures start _ (c.put_begin.ensures start before had)))
