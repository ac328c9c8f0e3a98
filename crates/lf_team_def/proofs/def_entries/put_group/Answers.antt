use Rattle.std.proofs.Common.{[], ◌∷◌, ◌++◌, map, ap, refl, subst}
use Rattle.std.specs.Prelude.{codes}
use Rattle.lf_lex.specs.Splices.{spaced}
use Rattle.lf_cells.specs.Cells.{cells_of}
use Rattle.lf_team_def.proofs.Lines.{put_in_parts}
use Rattle.lf_team_def.proofs.def_entries.put_group.Goals as goal

pub returns : goal.returns
returns g c = λ start before had.
    let named = (before ++ codes "-") ++ spaced (c.as_bytes.result.now ∷ []) in
    let bound = named ++ spaced (map (λ x. x.name) (cells_of c.args.cells.now c.args.team)) in
    let whole = bound ++ spaced (codes "+" ∷ codes "REGION" ∷ c.as_bytes-2.result.now ∷ codes ";" ∷ []) in
    subst (g.O.Output.took start c.put-2.new.self)
    (put_in_parts before (before ++ codes "-") named bound whole (whole ++ 10 ∷ []) (codes "-") c.args.fence.now.name
    (map (λ x. x.name) (cells_of c.args.cells.now c.args.team)) (codes "+" ∷ codes "REGION" ∷ c.args.fence.now.name ∷ codes ";" ∷ [])
    refl
    (ap (λ n. (before ++ codes "-") ++ spaced (n ∷ [])) c.as_bytes.ensures)
    refl
    (ap (λ n. bound ++ spaced (codes "+" ∷ codes "REGION" ∷ n ∷ codes ";" ∷ [])) c.as_bytes-2.ensures)
    refl)
    (c.put-2.ensures start whole (c.put_spaced-2.ensures start bound (c.put_names.ensures start named (c.put_spaced.ensures start (before ++ codes "-")
    (c.put.ensures start before had)))))
