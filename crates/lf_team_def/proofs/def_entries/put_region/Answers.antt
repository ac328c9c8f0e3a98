use Rattle.std.proofs.Common.{[], ◌∷◌, ◌++◌, ap, refl, subst}
use Rattle.std.specs.Prelude.{codes}
use Rattle.std.specs.List.{flat_map}
use Rattle.lf_lex.specs.Splices.{spaced}
use Rattle.lf_team_def.specs.TeamText.{team_rect_words}
use Rattle.lf_team_def.proofs.Lines.{put_in_parts}
use Rattle.lf_team_def.proofs.def_entries.put_region.Goals as goal

pub returns : goal.returns
returns g c = λ start before had.
    let named = (before ++ codes "-") ++ spaced (c.as_bytes.result.now ∷ []) in
    let bounded = named ++ spaced (flat_map team_rect_words c.as_slice.result.now) in
    let typed = bounded ++ spaced (codes "+" ∷ codes "TYPE" ∷ codes "FENCE" ∷ codes ";" ∷ []) in
    subst (g.O.Output.took start c.put-2.new.self)
    (put_in_parts before (before ++ codes "-") named bounded typed (typed ++ 10 ∷ []) (codes "-") c.args.fence.now.name
    (flat_map team_rect_words c.args.fence.now.rects) (codes "+" ∷ codes "TYPE" ∷ codes "FENCE" ∷ codes ";" ∷ [])
    refl
    (ap (λ n. (before ++ codes "-") ++ spaced (n ∷ [])) c.as_bytes.ensures)
    (ap (λ rs. named ++ spaced (flat_map team_rect_words rs)) c.as_slice.ensures)
    refl refl)
    (c.put-2.ensures start typed (c.put_spaced-2.ensures start bounded (c.put_rects.ensures start named (c.put_spaced.ensures start (before ++ codes "-")
    (c.put.ensures start before had)))))
