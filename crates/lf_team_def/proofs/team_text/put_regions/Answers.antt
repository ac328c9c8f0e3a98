use Rattle.std.proofs.Common.{[], ◌∷◌, sym, subst, refl, rules}
use Rattle.std.specs.Prelude.{codes, decimal}
use Rattle.std.specs.List.{flat_map}
use Rattle.std.proofs.lemmas.Option.{slice_get_read}
use Rattle.lf_io.specs.Output.{PutsText}
use Rattle.lf_team_def.specs.TeamText.{words_line, region_lines, team_region_words}
use Rattle.lf_team_def.proofs.Lines.{put_three}
use Rattle.lf_team_def.proofs.team_text.put_regions.Goals as goal

pub returns : goal.returns
returns g c =
    let there = slice_get_read c.args.frame.now.teams _ c.args.team c.in-Some.fence.now refl (search rules) (search rules) in
    subst (λ o. PutsText g.O.Output.took c.args.out.now c.put_end.new.out (flat_map words_line (region_lines o))) (sym there)
    (λ start before had. subst (g.O.Output.took start c.put_end.new.out)
    (put_three before _ _ _ (codes "REGIONS" ∷ decimal 1 ∷ codes ";" ∷ []) (team_region_words c.in-Some.fence.now) (codes "END" ∷ codes "REGIONS" ∷ []) refl refl refl)
    (c.put_end.ensures start _ (c.put_region.ensures start _ (c.put_begin.ensures start before had))))
