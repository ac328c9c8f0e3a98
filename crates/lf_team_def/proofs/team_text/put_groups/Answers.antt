use Rattle.std.proofs.Common.{[], ◌∷◌, ◌≡◌, ℕ, List, length, sym, ap, subst, refl, rules, ◌∙◌}
use Rattle.std.specs.Prelude.{◌==◌, codes, decimal, false, Some}
use Rattle.std.specs.List.{flat_map}
use Rattle.std.proofs.lemmas.Option.{slice_get_read}
use Rattle.lf_floorplan.specs.declared.parts.Team.{Team}
use Rattle.lf_cells.specs.declared.cell.Cell.{Cell}
use Rattle.lf_cells.specs.Cells.{cells_of}
use Rattle.lf_cells.proofs.TeamIds.{ids_long}
use Rattle.lf_io.specs.Output.{PutsText}
use Rattle.lf_team_def.specs.TeamText.{words_line, group_lines, team_group_words, section_lines}
use Rattle.lf_team_def.proofs.Lines.{put_three}
use Rattle.lf_team_def.proofs.team_text.put_groups.Goals as goal

-- A team with cells has a group.
has_group : (fence : Team) (cells : List Cell) (n : ℕ) → n ≡ length cells → (n == 0) ≡ false
    → group_lines (Some fence) cells ≡ section_lines (codes "GROUPS") (team_group_words fence cells ∷ [])
has_group fence [] n long some = let none : (0 == 0) ≡ false = subst (λ (k : ℕ). (k == 0) ≡ false) long some in absurd cc
has_group fence (c ∷ cs) n long some = refl

pub returns-else-is_empty : goal.returns-else-is_empty
returns-else-is_empty g c =
    let there = slice_get_read c.args.frame.now.teams _ c.args.team c.in-Some.fence.now refl (search rules) (search rules) in
    let lines = ap (λ o. group_lines o (cells_of c.args.cells.now c.args.team)) there
    ∙ has_group c.in-Some.fence.now (cells_of c.args.cells.now c.args.team) (length c.cells_of.result.now)
    (ids_long c.args.team (cells_of c.args.cells.now c.args.team) c.cells_of.result.now c.cells_of.ensures) (sym c.is_empty.ensures ∙ c.if-is_empty.false) in
    subst (λ ls. PutsText g.O.Output.took c.args.out.now c.put_end.new.out (flat_map words_line ls)) (sym lines)
    (λ start before had. subst (g.O.Output.took start c.put_end.new.out)
    (put_three before _ _ _
    (codes "GROUPS" ∷ decimal 1 ∷ codes ";" ∷ []) (team_group_words c.in-Some.fence.now (cells_of c.args.cells.now c.args.team)) (codes "END" ∷ codes "GROUPS" ∷ [])
    refl refl refl)
    (c.put_end.ensures start _ (c.put_group.ensures start _ (c.put_begin.ensures start before had))))
