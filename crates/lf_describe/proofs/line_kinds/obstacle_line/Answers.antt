use Rattle.std.proofs.Common.{◌≡◌, ◌∙◌, ℕ, List, Option, Some, None, ap, sym}
use Rattle.std.specs.Prelude.{option_map, slice_get}
use Rattle.lf_describe.specs.Description.{obstacle_data}
use Rattle.lf_describe.proofs.Numbered.{line_at, no_line_at}
use Rattle.lf_describe.proofs.line_kinds.obstacle_line.Goals as goal

pub returns-in_default : goal.returns-in_default
returns-in_default c =
    let rects = c.args.frame.now.obstacles in
    let none : slice_get rects c.args.number ≡ None = sym c.obstacle_at.ensures ∙ ap (option_map (λ r. r.now)) c.in_default.is in
    sym (no_line_at _ c.args.number rects none)

pub returns : goal.returns
returns c =
    let rects = c.args.frame.now.obstacles in
    let rect = c.in-Some.obstacle.now in
    let there : slice_get rects c.args.number ≡ Some rect = sym c.obstacle_at.ensures ∙ ap (option_map (λ r. r.now)) c.in-Some.is in
    ap Some (c.in_ok-value.ensures ∙ ap (λ (n : Option (List ℕ)). obstacle_data n rect) c.name_at.ensures) ∙ sym (line_at _ c.args.number rects rect there)
