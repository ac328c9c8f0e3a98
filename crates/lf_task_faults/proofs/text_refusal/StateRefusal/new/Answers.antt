use Rattle.std.proofs.Common.{◌≡◌, ◌-◌, Some, refl, ◌∙◌, rules}
use Rattle.lf_task_faults.specs.Refusals.{line_front}
use Rattle.lf_task_faults.proofs.Ends.{shown-in-end}
use Rattle.lf_task_faults.proofs.text_refusal.StateRefusal.new.Goals as goal

pub returns : goal.returns
returns c = λ text end.
    let r = c.args.refused.now in
    let is : c.in_ok-shown.shown.items ≡ line_front r.end.items (Some (r.fault.line - r.lines)) = search rules in
    record { number = refl; line = refl; shown = is ∙ shown-in-end text r end }
