use Rattle.std.proofs.Common.{◌≡◌, ◌∙◌, ap, sym, List, Option}
use Rattle.std.specs.Prelude.{count_by, is_some}
use Rattle.lf_rules.specs.declared.rule.Broken.{Broken}
use Rattle.lf_task_files.proofs.CommittedVerdicts.{legal_list}
use Rattle.lf_task_files.proofs.committed_legality.are_legal.Goals as goal

pub returns : goal.returns
returns c =
    let l = c.legalizer_exists.ensures in
    let verdicts = c.in_ok-verdicts.verdicts.items in
    let law = legal_list l c.args.frame.now c.args.cells.now verdicts c.requires.listed (rw c.none.ensures at (c.in_ok-verdicts.ensures.each l)) in
    let illegal : c.illegal_in.result ≡ count_by is_some verdicts =
    c.illegal_in.ensures ∙ ap (λ (vs : List (Option Broken)). count_by is_some vs) c.deref.ensures.value in (
      λ yes. let both = c.are_none.ensures.0 yes in law.0 (sym c.unplaced_in.ensures ∙ both.0, sym illegal ∙ both.1),
      λ legal. let both = law.1 legal in c.are_none.ensures.1 (c.unplaced_in.ensures ∙ both.0, illegal ∙ both.1),
    )
