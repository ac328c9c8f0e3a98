use Rattle.std.proofs.Common.{◌≡◌, ap, arith}
use Rattle.lf_lex.specs.declared.fault.FaultNumber.TheVariants.{SecondName, TwoFences}
use Rattle.lf_frame.specs.ClaimRefusals.{HasEarlierName}
use Rattle.lf_frame.specs.Findings.{finding_number}
use Rattle.lf_frame.proofs.Gathered.{none_of_name}
use Rattle.lf_frame.proofs.all_checks.first_finding.Goals as goal

pub finding-requires-clause-order : goal.finding-requires-clause-order
finding-requires-clause-order c = λ is.
    let number : finding_number c.numbered-refusal.result ≡ finding_number TwoFences = ap finding_number is in
    none_of_name {breaks = HasEarlierName} (c.loop-number.invariant SecondName (omega (arith, number, c.numbered-refusal.ensures)))
