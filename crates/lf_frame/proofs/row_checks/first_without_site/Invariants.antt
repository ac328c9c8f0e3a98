use Rattle.lf_frame.specs.Refusals.{HasNoSite}
use Rattle.lf_frame.proofs.Firsts.{NoneBelow}
use Rattle.lf_frame.proofs.row_checks.first_without_site.Given as goal

abbrev pub invariant-loop-number : goal.invariant-loop-number
invariant-loop-number l = NoneBelow (HasNoSite l.library) l.rows l.number
