use Rattle.std.proofs.Common.{◌≡◌, length, take}
use Rattle.std.specs.Prelude.{filter}
use Rattle.lf_frame.specs.Loading.{is_core_row}
use Rattle.lf_frame.specs.Refusals.{IsRowTooMany}
use Rattle.lf_frame.proofs.Firsts.{NoneBelow}
use Rattle.lf_frame.proofs.row_checks.first_row_too_many.Given as goal

abbrev pub invariant-loop-number : goal.invariant-loop-number
invariant-loop-number l = record {
  counted : l.core_ones ≡ length (filter (is_core_row l.core) (take l.number l.rows));
  none : NoneBelow (IsRowTooMany l.core l.limit) l.rows l.number;
}
