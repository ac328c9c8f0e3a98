use Rattle.std.proofs.Common.{sym, arith}
use Rattle.std.proofs.lemmas.List.{get_or_past}
use Rattle.lf_journal_text.proofs.Reading.{no_header}
use Rattle.lf_journal_text.proofs.batch.size_of_batch.Goals as goal

pub returns-then-bytes-lt-HEADER : goal.returns-then-bytes-lt-HEADER
returns-then-bytes-lt-HEADER c = sym (no_header c.args.bytes.now 37 (omega arith) (get_or_past c.args.bytes.now 37 0 (omega arith)))
