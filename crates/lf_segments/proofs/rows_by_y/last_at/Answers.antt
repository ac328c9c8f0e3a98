use Rattle.std.proofs.Common.{pos, arith}
use Rattle.std.proofs.lemmas.Int.{ints}
use Rattle.lf_segments.specs.declared.rows_by_y.RowEntry.{RowEntry}
use Rattle.lf_segments.proofs.LastLemmas.{last_level, none_level}
use Rattle.lf_segments.proofs.rows_by_y.last_at.Goals as goal

abbrev no_entry : RowEntry
no_entry = record { y = pos 0; x = pos 0; row = 0 }

pub returns-then-last-y : goal.returns-then-last-y
returns-then-last-y c =
    none_level c.args.entries.now c.args.y.now c.args.x.now c.count_by-count.result no_entry c.requires (omega arith) c.count_by-count.ensures.within
    c.count_by-count.ensures.rest (omega (arith, ints))

pub returns : goal.returns
returns c =
    last_level c.args.entries.now c.args.y.now c.args.x.now c.count_by-count.result no_entry c.requires (omega arith) c.count_by-count.ensures.within
    c.count_by-count.ensures.by c.count_by-count.ensures.rest (omega (arith, ints))
