use Rattle.std.proofs.Common.{◌<◌, map, length, arith}
use Rattle.lf_reports.specs.Reports.{with_byte_name}
use Rattle.lf_reports.proofs.VerdictLists.{puts_or_keeps}
use Rattle.lf_reports.proofs.verdicts.put_verdict.Goals as goal

pub returns-clause-put : goal.returns-clause-put
returns-clause-put c = λ l some.
    let count = c.requires.count in
    let few = c.requires.cell.within in
    let within : c.args.own < length c.args.verdicts.now.items = omega (arith, count, few) in
    puts_or_keeps l c.args.frame.now c.args.near.now.padding.sites (map with_byte_name c.args.cells.now) c.args.own (with_byte_name c.args.cell.now) c.broken_in-verdict.result c.args.verdicts.now.items _ c.requires.cell.there (c.broken_in-verdict.ensures l) within some c.put.ensures
