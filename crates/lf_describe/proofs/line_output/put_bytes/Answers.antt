use Rattle.std.proofs.Common.{drop, sym, take}
use Rattle.std.proofs.lemmas.List.{take-append-drop}
use Rattle.lf_describe.proofs.line_output.put_bytes.Goals as goal

pub returns-in-Err-clause-err : goal.returns-in-Err-clause-err
returns-in-Err-clause-err g c =
    let front = c.in-Err.ensures.prefix in
    (drop front.0 c.args.bytes.now, (take front.0 c.args.bytes.now, sym (take-append-drop front.0 c.args.bytes.now), front.1))
