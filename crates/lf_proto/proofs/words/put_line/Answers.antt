use Rattle.std.proofs.Common.{arith}
use Rattle.std.proofs.lemmas.Result.{on_err_weaker, on_ok_weaker}
use Rattle.lf_proto.proofs.Fronts.{line_put, length_line, on_err_from}
use Rattle.lf_proto.proofs.words.put_line.Goals as goal

pub returns-in_err-put_words-clause-full : goal.returns-in_err-put_words-clause-full
returns-in_err-put_words-clause-full c =
    on_err_from c.from_residual-in_err-put_words.result
    (omega (arith, c.in_err-put_words.ensures.full, c.in_ok-put.ensures.len, c.in_ok-put.ensures.capacity, length_line c.args.first.now c.args.words.now))

pub returns-clause-ok : goal.returns-clause-ok
returns-clause-ok c =
    on_ok_weaker c.put-2.result
    (line_put c.args.first.now c.args.out.now.items c.put.new.out.items c.put_words.new.out.items c.put-2.new.out.items c.args.words.now c.in_ok-put.ensures.ok c.in_ok-put_words.ensures.ok)
    c.put-2.ensures.ok

pub returns-clause-full : goal.returns-clause-full
returns-clause-full c = on_err_weaker c.put-2.result (λ h. omega (arith, h, c.in_ok-put_words.ensures.len, c.in_ok-put_words.ensures.capacity, c.in_ok-put.ensures.len, c.in_ok-put.ensures.capacity, length_line c.args.first.now c.args.words.now)) c.put-2.ensures.full
