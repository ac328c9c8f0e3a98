use Rattle.std.proofs.Common.{ap, Result}
use Rattle.std.proofs.lemmas.Result.{err_from_is_err_and}
use Rattle.lf_lex.specs.declared.fault.ReadFault.{ReadFault}
use Rattle.lf_lex.specs.Reading.{ReadValue, value_of}
use Rattle.lf_lex.proofs.Turns.{turn_on, turn_ends, turn_fails, fails_too}
use Rattle.lf_lef.specs.Contents.{Contents}
use Rattle.lf_lef.specs.Library.{lef_statement}
use Rattle.lf_lef.proofs.Growing.{grown_twice}
use Rattle.lf_lef.proofs.read.read_statements.Goals as goal

pub returns-in_err-statement-clause-fault : goal.returns-in_err-statement-clause-fault
returns-in_err-statement-clause-fault c =
    let p = err_from_is_err_and c.from_residual.result c.from_residual.ensures.1 in
    rw (p.1, p.2) (fails_too c.in_err-statement.field-0.0 _ (turn_fails lef_statement c.in_err-statement.field-0.0 c.loop.library c.loop.lexer _
    c.loop.invariant.going c.in_err-statement.ensures.read))

pub returns-in_err-statement-clause-kept : goal.returns-in_err-statement-clause-kept
returns-in_err-statement-clause-kept c = grown_twice c.args.library.now c.loop.library c.statement.new.library c.loop.invariant.kept c.statement.ensures.kept

pub loop-preserved : goal.loop-preserved
loop-preserved c = record {
  going = turn_on lef_statement c.loop.library c.statement.new.library c.loop.lexer c.statement.new.lexer _ c.in_ok-statement.field-0 c.loop.invariant.going
      c.if-branch.true c.in_ok-statement.ensures.read.0 (c.in_ok-statement.ensures.read.2 c.if-branch.true);
  kept = grown_twice c.args.library.now c.loop.library c.statement.new.library c.loop.invariant.kept c.statement.ensures.kept;
}

pub returns-clause-ok : goal.returns-clause-ok
returns-clause-ok c =
    ap (λ (r : Result (ReadValue Contents) ReadFault). value_of r)
    (turn_ends lef_statement c.loop.library c.statement.new.library c.loop.lexer c.statement.new.lexer _ c.in_ok-statement.field-0 c.loop.invariant.going
    c.if-branch.false c.in_ok-statement.ensures.read.0)

pub returns-clause-kept : goal.returns-clause-kept
returns-clause-kept c = grown_twice c.args.library.now c.loop.library c.statement.new.library c.loop.invariant.kept c.statement.ensures.kept
