use Rattle.std.proofs.Common.{ap, Result}
use Rattle.std.proofs.lemmas.Result.{err_from_is_err_and}
use Rattle.lf_lex.specs.declared.fault.ReadFault.{ReadFault}
use Rattle.lf_lex.specs.Reading.{ReadValue, value_of}
use Rattle.lf_lex.proofs.Turns.{turn_on, turn_ends, turn_fails, fails_too}
use Rattle.lf_wire_nets.specs.declared.design_nets.DesignNets.{DesignNets}
use Rattle.lf_wire_nets.specs.NetTexts.{nets_statement}
use Rattle.lf_wire_nets.proofs.nets_reader.read_statements.Goals as goal

pub returns-in_err-statement-clause-fault : goal.returns-in_err-statement-clause-fault
returns-in_err-statement-clause-fault c =
    let p = err_from_is_err_and c.from_residual.result c.from_residual.ensures.1 in
    rw (p.1, p.2) (fails_too c.in_err-statement.field-0.0 _ (turn_fails nets_statement c.in_err-statement.field-0.0 c.loop-nets.nets c.loop-nets.lexer _
    c.loop-nets.invariant.going c.in_err-statement.ensures.read))

pub loop-nets-preserved : goal.loop-nets-preserved
loop-nets-preserved c = record {
  going = turn_on nets_statement c.loop-nets.nets c.statement.new.nets c.loop-nets.lexer c.statement.new.lexer _ c.in_ok-statement.field-0
      c.loop-nets.invariant.going c.if-branch.true c.in_ok-statement.ensures.read.0 c.in_ok-statement.ensures.read.1;
  range = c.statement.ensures.range;
}

pub returns-clause-ok : goal.returns-clause-ok
returns-clause-ok c =
    ap (λ (r : Result (ReadValue DesignNets) ReadFault). value_of r)
    (turn_ends nets_statement c.loop-nets.nets c.statement.new.nets c.loop-nets.lexer c.statement.new.lexer _ c.in_ok-statement.field-0
    c.loop-nets.invariant.going c.if-branch.false c.in_ok-statement.ensures.read.0)
