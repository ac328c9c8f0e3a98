use Rattle.std.proofs.Common.{[], map, arith}
use Rattle.std.proofs.lemmas.Result.{err_from_is_err_and}
use Rattle.lf_task_wires.proofs.Keeping.{all_read, one_read, read_fault, reads_first}
use Rattle.lf_task_wires.proofs.second_reading.pins_of.Goals as goal

pub loop-at-init : goal.loop-at-init
loop-at-init c = record {
  reads_on = rw c.new-macros.ensures (reads_first [] (map (λ path. path.now) c.args.paths.now) (map (λ t. t.items) c.args.texts.now));
}

pub loop-at-preserved : goal.loop-at-preserved
loop-at-preserved c = record {
  reads_on = one_read (λ t. t.items) [] c.loop-at.macros c.add_pins.new.macros c.args.paths.now c.args.texts.now c.loop-at.at (record { ref_ptr = (0, 0); now = [] }) c.index-texts-at.result
      (omega (arith, c.loop-at-test.true, c.requires)) c.loop-at-test.true c.index-texts-at.is c.loop-at.invariant.reads_on (rw c.as_slice.ensures.value at c.in_ok-add_pins.ensures.ok);
}

pub returns-clause-ok : goal.returns-clause-ok
returns-clause-ok c =
    all_read (λ t. t.items) [] c.loop-at.macros (map (λ path. path.now) c.args.paths.now) c.args.texts.now _ c.loop-at.at
    (omega (arith, c.loop-at-test.false)) c.loop-at.invariant.reads_on

pub returns-in_err-add_pins-clause-err : goal.returns-in_err-add_pins-clause-err
returns-in_err-add_pins-clause-err c =
    let p = err_from_is_err_and c.from_residual.result c.from_residual.ensures.1 in
    rw (p.1, p.2) (read_fault (λ t. t.items) [] c.loop-at.macros c.args.paths.now c.args.texts.now c.loop-at.at _ c.index-texts-at.result _
    (omega (arith, c.loop-at-test.true, c.requires)) c.loop-at-test.true c.index-texts-at.is c.loop-at.invariant.reads_on (rw c.as_slice.ensures.value at c.in_err-add_pins.ensures.err))
