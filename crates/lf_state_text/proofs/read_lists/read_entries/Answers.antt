use Rattle.std.proofs.Common.{◌≡◌, ◌++◌, ◌∷◌, [], length}
use Rattle.std.proofs.lemmas.Result.{err_from_is_err_and}
use Rattle.lf_state_text.specs.Pieces.{rest}
use Rattle.lf_state_text.specs.Reading.{many_at, entry_at}
use Rattle.lf_state_text.proofs.Loop.{goes_on, ends, is_done}
use Rattle.lf_state_text.proofs.read_lists.read_entries.Goals as goal

pub returns-in_err-item-clause-read : goal.returns-in_err-item-clause-read
returns-in_err-item-clause-read c =
    let p = err_from_is_err_and c.from_residual.result c.from_residual.ensures.1 in
    rw (p.1, p.2) (ends (entry_at c.args.cells) c.in_err-item.field-0.0 c.loop.items.items c.args.count c.loop.counter (rest c.loop.cursor) (many_at (entry_at c.args.cells) c.args.count (rest c.args.cursor.now)) (length (rest c.entry_at.new.cursor)) c.loop-test.true c.in_err-item.ensures.read c.loop.invariant.read)

pub loop-preserved : goal.loop-preserved
loop-preserved c =
    let e : c.push.new.self.items ≡ c.loop.items.items ++ c.in_ok-item.item ∷ [] = c.in_ok-push.ensures.items in
    record {
      read = rw e (goes_on (entry_at c.args.cells) c.loop.items.items c.args.count c.loop.counter (rest c.loop.cursor) c.in_ok-item.item (rest c.entry_at.new.cursor) (many_at (entry_at c.args.cells) c.args.count (rest c.args.cursor.now)) c.loop-test.true c.in_ok-item.ensures.read c.loop.invariant.read);
      ends = λ text end. c.in_ok-item.ensures.ends text (c.loop.invariant.ends text end);
    }

pub returns-clause-read : goal.returns-clause-read
returns-clause-read c = is_done (entry_at c.args.cells) c.loop.items.items c.args.count c.loop.counter (rest c.loop.cursor) (many_at (entry_at c.args.cells) c.args.count (rest c.args.cursor.now)) c.loop-test.false c.loop.invariant.read
