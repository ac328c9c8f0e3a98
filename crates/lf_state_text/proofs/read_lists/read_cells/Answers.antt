use Rattle.std.proofs.Common.{◌≡◌, ◌<◌, ◌≤◌, ◌++◌, ◌∷◌, [], List, ℕ, Ok, length, subst, arith}
use Rattle.std.proofs.lemmas.Result.{err_from_is_err_and}
use Rattle.lf_state_text.specs.Designs.{named_team_of}
use Rattle.lf_state_text.specs.Pieces.{rest}
use Rattle.lf_state_text.specs.Reading.{FailsAtRest, read_cell, each_at}
use Rattle.lf_state_text.proofs.Loop.{each_goes_on, each_ends, each_is_done}
use Rattle.lf_state_text.proofs.read_lists.read_cells.Goals as goal

pub returns-in_err-item-clause-read : goal.returns-in_err-item-clause-read
returns-in_err-item-clause-read g c =
    let names = (named_team_of (g.D.DesignSchema.named c.args.design.now) c.args.team).cells in
    let less : c.loop-own.own < length names = omega (arith, c.loop-own-test.true, c.cell_count-count.ensures) in
    let left = length (rest c.cell_at.new.cursor) in
    let p = err_from_is_err_and c.from_residual-in_err-item.result c.from_residual-in_err-item.ensures.1 in
    rw (p.1, p.2) (each_ends read_cell c.in_err-item.field-0.0 c.loop-own.items.items names c.loop-own.own [] (rest c.loop-own.cursor) (each_at read_cell names (rest c.args.cursor.now)) left less
    (subst (λ (name : List ℕ). FailsAtRest c.in_err-item.field-0.0 (read_cell name (rest c.loop-own.cursor)) left) c.name_of_cell.ensures c.in_err-item.ensures.read) c.loop-own.invariant.read)

pub loop-own-preserved : goal.loop-own-preserved
loop-own-preserved g c =
    let names = (named_team_of (g.D.DesignSchema.named c.args.design.now) c.args.team).cells in
    let less : c.loop-own.own < length names = omega (arith, c.loop-own-test.true, c.cell_count-count.ensures) in
    let e : c.push.new.self.items ≡ c.loop-own.items.items ++ c.in_ok-item.item ∷ [] = c.in_ok-push.ensures.items in
    record {
      read =
          rw e (each_goes_on read_cell c.loop-own.items.items names c.loop-own.own [] (rest c.loop-own.cursor) c.in_ok-item.item (rest c.cell_at.new.cursor)
          (each_at read_cell names (rest c.args.cursor.now)) less
          (subst (λ (name : List ℕ). read_cell name (rest c.loop-own.cursor) ≡ Ok (c.in_ok-item.item, rest c.cell_at.new.cursor)) c.name_of_cell.ensures c.in_ok-item.ensures.read)
          c.loop-own.invariant.read);
      ends = λ text end. c.in_ok-item.ensures.ends text (c.loop-own.invariant.ends text end);
    }

pub returns-clause-read : goal.returns-clause-read
returns-clause-read g c =
    let names = (named_team_of (g.D.DesignSchema.named c.args.design.now) c.args.team).cells in
    let past : length names ≤ c.loop-own.own = omega (arith, c.loop-own-test.false, c.cell_count-count.ensures) in
    each_is_done read_cell c.loop-own.items.items names c.loop-own.own (rest c.loop-own.cursor) (each_at read_cell names (rest c.args.cursor.now)) past c.loop-own.invariant.read
