use Rattle.std.proofs.Common.{◌≡◌, ℕ, Some, ap, sym, ◌∙◌}
use Rattle.std.proofs.lemmas.Result.{on_err_weaker}
use Rattle.lf_cells.specs.Cells.{working_at}
use Rattle.lf_floor_model.specs.Outcomes.{Outcome, may_be_short}
use Rattle.lf_floor_verbs.specs.Tables.{table_cells, context_in, team_in}
use Rattle.lf_floor_verbs.proofs.Swaps.{swap_short, swapped_is}
use Rattle.lf_floor_verbs.proofs.tables.Tables.swap.Goals as goal

pub returns-clause-ok : goal.returns-clause-ok
returns-clause-ok g c = λ l.
    let t = context_in l c.args.context.now c.args.self.now in
    let number = c.args.context.now.number in
    let s = team_in c.args.context.now c.args.self.now in
    let a = c.in-Some.first in
    let b = c.in-Some-cell_named.second in
    let first = c.in-Some.ensures {u = tt} in
    let second = c.in-Some-cell_named.ensures {u = tt} in
    let from : working_at s.cells a.own ≡ Some c.in-Some-working.from =
    ap (λ (n : ℕ). working_at (table_cells n c.args.self.now) a.own) (sym first.team) ∙ sym c.working.ensures ∙ c.in-Some-working.is in
    let to : working_at s.cells b.own ≡ Some c.in-Some-working-2.to =
    ap (λ (n : ℕ). working_at (table_cells n c.args.self.now) b.own) (sym second.team) ∙ sym c.working-2.ensures ∙ c.in-Some-working-2.is in
    let is = swapped_is t c.args.session c.args.first.now c.args.second.now a.own b.own c.in-Some-working.from c.in-Some-working-2.to s first.own second.own from to in
    rw is (c.swap_placed.ensures.ok l)

pub returns-clause-err : goal.returns-clause-err
returns-clause-err g c = λ l.
    let t = context_in l c.args.context.now c.args.self.now in
    let number = c.args.context.now.number in
    let s = team_in c.args.context.now c.args.self.now in
    let a = c.in-Some.first in
    let b = c.in-Some-cell_named.second in
    let first = c.in-Some.ensures {u = tt} in
    let second = c.in-Some-cell_named.ensures {u = tt} in
    let from : working_at s.cells a.own ≡ Some c.in-Some-working.from =
    ap (λ (n : ℕ). working_at (table_cells n c.args.self.now) a.own) (sym first.team) ∙ sym c.working.ensures ∙ c.in-Some-working.is in
    let to : working_at s.cells b.own ≡ Some c.in-Some-working-2.to =
    ap (λ (n : ℕ). working_at (table_cells n c.args.self.now) b.own) (sym second.team) ∙ sym c.working-2.ensures ∙ c.in-Some-working-2.is in
    let is = swapped_is t c.args.session c.args.first.now c.args.second.now a.own b.own c.in-Some-working.from c.in-Some-working-2.to s first.own second.own from to in
    on_err_weaker c.swap_placed.result (λ kept. record {
      kept = kept;
      may = ap (λ (o : Outcome). may_be_short o.reply) is ∙ swap_short t c.args.session a.own b.own s;
    }) c.swap_placed.ensures.err
