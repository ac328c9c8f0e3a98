use Rattle.std.proofs.Common.{◌≡◌, ℕ, Some, None, Option, refl, subst}
use Rattle.lf_cells.specs.Cells.{cells_of, moved}
use Rattle.lf_rules.specs.declared.rule.Rule.{Rule}
use Rattle.lf_proto.specs.declared.reply.Refusal.TheVariants.{Illegal}
use Rattle.lf_placement.specs.Placements.{IsBrokenFrameRule}
use Rattle.lf_floor_model.specs.Teams.{broken_at, team_rules}
use Rattle.lf_floor_verbs.specs.Tables.{table_cells, context_in, team_in}
use Rattle.lf_floor_verbs.specs.Swapping.{IsExchange}
use Rattle.lf_floor_verbs.proofs.Fitting.{only_grown}
use Rattle.lf_floor_verbs.proofs.BrokenRules.{alone_anywhere, alone_moved, first_broken}
use Rattle.lf_floor_verbs.proofs.Swaps.{first_refused, same_both, swap_refused}
use Rattle.lf_floor_verbs.proofs.tables.Tables.swap_placed.Goals as goal

pub returns-in-Some-clause-ok : goal.returns-in-Some-clause-ok
returns-in-Some-clause-ok g c = λ l.
    let x = c.args.exchange.now in
    let are = c.requires.are in
    let k = x.first.team in
    let number = c.args.context.now.number in
    let p = c.args.self.now.placement in
    let rule = c.in-Some.rule in
    let cells = cells_of p.cells k in
    let here : IsExchange k cells x = subst (λ (n : ℕ). IsExchange n (cells_of p.cells n) x) (Rattle.std.proofs.Common.sym are.first) are in
    let now = moved (moved cells x.first.own (Some x.to)) x.second.own (Some x.from) in
    let verdict : first_broken rule ≡ broken_at (team_rules l p.frame k c.args.context.now.padding.sites) now x.first.own x.to =
    alone_anywhere l p c.args.context.now.padding.sites x.first x.to x.from rule now c.verdict_is_unique.ensures (c.cells_are_sized.ensures.sized k) here.from
    (same_both cells x.first.own x.second.own x.from x.to here.from here.to)
    (subst (λ (a : Option Rule). IsBrokenFrameRule p x.first x.to a) c.in-Some.is c.broken_frame_rule-alone.ensures) in
    rw (swap_refused (context_in l c.args.context.now c.args.self.now) c.args.session x.first.own x.second.own (team_in c.args.context.now c.args.self.now)
    (Illegal rule x.first.own None)
    (first_refused (table_cells number c.args.self.now) x.first.own x.second.own x.from x.to are.from are.to
    (context_in l c.args.context.now c.args.self.now) rule
    (subst (λ (n : ℕ). first_broken rule
    ≡ broken_at (team_rules l p.frame n c.args.context.now.padding.sites) (moved (moved (cells_of p.cells n) x.first.own (Some x.to)) x.second.own (Some x.from)) x.first.own x.to) are.first verdict)))
    record { reply_is = refl; team_is = refl }

pub exchange-requires-clause-first : goal.exchange-requires-clause-first
exchange-requires-clause-first g c =
    let x = c.args.exchange.now in
    let number = c.args.context.now.number in
    let p = c.args.self.now.placement in
    let q = c.reserve_moves.new.self.placement in
    alone_moved number p q x.first x.to None c.requires.are.first (only_grown number p q c.reserve_moves.ensures.grown.placement)
    (subst (λ (a : Option Rule). IsBrokenFrameRule p x.first x.to a) c.in_default.is c.broken_frame_rule-alone.ensures)
