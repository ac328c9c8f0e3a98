use Rattle.std.proofs.Common.{rules}
use Rattle.lf_names.proofs.KeySets.{present-there, absent-there, new-absent, new-last, names-new, names-same}
use Rattle.lf_names.proofs.borrowed.BorrowedNames.add.Goals as goal

pub returns-in_err-position-clause-only_new : goal.returns-in_err-position-clause-only_new
returns-in_err-position-clause-only_new c =
    let absent = absent-there (λ k. k.now) c.self.inside.names.keys c.args.self.now c.args.name.now c.self.view_is c.in_err-position.ensures.absent in
    search rules

pub returns-then-new-clause-ok : goal.returns-then-new-clause-ok
returns-then-new-clause-ok c =
    let keys = c.self.inside.names.keys in
    let set = c.in_ok-position.ensures {u = tt} in (
      new-absent (λ k. k.now) keys c.args.self.now c.args.name.now c.in_ok-position.new c.self.view_is set.added c.if-new.true,
      new-last (λ k. k.now) keys c.args.self.now c.args.name.now c.in_ok-position.position c.in_ok-position.new c.self.view_is set.added c.if-new.true set.index,
      names-new (λ k. k.now) keys c.insert_full.new.self.keys c.args.name c.args.self.now c.in_ok-position.new c.self.view_is set.added c.if-new.true set.keys,
    )

pub returns-clause-ok : goal.returns-clause-ok
returns-clause-ok c =
    let keys = c.self.inside.names.keys in
    let set = c.in_ok-position.ensures {u = tt} in (
      present-there (λ k. k.now) keys c.args.self.now c.args.name.now c.in_ok-position.position c.in_ok-position.new c.self.view_is set.added c.if-new.false set.index,
      names-same (λ k. k.now) keys c.insert_full.new.self.keys c.args.name c.args.self.now c.in_ok-position.new c.self.view_is set.added c.if-new.false set.keys,
    )
