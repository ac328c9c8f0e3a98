use Rattle.std.proofs.Common.{refl}
use Rattle.lf_frame.proofs.KeyLemmas.{keeps_new, keeps_old, bounds_hold}
use Rattle.lf_frame.proofs.star_patterns.PatternsAtEnd.keep.Goals as goal

pub returns-in_ok-push-in-New : goal.returns-in_ok-push-in-New
returns-in_ok-push-in-New c = λ whole.
    let adds = rw c.in-New.is at c.in_ok-add.ensures.ok in
    keeps_new c.args.self.now (record { end = c.args.self.now.end; keys = c.add.new.self; bounds = c.push.new.self; lengths = c.args.self.now.lengths }) c.args.key.now c.args.bound c.in_ok-one_bound-in-New.field-0
    whole adds.0 c.in_ok-one_bound-in-New.ensures adds.2 c.in_ok-push-in-New.ensures.items refl refl

pub returns-in_ok-push_at-in-Present : goal.returns-in_ok-push_at-in-Present
returns-in_ok-push_at-in-Present c = λ whole.
    let adds = rw c.in-Present.is at c.in_ok-add.ensures.ok in
    let is_in_place = bounds_hold c.args.self.now c.args.key.now c.in-Present.place whole adds.0 in
    let pushed = c.in_ok-push_at-in-Present.ensures is_in_place.0 is_in_place.1 in
    keeps_old c.args.self.now (record { end = c.args.self.now.end; keys = c.add.new.self; bounds = c.push_at.new.all; lengths = c.args.self.now.lengths }) c.args.key.now c.args.bound c.in-Present.place is_in_place.0 pushed.0
    whole adds.0 is_in_place.1 pushed.1 adds.1 pushed.2 refl refl
