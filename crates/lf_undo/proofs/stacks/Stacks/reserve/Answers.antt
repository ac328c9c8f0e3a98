use Rattle.lf_undo.proofs.stacks.Stacks.reserve.Goals as goal

pub invariant_of-self : goal.invariant_of-self
invariant_of-self g c =
    let a = c.self.invariant.0 in
    rw c.reserve.ensures.rest_kept (record { stored = a.stored; once = a.once; within = a.within; some = a.some }, c.self.invariant.1)

pub invariant_of-self-in_err-reserve : goal.invariant_of-self-in_err-reserve
invariant_of-self-in_err-reserve g c =
    let a = c.self.invariant.0 in
    rw c.reserve.ensures.rest_kept (record { stored = a.stored; once = a.once; within = a.within; some = a.some }, c.self.invariant.1)
