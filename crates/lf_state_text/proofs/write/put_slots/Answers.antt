use Rattle.std.proofs.Common.{refl, subst}
use Rattle.lf_state_text.specs.Saved.{slot_line}
use Rattle.lf_state_text.proofs.Lines.{put_all}
use Rattle.lf_state_text.proofs.write.put_slots.Goals as goal

pub returns : goal.returns
returns g c = λ start before had.
    subst (g.O.Output.took start c.loop-slot.out)
    (put_all slot_line before _ c.args.slots.now c.loop-slot.slot-index c.loop-slot-test.false refl)
    (c.loop-slot.invariant start before had)
