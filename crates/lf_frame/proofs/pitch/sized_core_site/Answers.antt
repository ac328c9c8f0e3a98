use Rattle.lf_frame.proofs.CoreLemmas.{core_sized, of_borrowed}
use Rattle.lf_frame.proofs.pitch.sized_core_site.Goals as goal

pub returns-clause-sized : goal.returns-clause-sized
returns-clause-sized c = of_borrowed c.core_site.result (core_sized c.args.library.now c.args.rows.now) c.core_site.ensures.core
