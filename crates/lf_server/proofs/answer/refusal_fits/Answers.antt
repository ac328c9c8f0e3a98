use Rattle.lf_server.proofs.Fitting.{refusal_within}
use Rattle.lf_server.proofs.answer.refusal_fits.Goals as goal

pub returns-in_default : goal.returns-in_default
returns-in_default c =
    refusal_within c.args.refusal.now c.args.cell_name.now c.args.other_name.now c.in_default.not-Stale c.requires.cell c.requires.other
