use Rattle.std.proofs.Common.{arith, refl}
use Rattle.lf_repair_team.proofs.cell_edits.run_action.Goals as goal

pub returns-clause-run : goal.returns-clause-run
returns-clause-run g c = λ l. c.run_command.ensures.run l c.args.session.now.team.now refl (λ name. (name, omega arith, c.requires))

pub returns-clause-err : goal.returns-clause-err
returns-clause-err g c = λ l. c.run_command.ensures.err l c.args.session.now.team.now refl (λ name. (name, omega arith, c.requires))

pub returns-clause-only : goal.returns-clause-only
returns-clause-only g c = c.run_command.ensures.only c.args.session.now.team.now refl
