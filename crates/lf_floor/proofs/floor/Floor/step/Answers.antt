use Rattle.std.proofs.Common.{ap, ◌∙◌}
use Rattle.lf_proto.specs.Commands.{command_with_names}
use Rattle.lf_floor_model.specs.States.{FloorState}
use Rattle.lf_floor_model.specs.Teams.{state_of}
use Rattle.lf_floor_model.proofs.Answering.{step_of_answer, others_kept, frame_kept, components_kept}
use Rattle.lf_floor_model.proofs.Promises.{places_legally, legalizes_legally, tidies_legally, swaps_legally, commits_legally, keeps_refused}
use Rattle.lf_floor_model.proofs.Stepping.{answer_keeps, short_keeps}
use Rattle.lf_floor.proofs.floor.Floor.step.Goals as goal

pub returns-in-Ok-clause-step : goal.returns-in-Ok-clause-step
returns-in-Ok-clause-step g c = λ l. step_of_answer l c.args.self.now c.try_step.new.self (command_with_names c.args.request.now) c.in-Ok.reply (c.in-Ok.ensures.ok l)

pub returns-in-Ok-clause-others : goal.returns-in-Ok-clause-others
returns-in-Ok-clause-others g c = λ team other.
    let l = c.legalizer_exists.ensures in
    ap (λ (f : FloorState). state_of f team) (c.in-Ok.ensures.ok l).floor_is ∙ others_kept l c.args.self.now (command_with_names c.args.request.now) team other

pub returns-in-Ok-clause-frame : goal.returns-in-Ok-clause-frame
returns-in-Ok-clause-frame g c =
    let l = c.legalizer_exists.ensures in
    ap (λ (f : FloorState). f.frame) (c.in-Ok.ensures.ok l).floor_is ∙ frame_kept l c.args.self.now (command_with_names c.args.request.now)

pub returns-in-Ok-clause-components : goal.returns-in-Ok-clause-components
returns-in-Ok-clause-components g c =
    let l = c.legalizer_exists.ensures in
    ap (λ (f : FloorState). f.components) (c.in-Ok.ensures.ok l).floor_is ∙ components_kept l c.args.self.now (command_with_names c.args.request.now)

pub returns-in-Err-clause-others : goal.returns-in-Err-clause-others
returns-in-Err-clause-others g c = λ team other. ap (λ (f : FloorState). state_of f team) (c.in-Err.ensures.err c.legalizer_exists.ensures).short.kept

pub returns-in-Err-clause-frame : goal.returns-in-Err-clause-frame
returns-in-Err-clause-frame g c = ap (λ (f : FloorState). f.frame) (c.in-Err.ensures.err c.legalizer_exists.ensures).short.kept

pub returns-in-Err-clause-components : goal.returns-in-Err-clause-components
returns-in-Err-clause-components g c = ap (λ (f : FloorState). f.components) (c.in-Err.ensures.err c.legalizer_exists.ensures).short.kept

pub returns-in-Ok-clause-placed : goal.returns-in-Ok-clause-placed
returns-in-Ok-clause-placed g c = λ l. places_legally l c.legal_in_range.ensures c.args.self.now c.try_step.new.self
    (command_with_names c.args.request.now) c.in-Ok.reply c.teams_match_frame.ensures (c.in-Ok.ensures.ok l)

pub returns-in-Ok-clause-legalized : goal.returns-in-Ok-clause-legalized
returns-in-Ok-clause-legalized g c = λ l. legalizes_legally l c.legal_in_range.ensures c.args.self.now c.try_step.new.self
    (command_with_names c.args.request.now) c.in-Ok.reply c.teams_match_frame.ensures (c.in-Ok.ensures.ok l)

pub returns-in-Ok-clause-tidied : goal.returns-in-Ok-clause-tidied
returns-in-Ok-clause-tidied g c = λ l. tidies_legally l c.legal_in_range.ensures c.args.self.now c.try_step.new.self
    (command_with_names c.args.request.now) c.in-Ok.reply c.teams_match_frame.ensures (c.in-Ok.ensures.ok l)

pub returns-in-Ok-clause-swapped : goal.returns-in-Ok-clause-swapped
returns-in-Ok-clause-swapped g c = λ l. swaps_legally l c.legal_in_range.ensures c.args.self.now c.try_step.new.self
    (command_with_names c.args.request.now) c.in-Ok.reply c.teams_match_frame.ensures (c.in-Ok.ensures.ok l)

pub returns-in-Ok-clause-committed : goal.returns-in-Ok-clause-committed
returns-in-Ok-clause-committed g c = λ l. commits_legally l c.legal_in_range.ensures c.args.self.now c.try_step.new.self
    (command_with_names c.args.request.now) c.in-Ok.reply c.teams_match_frame.ensures (c.in-Ok.ensures.ok l)

pub returns-in-Ok-clause-legal : goal.returns-in-Ok-clause-legal
returns-in-Ok-clause-legal g c = let l = c.legalizer_exists.ensures in answer_keeps l c.args.self.now c.try_step.new.self
    (command_with_names c.args.request.now) c.in-Ok.reply c.teams_match_frame.ensures (c.in-Ok.ensures.ok l)

pub returns-in-Err-clause-legal : goal.returns-in-Err-clause-legal
returns-in-Err-clause-legal g c = let l = c.legalizer_exists.ensures in
    short_keeps l c.args.self.now c.try_step.new.self (command_with_names c.args.request.now) (c.in-Err.ensures.err l)

pub returns-in-Ok-clause-refused : goal.returns-in-Ok-clause-refused
returns-in-Ok-clause-refused g c = let l = c.legalizer_exists.ensures in keeps_refused l c.args.self.now c.try_step.new.self
    (command_with_names c.args.request.now) c.in-Ok.reply (c.in-Ok.ensures.ok l)

pub returns-in-Err-clause-refused : goal.returns-in-Err-clause-refused
returns-in-Err-clause-refused g c denied = (c.in-Err.ensures.err c.legalizer_exists.ensures).short.kept
