use Rattle.std.proofs.Common.{◌≡◌, ◌∙◌, ℕ, Some, refl, subst, sym}
use Rattle.lf_floor_model.specs.Teams.{team_number}
use Rattle.lf_repair_team.proofs.Runs.{none_cut, unchanged}
use Rattle.lf_repair_team.proofs.StatsLemmas.{team_stats_of}
use Rattle.lf_improve_team.specs.FloorLengths.{IsWireLengthOn}
use Rattle.lf_improve_team.proofs.Improving.{committed_if, many_before, measured_of, near_in_any, none_moved_onto_soft, off_soft_in_any}
use Rattle.lf_improve_team.proofs.TeamLengths.{decides}
use Rattle.lf_improve_team.proofs.team.improve_team.Goals as goal

pub returns-in_default-clause-err : goal.returns-in_default-clause-err
returns-in_default-clause-err g c = λ l. none_cut l c.args.team.now c.args.floor.now (g.K.Sink.contents c.args.lines.now)

pub returns-in_default-team_input-clause-err : goal.returns-in_default-team_input-clause-err
returns-in_default-team_input-clause-err g c = λ l. none_cut l c.args.team.now c.args.floor.now (g.K.Sink.contents c.args.lines.now)

pub returns-then-not-is_improvable-clause-counted : goal.returns-then-not-is_improvable-clause-counted
returns-then-not-is_improvable-clause-counted g c =
    let team = c.args.team.now in
    let floor = c.args.floor.now in
    let named : team_number floor.frame team ≡ Some c.in-Some.number = sym c.team_number.ensures ∙ c.in-Some.is in
    team_stats_of team floor floor c.in-Some.number c.in-Ok.input.pass.targets.items c.in-Ok.input.legal.items c.result_of.result.stats named
    (unchanged team floor) c.in-Ok.ensures.targets (c.in-Ok.ensures.legal team named) c.result_of.ensures.tally

pub returns-in-Ok-improve_in_session-clause-measured : goal.returns-in-Ok-improve_in_session-clause-measured
returns-in-Ok-improve_in_session-clause-measured g c =
    let nets = c.args.wires.now.netlist.now.nets in
    let wish = c.args.goal.now in
    let done = c.in-Ok-improve_in_session.ensures in
    let new = c.improve_in_session.new.floor in
    subst (λ (n : ℕ). IsWireLengthOn nets new n) (sym c.result_of-in-Ok-improve_in_session.ensures.length)
    (measured_of nets wish.length wish.options.within c.in-Ok.input.pass.targets.items c.args.team.now c.args.floor.now new done.only c.in-Ok-improve_in_session.found done.improved done.kept c.requires.measured)

pub returns-in-Ok-improve_in_session-clause-improved : goal.returns-in-Ok-improve_in_session-clause-improved
returns-in-Ok-improve_in_session-clause-improved g c = λ l is.
    let wish = c.args.goal.now in
    let done = c.in-Ok-improve_in_session.ensures in
    committed_if c.args.wires.now.netlist.now.nets wish.length wish.options.within c.in-Ok.input.pass.targets.items c.args.team.now c.args.floor.now c.improve_in_session.new.floor done.only
    c.in-Ok-improve_in_session.found done.improved (sym c.result_of-in-Ok-improve_in_session.ensures.improved ∙ is) l

pub returns-in-Ok-improve_in_session-clause-near : goal.returns-in-Ok-improve_in_session-clause-near
returns-in-Ok-improve_in_session-clause-near g c =
    let wish = c.args.goal.now in
    let done = c.in-Ok-improve_in_session.ensures in
    let named : team_number c.args.floor.now.frame c.args.team.now ≡ Some c.in-Some.number = sym c.team_number.ensures ∙ c.in-Some.is in
    near_in_any c.args.wires.now.netlist.now.nets wish.length wish.options.within c.in-Ok.input.pass.targets.items c.args.team.now c.args.floor.now c.improve_in_session.new.floor done.only
    c.in-Some.number c.in-Ok-improve_in_session.found named c.in-Ok.ensures.targets done.improved done.kept

pub returns-in-Ok-improve_in_session-clause-off_soft : goal.returns-in-Ok-improve_in_session-clause-off_soft
returns-in-Ok-improve_in_session-clause-off_soft g c =
    let wish = c.args.goal.now in
    let done = c.in-Ok-improve_in_session.ensures in
    let named : team_number c.args.floor.now.frame c.args.team.now ≡ Some c.in-Some.number = sym c.team_number.ensures ∙ c.in-Some.is in
    off_soft_in_any c.args.wires.now.netlist.now.nets wish.length wish.options.within c.in-Ok.input.pass.targets.items c.args.team.now c.args.floor.now c.improve_in_session.new.floor done.only
    c.in-Some.number c.in-Ok-improve_in_session.found named c.in-Ok.ensures.targets done.improved done.kept

pub returns-then-not-is_improvable-clause-off_soft : goal.returns-then-not-is_improvable-clause-off_soft
returns-then-not-is_improvable-clause-off_soft g c = none_moved_onto_soft c.args.team.now c.args.floor.now c.args.floor.now (λ own. refl)

pub returns-in-Ok-improve_in_session-clause-counted : goal.returns-in-Ok-improve_in_session-clause-counted
returns-in-Ok-improve_in_session-clause-counted g c =
    let team = c.args.team.now in
    let named : team_number c.args.floor.now.frame team ≡ Some c.in-Some.number = sym c.team_number.ensures ∙ c.in-Some.is in
    team_stats_of team c.args.floor.now c.improve_in_session.new.floor c.in-Some.number c.in-Ok.input.pass.targets.items c.in-Ok.input.legal.items c.result_of-in-Ok-improve_in_session.result.stats named
    c.in-Ok-improve_in_session.ensures.only c.in-Ok.ensures.targets (c.in-Ok.ensures.legal team named) c.result_of-in-Ok-improve_in_session.ensures.tally

pub returns-in-Ok-improve_in_session-clause-cells : goal.returns-in-Ok-improve_in_session-clause-cells
returns-in-Ok-improve_in_session-clause-cells g c = λ s was.
    let team = c.args.team.now in
    let named : team_number c.args.floor.now.frame team ≡ Some c.in-Some.number = sym c.team_number.ensures ∙ c.in-Some.is in
    many_before team c.args.floor.now c.improve_in_session.new.floor c.in-Some.number c.result_of-in-Ok-improve_in_session.result.cells named c.in-Ok-improve_in_session.ensures.only c.result_of-in-Ok-improve_in_session.ensures.cells s was

pub improve_in_session-requires-clause-decides : goal.improve_in_session-requires-clause-decides
improve_in_session-requires-clause-decides g c =
    let named : team_number c.args.floor.now.frame c.args.team.now ≡ Some c.in-Some.number = sym c.team_number.ensures ∙ c.in-Some.is in
    decides c.args.team.now c.in-Some.number c.args.wires.now.of_teams.now c.args.wires.now.netlist.now.nets c.args.goal.now.length c.length_of_team.result c.args.floor.now
    c.requires.nets named c.length_is_bounded.ensures c.requires.measured c.length_of_team.ensures
