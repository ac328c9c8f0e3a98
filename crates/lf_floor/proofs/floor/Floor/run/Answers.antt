use Rattle.std.proofs.Common.{arith, sym, ◌∙◌}
use Rattle.lf_proto.specs.Commands.{command_with_names}
use Rattle.lf_floor_model.proofs.Isolation.{run_more, run_all, isolated_from_run}
use Rattle.lf_floor_model.proofs.Journals.{leave_out, backs_up}
use Rattle.lf_floor_model.proofs.Running.{legal_run, commits_legal}
use Rattle.lf_floor_model.proofs.TidyCommits.{tidied_commits}
use Rattle.lf_floor.proofs.floor.Floor.run.Goals as goal

pub loop-i-preserved : goal.loop-i-preserved
loop-i-preserved g c = record {
  run =
      λ l rest new later. rw c.push_within.ensures.items (run_more l c.args.self.now c.loop-i.self c.step-reply.new.self c.args.requests.now c.loop-i.replies.items c.loop-i.i (command_with_names c.in-Some.request) c.step-reply.result (c.loop-i.invariant.run l) (sym c.in-Some.ensures) (c.step-reply.ensures.step l) rest new later);
  components = c.step-reply.ensures.components ∙ c.loop-i.invariant.components;
  count = omega arith;
  room = omega arith;
}

pub returns-clause-run : goal.returns-clause-run
returns-clause-run g c = λ l. run_all l _ _ _ _ c.loop-i.i (omega arith) (c.loop-i.invariant.run l)

pub returns-clause-isolated : goal.returns-clause-isolated
returns-clause-isolated g c = λ l. isolated_from_run l _ _ _ _ (run_all l _ _ _ _ c.loop-i.i (omega arith) (c.loop-i.invariant.run l))

pub returns-clause-legal : goal.returns-clause-legal
returns-clause-legal g c = λ l legal.
    legal_run l _ _ _ _ c.teams_match_frame.ensures (run_all l _ _ _ _ c.loop-i.i (omega arith) (c.loop-i.invariant.run l)) legal

pub returns-clause-commits : goal.returns-clause-commits
returns-clause-commits g c = let l = c.legalizer_exists.ensures in
    commits_legal l _ _ _ _ c.teams_match_frame.ensures (run_all l _ _ _ _ c.loop-i.i (omega arith) (c.loop-i.invariant.run l))

pub returns-clause-tidied : goal.returns-clause-tidied
returns-clause-tidied g c = let l = c.legalizer_exists.ensures in
    tidied_commits c.legal_in_range.ensures l _ _ _ _ c.teams_match_frame.ensures (run_all l _ _ _ _ c.loop-i.i (omega arith) (c.loop-i.invariant.run l))

pub returns-clause-left_out : goal.returns-clause-left_out
returns-clause-left_out g c = λ l marks lasting. leave_out l marks _ _ _ _ (run_all l _ _ _ _ c.loop-i.i (omega arith) (c.loop-i.invariant.run l)) lasting

pub returns-clause-backed_up : goal.returns-clause-backed_up
returns-clause-backed_up g c = λ l. backs_up l _ _ _ _ (run_all l _ _ _ _ c.loop-i.i (omega arith) (c.loop-i.invariant.run l))
