use Rattle.std.proofs.Common.{map, subst, sym}
use Rattle.lf_task_reports.specs.Densities.{IsDensityOn}
use Rattle.lf_task_run.proofs.Running.{as_many}
use Rattle.lf_task_improve.proofs.Results.{not_longer, wire_length_on}
use Rattle.lf_task_improve.proofs.improving.improve_selected.Goals as goal

pub results_of-requires : goal.results_of-requires
results_of-requires g c = record {
  measured = wire_length_on c.args.wires.now.teams.items c.args.wires.now.netlist.nets c.args.floor.now c.in_ok-before.before c.in_ok-before.ensures;
  nets = c.requires.nets;
}

pub is_committed_legal-requires : goal.is_committed_legal-requires
is_committed_legal-requires g c =
    as_many c.legalizer_exists.ensures (map (λ team. team.now) c.args.job.now.teams.now) c.args.floor.now c.results_of.new.floor _ _
    (c.in_ok-results.ensures.run c.legalizer_exists.ensures) c.in_ok-results.ensures.only c.requires.whole

pub density_since-requires : goal.density_since-requires
density_since-requires g c =
    as_many c.legalizer_exists.ensures (map (λ team. team.now) c.args.job.now.teams.now) c.args.floor.now c.results_of.new.floor _ _
    (c.in_ok-results.ensures.run c.legalizer_exists.ensures) c.in_ok-results.ensures.only c.requires.whole

pub returns-clause-ok : goal.returns-clause-ok
returns-clause-ok g c = record {
  known = c.requires.known;
  run = λ l. rw c.new-lines.ensures at (c.in_ok-results.ensures.run l);
  only = c.in_ok-results.ensures.only;
  does = record {
    results = c.in_ok-results.results.teams.items;
    are = c.in_ok-results.ensures.reported;
    before = c.in_ok-before.before;
    before_are = c.in_ok-before.ensures;
    after = c.in_ok-after.after;
    after_are = c.in_ok-after.ensures;
    no_longer = not_longer c.wire_length_is_one.ensures c.args.wires.now.teams.items c.args.wires.now.netlist.nets c.results_of.new.floor c.in_ok-after.after
        c.in_ok-results.results.length c.in_ok-before.before.length c.in_ok-after.ensures c.in_ok-results.ensures.measured c.in_ok-results.ensures.longer;
    density = c.in_ok-density.density;
    density_before = subst (λ d. IsDensityOn c.args.floor.now d) (sym c.in_ok-density.ensures.before) c.in_ok-density_before.ensures;
    density_after = c.in_ok-density.ensures.after;
    pins = record { before = c.in_ok-pins_before.pins_before; after = c.in_ok-pins_after.pins_after };
    pins_before = c.in_ok-pins_before.ensures;
    pins_after = c.in_ok-pins_after.ensures;
    legal = c.in_ok-legal.legal;
    right = c.in_ok-legal.ensures;
    text_is = rw (c.frame-frame.ensures, c.placement.ensures.frame, c.deref.ensures.value) at c.in_ok-report.ensures;
  };
  committed_checked = record {
    done = c.status_by.ensures.done;
    legal = λ zero. c.in_ok-legal.ensures.0 (c.status_by.ensures.legal zero);
    illegal = λ four committed. c.status_by.ensures.illegal four (c.in_ok-legal.ensures.1 committed);
  };
}
