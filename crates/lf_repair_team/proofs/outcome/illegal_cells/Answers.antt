use Rattle.std.proofs.Common.{ℕ, get_or}
use Rattle.std.proofs.lemmas.List.Elements.{All-nil, All-same}
use Rattle.lf_cells.specs.Cells.{cells_of}
use Rattle.lf_repair_team.specs.TeamRepairs.{IsIllegalIn}
use Rattle.lf_repair_team.proofs.Finding.{IsLegalIfKnown, all_named, left_at, named_at, rises_at}
use Rattle.lf_repair_strategy.proofs.Ids.{id_at, ids_are, no_id}
use Rattle.lf_repair_team.proofs.Ids.{all_looked, looked_within}
use Rattle.lf_repair_team.proofs.Lists.{none_named, none_rise}
use Rattle.lf_repair_team.proofs.outcome.illegal_cells.Goals as goal

pub loop-id-init : goal.loop-id-init
loop-id-init g c =
    let Left = λ (own : ℕ). IsIllegalIn c.args.floor.now c.args.session.now.team.now own in
    record {
      named = none_named (IsLegalIfKnown c.args.session.now.team.now c.args.floor.now) c.new-left.result.items;
      illegal = All-same Left c.new-left.result.items _ c.new-left.ensures.items (All-nil Left);
      rise = none_rise c.new-left.result.items c.new-left.ensures.items;
    }

pub loop-id-preserved : goal.loop-id-preserved
loop-id-preserved g c =
    let floor = c.args.floor.now in
    let team = c.args.session.now.team.now in
    let number = c.args.session.now.number in
    let k = c.loop-id.id-index in
    let cells = cells_of c.placement.result.now.cells number in
    let ids = c.cells_of-id-items.result.now in
    let are = ids_are c.placement.result.now.cells c.cells.result.now number ids c.cells.ensures c.cells_of-id-items.ensures in
    let id = id_at number k cells ids are c.loop-id-test.true in
    record {
      named = named_at team floor number k (get_or ids k no_id) c.loop-id.left.items c.note_illegal.new.unrepaired.items id c.loop-id.invariant.named c.in_ok-note_illegal.ensures;
      illegal = left_at team floor number k (get_or ids k no_id) c.loop-id.left.items c.note_illegal.new.unrepaired.items id
          (looked_within team floor number k cells ids are c.loop-id-test.true c.requires (λ s at. c.placement.ensures.cells number s at))
          c.loop-id.invariant.illegal c.in_ok-note_illegal.ensures;
      rise = rises_at team floor number k (get_or ids k no_id) c.loop-id.left.items c.note_illegal.new.unrepaired.items id c.loop-id.invariant.rise c.in_ok-note_illegal.ensures;
    }

pub returns-clause-named : goal.returns-clause-named
returns-clause-named g c =
    let floor = c.args.floor.now in
    let team = c.args.session.now.team.now in
    let number = c.args.session.now.number in
    let k = c.loop-id.id-index in
    let cells = cells_of c.placement.result.now.cells number in
    let ids = c.cells_of-id-items.result.now in
    let are = ids_are c.placement.result.now.cells c.cells.result.now number ids c.cells.ensures c.cells_of-id-items.ensures in
    all_named team floor number k c.loop-id.left.items c.requires
    (all_looked floor number k cells ids are c.loop-id-test.false (λ s at. c.placement.ensures.cells number s at)) c.loop-id.invariant.named

pub returns-clause-rise : goal.returns-clause-rise
returns-clause-rise g c = c.loop-id.invariant.rise.rise
