use Rattle.std.proofs.Common.{Option, subst}
use Rattle.lf_repair_bounds.specs.declared.reasons.ImpossibleReason.{ImpossibleReason}
use Rattle.lf_repair_bounds.specs.Searched.{IsVerdictOn}
use Rattle.lf_repair_bounds.proofs.Searching.{decides_none, decides_one}
use Rattle.lf_repair_bounds.proofs.impossible.note_impossible.Goals as goal

pub returns-in_ok-push-in-Some : goal.returns-in_ok-push-in-Some
returns-in_ok-push-in-Some c =
    let loaded = c.args.floor.now.loaded.now in
    let cell = c.args.cell.now in
    let is = subst (λ (v : Option ImpossibleReason). IsVerdictOn loaded.frame cell.team cell.mac v) c.in-Some.is (c.in_ok-verdict.ensures {u = tt}) in
    decides_one loaded.frame loaded.cells cell.team cell.mac c.in-Some.reason c.args.list.now.items c.push.new.self.items c.requires.of_cell is.0 is.1 c.in_ok-push-in-Some.ensures.items

pub returns-in-None : goal.returns-in-None
returns-in-None c =
    let loaded = c.args.floor.now.loaded.now in
    let cell = c.args.cell.now in
    let is = subst (λ (v : Option ImpossibleReason). IsVerdictOn loaded.frame cell.team cell.mac v) c.in-None.is (c.in_ok-verdict.ensures {u = tt}) in
    decides_none loaded.frame loaded.cells cell.team cell.mac c.args.list.now.items is
