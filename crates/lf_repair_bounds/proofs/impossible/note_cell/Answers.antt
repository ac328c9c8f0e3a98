use Rattle.std.proofs.Common.{◌≡◌, List, subst}
use Rattle.std.specs.Prelude.{Any}
use Rattle.lf_repair_bounds.specs.declared.impossible.CheckedMacro.{CheckedMacro}
use Rattle.lf_repair_bounds.proofs.Searching.{checks_known, checks_new}
use Rattle.lf_repair_bounds.proofs.impossible.note_cell.Goals as goal

pub returns-then-is_checked_at : goal.returns-then-is_checked_at
returns-then-is_checked_at c =
    let loaded = c.args.floor.now.loaded.now in
    let cell = c.args.cell.now in
    checks_known loaded.frame loaded.cells cell.team cell.mac c.args.checked.now.items c.args.list.now.items
    (subst (λ (entries : List CheckedMacro). Any (λ d. (d.team ≡ cell.team) × (d.mac ≡ cell.mac)) entries) c.as_slice-2.ensures.value (c.is_checked_at.ensures c.if-is_checked_at.true))

pub returns : goal.returns
returns c =
    let loaded = c.args.floor.now.loaded.now in
    let cell = c.args.cell.now in
    checks_new loaded.frame loaded.cells cell.team cell.mac c.position_for-at.result c.args.checked.now.items c.insert.new.self.items c.args.list.now.items c.note_impossible.new.list.items
    c.in_ok-note_impossible.ensures c.in_ok-insert.ensures.items
