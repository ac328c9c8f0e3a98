use Rattle.std.proofs.Common.{refl, ◌≡◌, Some, None, sym, ap, ◌∙◌}
use Rattle.std.specs.Prelude.{option_map}
use Rattle.std.proofs.lemmas.Option.{none-some}
use Rattle.lf_cells.specs.declared.records.CellRecord.{CellRecord}
use Rattle.lf_cells.specs.Cells.{cell_at, component_at}
use Rattle.lf_cells.specs.Records.{cell_with_name, record_at}
use Rattle.lf_cells.proofs.Looks.{cell_is, component_is, name_there}
use Rattle.lf_cells.proofs.table.CellTable.cell.Goals as goal

pub returns-in_err-slot-clause-name : goal.returns-in_err-slot-clause-name
returns-in_err-slot-clause-name c =
    let none : record_at c.self.inside.parts.teams.items c.args.id ≡ None = sym c.slot.ensures ∙ c.in_err-slot.was {u = tt} in
    let is : cell_at c.args.self.now c.args.id ≡ None =
    cell_is c.self.inside.parts c.args.self.now c.args.id c.self.view_is ∙ ap (option_map (cell_with_name c.self.inside.parts.names)) none in
    rw (c.from_residual.ensures, is) refl

pub returns-in_err-slot-clause-mac : goal.returns-in_err-slot-clause-mac
returns-in_err-slot-clause-mac c =
    let none : record_at c.self.inside.parts.teams.items c.args.id ≡ None = sym c.slot.ensures ∙ c.in_err-slot.was {u = tt} in
    let is : cell_at c.args.self.now c.args.id ≡ None =
    cell_is c.self.inside.parts c.args.self.now c.args.id c.self.view_is ∙ ap (option_map (cell_with_name c.self.inside.parts.names)) none in
    rw (c.from_residual.ensures, is) refl

pub returns-in_err-slot-clause-component : goal.returns-in_err-slot-clause-component
returns-in_err-slot-clause-component c =
    let none : record_at c.self.inside.parts.teams.items c.args.id ≡ None = sym c.slot.ensures ∙ c.in_err-slot.was {u = tt} in
    let is : component_at c.args.self.now c.args.id ≡ None =
    component_is c.self.inside.parts c.args.self.now c.args.id c.self.view_is ∙ ap (option_map (λ (s : CellRecord). s.component)) none in
    rw (c.from_residual.ensures, is) refl

pub returns-in_err-name_at-clause-name : goal.returns-in_err-name_at-clause-name
returns-in_err-name_at-clause-name c =
    let some : record_at c.self.inside.parts.teams.items c.args.id ≡ Some c.in_ok-slot.slot = sym c.slot.ensures ∙ c.in_ok-slot.was {u = tt} in
    absurd (none-some _ ((c.in_err-name_at.ensures {u = tt}).name ∙ name_there c.self.inside.parts c.args.id c.in_ok-slot.slot c.self.invariant some))

pub returns-in_err-name_at-clause-mac : goal.returns-in_err-name_at-clause-mac
returns-in_err-name_at-clause-mac c =
    let some : record_at c.self.inside.parts.teams.items c.args.id ≡ Some c.in_ok-slot.slot = sym c.slot.ensures ∙ c.in_ok-slot.was {u = tt} in
    absurd (none-some _ ((c.in_err-name_at.ensures {u = tt}).name ∙ name_there c.self.inside.parts c.args.id c.in_ok-slot.slot c.self.invariant some))

pub returns-in_err-name_at-clause-component : goal.returns-in_err-name_at-clause-component
returns-in_err-name_at-clause-component c =
    let some : record_at c.self.inside.parts.teams.items c.args.id ≡ Some c.in_ok-slot.slot = sym c.slot.ensures ∙ c.in_ok-slot.was {u = tt} in
    absurd (none-some _ ((c.in_err-name_at.ensures {u = tt}).name ∙ name_there c.self.inside.parts c.args.id c.in_ok-slot.slot c.self.invariant some))

pub returns-clause-name : goal.returns-clause-name
returns-clause-name c =
    let some : record_at c.self.inside.parts.teams.items c.args.id ≡ Some c.in_ok-slot.slot = sym c.slot.ensures ∙ c.in_ok-slot.was {u = tt} in
    let is : cell_at c.args.self.now c.args.id ≡ Some (cell_with_name c.self.inside.parts.names c.in_ok-slot.slot) =
    cell_is c.self.inside.parts c.args.self.now c.args.id c.self.view_is ∙ ap (option_map (cell_with_name c.self.inside.parts.names)) some in
    rw is ((c.in_ok-name_at.ensures {u = tt}).name ∙ name_there c.self.inside.parts c.args.id c.in_ok-slot.slot c.self.invariant some)

pub returns-clause-mac : goal.returns-clause-mac
returns-clause-mac c =
    let some : record_at c.self.inside.parts.teams.items c.args.id ≡ Some c.in_ok-slot.slot = sym c.slot.ensures ∙ c.in_ok-slot.was {u = tt} in
    let is : cell_at c.args.self.now c.args.id ≡ Some (cell_with_name c.self.inside.parts.names c.in_ok-slot.slot) =
    cell_is c.self.inside.parts c.args.self.now c.args.id c.self.view_is ∙ ap (option_map (cell_with_name c.self.inside.parts.names)) some in
    rw is refl

pub returns-clause-component : goal.returns-clause-component
returns-clause-component c =
    let some : record_at c.self.inside.parts.teams.items c.args.id ≡ Some c.in_ok-slot.slot = sym c.slot.ensures ∙ c.in_ok-slot.was {u = tt} in
    let is : component_at c.args.self.now c.args.id ≡ Some c.in_ok-slot.slot.component =
    component_is c.self.inside.parts c.args.self.now c.args.id c.self.view_is ∙ ap (option_map (λ (s : CellRecord). s.component)) some in
    rw is refl
