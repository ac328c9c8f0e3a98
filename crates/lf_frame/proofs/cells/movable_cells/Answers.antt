use Rattle.std.proofs.Common.{◌≡◌, ◌<◌, ◌≤◌, length, get_or, arith, ap, List, refl, sym, ◌∙◌}
use Rattle.lf_def.specs.declared.components.Component.{Component}
use Rattle.lf_frame.specs.Findings.{LoadInputs, inputs}
use Rattle.lf_floorplan.specs.LoadedCells.{with_name}
use Rattle.lf_frame.specs.Loads.{CanBeCell}
use Rattle.lf_frame.proofs.DesignMade.{macro_within, team_within}
use Rattle.lf_frame.proofs.CellsMade.{macro_read, team_read, cell_more, none_more, all_made, none_earlier, stays_earlier, one_earlier, is_new}
use Rattle.lf_frame.proofs.cells.movable_cells.Goals.{then-is_movable+in_ok-push, else-is_movable}
use Rattle.lf_frame.proofs.cells.movable_cells.Goals as goal

pub loop-number-preserved : goal.loop-number-preserved
loop-number-preserved c =
    let i : LoadInputs = inputs c.args.library.now c.args.document.now c.args.limits.now in
    let same : c.as_slice-component-items.result.now ≡ c.args.document.now.components = c.as_slice-component-items.ensures in
    let within : c.loop-number.number < length c.args.document.now.components = rw same at c.loop-number-test.true in
    let is : c.component-item.result ≡ get_or c.args.document.now.components c.loop-number.number c.component-item.result = rw same at c.component-item.is in
    elim c.if-is_movable.branch [
      | then-is_movable+in_ok-push w ↦
          let pushed = w.in_ok-push.ensures {u = tt} in
          let cell = with_name c.component-item.result.name w.cell_of-cell.result in
          let able : CanBeCell i c.component-item.result =
          rw (← is) at (c.requires.able c.loop-number.number c.component-item.result within) (sym c.is_movable.ensures ∙ w.if-is_movable.true) in
          let of = team_read c.args.document.now.regions c.args.document.now.groups c.args.document.now.components c.args.claims.now c.loop-number.number c.component-item.result w.team_at-team.result
          w.team_at-team.ensures c.requires.claims c.requires.differ within is able.once in
          let read = macro_read c.args.library.now c.args.document.now.components c.args.macros.now c.loop-number.number c.component-item.result c.requires.macros within is in
          let mac = sym read ∙ sym w.macro_at.ensures ∙ w.unwrap-mac.ensures in
          rw (w.cells-is, pushed.ok, w.name.ensures) (
            cell_more i c.args.document.now.components c.loop-number.number c.component-item.result c.loop-number.cells cell within is (sym c.is_movable.ensures ∙ w.if-is_movable.true) (w.cell_of-cell.ensures i of mac) c.loop-number.invariant.0,
            one_earlier c.args.document.now.components c.loop-number.number c.component-item.result c.loop-number.cells cell within is refl c.loop-number.invariant.1,
          )
      | else-is_movable w ↦ rw w.cells-is (
        none_more i c.args.document.now.components c.loop-number.number c.component-item.result c.loop-number.cells within is (sym c.is_movable.ensures ∙ w.if-is_movable.false) c.loop-number.invariant.0,
        stays_earlier c.args.document.now.components c.loop-number.number c.loop-number.cells c.loop-number.invariant.1,
      )
    ]

pub loop-number-init : goal.loop-number-init
loop-number-init c = rw (c.in_ok-cells.ensures {u = tt}) (λ more zip. zip, none_earlier c.args.document.now.components)

pub push-requires : goal.push-requires
push-requires c =
    let same : c.as_slice-component-items.result.now ≡ c.args.document.now.components = c.as_slice-component-items.ensures in
    let within : c.loop-number.number < length c.args.document.now.components = rw same at c.loop-number-test.true in
    let is : c.component-item.result ≡ get_or c.args.document.now.components c.loop-number.number c.component-item.result = rw same at c.component-item.is in
    rw c.name.ensures
    (is_new c.args.document.now.components c.loop-number.number c.component-item.result c.loop-number.cells c.requires.differ within is c.loop-number.invariant.1)

pub cell_of-cell-requires-clause-range : goal.cell_of-cell-requires-clause-range
cell_of-cell-requires-clause-range c =
    let same : c.as_slice-component-items.result.now ≡ c.args.document.now.components = c.as_slice-component-items.ensures in
    let within : c.loop-number.number < length c.args.document.now.components = rw same at c.loop-number-test.true in
    let is : c.component-item.result ≡ get_or c.args.document.now.components c.loop-number.number c.component-item.result = rw same at c.component-item.is in
    rw (← is) at (c.requires.ranged c.loop-number.number c.component-item.result within)

pub cell_of-cell-requires-clause-few_teams : goal.cell_of-cell-requires-clause-few_teams
cell_of-cell-requires-clause-few_teams c =
    let same : c.as_slice-component-items.result.now ≡ c.args.document.now.components = c.as_slice-component-items.ensures in
    let within : c.loop-number.number < length c.args.document.now.components = rw same at c.loop-number-test.true in
    let is : c.component-item.result ≡ get_or c.args.document.now.components c.loop-number.number c.component-item.result = rw same at c.component-item.is in
    let able : CanBeCell (inputs c.args.library.now c.args.document.now c.args.limits.now) c.component-item.result =
    rw (← is) at (c.requires.able c.loop-number.number c.component-item.result within) (sym c.is_movable.ensures ∙ c.if-is_movable.true) in
    let of = team_read c.args.document.now.regions c.args.document.now.groups c.args.document.now.components c.args.claims.now c.loop-number.number c.component-item.result c.team_at-team.result
    c.team_at-team.ensures c.requires.claims c.requires.differ within is able.once in
    let within = team_within c.args.document.now.regions c.args.document.now.groups c.component-item.result.name c.team_at-team.result of in
    omega (arith, within, c.requires.few_fences)

pub cell_of-cell-requires-clause-few_macros : goal.cell_of-cell-requires-clause-few_macros
cell_of-cell-requires-clause-few_macros c =
    let same : c.as_slice-component-items.result.now ≡ c.args.document.now.components = c.as_slice-component-items.ensures in
    let within : c.loop-number.number < length c.args.document.now.components = rw same at c.loop-number-test.true in
    let is : c.component-item.result ≡ get_or c.args.document.now.components c.loop-number.number c.component-item.result = rw same at c.component-item.is in
    let read = macro_read c.args.library.now c.args.document.now.components c.args.macros.now c.loop-number.number c.component-item.result c.requires.macros within is in
    let known : c.unwrap-mac.result < length c.args.library.now.macros = macro_within c.args.library.now.macros c.component-item.result.mac c.unwrap-mac.result
    (sym read ∙ sym c.macro_at.ensures ∙ c.unwrap-mac.ensures) in
    omega (arith, known, c.macros.ensures.few)

pub cell_of-cell-requires-clause-few_components : goal.cell_of-cell-requires-clause-few_components
cell_of-cell-requires-clause-few_components c =
    let same : c.as_slice-component-items.result.now ≡ c.args.document.now.components = c.as_slice-component-items.ensures in
    let within : c.loop-number.number < length c.args.document.now.components = rw same at c.loop-number-test.true in
    omega (arith, within, c.requires.few_components)

pub returns : goal.returns
returns c =
    let i : LoadInputs = inputs c.args.library.now c.args.document.now c.args.limits.now in
    let same : c.as_slice-component-items.result.now ≡ c.args.document.now.components = c.as_slice-component-items.ensures in
    let count = ap (λ (xs : List Component). length xs) same in
    let past : length c.args.document.now.components ≤ c.loop-number.number = omega (arith, count) in
    all_made i c.args.document.now.components c.loop-number.number c.loop-number.cells past c.loop-number.invariant.0
