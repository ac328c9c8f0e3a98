use Rattle.std.proofs.Common.{◌≡◌, ◌<◌, Some, refl, sym, ap, ◌∙◌, arith, length}
use Rattle.std.specs.Prelude.{slice_get, option_map}
use Rattle.std.proofs.lemmas.Option.{slice_get_read, slice_get_within}
use Rattle.lf_cells.specs.declared.cell.CellId.{CellId}
use Rattle.lf_cells.proofs.Finding.{no_own, other_own, found_own, found_within}
use Rattle.lf_cells.proofs.table.CellTable.find_own.Goals as goal

pub returns-in_err-label-clause-own : goal.returns-in_err-label-clause-own
returns-in_err-label-clause-own c =
    ap (option_map (λ (id : CellId). id.own)) c.from_residual.ensures
    ∙ sym (no_own c.self.inside.parts c.args.self.now c.args.name.now c.args.team c.self.invariant c.self.view_is
    (sym (c.in_err-label.ensures {u = tt}).position))

pub returns-then-id-team-clause-own : goal.returns-then-id-team-clause-own
returns-then-id-team-clause-own c =
    let p = c.self.inside.parts in
    let label = c.in_ok-label.label in
    let within : label < length p.names = slice_get_within p.names label c.args.name.now (c.in_ok-label.ensures {u = tt}).found in
    let owner : slice_get p.owners.items label ≡ Some c.index-id.result.now =
    slice_get_read p.owners.items (length p.owners.items) label c.index-id.result.now refl (omega (arith, within, c.self.invariant.many)) c.index-id.ensures
    in
    sym (found_own p c.args.self.now c.args.name.now c.args.team label c.index-id.result.now c.self.invariant c.self.view_is
    (sym (c.in_ok-label.ensures {u = tt}).position) owner c.if-id-team.true)

pub returns-then-id-team-clause-within : goal.returns-then-id-team-clause-within
returns-then-id-team-clause-within c =
    let p = c.self.inside.parts in
    let label = c.in_ok-label.label in
    let within : label < length p.names = slice_get_within p.names label c.args.name.now (c.in_ok-label.ensures {u = tt}).found in
    let owner : slice_get p.owners.items label ≡ Some c.index-id.result.now =
    slice_get_read p.owners.items (length p.owners.items) label c.index-id.result.now refl (omega (arith, within, c.self.invariant.many)) c.index-id.ensures
    in
    found_within p c.args.self.now c.args.team label c.index-id.result.now c.self.invariant c.self.view_is owner c.if-id-team.true

pub returns-clause-own : goal.returns-clause-own
returns-clause-own c =
    let p = c.self.inside.parts in
    let label = c.in_ok-label.label in
    let within : label < length p.names = slice_get_within p.names label c.args.name.now (c.in_ok-label.ensures {u = tt}).found in
    let owner : slice_get p.owners.items label ≡ Some c.index-id.result.now =
    slice_get_read p.owners.items (length p.owners.items) label c.index-id.result.now refl (omega (arith, within, c.self.invariant.many)) c.index-id.ensures
    in
    sym (other_own p c.args.self.now c.args.name.now c.args.team label c.index-id.result.now c.self.invariant c.self.view_is
    (sym (c.in_ok-label.ensures {u = tt}).position) owner c.if-id-team.false)
