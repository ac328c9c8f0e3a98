use Rattle.std.proofs.Common.{◌≡◌, ◌∙◌, arith, get_or, refl, subst, sym}
use Rattle.std.proofs.lemmas.List.{get_or_default}
use Rattle.std.proofs.lemmas.Option.{slice_get_within}
use Rattle.lf_cells.specs.declared.cell.CellId.{CellId}
use Rattle.lf_cells.specs.Cells.{cells_of, committed_at, id_of, working_at}
use Rattle.lf_cells.proofs.TeamIds.{ids_long, ids_read}
use Rattle.lf_task_files.proofs.CommittedVerdicts.{same_members, same_so_far}
use Rattle.lf_task_files.proofs.committed_legality.works_as_committed.Goals as goal

abbrev no_id : CellId
no_id = record { team = 0; own = 0 }

pub loop-id-preserved : goal.loop-id-preserved
loop-id-preserved c =
    let team = c.args.team in
    let table = c.args.cells.now in
    let cells = cells_of table team in
    let k = c.loop-id.id-index in
    let ids = c.cells_of-id-items.result.now in
    let id : get_or ids k no_id ≡ id_of team k =
    ids_read team k cells ids (get_or ids k no_id) c.cells_of-id-items.ensures c.loop-id-test.true
    (get_or_default ids k no_id (get_or ids k no_id) c.loop-id-test.true) in
    let same = sym c.working.ensures ∙ c.if-not-same_place.ensures.0 refl ∙ c.committed.ensures in
    same_so_far cells k c.loop-id.invariant
    (subst (λ (i : CellId). working_at (cells_of table i.team) i.own ≡ committed_at (cells_of table i.team) i.own) id same)

pub returns : goal.returns
returns c = λ yes.
    let team = c.args.team in
    let cells = cells_of c.args.cells.now team in
    let ids = c.cells_of-id-items.result.now in
    let long = ids_long team cells ids c.cells_of-id-items.ensures in
    same_members cells (λ k d there.
    let within = slice_get_within cells k d there in
    c.loop-id.invariant k d (omega (arith, within, long, c.loop-id-test.false)) there)
