use Rattle.std.proofs.Common.{◌≡◌, ◌∙◌, ◌++◌, ◌<◌, List, Some, pos, length, map, take, get_or, refl, sym, ap, subst, arith}
use Rattle.std.specs.Prelude.{slice_get, option_map}
use Rattle.std.proofs.lemmas.List.{append-nil, take_all}
use Rattle.std.proofs.lemmas.Option.{slice_get-map, slice_get_read}
use Rattle.std.proofs.Math.ListN.{length-map}
use Rattle.lf_units.specs.declared.placed.Placed.{Placed}
use Rattle.lf_reports.specs.Reports.{with_byte_name, HaveVerdicts}
use Rattle.lf_reports.proofs.VerdictLists.{fetched_at, listed_there, next_done}
use Rattle.lf_reports.proofs.verdicts.put_verdicts.Goals as goal

abbrev nowhere : Placed
nowhere = record { own = 0; rect = record { x1 = pos 0; y1 = pos 0; x2 = pos 0; y2 = pos 0 } }

-- The cell at the loop's number is the one of its box.
there : (c : goal.After-put_verdict-arg-1) →
    slice_get (map with_byte_name c.args.cells.now) (get_or c.args.boxes.now c.loop-number.number nowhere).own ≡ Some (with_byte_name c.index-cell.result.now)
there c =
    let cells = map with_byte_name c.args.cells.now in
    let items = c.in_ok-fetched.fetched.items in
    let number = c.loop-number.number in
    let same : map Some (map with_byte_name items) ≡ map (λ p. slice_get cells p.own) c.args.boxes.now = c.in_ok-fetched.ensures in
    let long : length items ≡ length c.args.boxes.now =
    sym (length-map items with_byte_name) ∙ sym (length-map (map with_byte_name items) Some) ∙ ap length same ∙ length-map c.args.boxes.now (λ p. slice_get cells p.own) in
    let below : number < length c.args.boxes.now = c.loop-number-test.true in
    let within : number < length items = omega (arith, long, below) in
    let read : slice_get items number ≡ Some c.index-cell.result.now = slice_get_read items _ number c.index-cell.result.now refl within c.index-cell.ensures in
    fetched_at cells (map with_byte_name items) c.args.boxes.now number nowhere (with_byte_name c.index-cell.result.now) same below (slice_get-map with_byte_name items number ∙ ap (option_map with_byte_name) read)

pub put_verdict-requires-clause-cell : goal.put_verdict-requires-clause-cell
put_verdict-requires-clause-cell c = record {
  this = listed_there c.args.frame.now c.args.cells.now (get_or c.args.boxes.now c.loop-number.number nowhere).own (with_byte_name c.index-cell.result.now)
      c.requires.listed.listed (there c);
  there = there c;
  within = c.requires.known c.loop-number.number nowhere c.loop-number-test.true;
}

pub loop-number-init : goal.loop-number-init
loop-number-init c = (
  c.requires.count,
  λ l done have. subst (λ (xs : List Placed). HaveVerdicts l c.args.frame.now c.args.near.now.padding.sites (map with_byte_name c.args.cells.now) xs c.args.verdicts.now.items) (sym (append-nil done)) have,
)

pub loop-number-preserved : goal.loop-number-preserved
loop-number-preserved c = (
  c.put_verdict.ensures.count,
  λ l done have.
      let before = c.loop-number.invariant.1 l done have in
      next_done l c.args.frame.now c.args.near.now.padding.sites (map with_byte_name c.args.cells.now) done c.args.boxes.now c.loop-number.number nowhere c.loop-number.verdicts.items _
      c.loop-number-test.true before (c.put_verdict.ensures.put l before.some),
)

pub returns-clause-put : goal.returns-clause-put
returns-clause-put c = λ l done have.
    let all : take c.loop-number.number c.args.boxes.now ≡ c.args.boxes.now = take_all c.loop-number.number c.args.boxes.now c.loop-number-test.false in
    subst (λ (xs : List Placed). HaveVerdicts l c.args.frame.now c.args.near.now.padding.sites (map with_byte_name c.args.cells.now) (done ++ xs) c.loop-number.verdicts.items) all (c.loop-number.invariant.1 l done have)
