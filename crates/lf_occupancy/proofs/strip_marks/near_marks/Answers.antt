use Rattle.std.proofs.Common.{◌≡◌, ◌-◌, List, get_or, length, take, drop, ap, ◌∙◌, arith}
use Rattle.std.proofs.lemmas.Int.{ints}
use Rattle.std.proofs.lemmas.List.Elements.{All-take}
use Rattle.lf_units.proofs.Lists.{rest_from}
use Rattle.lf_occupancy.specs.declared.strip_marks.Mark.{Mark}
use Rattle.lf_occupancy.specs.MarkLists.{MarkIsOf, marked_entry}
use Rattle.lf_occupancy.proofs.Showing.{near_marked, rest_reported}
use Rattle.lf_occupancy.proofs.strip_marks.near_marks.Goals as goal

pub returns-clause-near : goal.returns-clause-near
returns-clause-near c = λ cells area marked.
    let l = c.args.mark_list.now in
    let lo = c.args.lo.now in
    let hi = c.args.hi.now in
    let ms = c.as_slice-marks.result.now in
    let f = c.count_before.result in
    let n = c.count_front.result in
    let rest = take (length ms - f) (drop f ms) in
    let same : ms ≡ l.marks.items = c.as_slice-marks.ensures.value in
    let bound = c.count_before.ensures.within in
    let long = ap (λ (xs : List Mark). length xs) same in
    near_marked cells area l rest lo hi f n marked (omega (arith, bound, long)) (rest_from ms f ∙ ap (λ (xs : List Mark). drop f xs) same)
    (λ k d less.
    let h = c.count_before.ensures.below k d less in
    let there : (get_or ms k d).left ≡ (get_or l.marks.items k d).left = ap (λ (xs : List Mark). (get_or xs k d).left) same in
    omega (arith, ints, h, there))
    c.count_front.ensures.rest

pub returns-clause-reported : goal.returns-clause-reported
returns-clause-reported c = λ cells area marked.
    let l = c.args.mark_list.now in
    let ms = c.as_slice-marks.result.now in
    let f = c.count_before.result in
    let rest = take (length ms - f) (drop f ms) in
    let same : ms ≡ l.marks.items = c.as_slice-marks.ensures.value in
    All-take (λ m. MarkIsOf (marked_entry cells area m) m) c.count_front.result rest
    (rest_reported cells area l rest f marked (rest_from ms f ∙ ap (λ (xs : List Mark). drop f xs) same))
