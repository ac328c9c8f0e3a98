use Rattle.std.proofs.Common.{◌≡◌, List, length, get_or, ap, arith, rules}
use Rattle.std.proofs.lemmas.Int.{ints, clamps}
use Rattle.lf_occupancy.specs.declared.strip_marks.Mark.{Mark}
use Rattle.lf_occupancy.proofs.strip_marks.join.Goals as goal

pub overflow_sub-part : goal.overflow_sub-part
overflow_sub-part c =
    let low = c.args.part.now.left.low in
    let high = c.args.part.now.right in
    let wide = c.args.part.now.whole.wide in
    omega (arith, ints, low, high, wide)

pub returns : goal.returns
returns c =
    let old = c.args.mark_list.now.marks.items in
    let at = c.count_before-at.result in
    let same = c.as_slice.ensures.value in
    record {
      at = at;
      bound = let h = c.count_before-at.ensures.within in let long = ap (λ (xs : List Mark). length xs) same in omega (arith, h, long);
      marks = c.insert_at.ensures.items;
      before = λ k d less.
          let h = c.count_before-at.ensures.below k d less in
          let there : (get_or c.as_slice.result.now k d).left ≡ (get_or old k d).left = ap (λ (xs : List Mark). (get_or xs k d).left) same in
          let left = c.from.ensures in
          omega (arith, ints, h, there, left);
      after_it = λ k d from until.
          let long = ap (λ (xs : List Mark). length xs) same in
          let h = c.count_before-at.ensures.rest k d from (omega (arith, until, long)) in
          let there : (get_or c.as_slice.result.now k d).left ≡ (get_or old k d).left = ap (λ (xs : List Mark). (get_or xs k d).left) same in
          let left = c.from.ensures in
          omega (arith, ints, h, there, left);
      widest = let h = c.max-mark_list.ensures.value in
          let low = c.args.part.now.left.low in
          let high = c.args.part.now.right in
          let wide = c.args.part.now.whole.wide in
          omega (arith, ints, clamps, h, low, high, wide);
      more = search rules;
      room = search rules;
    }
