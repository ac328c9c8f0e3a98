use Rattle.std.proofs.Common.{inl, inr, refl, subst, ap, arith}
use Rattle.std.proofs.lemmas.Bool.{false≢true}
use Rattle.std.proofs.lemmas.Int.{ints, clamps}
use Rattle.lf_units.specs.declared.geometry.Rect.{Rect}
use Rattle.lf_occupancy.specs.MarkLists.{IsAdded, IsPutPart, HasPoints}
use Rattle.lf_occupancy.proofs.strip_marks.put_in.Goals as goal

pub invariant_of-covered : goal.invariant_of-covered
invariant_of-covered c =
    let left = ap (λ (r : Rect). r.x1) c.part_of-part.ensures in
    let right = ap (λ (r : Rect). r.x2) c.part_of-part.ensures in
    let begins = c.requires.within.begins in
    let most = c.requires.within.high in
    let low = c.args.cell.now.edge.low in
    let high = c.args.cell.now.edge.high in
    record {
      left = record { low = omega (arith, ints, clamps, left, low); high = omega (arith, ints, clamps, left, begins, high) };
      right = omega (arith, ints, clamps, right, most);
      whole = c.if-has_points.ensures.0 refl;
    }

pub join-requires : goal.join-requires
join-requires c = record {
  order = c.requires.takes.order;
  room = c.requires.takes.room (subst HasPoints c.part_of-part.ensures (c.if-has_points.ensures.0 refl));
}

pub returns-then-has_points : goal.returns-then-has_points
returns-then-has_points c =
    let own = c.args.cell.now.id.now.own in
    let part = c.part_of-part.result in
    let added : IsAdded own part c.args.mark_list.now c.join.new.mark_list = record {
      mark = c.mark_of.result;
      of = record { is = c.mark_of.ensures.is; left = c.mark_of.ensures.left; width = c.mark_of.ensures.width; some = c.mark_of.ensures.some };
      joined = c.join.ensures;
    } in
    subst (λ (r : Rect). IsPutPart own r c.args.mark_list.now c.join.new.mark_list) c.part_of-part.ensures (inl (c.if-has_points.ensures.0 refl, added))

pub returns-else-has_points : goal.returns-else-has_points
returns-else-has_points c =
    subst (λ (r : Rect). IsPutPart c.args.cell.now.id.now.own r c.args.mark_list.now c.args.mark_list.now) c.part_of-part.ensures
    (inr (λ whole. false≢true (c.if-has_points.ensures.1 whole), refl))
