use Rattle.std.proofs.Common.{◌⊎◌, inl, inr, ◌/◌, ◌≤ℤ◌, ◌<ℤ◌, ◌+◌, ◌-◌, ℕ, pos, get_or, refl, sym, subst, arith}
use Rattle.std.proofs.lemmas.Int.{ints}
use Rattle.lf_occupancy.specs.declared.strip_marks.Mark.{Mark}
use Rattle.lf_occupancy.proofs.Runs.{IsHalved, below_last, halved_above, halved_below}
use Rattle.lf_occupancy.proofs.strip_marks.count_before.Goals as goal
use Rattle.lf_occupancy.proofs.strip_marks.count_before.Goals.{then-begins_before-2, else-begins_before-2}

abbrev no_mark : Mark
no_mark = record { own = 0; left = pos 0; width = pos 0 }

pub returns-then-begins_before-clause-below : goal.returns-then-begins_before-clause-below
returns-then-begins_before-clause-below c =
    below_last c.args.marks.now c.args.x.now c.requires no_mark c.if-many-gt0.true (c.if-begins_before.ensures.0 refl)

pub loop-rest-preserved : goal.loop-rest-preserved
loop-rest-preserved c = elim c.if-begins_before-2.branch [
  | then-begins_before-2 w ↦ subst (λ (n : ℕ). IsHalved c.args.marks.now c.args.x.now n (c.loop-rest.rest / 2)) (sym w.from-is)
      (halved_above c.args.marks.now c.args.x.now c.loop-rest.from c.loop-rest.rest no_mark c.requires c.loop-rest-test.true
      (w.if-begins_before-2.ensures.0 refl) c.loop-rest.invariant)
  | else-begins_before-2 w ↦ subst (λ (n : ℕ). IsHalved c.args.marks.now c.args.x.now n (c.loop-rest.rest / 2)) (sym w.from-is)
      (halved_below c.args.marks.now c.args.x.now c.loop-rest.from c.loop-rest.rest no_mark c.requires c.loop-rest-test.true
      (let middle = (get_or c.args.marks.now (c.loop-rest.from + (c.loop-rest.rest - c.loop-rest.rest / 2) - 1) no_mark).left in
      let order : (middle <ℤ c.args.x.now) ⊎ (c.args.x.now ≤ℤ middle) = grind (arith, ints) in
      elim order [ inl less ↦ let yes = w.if-begins_before-2.ensures.1 less in absurd cc | inr more ↦ more ]) c.loop-rest.invariant)
]
