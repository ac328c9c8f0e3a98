use Rattle.std.proofs.Common.{◌⊎◌, inl, inr, ◌≤ℤ◌, ◌<ℤ◌, pos, get_or, refl, arith}
use Rattle.std.proofs.lemmas.Int.{ints}
use Rattle.lf_occupancy.specs.declared.strip_marks.Mark.{Mark}
use Rattle.lf_occupancy.proofs.Runs.{below_more, not_below_from}
use Rattle.lf_occupancy.proofs.strip_marks.count_front.Goals as goal

abbrev no_mark : Mark
no_mark = record { own = 0; left = pos 0; width = pos 0 }

pub returns-then-not-begins_before-clause-rest : goal.returns-then-not-begins_before-clause-rest
returns-then-not-begins_before-clause-rest c =
    not_below_from c.args.marks.now c.args.x.now c.requires c.loop-n.n no_mark c.loop-n-test.true
    (let at = (get_or c.args.marks.now c.loop-n.n no_mark).left in
    let order : (at <ℤ c.args.x.now) ⊎ (c.args.x.now ≤ℤ at) = grind (arith, ints) in
    elim order [ inl less ↦ let yes = c.if-not-begins_before.ensures.1 less in absurd cc | inr more ↦ more ])

pub loop-n-preserved : goal.loop-n-preserved
loop-n-preserved c =
    below_more c.args.marks.now c.args.x.now c.loop-n.n no_mark c.loop-n-test.true c.loop-n.invariant (c.if-not-begins_before.ensures.0 refl)
