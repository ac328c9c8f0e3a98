use Rattle.std.proofs.Common.{◌≡◌, ℕ, ◌≤◌, ◌+ℤ◌, ◌*ℤ◌, ◌≤ℤ◌, ◌<ℤ◌, pos, refl, sym, subst, ◌∙◌, arith, below_more, to_z, of_z, w64}
use Rattle.std.proofs.lemmas.Int.{ints}
use Rattle.lf_floorplan.specs.RowSupport.{IsSitesHigh}
use Rattle.lf_segments.specs.Laws.{LiesAt}
use Rattle.lf_segments.proofs.OnRowLemmas.{all_lie, ends_by_level, level_lies, starts_in_def}
use Rattle.lf_segments.proofs.row_lookup.lies_in.Goals as goal

pub level_above-y-requires : goal.level_above-y-requires
level_above-y-requires c =
    let most : c.loop-level.level ≤ 8 = omega arith in
    record {
      from = starts_in_def c.args.frame.now c.args.rect.now c.requires.is_in_place;
      high = c.args.frame.now.pitch_whole.high;
      low = c.args.frame.now.pitch_whole.y_small;
      few = most;
    }

pub returns-then-rect-y : goal.returns-then-rect-y
returns-then-rect-y c =
    let f = c.args.frame.now in
    let box = c.args.rect.now in
    let level = c.loop-level.level in
    let at = c.level_above-y.ensures in
    let test = c.if-rect-y.true in
    let ends : box.y2 ≤ℤ (box.y1 +ℤ (pos level *ℤ f.pitch.y)) = omega (arith, ints, at, test) in (
      λ yes. all_lie f c.args.segments.now c.args.team box level c.requires.lookup.wide c.loop-level.invariant (ends_by_level f box level ends),
      λ lies. refl,
    )

pub returns-then-not-lies_at : goal.returns-then-not-lies_at
returns-then-not-lies_at c =
    let f = c.args.frame.now in
    let box = c.args.rect.now in
    let xs = c.args.segments.now in
    let level = c.loop-level.level in
    let at = c.level_above-y.ensures in
    let test = c.if-rect-y.false in
    let same : to_z w64 (of_z w64 c.level_above-y.result) ≡ c.level_above-y.result = omega (arith, ints) in
    let under : (box.y1 +ℤ (pos level *ℤ f.pitch.y)) <ℤ box.y2 = omega (arith, ints, at, test) in (
      λ yes. absurd cc,
      λ lies.
          c.if-not-lies_at.ensures.1
          (subst (LiesAt f xs c.args.team box) (sym (same ∙ at)) (level_lies f xs c.args.team box level c.requires.lookup.wide c.requires.is_in_place under lies)),
    )

pub loop-level-preserved : goal.loop-level-preserved
loop-level-preserved c =
    let same : to_z w64 (of_z w64 c.level_above-y.result) ≡ c.level_above-y.result = omega (arith, ints) in
    below_more _ _ c.loop-level.invariant
    (subst (LiesAt c.args.frame.now c.args.segments.now c.args.team c.args.rect.now) (same ∙ c.level_above-y.ensures) (c.if-not-lies_at.ensures.0 refl))

pub returns : goal.returns
returns c =
    let f = c.args.frame.now in
    let box = c.args.rect.now in
    let level = c.loop-level.level in
    let test = c.loop-level-test.false in
    let most : (k : ℕ) → IsSitesHigh f box k → k ≤ level = λ k high. let bound = high.most in omega (arith, test, bound) in (
      λ yes. all_lie f c.args.segments.now c.args.team box level c.requires.lookup.wide c.loop-level.invariant most,
      λ lies. refl,
    )
