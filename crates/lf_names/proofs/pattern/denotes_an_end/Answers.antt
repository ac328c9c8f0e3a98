use Rattle.std.proofs.lemmas.Bool.{false≢true}
use Rattle.lf_names.specs.Pattern.{parts_of}
use Rattle.lf_names.proofs.Parts.{at_first, nowhere, at_end}
use Rattle.lf_names.proofs.pattern.denotes_an_end.Goals as goal

pub returns-in_default-after_the_first : goal.returns-in_default-after_the_first
returns-in_default-after_the_first c = (
  λ t. absurd (false≢true t),
  λ h. absurd (nowhere (parts_of c.loop-piece.remaining_pattern.now) (parts_of c.in-Some.after_it.now) c.in-Some.piece.now c.in-Some.ensures.parts c.loop-piece.remaining_name.now
      c.in_default-after_the_first.ensures (c.loop-piece.invariant.0 h)),
)

pub loop-piece-preserved : goal.loop-piece-preserved
loop-piece-preserved c =
    let at = at_first (parts_of c.loop-piece.remaining_pattern.now) (parts_of c.in-Some.after_it.now) c.in-Some.piece.now c.in-Some.ensures.parts c.loop-piece.remaining_name.now
    c.in-Some-after_the_first.after.now c.in-Some-after_the_first.ensures in (
      λ h. at.0 (c.loop-piece.invariant.0 h),
      λ h. c.loop-piece.invariant.1 (at.1 h),
    )

pub returns : goal.returns
returns c =
    let at = at_end (parts_of c.loop-piece.remaining_pattern.now) c.loop-piece.remaining_pattern.now c.loop-piece.remaining_name.now c.ends_with.result c.in_default.ensures.parts c.ends_with.ensures.value in (
      λ t. c.loop-piece.invariant.1 (at.0 t),
      λ h. at.1 (c.loop-piece.invariant.0 h),
    )
