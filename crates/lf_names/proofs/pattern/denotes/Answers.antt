use Rattle.std.proofs.Common.{None, Some, sym}
use Rattle.std.proofs.lemmas.Bool.{false≢true}
use Rattle.std.proofs.lemmas.Bool.Decides.{Decides-eqb}
use Rattle.std.proofs.lemmas.Slice.Eq.{slice_eq-Decides, strip_prefix_is}
use Rattle.lf_names.specs.Pattern.{parts_of}
use Rattle.lf_names.proofs.Parts.{own_bytes, at_front, not_at_front}
use Rattle.lf_names.proofs.pattern.denotes.Goals as goal

pub returns-in_default : goal.returns-in_default
returns-in_default c =
    let own = own_bytes (parts_of c.args.pattern.now) c.args.pattern.now c.args.name.now c.in_default.ensures.parts in
    let same = slice_eq-Decides Decides-eqb c.args.pattern.now c.args.name.now c.eq.result c.eq.ensures in (
      λ t. own.1 (sym (same.0 t)),
      λ h. same.1 (sym (own.0 h)),
    )

pub returns-in-Some-strip_prefix : goal.returns-in-Some-strip_prefix
returns-in-Some-strip_prefix c =
    let front = strip_prefix_is Decides-eqb c.args.name.now c.in-Some.piece.now (Some c.in-Some-strip_prefix.rest) c.in-Some-strip_prefix.ensures.cases in
    let at = at_front (parts_of c.args.pattern.now) (parts_of c.in-Some.after_it.now) c.in-Some.piece.now c.in-Some.ensures.parts c.args.name.now c.in-Some-strip_prefix.rest.now front in (
      λ t. at.0 (c.denotes_an_end.ensures.0 t),
      λ h. c.denotes_an_end.ensures.1 (at.1 h),
    )

pub returns-in-None : goal.returns-in-None
returns-in-None c =
    let apart = strip_prefix_is Decides-eqb c.args.name.now c.in-Some.piece.now None c.in-None.ensures.cases in (
      λ t. absurd (false≢true t),
      λ h. absurd (not_at_front (parts_of c.args.pattern.now) (parts_of c.in-Some.after_it.now) c.in-Some.piece.now c.in-Some.ensures.parts c.args.name.now apart h),
    )
