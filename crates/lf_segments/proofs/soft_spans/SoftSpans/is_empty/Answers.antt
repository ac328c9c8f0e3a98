use Rattle.std.proofs.Common.{◌≡◌, List, [], length, get_or, subst, rules}
use Rattle.lf_units.specs.declared.span.Span.{Span}
use Rattle.lf_segments.proofs.SoftLemmas.{no_pieces}
use Rattle.lf_segments.proofs.soft_spans.SoftSpans.is_empty.Goals as goal

pub returns : goal.returns
returns c = λ t k.
    let spans = c.self.inside.spans.items in
    let none : length spans ≡ 0 = search rules in
    subst (λ (lists : List (List Span)). get_or lists k [] ≡ []) c.self.view_is (no_pieces spans c.self.inside.starts.items k none)
