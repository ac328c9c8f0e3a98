use Rattle.std.proofs.Common.{ℕ, List, [], ◌∷◌, ◌++◌, length, ap, ◌∙◌}
use Rattle.lf_units.specs.declared.span.Span.{Span}
use Rattle.lf_segments.specs.Soft.{lists_from}
use Rattle.lf_segments.proofs.SoftLemmas.{pieces_more}
use Rattle.lf_segments.proofs.soft_spans.push_piece.Goals as goal

pub returns-clause-pieces : goal.returns-clause-pieces
returns-clause-pieces c =
    let spans = c.args.spans.now.items in
    let starts = c.args.starts.now.items in
    let more = c.args.more.now in
    ap (λ (xs : List Span). lists_from xs c.push.new.self.items) c.in_ok-extend_from_slice.ensures.items
    ∙ ap (λ (ns : List ℕ). lists_from (spans ++ more) ns) (c.in_ok-push.ensures.items ∙ ap (λ (xs : List Span). starts ++ length xs ∷ []) c.as_slice.ensures.value)
    ∙ pieces_more spans more starts c.requires.within
