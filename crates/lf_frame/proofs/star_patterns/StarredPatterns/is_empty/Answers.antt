use Rattle.std.proofs.Common.{sym, ◌∙◌}
use Rattle.std.proofs.lemmas.Bool.{false≢true}
use Rattle.lf_frame.proofs.TwoEnds.{none_together, none_at_front, none_at_back}
use Rattle.lf_frame.proofs.star_patterns.StarredPatterns.is_empty.Goals as goal

pub returns-then-is_empty : goal.returns-then-is_empty
returns-then-is_empty c = λ bounds h.
    let front = c.is_empty.ensures h.fronts h.by_front in
    let back = c.is_empty-then-is_empty.ensures h.backs h.by_back in (
      λ t. none_together c.args.self.now bounds h (front.0 c.if-is_empty.true) (back.0 t),
      λ none. back.1 (none_at_back c.args.self.now bounds h none),
    )

pub returns-else-is_empty : goal.returns-else-is_empty
returns-else-is_empty c = λ bounds h. (
  λ t. absurd (false≢true (sym c.if-is_empty.false ∙ t)),
  λ none. (c.is_empty.ensures h.fronts h.by_front).1 (none_at_front c.args.self.now bounds h none),
)
