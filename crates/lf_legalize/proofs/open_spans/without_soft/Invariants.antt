use Rattle.lf_legalize.proofs.SoftLemmas.{AreWithoutFirst}
use Rattle.lf_legalize.proofs.open_spans.without_soft.Given as goal

-- the soft spans of the strips visited are removed
abbrev pub invariant-loop-n : goal.invariant-loop-n
invariant-loop-n l = AreWithoutFirst l.index.soft l.initial.n l.n l.n-end l.fn.free.items l.left.items
