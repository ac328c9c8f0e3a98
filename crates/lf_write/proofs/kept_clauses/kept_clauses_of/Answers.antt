use Rattle.std.proofs.Common.{ap, sym, List, ◌∙◌, ◌++◌, ◌∷◌, []}
use Rattle.std.proofs.lemmas.List.{map_more}
use Rattle.lf_write.specs.Export.{ClauseFacts, clause_of}
use Rattle.lf_write.proofs.kept_clauses.kept_clauses_of.Goals as goal

pub loop-component-preserved : goal.loop-component-preserved
loop-component-preserved c =
    let all = c.args.components.now in
    let next = map_more (clause_of c.args.text.now) all c.loop-component.component-index c.component-item.result c.loop-component-test.true in
    let kept = c.loop-component.invariant in
    let more = c.in_ok-keep.ensures.more ∙ ap (λ (z : List ClauseFacts). z ++ c.clause_in_text-clause.result ∷ []) kept.are in
    rw (next, sym c.component-item.is, sym c.clause_in_text-clause.ensures) (record { are = more; within = c.in_ok-keep.ensures.within })
