use Rattle.std.proofs.Common.{◌≡◌, ◌∙◌, true, sym, refl, map}
use Rattle.std.proofs.lemmas.Bool.{false≢true}
use Rattle.clap.specs.Simple.{app_of}
use Rattle.lf_cli.proofs.Found.{refused, taken}
use Rattle.lf_cli.proofs.parse.matches_of.Goals as goal

pub returns-in-Ok-try_get_matches_from-clause-ok : goal.returns-in-Ok-try_get_matches_from-clause-ok
returns-in-Ok-try_get_matches_from-clause-ok c =
    taken (app_of c.in-Ok.command) (map (λ word. word.now) c.args.words.now) c.in-Ok-try_get_matches_from.matches c.in-Ok.ensures
    c.in-Ok-try_get_matches_from.ensures.kinds c.in-Ok-try_get_matches_from.ensures.matches

pub returns-clause-err : goal.returns-clause-err
returns-clause-err c = λ same.
    refused (app_of c.in-Ok.command) (map (λ word. word.now) c.args.words.now) c.in-Err.error c.in-Ok.ensures c.in-Err.ensures.kinds
    (λ memory.
    let known = c.kind.ensures ∙ memory in
    let equal : c.eq.result ≡ true = c.eq.ensures ∙ rw known refl in
    false≢true (sym c.if-eq.false ∙ equal))
