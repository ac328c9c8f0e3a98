use Rattle.std.proofs.Common.{refl}
use Rattle.std.specs.Prelude.{map}
use Rattle.lf_app.proofs.Running.{reported_words}
use Rattle.lf_app.proofs.program.refuse_words.Goals as goal

pub returns-clause-run : goal.returns-clause-run
returns-clause-run g c =
    let words = reported_words c.write_usage.result (map (λ word. word.now) c.args.words.now) _ _ _ c.write_usage.ensures.ok c.write_usage.ensures.failed in
    record { said = words.0; reported = words.1; status_is = refl; spares = refl }
