use Rattle.std.specs.Prelude.{map}
use Rattle.lf_task_usage.proofs.Said.{whole_message}
use Rattle.lf_task_usage.proofs.usage.write_usage.Goals as goal

pub returns-clause-ok : goal.returns-clause-ok
returns-clause-ok g c =
    whole_message c.put_hint.result _ _ _ _ (map (λ word. word.now) c.args.words.now) c.in_ok-put_line.ensures.ok c.in_ok-put_reasons.ensures.ok c.put_hint.ensures.ok
