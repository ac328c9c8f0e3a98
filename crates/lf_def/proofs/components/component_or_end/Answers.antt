use Rattle.std.proofs.lemmas.List.Elements.{All-push}
use Rattle.lf_def.specs.Ranges.{IsComponent}
use Rattle.lf_def.proofs.components.component_or_end.Goals as goal

pub returns-then-is_token-clause-range : goal.returns-then-is_token-clause-range
returns-then-is_token-clause-range c =
    rw c.in_ok-push.ensures.ok (All-push IsComponent c.args.components.now c.in_ok-component.component c.requires.range c.in_ok-component.ensures.range)
