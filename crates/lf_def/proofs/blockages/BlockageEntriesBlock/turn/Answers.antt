use Rattle.std.proofs.lemmas.List.Elements.{All-push}
use Rattle.lf_def.specs.Ranges.{IsBlockage}
use Rattle.lf_def.proofs.blockages.BlockageEntriesBlock.turn.Goals as goal

pub returns-in_ok-push-clause-kept : goal.returns-in_ok-push-clause-kept
returns-in_ok-push-clause-kept c =
    let read = rw c.in-Some.is at c.in_ok-blockage.ensures.range in
    rw c.in_ok-push.ensures.ok (All-push IsBlockage c.args.blockages.now c.in-Some.blockage c.requires.kept read)
