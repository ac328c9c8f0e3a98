use Rattle.std.proofs.Common.{◌≡◌, true}
use Rattle.lf_repair_team.specs.CellEdits.{NoneIsFlagged}
use Rattle.lf_repair_team.proofs.Results.{ok_any}
use Rattle.lf_repair_team.proofs.team.is_kept.Goals as goal

pub returns : goal.returns
returns g c = ok_any c.has_improved.result (λ kept. kept ≡ true → NoneIsFlagged c.args.input.now.pass.locked.items c.args.unrepaired.now) (λ kept is. c.has_locked.ensures c.if-has_locked.false)
