use Rattle.std.proofs.Common.{subst}
use Rattle.lf_floorplan.specs.declared.macros.Macro.{Macro}
use Rattle.lf_repair_bounds.specs.ImpossibleMacros.{HasReason}
use Rattle.lf_repair_bounds.proofs.impossible.reason_in.Goals as goal

pub returns : goal.returns
returns c = subst (λ (m : Macro). HasReason c.args.floor.now.loaded.now.frame c.args.cell.now.team m c.reason_of.result) c.mac_at.ensures c.reason_of.ensures
