use Rattle.std.proofs.Common.{ap, sym}
use Rattle.lf_floor_model.specs.States.{TeamState}
use Rattle.lf_floor.proofs.Numbered.{seen_is}
use Rattle.lf_floor.proofs.floor.Floor.placement.Goals as goal

pub returns-clause-cells : goal.returns-clause-cells
returns-clause-cells g c = λ number s there. ap (λ (t : TeamState). t.cells) (sym (seen_is c.self.inside.tables c.args.self.now number s c.self.view_is there))
