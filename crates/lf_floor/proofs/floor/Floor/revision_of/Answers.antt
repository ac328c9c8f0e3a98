use Rattle.std.proofs.Common.{◌∙◌, ap, sym}
use Rattle.lf_floor_model.specs.States.{TeamState}
use Rattle.lf_floor.proofs.Numbered.{seen_is}
use Rattle.lf_floor.proofs.floor.Floor.revision_of.Goals as goal

pub returns : goal.returns
returns g c = λ s there.
    c.revision.ensures ∙ ap (λ (t : TeamState). t.revision) (sym (seen_is c.self.inside.tables c.args.self.now c.args.number s c.self.view_is there))
