use Rattle.std.proofs.Common.{refl}
use Rattle.std.proofs.lemmas.List.{map-set}
use Rattle.lf_rules.specs.declared.padding.Padding.{Padding as Sites}
use Rattle.lf_floor_verbs.proofs.tables.Tables.set_padding.Goals as goal

pub returns : goal.returns
returns c = record { rest = refl; paddings = map-set (λ (p : Sites). p.sites) c.args.self.now.paddings.items c.args.number c.args.padding }
