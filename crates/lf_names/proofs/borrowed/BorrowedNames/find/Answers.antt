use Rattle.std.proofs.Common.{◌∙◌}
use Rattle.lf_names.proofs.Keys.{position-keys}
use Rattle.lf_names.proofs.borrowed.BorrowedNames.find.Goals as goal

pub returns : goal.returns
returns c = c.get_index_of.ensures.index ∙ position-keys (λ k. k.now) c.self.inside.names.keys c.args.self.now c.args.name.now c.self.view_is
