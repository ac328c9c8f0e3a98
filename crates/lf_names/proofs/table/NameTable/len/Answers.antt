use Rattle.lf_names.specs.Stored.{bytes_of}
use Rattle.lf_names.proofs.Keys.{names_differ}
use Rattle.lf_names.proofs.table.NameTable.len.Goals as goal

pub returns-clause-distinct : goal.returns-clause-distinct
returns-clause-distinct g c =
    names_differ bytes_of c.self.inside.names.keys c.args.self.now c.self.view_is c.len.ensures.unique
