use Rattle.lf_names.specs.Stored.{bytes_of}
use Rattle.lf_names.proofs.Keys.{no-key, names-push}
use Rattle.lf_names.proofs.table.NameTable.add_new.Goals as goal

pub returns-clause-ok : goal.returns-clause-ok
returns-clause-ok g c =
    let keys = c.self.inside.names.keys in
    names-push bytes_of keys c.insert.new.self.keys c.in_ok-new.new c.args.self.now c.args.name.now c.self.view_is c.in_ok-new.ensures
    (no-key bytes_of keys c.args.self.now c.args.name.now c.self.view_is c.requires) c.in_ok-insert.ensures.keys
