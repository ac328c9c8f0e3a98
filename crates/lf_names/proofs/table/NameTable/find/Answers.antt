use Rattle.std.proofs.Common.{◌≡◌, ◌∙◌}
use Rattle.lf_names.specs.Names.{position_of}
use Rattle.lf_names.specs.Stored.{bytes_of}
use Rattle.lf_names.proofs.Keys.{position-keys}
use Rattle.lf_names.proofs.Positions.{found, absent}
use Rattle.lf_names.proofs.table.NameTable.find.Goals as goal

pub returns : goal.returns
returns g c =
    let position : c.get_index_of.result ≡ position_of c.args.self.now c.args.name.now =
    c.get_index_of.ensures.index ∙ position-keys bytes_of c.self.inside.names.keys c.args.self.now c.args.name.now c.self.view_is in
    record {
      position = position;
      found = found c.args.self.now c.args.name.now c.get_index_of.result position;
      absent = absent c.args.self.now c.args.name.now c.get_index_of.result position;
    }
