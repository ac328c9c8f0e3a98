use Rattle.std.proofs.Common.{◌∙◌, sym, ap, map, take}
use Rattle.std.proofs.lemmas.List.{take-map}
use Rattle.lf_names.specs.Stored.{bytes_of}
use Rattle.lf_names.proofs.table.NameTable.truncate.Goals as goal

pub returns : goal.returns
returns g c =
    ap (map bytes_of) c.truncate.ensures.keys ∙ sym (take-map bytes_of c.args.len c.self.inside.names.keys)
    ∙ ap (take c.args.len) c.self.view_is
