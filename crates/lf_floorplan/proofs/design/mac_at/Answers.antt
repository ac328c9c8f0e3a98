use Rattle.std.proofs.Common.{◌≡◌, get_or}
use Rattle.lf_floorplan.proofs.CellLemmas.{macro_there}
use Rattle.lf_floorplan.proofs.design.mac_at.Goals as goal

pub returns : goal.returns
returns c =
    let is : c.index-as_slice-number.result ≡ get_or c.args.frame.now.macros c.args.number c.index-as_slice-number.result = rw c.as_slice.ensures at c.index-as_slice-number.is in
    macro_there c.args.frame.now c.args.number c.index-as_slice-number.result c.requires is
