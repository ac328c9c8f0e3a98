use Rattle.std.proofs.Common.{◌≡◌, ◌∙◌, List, Option, None, Some, true, false, ap, sym}
use Rattle.std.specs.Prelude.{option_map}
use Rattle.lf_cells.specs.Cells.{cells_of}
use Rattle.lf_repair_team.proofs.Listing.{is_listed_cell, its_listed, its_mac, its_name}
use Rattle.lf_repair_team.proofs.repair_input.is_cell_listed.Goals as goal

true_false : true ≡ false → ⊥
true_false e = cc
