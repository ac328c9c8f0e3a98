use Rattle.std.proofs.Common.{refl, ap, ◌∙◌}
use Rattle.std.specs.Prelude.{option_map}
use Rattle.lf_frame.specs.Loads.{as_location}
use Rattle.lf_frame.proofs.cells.cell_of.Goals as goal

pub returns : goal.returns
returns c = λ i of mac. record {
  name = refl;
  team = rw c.in_32_bits-own_team.ensures of;
  mac = rw c.in_32_bits-own_macro.ensures mac;
  place = ap (option_map as_location) c.of.ensures ∙ c.place_of.ensures;
  component = c.in_32_bits-entry.ensures;
}
