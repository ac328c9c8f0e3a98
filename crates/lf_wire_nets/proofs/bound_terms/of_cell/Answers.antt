use Rattle.std.proofs.Common.{arith}
use Rattle.std.proofs.lemmas.Int.{ints}
use Rattle.lf_wire_nets.proofs.bound_terms.of_cell.Goals as goal

pub returns-clause-in_range : goal.returns-clause-in_range
returns-clause-in_range c = (
  c.requires.number,
  record {
    wide = c.requires.offset.wide;
    high = c.requires.offset.high;
    middle = record {
      across = record { least = omega (arith, ints); most = omega (arith, ints) };
      up = record { least = omega (arith, ints); most = omega (arith, ints) };
    };
  },
)
