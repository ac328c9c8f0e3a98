-- The nearest values of a range.
use Rattle.std.proofs.Common.{ℤ, ◌≤ℤ◌, ◌<ℤ◌, arith}
use Rattle.std.proofs.lemmas.Int.{ints}
use Rattle.lf_legalize.specs.Extents.{IsNearestIn}

-- a value below the range
pub nearest_low : (lo hi value : ℤ) → lo ≤ℤ hi → value <ℤ lo → IsNearestIn lo hi value lo
nearest_low lo hi value order less = record {
  low = omega (arith, ints);
  high = order;
  apart = λ v above below. grind (arith, ints);
}

-- a value above the range
pub nearest_high : (lo hi value : ℤ) → lo ≤ℤ hi → hi <ℤ value → IsNearestIn lo hi value hi
nearest_high lo hi value order more = record {
  low = order;
  high = omega (arith, ints);
  apart = λ v above below. grind (arith, ints);
}

-- a value of the range
pub nearest_own : (lo hi value : ℤ) → lo ≤ℤ value → value ≤ℤ hi → IsNearestIn lo hi value value
nearest_own lo hi value above below = record {
  low = above;
  high = below;
  apart = λ v from to. grind (arith, ints);
}
