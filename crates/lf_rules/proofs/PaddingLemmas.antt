-- Lengths of paddings.
use Rattle.std.proofs.Common.{ℕ, ℤ, pos, negsuc, ◌*ℤ◌, ◌*◌, ◌<ℤ◌, ◌≤ℤ◌, ◌≤◌, arith}
use Rattle.std.proofs.lemmas.Int.{ints}
use Rattle.std.proofs.lemmas.Nat.{mul-le}
use Rattle.lf_floorplan.specs.declared.frame.Frame.{Frame}
use Rattle.lf_rules.specs.Padding.{IsShort, length_of}

-- A padding of at most 16 sites of bounded width is short.
pub short_sites : (p : ℤ) (sites : ℕ) → pos 0 <ℤ p → p ≤ℤ pos 20000000000 → sites ≤ 16 → IsShort (pos sites *ℤ p)
short_sites (pos n) sites positive small few =
    let within : n ≤ 20000000000 = omega (arith, ints) in
    let most : sites * n ≤ 16 * 20000000000 = mul-le sites n 16 20000000000 few within in
    record { least = omega (arith, ints); most = omega (arith, ints) }
short_sites (negsuc n) sites positive small few = absurd (omega (arith, ints))

-- A padding of a frame is short.
pub short_length : (f : Frame) (sites : ℕ) → sites ≤ 16 → IsShort (length_of f sites)
short_length f sites few = short_sites f.pitch.x sites f.pitch_whole.wide f.pitch_whole.x_small few
