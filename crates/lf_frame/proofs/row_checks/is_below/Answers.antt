use Rattle.std.proofs.Common.{◌≡◌, ◌+ℤ◌, w64, to_z, of_z, arith, rules}
use Rattle.std.proofs.lemmas.Int.{ints}
use Rattle.lf_frame.proofs.row_checks.is_below.Goals as goal

pub returns : goal.returns
returns c =
    let row = c.args.row.now in
    let pitch = c.args.pitch.now.size in
    let other : to_z w64 (of_z w64 c.args.other.now.y) ≡ c.args.other.now.y = omega (arith, ints) in
    let top : to_z w64 (of_z w64 (to_z w64 (of_z w64 row.y) +ℤ to_z w64 (of_z w64 pitch.y))) ≡ row.y +ℤ pitch.y = omega (arith, ints) in
    rw (top, other) (search rules)
