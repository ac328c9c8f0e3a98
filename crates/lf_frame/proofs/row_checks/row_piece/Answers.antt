use Rattle.std.proofs.Common.{◌≡◌, ◌+ℤ◌, w64, to_z, of_z, SFits, arith, rules}
use Rattle.std.proofs.lemmas.Int.{ints, to_z-of_z}
use mir.Syntax.{w128}
use Rattle.lf_frame.proofs.row_checks.row_piece.Goals as goal

pub returns : goal.returns
returns c =
    let row = c.args.row.now in
    let left : to_z w64 (of_z w64 row.x) ≡ row.x = omega (arith, ints) in
    let fits : SFits w128 c.right_edge.result = search rules in
    let right : to_z w128 (of_z w128 c.right_edge.result) ≡ c.right_edge.result = to_z-of_z w128 c.right_edge.result fits in
    let bottom : to_z w64 (of_z w64 row.y) ≡ row.y = omega (arith, ints) in
    let top : to_z w64 (of_z w64 (to_z w64 (of_z w64 row.y) +ℤ to_z w64 (of_z w64 c.args.pitch.now.size.y))) ≡ row.y +ℤ c.args.pitch.now.size.y =
    omega (arith, ints) in
    cc
