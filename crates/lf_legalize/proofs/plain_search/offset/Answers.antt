use Rattle.std.proofs.Common.{ℕ, ℤ, pos, negsuc, ◌*ℤ◌, ◌*◌, ◌<ℤ◌, ◌<◌, arith}
use Rattle.std.proofs.lemmas.Int.{ints}
use Rattle.std.proofs.Math.Nat.{mul-lt-mul_of_pos_right}
use Rattle.lf_legalize.proofs.plain_search.offset.Goals as goal

earlier : (p : ℤ) (site sites : ℕ) → pos 0 <ℤ p → site < sites → (pos site *ℤ p) <ℤ (pos sites *ℤ p)
earlier (pos n) site sites positive less =
    let above : 0 < n = omega (arith, ints) in
    let more : site * n < sites * n = mul-lt-mul_of_pos_right less above in
    omega (arith, ints)
earlier (negsuc n) site sites positive less = absurd (omega (arith, ints))

pub returns-clause-high : goal.returns-clause-high
returns-clause-high c =
    let less = earlier c.args.pitch.now.x c.args.site c.args.row.now.sites c.requires.wide c.requires.within in
    grind (arith, ints, less)
