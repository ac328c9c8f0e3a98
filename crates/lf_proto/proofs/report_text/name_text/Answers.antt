use Rattle.std.proofs.Common.{ℕ, zero, suc, List, [], ◌∷◌, sym, subst, arith}
use Rattle.std.specs.Prelude.{All}
use Rattle.std.specs.Str.{IsAscii, IsUtf8}
use Rattle.std.proofs.lemmas.Str.{IsUtf8-from_ascii}
use Rattle.std.proofs.lemmas.List.Elements.{All-head, All-tail}
use Rattle.lf_floorplan.specs.Bounds.{IsPrinted}
use Rattle.lf_proto.proofs.report_text.name_text.Goals as goal

-- visible bytes are ASCII
ascii : (bytes : List ℕ) → All IsPrinted bytes → IsAscii bytes
ascii [] all i = omega arith
ascii (b ∷ bytes) all zero = let is : IsPrinted b = All-head IsPrinted b bytes all in omega (arith, is.most)
ascii (b ∷ bytes) all (suc i) = ascii bytes (All-tail IsPrinted b bytes all) i

pub unreachable-requires : goal.unreachable-requires
unreachable-requires c =
    c.in-Err.ensures.cases.0 (subst IsUtf8 (sym c.as_bytes.ensures) (IsUtf8-from_ascii c.args.name.now (ascii c.args.name.now c.requires.printed)))
