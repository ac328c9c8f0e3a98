-- Names in lines.
use Rattle.std.proofs.Common.{◌≡◌, ◌<◌, ◌==◌, ℕ, Bool, not, true, List, [], ◌∷◌, length, refl, arith}
use Rattle.std.specs.Prelude.{All, IsTrue}
use Rattle.std.specs.List.{list_all}
use Rattle.std.proofs.lemmas.Bool.Decides.{nat_tests}
use Rattle.std.proofs.lemmas.List.Elements.{All-head, All-tail}
use Rattle.lf_floorplan.specs.Bounds.{IsDesignName as IsTextName, IsPrinted}
use Rattle.lf_proto.specs.Lines.{IsLineName, is_visible}

printed_visible : (name : List ℕ) → All IsPrinted name → list_all is_visible name ≡ true
printed_visible [] all = refl
printed_visible (b ∷ bs) all = one (All-head IsPrinted b bs all) (printed_visible bs (All-tail IsPrinted b bs all)) where
  one : IsPrinted b → list_all is_visible bs ≡ true → list_all is_visible (b ∷ bs) ≡ true
  one here rest = grind (arith, nat_tests)

-- a name in a text that has a byte can be written in a line
pub line_name : (name : List ℕ) → IsTextName name → 0 < length name → IsLineName name
line_name name is some = record { some = some; visible = printed_visible name is.printed }

pub some_byte : (name : List ℕ) (empty : Bool) → empty ≡ (length name == 0) → IsTrue (not empty) → 0 < length name
some_byte name empty is some = grind (arith, nat_tests)
