-- Placement clauses as written (LEF/DEF 5.8, DEF COMPONENTS).
use Rattle.std.specs.Prelude.{ℕ, List, [], ◌∷◌, Option, Some, None, codes}
use Rattle.std.specs.Fmt.{signed_decimal}
use Rattle.lf_orient.specs.Words.{orient_word}
use Rattle.lf_floorplan.specs.declared.place.Place.{Place}

-- ( x y ) orient
abbrev pub def_place_words : Place → List (List ℕ)
def_place_words p = codes "(" ∷ signed_decimal p.x ∷ signed_decimal p.y ∷ codes ")" ∷ orient_word p.orient ∷ []

-- + PLACED ( x y ) orient, or + UNPLACED.
abbrev pub clause_words : Option Place → List (List ℕ)
clause_words None = codes "+" ∷ codes "UNPLACED" ∷ []
clause_words (Some p) = codes "+" ∷ codes "PLACED" ∷ def_place_words p
