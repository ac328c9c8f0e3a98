-- The tables of orientations: the candidates of a macro and equality under a site's symmetry
-- (LEF/DEF 5.8, LEF MACRO and LEF SITE, SYMMETRY). The rails are this project's own reading of rows
-- and supply pins.
use Rattle.std.specs.Prelude.{◌≡◌, ◌⊎◌, Bool, true, false, ◌&&◌, IsTrue, Option, Some, None}
use Rattle.lf_orient.specs.declared.Orient.{Orient}
use Rattle.lf_orient.specs.declared.Orient.TheVariants.{N, S, FN, FS}
use Rattle.lf_orient.specs.declared.Symmetry.{Symmetry}
use Rattle.lf_orient.specs.declared.Rail.{Rail}
use Rattle.lf_orient.specs.declared.Rail.TheVariants.{Ground, Power}

-- The candidates of a macro: N always, X adds FS, Y adds FN, X and Y together add S.
abbrev pub is_allowed : Symmetry → Orient → Bool
is_allowed _ N = true
is_allowed s FS = s.x
is_allowed s FN = s.y
is_allowed s S = s.x && s.y
is_allowed _ _ = false

-- The orientation flipped over the x axis: X makes N equal to FS, and FN equal to S. An orientation
-- on its side is unchanged.
abbrev pub flipped_over_x : Orient → Orient
flipped_over_x N = FS
flipped_over_x FS = N
flipped_over_x FN = S
flipped_over_x S = FN
flipped_over_x o = o

-- The orientation flipped over the y axis: Y makes N equal to FN, and FS equal to S. An orientation
-- on its side is unchanged.
abbrev pub flipped_over_y : Orient → Orient
flipped_over_y N = FN
flipped_over_y FN = N
flipped_over_y FS = S
flipped_over_y S = FS
flipped_over_y o = o

-- Two orientations are equal under a site's symmetry: they are the same, or X, or Y, or both flips
-- turn one into the other.
abbrev pub EqualUnder : Symmetry → Orient → Orient → Type 0
EqualUnder s a b =
    (a ≡ b)
    ⊎ (IsTrue s.x × (b ≡ flipped_over_x a))
    ⊎ (IsTrue s.y × (b ≡ flipped_over_y a))
    ⊎ (IsTrue s.x × IsTrue s.y × (b ≡ flipped_over_x (flipped_over_y a)))

-- The bottom rail of a row: ground for N and FN, power for S and FS, `None` for a row that lies on
-- its side.
abbrev pub rail_below : Orient → Option Rail
rail_below N = Some Ground
rail_below FN = Some Ground
rail_below S = Some Power
rail_below FS = Some Power
rail_below _ = None

-- Power for ground, and ground for power.
abbrev pub other_rail : Rail → Rail
other_rail Ground = Power
other_rail Power = Ground
