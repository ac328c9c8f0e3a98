-- The height of a cell whose best place is searched for.
use Rattle.std.specs.Prelude.{◌≡◌, ℕ, pos, ◌≤◌, ◌*ℤ◌}
use Rattle.lf_floorplan.specs.declared.frame.Frame.{Frame}
use Rattle.lf_floorplan.specs.declared.macros.Macro.{Macro}
use Rattle.lf_floorplan.specs.Boxes.{size_of}

-- the macro is k core sites high, and k is from 1 to 8
pub record IsHeightOf (f : Frame) (m : Macro) (k : ℕ) : Type 0 where
  pub least : 1 ≤ k
  pub most : k ≤ 8
  pub high : (size_of f m).y ≡ pos k *ℤ f.pitch.y
