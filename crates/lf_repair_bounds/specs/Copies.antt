-- Copies of frames.
use Rattle.std.specs.Prelude.{◌≡◌}
use Rattle.lf_floorplan.specs.declared.frame.Frame.{Frame}

-- the frames differ at most in their soft blockages
pub record AreCopies (f g : Frame) : Type 0 where
  pub site : g.site ≡ f.site
  pub pitch : g.pitch ≡ f.pitch
  pub rows : g.rows ≡ f.rows
  pub teams : g.teams ≡ f.teams
  pub obstacles : g.obstacles ≡ f.obstacles
  pub macros : g.macros ≡ f.macros
  pub header : g.header ≡ f.header
  pub limits : g.limits ≡ f.limits
