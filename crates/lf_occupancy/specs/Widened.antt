-- The strips that a value of the type `WidenedStrips` refers to.
use Rattle.std.specs.Prelude.{List}
use Rattle.lf_segments.specs.declared.strip.Strip.{Strip}
use Rattle.lf_occupancy.specs.declared.widened.WidenedStrips.{WidenedStrips}
use Rattle.lf_occupancy.specs.Strips.{widened_strips}

-- all strips of the frame, widened by 16 core sites
abbrev pub all_widened : WidenedStrips → List Strip
all_widened strips = widened_strips strips.site.now strips.index.now.strips
