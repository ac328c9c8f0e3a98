use Rattle.std.proofs.Common.{[], get_or}
use Rattle.std.specs.Prelude.{All}
use Rattle.lf_occupancy.specs.MarkLists.{EndUpTo}
use Rattle.lf_occupancy.specs.MarkedStrips.{strip_entries}
use Rattle.lf_occupancy.specs.Views.{OverlapsNoBox}
use Rattle.lf_occupancy.proofs.apart.push_apart.Given as goal

-- the marks visited end at `taken` or to the left of it, and the cells added overlap no other
abbrev pub invariant-loop-n : goal.invariant-loop-n
invariant-loop-n l = record {
  ends : EndUpTo (strip_entries l.strip) l.n l.taken;
  apart : All (OverlapsNoBox (get_or l.strip.boxes.now l.strip.team []) l.padding.length) l.initial.list.items
      → All (OverlapsNoBox (get_or l.strip.boxes.now l.strip.team []) l.padding.length) l.list.items;
}
