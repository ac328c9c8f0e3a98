use Rattle.std.proofs.Common.{take}
use Rattle.std.specs.Prelude.{All}
use Rattle.std.specs.List.{flat_map}
use Rattle.lf_io.specs.Output.{PutsText}
use Rattle.lf_state_text.specs.Saved.{IsSpottedEntry, entry_lines, saved_at}
use Rattle.lf_state_text.proofs.write.put_entries.Given as goal

abbrev pub invariant-loop-newer : goal.invariant-loop-newer
invariant-loop-newer g l = record {
  text : PutsText g.O.Output.took l.fn.out l.out (flat_map entry_lines (take l.newer (saved_at (g.T.TeamViews.saved l.teams) l.team).entries));
  spotted : All IsSpottedEntry (take l.newer (saved_at (g.T.TeamViews.saved l.teams) l.team).entries);
}
