use Rattle.std.specs.Io.KnownBytes.{Keeps}
use Rattle.lf_io.proofs.std_adapters.read_through.Given as goal

-- Interrupted reads take nothing.
abbrev pub invariant-loop : goal.invariant-loop
invariant-loop g l = Keeps (g.R.Read.remaining l.fn.reader) (g.R.Read.remaining l.reader)
