use Rattle.std.specs.Io.KnownBytes.{Keeps}
use Rattle.lf_io.proofs.std_adapters.write_through.Given as goal

-- Interrupted writes write nothing.
abbrev pub invariant-loop : goal.invariant-loop
invariant-loop g l = Keeps (g.W.Write.contents l.fn.writer) (g.W.Write.contents l.writer)
