use Rattle.lf_write.proofs.Writing.{Looked, Written}
use Rattle.lf_write.proofs.export_text.write_export.Given as goal

-- What is written of the text with the places so far.
abbrev pub invariant-loop-number : goal.invariant-loop-number
invariant-loop-number g l = record {
  written : Written l.text l.clauses (g.G.NewPlaces.places l.given) l.number l.at (g.W.Write.contents l.fn.out) (g.W.Write.contents l.out);
  looked : Looked (g.G.NewPlaces.places l.given) l.number;
}
