use Rattle.std.proofs.Common.{◌≡◌, ◌++◌, take}
use Rattle.std.specs.Prelude.{flat_map}
use Rattle.lf_describe.specs.Parts.{part_text}
use Rattle.lf_describe.specs.Written.{WritesFrontOf}
use Rattle.lf_describe.proofs.line_kinds.write_kinds.Given as goal

-- After the parts so far, these bytes are in the buffer.
abbrev pub invariant-loop-part : goal.invariant-loop-part
invariant-loop-part g l = record {
  left : WritesFrontOf (g.W.Sink.contents l.fn.writer) (g.W.Sink.contents l.writer) (l.fn.waiting.items ++ flat_map (part_text l.design) (take l.part-index l.parts)) l.waiting.items;
  failed : g.W.Sink.has_failed l.writer ≡ g.W.Sink.has_failed l.fn.writer;
  held : g.W.Sink.holds l.writer ≡ g.W.Sink.holds l.fn.writer;
}
