use Rattle.std.proofs.Common.{◌≡◌, ◌++◌, take}
use Rattle.std.specs.Prelude.{flat_map}
use Rattle.lf_describe.specs.Description.{line_text}
use Rattle.lf_describe.specs.Parts.{part_lines}
use Rattle.lf_describe.specs.Written.{WritesFrontOf}
use Rattle.lf_describe.proofs.line_kinds.put_part.Given as goal

-- After the lines so far, these bytes are in the buffer.
abbrev pub invariant-loop-number : goal.invariant-loop-number
invariant-loop-number g l = record {
  left : WritesFrontOf (g.W.Sink.contents l.fn.writer) (g.W.Sink.contents l.writer) (l.fn.waiting.items ++ flat_map line_text (take l.number (part_lines l.design l.part))) l.waiting.items;
  failed : g.W.Sink.has_failed l.writer ≡ g.W.Sink.has_failed l.fn.writer;
  held : g.W.Sink.holds l.writer ≡ g.W.Sink.holds l.fn.writer;
}
