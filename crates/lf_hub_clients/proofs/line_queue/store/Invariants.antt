use Rattle.std.proofs.Common.{◌≡◌, ◌+◌, ◌≤◌, ◌++◌, [], length, drop}
use Rattle.std.specs.Prelude.{vec_len, vec_capacity}
use Rattle.lf_hub_clients.specs.Lines.{lines_after, begun_after}
use Rattle.lf_hub_clients.specs.Stored.{stored_lines, stored_begun}
use Rattle.lf_hub_clients.proofs.line_queue.store.Given as goal

-- what the stored bytes and the remaining ones make is the same at each byte
abbrev pub invariant-loop-byte : goal.invariant-loop-byte
invariant-loop-byte l = record {
  start : l.start ≤ vec_len l.bytes;
  room : vec_len l.bytes + length (drop l.byte-index l.piece) ≤ vec_capacity l.bytes;
  within : l.count ≤ vec_len l.bytes;
  count : l.count ≡ length (stored_lines [] (drop l.start l.bytes.items));
  begun : l.begun ≡ length (stored_begun [] (drop l.start l.bytes.items));
  lines : stored_lines [] (drop l.start l.bytes.items) ++ lines_after (stored_begun [] (drop l.start l.bytes.items)) (drop l.byte-index l.piece)
      ≡ stored_lines [] (drop l.start l.fn.bytes.items) ++ lines_after (stored_begun [] (drop l.start l.fn.bytes.items)) l.piece;
  begun_line : begun_after (stored_begun [] (drop l.start l.bytes.items)) (drop l.byte-index l.piece)
      ≡ begun_after (stored_begun [] (drop l.start l.fn.bytes.items)) l.piece;
  grows : vec_len l.fn.bytes ≤ vec_len l.bytes;
  len : vec_len l.bytes + length (drop l.byte-index l.piece) ≤ vec_len l.fn.bytes + length l.piece;
}
