use Rattle.std.proofs.Common.{◌≡◌, ◌≤◌, ◌++◌, take, vec_capacity}
use Rattle.std.specs.List.{flat_map}
use Rattle.lf_proto.specs.Words.{spaced_word}
use Rattle.lf_proto.proofs.words.put_words.Given as goal

abbrev pub invariant-loop-word : goal.invariant-loop-word
invariant-loop-word l = record {
  items : l.out.items ≡ l.fn.out.items ++ flat_map spaced_word (take l.word-index l.words);
  capacity : vec_capacity l.fn.out ≤ vec_capacity l.out;
}
