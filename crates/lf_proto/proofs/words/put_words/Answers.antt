use Rattle.std.proofs.Common.{◌≡◌, ◌+◌, length, take, vec_len, vec_capacity, arith, length-append, ap}
use Rattle.std.specs.List.{flat_map}
use Rattle.lf_proto.specs.Words.{spaced_word}
use Rattle.lf_proto.proofs.Fronts.{kept_more, room_for_all, on_err_from}
use Rattle.lf_proto.proofs.words.put_words.Goals as goal

pub returns-in_err-put_spaced-clause-kept : goal.returns-in_err-put_spaced-clause-kept
returns-in_err-put_spaced-clause-kept c =
    kept_more c.args.out.now.items (flat_map spaced_word (take c.loop-word.word-index c.args.words.now)) c.loop-word.out.items c.put_spaced.new.out.items
    (vec_len c.args.out.now) (vec_len c.loop-word.out) c.args.out.now.ok.0 c.loop-word.invariant.items c.put_spaced.ensures.kept

pub returns-in_err-put_spaced-clause-full : goal.returns-in_err-put_spaced-clause-full
returns-in_err-put_spaced-clause-full c =
    let long : vec_len c.loop-word.out ≡ vec_len c.args.out.now + length (flat_map spaced_word (take c.loop-word.word-index c.args.words.now)) =
    omega (arith, c.loop-word.out.ok.0, c.args.out.now.ok.0, ap length c.loop-word.invariant.items, length-append c.args.out.now.items (flat_map spaced_word (take c.loop-word.word-index c.args.words.now))) in
    let wanted = room_for_all c.args.words.now _ c.loop-word.word-index (vec_len c.loop-word.out) (vec_len c.args.out.now) (vec_capacity c.loop-word.out) c.loop-word-test.true long c.in_err-put_spaced.ensures.full in
    on_err_from c.from_residual.result (omega (arith, wanted, c.loop-word.invariant.capacity))
