use Rattle.std.proofs.Common.{◌≡◌, ◌+◌, ◌-◌, length, take, drop, arith}
use Rattle.std.proofs.lemmas.List.{length-drop, length-take, take_all}
use Rattle.lf_state_text.proofs.Fronts.{begins-at, digits-some}
use Rattle.lf_state_text.proofs.read_numbers.front_number.Goals as goal

pub returns-then-bytes-len : goal.returns-then-bytes-len
returns-then-bytes-len c =
    let bytes = c.args.bytes.now in
    let len = c.front_digits-value.result.1 in
    let after_it : take (length bytes - (len + 1)) (drop (len + 1) bytes) ≡ drop (len + 1) bytes = take_all _ _ (omega (arith, length-drop (len + 1) bytes)) in
    rw after_it (record {
      word = take len bytes;
      is = begins-at bytes c.args.byte len c.if-len-bytes.true c.if-bytes-len.true;
      said = digits-some (take len bytes) c.front_digits-value.result.0 c.front_digits-value.ensures.digits (omega (arith, length-take len bytes)) (omega (arith, length-take len bytes)) c.front_digits-value.ensures.value;
    })
