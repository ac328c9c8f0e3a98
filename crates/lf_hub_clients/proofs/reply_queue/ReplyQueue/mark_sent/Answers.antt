use Rattle.std.proofs.Common.{◌≡◌, ◌≤◌, ◌+◌, ◌-◌, ◌∙◌, ℕ, List, sym, ap, drop, take, length, arith, length-take}
use Rattle.std.proofs.lemmas.List.{drop-drop, drop-take}
use Rattle.lf_hub_clients.proofs.reply_queue.ReplyQueue.mark_sent.Goals as goal

-- a part of the list that begins later
later_part : (items ready : List ℕ) (sent count released : ℕ) → take (released - sent) (drop sent items) ≡ ready → count ≤ length ready → take (released - (sent + count)) (drop (sent + count) items) ≡ drop count ready
later_part items ready sent count released is within =
    let left = released - (sent + count) in
    let some : count ≤ released - sent = omega (arith, ap length is, length-take (released - sent) (drop sent items)) in
    let whole : released - sent ≡ count + left = omega arith in
    ap (take left) (sym (drop-drop count sent items)) ∙ sym (drop-take count left (drop sent items)) ∙ ap (λ k. drop count (take k (drop sent items))) (sym whole) ∙ ap (drop count) is

pub returns-clause-ready : goal.returns-clause-ready
returns-clause-ready c =
    later_part c.self.inside.bytes.items c.args.self.now.ready c.self.inside.sent c.args.count c.self.inside.released (ap (λ v. v.ready) c.self.view_is) c.requires
