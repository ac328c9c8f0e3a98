use Rattle.std.proofs.Common.{◌≡◌, ◌++◌, Bool, List, ℕ, append_assoc, arith, subst, sym, ◌∙◌}
use Rattle.lf_server.specs.Pieces.{IsUnderWay, has_failed_since}
use Rattle.lf_server.proofs.UnderWay.{failed_both, under_both, under_failed}
use Rattle.lf_server.proofs.buffered_output.BufferedOutputOutput.put.Goals as goal

pub returns-then-self : goal.returns-then-self
returns-then-self g c = λ start before had. (
  had.0,
  had.1,
  had.2,
  had.3,
  had.4,
  subst (λ (t : List ℕ). IsUnderWay c.args.self.now.failed (g.W.Sink.contents start.sink.now) (g.W.Sink.contents c.args.self.now.sink.now) t c.args.self.now.waiting.now.items)
      (append_assoc start.waiting.now.items before c.args.bytes.now)
      (under_failed c.args.self.now.failed (g.W.Sink.contents start.sink.now) (g.W.Sink.contents c.args.self.now.sink.now) (start.waiting.now.items ++ before)
      c.args.bytes.now c.args.self.now.waiting.now.items c.if-self.true had.5),
)

pub returns : goal.returns
returns g c = λ start before had.
    let a = g.W.Sink.contents start.sink.now in
    let b = g.W.Sink.contents c.args.self.now.sink.now in
    let way = subst (λ (f : Bool). IsUnderWay f a b (start.waiting.now.items ++ before) c.args.self.now.waiting.now.items) c.if-self.false had.5 in
    let healthy = subst (λ (f : Bool). g.W.Sink.has_failed c.args.self.now.sink.now ≡ has_failed_since f (g.W.Sink.has_failed start.sink.now)) c.if-self.false had.4 in
    let n = g.W.Sink.contents c.send_both.new.sink in
    let waiting = c.args.self.now.waiting.now.items in
    let sent = under_both c.send_both.result a b n (start.waiting.now.items ++ before) waiting c.args.bytes.now way
    (rw (← c.as_slice.ensures.value) c.send_both.ensures.ok) (rw (← c.as_slice.ensures.value) c.send_both.ensures.prefix) in (
      had.0,
      had.1,
      omega (arith, had.2, c.clear.ensures.capacity),
      c.send_both.ensures.held ∙ had.3,
      subst (λ (f : Bool). g.W.Sink.has_failed c.send_both.new.sink ≡ has_failed_since f (g.W.Sink.has_failed start.sink.now)) (sym c.is_err-self.ensures.value)
          (failed_both c.send_both.result (g.W.Sink.has_failed start.sink.now) (g.W.Sink.has_failed c.args.self.now.sink.now) (g.W.Sink.has_failed c.send_both.new.sink)
          healthy c.send_both.ensures.healthy c.send_both.ensures.failed),
      subst (λ (t : List ℕ). IsUnderWay c.is_err-self.result a n t c.clear.new.self.items) (append_assoc start.waiting.now.items before c.args.bytes.now)
          (rw (c.is_err-self.ensures.value, c.clear.ensures.items) sent),
    )
