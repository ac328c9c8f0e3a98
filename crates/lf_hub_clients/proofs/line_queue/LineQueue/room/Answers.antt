use Rattle.std.proofs.Common.{◌≡◌, ◌∙◌, sym, ap, drop, length, arith, length-drop}
use Rattle.lf_hub_clients.specs.Lines.{waiting_size}
use Rattle.lf_hub_clients.proofs.Storing.{view-size}
use Rattle.lf_hub_clients.proofs.line_queue.LineQueue.room.Goals as goal

pub returns : goal.returns
returns c =
    let text = drop c.self.inside.start c.self.inside.bytes.items in
    let size : waiting_size c.args.self.now ≡ length text = ap waiting_size (sym c.self.view_is) ∙ view-size text in
    record { room = omega (arith, size, length-drop c.self.inside.start c.self.inside.bytes.items, c.self.invariant.0, c.self.invariant.1, c.len.ensures, c.self.inside.bytes.ok.0) }
