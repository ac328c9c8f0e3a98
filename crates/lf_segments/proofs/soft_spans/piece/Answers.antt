use Rattle.std.proofs.Common.{◌≡◌, ◌+◌, ◌-◌, ◌≤◌, length, take, drop, sym, ap, ◌∙◌, arith}
use Rattle.std.proofs.lemmas.List.{get_or_past}
use Rattle.lf_segments.proofs.SoftLemmas.{piece_between, piece_past}
use Rattle.lf_segments.proofs.soft_spans.piece.Goals.{in-Some-get, in-None}
use Rattle.lf_segments.proofs.soft_spans.piece.Goals as goal

pub returns-in_default : goal.returns-in_default
returns-in_default c =
    let a = c.in_default.ensures.lookup in
    let none : length c.args.spans.now - length c.args.spans.now ≡ 0 = omega arith in
    let past : length c.args.starts.now ≤ c.args.segment = a.3 in
    ap (λ n. take n (drop (length c.args.spans.now) c.args.spans.now)) none ∙ sym (piece_past c.args.spans.now c.args.starts.now c.args.segment past)

pub returns : goal.returns
returns c =
    let a = c.in-Some.ensures.lookup in
    let spans = c.args.spans.now in
    let starts = c.args.starts.now in
    let k = c.args.segment in
    elim c.match-get-2.branch [
      | in-Some-get w ↦
          let b = w.in-Some-get.ensures.lookup in
          piece_between spans starts k c.in-Some.start.now c.match-get-2.end a.3.0 a.1 (w.end-is ∙ b.3.1 (length spans))
      | in-None w ↦
          let b = w.in-None.ensures.lookup in
          let past : length starts ≤ k + 1 = b.3 in
          piece_between spans starts k c.in-Some.start.now c.match-get-2.end a.3.0 a.1 (w.end-is ∙ sym (get_or_past starts (k + 1) (length spans) past))
    ]
