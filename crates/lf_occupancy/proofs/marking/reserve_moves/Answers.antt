use Rattle.std.proofs.Common.{List, Option, arith, length, subst, take, ◌∙◌}
use Rattle.std.specs.Prelude.{All, IfSome}
use Rattle.std.proofs.lemmas.List.{take_all}
use Rattle.std.proofs.lemmas.List.Elements.{All-more, All-weaker}
use Rattle.lf_units.specs.declared.geometry.Rect.{Rect}
use Rattle.lf_cells.specs.declared.cell.CellId.{CellId}
use Rattle.lf_occupancy.specs.declared.strip_marks.StripMarks.{StripMarks}
use Rattle.lf_occupancy.specs.Strips.{HaveRoom, OverlapsStrip}
use Rattle.lf_occupancy.proofs.Changes.{kept_same, kept_along}
use Rattle.lf_occupancy.proofs.Reaching.{move_stays}
use Rattle.lf_occupancy.specs.Widened.{all_widened}
use Rattle.lf_occupancy.proofs.marking.reserve_moves.Goals as goal

pub loop-id-init : goal.loop-id-init
loop-id-init c = record { kept = kept_same c.args.mark_lists.now.items; room = λ k d within. absurd (omega (arith, within)) }

pub loop-id-preserved : goal.loop-id-preserved
loop-id-preserved c =
    let xs = all_widened c.args.strips.now in
    let moves = c.args.moves.now in
    let i = c.loop-id.id-index in
    let mid = c.loop-id.mark_lists.items in
    let new = c.reserve_box.new.mark_lists.items in
    let kept = c.in_ok-reserve_box.ensures.kept in
    let Room : List StripMarks → (CellId × Option Rect) → Type 0 =
    λ mark_lists m. IfSome m.1 (λ rect. HaveRoom (OverlapsStrip xs m.0.team rect) (length moves) mark_lists) in
    record {
      kept = kept_along c.args.mark_lists.now.items mid new c.loop-id.invariant.kept kept;
      room = All-more (Room new) moves i _ (omega arith)
          (All-weaker (Room mid) (Room new) (λ m h. move_stays xs m.0.team m.1 (length moves) mid new (c.loop-id.invariant.kept.many ∙ c.requires) kept h)
          (take i moves) c.loop-id.invariant.room)
          c.in_ok-reserve_box.ensures.ok;
    }

pub returns-clause-ok : goal.returns-clause-ok
returns-clause-ok c =
    let xs = all_widened c.args.strips.now in
    let moves = c.args.moves.now in
    let mark_lists = c.loop-id.mark_lists.items in
    subst (λ (ms : List (CellId × Option Rect)). All (λ m. IfSome m.1 (λ rect. HaveRoom (OverlapsStrip xs m.0.team rect) (length moves) mark_lists)) ms)
    (take_all c.loop-id.id-index moves (omega arith)) c.loop-id.invariant.room
