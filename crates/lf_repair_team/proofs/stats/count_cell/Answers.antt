use Rattle.std.proofs.Common.{◌≡◌, ◌≢◌, ◌∙◌, ℕ, ◌+◌, None, ap, max, min, not, nat_lt, true, subst}
use Rattle.std.specs.Prelude.{◌<◌, ◌≤◌, IsSome}
use Rattle.lf_repair_team.specs.CellEdits.{CountsIf}
use Rattle.lf_repair_team.specs.Stats.{AreTurned}
use Rattle.lf_repair_team.proofs.StatsLemmas.{counted_by, is_more, not_so}
use Rattle.lf_repair_team.proofs.stats.count_cell.Goals as goal

pub returns-clause-reported : goal.returns-clause-reported
returns-clause-reported c =
    let wanted_place = c.args.wanted_place in
    let now = c.args.now in
    let old = c.args.reported.now in
    record {
      cells = counted_by (c.args.was_legal ≡ true → ⊥) (not c.args.was_legal) old.cells c.counted-reported.result (not_so c.args.was_legal) c.counted-reported.ensures;
      kept = counted_by ((c.args.was_legal ≡ true) × (now ≡ wanted_place)) c.is_kept.result old.kept c.counted-reported-2.result c.is_kept.ensures c.counted-reported-2.ensures;
      displaced_legal = counted_by ((c.args.was_legal ≡ true) × (now ≢ wanted_place)) c.is_displaced.result old.displaced_legal c.counted-reported-3.result c.is_displaced.ensures c.counted-reported-3.ensures;
      moved = subst (λ (far : ℕ). CountsIf (0 < far) old.moved c.counted-reported-4.result) c.displacement-far.ensures.way
          (counted_by (0 < c.displacement-far.result) (nat_lt 0 c.displacement-far.result) old.moved c.counted-reported-4.result (is_more c.displacement-far.result) c.counted-reported-4.ensures);
      placed = counted_by ((wanted_place ≡ None) × IsSome now) c.is_placed.result old.placed c.counted-reported-5.result c.is_placed.ensures c.counted-reported-5.ensures;
      turned = counted_by (AreTurned wanted_place now) c.is_turned.result old.turned c.counted-reported-6.result c.is_turned.ensures c.counted-reported-6.ensures;
      short = subst (λ (far : ℕ). far ≤ 8589934590) c.displacement-far.ensures.way c.displacement-far.ensures.short;
      total_displacement = c.saturating_add-reported.ensures ∙ ap (λ (far : ℕ). min (old.total_displacement + far) 18446744073709551615) c.displacement-far.ensures.way;
      max_displacement = c.max-reported.ensures ∙ ap (λ (far : ℕ). max old.max_displacement far) c.displacement-far.ensures.way;
    }
