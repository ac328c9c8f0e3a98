-- Verdicts and best places on two frames that are alike.
use Rattle.std.proofs.Common.{◌≡◌, ◌≢◌, ℕ, List, Option, Some, None, ap, sym, ◌∙◌, subst}
use Rattle.std.specs.Prelude.{MatchOption, slice_get}
use Rattle.std.specs.Option.{option_map_or}
use Rattle.lf_units.specs.declared.geometry.Point.{Point}
use Rattle.lf_units.specs.declared.geometry.Rect.{Rect}
use Rattle.lf_floorplan.specs.declared.frame.Frame.{Frame}
use Rattle.lf_floorplan.specs.declared.parts.Row.{Row}
use Rattle.lf_floorplan.specs.declared.parts.Team.{Team}
use Rattle.lf_floorplan.specs.Boxes.{IsSized}
use Rattle.lf_floorplan.specs.Ground.{OverlapsSoft}
use Rattle.lf_rules.specs.declared.rule.Rule.TheVariants.{Overlap}
use Rattle.lf_rules.specs.declared.rule.Broken.{Broken}
use Rattle.lf_rules.specs.Legality.{Candidate, box_of, IsTeamLegal, IsFirstOverlapping, IsFirstBroken}
use Rattle.lf_rules.specs.Choice.{SpotPlace, PlacementQuery, candidate_at, IsAllowedPlace, IsChoice, BestPlaceIsUnique, first_corner, first_origin, anchor}
use Rattle.lf_rules.specs.Legalizer.{Legalizer, IsVerdict, VerdictIsUnique}
use Rattle.lf_laws_slices.specs.Alike.{AreFramesAlike}
use Rattle.lf_laws_slices.specs.Laws.{candidate_on, query_on}
use Rattle.lf_laws_slices.proofs.Rules.{turned_round, sized_on, soft_on, box_same, padded_same, rule_on, rule_back}

-- ---- verdicts

legal_on : (t : Candidate) (g : Frame) → AreFramesAlike t.frame g → IsTeamLegal t → IsTeamLegal (candidate_on g t)
legal_on t g a legal r = rule_on t g a r (legal r)

first_on : (t : Candidate) (g : Frame) → AreFramesAlike t.frame g → (b : Broken) → IsFirstBroken t b → IsFirstBroken (candidate_on g t) b
first_on t g a b first = record {
  broken = λ h. first.broken (rule_back t g a b.rule h);
  lesser = λ r less. rule_on t g a r (first.lesser r less);
  other =
      subst (λ (box : Rect). MatchOption b.other (b.rule ≢ Overlap) (λ own. (b.rule ≡ Overlap) × IsFirstOverlapping box t.others own)) (padded_same t g a) first.other;
}

verdict_on : (t : Candidate) (g : Frame) → AreFramesAlike t.frame g → (verdict : Option Broken) → IsVerdict t verdict → IsVerdict (candidate_on g t) verdict
verdict_on t g a None legal = legal_on t g a legal
verdict_on t g a (Some b) first = first_on t g a b first

-- whatever the legalizers, a candidate has one verdict on both frames
pub verdict_same : VerdictIsUnique → (l m : Legalizer) (t : Candidate) (g : Frame) → AreFramesAlike t.frame g → IsSized t.frame t.mac
    → l.first_broken t ≡ m.first_broken (candidate_on g t)
verdict_same one l m t g a sized =
    one (candidate_on g t) (l.first_broken t) (m.first_broken (candidate_on g t)) (verdict_on t g a (l.first_broken t) (l.finds_first_broken t sized))
    (m.finds_first_broken (candidate_on g t) (sized_on t.frame g a t.mac sized))

-- ---- best places

may_go_on : (c : PlacementQuery) (g : Frame) → AreFramesAlike c.frame g → (p : SpotPlace) → IsAllowedPlace c p → IsAllowedPlace (query_on g c) p
may_go_on c g a p may = record {
  legal = legal_on (candidate_at c p) g a may.legal;
  off_soft = λ does_overlap. may.off_soft (soft_on g c.frame (turned_round c.frame g a) (box_of (candidate_at c p)) (subst (λ (box : Rect). OverlapsSoft g box) (sym (box_same (candidate_at c p) g a)) does_overlap));
}

may_go_back : (c : PlacementQuery) (g : Frame) → AreFramesAlike c.frame g → (p : SpotPlace) → IsAllowedPlace (query_on g c) p → IsAllowedPlace c p
may_go_back c g a p may = may_go_on (query_on g c) c.frame (turned_round c.frame g a) p may

choice_on : (c : PlacementQuery) (target : Point) (g : Frame) → AreFramesAlike c.frame g → (found : Option SpotPlace) → IsChoice c target found → IsChoice (query_on g c) target found
choice_on c target g a None none = λ p may. none p (may_go_back c g a p may)
choice_on c target g a (Some best) is = record {
  may_go = may_go_on c g a best is.may_go;
  least = λ p may. is.least p (may_go_back c g a p may);
}

-- whatever the legalizers, a cell has one best place on both frames
pub best_same : BestPlaceIsUnique → (l m : Legalizer) (c : PlacementQuery) (target : Point) (g : Frame) → AreFramesAlike c.frame g → IsSized c.frame c.mac
    → l.best_place c target ≡ m.best_place (query_on g c) target
best_same one l m c target g a sized =
    one (query_on g c) target (l.best_place c target) (m.best_place (query_on g c) target)
    (choice_on c target g a (l.best_place c target) (l.finds_best_place c target sized))
    (m.finds_best_place (query_on g c) target (sized_on c.frame g a c.mac sized))

-- ---- anchors

pub anchor_same : (f g : Frame) → AreFramesAlike f g → (team : ℕ) → anchor f team ≡ anchor g team
anchor_same f g a team =
    ap (λ (teams : List Team). option_map_or (λ (fence : Team). first_corner fence.rects) (slice_get teams team) (first_origin f.rows)) a.fences
    ∙ ap (λ (rows : List Row). option_map_or (λ (fence : Team). first_corner fence.rects) (slice_get g.teams team) (first_origin rows)) a.rows
