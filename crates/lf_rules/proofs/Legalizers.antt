-- There is a legalizer.
use Rattle.std.proofs.Common.{Option, Some, None, inl, inr}
use Rattle.lf_units.specs.declared.geometry.Point.{Point}
use Rattle.lf_floorplan.specs.declared.frame.Frame.{Frame}
use Rattle.lf_floorplan.specs.declared.macros.Macro.{Macro}
use Rattle.lf_rules.specs.declared.rule.Broken.{Broken}
use Rattle.lf_units.specs.Area.{SharesPoint}
use Rattle.lf_rules.specs.Legality.{Candidate, box_of, IsTeamLegal}
use Rattle.lf_floorplan.specs.Boxes.{IsSized}
use Rattle.lf_rules.specs.Choice.{SpotPlace, PlacementQuery, IsLegalAt, IsAllowedPlace, IsChoice, candidate_at}
use Rattle.lf_rules.specs.Legalizer.{Legalizer, IsVerdict}
use Rattle.lf_rules.proofs.Deciding.{Settles, both, turned_round, none, some, shares, at_most, below, same}
use Rattle.lf_rules.proofs.Verdicts.{verdict_there}
use Rattle.lf_rules.proofs.Choosing.{choice_there}

settle_sized : (f : Frame) (m : Macro) → Settles (IsSized f m)
settle_sized f m =
    turned_round
    (λ p. record {
      in_lef = record { across = record { least = p.0.0.0; most = p.0.0.1 }; up = record { least = p.0.1.0; most = p.0.1.1 } };
      across = p.1.0.0;
      up = p.1.0.1;
      wide = p.1.1.0;
      high = p.1.1.1;
    })
    (λ s. (((s.in_lef.across.least, s.in_lef.across.most), (s.in_lef.up.least, s.in_lef.up.most)), ((s.across, s.up), (s.wide, s.high))))
    (both (both (both (at_most _ _) (at_most _ _)) (both (at_most _ _) (at_most _ _)))
    (both (both (same _ _) (same _ _)) (both (below _ _) (below _ _))))

legal_or_not : (t : Candidate) (v : Option Broken) → IsVerdict t v → Settles (IsTeamLegal t)
legal_or_not t None h = inl h
legal_or_not t (Some b) h = inr (λ l. h.broken (l b.rule))

may_go_or_not : (c : PlacementQuery) (p : SpotPlace) → Settles (IsLegalAt c p) → Settles (IsAllowedPlace c p)
may_go_or_not c p legal =
    turned_round (λ h. record { legal = h.0; off_soft = h.1 }) (λ m. (m.legal, m.off_soft))
    (both legal (none (some (λ r. SharesPoint (box_of (candidate_at c p)) r) (shares (box_of (candidate_at c p))) c.frame.soft)))

verdict_by : (t : Candidate) → Settles (IsSized t.frame t.mac) → (v : Option Broken) × (IsSized t.frame t.mac → IsVerdict t v)
verdict_by t (inl s) = let v = verdict_there t s in (v.0, λ _. v.1)
verdict_by t (inr n) = (None, λ s. absurd (n s))

choice_by : (c : PlacementQuery) (target : Point) → Settles (IsSized c.frame c.mac) → (found : Option SpotPlace) × (IsSized c.frame c.mac → IsChoice c target found)
choice_by c target (inl s) =
    let found = choice_there c target s (λ p. let v = verdict_there (candidate_at c p) s in may_go_or_not c p (legal_or_not (candidate_at c p) v.0 v.1)) in (found.0, λ _. found.1)
choice_by c target (inr n) = (None, λ s. absurd (n s))

pub legalizer : Legalizer
legalizer = record {
  first_broken = λ t. (verdict_by t (settle_sized t.frame t.mac)).0;
  best_place = λ c target. (choice_by c target (settle_sized c.frame c.mac)).0;
  finds_first_broken = λ t. (verdict_by t (settle_sized t.frame t.mac)).1;
  finds_best_place = λ c target. (choice_by c target (settle_sized c.frame c.mac)).1;
}
