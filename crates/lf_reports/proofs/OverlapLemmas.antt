-- If all rules except Overlap hold, the least number that overlaps in a tree of the cells' boxes
-- decides.
use Rattle.std.proofs.Common.{◌≡◌, ℕ, List, Option, Some, None, sym, subst}
use Rattle.std.specs.Prelude.{All, IsPermutation, MatchOption}
use Rattle.std.specs.Option.{option_map}
use Rattle.lf_units.specs.declared.geometry.Rect.{Rect}
use Rattle.lf_units.specs.Area.{SharesPoint}
use Rattle.lf_units.specs.declared.placed.Placed.{Placed}
use Rattle.lf_units.specs.Near.{IsLeastOverlapping, IsNoneOverlapping}
use Rattle.lf_rules.specs.declared.rule.Rule.{Rule}
use Rattle.lf_rules.specs.declared.rule.Rule.TheVariants.{Overlap}
use Rattle.lf_rules.specs.Legality.{Candidate, IsFirstOverlapping, IsFrameRuleVerdict, padded_box}
use Rattle.lf_rules.specs.Legalizer.{IsVerdict}
use Rattle.lf_rules.specs.Team.{Member, boxes_from, boxes_beside}
use Rattle.lf_rules.proofs.LeastOverlappingCell.{first_beside, none_beside}
use Rattle.lf_rules.proofs.RuleLemmas.{ApartAt, overlapped_verdict}

-- If all rules except Overlap hold, the least number that overlaps in a tree of the cells' boxes
-- decides.
pub overlapped_in_tree : (t : Candidate) (cells : List Member) (own : ℕ) (tree : List Placed) (box : Rect) (verdict : Option Rule) (overlapping_one : Option ℕ) →
    t.others ≡ boxes_beside t.frame cells own → box ≡ padded_box t → verdict ≡ None → IsFrameRuleVerdict t verdict →
    IsPermutation (boxes_from t.frame 0 cells) tree →
    MatchOption overlapping_one (IsNoneOverlapping tree box own) (IsLeastOverlapping tree box own) → IsVerdict t (option_map (λ other. record { rule = Overlap; other = Some other }) overlapping_one)
overlapped_in_tree t cells own tree box verdict overlapping_one beside at none said same found = overlapped_verdict t box verdict overlapping_one at none said (by overlapping_one found)
  where
    by : (m : Option ℕ) → MatchOption m (IsNoneOverlapping tree box own) (IsLeastOverlapping tree box own) → MatchOption m (ApartAt t box) (λ other. IsFirstOverlapping box t.others other)
    by None none_overlapped = subst (All (λ p. SharesPoint box p.rect → ⊥)) (sym beside) (none_beside t.frame cells tree box own same none_overlapped)
    by (Some other) least = subst (λ (boxes : List Placed). IsFirstOverlapping box boxes other) (sym beside) (first_beside t.frame cells tree box own other same least)
