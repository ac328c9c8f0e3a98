-- A place is team-legal exactly if it keeps the frame's rules and is apart from the team's other
-- cells. A rule is the first broken if each lesser one holds. Only this file lists the eight rules.
use Rattle.std.proofs.Common.{◌≡◌, ◌≢◌, ◌⊎◌, ◌↔◌, ℕ, zero, suc, ◌+◌, ◌<◌, ◌≤◌, List, None, inl, inr, refl, sym, ◌∙◌, ap, subst, arith}
use Rattle.lf_floorplan.specs.Ground.{StaysInGround, IsClear}
use Rattle.lf_floorplan.specs.RowSupport.{RestsOnRows}
use Rattle.lf_units.specs.declared.placed.Placed.{Placed}
use Rattle.lf_rules.specs.declared.rule.Rule.{Rule}
use Rattle.lf_rules.specs.declared.rule.Rule.TheVariants.{Height, Row as RowRule, Stand, Orient as OrientRule, Rail as RailRule, Fence, Obstacle, Overlap}
use Rattle.lf_rules.specs.Legality.{Candidate, box_of, Holds, IsApart, IsOnRail, IsOriented, IsTeamLegal, number_of, IsFirstBroken, LessPaddingKeepsLegal}
use Rattle.lf_rules.specs.Padding.{length_of}
use Rattle.lf_rules.proofs.WiderLemmas.{length_upto, shares_wider}

-- Each lesser rule holds.
abbrev pub HoldsBelow : Candidate → Rule → Type 0
HoldsBelow t r = (s : Rule) → number_of s < number_of r → Holds t s

-- The frame's rules hold: those with numbers up to 7.
abbrev pub KeepsFrame : Candidate → Type 0
KeepsFrame t = (r : Rule) → number_of r ≤ 7 → Holds t r

-- ---- the rules and their numbers

-- The rule with a number.
abbrev rule_at : ℕ → Rule
rule_at zero = Overlap
rule_at (suc zero) = Height
rule_at (suc (suc zero)) = RowRule
rule_at (suc (suc (suc zero))) = Stand
rule_at (suc (suc (suc (suc zero)))) = OrientRule
rule_at (suc (suc (suc (suc (suc zero))))) = RailRule
rule_at (suc (suc (suc (suc (suc (suc zero)))))) = Fence
rule_at (suc (suc (suc (suc (suc (suc (suc zero))))))) = Obstacle
rule_at (suc (suc (suc (suc (suc (suc (suc (suc n)))))))) = Overlap

-- A rule's number is from 1 to 8 and determines the rule.
record IsNumbered (r : Rule) : Type 0 where
  back : rule_at (number_of r) ≡ r
  least : 1 ≤ number_of r
  most : number_of r ≤ 8

numbered : (r : Rule) → IsNumbered r
numbered Height = record { back = refl; least = omega arith; most = omega arith }
numbered RowRule = record { back = refl; least = omega arith; most = omega arith }
numbered Stand = record { back = refl; least = omega arith; most = omega arith }
numbered OrientRule = record { back = refl; least = omega arith; most = omega arith }
numbered RailRule = record { back = refl; least = omega arith; most = omega arith }
numbered Fence = record { back = refl; least = omega arith; most = omega arith }
numbered Obstacle = record { back = refl; least = omega arith; most = omega arith }
numbered Overlap = record { back = refl; least = omega arith; most = omega arith }

-- Rules with the same number are equal.
pub rule_same : (a b : Rule) → number_of a ≡ number_of b → a ≡ b
rule_same a b e = sym (numbered a).back ∙ ap rule_at e ∙ (numbered b).back

-- No rule is lesser than the first.
pub none_below : (t : Candidate) → HoldsBelow t Height
none_below t s less = let least = (numbered s).least in absurd (omega (arith, less, least))

-- If a rule and each lesser one hold, each rule lesser than the next one holds.
pub next_below : (t : Candidate) (r next : Rule) → number_of next ≡ number_of r + 1 → HoldsBelow t r → Holds t r → HoldsBelow t next
next_below t r next is below held s less = elim order [
  | inl lesser ↦ below s lesser
  | inr same ↦ subst (Holds t) (sym (rule_same s r same)) held
]
  where
    order : (number_of s < number_of r) ⊎ (number_of s ≡ number_of r)
    order = grind (arith, less, is)

-- ---- the first broken rule

-- A rule other than Overlap that is broken is the first broken if each lesser one holds.
pub first_broken_by : (t : Candidate) (r : Rule) → HoldsBelow t r → (Holds t r → ⊥) → r ≢ Overlap → IsFirstBroken t record { rule = r; other = None }
first_broken_by t r below not_so other = record { broken = not_so; lesser = below; other = other }

-- ---- a legal place in two parts

pub frame_below : (t : Candidate) → HoldsBelow t Overlap → KeepsFrame t
frame_below t below r few = below r (omega (arith, few))

pub below_overlap : (t : Candidate) → KeepsFrame t → HoldsBelow t Overlap
below_overlap t keeps r less = keeps r (omega (arith, less))

all_hold : (t : Candidate) → KeepsFrame t → IsApart t → IsTeamLegal t
all_hold t keeps apart r = elim order [
  | inl few ↦ keeps r few
  | inr last ↦ subst (Holds t) (sym (rule_same r Overlap last)) apart
]
  where
    order : (number_of r ≤ 7) ⊎ (number_of r ≡ 8)
    order = let most = (numbered r).most in grind (arith, most)

-- A place is team-legal exactly if it keeps the frame's rules and is apart.
pub legal_by_parts : (t : Candidate) → IsTeamLegal t ↔ (KeepsFrame t × IsApart t)
legal_by_parts t = (λ legal. ((λ r few. legal r), legal Overlap), λ parts. all_hold t parts.0 parts.1)

-- ---- the frame's rules by their meaning

-- The content of the frame's rules: where the box rests, its orientation, and the ground it covers.
pub record IsPlacedInFrame (t : Candidate) : Type 0 where
  pub is_in_place : RestsOnRows t.frame (box_of t)
  pub oriented : IsOriented t
  pub on_rail : IsOnRail t
  pub ground : StaysInGround t.frame t.team (box_of t)
  pub clear : IsClear t.frame (box_of t)

pub frame_kept : (t : Candidate) → IsPlacedInFrame t → KeepsFrame t
frame_kept t s Height few = s.is_in_place.height
frame_kept t s RowRule few = s.is_in_place.row
frame_kept t s Stand few = s.is_in_place.are_placed
frame_kept t s OrientRule few = s.oriented
frame_kept t s RailRule few = s.on_rail
frame_kept t s Fence few = s.ground
frame_kept t s Obstacle few = s.clear
frame_kept t s Overlap few = absurd (omega (arith, few))

pub frame_meant : (t : Candidate) → KeepsFrame t → IsPlacedInFrame t
frame_meant t keeps = record {
  is_in_place = record { height = keeps Height (omega arith); row = keeps RowRule (omega arith); are_placed = keeps Stand (omega arith) };
  oriented = keeps OrientRule (omega arith);
  on_rail = keeps RailRule (omega arith);
  ground = keeps Fence (omega arith);
  clear = keeps Obstacle (omega arith);
}

-- The same cell at the same place, with these other cells.
abbrev pub beside : Candidate → List Placed → Candidate
beside t others = record t { others = others }

-- The frame's rules do not depend on the other cells.
pub frame_beside : (t : Candidate) (others : List Placed) → KeepsFrame t → KeepsFrame (beside t others)
frame_beside t others keeps =
    let s = frame_meant t keeps in
    frame_kept (beside t others) record { is_in_place = s.is_in_place; oriented = s.oriented; on_rail = s.on_rail; ground = s.ground; clear = s.clear }

-- They do not depend on the padding either.
pub frame_padded : (t : Candidate) (padding : ℕ) → KeepsFrame t → KeepsFrame (record t { padding = padding })
frame_padded t padding keeps =
    let s = frame_meant t keeps in
    frame_kept (record t { padding = padding }) record { is_in_place = s.is_in_place; oriented = s.oriented; on_rail = s.on_rail; ground = s.ground; clear = s.clear }

-- A legal place remains legal with less padding.
pub legal_with_less : LessPaddingKeepsLegal
legal_with_less t less upto legal =
    let longer = length_upto t.frame less t.padding upto in
    (legal_by_parts (record t { padding = less })).1 (
      frame_padded t less ((legal_by_parts t).0 legal).0,
      λ k d within does_overlap. legal Overlap k d within (shares_wider (length_of t.frame less) (length_of t.frame t.padding) (box_of t) _ longer does_overlap),
    )
