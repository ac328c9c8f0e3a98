-- The outcome of the swap of two cells.
use Rattle.std.proofs.Common.{◌≡◌, ◌≢◌, ◌⊎◌, inl, inr, ℕ, zero, suc, List, [], ◌∷◌, Option, Some, None, true, refl, ap, sym, ◌∙◌}
use Rattle.std.specs.Prelude.{option_and_then}
use Rattle.std.proofs.lemmas.Bool.{cases_eq}
use Rattle.lf_floorplan.specs.declared.place.Place.{Place}
use Rattle.lf_rules.specs.declared.rule.Broken.{Broken}
use Rattle.lf_rules.specs.declared.rule.Rule.{Rule}
use Rattle.lf_proto.specs.declared.reply.Refusal.{Refusal}
use Rattle.lf_proto.specs.declared.reply.Refusal.TheVariants.{Illegal}
use Rattle.lf_cells.specs.declared.cell.Cell.{Cell}
use Rattle.lf_cells.specs.Cells.{cell_named, moved, working_at}
use Rattle.lf_placement.specs.Placements.{SameButPlaces, moves_applied}
use Rattle.lf_placement.proofs.Moves.{same_moved}
use Rattle.lf_floor_model.specs.States.{TeamState}
use Rattle.lf_floor_model.specs.Teams.{TeamRules, broken_at}
use Rattle.lf_floor_model.specs.Outcomes.{may_be_short, refused}
use Rattle.lf_floor_model.specs.Changes.{broken_where, exchanged, swapped}
use Rattle.lf_floor_model.proofs.Forms.{swapped_from, swapped_own, swapped_unless}
use Rattle.lf_floor_verbs.specs.declared.swap.Exchange.{Exchange}
use Rattle.lf_floor_verbs.specs.Swapping.{IsExchange, exchange_moves, first_refusal_of, illegal_by, swap_refusal, swapped_here}
use Rattle.lf_floor_verbs.proofs.BrokenRules.{first_broken}

some_same : {X : Type 0} {x y : X} → Some x ≡ Some y → x ≡ y
some_same e = cc

-- ---- the places of exchanged cells

working_here : (cells : List Cell) (own : ℕ) (place : Option Place) (was : Place) → working_at cells own ≡ Some was
    → working_at (moved cells own place) own ≡ place
working_here [] own place was is = absurd cc
working_here (c ∷ cs) zero place was is = refl
working_here (c ∷ cs) (suc own) place was is = working_here cs own place was is

working_other : (cells : List Cell) (own k : ℕ) (place : Option Place) → k ≢ own → working_at (moved cells own place) k ≡ working_at cells k
working_other [] own k place differ = refl
working_other (c ∷ cs) zero zero place differ = absurd (differ refl)
working_other (c ∷ cs) zero (suc k) place differ = refl
working_other (c ∷ cs) (suc own) zero place differ = refl
working_other (c ∷ cs) (suc own) (suc k) place differ = working_other cs own k place (λ same. differ (ap suc same))

module _ (cells : List Cell) (a b : ℕ) (from to : Place) (from_is : working_at cells a ≡ Some from) (to_is : working_at cells b ≡ Some to) where
  -- the first is moved alone
  abbrev half : List Cell
  half = moved cells a (Some to)

  pub moved_both : moved half b (Some from) ≡ exchanged cells a b
  moved_both =
      ap (λ (p : Option Place). moved half b p) (sym from_is) ∙ ap (λ (p : Option Place). moved (moved cells a p) b (working_at cells a)) (sym to_is)

  second_in_half : (a ≡ b) ⊎ (a ≢ b) → working_at half b ≡ Some to
  second_in_half (inl same) = ap (λ (n : ℕ). working_at half n) (sym same) ∙ working_here cells a (Some to) from from_is
  second_in_half (inr differ) = working_other cells a b (Some to) (λ same. differ (sym same)) ∙ to_is

  second_now : working_at (moved half b (Some from)) b ≡ Some from
  second_now = working_here half b (Some from) to (second_in_half (cases_eq a b))

  first_now : (a ≡ b) ⊎ (a ≢ b) → working_at (moved half b (Some from)) a ≡ Some to
  first_now (inl same) =
      ap (λ (n : ℕ). working_at (moved half b (Some from)) n) same ∙ second_now ∙ sym from_is ∙ ap (working_at cells) same ∙ to_is
  first_now (inr differ) = working_other half b a (Some from) differ ∙ working_here cells a (Some to) from from_is

  pub first_there : working_at (moved half b (Some from)) a ≡ Some to
  first_there = first_now (cases_eq a b)

  pub second_there : working_at (moved half b (Some from)) b ≡ Some from
  second_there = second_now

  pub same_both : SameButPlaces cells (moved half b (Some from))
  same_both = same_moved half b (Some from) ∙ same_moved cells a (Some to)

  -- the first cell breaks this rule there
  pub first_refused : (t : TeamRules) (rule : Rule) → first_broken rule ≡ broken_at t (moved half b (Some from)) a to
      → Some (Illegal rule a None) ≡ swap_refusal t (exchanged cells a b) a b
  first_refused t rule verdict =
      ap (λ (broken : Option Broken). first_refusal_of (illegal_by broken a) (illegal_by (broken_where t (moved half b (Some from)) b) b))
      (verdict ∙ sym (by (working_at (moved half b (Some from)) a) first_there))
      ∙ ap (λ (cs : List Cell). swap_refusal t cs a b) moved_both
    where
      by : (o : Option Place) → o ≡ Some to
          → option_and_then (λ (p : Place). broken_at t (moved half b (Some from)) a p) o ≡ broken_at t (moved half b (Some from)) a to
      by None e = absurd cc
      by (Some p) e = ap (λ (q : Place). broken_at t (moved half b (Some from)) a q) (some_same e)

pub exchange_made : (number : ℕ) (x : Exchange) (cells : List Cell) → IsExchange number cells x
    → moves_applied (exchange_moves x) cells ≡ exchanged cells x.first.own x.second.own
exchange_made number x cells are = moved_both cells x.first.own x.second.own x.from x.to are.from are.to

-- ---- the outcome of the swap

pub swap_refused : (t : TeamRules) (session first second : ℕ) (s : TeamState) (refusal : Refusal)
    → Some refusal ≡ swap_refusal t (exchanged s.cells first second) first second → swapped_here t session first second s ≡ refused refusal s
swap_refused t session first second s refusal is =
    go (broken_where t (exchanged s.cells first second) first) (broken_where t (exchanged s.cells first second) second) is
  where
    go : (a b : Option Broken) → Some refusal ≡ first_refusal_of (illegal_by a first) (illegal_by b second)
        → swapped_unless a b t session first second (exchanged s.cells first second) s ≡ refused refusal s
    go (Some broken) b e = ap (λ (r : Refusal). refused r s) (sym (some_same e))
    go None (Some broken) e = ap (λ (r : Refusal). refused r s) (sym (some_same e))
    go None None e = absurd cc

pub swap_short : (t : TeamRules) (session first second : ℕ) (s : TeamState) → may_be_short (swapped_here t session first second s).reply ≡ true
swap_short t session first second s =
    go (broken_where t (exchanged s.cells first second) first) (broken_where t (exchanged s.cells first second) second)
  where
    go : (a b : Option Broken) → may_be_short (swapped_unless a b t session first second (exchanged s.cells first second) s).reply ≡ true
    go (Some broken) b = refl
    go None (Some broken) = refl
    go None None = refl

-- the swap of two placed cells of the team
pub swapped_is : (t : TeamRules) (session : ℕ) (first second : List ℕ) (a b : ℕ) (from to : Place) (s : TeamState) → Some a ≡ cell_named first s.cells
    → Some b ≡ cell_named second s.cells
    → working_at s.cells a ≡ Some from → working_at s.cells b ≡ Some to → swapped t session first second s ≡ swapped_here t session a b s
unfolding swapped
swapped_is t session first second a b from to s named named' placed placed' =
    ap (λ (o : Option ℕ). swapped_own o (cell_named second s.cells) t session s) (sym named)
    ∙ ap (λ (o : Option ℕ). swapped_own (Some a) o t session s) (sym named')
    ∙ ap (λ (o : Option Place). swapped_from o (working_at s.cells b) t session a b s) placed
    ∙ ap (λ (o : Option Place). swapped_from (Some from) o t session a b s) placed'
