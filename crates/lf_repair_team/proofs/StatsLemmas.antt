-- The statistics of a team's cells, cell by cell.
use Rattle.std.proofs.Common.{◌≡◌, ◌≢◌, ◌↔◌, ◌⊎◌, inl, inr, ⊎_elim, ℕ, ◌+◌, ◌*◌, ◌<◌, ◌≤◌, List, [], ◌∷◌, ◌++◌, length, map, max, sum, get_or, Bool, not, ltb, true, false, Option, Some, None, refl, ap, sym, ◌∙◌, subst, zero-add, arith}
use Rattle.std.specs.Prelude.{Contains, IsSome, fold, slice_get, unwrap_or}
use Rattle.std.specs.List.{range_with_len}
use Rattle.std.specs.Option.{option_map}
use Rattle.std.proofs.lemmas.Bool.{cases_eq, cases_lt, false≢true, ltb-true, lt-ltb}
use Rattle.std.proofs.lemmas.List.{get_or_default, length-map}
use Rattle.std.proofs.lemmas.List.FromFn.{map-range_with_len_more, sum_by-map-range_with_len_more}
use Rattle.std.proofs.lemmas.List.Quantifiers.{all_pairs_push}
use Rattle.std.proofs.lemmas.List.Sums.{fold_push}
use Rattle.std.proofs.lemmas.Option.{get_or_from_slice_get, unwrap_or-slice_get}
use Rattle.lf_floorplan.specs.declared.frame.Frame.{Frame}
use Rattle.lf_floorplan.specs.declared.place.Place.{Place}
use Rattle.lf_cells.specs.declared.cell.Cell.{Cell}
use Rattle.lf_cells.specs.declared.cell.CellId.{CellId}
use Rattle.lf_cells.specs.Cells.{id_of, working_at}
use Rattle.lf_floor_model.specs.States.{FloorState, TeamState}
use Rattle.lf_floor_model.specs.Teams.{state_of, team_number}
use Rattle.lf_floor_model.proofs.LegalPlaces.{some_one}
use Rattle.lf_repair_strategy.specs.declared.stats.DisplacementMeans.{DisplacementMeans}
use Rattle.lf_repair_strategy.specs.declared.stats.RepairStats.{RepairStats}
use Rattle.lf_repair_strategy.specs.Targets.{AreWorkingPlaces, target_at}
use Rattle.lf_repair_team.specs.CellEdits.{AreLegalFlags, CountsIf, CountsOneCell, AreStatsOfFirst}
use Rattle.lf_repair_team.specs.TeamRepairs.{ChangesOnly, IsLegalIn, place_of_cell_in}
use Rattle.lf_repair_team.specs.Stats.{AreTurned, HowMany, AreStatsOf, AreTeamStats, displacement, all_displacements}
use Rattle.lf_repair_team.proofs.Finding.{team_was}
use Rattle.lf_repair_team.proofs.Legal.{state_there}
use Rattle.lf_repair_strategy.proofs.Lists.{before_last, last_is, one_longer}
use Rattle.lf_repair_team.proofs.Lists.{at_last, still_in}
use Rattle.lf_repair_team.proofs.Steps.{place_of_state}

-- ---- counts

pub none_so : (So : ℕ → Type 0) (count : ℕ) → count ≡ 0 → HowMany 0 So count
none_so So count none = record {
  which = [];
  rise = λ i j d before within. absurd (omega (arith, within));
  are = λ own. (λ held. absurd (omega (arith, held.1)), λ so. absurd (omega (arith, so.0)));
  many = sym none;
}

-- the elements of a list with one more
in_longer : (xs : List ℕ) (x y : ℕ) → Contains (xs ++ x ∷ []) y → Contains xs y ⊎ (y ≡ x)
in_longer xs x y (k, within, is) = ⊎_elim earlier last (cases_lt k (length xs)) where
  earlier : k < length xs → Contains xs y ⊎ (y ≡ x)
  earlier less = inl (
    k,
    less,
    sym (unwrap_or-slice_get xs k y) ∙ ap (λ (o : Option ℕ). unwrap_or o y) (sym (before_last xs x k less)) ∙ unwrap_or-slice_get (xs ++ x ∷ []) k y ∙ is,
  )

  last : length xs ≤ k → Contains xs y ⊎ (y ≡ x)
  last past =
      let here : k ≡ length xs = omega (arith, within, past, one_longer xs x) in
      inr (sym is ∙ ap (λ (j : ℕ). get_or (xs ++ x ∷ []) j y) here ∙ get_or_from_slice_get (xs ++ x ∷ []) (length xs) x y (last_is xs x))

module _ (So : ℕ → Type 0) (k old : ℕ) (so_far : HowMany k So old) where
  within_so : (own : ℕ) → Contains so_far.which own → own < k
  within_so own held = ((so_far.are own).0 held).0

  is_so : (own : ℕ) → Contains so_far.which own → So own
  is_so own held = ((so_far.are own).0 held).1

  one_so : (new : ℕ) → So k → new ≡ old + 1 → HowMany (k + 1) So new
  one_so new so more = record {
    which = so_far.which ++ k ∷ [];
    rise = all_pairs_push (λ own later. own < later) so_far.which k so_far.rise
        (λ i d within. within_so (get_or so_far.which i d) (i, within, get_or_default so_far.which i (get_or so_far.which i d) d within));
    are = λ own. (λ held. ⊎_elim (earlier own) (here own) (in_longer so_far.which k own held), λ both. into own both.0 both.1);
    many = one_longer so_far.which k ∙ ap (λ (n : ℕ). n + 1) so_far.many ∙ sym more;
  } where
    earlier : (own : ℕ) → Contains so_far.which own → (own < k + 1) × So own
    earlier own held = let less = within_so own held in (omega (arith, less), is_so own held)

    here : (own : ℕ) → own ≡ k → (own < k + 1) × So own
    here own same = (omega (arith, same), subst So (sym same) so)

    into : (own : ℕ) → own < k + 1 → So own → Contains (so_far.which ++ k ∷ []) own
    into own within is =
        ⊎_elim (λ (same : own ≡ k). subst (λ (j : ℕ). Contains (so_far.which ++ k ∷ []) j) (sym same) (at_last so_far.which k))
        (λ (differ : own ≢ k). still_in so_far.which k own ((so_far.are own).1 (omega (arith, within, differ), is))) (cases_eq own k)

  none_more : (new : ℕ) → (So k → ⊥) → new ≡ old → HowMany (k + 1) So new
  none_more new never same = record {
    which = so_far.which;
    rise = so_far.rise;
    are = λ own. (λ held. earlier own held, λ both. into own both.0 both.1);
    many = so_far.many ∙ sym same;
  } where
    earlier : (own : ℕ) → Contains so_far.which own → (own < k + 1) × So own
    earlier own held = let less = within_so own held in (omega (arith, less), is_so own held)

    into : (own : ℕ) → own < k + 1 → So own → Contains so_far.which own
    into own within is =
        ⊎_elim (λ (here : own ≡ k). absurd (never (subst So here is))) (λ (differ : own ≢ k). (so_far.are own).1 (omega (arith, within, differ), is)) (cases_eq own k)

-- one position more
count_more : (So : ℕ → Type 0) (k old new : ℕ) → old ≤ 4000000 → HowMany k So old → CountsIf (So k) old new → HowMany (k + 1) So new
count_more So k old new few so_far (inl (so, more)) = one_so So k old so_far new so (omega (arith, more, few))
count_more So k old new few so_far (inr (never, same)) = none_more So k old so_far new never same

count_few : (So : Type 0) (k old new : ℕ) → old ≤ k → CountsIf So old new → new ≤ k + 1
count_few So k old new few (inl (so, more)) = omega (arith, more, few)
count_few So k old new few (inr (never, same)) = omega (arith, same, few)

-- the same with an equivalent condition
pub counted_as : (So Too : Type 0) (old new : ℕ) → (So → Too) → (Too → So) → CountsIf So old new → CountsIf Too old new
counted_as So Too old new to from (inl (so, more)) = inl (to so, more)
counted_as So Too old new to from (inr (never, same)) = inr (λ too. never (from too), same)

pub counted_by : (So : Type 0) (so : Bool) (old new : ℕ) → ((so ≡ true) ↔ So) → CountsIf (so ≡ true) old new → CountsIf So old new
counted_by So so old new is one = counted_as (so ≡ true) So old new is.0 is.1 one

pub not_so : (so : Bool) → (not so ≡ true) ↔ (so ≡ true → ⊥)
not_so true = (λ never is. false≢true never, λ never. absurd (never refl))
not_so false = (λ is never. false≢true never, λ never. refl)

pub is_more : (n : ℕ) → (ltb 0 n ≡ true) ↔ (0 < n)
is_more n = (λ is. ltb-true 0 n is, λ less. lt-ltb 0 n less)

many_as : (all count : ℕ) (So Too : ℕ → Type 0) → ((own : ℕ) → So own → Too own) → ((own : ℕ) → Too own → So own) → HowMany all So count → HowMany all Too count
many_as all count So Too to from many = record {
  which = many.which;
  rise = many.rise;
  are = λ own. (λ held. (((many.are own).0 held).0, to own ((many.are own).0 held).1), λ both. (many.are own).1 (both.0, from own both.1));
  many = many.many;
}

-- ---- one cell more

-- the numbers are at most the number of cells
pub record IsShortTo (all : ℕ) (reported : RepairStats) : Type 0 where
  pub cells : reported.cells ≤ all
  pub kept : reported.kept ≤ all
  pub displaced_legal : reported.displaced_legal ≤ all
  pub moved : reported.moved ≤ all
  pub placed : reported.placed ≤ all
  pub turned : reported.turned ≤ all
  pub total_displacement : reported.total_displacement ≤ all * 8589934590

pub short_more : (wanted_place now : Option Place) (WasLegal : Type 0) (k : ℕ) (old new : RepairStats) → IsShortTo k old → CountsOneCell wanted_place now WasLegal old new → IsShortTo (k + 1) new
short_more wanted_place now WasLegal k old new short one = record {
  cells = count_few (WasLegal → ⊥) k old.cells new.cells short.cells one.cells;
  kept = count_few (WasLegal × (now ≡ wanted_place)) k old.kept new.kept short.kept one.kept;
  displaced_legal = count_few (WasLegal × (now ≢ wanted_place)) k old.displaced_legal new.displaced_legal short.displaced_legal one.displaced_legal;
  moved = count_few (0 < displacement wanted_place now) k old.moved new.moved short.moved one.moved;
  placed = count_few ((wanted_place ≡ None) × IsSome now) k old.placed new.placed short.placed one.placed;
  turned = count_few (AreTurned wanted_place now) k old.turned new.turned short.turned one.turned;
  total_displacement = omega (arith, short.total_displacement, one.total_displacement, one.short);
}

module _ (wanted_place now : ℕ → Option Place) (WasLegal : ℕ → Type 0) where
  abbrev far : ℕ → ℕ
  far own = displacement (wanted_place own) (now own)

  pub nothing_reported : (reported : RepairStats) → reported.cells ≡ 0 → reported.kept ≡ 0 → reported.displaced_legal ≡ 0 → reported.moved ≡ 0 → reported.placed ≡ 0 → reported.turned ≡ 0 → reported.total_displacement ≡ 0
      → reported.max_displacement ≡ 0 → AreStatsOf wanted_place now WasLegal 0 reported
  nothing_reported reported cells kept pushed moved placed turned total largest = record {
    cells = none_so (λ own. WasLegal own → ⊥) reported.cells cells;
    kept = none_so (λ own. WasLegal own × (now own ≡ wanted_place own)) reported.kept kept;
    displaced_legal = none_so (λ own. WasLegal own × (now own ≢ wanted_place own)) reported.displaced_legal pushed;
    moved = none_so (λ own. 0 < far own) reported.moved moved;
    placed = none_so (λ own. (wanted_place own ≡ None) × IsSome (now own)) reported.placed placed;
    turned = none_so (λ own. AreTurned (wanted_place own) (now own)) reported.turned turned;
    total_displacement = total;
    max_displacement = largest;
  }

  total_more : (k : ℕ) (old new : RepairStats) → k < 4000000 → IsShortTo k old → CountsOneCell (wanted_place k) (now k) (WasLegal k) old new → new.total_displacement ≡ old.total_displacement + far k
  total_more k old new few short one = omega (arith, few, short.total_displacement, one.total_displacement, one.short)

  pub tally_more : (k : ℕ) (old new : RepairStats) → k < 4000000 → IsShortTo k old → AreStatsOf wanted_place now WasLegal k old → CountsOneCell (wanted_place k) (now k) (WasLegal k) old new
      → AreStatsOf wanted_place now WasLegal (k + 1) new
  tally_more k old new few short so_far one = record {
    cells = count_more (λ own. WasLegal own → ⊥) k old.cells new.cells (omega (arith, few, short.cells)) so_far.cells one.cells;
    kept = count_more (λ own. WasLegal own × (now own ≡ wanted_place own)) k old.kept new.kept (omega (arith, few, short.kept)) so_far.kept one.kept;
    displaced_legal = count_more (λ own. WasLegal own × (now own ≢ wanted_place own)) k old.displaced_legal new.displaced_legal (omega (arith, few, short.displaced_legal)) so_far.displaced_legal one.displaced_legal;
    moved = count_more (λ own. 0 < far own) k old.moved new.moved (omega (arith, few, short.moved)) so_far.moved one.moved;
    placed = count_more (λ own. (wanted_place own ≡ None) × IsSome (now own)) k old.placed new.placed (omega (arith, few, short.placed)) so_far.placed one.placed;
    turned = count_more (λ own. AreTurned (wanted_place own) (now own)) k old.turned new.turned (omega (arith, few, short.turned)) so_far.turned one.turned;
    total_displacement = total_more k old new few short one ∙ ap (λ (n : ℕ). n + far k) so_far.total_displacement ∙ sym (sum_by-map-range_with_len_more (λ (n : ℕ). n) far 0 k k (zero-add k));
    max_displacement = one.max_displacement ∙ ap (λ (n : ℕ). max n (far k)) so_far.max_displacement ∙ sym (fold_push max 0 (all_displacements wanted_place now k) (far k))
        ∙ sym (ap (λ (ns : List ℕ). fold max 0 ns) (map-range_with_len_more far 0 k k (zero-add k)));
  }

-- the same with an equivalent condition
one_reported_as : (wanted_place now : Option Place) (WasLegal Too : Type 0) (old new : RepairStats) → (WasLegal → Too) → (Too → WasLegal) → CountsOneCell wanted_place now WasLegal old new
    → CountsOneCell wanted_place now Too old new
one_reported_as wanted_place now WasLegal Too old new to from one = record {
  cells = counted_as (WasLegal → ⊥) (Too → ⊥) old.cells new.cells (λ never too. never (from too)) (λ never was_legal. never (to was_legal)) one.cells;
  kept = counted_as (WasLegal × (now ≡ wanted_place)) (Too × (now ≡ wanted_place)) old.kept new.kept (λ both. (to both.0, both.1)) (λ both. (from both.0, both.1)) one.kept;
  displaced_legal = counted_as (WasLegal × (now ≢ wanted_place)) (Too × (now ≢ wanted_place)) old.displaced_legal new.displaced_legal (λ both. (to both.0, both.1)) (λ both. (from both.0, both.1)) one.displaced_legal;
  moved = one.moved;
  placed = one.placed;
  turned = one.turned;
  short = one.short;
  total_displacement = one.total_displacement;
  max_displacement = one.max_displacement;
}

-- the team's cell with this id is counted
module _ (targets : List (Option Place)) (marks : List Bool) (cells : List Cell) (number k : ℕ) (id : CellId) (wanted_place now : Option Place) (was_legal : Bool) (old new : RepairStats) where
  one_reported_at : id ≡ id_of number k → now ≡ working_at cells k → wanted_place ≡ target_at targets id.own → ((was_legal ≡ true) ↔ (slice_get marks id.own ≡ Some true))
      → CountsOneCell wanted_place now (was_legal ≡ true) old new → CountsOneCell (target_at targets k) (working_at cells k) (slice_get marks k ≡ Some true) old new
  one_reported_at is now_is wanted_place_is marked one =
      let own : id.own ≡ k = ap (λ (i : CellId). i.own) is in
      let there : wanted_place ≡ target_at targets k = wanted_place_is ∙ ap (λ (j : ℕ). target_at targets j) own in
      subst (λ (h : Option Place). CountsOneCell h (working_at cells k) (slice_get marks k ≡ Some true) old new) there
      (subst (λ (n : Option Place). CountsOneCell wanted_place n (slice_get marks k ≡ Some true) old new) now_is
      (subst (λ (j : ℕ). CountsOneCell wanted_place now (slice_get marks j ≡ Some true) old new) own
      (one_reported_as wanted_place now (was_legal ≡ true) (slice_get marks id.own ≡ Some true) old new marked.0 marked.1 one)))

  pub reported_at : id ≡ id_of number k → now ≡ working_at cells k → wanted_place ≡ target_at targets id.own → ((was_legal ≡ true) ↔ (slice_get marks id.own ≡ Some true)) → k < 4000000
      → IsShortTo k old → AreStatsOfFirst targets marks cells k old → CountsOneCell wanted_place now (was_legal ≡ true) old new → AreStatsOfFirst targets marks cells (k + 1) new
  reported_at is now_is wanted_place_is marked few short so_far one =
      tally_more (target_at targets) (working_at cells) (λ own. slice_get marks own ≡ Some true) k old new few short so_far (one_reported_at is now_is wanted_place_is marked one)

-- the means are no part of it
pub tally_with_means : (targets : List (Option Place)) (marks : List Bool) (cells : List Cell) (all : ℕ) (reported : RepairStats) (means : DisplacementMeans)
    → AreStatsOfFirst targets marks cells all reported → AreStatsOfFirst targets marks cells all (record reported { means = means })
tally_with_means targets marks cells all reported means tally = record {
  cells = tally.cells;
  kept = tally.kept;
  displaced_legal = tally.displaced_legal;
  moved = tally.moved;
  placed = tally.placed;
  turned = tally.turned;
  total_displacement = tally.total_displacement;
  max_displacement = tally.max_displacement;
}

-- ---- the team between two floors

map_same : (f g : ℕ → ℕ) → ((own : ℕ) → f own ≡ g own) → (owns : List ℕ) → map f owns ≡ map g owns
map_same f g same [] = refl
map_same f g same (own ∷ owns) = ap (λ (n : ℕ). n ∷ map f owns) (same own) ∙ ap (λ (ns : List ℕ). g own ∷ ns) (map_same f g same owns)

module _ (wanted_place there now here : ℕ → Option Place) (WasLegal Too : ℕ → Type 0) (all : ℕ) (reported : RepairStats)
    (targets : (own : ℕ) → wanted_place own ≡ there own) (nows : (own : ℕ) → now own ≡ here own)
    (to : (own : ℕ) → WasLegal own → Too own) (from : (own : ℕ) → Too own → WasLegal own) where
  same_ways : all_displacements wanted_place now all ≡ all_displacements there here all
  same_ways = map_same (λ own. displacement (wanted_place own) (now own)) (λ own. displacement (there own) (here own))
      (λ own. ap (λ (h : Option Place). displacement h (now own)) (targets own) ∙ ap (λ (n : Option Place). displacement (there own) n) (nows own)) (range_with_len 0 all)

  tally_as : AreStatsOf wanted_place now WasLegal all reported → AreStatsOf there here Too all reported
  tally_as tally = record {
    cells = many_as all reported.cells (λ own. WasLegal own → ⊥) (λ own. Too own → ⊥) (λ own never too. never (from own too)) (λ own never was_legal. never (to own was_legal)) tally.cells;
    kept = many_as all reported.kept (λ own. WasLegal own × (now own ≡ wanted_place own)) (λ own. Too own × (here own ≡ there own))
        (λ own both. (to own both.0, sym (nows own) ∙ both.1 ∙ targets own)) (λ own both. (from own both.0, nows own ∙ both.1 ∙ sym (targets own))) tally.kept;
    displaced_legal = many_as all reported.displaced_legal (λ own. WasLegal own × (now own ≢ wanted_place own)) (λ own. Too own × (here own ≢ there own))
        (λ own both. (to own both.0, λ same. both.1 (nows own ∙ same ∙ sym (targets own))))
        (λ own both. (from own both.0, λ same. both.1 (sym (nows own) ∙ same ∙ targets own))) tally.displaced_legal;
    moved = many_as all reported.moved (λ own. 0 < displacement (wanted_place own) (now own)) (λ own. 0 < displacement (there own) (here own))
        (λ own far. moves (wanted_place own) (there own) (now own) (here own) (targets own) (nows own) far)
        (λ own far. moves (there own) (wanted_place own) (here own) (now own) (sym (targets own)) (sym (nows own)) far) tally.moved;
    placed = many_as all reported.placed (λ own. (wanted_place own ≡ None) × IsSome (now own)) (λ own. (there own ≡ None) × IsSome (here own))
        (λ own both. (sym (targets own) ∙ both.0, subst (λ (o : Option Place). IsSome o) (nows own) both.1))
        (λ own both. (targets own ∙ both.0, subst (λ (o : Option Place). IsSome o) (sym (nows own)) both.1)) tally.placed;
    turned = many_as all reported.turned (λ own. AreTurned (wanted_place own) (now own)) (λ own. AreTurned (there own) (here own))
        (λ own apart. turns (wanted_place own) (there own) (now own) (here own) (targets own) (nows own) apart)
        (λ own apart. turns (there own) (wanted_place own) (here own) (now own) (sym (targets own)) (sym (nows own)) apart) tally.turned;
    total_displacement = tally.total_displacement ∙ ap (λ (ns : List ℕ). sum ns) same_ways;
    max_displacement = tally.max_displacement ∙ ap (λ (ns : List ℕ). fold max 0 ns) same_ways;
  } where
    moves : (h i n m : Option Place) → h ≡ i → n ≡ m → 0 < displacement h n → 0 < displacement i m
    moves h i n m e f far = subst (λ (p : Option Place). 0 < displacement p m) e (subst (λ (p : Option Place). 0 < displacement h p) f far)

    turns : (h i n m : Option Place) → h ≡ i → n ≡ m → AreTurned h n → AreTurned i m
    turns h i n m e f apart = subst (λ (p : Option Place). AreTurned p m) e (subst (λ (p : Option Place). AreTurned h p) f apart)

pub team_stats_of : (team : List ℕ) (old new : FloorState) (number : ℕ) (targets : List (Option Place)) (marks : List Bool) (reported : RepairStats)
    → team_number old.frame team ≡ Some number → ChangesOnly team old new
    → ((s : TeamState) → slice_get old.teams number ≡ Some s → AreWorkingPlaces s.cells targets) → AreLegalFlags team old marks
    → ((s : TeamState) → slice_get new.teams number ≡ Some s → AreStatsOfFirst targets marks s.cells (length s.cells) reported) → AreTeamStats team old new reported
team_stats_of team old new number targets marks reported named only are marked tally s was =
    let is = team_was team new old s (sym only.names) was in
    let t : TeamState = is.0 in
    let at : state_of new team ≡ Some t = is.1 in
    let still : team_number new.frame team ≡ Some number = ap (λ (f : Frame). team_number f team) only.frame ∙ named in
    subst (λ (all : ℕ). AreStatsOf (place_of_cell_in old team) (place_of_cell_in new team) (IsLegalIn old team) all reported) (many t at)
    (tally_as (target_at targets) (place_of_cell_in old team) (working_at t.cells) (place_of_cell_in new team) (λ own. slice_get marks own ≡ Some true) (IsLegalIn old team) (length t.cells) reported
    (λ own. are s (state_there old team number s named was) own ∙ sym (place_of_state old team own s was))
    (λ own. sym (place_of_state new team own t at))
    (λ own is_marked. marked.only s was own is_marked) (λ own legal. marked.legal own legal)
    (tally t (state_there new team number t still at)))
  where
    by_names : Option TeamState → Option (List (List ℕ))
    by_names o = option_map (λ (u : TeamState). map (λ (c : Cell). c.name) u.cells) o

    many : (t : TeamState) → state_of new team ≡ Some t → length t.cells ≡ length s.cells
    many t at =
        let names : map (λ (c : Cell). c.name) t.cells ≡ map (λ (c : Cell). c.name) s.cells = some_one (sym (ap by_names at) ∙ only.names ∙ ap by_names was) in
        sym (length-map t.cells (λ (c : Cell). c.name)) ∙ ap (λ (ns : List (List ℕ)). length ns) names ∙ length-map s.cells (λ (c : Cell). c.name)
