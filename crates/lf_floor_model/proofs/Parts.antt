-- A fully legal design, team by team: each team's part is fully legal, and the parts together make
-- it fully legal.
use Rattle.std.proofs.Common.{◌≡◌, ◌≢◌, ℕ, zero, suc, ◌+◌, ◌<◌, List, [], ◌∷◌, Bool, true, false, cond, eqb, filter, get_or, Option, Some, None, ◌⊎◌, inl, inr, refl, ap, sym, ◌∙◌, subst, arith}
use Rattle.std.specs.Prelude.{All, AllPairs, IsSome, MatchOption, slice_get, unwrap_or}
use Rattle.std.specs.Option.{ForSome}
use Rattle.std.proofs.lemmas.Bool.{eq-eqb}
use Rattle.std.proofs.lemmas.Bool.Decides.{eqb_tells}
use Rattle.std.proofs.lemmas.List.Elements.{All-nil, All-cons, All-head, All-tail, All-filter}
use Rattle.std.proofs.lemmas.List.Kept.{AllPairs-cons, AllPairs-filter}
use Rattle.std.proofs.lemmas.Option.{slice_get_within, get_or_from_slice_get}
use Rattle.lf_units.specs.declared.geometry.Rect.{Rect}
use Rattle.lf_units.specs.Area.{SharesPoint}
use Rattle.lf_floorplan.specs.declared.frame.Frame.{Frame}
use Rattle.lf_floorplan.proofs.GroundLemmas.{teams_apart}
use Rattle.lf_rules.specs.Choice.{SpotPlace, IsLegalAt, candidate_at}
use Rattle.lf_rules.specs.FullyLegal.{DesignCell, candidate_alone, KeepsRules, DoNotOverlap, IsFullyLegal, design_cell, with_team, design_cells_from}
use Rattle.lf_rules.specs.Team.{Member, box_in, query_from, IsLegalCell}
use Rattle.lf_rules.proofs.BesideLemmas.{beside_hold}
use Rattle.lf_rules.proofs.LegalParts.{frame_beside, frame_meant, legal_by_parts}
use Rattle.lf_rules.proofs.TidyLemmas.{Clear, turn}
use Rattle.lf_rules.proofs.WiderLemmas.{wider_none}

-- ---- lists

module _ {X : Type 0} where
  pub taken : (p : X → Bool) (x : X) (xs : List X) → p x ≡ true → filter p (x ∷ xs) ≡ x ∷ filter p xs
  taken p x xs is = ap (λ (b : Bool). cond b (x ∷ filter p xs) (filter p xs)) is

  pub passed : (p : X → Bool) (x : X) (xs : List X) → p x ≡ false → filter p (x ∷ xs) ≡ filter p xs
  passed p x xs is = ap (λ (b : Bool). cond b (x ∷ filter p xs) (filter p xs)) is

  pub each : (P : X → Type 0) (xs : List X) (i : ℕ) (x : X) → All P xs → slice_get xs i ≡ Some x → P x
  each P xs i x all there = subst P (get_or_from_slice_get xs i x x there) (all i x (slice_get_within xs i x there))

  pub each_two : (R : X → X → Type 0) (xs : List X) (i j : ℕ) (x y : X) → AllPairs R xs → i < j → slice_get xs i ≡ Some x → slice_get xs j ≡ Some y → R x y
  each_two R xs i j x y all less here there =
      subst (λ (z : X). R z y) (get_or_from_slice_get xs i x x here)
      (subst (λ (z : X). R (get_or xs i x) z) (get_or_from_slice_get xs j y x there) (all i j x less (slice_get_within xs j y there)))

  pub all_there : (P : X → Type 0) (xs : List X) → ((i : ℕ) (x : X) → slice_get xs i ≡ Some x → P x) → All P xs
  all_there P [] h = All-nil P
  all_there P (x ∷ xs) h = All-cons P x xs (h 0 x refl) (all_there P xs (λ i y there. h (suc i) y there))

  pairs_head : (R : X → X → Type 0) (x : X) (xs : List X) → AllPairs R (x ∷ xs) → All (R x) xs
  pairs_head R x xs all i d within = all 0 (suc i) d (omega arith) (omega (arith, within))

  pairs_tail : (R : X → X → Type 0) (x : X) (xs : List X) → AllPairs R (x ∷ xs) → AllPairs R xs
  pairs_tail R x xs all i j d less within = all (suc i) (suc j) d (omega (arith, less)) (omega (arith, within))

  -- a fact on the elements of the filtered list holds for each element that passes the test
  filtered_each : (P : X → Type 0) (p : X → Bool) (xs : List X) → All P (filter p xs) → All (λ x. p x ≡ true → P x) xs
  filtered_each P p [] h = All-nil (λ x. p x ≡ true → P x)
  filtered_each P p (x ∷ xs) h = by (p x) refl h (λ g. filtered_each P p xs g) where
    by : (b : Bool) → p x ≡ b → All P (cond b (x ∷ filter p xs) (filter p xs)) → (All P (filter p xs) → All (λ y. p y ≡ true → P y) xs)
        → All (λ y. p y ≡ true → P y) (x ∷ xs)
    by true e g rest = All-cons (λ y. p y ≡ true → P y) x xs (λ _. All-head P x (filter p xs) g) (rest (All-tail P x (filter p xs) g))
    by false e g rest = All-cons (λ y. p y ≡ true → P y) x xs (λ t. absurd cc) (rest g)

-- ---- the part of a team

-- the cells of the team of that number
abbrev pub part_of : ℕ → List DesignCell → List DesignCell
part_of team cells = filter (λ c. eqb c.team team) cells

own_part : (team : ℕ) (cells : List Member) (rest : List DesignCell) → part_of team (with_team team cells rest) ≡ with_team team cells (part_of team rest)
own_part team [] rest = refl
own_part team (m ∷ ms) rest =
    taken (λ c. eqb c.team team) (design_cell team m) (with_team team ms rest) (eq-eqb team team refl)
    ∙ ap (λ (cs : List DesignCell). design_cell team m ∷ cs) (own_part team ms rest)

other_part : (team other : ℕ) → eqb other team ≡ false → (cells : List Member) (rest : List DesignCell)
    → part_of team (with_team other cells rest) ≡ part_of team rest
other_part team other differ [] rest = refl
other_part team other differ (m ∷ ms) rest =
    passed (λ c. eqb c.team team) (design_cell other m) (with_team other ms rest) differ ∙ other_part team other differ ms rest

pub not_equal : (a b : ℕ) → a ≢ b → eqb a b ≡ false
not_equal a b differ = elim (eqb_tells a b) [ inl same ↦ absurd (differ same.1) | inr other ↦ other.0 ]

-- no team with a number below the first has a part
none_before : (team from : ℕ) → team < from → (teams : List (List Member)) → part_of team (design_cells_from from teams) ≡ []
none_before team from less [] = refl
none_before team from less (cells ∷ teams) =
    other_part team from (not_equal from team (λ e. omega (arith, less, e))) cells (design_cells_from (from + 1) teams)
    ∙ none_before team (from + 1) (omega (arith, less)) teams

part_from : (team from k : ℕ) → team ≡ from + k → (teams : List (List Member))
    → part_of team (design_cells_from from teams) ≡ with_team team (unwrap_or (slice_get teams k) []) []
part_from team from k is [] = refl
part_from team from zero is (cells ∷ teams) =
    let same : from ≡ team = omega (arith, is) in
    ap (λ (n : ℕ). part_of team (with_team n cells (design_cells_from (from + 1) teams))) same
    ∙ own_part team cells (design_cells_from (from + 1) teams)
    ∙ ap (λ (rest : List DesignCell). with_team team cells rest) (none_before team (from + 1) (omega (arith, is)) teams)
part_from team from (suc k) is (cells ∷ teams) =
    other_part team from (not_equal from team (λ e. omega (arith, is, e))) cells (design_cells_from (from + 1) teams)
    ∙ part_from team (from + 1) k (omega (arith, is)) teams

-- the part of a team in the design of all teams has its own cells
pub part_is : (team : ℕ) (teams : List (List Member)) → part_of team (design_cells_from 0 teams) ≡ with_team team (unwrap_or (slice_get teams team) []) []
part_is team teams = part_from team 0 team (omega arith) teams

-- ---- a team of a fully legal design

part_legal : (f : Frame) (cells : List DesignCell) (team : ℕ) → IsFullyLegal f cells → IsFullyLegal f (part_of team cells)
part_legal f cells team legal = record {
  placed = All-filter (λ c. eqb c.team team) (λ c. IsSome c.place) cells legal.placed;
  kept = All-filter (λ c. eqb c.team team) (λ c. ForSome c.place (λ p. KeepsRules f c p)) cells legal.kept;
  apart = AllPairs-filter (λ a b. DoNotOverlap f a b) (λ c. eqb c.team team) cells legal.apart;
}

is_placed_in : (team : ℕ) (cells : List Member) (own : ℕ) (m : Member) → slice_get cells own ≡ Some m
    → slice_get (with_team team cells []) own ≡ Some (design_cell team m)
is_placed_in team [] own m there = absurd cc
is_placed_in team (x ∷ xs) zero m there =
    let same : x ≡ m = cc in
    ap (λ (y : Member). Some (design_cell team y)) same
is_placed_in team (x ∷ xs) (suc own) m there = is_placed_in team xs own m there

before_or_after : (k own : ℕ) → k ≢ own → (own < k) ⊎ (k < own)
before_or_after k own differ = grind (arith, differ)

not_placed : (o : Option SpotPlace) → o ≡ None → IsSome o → ⊥
not_placed None is placed = cc
not_placed (Some p) is placed = cc

-- each cell of a team that is fully legal by itself is placed legally
module _ (f : Frame) (team : ℕ) (cells : List Member) (legal : IsFullyLegal f (with_team team cells [])) where
  two_apart : (i j : ℕ) (a b : Member) (p q : SpotPlace) → i < j → slice_get cells i ≡ Some a → slice_get cells j ≡ Some b → a.place ≡ Some p → b.place ≡ Some q
      → SharesPoint (box_in f a.mac p) (box_in f b.mac q) → ⊥
  two_apart i j a b p q less here there is_p is_q =
      each_two (λ a b. DoNotOverlap f a b) (with_team team cells []) i j (design_cell team a) (design_cell team b) legal.apart less
      (is_placed_in team cells i a here) (is_placed_in team cells j b there) p is_p q is_q

  clear : (own : ℕ) (m : Member) (p : SpotPlace) → slice_get cells own ≡ Some m → m.place ≡ Some p → Clear f cells own (box_in f m.mac p)
  clear own m p there is k n q differ here at does_overlap = elim (before_or_after k own differ) [
    | inl after ↦ two_apart own k m n p q after there here is at does_overlap
    | inr before ↦ two_apart k own n m q p before here there at is (turn (box_in f m.mac p) (box_in f n.mac q) does_overlap)
  ]

  legal_where : (own : ℕ) (m : Member) (p : SpotPlace) → KeepsRules f (design_cell team m) p → Clear f cells own (box_in f m.mac p)
      → IsLegalAt (query_from f team 0 cells own m.mac) p
  legal_where own m p keeps clear =
      let query_unplaced = query_from f team 0 cells own m.mac in
      (legal_by_parts (candidate_at query_unplaced p)).1 (
        frame_beside (candidate_alone f (design_cell team m) p) query_unplaced.others keeps,
        subst (λ (box : Rect). All (λ other. SharesPoint box other.rect → ⊥) query_unplaced.others) (sym (wider_none f (box_in f m.mac p)))
            (beside_hold (λ rect. SharesPoint (box_in f m.mac p) rect → ⊥) f cells own clear),
      )

  is_placed_alone : (own : ℕ) → IsLegalCell f team 0 cells own
  is_placed_alone own m there = by m.place refl where
    placed : IsSome m.place
    placed = each (λ (c : DesignCell). IsSome c.place) (with_team team cells []) own (design_cell team m) legal.placed (is_placed_in team cells own m there)

    by : (place : Option SpotPlace) → m.place ≡ place → MatchOption place ⊥ (λ p. IsLegalAt (query_from f team 0 cells own m.mac) p)
    by None is = absurd (not_placed m.place is placed)
    by (Some p) is =
        let keeps : KeepsRules f (design_cell team m) p =
        each (λ (c : DesignCell). ForSome c.place (λ p. KeepsRules f c p)) (with_team team cells []) own (design_cell team m) legal.kept
        (is_placed_in team cells own m there) p is in
        legal_where own m p keeps (clear own m p there is)

-- in a fully legal design each team's cells are placed and team-legal
pub legal_teams : (f : Frame) (teams : List (List Member)) → IsFullyLegal f (design_cells_from 0 teams)
    → (team : ℕ) (cells : List Member) → slice_get teams team ≡ Some cells → (own : ℕ) → IsLegalCell f team 0 cells own
legal_teams f teams legal team cells there own =
    let is : part_of team (design_cells_from 0 teams) ≡ with_team team cells [] =
    part_is team teams ∙ ap (λ (o : Option (List Member)). with_team team (unwrap_or o []) []) there in
    is_placed_alone f team cells (subst (λ (cs : List DesignCell). IsFullyLegal f cs) is (part_legal f (design_cells_from 0 teams) team legal)) own

-- ---- a design from its parts

-- a fact on each team's cells in a list holds for those of its tail
part_tail : (P : DesignCell → Type 0) (c : DesignCell) (cs : List DesignCell) (team : ℕ) → All P (part_of team (c ∷ cs)) → All P (part_of team cs)
part_tail P c cs team = by (eqb c.team team) where
  by : (b : Bool) → All P (cond b (c ∷ part_of team cs) (part_of team cs)) → All P (part_of team cs)
  by true all = All-tail P c (part_of team cs) all
  by false all = all

pairs_part_tail : (R : DesignCell → DesignCell → Type 0) (c : DesignCell) (cs : List DesignCell) (team : ℕ) → AllPairs R (part_of team (c ∷ cs))
    → AllPairs R (part_of team cs)
pairs_part_tail R c cs team = by (eqb c.team team) where
  by : (b : Bool) → AllPairs R (cond b (c ∷ part_of team cs) (part_of team cs)) → AllPairs R (part_of team cs)
  by true all = pairs_tail R c (part_of team cs) all
  by false all = all

part_head : (c : DesignCell) (cs : List DesignCell) → part_of c.team (c ∷ cs) ≡ c ∷ part_of c.team cs
part_head c cs = taken (λ d. eqb d.team c.team) c cs (eq-eqb c.team c.team refl)

-- a fact on each team's cells holds for all cells
all_by_parts : (P : DesignCell → Type 0) (cells : List DesignCell) → ((team : ℕ) → All P (part_of team cells)) → All P cells
all_by_parts P [] parts = All-nil P
all_by_parts P (c ∷ cs) parts =
    All-cons P c cs
    (All-head P c (part_of c.team cs) (subst (λ (xs : List DesignCell). All P xs) (part_head c cs) (parts c.team)))
    (all_by_parts P cs (λ team. part_tail P c cs team (parts team)))

-- a relation of each two cells of one team, and of cells of different teams, holds for each two
-- cells
pairs_by_parts : (R : DesignCell → DesignCell → Type 0) (cells : List DesignCell) → ((team : ℕ) → AllPairs R (part_of team cells))
    → AllPairs (λ a b. a.team ≢ b.team → R a b) cells → AllPairs R cells
pairs_by_parts R [] parts across = λ i j d less within. absurd (omega arith)
pairs_by_parts R (c ∷ cs) parts across =
    AllPairs-cons R c cs first
    (pairs_by_parts R cs (λ team. pairs_part_tail R c cs team (parts team)) (pairs_tail (λ a b. a.team ≢ b.team → R a b) c cs across))
  where
    own : All (λ d. eqb d.team c.team ≡ true → R c d) cs
    own = filtered_each (R c) (λ d. eqb d.team c.team) cs
        (pairs_head R c (part_of c.team cs) (subst (λ (xs : List DesignCell). AllPairs R xs) (part_head c cs) (parts c.team)))

    first : All (R c) cs
    first i d within = elim (eqb_tells (get_or cs i d).team c.team) [
      | inl same ↦ own i d within same.0
      | inr other ↦ pairs_head (λ a b. a.team ≢ b.team → R a b) c cs across i d within (λ e. other.1 (sym e))
    ]

-- a design with the parts of a fully legal one is fully legal: the order of the cells does not
-- matter
pub same_parts : (f : Frame) (a b : List DesignCell) → ((team : ℕ) → part_of team a ≡ part_of team b) → IsFullyLegal f a → IsFullyLegal f b
same_parts f a b same legal = record {
  placed = all_by_parts (λ c. IsSome c.place) b (λ team. (own team).placed);
  kept = kept;
  apart = pairs_by_parts (λ a b. DoNotOverlap f a b) b (λ team. (own team).apart) (λ i j d less within differ p is_p q is_q does_overlap.
      teams_apart f (get_or b i d).team (get_or b j d).team (box_in f (get_or b i d).mac p) (box_in f (get_or b j d).mac q) differ
      (frame_meant (candidate_alone f (get_or b i d) p) (kept i d (omega (arith, less, within)) p is_p)).ground
      (frame_meant (candidate_alone f (get_or b j d) q) (kept j d within q is_q)).ground does_overlap);
} where
  own : (team : ℕ) → IsFullyLegal f (part_of team b)
  own team = subst (λ (cs : List DesignCell). IsFullyLegal f cs) (same team) (part_legal f a team legal)

  kept : All (λ c. ForSome c.place (λ p. KeepsRules f c p)) b
  kept = all_by_parts (λ c. ForSome c.place (λ p. KeepsRules f c p)) b (λ team. (own team).kept)
