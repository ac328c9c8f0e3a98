-- A design in which each team's cells are placed and team-legal is fully legal.
use Rattle.std.proofs.Common.{◌≡◌, ℕ, suc, ◌+◌, ◌<◌, List, [], ◌∷◌, Option, Some, None, refl, subst, arith, slice_get}
use Rattle.std.specs.Prelude.{All, AllPairs, IsSome, MatchOption}
use Rattle.std.specs.Option.{ForSome}
use Rattle.std.proofs.lemmas.List.Elements.{All-nil, All-cons}
use Rattle.std.proofs.lemmas.List.Kept.{AllPairs-cons}
use Rattle.lf_floorplan.specs.declared.frame.Frame.{Frame}
use Rattle.lf_floorplan.proofs.GroundLemmas.{teams_apart}
use Rattle.lf_rules.specs.declared.rule.Rule.TheVariants.{Fence}
use Rattle.lf_rules.specs.Choice.{SpotPlace, IsLegalAt, candidate_at}
use Rattle.lf_rules.specs.Team.{Member, box_in, query_from, IsLegalCell}
use Rattle.lf_rules.specs.FullyLegal.{DesignCell, KeepsRules, DoNotOverlap, IsFullyLegal, design_cell, with_team, design_cells_from}
use Rattle.lf_rules.proofs.LegalParts.{frame_beside, legal_by_parts}
use Rattle.lf_rules.proofs.TidyLemmas.{clear_of_legal}
use Rattle.lf_rules.proofs.WiderLemmas.{shares_padded}

-- What holds for each cell of the team and for the others holds for all.
team_hold : (P : DesignCell → Type 0) (team : ℕ) (cells : List Member) (rest : List DesignCell) →
    ((own : ℕ) (m : Member) → slice_get cells own ≡ Some m → P (design_cell team m)) → All P rest → All P (with_team team cells rest)
team_hold P team [] rest h all = all
team_hold P team (m ∷ cells) rest h all =
    All-cons P (design_cell team m) (with_team team cells rest) (h 0 m refl) (team_hold P team cells rest (λ own x there. h (suc own) x there) all)

teams_hold : (P : DesignCell → Type 0) (team : ℕ) (teams : List (List Member)) →
    ((k : ℕ) (cells : List Member) → slice_get teams k ≡ Some cells → (own : ℕ) (m : Member) → slice_get cells own ≡ Some m → P (design_cell (team + k) m)) →
    All P (design_cells_from team teams)
teams_hold P team [] h = All-nil P
teams_hold P team (cells ∷ teams) h =
    team_hold P team cells (design_cells_from (team + 1) teams) (λ own m there. subst (λ (n : ℕ). P (design_cell n m)) (omega arith) (h 0 cells refl own m there))
    (teams_hold P (team + 1) teams (λ k others is own m there. subst (λ (n : ℕ). P (design_cell n m)) (omega arith) (h (suc k) others is own m there)))

-- What holds between each two cells of the team, between each of them and the others, and among the
-- others holds for all pairs.
team_pairs : (R : DesignCell → DesignCell → Type 0) (team : ℕ) (cells : List Member) (rest : List DesignCell) →
    ((i j : ℕ) (a b : Member) → i < j → slice_get cells i ≡ Some a → slice_get cells j ≡ Some b → R (design_cell team a) (design_cell team b)) →
    ((i : ℕ) (a : Member) → slice_get cells i ≡ Some a → All (R (design_cell team a)) rest) →
    AllPairs R rest → AllPairs R (with_team team cells rest)
team_pairs R team [] rest within beyond pairs = pairs
team_pairs R team (m ∷ cells) rest within beyond pairs =
    AllPairs-cons R (design_cell team m) (with_team team cells rest)
    (team_hold (R (design_cell team m)) team cells rest (λ own x there. within 0 (suc own) m x (omega arith) refl there) (beyond 0 m refl))
    (team_pairs R team cells rest (λ i j a b less here there. within (suc i) (suc j) a b (omega arith) here there) (λ i a there. beyond (suc i) a there) pairs)

-- A team-legal cell keeps rules 1 to 7 alone.
pub keeps : (f : Frame) (team : ℕ) (cells : List Member) (own : ℕ) (m : Member) (p : SpotPlace) → IsLegalAt (query_from f team 0 cells own m.mac) p → KeepsRules f (design_cell team m) p
keeps f team cells own m p legal =
    let t = candidate_at (query_from f team 0 cells own m.mac) p in
    frame_beside t [] ((legal_by_parts t).0 legal).0

-- A legal cell is placed, and legal at its place.
placed_there : (P : SpotPlace → Type 0) (place : Option SpotPlace) → MatchOption place ⊥ P → IsSome place
placed_there P None is_in_place = absurd is_in_place
placed_there P (Some p) is_in_place = refl

legal_there : (P : SpotPlace → Type 0) (place : Option SpotPlace) → MatchOption place ⊥ P → (p : SpotPlace) → place ≡ Some p → P p
legal_there P None is_in_place p is = absurd is_in_place
legal_there P (Some q) is_in_place p is = let same : q ≡ p = cc in subst P same is_in_place

-- The design of the teams from `team` on, all of whose cells are legal.
abbrev TeamsLegal : Frame → ℕ → List (List Member) → Type 0
TeamsLegal f team teams = (k : ℕ) (cells : List Member) → slice_get teams k ≡ Some cells → (own : ℕ) → IsLegalCell f (team + k) 0 cells own

legal_at : (f : Frame) (team : ℕ) (cells : List Member) (own : ℕ) (m : Member) (p : SpotPlace) → IsLegalCell f team 0 cells own → slice_get cells own ≡ Some m → m.place ≡ Some p →
    IsLegalAt (query_from f team 0 cells own m.mac) p
legal_at f team cells own m p is_in_place there is = legal_there (λ s. IsLegalAt (query_from f team 0 cells own m.mac) s) m.place (is_in_place m there) p is

-- Two cells of one team are apart.
one_team : (f : Frame) (team : ℕ) (cells : List Member) (i j : ℕ) (a b : Member) → i < j → ((own : ℕ) → IsLegalCell f team 0 cells own) →
    slice_get cells i ≡ Some a → slice_get cells j ≡ Some b → DoNotOverlap f (design_cell team a) (design_cell team b)
one_team f team cells i j a b less is_in_place here there p is_p q is_q meet =
    clear_of_legal f team 0 cells i a.mac p (legal_at f team cells i a p (is_in_place i) here is_p) j b q (λ e. omega (arith, less, e)) there is_q
    (shares_padded f 0 (box_in f a.mac p) (box_in f b.mac q) meet)

-- Two cells of different teams are apart.
two_teams : (f : Frame) (s t : ℕ) (first second : List Member) (i j : ℕ) (a b : Member) → (s ≡ t → ⊥) → IsLegalCell f s 0 first i → IsLegalCell f t 0 second j →
    slice_get first i ≡ Some a → slice_get second j ≡ Some b → DoNotOverlap f (design_cell s a) (design_cell t b)
two_teams f s t first second i j a b differ is_placed_a is_placed_b here there p is_p q is_q meet =
    teams_apart f s t (box_in f a.mac p) (box_in f b.mac q) differ (legal_at f s first i a p is_placed_a here is_p Fence) (legal_at f t second j b q is_placed_b there is_q Fence) meet

teams_pairs : (f : Frame) (team : ℕ) (teams : List (List Member)) → TeamsLegal f team teams → AllPairs (λ a b. DoNotOverlap f a b) (design_cells_from team teams)
teams_pairs f team [] legal = λ i j d less within. absurd (omega arith)
teams_pairs f team (cells ∷ teams) legal =
    team_pairs (λ a b. DoNotOverlap f a b) team cells (design_cells_from (team + 1) teams)
    (λ i j a b less here there. one_team f team cells i j a b less own_legal here there)
    (λ i a here. teams_hold (λ b. DoNotOverlap f (design_cell team a) b) (team + 1) teams
    (λ k others is own m there. two_teams f team ((team + 1) + k) cells others i own a m (λ e. omega (arith, e)) (own_legal i) (later k others is own) here there))
    (teams_pairs f (team + 1) teams later)
  where
    own_legal : (own : ℕ) → IsLegalCell f team 0 cells own
    own_legal own = subst (λ (n : ℕ). IsLegalCell f n 0 cells own) (omega arith) (legal 0 cells refl own)

    later : TeamsLegal f (team + 1) teams
    later k others is own = subst (λ (n : ℕ). IsLegalCell f n 0 others own) (omega arith) (legal (suc k) others is own)

pub teams_legal : (f : Frame) (teams : List (List Member)) → ((team : ℕ) (cells : List Member) → slice_get teams team ≡ Some cells → (own : ℕ) → IsLegalCell f team 0 cells own) →
    IsFullyLegal f (design_cells_from 0 teams)
teams_legal f teams legal = record {
  placed = teams_hold (λ c. IsSome c.place) 0 teams (λ k cells is own m there. placed_there (λ s. IsLegalAt (query_from f k 0 cells own m.mac) s) m.place (legal k cells is own m there));
  kept = teams_hold (λ c. ForSome c.place (λ p. KeepsRules f c p)) 0 teams
      (λ k cells is own m there p is_p. subst (λ (n : ℕ). KeepsRules f (design_cell n m) p) (omega arith) (keeps f k cells own m p (legal_at f k cells own m p (legal k cells is own) there is_p)));
  apart = teams_pairs f 0 teams (λ k cells is own. subst (λ (n : ℕ). IsLegalCell f n 0 cells own) (omega arith) (legal k cells is own));
}
