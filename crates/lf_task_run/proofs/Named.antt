-- The teams of a frame by their numbers.
use Rattle.std.proofs.Common.{◌≡◌, ◌≢◌, ⊎_elim, ℕ, ◌+◌, ◌<◌, List, [], ◌∷◌, length, map, get_or, take, Bool, true, false, Some, None, refl, ap, sym, ◌∙◌, subst, arith}
use Rattle.std.specs.Prelude.{◌≤◌, All, bytes_eq, position, slice_get}
use Rattle.std.specs.List.{position_or_len}
use Rattle.std.proofs.lemmas.Grind.{common_steps}
use Rattle.std.proofs.lemmas.Bool.{cases_lt}
use Rattle.std.proofs.lemmas.List.{get_or-map, get_or_append_left, get_or_push, length-map}
use Rattle.std.proofs.lemmas.List.Elements.{All-from_get_or}
use Rattle.std.proofs.lemmas.List.Sums.{position_or_len_is}
use Rattle.std.proofs.lemmas.Option.{get_or_from_slice_get, slice_get-get_or, slice_get_cases}
use Rattle.std.proofs.lemmas.Slice.Eq.{bytes_eq-Decides}
use Rattle.lf_floorplan.specs.declared.frame.Frame.{Frame}
use Rattle.lf_floorplan.specs.declared.parts.Team.{Team}
use Rattle.lf_floorplan.specs.Fences.{ground_name}
use Rattle.lf_floor_model.specs.Teams.{team_names, team_number}
use Rattle.lf_floor.proofs.Saving.{names_many}

no_team : Team
no_team = record { name = []; rects = [] }

at_fence : (f : Frame) (k : ℕ) → k < length f.teams → get_or (team_names f) k [] ≡ (get_or f.teams k no_team).name
at_fence f k less =
    get_or_append_left (map (λ (t : Team). t.name) f.teams) (ground_name ∷ []) [] k (subst (λ (n : ℕ). k < n) (sym (length-map f.teams (λ (t : Team). t.name))) less)
    ∙ get_or-map (λ (t : Team). t.name) f.teams k no_team [] less

at_ground : (f : Frame) → get_or (team_names f) (length f.teams) [] ≡ ground_name
at_ground f = get_or_push (map (λ (t : Team). t.name) f.teams) ground_name [] (length f.teams) (length-map f.teams (λ (t : Team). t.name))

names_differ : (f : Frame) (k n : ℕ) → k < n → n < length f.teams + 1 → get_or (team_names f) k [] ≢ get_or (team_names f) n []
names_differ f k n less within same =
    let fence : k < length f.teams = omega (arith, less, within) in
    ⊎_elim
    (λ (inside : n < length f.teams). f.fences_named k n no_team less inside (sym (at_fence f k fence) ∙ same ∙ at_fence f n inside))
    (λ (outside : length f.teams ≤ n).
    let last : n ≡ length f.teams = omega (arith, within, outside) in
    (f.fences_whole k no_team fence).named (sym (at_fence f k fence) ∙ same ∙ ap (λ (m : ℕ). get_or (team_names f) m []) last ∙ at_ground f))
    (cases_lt n (length f.teams))

unequal : (a b : List ℕ) → a ≢ b → bytes_eq a b ≡ false
unequal a b differ = go (bytes_eq a b) refl where
  go : (r : Bool) → bytes_eq a b ≡ r → r ≡ false
  go true e = absurd (differ ((bytes_eq-Decides a b).0 e))
  go false e = refl

-- the first element that satisfies the test has this position
first_at : {X : Type 0} (p : X → Bool) (xs : List X) (n : ℕ) → n < length xs → position_or_len p xs ≡ n → position p xs ≡ Some n
first_at p xs n within at = grind (arith, common_steps)

within_names : {X : Type 0} (xs : List X) (n : ℕ) (x : X) → slice_get xs n ≡ Some x → n < length xs
within_names xs n x there = ⊎_elim (λ p. p.1) (λ p. absurd (none x (sym there ∙ p.1))) (slice_get_cases xs n).1 where
  none : {X : Type 0} (x : X) → Some x ≡ None → ⊥
  none x e = cc

-- a team's name has the team's number
pub numbered : (f : Frame) (n : ℕ) (name : List ℕ) → slice_get (team_names f) n ≡ Some name → team_number f name ≡ Some n
numbered f n name there =
    let names = team_names f in
    let within : n < length names = within_names names n name there in
    let is : get_or names n [] ≡ name = get_or_from_slice_get names n name [] there in
    let few : n < length f.teams + 1 = subst (λ (m : ℕ). n < m) (names_many f) within in
    first_at (λ m. bytes_eq m name) names n within
    (position_or_len_is (λ m. bytes_eq m name) names n [] (omega (arith, within))
    (λ k less. unequal (get_or names k []) name (λ same. names_differ f k n less few (same ∙ sym is))) (λ _. (bytes_eq-Decides (get_or names n []) name).1 is))

-- the names in front of a team's are those of other teams
pub others_before : (f : Frame) (n : ℕ) → n ≤ length (team_names f) → All (λ name. team_number f name ≢ Some n) (take n (team_names f))
others_before f n le = All-from_get_or (λ name. team_number f name ≢ Some n) (take n (team_names f)) [] (λ i less.
    let names = team_names f in
    let long : length (take n names) ≡ n = grind (arith, common_steps) in
    let before : i < n = omega (arith, less, long) in
    let is : get_or (take n names) i [] ≡ get_or names i [] = grind (arith, common_steps) in
    let there : slice_get names i ≡ Some (get_or (take n names) i []) =
    slice_get-get_or names i [] (omega (arith, before, le)) ∙ ap (λ (name : List ℕ). Some name) (sym is) in
    λ named. absurd (apart i n before (sym (numbered f i (get_or (take n names) i []) there) ∙ named))) where
      apart : (i n : ℕ) → i < n → Some i ≡ Some n → ⊥
      apart i n less e = let same : i ≡ n = cc in omega (arith, less, same)
