-- Entries by their names: an entry with a name, and the list of all names.
use Rattle.std.proofs.Common.{◌≡◌, ℕ, ◌+◌, ◌<◌, true, false, cond, List, [], ◌∷◌, ◌++◌, length, map, take, get_or, sym, ◌∙◌, ap, arith}
use Rattle.std.specs.Prelude.{Any, Contains, filter}
use Rattle.std.proofs.lemmas.List.{map-append, append-nil}
use Rattle.std.proofs.lemmas.List.Elements.{filter-append}
use Rattle.std.proofs.lemmas.Grind.{common_steps}
use Rattle.lf_def.specs.declared.regions.Region.{Region}
use Rattle.lf_def.specs.Kinds.{is_fence}
use Rattle.lf_frame.specs.Teams.{fence_names}
use Rattle.lf_units.proofs.Any.{name_of_any, any_of_name, any_kept, any_of_kept}

-- A fence with a name, and the name among the fences' names.
pub fence_known : (regions : List Region) (n : List ℕ) → Any (λ r. (is_fence r ≡ true) × (r.name ≡ n)) regions → Contains (fence_names regions) n
fence_known regions n h = name_of_any (λ r. r.name) (filter is_fence regions) n (any_kept is_fence (λ r. r.name ≡ n) regions h)

pub fence_borne : (regions : List Region) (n : List ℕ) → Contains (fence_names regions) n → Any (λ r. (is_fence r ≡ true) × (r.name ≡ n)) regions
fence_borne regions n h = any_of_kept is_fence (λ r. r.name ≡ n) regions (any_of_name (λ r. r.name) (filter is_fence regions) n h)

pub take_one_more : {A : Type 0} (xs : List A) (n : ℕ) (x : A) → n < length xs → x ≡ get_or xs n x → take (n + 1) xs ≡ take n xs ++ x ∷ []
take_one_more xs n x within is = grind (arith, common_steps)

pub fence_names_more : (regions : List Region) (n : ℕ) (r : Region) → n < length regions → r ≡ get_or regions n r →
    fence_names (take n regions) ++ fence_names (r ∷ []) ≡ fence_names (take (n + 1) regions)
fence_names_more regions n r within is =
    sym (
    ap fence_names (take_one_more regions n r within is) ∙ ap (map (λ q. q.name)) (filter-append is_fence (take n regions) (r ∷ []))
    ∙ map-append (λ q. q.name) (filter is_fence (take n regions)) (filter is_fence (r ∷ []))
    )

-- The names of the fences after one more region.
pub fence_next : (regions : List Region) (n : ℕ) (r : Region) → n < length regions → r ≡ get_or regions n r → is_fence r ≡ true →
    fence_names (take (n + 1) regions) ≡ fence_names (take n regions) ++ r.name ∷ []
fence_next regions n r within is fence =
    let one : fence_names (r ∷ []) ≡ r.name ∷ [] = ap (λ t. map (λ q. q.name) (cond t (r ∷ []) [])) fence in
    sym (fence_names_more regions n r within is) ∙ ap (λ l. fence_names (take n regions) ++ l) one

pub fence_same : (regions : List Region) (n : ℕ) (r : Region) → n < length regions → r ≡ get_or regions n r → is_fence r ≡ false →
    fence_names (take (n + 1) regions) ≡ fence_names (take n regions)
fence_same regions n r within is none =
    let nothing : fence_names (r ∷ []) ≡ [] = ap (λ t. map (λ q. q.name) (cond t (r ∷ []) [])) none in
    sym (fence_names_more regions n r within is) ∙ ap (λ l. fence_names (take n regions) ++ l) nothing ∙ append-nil (fence_names (take n regions))
