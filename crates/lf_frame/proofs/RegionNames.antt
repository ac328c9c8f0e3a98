-- The names of regions: a table of all of them, and the groups whose region is not among them.
use Rattle.std.proofs.Common.{◌≡◌, ℕ, ◌+◌, ◌<◌, inl, inr, List, [], ◌∷◌, ◌++◌, length, take, get_or, sym, ◌∙◌, ap}
use Rattle.std.specs.Prelude.{All, Contains, IsSomeAnd, Option, Some, None}
use Rattle.std.proofs.lemmas.List.{map-append}
use Rattle.std.proofs.lemmas.List.Elements.{Contains-append_left, Contains-push, Contains-push_cases}
use Rattle.std.proofs.lemmas.Option.{slice_get_within, get_or_from_slice_get}
use Rattle.lf_names.specs.Adds.{AddsName}
use Rattle.lf_names.specs.declared.table.Added.{Added}
use Rattle.lf_names.specs.declared.table.Added.TheVariants.{New, Present}
use Rattle.lf_names.proofs.Positions.{is_found_there}
use Rattle.lf_def.specs.declared.regions.Region.{Region}
use Rattle.lf_def.specs.declared.groups.Group.{Group}
use Rattle.lf_frame.specs.Tables.{HoldSameNames, region_names, IsOutside}
use Rattle.lf_frame.specs.Refusals.{HasNoRegion}
use Rattle.lf_frame.proofs.Named.{take_one_more}
use Rattle.lf_units.proofs.Any.{name_of_any, any_of_name, any_here}

-- A table with one more name.
pub same_more : (names after others : List (List ℕ)) (name : List ℕ) (added : Added) → AddsName names name added after → HoldSameNames names others →
    HoldSameNames after (others ++ name ∷ [])
same_more names after others name (New at) (absent, last, is) same = record {
  forth = λ n h. elim (Contains-push_cases names name n (rw is at h)) [
    | inl old ↦ Contains-append_left others (name ∷ []) n (same.forth n old)
    | inr new ↦ rw (← new) (Contains-push others name)
  ];
  back = λ n h. elim (Contains-push_cases others name n h) [
    | inl old ↦ rw is (Contains-append_left names (name ∷ []) n (same.back n old))
    | inr new ↦ rw (is, ← new) (Contains-push names name)
  ];
}
same_more names after others name (Present at) (there, is) same =
    let is_in_place = is_found_there names name at there in
    let known : Contains names name = (at, slice_get_within names at name is_in_place, get_or_from_slice_get names at name name is_in_place) in
    record {
      forth = λ n h. Contains-append_left others (name ∷ []) n (same.forth n (rw is at h));
      back = λ n h. elim (Contains-push_cases others name n h) [
        | inl old ↦ rw is (same.back n old)
        | inr new ↦ rw (is, ← new) known
      ];
    }

pub region_names_more : (regions : List Region) (n : ℕ) (r : Region) → n < length regions → r ≡ get_or regions n r →
    region_names (take n regions) ++ r.name ∷ [] ≡ region_names (take (n + 1) regions)
region_names_more regions n r within is = sym (ap region_names (take_one_more regions n r within is) ∙ map-append (λ q. q.name) (take n regions) (r ∷ []))

-- A group's region is outside the names of the regions if and only if no region has its name.
pub outside_of : (regions : List Region) (names : List (List ℕ)) (g : Group) → HoldSameNames names (region_names regions) → HasNoRegion regions [] g →
    IsOutside names g
outside_of regions names g same h = by g.region h
  where
    by : (region : Option (List ℕ)) → IsSomeAnd region (λ name. All (λ r. r.name ≡ name → ⊥) regions) → IsSomeAnd region (λ name. Contains names name → ⊥)
    by None never = never
    by (Some name) all = λ there. let one = any_of_name (λ r. r.name) regions name (same.forth name there) in all one.0 one.1 one.2 (ap (λ r. r.name) one.3 ∙ one.4)

pub no_region_of : (regions : List Region) (names : List (List ℕ)) (g : Group) → HoldSameNames names (region_names regions) → IsOutside names g →
    HasNoRegion regions [] g
no_region_of regions names g same h = by g.region h
  where
    by : (region : Option (List ℕ)) → IsSomeAnd region (λ name. Contains names name → ⊥) → IsSomeAnd region (λ name. All (λ r. r.name ≡ name → ⊥) regions)
    by None never = never
    by (Some name) never = λ k d within is. never (same.back name (name_of_any (λ r. r.name) regions name (any_here (λ r. r.name ≡ name) regions k d within is)))
