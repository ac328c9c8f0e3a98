-- Lists of labelled names, and the matches of two lists: the names that are in both, with their
-- labels.
use Rattle.std.specs.Prelude.{◌≢◌, ◌↔◌, ℕ, List, map, filter_map, Option, slice_get, AllPairs, Contains}
use Rattle.std.specs.Option.{option_and_then, option_map}
use Rattle.lf_names.specs.Names.{position_of}
use Rattle.lf_names.specs.declared.partitioned.Match.{Match}

-- A name with its label.
pub record Labelled : Type 0 where
  pub label : ℕ
  pub name : List ℕ

-- Holds if no name is in the list twice, whatever its labels.
abbrev pub Differ : List Labelled → Type 0
Differ names = AllPairs (λ n later. n.name ≢ later.name) names

-- Holds if one name is in both lists, with these labels.
pub record IsMatch (names requested : List Labelled) (m : Match) : Type 0 where
  pub name : List ℕ
  pub is_own : Contains names (record { label = m.own; name = name })
  pub is_requested : Contains requested (record { label = m.requested; name = name })

-- Holds if these are the matches of two lists, in any order.
abbrev pub AreMatches : List Labelled → List Labelled → List Match → Type 0
AreMatches names requested matches = (m : Match) → Contains matches m ↔ IsMatch names requested m

-- The label that a name has in this list, if it is in the list. The first label if the name is in
-- the list twice.
abbrev pub label_in : List Labelled → List ℕ → Option ℕ
label_in names name =
    option_and_then (λ at. option_map (λ n. n.label) (slice_get names at)) (position_of (map (λ n. n.name) names) name)

-- The label of a name in the list, with its label among the requested names.
abbrev pub labels_of : ℕ → ℕ → Match
labels_of requested own = record { own = own; requested = requested }

-- The match of a requested name, if the list has it.
abbrev pub match_of : List Labelled → Labelled → Option Match
match_of names q = option_map (labels_of q.label) (label_in names q.name)

-- The matches of the requested names that the list has, in the order of the requested names.
abbrev pub matches_of : List Labelled → List Labelled → List Match
matches_of names requested = filter_map (match_of names) requested
