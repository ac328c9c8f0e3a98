-- How the values of stacks are in one slab, by their keys. No public clause cites this module.
use Rattle.std.specs.Prelude.{◌≡◌, ℕ, ◌<◌, ◌≤◌, List, [], length, Some, All, filter_map, slice_get, slice_index_or}
use Rattle.slab.specs.Slab.{Slab, get, ContainsKey}

-- The key at this position of the team's keys.
abbrev pub HasKeyAt : List (List ℕ) → ℕ → ℕ → ℕ → Type 0
HasKeyAt keys team position key = slice_get (slice_index_or keys team []) position ≡ Some key

module _ {T : Type 0} where
  -- The values at these keys, in the keys' order.
  abbrev pub values_at : Slab T → List ℕ → List T
  values_at s keys = filter_map (get s) keys

  -- Each key of a team has a value, no key is of two teams or twice of one, and no team has more keys
  -- than the limit.
  pub record AreStored (s : Slab T) (keys : List (List ℕ)) (limit : ℕ) : Type 0 where
    pub stored : (team position key : ℕ) → HasKeyAt keys team position key → ContainsKey s key
    pub once : (team other position below key : ℕ) → HasKeyAt keys team position key → HasKeyAt keys other below key
        → (team ≡ other) × (position ≡ below)
    pub within : All (λ own. length own ≤ limit) keys
    pub some : 0 < limit
