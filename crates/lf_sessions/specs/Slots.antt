-- The session slots of teams: for each slot the revision that its session has seen, `None` if the
-- slot is free.
use Rattle.std.specs.Prelude.{ℕ, List, [], Option, None, slice_set, slice_index_or}

-- The slots of the team with this number; empty if there is no such team.
abbrev pub slots_of : List (List (Option ℕ)) → ℕ → List (Option ℕ)
slots_of table team = slice_index_or table team []

-- The revision that a session has seen; `None` if its slot is free or does not exist.
abbrev pub seen_at : List (Option ℕ) → ℕ → Option ℕ
seen_at slots session = slice_index_or slots session None

-- The table with the slot of one session of one team changed; all other slots are unchanged.
abbrev pub with_slot : List (List (Option ℕ)) → ℕ → ℕ → Option ℕ → List (List (Option ℕ))
with_slot table team session seen = slice_set table team (slice_set (slots_of table team) session seen)
