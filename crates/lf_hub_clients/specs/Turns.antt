-- A line that was answered.
use Rattle.std.specs.Prelude.{◌≡◌, ◌⊎◌, ℕ, Bool, true, false, List, codes, ◌++◌, ◌∷◌, []}
use Rattle.lf_hub_clients.specs.declared.floor.Outcome.{Outcome}
use Rattle.lf_hub_clients.specs.declared.floor.Outcome.TheVariants.{Unchanged, Changed, Opened, Closed, Named, Ended}
use Rattle.lf_hub_clients.specs.declared.client.Access.{Access}
use Rattle.lf_hub_clients.specs.declared.client.Access.TheVariants.{Changes, Queries}

-- The most bytes of the reply to an accepted change.
abbrev pub short_limit : ℕ
short_limit = 4096

-- The reply to a line that was not acted on for lack of memory.
abbrev pub refusal : List ℕ
refusal = codes "no 12 OutOfMemory" ++ 10 ∷ []

-- Whether a line with this outcome was an accepted change.
abbrev pub is_change : Outcome → Bool
is_change Unchanged = false
is_change Changed = true
is_change (Opened session) = true
is_change (Closed session) = true
is_change Named = false
is_change Ended = false

-- A line that was answered: the number, the team and the access of its connection, the line, the
-- reply and the outcome, and whether the client sent the line. The hub itself closes the sessions
-- of a client that is gone.
pub record Turn : Type 0 where
  pub number : ℕ
  pub team : ℕ
  pub access : Access
  pub line : List ℕ
  pub reply : List ℕ
  pub outcome : Outcome
  pub is_own : Bool

-- A line that a client sent, and one by which the hub closes a session of a client that is gone.
abbrev pub sent_turn : ℕ → ℕ → Access → List ℕ → List ℕ → Outcome → Turn
sent_turn number team access line reply outcome = record {
  number = number;
  team = team;
  access = access;
  line = line;
  reply = reply;
  outcome = outcome;
  is_own = true;
}

abbrev pub closing_turn : ℕ → ℕ → List ℕ → List ℕ → Outcome → Turn
closing_turn number team line reply outcome = record {
  number = number;
  team = team;
  access = Changes;
  line = line;
  reply = reply;
  outcome = outcome;
  is_own = false;
}

module _ {S : Type 0} (answers : ℕ → List ℕ → S → List ℕ → Outcome → S → Type 0) (shows : ℕ → List ℕ → S → List ℕ → Type 0) where
  -- The floor answers the line, and changes only if that is an accepted change. A line of a client
  -- that may only query changes nothing.
  abbrev pub FloorAnswers : Access → S → Turn → S → Type 0
  FloorAnswers Changes old turn new =
      answers turn.team turn.line old turn.reply turn.outcome new × (is_change turn.outcome ≡ false → new ≡ old)
  FloorAnswers Queries old turn new =
      shows turn.team turn.line old turn.reply × (turn.outcome ≡ Unchanged) × (new ≡ old)

  -- The line is refused for lack of memory, and changes nothing.
  abbrev pub IsRefused : S → Turn → S → Type 0
  IsRefused old turn new = (turn.reply ≡ refusal) × (turn.outcome ≡ Unchanged) × (new ≡ old)

  -- The line is answered by the floor, for the team of its connection, or refused.
  abbrev pub IsAnswered : S → Turn → S → Type 0
  IsAnswered old turn new = FloorAnswers turn.access old turn new ⊎ IsRefused old turn new
