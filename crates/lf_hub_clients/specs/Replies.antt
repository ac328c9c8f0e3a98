-- The replies that a client has not been sent yet.
use Rattle.std.specs.Prelude.{ℕ, List}

-- The bytes that may be sent, those that are held until the next sync, and how many more bytes have
-- room.
pub record Unsent : Type 0 where
  pub ready : List ℕ
  pub held : List ℕ
  pub room : ℕ
