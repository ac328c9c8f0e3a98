-- Connections, one after the other.
use Rattle.std.proofs.Common.{◌≡◌, ◌⊎◌, ◌∙◌, ℕ, ◌+◌, List, ◌++◌, ◌∷◌, [], Option, Some, None, ap, inl, inr, is_some, refl, arith, length}
use Rattle.std.proofs.lemmas.Bool.{false≢true}
use Rattle.std.specs.Prelude.{unwrap_or}
use Rattle.lf_rules.specs.Legalizer.{Legalizer}
use Rattle.lf_floor_model.specs.States.{FloorState}
use Rattle.lf_server.specs.Connections.{Accepted, Accepts, AreServed, ClientBytes, Closes, ServesConnections, AcceptsAndCloses, ServesNext, ConnectionState}

-- No connection was accepted.
pub passes_none : (now : Option Accepted) → AcceptsAndCloses now now [] []
passes_none None = tt
passes_none (Some before) = refl

-- What is accepted, or nothing.
abbrev known : Option Accepted → Accepted
known now = unwrap_or now (record { clients = []; closed = [] })

-- A connection was accepted and then closed.
pub passes_one : (before mid after : Option Accepted) (from : ClientBytes) (end : ConnectionState)
    → Accepts before mid from → Closes mid after end → AcceptsAndCloses before after (from ∷ []) (end ∷ [])
passes_one None mid after from end accepts closes = tt
passes_one (Some before) None after from end accepts closes = absurd (false≢true (ap is_some accepts))
passes_one (Some before) (Some mid) after from end accepts closes =
    closes ∙ ap (λ (o : Option Accepted). Some (record { clients = (known o).clients; closed = end ∷ (known o).closed })) accepts

-- One more connection was accepted and closed.
pub passes_more : (before mid after : Option Accepted) (clients : List ClientBytes) (closed : List ConnectionState) (from : ClientBytes) (end : ConnectionState)
    → AcceptsAndCloses before mid clients closed → AcceptsAndCloses mid after (from ∷ []) (end ∷ []) → AcceptsAndCloses before after (from ∷ clients) (end ∷ closed)
passes_more None mid after clients closed from end earlier last = tt
passes_more (Some before) None after clients closed from end earlier last = absurd (false≢true (ap is_some earlier))
passes_more (Some before) (Some mid) after clients closed from end earlier last =
    last ∙ ap (λ (o : Option Accepted). Some (record { clients = from ∷ (known o).clients; closed = end ∷ (known o).closed })) earlier

-- The limit on reads is reached if no read was made before and `most` reads follow.
pub all_reads : {Failed : Type 0} (old new most : ℕ) → old ≡ 0 → Failed ⊎ (new ≡ old + most) → Failed ⊎ (new ≡ most)
all_reads old new most none (inl failed) = inl failed
all_reads old new most none (inr made) = inr (omega (arith, none, made))

-- One more connection is served.
pub serves_more : (lines reads count : ℕ) (before mid after : Option Accepted) (old half new : FloorState)
    → AreServed lines reads count before mid old half → ServesNext lines reads mid after half new → AreServed lines reads (count + 1) before after old new
serves_more lines reads count before mid after old half new earlier last = record {
  clients = last.from ∷ earlier.clients;
  closed = last.end ∷ earlier.closed;
  counted = omega (arith, earlier.counted);
  passes = passes_more before mid after earlier.clients earlier.closed last.from last.end earlier.passes last.passes;
  connects = λ l. (half, earlier.connects l, last.serves l);
}

-- No connection is served yet.
pub serves_none : (lines reads : ℕ) (now : Option Accepted) (floor : FloorState) → AreServed lines reads 0 now now floor floor
serves_none lines reads now floor = record {
  clients = [];
  closed = [];
  counted = refl;
  passes = passes_none now;
  connects = λ l. refl;
}
