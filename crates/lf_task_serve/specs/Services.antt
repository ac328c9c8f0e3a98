-- Services that are offered.
use Rattle.std.specs.Prelude.{◌≡◌, ℕ, List, [], ◌∷◌, Option, Some, None}
use Rattle.std.specs.Net.Addr.{ipv4_octets}
use Rattle.lf_server.specs.declared.acceptor.ServiceConfig.{ServiceConfig}
use Rattle.lf_task_serve.specs.Lines.{default_most_lines, reads_for}

-- This service was offered and no other, if what is offered is known.
abbrev pub Offers : Option (List ServiceConfig) → Option (List ServiceConfig) → ServiceConfig → Type 0
Offers None new offer = Unit {0}
Offers (Some old) new offer = new ≡ Some (offer ∷ old)

-- The service is at this port of this machine, for `connections` connections, each of at most a
-- million lines.
pub record IsLocal (port connections : ℕ) (offer : ServiceConfig) : Type 0 where
  pub ip : ipv4_octets offer.ip ≡ 127 ∷ 0 ∷ 0 ∷ 1 ∷ []
  pub at : offer.port ≡ port
  pub count : offer.connections ≡ connections
  pub lines : offer.limits.lines ≡ default_most_lines
  pub reads : offer.limits.reads ≡ reads_for default_most_lines

-- A service at this port was offered, and no other.
abbrev pub OffersLocal : ℕ → ℕ → Option (List ServiceConfig) → Option (List ServiceConfig) → Type 0
OffersLocal port connections old new = (offer : ServiceConfig) × IsLocal port connections offer × Offers old new offer
