-- The fields of a hub after an event.
use Rattle.std.proofs.Common.{◌≡◌, ℕ, cond, List, [], ◌∷◌, ◌++◌, refl, ap, ◌∙◌}
use Rattle.std.specs.Prelude.{decimal}
use Rattle.lf_hub_clients.specs.Connections.{Connection, with_answer}
use Rattle.lf_hub_clients.specs.Turns.{Turn, is_change}
use Rattle.lf_hub.specs.declared.open_sessions.OpenSession.{OpenSession}
use Rattle.lf_hub.specs.Machine.{Hub, HubEvent, Answers, Closes, after, changed_at, without_session, sessions_after, record_of}

pub answered-hub : (h : Hub) (slot : ℕ) (t : Turn) (made : ℕ) (slots : List Connection) (sessions : List OpenSession) (answered records : List ℕ)
    → made ≡ h.made → slots ≡ changed_at slot (with_answer t) h.slots → sessions ≡ sessions_after slot t.team t.outcome h.sessions
    → answered ≡ h.answered ++ slot ∷ [] → records ≡ h.records ++ record_of t
    → (record { made = made; slots = slots; sessions = sessions; answered = answered; records = records }) ≡ after h (Answers slot t)
answered-hub h slot t made slots sessions answered records m p q r s = rw (m, p, q, r, s) refl

pub closed-hub : (h : Hub) (slot : ℕ) (own : OpenSession) (t : Turn) (sessions : List OpenSession) (records : List ℕ)
    → sessions ≡ without_session own.team own.session h.sessions → records ≡ h.records ++ record_of t
    → (record { made = h.made; slots = h.slots; sessions = sessions; answered = h.answered; records = records }) ≡ after h (Closes slot own t)
closed-hub h slot own t sessions records p q = rw (p, q) refl

-- the records with that of another line
pub recorded : (t : Turn) (number : ℕ) (line reply before records new : List ℕ)
    → new ≡ before ++ cond (is_change t.outcome) (decimal number ++ 10 ∷ [] ++ line ++ 10 ∷ [] ++ reply) []
    → number ≡ t.number → line ≡ t.line → reply ≡ t.reply → before ≡ records → new ≡ records ++ record_of t
recorded t number line reply before records new is p q r s =
    is ∙ ap (λ n. before ++ cond (is_change t.outcome) (decimal n ++ 10 ∷ [] ++ line ++ 10 ∷ [] ++ reply) []) p
    ∙ ap (λ l. before ++ cond (is_change t.outcome) (decimal t.number ++ 10 ∷ [] ++ l ++ 10 ∷ [] ++ reply) []) q
    ∙ ap (λ l. before ++ cond (is_change t.outcome) (decimal t.number ++ 10 ∷ [] ++ t.line ++ 10 ∷ [] ++ l) []) r
    ∙ ap (λ l. l ++ record_of t) s
