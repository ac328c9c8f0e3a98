-- Sessions that are closed one after the other.
use Rattle.std.proofs.Common.{◌≡◌, ◌∙◌, List, [], ◌∷◌, ◌++◌, ℕ, true, ap, append-nil, append_assoc, refl, subst, sym}
use Rattle.std.specs.Prelude.{cond}
use Rattle.std.proofs.lemmas.Grind.{flat_map-append}
use Rattle.lf_hub_clients.specs.Turns.{Turn}
use Rattle.lf_hub.specs.Laws.{Follow}
use Rattle.lf_hub.specs.Machine.{is_accepted}
use Rattle.lf_hub_serve.specs.Leftovers.{Closes, start_record, start_record_of, start_records}

module _ {S : Type 0} (takes : S → Turn → S → Type 0) where
  turns_then : (first more : List Turn) (a b c : S) → Follow takes a first b → Follow takes b more c → Follow takes a (first ++ more) c
  turns_then [] more a b c f g = subst (λ (s : S). Follow takes s more c) f g
  turns_then (t ∷ first) more a b c f g = (f.0, f.1, turns_then first more f.0 b c f.2 g)

  -- nothing was closed
  pub closes_none : (a b : S) (clean : Type 0) (records : List ℕ) → b ≡ a → Closes takes a b clean records records
  closes_none a b clean records same = record { turns = []; follow = same; saved = λ _. sym (append-nil records) }

  -- one session was closed
  pub closes_one : (a b : S) (t : Turn) (clean : Type 0) (before after : List ℕ) → takes a t b → is_accepted t ≡ true
      → (clean → after ≡ before ++ start_record t.line t.reply) → Closes takes a b clean before after
  closes_one a b t clean before after is accepted saved = record {
    turns = t ∷ [];
    follow = (b, is, refl);
    saved = λ c. saved c ∙ ap (λ (l : List ℕ). before ++ l)
        (ap (λ flag. cond flag (start_record t.line t.reply) []) (sym accepted) ∙ sym (append-nil (start_record_of t)));
  }

  -- more sessions were closed
  pub closes_then : (a b c : S) (clean now : Type 0) (before middle after : List ℕ) → Closes takes a b clean before middle
      → Closes takes b c now middle after → (now → clean) → Closes takes a c now before after
  closes_then a b c clean now before middle after x y back = record {
    turns = x.turns ++ y.turns;
    follow = turns_then x.turns y.turns a b c x.follow y.follow;
    saved = λ n. y.saved n ∙ ap (λ (l : List ℕ). l ++ start_records y.turns) (x.saved (back n))
        ∙ append_assoc before (start_records x.turns) (start_records y.turns)
        ∙ ap (λ (l : List ℕ). before ++ l) (sym (flat_map-append start_record_of x.turns y.turns));
  }
