-- The committed places of a team: which commands change them, and why they stay legal.
use Rattle.std.proofs.Common.{◌≡◌, inl, inr, ℕ, List, [], ◌∷◌, true, map, Option, refl, ap, sym, subst, arith}
use Rattle.lf_floorplan.specs.declared.place.Place.{Place}
use Rattle.lf_rules.specs.Team.{Member, IsLegalCell}
use Rattle.lf_proto.specs.declared.request.TeamCommand.{TeamCommand}
use Rattle.lf_proto.specs.declared.request.TeamCommand.TheVariants.{Within}
use Rattle.lf_proto.specs.declared.verb.Action.TheVariants.{Change as Changing}
use Rattle.lf_proto.specs.declared.verb.Change.TheVariants.{Commit}
use Rattle.lf_cells.specs.declared.cell.Cell.{Cell}
use Rattle.lf_cells.specs.Cells.{as_committed}
use Rattle.lf_legalize.specs.Members.{member_of}
use Rattle.lf_floor_model.specs.States.{TeamState}
use Rattle.lf_floor_model.specs.Teams.{TeamRules, IsTeamOf}
use Rattle.lf_floor_model.specs.Outcomes.{Outcome, places_of}
use Rattle.lf_floor_model.specs.Verbs.{outcome_of}
use Rattle.lf_floor_model.specs.VerbLaws.{AreLegal, is_accepted, committed_places}
use Rattle.lf_floor_model.specs.Committed.{committed_member, AreCommittedLegal}
use Rattle.lf_floor_model.proofs.Cases.{AreCommitted, Facts, accepted_is, order_facts, part_stays}
use Rattle.lf_rules.proofs.TidyLemmas.{less_is_placed}
use Rattle.lf_floor_model.proofs.Tidying.{committed_are_placed}

-- after a commit the committed places are the working places
committed_as : (cells : List Cell) → map committed_member (map as_committed cells) ≡ map member_of (map as_committed cells)
committed_as [] = refl
committed_as (c ∷ cs) = ap (λ (ms : List Member). committed_member (as_committed c) ∷ ms) (committed_as cs)

places_as : (cells : List Cell) → map (λ (c : Cell). c.committed) (map as_committed cells) ≡ map (λ (c : Cell). c.working) (map as_committed cells)
places_as [] = refl
places_as (c ∷ cs) = ap (λ (ps : List (Option Place)). c.working ∷ ps) (places_as cs)

-- the working places are committed and team-legal
pub record Commits (t : TeamRules) (s : TeamState) : Type 0 where
  pub same : committed_places s ≡ places_of s.cells
  pub legal : AreLegal t s
  pub committed : AreCommittedLegal t.frame t.number s

-- legal committed places stay legal if the macros and the committed places are unchanged
alike : (t : TeamRules) (s : TeamState) (cells : List Cell) → map committed_member cells ≡ map committed_member s.cells → AreCommittedLegal t.frame t.number s
    → (own : ℕ) → IsLegalCell t.frame t.number 0 (map committed_member cells) own
alike t s cells same before own = subst (λ (ms : List Member). IsLegalCell t.frame t.number 0 ms own) (sym same) (before own)

module _ (t : TeamRules) (s : TeamState) (known : IsTeamOf t.frame s) where
  commit_ends : (team : TeamState) → AreCommitted t s team.cells → Commits t team
  commit_ends team after =
      let legal = committed_are_placed t s.cells known.sized after.placed after.unbroken in
      record {
        same = subst (λ (cs : List Cell). map (λ (c : Cell). c.committed) cs ≡ map (λ (c : Cell). c.working) cs) (sym after.are) (places_as s.cells);
        legal = λ own. subst (λ (cs : List Cell). IsLegalCell t.frame t.number t.padding (map member_of cs) own) (sym after.are) (legal own);
        committed = λ own. subst (λ (cs : List Cell). IsLegalCell t.frame t.number 0 (map committed_member cs) own) (sym after.are)
            (subst (λ (ms : List Member). IsLegalCell t.frame t.number 0 ms own) (sym (committed_as s.cells))
            (less_is_placed t.frame t.number 0 t.padding (map member_of (map as_committed s.cells)) own (omega arith) (legal own)));
      }

  -- legal committed places stay legal after any command
  pub order_keeps : (order : TeamCommand (List ℕ) Place) → AreCommittedLegal t.frame t.number s → AreCommittedLegal t.frame t.number (outcome_of t order s).team
  order_keeps order before = by (outcome_of t order s) (order_facts t order s) where
    kept : (new old : TeamState) → new ≡ old → AreCommittedLegal t.frame t.number old → AreCommittedLegal t.frame t.number new
    kept new old is legal = subst (λ (n : TeamState). AreCommittedLegal t.frame t.number n) (sym is) legal

    by : (o : Outcome) → Facts t s order o → AreCommittedLegal t.frame t.number o.team
    by o (inl r) = kept o.team s (ap (λ (o : Outcome). o.team) r.is) before
    by o (inr (inl look)) = elim look.team [ inl same ↦ kept o.team s same before | inr slot ↦ kept o.team _ slot.is before ]
    by o (inr (inr done)) = elim (part_stays committed_member (λ c p. refl) t s done.session done.change o.team.cells done.is.cells) [
      | inl same ↦ alike t s o.team.cells same before
      | inr commits ↦ (commit_ends o.team commits.1).committed
    ]

  -- after an accepted commit the working places are committed and legal
  pub commit_commits : (session : ℕ) → is_accepted (outcome_of t (Within session (Changing Commit)) s) ≡ true
      → Commits t (outcome_of t (Within session (Changing Commit)) s).team
  commit_commits session accepted = commit_ends (outcome_of t (Within session (Changing Commit)) s).team (accepted_is t session Commit s accepted).cells
