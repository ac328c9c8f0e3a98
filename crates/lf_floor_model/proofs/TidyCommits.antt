-- A commit of a team whose cells are all team-legal finds no fault, and so a commit after a tidy.
use Rattle.std.proofs.Common.{◌≡◌, ℕ, zero, suc, ◌+◌, ◌<◌, List, [], ◌∷◌, Bool, true, false, cond, eqb, ltb, length, map, Option, Some, None, refl, ap, sym, ◌∙◌, subst, arith}
use Rattle.std.specs.Prelude.{slice_get, is_none, filter_map, option_map, option_and_then, MatchOption}
use Rattle.std.specs.List.{position_from, range_with_len, cons_option}
use Rattle.std.proofs.lemmas.Iterator.Adapters.{position_from-zero}
use Rattle.lf_floorplan.specs.declared.frame.Frame.{Frame}
use Rattle.lf_floorplan.specs.declared.place.Place.{Place}
use Rattle.lf_rules.specs.declared.rule.Broken.{Broken}
use Rattle.lf_rules.specs.Choice.{spot_of, IsLegalAt, LegalInRange}
use Rattle.lf_rules.specs.Legality.{Candidate, IsTeamLegal}
use Rattle.lf_rules.specs.Legalizer.{Legalizer, IsVerdict}
use Rattle.lf_rules.specs.Team.{IsLegalCell}
use Rattle.lf_proto.specs.declared.request.Command.{Command}
use Rattle.lf_proto.specs.declared.request.TeamCommand.{TeamCommand}
use Rattle.lf_proto.specs.declared.request.TeamCommand.TheVariants.{Within}
use Rattle.lf_proto.specs.declared.verb.Action.TheVariants.{Change as Changing}
use Rattle.lf_proto.specs.declared.verb.Change.TheVariants.{Tidy, Commit}
use Rattle.lf_proto.specs.declared.reply.Reply.{Reply}
use Rattle.lf_proto.specs.declared.reply.Refusal.TheVariants.{Stale, RevisionsSpent}
use Rattle.lf_cells.specs.declared.cell.Cell.{Cell}
use Rattle.lf_cells.specs.Cells.{working_at}
use Rattle.lf_legalize.specs.Members.{member_of}
use Rattle.lf_floor_model.specs.States.{TeamState, FloorState}
use Rattle.lf_floor_model.specs.Teams.{TeamRules, team_rules, IsTeamOf, broken_at, state_of, team_number, query_of_cell}
use Rattle.lf_floor_model.specs.Outcomes.{refused}
use Rattle.lf_floor_model.specs.Sessions.{seen_at}
use Rattle.lf_reports.specs.declared.broken_cell.BrokenCell.{BrokenCell}
use Rattle.lf_floor_model.specs.Changes.{broken_where, first_unplaced, broken_cells, committed_unless, committed}
use Rattle.lf_floor_model.specs.Verbs.{outcome_of, outcome_by_slot}
use Rattle.lf_floor_model.specs.VerbLaws.{AreLegal, is_change, is_ok}
use Rattle.lf_floor_model.specs.Steps.{outcome_by_rules}
use Rattle.lf_floor_model.specs.Runs.{Run, own_replies, own_commands}
use Rattle.lf_floor_model.specs.CommittedRuns.{HasFrameTeams, finds_no_fault, TidyThenCommit, TidiedCommits, EachTidiedCommits}
use Rattle.lf_floor_model.proofs.Forms.{candidate_of_cell, broken_by, state_at, unless_spent}
use Rattle.lf_floor_model.proofs.Isolation.{isolated_from_run, has_number}
use Rattle.lf_floor_model.proofs.Kept.{look_kept, padding_stays, refusal_leaves, verb_keeps}
use Rattle.lf_floor_model.proofs.Parts.{each}
use Rattle.lf_floor_model.proofs.Promises.{denied_is}
use Rattle.lf_floor_model.proofs.LegalPlaces.{some_one, sized_at, there_within, member_is}
use Rattle.lf_floor_model.proofs.VerbLegal.{verb_legal}

-- ---- a team whose cells are all team-legal

none_first : (i : ℕ) (cells : List Cell) → ((k : ℕ) (c : Cell) → slice_get cells k ≡ Some c → is_none c.working ≡ false)
    → position_from (λ (c : Cell). is_none c.working) i cells ≡ None
none_first i [] placed = refl
none_first i (c ∷ cs) placed =
    ap (λ (b : Bool). cond b (Some i) (position_from (λ (d : Cell). is_none d.working) (i + 1) cs)) (placed 0 c refl)
    ∙ none_first (i + 1) cs (λ k d there. placed (suc k) d there)

none_filtered : {Y : Type 0} (h : ℕ → Option Y) (a n : ℕ) → ((k : ℕ) → k < n → h (a + k) ≡ None) → filter_map h (range_with_len a n) ≡ []
none_filtered h a zero none = refl
none_filtered {Y} h a (suc n) none =
    let at : a + 0 ≡ a = omega arith in
    let first : h a ≡ None = subst (λ (k : ℕ). h k ≡ None) at (none 0 (omega arith)) in
    ap (λ (o : Option Y). cons_option o (filter_map h (range_with_len (a + 1) n))) first
    ∙ none_filtered h (a + 1) n (λ k less.
    let next : a + suc k ≡ a + 1 + k = omega arith in
    subst (λ (j : ℕ). h j ≡ None) next (none (suc k) (omega (arith, less))))

-- a legal place breaks no rule
unbroken_is : (t : Candidate) (found : Option Broken) → IsTeamLegal t → IsVerdict t found → found ≡ None
unbroken_is t None legal verdict = refl
unbroken_is t (Some b) legal verdict = absurd (verdict.broken (legal b.rule))

module _ (t : TeamRules) (s : TeamState) (known : IsTeamOf t.frame s) (legal : AreLegal t s) where
  -- the cell at a position is placed, and legal there
  is_placed_at : (own : ℕ) (c : Cell) → slice_get s.cells own ≡ Some c
      → (place : Place) × (c.working ≡ Some place) × IsLegalAt (query_of_cell t s.cells own c) (spot_of place)
  is_placed_at own c there = go c.working refl (legal own (member_of c) (member_is s.cells own c there)) where
    go : (o : Option Place) → c.working ≡ o → MatchOption (option_map spot_of o) ⊥ (λ p. IsLegalAt (query_of_cell t s.cells own c) p)
        → (place : Place) × (c.working ≡ Some place) × IsLegalAt (query_of_cell t s.cells own c) (spot_of place)
    go None is is_in_place = absurd is_in_place
    go (Some place) is is_in_place = (place, is, is_in_place)

  all_placed : first_unplaced s.cells ≡ None
  all_placed =
      position_from-zero (λ (c : Cell). is_none c.working) s.cells
      ∙ none_first 0 s.cells (λ k c there. ap is_none (is_placed_at k c there).1)

  breaks_none : (own : ℕ) → own < length s.cells → broken_where t s.cells own ≡ None
  breaks_none own within =
      let found = there_within s.cells own within in
      let at = is_placed_at own found.0 found.1 in
      let works : working_at s.cells own ≡ Some at.0 = ap (λ (o : Option Cell). option_and_then (λ (c : Cell). c.working) o) found.1 ∙ at.1 in
      let candidate_cell = candidate_of_cell t s.cells own found.0 at.0 in
      let none : t.legalizer.first_broken candidate_cell ≡ None =
      unbroken_is candidate_cell (t.legalizer.first_broken candidate_cell) at.2
      (t.legalizer.finds_first_broken candidate_cell (sized_at t.frame s.cells own found.0 known.sized found.1)) in
      ap (λ (o : Option Place). option_and_then (λ (p : Place). broken_at t s.cells own p) o) works
      ∙ ap (λ (o : Option Cell). broken_by o t s.cells own at.0) found.1
      ∙ none

  abbrev cell_at : ℕ → Broken → BrokenCell
  cell_at own broken = record { own = own; broken = broken }

  none_broken : broken_cells t s.cells ≡ []
  none_broken = none_filtered (λ own. option_map (cell_at own) (broken_where t s.cells own)) 0 (length s.cells) (λ k less.
      let at : k ≡ 0 + k = omega arith in
      subst (λ (j : ℕ). option_map (cell_at j) (broken_where t s.cells j) ≡ None) at
      (ap (λ (o : Option Broken). option_map (cell_at k) o) (breaks_none k less)))

  commits_plainly : (session : ℕ) → finds_no_fault (committed t session s).reply ≡ true
  unfolding committed
  commits_plainly session =
      ap (λ (o : Option ℕ). finds_no_fault (committed_unless o (broken_cells t s.cells) session s).reply) all_placed
      ∙ ap (λ (bs : List BrokenCell). finds_no_fault (committed_unless None bs session s).reply) none_broken

  -- a commit finds no fault
  pub legal_commits : (session : ℕ) → finds_no_fault (outcome_of t (Within session (Changing Commit)) s).reply ≡ true
  legal_commits session = slot (seen_at s.slots session) where
    spent : (b : Bool) → finds_no_fault (cond b (committed t session s) (refused RevisionsSpent s)).reply ≡ true
    spent true = commits_plainly session
    spent false = refl

    stale : (b : Bool) → finds_no_fault (cond b (unless_spent t session Commit s) (refused (Stale s.revision) s)).reply ≡ true
    stale true = spent (ltb s.revision t.frame.limits.revisions)
    stale false = refl

    slot : (o : Option ℕ) → finds_no_fault (outcome_by_slot o t session (Changing Commit) s).reply ≡ true
    slot None = refl
    slot (Some seen) = stale (eqb seen s.revision)

-- ---- commands between a tidy and a commit

-- a command that is not a change, and a refused change, leave legal cells legal
still_legal : (t : TeamRules) (s : TeamState) (order : TeamCommand (List ℕ) Place) → AreLegal t s
    → (is_change order ≡ true → is_ok (outcome_of t order s).reply ≡ false) → AreLegal t (outcome_of t order s).team
still_legal t s order legal quiet = by (is_change order) refl where
  by : (b : Bool) → is_change order ≡ b → AreLegal t (outcome_of t order s).team
  by false look = λ own.
      subst (λ (cells : List Cell). IsLegalCell t.frame t.number t.padding (map member_of cells) own) (sym (look_kept t order s look).cells) (legal own)
  by true change =
      let refusal = denied_is (outcome_of t order s).reply (quiet change) in
      subst (λ (after : TeamState). AreLegal t after) (sym (refusal_leaves t order s refusal.0 refusal.1)) legal

-- cells that are legal with the old padding are legal with the new one, if it is the same
at_padding : (l : Legalizer) (f : Frame) (number : ℕ) (s after : TeamState) → after.padding ≡ s.padding → AreLegal (team_rules l f number s.padding) after
    → AreLegal (team_rules l f number after.padding) after
at_padding l f number s after same legal = subst (λ (n : ℕ). AreLegal (team_rules l f number n) after) (sym same) legal

-- the padding is unchanged too
still_padded : (t : TeamRules) (s : TeamState) (order : TeamCommand (List ℕ) Place) → (is_change order ≡ true → is_ok (outcome_of t order s).reply ≡ false)
    → (outcome_of t order s).team.padding ≡ s.padding
still_padded t s order quiet = by (is_change order) refl where
  by : (b : Bool) → is_change order ≡ b → (outcome_of t order s).team.padding ≡ s.padding
  by false look = (look_kept t order s look).padding
  by true change =
      let refusal = denied_is (outcome_of t order s).reply (quiet change) in
      ap (λ (after : TeamState). after.padding) (refusal_leaves t order s refusal.0 refusal.1)

still_there : (l : Legalizer) (f : Frame) (number : ℕ) (s : TeamState) (order : TeamCommand (List ℕ) Place) → AreLegal (team_rules l f number s.padding) s
    → (is_change order ≡ true → is_ok (outcome_by_rules l f number order s).reply ≡ false)
    → AreLegal (team_rules l f number (outcome_by_rules l f number order s).team.padding) (outcome_by_rules l f number order s).team
still_there l f number s order legal quiet =
    at_padding l f number s (outcome_by_rules l f number order s).team (still_padded (team_rules l f number s.padding) s order quiet)
    (still_legal (team_rules l f number s.padding) s order legal quiet)

module _ (l : Legalizer) (f : Frame) (number : ℕ) where
  -- a run that starts with a team whose cells are all legal
  after_legal : (orders : List (TeamCommand (List ℕ) Place)) (s : TeamState) → IsTeamOf f s → AreLegal (team_rules l f number s.padding) s → (j second : ℕ) (reply : Reply)
      → slice_get orders j ≡ Some (Within second (Changing Commit)) → slice_get (own_replies l f number orders s) j ≡ Some reply
      → ((k : ℕ) (order : TeamCommand (List ℕ) Place) (reported : Reply) → k < j → slice_get orders k ≡ Some order
      → slice_get (own_replies l f number orders s) k ≡ Some reported
      → is_change order ≡ true → is_ok reported ≡ false) → finds_no_fault reply ≡ true
  after_legal [] s known legal j second reply commit answer quiet = absurd cc
  after_legal (o ∷ os) s known legal zero second reply commit answer quiet =
      ap finds_no_fault (sym (some_one answer))
      ∙ ap (λ (x : TeamCommand (List ℕ) Place). finds_no_fault (outcome_by_rules l f number x s).reply) (some_one commit)
      ∙ legal_commits (team_rules l f number s.padding) s known legal second
  after_legal (o ∷ os) s known legal (suc j) second reply commit answer quiet =
      after_legal os (outcome_by_rules l f number o s).team (verb_keeps (team_rules l f number s.padding) o s known)
      (still_there l f number s o legal (λ change. quiet 0 o (outcome_by_rules l f number o s).reply (omega arith) refl refl change))
      j second reply commit answer (λ k order reported less here there change. quiet (suc k) order reported (omega (arith, less)) here there change)

  tidy_first : LegalInRange → (s : TeamState) → IsTeamOf f s → (o : TeamCommand (List ℕ) Place) (first : ℕ) (reply : Reply) → o ≡ Within first (Changing Tidy)
      → (outcome_by_rules l f number o s).reply ≡ reply → is_ok reply ≡ true → AreLegal (team_rules l f number (outcome_by_rules l f number o s).team.padding) (outcome_by_rules l f number o s).team
  tidy_first in_range s known o first reply is answer accepted =
      let granted : is_ok (outcome_by_rules l f number (Within first (Changing Tidy)) s).reply ≡ true =
      ap (λ (x : TeamCommand (List ℕ) Place). is_ok (outcome_by_rules l f number x s).reply) (sym is) ∙ ap is_ok answer ∙ accepted in
      subst (λ (x : TeamCommand (List ℕ) Place). AreLegal (team_rules l f number (outcome_by_rules l f number x s).team.padding) (outcome_by_rules l f number x s).team) (sym is)
      (at_padding l f number s (outcome_by_rules l f number (Within first (Changing Tidy)) s).team
      (padding_stays (team_rules l f number s.padding) (Within first (Changing Tidy)) s refl)
      (verb_legal (team_rules l f number s.padding) s known in_range first Tidy granted))

  -- a team's own commands
  own_tidied : LegalInRange → (orders : List (TeamCommand (List ℕ) Place)) (s : TeamState) → IsTeamOf f s → (i j : ℕ) (reply : Reply)
      → TidyThenCommit orders (own_replies l f number orders s) i j → slice_get (own_replies l f number orders s) j ≡ Some reply → finds_no_fault reply ≡ true
  own_tidied in_range [] s known i j reply h answer = absurd cc
  own_tidied in_range (o ∷ os) s known zero zero reply h answer = absurd (omega (arith, h.later))
  own_tidied in_range (o ∷ os) s known zero (suc j) reply h answer =
      after_legal os (outcome_by_rules l f number o s).team (verb_keeps (team_rules l f number s.padding) o s known)
      (tidy_first in_range s known o h.first h.reply (some_one h.tidy) (some_one h.answer) h.accepted)
      j h.second reply h.commit answer
      (λ k order reported less here there change. h.between (suc k) order reported (omega arith) (omega (arith, less)) here there change)
  own_tidied in_range (o ∷ os) s known (suc i) zero reply h answer = absurd (omega (arith, h.later))
  own_tidied in_range (o ∷ os) s known (suc i) (suc j) reply h answer =
      own_tidied in_range os (outcome_by_rules l f number o s).team (verb_keeps (team_rules l f number s.padding) o s known) i j reply (record {
        first = h.first;
        second = h.second;
        reply = h.reply;
        later = omega (arith, h.later);
        tidy = h.tidy;
        answer = h.answer;
        accepted = h.accepted;
        commit = h.commit;
        between = λ k order reported more less here there change. h.between (suc k) order reported (omega (arith, more)) (omega (arith, less)) here there change;
      }) answer

-- ---- runs

state_there : (floor : FloorState) (team : List ℕ) (number : ℕ) (s : TeamState) → team_number floor.frame team ≡ Some number
    → state_of floor team ≡ Some s → slice_get floor.teams number ≡ Some s
state_there floor team number s named there = ap (λ (o : Option ℕ). state_at floor.teams o) (sym named) ∙ there

-- a commit after a tidy finds no fault
pub tidied_commits : LegalInRange → (l : Legalizer) (commands : List (Command (List ℕ) Place)) (replies : List Reply) (old new : FloorState) → HasFrameTeams old
    → Run l old commands replies new → EachTidiedCommits old commands replies
tidied_commits in_range l commands replies old new known run team s there =
    let has = has_number old team s there in
    let own = isolated_from_run l commands replies old new run team has.0 s has.1 there in
    let one_of : IsTeamOf old.frame s = each (λ (t : TeamState). IsTeamOf old.frame t) old.teams has.0 s known (state_there old team has.0 s has.1 there) in
    subst (λ (rs : List Reply). TidiedCommits (own_commands team commands replies) rs) (sym own.replies_are)
    (λ i j reply h answer. own_tidied l old.frame has.0 in_range (own_commands team commands replies) s one_of i j reply h answer)
