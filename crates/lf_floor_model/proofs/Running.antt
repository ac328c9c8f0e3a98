-- A run keeps a fully legal committed design, and accepted commits of all teams make one.
use Rattle.std.proofs.Common.{◌≡◌, ℕ, zero, suc, List, [], ◌∷◌, map, Bool, true, false, Option, Some, None, ◌⊎◌, inl, inr, refl, ap, sym, ◌∙◌, subst, arith}
use Rattle.std.specs.Prelude.{slice_get, MatchBool}
use Rattle.lf_floorplan.specs.declared.frame.Frame.{Frame}
use Rattle.lf_floorplan.specs.declared.place.Place.{Place}
use Rattle.lf_rules.specs.Legalizer.{Legalizer}
use Rattle.lf_proto.specs.declared.request.Command.{Command}
use Rattle.lf_proto.specs.declared.request.Command.TheVariants.{To}
use Rattle.lf_proto.specs.declared.request.TeamCommand.TheVariants.{Within}
use Rattle.lf_proto.specs.declared.verb.Action.TheVariants.{Change as Changing}
use Rattle.lf_proto.specs.declared.verb.Change.TheVariants.{Commit}
use Rattle.lf_proto.specs.declared.reply.Reply.{Reply}
use Rattle.lf_cells.specs.declared.cell.Cell.{Cell}
use Rattle.lf_rules.specs.Team.{Member}
use Rattle.lf_floor_model.specs.States.{TeamState, FloorState}
use Rattle.lf_floor_model.specs.Teams.{team_number}
use Rattle.lf_floor_model.specs.Outcomes.{is_short}
use Rattle.lf_floor_model.specs.VerbLaws.{is_ok}
use Rattle.lf_floor_model.specs.Steps.{IsAnswerOf, MayRunOutOfMemory, Step}
use Rattle.lf_floor_model.specs.Runs.{Run}
use Rattle.lf_floor_model.specs.Committed.{committed_member, committed_members, AreCommittedLegal, IsCommittedLegal}
use Rattle.lf_floor_model.specs.CommittedRuns.{HasFrameTeams, CommitLasts, LegalRun, HasCommitted, NumberHasCommitted, CommitsMakeLegal}
use Rattle.lf_floor_model.proofs.Forms.{state_at}
use Rattle.lf_floor_model.proofs.Committing.{Commits, commit_commits}
use Rattle.lf_floor_model.proofs.Isolation.{step_frame}
use Rattle.lf_floor_model.proofs.Kept.{false_true, granted_plain}
use Rattle.lf_floor_model.proofs.Promises.{Ends, ends_good}
use Rattle.lf_floor_model.proofs.LegalPlaces.{some_one, none_some}
use Rattle.lf_floor_model.proofs.Stepping.{CommittedAt, step_teams, step_committed, teams_committed, step_keeps}

-- after a run each team is still a team of the frame
pub run_teams : (l : Legalizer) (commands : List (Command (List ℕ) Place)) (replies : List Reply) (old new : FloorState) → HasFrameTeams old
    → Run l old commands replies new → HasFrameTeams new
run_teams l [] [] old new known run = subst HasFrameTeams (sym run) known
run_teams l [] (r ∷ rs) old new known run = absurd run
run_teams l (c ∷ cs) [] old new known run = absurd run
run_teams l (c ∷ cs) (r ∷ rs) old new known run = run_teams l cs rs run.0 new (step_teams l old run.0 c r known run.1) run.2

-- a run from a fully legal committed design has one after each command
pub legal_run : (l : Legalizer) (commands : List (Command (List ℕ) Place)) (replies : List Reply) (old new : FloorState) → HasFrameTeams old
    → Run l old commands replies new → IsCommittedLegal old → LegalRun l old commands replies new
legal_run l [] [] old new known run legal = run
legal_run l [] (r ∷ rs) old new known run legal = absurd run
legal_run l (c ∷ cs) [] old new known run legal = absurd run
legal_run l (c ∷ cs) (r ∷ rs) old new known run legal =
    let still : IsCommittedLegal run.0 = step_keeps l old run.0 c r known run.1 legal in
    (run.0, run.1, still, legal_run l cs rs run.0 new (step_teams l old run.0 c r known run.1) run.2 still)

-- ---- an accepted commit

pub plain_answers : (l : Legalizer) (old new : FloorState) (command : Command (List ℕ) Place) (reply : Reply) (short : Bool) → short ≡ false
    → MatchBool short (MayRunOutOfMemory l old command new) (IsAnswerOf l old command reply new) → IsAnswerOf l old command reply new
plain_answers l old new command reply true is step = absurd (false_true (sym is))
plain_answers l old new command reply false is step = step

abbrev commit_to : List ℕ → ℕ → Command (List ℕ) Place
commit_to team session = To team (Within session (Changing Commit))

-- after an accepted commit the team's committed places are legal
module _ (l : Legalizer) (old mid : FloorState) (team : List ℕ) (session : ℕ) (reply : Reply) (known : HasFrameTeams old)
    (accepted : is_ok reply ≡ true) where
  module _ (step : Step l old (commit_to team session) reply mid) (k : ℕ) (named : team_number old.frame team ≡ Some k) where
    end : Ends l mid team Commits
    end = ends_good l old mid (commit_to team session) reply team (Within session (Changing Commit)) Commits known
        (plain_answers l old mid (commit_to team session) reply (is_short reply) (granted_plain reply accepted) step) refl accepted refl
        (λ t s one_of granted. commit_commits t s one_of session granted)

    same_frame : mid.frame ≡ old.frame
    same_frame = step_frame l old mid (commit_to team session) reply (is_short reply) step

    number_is : end.number ≡ k
    number_is = some_one (sym end.named ∙ ap (λ (f : Frame). team_number f team) same_frame ∙ named)

    pub commit_steps : CommittedAt mid k
    commit_steps s there =
        let here : slice_get mid.teams k ≡ Some end.state = ap (λ (n : ℕ). slice_get mid.teams n) (sym number_is)
        ∙ ap (state_at mid.teams) (sym end.named) ∙ end.there in
        let same : end.state ≡ s = some_one (sym here ∙ there) in
        subst (λ (t : TeamState). AreCommittedLegal mid.frame k t) same
        (subst (λ (n : ℕ). AreCommittedLegal mid.frame n end.state) number_is end.good.committed)

-- ---- runs in which each team commits

-- an accepted commit of a run is its first command or a later one
record IsFirst (team : List ℕ) (c : Command (List ℕ) Place) (r : Reply) : Type 0 where
  session : ℕ
  is : c ≡ commit_to team session
  granted : is_ok r ≡ true

first_or_later : (team : List ℕ) (c : Command (List ℕ) Place) (r : Reply) (cs : List (Command (List ℕ) Place)) (rs : List Reply)
    → (at session : ℕ) (reply : Reply) → slice_get (c ∷ cs) at ≡ Some (commit_to team session) → slice_get (r ∷ rs) at ≡ Some reply → is_ok reply ≡ true
    → IsFirst team c r ⊎ HasCommitted team cs rs
first_or_later team c r cs rs zero session reply commit answer accepted =
    inl (record { session = session; is = some_one commit; granted = ap is_ok (some_one answer) ∙ accepted })
first_or_later team c r cs rs (suc at) session reply commit answer accepted =
    inr (record { at = at; session = session; reply = reply; commit = commit; answer = answer; accepted = accepted })

-- the committed places of a team are legal at the end if they were legal at the start or a commit
-- of the team is accepted
run_commits : (l : Legalizer) (k : ℕ) (commands : List (Command (List ℕ) Place)) (replies : List Reply) (old new : FloorState) → HasFrameTeams old
    → Run l old commands replies new
    → CommittedAt old k ⊎ NumberHasCommitted old.frame k commands replies → CommittedAt new k
run_commits l k [] [] old new known run (inl before) = subst (λ (f : FloorState). CommittedAt f k) (sym run) before
run_commits l k [] [] old new known run (inr later) = absurd (none_some later.committed.commit)
run_commits l k [] (r ∷ rs) old new known run h = absurd run
run_commits l k (c ∷ cs) [] old new known run h = absurd run
run_commits l k (c ∷ cs) (r ∷ rs) old new known run (inl before) =
    run_commits l k cs rs run.0 new (step_teams l old run.0 c r known run.1) run.2 (inl (step_committed l old run.0 c r known run.1 k before))
run_commits l k (c ∷ cs) (r ∷ rs) old new known run (inr later) =
    run_commits l k cs rs run.0 new (step_teams l old run.0 c r known run.1) run.2
    (go (first_or_later later.team c r cs rs had.at had.session had.reply had.commit had.answer had.accepted))
  where
    had : HasCommitted later.team (c ∷ cs) (r ∷ rs)
    had = later.committed

    go : IsFirst later.team c r ⊎ HasCommitted later.team cs rs → CommittedAt run.0 k ⊎ NumberHasCommitted run.0.frame k cs rs
    go (inl first) =
        let step = subst (λ (x : Command (List ℕ) Place). Step l old x r run.0) first.is run.1 in
        inl (commit_steps l old run.0 later.team first.session r known first.granted step k later.named)
    go (inr rest) = inr (record {
      team = later.team;
      named = ap (λ (f : Frame). team_number f later.team) (step_frame l old run.0 c r (is_short r) run.1) ∙ later.named;
      committed = rest;
    })

run_frame : (l : Legalizer) (commands : List (Command (List ℕ) Place)) (replies : List Reply) (old new : FloorState) → Run l old commands replies new
    → new.frame ≡ old.frame
run_frame l [] [] old new run = ap (λ (f : FloorState). f.frame) run
run_frame l [] (r ∷ rs) old new run = absurd run
run_frame l (c ∷ cs) [] old new run = absurd run
run_frame l (c ∷ cs) (r ∷ rs) old new run = run_frame l cs rs run.0 new run.2 ∙ step_frame l old run.0 c r (is_short r) run.1

-- an accepted commit lasts
pub commit_lasts : CommitLasts
commit_lasts l old new commands replies known run team number s had named there =
    let before : team_number old.frame team ≡ Some number = ap (λ (f : Frame). team_number f team) (sym (run_frame l commands replies old new run)) ∙ named in
    run_commits l number commands replies old new known run (inr (record { team = team; named = before; committed = had })) s
    (ap (state_at new.teams) (sym named) ∙ there)

-- a team with no cells has no committed place that breaks a rule
none_are_placed : (l : Legalizer) (floor : FloorState) (k : ℕ) (s : TeamState) → slice_get floor.teams k ≡ Some s → s.cells ≡ [] → CommittedAt floor k
none_are_placed l floor k s there none t here own m at =
    let same : t ≡ s = some_one (sym here ∙ there) in
    let cells : committed_members t ≡ [] = ap committed_members same ∙ ap (λ (cs : List Cell). map committed_member cs) none in
    absurd (none_some (sym (ap (λ (ms : List Member). slice_get ms own) cells) ∙ at))

-- if a commit of each team with a cell was accepted, the committed design is fully legal
pub commits_legal : (l : Legalizer) (commands : List (Command (List ℕ) Place)) (replies : List Reply) (old new : FloorState) → HasFrameTeams old
    → Run l old commands replies new → CommitsMakeLegal old commands replies new
commits_legal l commands replies old new known run all =
    teams_committed new (λ k. run_commits l k commands replies old new known run (start k (slice_get old.teams k) refl))
  where
    by_cells : (k : ℕ) (s : TeamState) → slice_get old.teams k ≡ Some s → (cells : List Cell) → s.cells ≡ cells
        → CommittedAt old k ⊎ NumberHasCommitted old.frame k commands replies
    by_cells k s there [] none = inl (none_are_placed l old k s there none)
    by_cells k s there (c ∷ cs) some = inr (all k s there (rw some (omega arith)))

    start : (k : ℕ) (o : Option TeamState) → slice_get old.teams k ≡ o → CommittedAt old k ⊎ NumberHasCommitted old.frame k commands replies
    start k None none = inl (λ s there. absurd (none_some (sym none ∙ there)))
    start k (Some s) there = by_cells k s there s.cells refl
