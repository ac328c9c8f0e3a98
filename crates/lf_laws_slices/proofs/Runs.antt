-- A team's commands on two frames that are alike, run in order.
use Rattle.std.proofs.Common.{◌≡◌, ℕ, List, [], ◌∷◌, ◌++◌, map, Option, Some, None, refl, ap, sym, ◌∙◌, subst}
use Rattle.std.specs.Prelude.{bytes_eq, position, replicate}
use Rattle.lf_floorplan.specs.declared.frame.Frame.{Frame}
use Rattle.lf_floorplan.specs.declared.limits.Limits.{Limits}
use Rattle.lf_floorplan.specs.declared.loaded.Loaded.{Loaded}
use Rattle.lf_floorplan.specs.declared.parts.Team.{Team}
use Rattle.lf_floorplan.specs.declared.place.Place.{Place}
use Rattle.lf_floorplan.specs.Fences.{ground_name}
use Rattle.lf_rules.specs.Choice.{BestPlaceIsUnique}
use Rattle.lf_rules.specs.Legalizer.{Legalizer, VerdictIsUnique}
use Rattle.lf_proto.specs.declared.request.Command.{Command}
use Rattle.lf_proto.specs.declared.request.TeamCommand.{TeamCommand}
use Rattle.lf_proto.specs.declared.reply.Reply.{Reply}
use Rattle.lf_cells.specs.declared.cell.Cell.{Cell}
use Rattle.lf_floor_model.specs.States.{TeamState, FloorState}
use Rattle.lf_floor_model.specs.Teams.{team_number}
use Rattle.lf_floor_model.specs.Outcomes.{Outcome, is_short}
use Rattle.lf_floor_model.specs.Steps.{outcome_by_rules}
use Rattle.lf_floor_model.specs.Designs.{initial_floor, initial_team}
use Rattle.lf_floor_model.specs.Runs.{Run, own_replies, own_state, own_commands, own_replies_in}
use Rattle.lf_floor_model.proofs.Isolation.{isolated_from_run, has_number, step_frame}
use Rattle.lf_floor_model.proofs.Openings.{opening_is, opened_team}
use Rattle.lf_laws_slices.specs.Alike.{AreFramesAlike, AreTeamsAlike, AreOutcomesAlike, AreFloorsAlike, AreDesignsAlike}
use Rattle.lf_laws_slices.proofs.Cells.{all_alike, only_alike, only_sized}
use Rattle.lf_laws_slices.proofs.Verbs.{Matches, with_cells, orders}

-- a team has one number on both frames
pub number_same : (f g : Frame) → AreFramesAlike f g → (team : List ℕ) → team_number f team ≡ team_number g team
number_same f g a team = ap (λ (teams : List Team). position (λ n. bytes_eq n team) (map (λ t. t.name) teams ++ ground_name ∷ [])) a.fences

-- ---- one command

abbrev team_with : List Cell → ℕ → List (List (Option Place)) → List (Option ℕ) → ℕ → TeamState
team_with cells revision entries slots padding = record { cells = cells; revision = revision; entries = entries; slots = slots; padding = padding }

-- a state that is alike is the other state with its own cells
own_cells_in : (f g : Frame) (s t : TeamState) → AreTeamsAlike f g s t → with_cells t.cells s ≡ t
own_cells_in f g s t a =
    ap (λ (n : ℕ). team_with t.cells n s.entries s.slots s.padding) a.revision
    ∙ ap (λ (entries : List (List (Option Place))). team_with t.cells t.revision entries s.slots s.padding) a.entries
    ∙ ap (λ (slots : List (Option ℕ)). team_with t.cells t.revision t.entries slots s.padding) a.slots
    ∙ ap (λ (n : ℕ). team_with t.cells t.revision t.entries t.slots n) a.padding

matches_alike : (f g : Frame) (o p : Outcome) → Matches f g o p → AreOutcomesAlike f g o p
matches_alike f g o p m = record {
  reply = m.reply;
  teams = record {
    cells = only_alike f g o.team.cells p.team.cells m.cells;
    sized = only_sized f g o.team.cells p.team.cells m.cells;
    revision = ap (λ (s : TeamState). s.revision) m.team;
    entries = ap (λ (s : TeamState). s.entries) m.team;
    slots = ap (λ (s : TeamState). s.slots) m.team;
    padding = ap (λ (s : TeamState). s.padding) m.team;
  };
}

module _ (verdict_one : VerdictIsUnique) (choice_one : BestPlaceIsUnique) (l m : Legalizer) where
  pub ruled_alike : (f g : Frame) (number : ℕ) (order : TeamCommand (List ℕ) Place) (s t : TeamState) → AreFramesAlike f g → AreTeamsAlike f g s t
      → AreOutcomesAlike f g (outcome_by_rules l f number order s) (outcome_by_rules m g number order t)
  ruled_alike f g number order s t frames teams =
      subst (λ (u : TeamState). AreOutcomesAlike f g (outcome_by_rules l f number order s) (outcome_by_rules m g number order u)) (own_cells_in f g s t teams)
      (matches_alike f g (outcome_by_rules l f number order s) (outcome_by_rules m g number order (with_cells t.cells s))
      (orders verdict_one choice_one l m f g frames number s.padding s t.cells (all_alike f g s.cells t.cells teams.cells teams.sized) order))

  -- ---- many commands

  pub own_alike : (f g : Frame) (number : ℕ) → AreFramesAlike f g → (own_commands : List (TeamCommand (List ℕ) Place)) (s t : TeamState) → AreTeamsAlike f g s t
      → (own_replies l f number own_commands s ≡ own_replies m g number own_commands t) × AreTeamsAlike f g (own_state l f number own_commands s) (own_state m g number own_commands t)
  own_alike f g number frames [] s t teams = (refl, teams)
  own_alike f g number frames (order ∷ later) s t teams =
      let first = ruled_alike f g number order s t frames teams in
      let rest = own_alike f g number frames later (outcome_by_rules l f number order s).team (outcome_by_rules m g number order t).team first.teams in (
        ap (λ (r : Reply). r ∷ own_replies l f number later (outcome_by_rules l f number order s).team) first.reply
            ∙ ap (λ (rs : List Reply). (outcome_by_rules m g number order t).reply ∷ rs) rest.0,
        rest.1,
      )

  -- ---- floors

  run_frame : (k : Legalizer) (commands : List (Command (List ℕ) Place)) (replies : List Reply) (old new : FloorState) → Run k old commands replies new
      → new.frame ≡ old.frame
  run_frame k [] [] old new run = ap (λ (f : FloorState). f.frame) run
  run_frame k [] (r ∷ rs) old new run = absurd run
  run_frame k (c ∷ cs) [] old new run = absurd run
  run_frame k (c ∷ cs) (r ∷ rs) old new run = run_frame k cs rs run.0 new run.2 ∙ step_frame k old run.0 c r (is_short r) run.1

  pub runs_alike : (team : List ℕ) (a a' b b' : FloorState) (commands others : List (Command (List ℕ) Place)) (replies answers : List Reply)
      → AreFloorsAlike team a b → Run l a commands replies a' → Run m b others answers b' → own_commands team commands replies ≡ own_commands team others answers
      → (own_replies_in team commands replies ≡ own_replies_in team others answers) × AreFloorsAlike team a' b'
  runs_alike team a a' b b' commands others replies answers alike run_a run_b same =
      let named = has_number a team alike.here alike.is_here in
      let named_b : team_number b.frame team ≡ Some named.0 = sym (number_same a.frame b.frame alike.frames team) ∙ named.1 in
      let own_a = isolated_from_run l commands replies a a' run_a team named.0 alike.here named.1 alike.is_here in
      let own_b = isolated_from_run m others answers b b' run_b team named.0 alike.there named_b alike.is_there in
      let orders_a = own_commands team commands replies in
      let orders_b = own_commands team others answers in
      let both = own_alike a.frame b.frame named.0 alike.frames orders_a alike.here alike.there alike.teams in
      let reported_b = ap (λ (os : List (TeamCommand (List ℕ) Place)). own_replies m b.frame named.0 os alike.there) same in
      let state_b = ap (λ (os : List (TeamCommand (List ℕ) Place)). Some (own_state m b.frame named.0 os alike.there)) same in
      let frame_a = sym (run_frame l commands replies a a' run_a) in
      let frame_b = sym (run_frame m others answers b b' run_b) in (
        own_a.replies_are ∙ both.0 ∙ reported_b ∙ sym own_b.replies_are,
        record {
          frames =
              subst (λ (g : Frame). AreFramesAlike a'.frame g) frame_b
              (subst (λ (f : Frame). AreFramesAlike f b.frame) frame_a alike.frames);
          here = own_state l a.frame named.0 orders_a alike.here;
          there = own_state m b.frame named.0 orders_a alike.there;
          is_here = own_a.state_is;
          is_there = own_b.state_is ∙ sym state_b;
          teams =
              subst (λ (g : Frame). AreTeamsAlike a'.frame g (own_state l a.frame named.0 orders_a alike.here) (own_state m b.frame named.0 orders_a alike.there)) frame_b
              (subst (λ (f : Frame). AreTeamsAlike f b.frame (own_state l a.frame named.0 orders_a alike.here) (own_state m b.frame named.0 orders_a alike.there)) frame_a both.1);
        },
      )

-- ---- loaded designs

pub opens_alike : (team : List ℕ) (a b : Loaded) → AreDesignsAlike team a b → AreFloorsAlike team (initial_floor a) (initial_floor b)
opens_alike team a b alike = record {
  frames = alike.frames;
  here = initial_team a alike.number;
  there = initial_team b alike.number;
  is_here = opening_is a team alike.number alike.named;
  is_there = opening_is b team alike.number (sym (number_same a.frame b.frame alike.frames team) ∙ alike.named);
  teams = record {
    cells = alike.cells;
    sized = (opened_team a alike.number).sized;
    revision = refl;
    entries = refl;
    slots = ap (λ (limits : Limits). replicate {A = Option ℕ} limits.sessions None) alike.frames.limits;
    padding = refl;
  };
}
