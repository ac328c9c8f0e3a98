-- The selected teams of a design, and what a task changes of them.
use Rattle.std.specs.Prelude.{◌≡◌, ◌≢◌, ◌==◌, ◌||◌, ℕ, Bool, false, All, List, [], ◌∷◌, Contains, None, bytes_eq, filter, is_some, length, position, slice_get}
use Rattle.std.specs.Option.{option_map_or}
use Rattle.lf_floorplan.specs.declared.frame.Frame.{Frame}
use Rattle.lf_floor_model.specs.States.{FloorState}
use Rattle.lf_floor_model.specs.Teams.{state_of, team_names, team_number}
use Rattle.lf_floor_model.specs.Committed.{IsCommittedLegal}
use Rattle.lf_task_faults.specs.declared.faults.Fault.{Fault}
use Rattle.lf_task_faults.specs.declared.faults.Fault.TheVariants.{NoTeam}
use Rattle.lf_task_files.specs.Faults.{IsDone}

-- ---- the teams

-- the team with this name is selected: it is in the list, or the list is empty
abbrev pub is_selected : List (List ℕ) → List ℕ → Bool
is_selected teams name = (length teams == 0) || is_some (position (λ team. bytes_eq team name) teams)

-- the names of the selected teams, in the frame's order, the ground team's last
abbrev pub selected_names : Frame → List (List ℕ) → List (List ℕ)
selected_names f teams = filter (is_selected teams) (team_names f)

-- the name of the team with this number, if it is selected
abbrev pub selected_at : Frame → List (List ℕ) → ℕ → List (List ℕ)
selected_at f teams number =
    filter (is_selected teams) (option_map_or (λ name. name ∷ []) (slice_get (team_names f) number) [])

-- each of the names is a team's
abbrev pub AreKnown : Frame → List (List ℕ) → Type 0
AreKnown f teams = All (λ name. team_number f name ≢ None) teams

-- one of the names is not a team's
abbrev pub IsUnknown : Frame → List (List ℕ) → Fault → Type 0
IsUnknown f teams (NoTeam its) = Contains teams its.now × (team_number f its.now ≡ None)
IsUnknown f teams _ = ⊥

-- ---- what changes

-- only selected teams may differ, and a fully legal committed design stays fully legal
pub record OnlySelectedChange (teams : List (List ℕ)) (old new : FloorState) : Type 0 where
  pub others : (team : List ℕ) → is_selected teams team ≡ false → state_of new team ≡ state_of old team
  pub frame : new.frame ≡ old.frame
  pub components : new.components ≡ old.components
  pub legal : IsCommittedLegal old → IsCommittedLegal new

-- the status is that of a finished task, and says whether the committed design is fully legal
pub record IsStatusOf (floor : FloorState) (status : ℕ) : Type 0 where
  pub done : IsDone status
  pub legal : status ≡ 0 → IsCommittedLegal floor
  pub illegal : status ≡ 4 → ¬ IsCommittedLegal floor
