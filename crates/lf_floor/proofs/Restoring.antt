-- The saved state of a floor restores it.
use Rattle.std.proofs.Common.{◌≡◌, ℕ, List, [], ◌∷◌, map, Option, Ok, refl, ap, sym, subst, ◌∙◌}
use Rattle.std.specs.Prelude.{drop, slice_index_or}
use Rattle.lf_floorplan.specs.declared.frame.Frame.{Frame}
use Rattle.lf_cells.specs.declared.cell.Cell.{Cell}
use Rattle.lf_undo.specs.Entries.{Places, entries_of}
use Rattle.lf_floor_model.specs.States.{FloorState, TeamState}
use Rattle.lf_floor_model.specs.Teams.{team_names}
use Rattle.lf_floor_model.specs.Journals.{IsBackup, lasting, lasting_replies}
use Rattle.lf_floor_model.specs.Outcomes.{places_of}
use Rattle.lf_floor_model.proofs.Journals.{backs_up}
use Rattle.lf_state_text.specs.declared.saved_rows.SavedCell.{SavedCell}
use Rattle.lf_state_text.specs.Designs.{NamedDesign, NamedTeam}
use Rattle.lf_state_text.specs.Saved.{Both, SavedTeam, state_text}
use Rattle.lf_state_text.specs.Reading.{saved_state_of}
use Rattle.lf_state_text.proofs.Again.{state-again}
use Rattle.lf_floor.specs.Saved.{ShareDesign, SavedRestores, StateAndTail, IsSavedTeam, fixed_cells, fixed_part, map_two, design_names, named_team, restored_cell, restored_team, saved_cell}

-- ---- equal lists

pub same_head : {X : Type 0} {x y : X} {xs ys : List X} → ◌≡◌ {A = List X} (x ∷ xs) (y ∷ ys) → x ≡ y
same_head {X} {x} is = ap (λ (l : List X). slice_index_or l 0 x) is

pub same_tail : {X : Type 0} {x y : X} {xs ys : List X} → ◌≡◌ {A = List X} (x ∷ xs) (y ∷ ys) → xs ≡ ys
same_tail {X} is = ap (λ (l : List X). drop 1 l) is

-- ---- names

pub names_alike : (cells others : List Cell) → map fixed_part cells ≡ map fixed_part others → map (λ c. c.name) cells ≡ map (λ c. c.name) others
names_alike [] [] is = refl
names_alike [] (d ∷ ds) is = absurd cc
names_alike (c ∷ cs) [] is = absurd cc
names_alike (c ∷ cs) (d ∷ ds) is =
    let first : c.name ≡ d.name = ap (λ (f : List ℕ × ℕ). f.0) (same_head is) in
    ap (λ (n : List ℕ). n ∷ map (λ x. x.name) cs) first ∙ ap (λ (ns : List (List ℕ)). d.name ∷ ns) (names_alike cs ds (same_tail is))

named_each : (names : List (List ℕ)) (teams others : List TeamState) → map fixed_cells teams ≡ map fixed_cells others
    → map_two named_team names teams ≡ map_two named_team names others
named_each [] teams others is = refl
named_each (n ∷ ns) [] [] is = refl
named_each (n ∷ ns) [] (s ∷ ss) is = absurd cc
named_each (n ∷ ns) (t ∷ ts) [] is = absurd cc
named_each (n ∷ ns) (t ∷ ts) (s ∷ ss) is =
    let cells : map (λ c. c.name) t.cells ≡ map (λ c. c.name) s.cells = names_alike t.cells s.cells (same_head is) in
    ap (λ (names : List (List ℕ)). record { name = n; cells = names } ∷ map_two named_team ns ts) cells
    ∙ ap (λ (ms : List NamedTeam). named_team n s ∷ ms) (named_each ns ts ss (same_tail is))

-- floors of one design have the same names
pub named_alike : (a b : FloorState) → ShareDesign a b → design_names b ≡ design_names a
named_alike a b one =
    ap (λ (f : Frame). record { teams = map_two named_team (team_names f) b.teams; limits = f.limits }) one.frame
    ∙ ap (λ (ts : List NamedTeam). record { teams = ts; limits = a.frame.limits }) (named_each (team_names a.frame) b.teams a.teams one.cells)

-- ---- places

pub saved_places : (cells : List Cell) → map (λ c. c.working) (map saved_cell cells) ≡ places_of cells
saved_places [] = refl
saved_places (c ∷ cs) = ap (λ (ps : Places). c.working ∷ ps) (saved_places cs)

one_cell : (c d : Cell) → fixed_part d ≡ fixed_part c → restored_cell c (saved_cell d) ≡ d
one_cell c d is = ap (λ (f : List ℕ × ℕ). record { name = f.0; mac = f.1; working = d.working; committed = d.committed }) (sym is)

pub cells_back : (cells others : List Cell) → map fixed_part others ≡ map fixed_part cells → map_two restored_cell cells (map saved_cell others) ≡ others
cells_back [] [] is = refl
cells_back [] (d ∷ ds) is = absurd cc
cells_back (c ∷ cs) [] is = absurd cc
cells_back (c ∷ cs) (d ∷ ds) is =
    ap (λ (x : Cell). x ∷ map_two restored_cell cs (map saved_cell ds)) (one_cell c d (same_head is))
    ∙ ap (λ (xs : List Cell). d ∷ xs) (cells_back cs ds (same_tail is))

-- ---- teams

team_is : (s : TeamState) (cells : List Cell) (revision : ℕ) (entries : List Places) (slots : List (Option ℕ)) (padding : ℕ)
    → cells ≡ s.cells → revision ≡ s.revision → entries ≡ s.entries → slots ≡ s.slots → padding ≡ s.padding
    → ◌≡◌ {A = TeamState} (record { cells = cells; revision = revision; entries = entries; slots = slots; padding = padding }) s
team_is s cells revision entries slots padding cells_are revision_is entries_are slots_are padding_is = rw (cells_are, revision_is, entries_are, slots_are, padding_is) refl

team_back : (begin s : TeamState) (t : SavedTeam) → fixed_cells s ≡ fixed_cells begin → IsSavedTeam s t → restored_team begin t ≡ s
team_back begin s t fixed decides =
    let working = ap (λ (cs : List SavedCell). map (λ c. c.working) cs) decides.cells ∙ saved_places s.cells in
    team_is s (map_two restored_cell begin.cells t.cells) t.revision (entries_of (map (λ c. c.working) t.cells) t.entries) t.slots t.padding
    (ap (map_two restored_cell begin.cells) decides.cells ∙ cells_back begin.cells s.cells fixed)
    decides.revision
    (ap (λ (ps : Places). entries_of ps t.entries) working ∙ decides.entries)
    decides.slots
    decides.padding

teams_back : (begins teams : List TeamState) (saved : List SavedTeam) → map fixed_cells teams ≡ map fixed_cells begins → Both IsSavedTeam teams saved
    → map_two restored_team begins saved ≡ teams
teams_back [] [] saved fixed decides = refl
teams_back [] (s ∷ ss) saved fixed decides = absurd cc
teams_back (b ∷ bs) [] saved fixed decides = absurd cc
teams_back (b ∷ bs) (s ∷ ss) [] fixed decides = absurd decides
teams_back (b ∷ bs) (s ∷ ss) (t ∷ ts) fixed decides =
    ap (λ (x : TeamState). x ∷ map_two restored_team bs ts) (team_back b s t (same_head fixed) decides.0)
    ∙ ap (λ (xs : List TeamState). s ∷ xs) (teams_back bs ss ts (same_tail fixed) decides.1)

floor_is : (floor : FloorState) (frame : Frame) (teams : List TeamState) (components : List (List ℕ)) → frame ≡ floor.frame → teams ≡ floor.teams
    → components ≡ floor.components → ◌≡◌ {A = FloorState} (record { frame = frame; teams = teams; components = components }) floor
floor_is floor frame teams components frame_is teams_are components_are =
    ap (λ (f : Frame). record { frame = f; teams = teams; components = components }) frame_is
    ∙ ap (λ (ts : List TeamState). record { frame = floor.frame; teams = ts; components = components }) teams_are
    ∙ ap (λ (cs : List (List ℕ)). record { frame = floor.frame; teams = floor.teams; components = cs }) components_are

pub saved_back : SavedRestores
saved_back begin floor text one (saved, decides, is) =
    let read : saved_state_of (design_names begin) text ≡ Ok saved =
    ap (saved_state_of (design_names begin)) is
    ∙ ap (λ (d : NamedDesign). saved_state_of d (state_text (design_names floor) saved)) (sym (named_alike begin floor one))
    ∙ state-again (design_names floor) saved decides.words in (
      saved,
      read,
      floor_is floor begin.frame (map_two restored_team begin.teams saved) begin.components (sym one.frame)
          (teams_back begin.teams floor.teams saved one.cells decides.teams) (sym one.components),
    )

pub tail_back : StateAndTail
tail_back l begin old new text commands replies one says run =
    let back = saved_back begin old text one says in (
      back.0,
      back.1,
      subst (λ (floor : FloorState). IsBackup l floor (lasting commands replies) (lasting_replies commands replies) new) (sym back.2)
          (backs_up l commands replies old new run),
    )
