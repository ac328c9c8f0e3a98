-- Results of improved teams, one after the other.
use Rattle.std.proofs.Common.{◌≡◌, ◌≢◌, ◌∙◌, ◌⊎◌, inl, inr, ⊎_elim, ℕ, zero, suc, ◌+◌, ◌<◌, Bool, false, true, cond, List, [], ◌∷◌, ◌++◌, length, map, take, get_or, Option, None, Some, refl, sym, ap, ap₂, subst, append-nil, append_assoc, arith}
use Rattle.std.specs.Prelude.{◌≤◌, All, Err, IfOk, IsTrue, Ok, Result, filter, option_and_then, slice_get}
use Rattle.std.specs.Option.{option_map, option_map_or}
use Rattle.std.proofs.lemmas.List.{map-append, take_all}
use Rattle.std.proofs.lemmas.List.Elements.{All-append, All-nil, All-cons, All-filter, All-head, All-tail, All-weaker, filter_more}
use Rattle.std.proofs.lemmas.Option.{slice_get-get_or}
use Rattle.lf_floorplan.specs.declared.frame.Frame.{Frame}
use Rattle.lf_floorplan.specs.declared.parts.Team.{Team}
use Rattle.lf_floorplan.specs.declared.place.Place.{Place}
use Rattle.lf_floorplan.specs.Fences.{ground_name}
use Rattle.lf_wire_length.specs.declared.pins.NetPin.{NetPin}
use Rattle.lf_wire_length.specs.declared.netlist.WireLengths.{WireLengths}
use Rattle.lf_cells.specs.Cells.{working_at}
use Rattle.lf_floor.proofs.Saving.{names_many}
use Rattle.lf_floor_model.specs.States.{FloorState, TeamState}
use Rattle.lf_floor_model.specs.Teams.{state_of, team_names, team_number}
use Rattle.lf_floor_model.specs.VerbLaws.{committed_places}
use Rattle.lf_repair_strategy.specs.declared.stats.RepairStats.{RepairStats}
use Rattle.lf_repair_team.specs.Stats.{displacement}
use Rattle.lf_repair_team.specs.TeamRepairs.{committed_in, place_of_cell_in, settings_in}
use Rattle.lf_repair_team.proofs.Legal.{committed_through}
use Rattle.lf_improve_team.specs.FloorLengths.{AreNetsOfFloor, IsWireLengthOn, WireLengthIsOne}
use Rattle.lf_improve_team.specs.TeamImprovements.{IsImprovable, KeepsTeamPlaces}
use Rattle.lf_task_reports.specs.declared.improved.ImprovedTeam.{ImprovedTeam}
use Rattle.lf_task_reports.specs.ImproveReports.{improved_team_name}
use Rattle.lf_task_run.specs.Teams.{is_selected, selected_at, selected_names}
use Rattle.lf_task_run.proofs.Named.{others_before}
use Rattle.lf_task_run.proofs.Running.{AreUntouched, legal_same, first_requested, moved_off_soft_same, selected_have, stats_same}
use Rattle.lf_task_improve.specs.Improvements.{AddsResults, AreLengthsOnFloor, IsImprovementOf, IsTeamResult}

-- ---- a result stays true if the team is unchanged

place_same : (old new : FloorState) (team : List ℕ) (own : ℕ) → state_of new team ≡ state_of old team → place_of_cell_in new team own ≡ place_of_cell_in old team own
place_same old new team own same = ap (λ (o : Option TeamState). option_and_then (λ (s : TeamState). working_at s.cells own) o) same

committed_same : (old new : FloorState) (team : List ℕ) → state_of new team ≡ state_of old team → committed_in new team ≡ committed_in old team
committed_same old new team same = ap (λ (o : Option TeamState). option_map committed_places o) same

settings_same : (old new : FloorState) (team : List ℕ) → state_of new team ≡ state_of old team → settings_in new team ≡ settings_in old team
settings_same old new team same = ap (λ (o : Option TeamState). option_map (λ (s : TeamState). (s.padding, s.slots)) o) same

improvable_same : (team : List ℕ) (old new : FloorState) → new.frame ≡ old.frame → state_of new team ≡ state_of old team → IsImprovable team old → IsImprovable team new
improvable_same team old new frame same is = record {
  legal = λ s there own within. ⊎_elim (λ legal. inl (legal_same old new team own frame same legal)) (λ named. inr named) (is.legal s (sym same ∙ there) own within);
  committed = λ s there. is.committed s (sym same ∙ there);
}

keeps_same : (team : List ℕ) (a b c d : FloorState) → state_of c team ≡ state_of a team → state_of d team ≡ state_of b team → KeepsTeamPlaces team a b → KeepsTeamPlaces team c d
keeps_same team a b c d first last is = record {
  working = λ own. place_same b d team own last ∙ is.working own ∙ sym (place_same a c team own first);
  committed = committed_same b d team last ∙ is.committed ∙ sym (committed_same a c team first);
}

result_same : (within : Option ℕ) (team : List ℕ) (a b c d : FloorState) (is_skipped : Bool) (cells : ℕ) (stats : RepairStats) → c.frame ≡ a.frame → d.frame ≡ b.frame
    → state_of c team ≡ state_of a team → state_of d team ≡ state_of b team → IsImprovementOf within team a b is_skipped cells stats
    → IsImprovementOf within team c d is_skipped cells stats
result_same within team a b c d is_skipped cells stats frame frame' first last is = record {
  skipped = λ s there.
      let same = is.skipped s (sym first ∙ there) in
      (λ did. improvable_same team a c frame first (same.0 did), λ can. same.1 (improvable_same team c a (sym frame) (sym first) can));
  untouched = λ skipped. last ∙ is.untouched skipped ∙ sym first;
  settled = ⊎_elim (λ all. inl (λ l. committed_through l team b d frame' (inl last) (all l))) (λ keeps. inr (keeps_same team a b c d first last keeps)) is.settled;
  near = λ own far limit.
      subst (λ (p : Option Place). displacement p (place_of_cell_in d team own) ≤ far) (sym (place_same a c team own first))
      (subst (λ (p : Option Place). displacement (place_of_cell_in a team own) p ≤ far) (sym (place_same b d team own last)) (is.near own far limit));
  counted = λ s there. is.counted s (sym first ∙ there);
  measured = stats_same a b c d team stats frame first last is.measured;
  settings = settings_same b d team last ∙ is.settings ∙ sym (settings_same a c team first);
  off_soft = moved_off_soft_same a b c d team frame' first last is.off_soft;
}

results_still : (within : Option ℕ) (begin old new : FloorState) (ts : List ImprovedTeam) → new.frame ≡ old.frame
    → All (λ name. state_of new name ≡ state_of old name) (map (improved_team_name begin.frame) ts) → All (IsTeamResult within begin old) ts → All (IsTeamResult within begin new) ts
results_still within begin old new [] frame same each = All-nil (IsTeamResult within begin new)
results_still within begin old new (t ∷ ts) frame same each =
    let Stays : List ℕ → Type 0 = λ name. state_of new name ≡ state_of old name in
    let names : List (List ℕ) = map (improved_team_name begin.frame) ts in
    let name : List ℕ = improved_team_name begin.frame t in
    All-cons (IsTeamResult within begin new) t ts
    (result_same within name begin old begin new t.is_skipped t.cells t.stats refl frame refl (All-head Stays name names same) (All-head (IsTeamResult within begin old) t ts each))
    (results_still within begin old new ts frame (All-tail Stays name names same) (All-tail (IsTeamResult within begin old) t ts each))

-- teams that are as on the first floor when their improvement begins are improved from the first
-- floor on
results_from : (within : Option ℕ) (begin old new : FloorState) (ts : List ImprovedTeam) → begin.frame ≡ old.frame
    → All (λ name. state_of begin name ≡ state_of old name) (map (improved_team_name old.frame) ts) → All (IsTeamResult within old new) ts → All (IsTeamResult within begin new) ts
results_from within begin old new [] frame same each = All-nil (IsTeamResult within begin new)
results_from within begin old new (t ∷ ts) frame same each =
    let Stays : List ℕ → Type 0 = λ name. state_of begin name ≡ state_of old name in
    let names : List (List ℕ) = map (improved_team_name old.frame) ts in
    let name : List ℕ = improved_team_name old.frame t in
    All-cons (IsTeamResult within begin new) t ts
    (subst (λ (f : Frame). IsImprovementOf within (improved_team_name f t) begin new t.is_skipped t.cells t.stats) (sym frame)
    (result_same within name old new begin new t.is_skipped t.cells t.stats frame refl (All-head Stays name names same) refl (All-head (IsTeamResult within old new) t ts each)))
    (results_from within begin old new ts frame (All-tail Stays name names same) (All-tail (IsTeamResult within old new) t ts each))

adds_from : (names : List (List ℕ)) (within : Option ℕ) (begin old new : FloorState) (xs ys : List ImprovedTeam) → begin.frame ≡ old.frame
    → All (λ name. state_of begin name ≡ state_of old name) names → AddsResults names within old new xs ys → AddsResults names within begin new xs ys
adds_from names within begin old new xs ys frame same more = record {
  added = more.added;
  named = subst (λ (f : Frame). map (improved_team_name f) more.added ≡ names) (sym frame) more.named;
  each = results_from within begin old new more.added frame (subst (λ (list : List (List ℕ)). All (λ name. state_of begin name ≡ state_of old name) list) (sym more.named) same) more.each;
  list = more.list;
}

-- ---- one result after the other

-- no team has a result
pub none_added : (within : Option ℕ) (begin floor : FloorState) (xs : List ImprovedTeam) → AddsResults [] within begin floor xs xs
none_added within begin floor xs = record { added = []; named = refl; each = All-nil (IsTeamResult within begin floor); list = sym (append-nil xs) }

some_one : (a b : List ℕ) → Some a ≡ Some b → a ≡ b
some_one a b same = cc

none_some : (a : List ℕ) → None ≡ Some a → ⊥
none_some a same = cc

described_at : (ts : List Team) (number : ℕ) (last name : List ℕ) → slice_get (map (λ (t : Team). t.name) ts ++ last ∷ []) number ≡ Some name
    → option_map_or (λ (t : Team). t.name) (slice_get ts number) last ≡ name
described_at [] zero last name there = some_one last name there
described_at [] (suc n) last name there = absurd (none_some name there)
described_at (t ∷ ts) zero last name there = some_one t.name name there
described_at (t ∷ ts) (suc n) last name there = described_at ts n last name there

-- a team's name is described by its number
described : (f : Frame) (t : ImprovedTeam) (name : List ℕ) → slice_get (team_names f) t.number ≡ Some name → improved_team_name f t ≡ name
described f t name there = described_at f.teams t.number ground_name name there

-- one team has a result
pub one_added : (teams : List (List ℕ)) (name : List ℕ) (within : Option ℕ) (begin floor : FloorState) (t : ImprovedTeam) (old new : List ImprovedTeam)
    → slice_get (team_names begin.frame) t.number ≡ Some name → is_selected teams name ≡ true → new ≡ old ++ t ∷ []
    → IsImprovementOf within name begin floor t.is_skipped t.cells t.stats → AddsResults (selected_at begin.frame teams t.number) within begin floor old new
one_added teams name within begin floor t old new there selected list is = record {
  added = t ∷ [];
  named = ap (λ (n : List ℕ). n ∷ []) same
      ∙ sym (ap (λ (o : Option (List ℕ)). filter (is_selected teams) (option_map_or (λ name. name ∷ []) o [])) there ∙ ap (λ (b : Bool). cond b (name ∷ []) []) selected);
  each = All-cons (IsTeamResult within begin floor) t []
      (subst (λ (n : List ℕ). IsImprovementOf within n begin floor t.is_skipped t.cells t.stats) (sym same) is)
      (All-nil (IsTeamResult within begin floor));
  list = list;
} where
  same : improved_team_name begin.frame t ≡ name
  same = described begin.frame t name there

-- a team that is not selected has no result
pub unselected_added : (teams : List (List ℕ)) (number : ℕ) (name : List ℕ) (within : Option ℕ) (begin floor : FloorState) (xs : List ImprovedTeam)
    → slice_get (team_names begin.frame) number ≡ Some name → is_selected teams name ≡ false → AddsResults (selected_at begin.frame teams number) within begin floor xs xs
unselected_added teams number name within begin floor xs there unasked =
    subst (λ (names : List (List ℕ)). AddsResults names within begin floor xs xs)
    (sym (ap (λ (o : Option (List ℕ)). filter (is_selected teams) (option_map_or (λ name. name ∷ []) o [])) there ∙ ap (λ (b : Bool). cond b (name ∷ []) []) unasked))
    (none_added within begin floor xs)

-- more results after the first ones
then_added : (names more : List (List ℕ)) (within : Option ℕ) (begin mid floor : FloorState) (xs ys zs : List ImprovedTeam) → floor.frame ≡ mid.frame
    → All (λ name. state_of floor name ≡ state_of mid name) names → AddsResults names within begin mid xs ys → AddsResults more within begin floor ys zs
    → AddsResults (names ++ more) within begin floor xs zs
then_added names more within begin mid floor xs ys zs frame same first second = record {
  added = first.added ++ second.added;
  named = map-append (improved_team_name begin.frame) first.added second.added ∙ ap₂ (λ (a b : List (List ℕ)). a ++ b) first.named second.named;
  each = All-append (IsTeamResult within begin floor) first.added second.added
      (results_still within begin mid floor first.added frame
      (subst (λ (list : List (List ℕ)). All (λ name. state_of floor name ≡ state_of mid name) list) (sym first.named) same) first.each)
      second.each;
  list = second.list ∙ ap (λ (list : List ImprovedTeam). list ++ second.added) first.list ∙ append_assoc xs first.added second.added;
}

pub next_added : (f : Frame) (teams : List (List ℕ)) (number : ℕ) (within : Option ℕ) (begin mid floor : FloorState) (xs ys zs : List ImprovedTeam) → number < length f.teams + 1
    → begin.frame ≡ f → mid.frame ≡ f → floor.frame ≡ f → AreUntouched begin mid number
    → ((name : List ℕ) → team_number mid.frame name ≢ Some number → state_of floor name ≡ state_of mid name)
    → AddsResults (first_requested f teams number) within begin mid xs ys → AddsResults (selected_at mid.frame teams number) within mid floor ys zs
    → AddsResults (first_requested f teams (number + 1)) within begin floor xs zs
next_added f teams number within begin mid floor xs ys zs less begin_is mid_is floor_is untouched others first second =
    subst (λ (list : List (List ℕ)). AddsResults list within begin floor xs zs) (sym one_more)
    (then_added (first_requested f teams number) (selected_at mid.frame teams number) within begin mid floor xs ys zs (floor_is ∙ sym mid_is)
    (All-filter (is_selected teams) (λ name. state_of floor name ≡ state_of mid name) (take number (team_names f))
    (All-weaker (λ name. team_number f name ≢ Some number) (λ name. state_of floor name ≡ state_of mid name)
    (λ name other. others name (subst (λ (g : Frame). team_number g name ≢ Some number) (sym mid_is) other)) (take number (team_names f))
    (others_before f number (omega (arith, among))))) first from_begin) where
      from_begin : AddsResults (selected_at mid.frame teams number) within begin floor ys zs
      from_begin = adds_from (selected_at mid.frame teams number) within begin mid floor ys zs (begin_is ∙ sym mid_is)
          (selected_have (λ name. state_of begin name ≡ state_of mid name) mid.frame teams number
          (λ name named. sym (untouched name number (ap (λ (g : Frame). team_number g name) (begin_is ∙ sym mid_is) ∙ named) (omega arith)))) second

      among : number < length (team_names f)
      among = subst (λ (n : ℕ). number < n) (sym (names_many f)) less

      here : selected_at mid.frame teams number ≡ filter (is_selected teams) (get_or (team_names f) number [] ∷ [])
      here = ap (λ (g : Frame). selected_at g teams number) mid_is
          ∙ ap (λ (o : Option (List ℕ)). filter (is_selected teams) (option_map_or (λ name. name ∷ []) o [])) (slice_get-get_or (team_names f) number [] among)

      one_more : first_requested f teams (number + 1) ≡ first_requested f teams number ++ selected_at mid.frame teams number
      one_more = filter_more (is_selected teams) (team_names f) number [] among ∙ ap (λ (list : List (List ℕ)). first_requested f teams number ++ list) (sym here)

-- all selected teams have results
pub all_added : (f : Frame) (teams : List (List ℕ)) (count : ℕ) (within : Option ℕ) (begin floor : FloorState) (xs ys : List ImprovedTeam) → length f.teams + 1 ≤ count
    → AddsResults (first_requested f teams count) within begin floor xs ys → AddsResults (selected_names f teams) within begin floor xs ys
all_added f teams count within begin floor xs ys all =
    subst (λ (list : List (List ℕ)). AddsResults (filter (is_selected teams) list) within begin floor xs ys)
    (take_all count (team_names f) (subst (λ (n : ℕ). n ≤ count) (sym (names_many f)) all))

-- ---- lengths

-- two facts of a value give what is to be shown of it
pub ok_both : {A E : Type 0} (r : Result A E) (P Q R : A → Type 0) → IfOk r P → IfOk r Q → ((value : A) → P value → Q value → R value) → IfOk r R
ok_both (Ok value) P Q R is also gives = gives value is also
ok_both (Err fault) P Q R is also gives = tt

-- the length of all nets is the wire length
pub wire_length_on : (teams : List ℕ) (nets : List (List NetPin)) (floor : FloorState) (lengths : WireLengths) → AreLengthsOnFloor teams nets floor lengths
    → IsWireLengthOn nets floor lengths.length
wire_length_on teams nets floor lengths are = record { places = are.places; listed = are.listed; length_is = are.length_is }

-- the length that was measured last is that of the last improvement
pub not_longer : WireLengthIsOne → (teams : List ℕ) (nets : List (List NetPin)) (floor : FloorState) (lengths : WireLengths) (last before : ℕ) → AreLengthsOnFloor teams nets floor lengths
    → IsWireLengthOn nets floor last → last ≤ before → lengths.length ≤ before
not_longer one teams nets floor lengths last before are measured less =
    subst (λ (n : ℕ). n ≤ before) (one nets floor last lengths.length measured (wire_length_on teams nets floor lengths are)) less

-- ---- one team

-- a team that is improved is committed, and another one is where it was
pub settled_by : (is_improved : Bool) (L : Type 0) (P : L → Type 0) (Q : Type 0) → ((l : L) → IsTrue is_improved → P l) → (is_improved ≡ false → Q)
    → ((l : L) → P l) ⊎ Q
settled_by true L P Q committed kept = inl (λ l. committed l refl)
settled_by false L P Q committed kept = inr (kept refl)

-- ---- the nets of teams

-- commands keep the nets of the teams
pub nets_kept : (lists : List (List ℕ)) (nets : List (List NetPin)) (old new : FloorState) → AreNetsOfFloor lists nets old → new.components ≡ old.components
    → AreNetsOfFloor lists nets new
nets_kept lists nets old new are same = record { design = are.design; entries = same ∙ are.entries; listed = are.listed }
