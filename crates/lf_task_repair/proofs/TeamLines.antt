-- Lines that report repaired teams, one after the other.
use Rattle.std.proofs.Common.{◌≡◌, ◌≢◌, ◌∙◌, inl, inr, ⊎_elim, ℕ, ℤ, ◌+◌, ◌<◌, Bool, false, true, cond, List, [], ◌∷◌, ◌++◌, length, map, take, get_or, Option, Some, refl, sym, ap, ap₂, subst, append-nil, append_assoc, arith}
use Rattle.std.specs.Prelude.{◌≤◌, All, filter, option_and_then, slice_get}
use Rattle.std.specs.List.{flat_map}
use Rattle.std.specs.Option.{option_map, option_map_or}
use Rattle.std.proofs.lemmas.List.{map-append, take_all}
use Rattle.std.proofs.lemmas.List.Elements.{All-append, All-nil, All-cons, All-filter, All-head, All-tail, All-weaker, filter_more}
use Rattle.std.proofs.lemmas.List.Concat.{flat_map-append}
use Rattle.std.proofs.lemmas.Option.{slice_get-get_or}
use Rattle.lf_floorplan.specs.declared.frame.Frame.{Frame}
use Rattle.lf_floorplan.specs.declared.place.Place.{Place}
use Rattle.lf_rules.specs.Choice.{spot_of}
use Rattle.lf_cells.specs.declared.cell.Cell.{Cell}
use Rattle.lf_floor_model.specs.States.{FloorState, TeamState}
use Rattle.lf_floor_model.specs.Outcomes.{name_at}
use Rattle.lf_floor_model.specs.Steps.{AllCommittedIn}
use Rattle.lf_floor_model.specs.VerbLaws.{committed_places}
use Rattle.lf_floor_model.specs.Teams.{state_of, team_names, team_number}
use Rattle.lf_repair_team.specs.Stats.{AreTeamMeans, means_of}
use Rattle.lf_repair_team.specs.TeamRepairs.{HasNoPlace, HasNoPlaceOrIsListed, IsBeyond, IsIllegalIn, IsListedIn, StaysWithin, WasIllegal, place_of_cell_in, way_to}
use Rattle.lf_repair_team.proofs.Legal.{committed_through}
use Rattle.lf_repair_team.proofs.WithoutPlace.{none_through}
use Rattle.lf_repair_strategy.specs.declared.stats.DisplacementMeans.{DisplacementMeans}
use Rattle.lf_repair_strategy.specs.declared.stats.RepairStats.{RepairStats}
use Rattle.lf_density.specs.declared.density.Density.{Density}
use Rattle.lf_task_reports.specs.declared.repair_report.RepairReport.{RepairReport}
use Rattle.lf_task_reports.specs.Densities.{IsDensityOn}
use Rattle.lf_repair_bounds.specs.declared.reasons.ImpossibleMacro.{ImpossibleMacro}
use Rattle.lf_repair_bounds.specs.Gaps.{AreGaps, placed_team}
use Rattle.lf_task_files.specs.declared.measured.RepairLimits.{RepairLimits}
use Rattle.lf_task_reports.specs.declared.totals.Totals.{Totals}
use Rattle.lf_task_reports.specs.RepairReports.{AreGapsIn, IsOneMore, all_line, least_for, listed_reason, no_sums, totals_with_team, unrepaired_with}
use Rattle.lf_floor.proofs.Saving.{names_many}
use Rattle.lf_task_run.specs.Teams.{is_selected, selected_at, selected_names}
use Rattle.lf_task_repair.specs.Reports.{AddsTeamLines, IsRepairOf, IsReport, AddsTotalLine, IsTeamReport, TeamReport, line_of_team, sums_with}
use Rattle.lf_task_run.proofs.Named.{others_before}
use Rattle.lf_task_run.proofs.Running.{AreUntouched, first_requested, legal_same, moved_off_soft_same, places_in, selected_have, stats_same}

-- ---- a report stays true if the team is unchanged

left_same : (old new : FloorState) (team : List ℕ) (own : ℕ) → new.frame ≡ old.frame → state_of new team ≡ state_of old team → IsIllegalIn old team own → IsIllegalIn new team own
left_same old new team own frame same left = record {
  within = λ s there. left.within s (sym same ∙ there);
  illegal = λ legal. left.illegal (legal_same new old team own (sym frame) (sym same) legal);
}

means_same : (a b c d : FloorState) (team : List ℕ) (means : DisplacementMeans) → d.frame ≡ b.frame → state_of c team ≡ state_of a team → state_of d team ≡ state_of b team
    → AreTeamMeans team a b means → AreTeamMeans team c d means
means_same a b c d team means frame first last is s there =
    subst (λ (f : Frame). means ≡ means_of f s.cells (places_in (state_of c team)) (places_in (state_of d team))) (sym frame)
    (subst (λ (o : Option TeamState). means ≡ means_of b.frame s.cells (places_in (state_of c team)) (places_in o)) (sym last)
    (subst (λ (o : Option TeamState). means ≡ means_of b.frame s.cells (places_in o) (places_in (state_of b team))) (sym first) (is s (sym last ∙ there))))

-- a cell of a listed macro stays one if the team is unchanged
listed_same : (list : List ImpossibleMacro) (old new : FloorState) (team : List ℕ) (own : ℕ) → new.frame ≡ old.frame → state_of new team ≡ state_of old team
    → IsListedIn list old team own → IsListedIn list new team own
listed_same list old new team own frame same is = record {
  number = is.number;
  state = is.state;
  cell = is.cell;
  named = ap (λ (f : Frame). team_number f team) frame ∙ is.named;
  there = same ∙ is.there;
  cell_is = is.cell_is;
  listed = is.listed;
}

-- how far a cell may go
module _ (reach : Option ℤ) where
  no_place_same : (a b c d : FloorState) (team : List ℕ) (own : ℕ) → d.frame ≡ b.frame → state_of c team ≡ state_of a team → state_of d team ≡ state_of b team
      → HasNoPlace reach (place_of_cell_in a team own) b team own → HasNoPlace reach (place_of_cell_in c team own) d team own
  no_place_same a b c d team own frame first last none =
      subst (λ (was : Option Place). HasNoPlace reach was d team own) (sym (ap (λ (o : Option TeamState). places_in o own) first))
      (none_through reach (place_of_cell_in a team own) team b d own frame (inl last) none)

  stays_within_same : (a b c d : FloorState) (team : List ℕ) → state_of c team ≡ state_of a team → state_of d team ≡ state_of b team
      → StaysWithin reach team a b → StaysWithin reach team c d
  stays_within_same a b c d team first last stays own p there beyond =
      stays own p (sym (ap (λ (o : Option TeamState). places_in o own) last) ∙ there)
      (subst (λ (was : Option Place). IsBeyond reach (way_to was (spot_of p))) (ap (λ (o : Option TeamState). places_in o own) first) beyond)

  repair_same : (list : List ImpossibleMacro) (a b c d : FloorState) (team : List ℕ) (r : RepairStats) → c.frame ≡ a.frame → d.frame ≡ b.frame → state_of c team ≡ state_of a team
      → state_of d team ≡ state_of b team → IsRepairOf reach list team a b r → IsRepairOf reach list team c d r
  repair_same list a b c d team r frame frame' first last is = record {
    legal = λ s there own within. ⊎_elim (λ legal. inl (legal_same b d team own frame' last legal)) (λ named. inr named) (is.legal s (sym last ∙ there) own within);
    illegal = All-weaker (IsIllegalIn b team) (IsIllegalIn d team) (λ own. left_same b d team own frame' last) r.unrepaired.items is.illegal;
    were_illegal = All-weaker (WasIllegal a team) (WasIllegal c team) (λ own not legal. not (legal_same c a team own (sym frame) (sym first) legal)) r.unrepaired.items is.were_illegal;
    complete = All-weaker (HasNoPlaceOrIsListed reach list a b team) (HasNoPlaceOrIsListed reach list c d team)
        (λ own either. ⊎_elim (λ none. inl (no_place_same a b c d team own frame' first last none)) (λ listed. inr (listed_same list b d team own frame' last listed)) either)
        r.unrepaired.items is.complete;
    within = stays_within_same a b c d team first last is.within;
    unmoved = λ own listed. ap (λ (o : Option TeamState). places_in o own) last
        ∙ is.unmoved own (listed_same list c a team own (sym frame) (sym first) listed)
        ∙ sym (ap (λ (o : Option TeamState). places_in o own) first);
    rise = is.rise;
    stats = stats_same a b c d team r frame first last is.stats;
    means = means_same a b c d team r.means frame' first last is.means;
    committed = λ l. (
      λ (none : r.unrepaired.items ≡ []). committed_through l team b d frame' (inl last) ((is.committed l).0 none),
      λ (all : AllCommittedIn l d team). (is.committed l).1 (committed_through l team d b (sym frame') (inl (sym last)) all),
    );
    uncommitted = λ some. ap (λ (o : Option TeamState). option_map committed_places o) last ∙ is.uncommitted some
        ∙ sym (ap (λ (o : Option TeamState). option_map committed_places o) first);
    off_soft = moved_off_soft_same a b c d team frame' first last is.off_soft;
    settings = ap (λ (o : Option TeamState). option_map (λ (s : TeamState). (s.padding, s.slots)) o) last ∙ is.settings
        ∙ sym (ap (λ (o : Option TeamState). option_map (λ (s : TeamState). (s.padding, s.slots)) o) first);
  }

  -- the unrepaired cells are the same if the team is unchanged
  unrepaired_same : (list : List ImpossibleMacro) (old new : FloorState) (name owns gaps : List ℕ) → new.frame ≡ old.frame → state_of new name ≡ state_of old name
      → unrepaired_with list old name owns gaps ≡ unrepaired_with list new name owns gaps
  unrepaired_same list old new name owns gaps frame same =
      ap₂ (λ (f : Frame) (o : Option TeamState). record {
        names = flat_map (λ own. option_map_or (λ name. name ∷ []) (option_and_then (λ (s : TeamState). name_at s.cells own) o) []) owns;
        gaps = gaps;
        reasons = map (λ own. option_and_then (λ number. option_and_then (λ (s : TeamState). option_and_then (λ (c : Cell). listed_reason list number c.mac) (slice_get s.cells own)) o) (team_number f name)) owns;
      }) (sym frame) (sym same)

  -- the gaps are the same if the team is unchanged
  gaps_same : (a b c d : FloorState) (name owns gaps : List ℕ) → d.frame ≡ b.frame → state_of c name ≡ state_of a name → state_of d name ≡ state_of b name
      → AreGapsIn b name (place_of_cell_in a name) owns gaps → AreGapsIn d name (place_of_cell_in c name) owns gaps
  gaps_same a b c d name owns gaps frame first last are number s named there =
      subst (λ (o : Option TeamState). AreGaps (placed_team d.frame number s.padding s.cells) (places_in o) owns gaps) (sym first)
      (subst (λ (f : Frame). AreGaps (placed_team f number s.padding s.cells) (place_of_cell_in a name) owns gaps) (sym frame)
      (are number s (sym (ap (λ (f : Frame). team_number f name) frame) ∙ named) (sym last ∙ there)))

  reported_same : (bounds : List ℕ) (list : List ImpossibleMacro) (begin old new : FloorState) (t : TeamReport) → new.frame ≡ old.frame → state_of new t.name ≡ state_of old t.name
      → IsTeamReport reach bounds list begin old t → IsTeamReport reach bounds list begin new t
  reported_same bounds list begin old new t frame same is = record {
    least = is.least ∙ ap (λ (f : Frame). least_for bounds (team_number f t.name)) (sym frame);
    left = is.left ∙ unrepaired_same list old new t.name t.became.unrepaired.items t.left.gaps frame same;
    gaps = gaps_same begin old begin new t.name t.became.unrepaired.items t.left.gaps frame refl same is.gaps;
    repaired = repair_same list begin old begin new t.name t.became refl frame refl same is.repaired;
  }

  reported_still : (bounds : List ℕ) (list : List ImpossibleMacro) (begin old new : FloorState) (ts : List TeamReport) → new.frame ≡ old.frame
      → All (λ name. state_of new name ≡ state_of old name) (map (λ t. t.name) ts) → All (IsTeamReport reach bounds list begin old) ts → All (IsTeamReport reach bounds list begin new) ts
  reported_still bounds list begin old new [] frame same each = All-nil (IsTeamReport reach bounds list begin new)
  reported_still bounds list begin old new (t ∷ ts) frame same each =
      let Stays : List ℕ → Type 0 = λ name. state_of new name ≡ state_of old name in
      let names : List (List ℕ) = map (λ (u : TeamReport). u.name) ts in
      All-cons (IsTeamReport reach bounds list begin new) t ts
      (reported_same bounds list begin old new t frame (All-head Stays t.name names same) (All-head (IsTeamReport reach bounds list begin old) t ts each))
      (reported_still bounds list begin old new ts frame (All-tail Stays t.name names same) (All-tail (IsTeamReport reach bounds list begin old) t ts each))

  -- teams that are as on the first floor when their repair begins are reported from the first floor on
  reported_from : (bounds : List ℕ) (list : List ImpossibleMacro) (begin old new : FloorState) (ts : List TeamReport) → begin.frame ≡ old.frame
      → All (λ name. state_of begin name ≡ state_of old name) (map (λ t. t.name) ts) → All (IsTeamReport reach bounds list old new) ts → All (IsTeamReport reach bounds list begin new) ts
  reported_from bounds list begin old new [] frame same each = All-nil (IsTeamReport reach bounds list begin new)
  reported_from bounds list begin old new (t ∷ ts) frame same each =
      let Stays : List ℕ → Type 0 = λ name. state_of begin name ≡ state_of old name in
      let names : List (List ℕ) = map (λ (u : TeamReport). u.name) ts in
      let is : IsTeamReport reach bounds list old new t = All-head (IsTeamReport reach bounds list old new) t ts each in
      All-cons (IsTeamReport reach bounds list begin new) t ts
      (record {
        least = is.least;
        left = is.left;
        gaps = gaps_same old new begin new t.name t.became.unrepaired.items t.left.gaps refl (All-head Stays t.name names same) refl is.gaps;
        repaired = repair_same list old new begin new t.name t.became frame refl (All-head Stays t.name names same) refl is.repaired;
      })
      (reported_from bounds list begin old new ts frame (All-tail Stays t.name names same) (All-tail (IsTeamReport reach bounds list old new) t ts each))

  lines_from : (names : List (List ℕ)) (begin old new : FloorState) (a b : RepairReport) → begin.frame ≡ old.frame
      → All (λ name. state_of begin name ≡ state_of old name) names → AddsTeamLines reach names old new a b → AddsTeamLines reach names begin new a b
  lines_from names begin old new a b frame same more = record {
    reported = more.reported;
    named = more.named;
    each = reported_from a.least.items a.impossible.items begin old new more.reported frame
        (subst (λ (list : List (List ℕ)). All (λ name. state_of begin name ≡ state_of old name) list) (sym more.named) same) more.each;
    text = more.text;
    sums = more.sums;
    least = more.least;
    impossible = more.impossible;
  }

  -- ---- one line after the other

  -- no team is reported
  pub none_reported : (begin floor : FloorState) (r : RepairReport) → AddsTeamLines reach [] begin floor r r
  none_reported begin floor r = record {
    reported = [];
    named = refl;
    each = All-nil (IsTeamReport reach r.least.items r.impossible.items begin floor);
    text = sym (append-nil r.text.items);
    sums = refl;
    least = refl;
    impossible = refl;
  }

  -- one team is reported
  pub one_reported : (f : Frame) (teams : List (List ℕ)) (number : ℕ) (name : List ℕ) (begin floor : FloorState) (repaired : RepairStats) (old new : RepairReport)
      → slice_get (team_names f) number ≡ Some name → is_selected teams name ≡ true → IsOneMore floor name (place_of_cell_in begin name) repaired old new
      → IsRepairOf reach old.impossible.items name begin floor repaired → AddsTeamLines reach (selected_at f teams number) begin floor old new
  one_reported f teams number name begin floor repaired old new there requested is result = record {
    reported = t ∷ [];
    named = sym (ap (λ (o : Option (List ℕ)). filter (is_selected teams) (option_map_or (λ name. name ∷ []) o [])) there ∙ ap (λ (b : Bool). cond b (name ∷ []) []) requested);
    each = All-cons (IsTeamReport reach old.least.items old.impossible.items begin floor) t [] record { least = refl; left = refl; gaps = is.near; repaired = result }
        (All-nil (IsTeamReport reach old.least.items old.impossible.items begin floor));
    text = is.text ∙ ap (λ (line : List ℕ). old.text.items ++ line) (sym (append-nil (line_of_team t)));
    sums = is.sums;
    least = is.least;
    impossible = is.impossible;
  } where
    t : TeamReport
    t = record {
      name = name;
      left = unrepaired_with old.impossible.items floor name repaired.unrepaired.items is.gaps;
      least = least_for old.least.items (team_number floor.frame name);
      became = repaired;
    }

  -- a team that is not selected is not reported
  pub unselected_reported : (f : Frame) (teams : List (List ℕ)) (number : ℕ) (name : List ℕ) (begin floor : FloorState) (r : RepairReport)
      → slice_get (team_names f) number ≡ Some name → is_selected teams name ≡ false → AddsTeamLines reach (selected_at f teams number) begin floor r r
  unselected_reported f teams number name begin floor r there unasked =
      subst (λ (names : List (List ℕ)). AddsTeamLines reach names begin floor r r)
      (sym (ap (λ (o : Option (List ℕ)). filter (is_selected teams) (option_map_or (λ name. name ∷ []) o [])) there ∙ ap (λ (b : Bool). cond b (name ∷ []) []) unasked))
      (none_reported begin floor r)

  sums_append : (s : Totals) (a b : List TeamReport) → sums_with s (a ++ b) ≡ sums_with (sums_with s a) b
  sums_append s [] b = refl
  sums_append s (t ∷ ts) b = sums_append (totals_with_team s t.became t.least) ts b

  -- more teams are reported after the first ones
  then_reported : (names more : List (List ℕ)) (begin mid floor : FloorState) (a b c : RepairReport) → floor.frame ≡ mid.frame
      → All (λ name. state_of floor name ≡ state_of mid name) names → AddsTeamLines reach names begin mid a b → AddsTeamLines reach more begin floor b c
      → AddsTeamLines reach (names ++ more) begin floor a c
  then_reported names more begin mid floor a b c frame same first second = record {
    reported = first.reported ++ second.reported;
    named = map-append (λ (t : TeamReport). t.name) first.reported second.reported ∙ ap₂ (λ (x y : List (List ℕ)). x ++ y) first.named second.named;
    each = All-append (IsTeamReport reach a.least.items a.impossible.items begin floor) first.reported second.reported
        (reported_still a.least.items a.impossible.items begin mid floor first.reported frame
        (subst (λ (list : List (List ℕ)). All (λ name. state_of floor name ≡ state_of mid name) list) (sym first.named) same) first.each)
        (subst (λ (bounds : List ℕ). All (IsTeamReport reach bounds a.impossible.items begin floor) second.reported) (ap (λ v. v.items) first.least)
        (subst (λ (list : List ImpossibleMacro). All (IsTeamReport reach b.least.items list begin floor) second.reported) (ap (λ v. v.items) first.impossible) second.each));
    text = second.text ∙ ap (λ (text : List ℕ). text ++ flat_map line_of_team second.reported) first.text
        ∙ append_assoc a.text.items (flat_map line_of_team first.reported) (flat_map line_of_team second.reported)
        ∙ ap (λ (text : List ℕ). a.text.items ++ text) (sym (flat_map-append line_of_team first.reported second.reported));
    sums = second.sums ∙ ap (λ (s : Totals). sums_with s second.reported) first.sums ∙ sym (sums_append a.sums first.reported second.reported);
    least = second.least ∙ first.least;
    impossible = second.impossible ∙ first.impossible;
  }

  -- ---- team after team

  pub next_reported : (f : Frame) (teams : List (List ℕ)) (number : ℕ) (begin mid floor : FloorState) (a b c : RepairReport) → number < length f.teams + 1
      → begin.frame ≡ f → mid.frame ≡ f → floor.frame ≡ f → AreUntouched begin mid number
      → ((name : List ℕ) → team_number mid.frame name ≢ Some number → state_of floor name ≡ state_of mid name)
      → AddsTeamLines reach (first_requested f teams number) begin mid a b → AddsTeamLines reach (selected_at mid.frame teams number) mid floor b c
      → AddsTeamLines reach (first_requested f teams (number + 1)) begin floor a c
  next_reported f teams number begin mid floor a b c less begin_is mid_is floor_is untouched others first second =
      subst (λ (list : List (List ℕ)). AddsTeamLines reach list begin floor a c) (sym one_more)
      (then_reported (first_requested f teams number) (selected_at mid.frame teams number) begin mid floor a b c (floor_is ∙ sym mid_is)
      (All-filter (is_selected teams) (λ name. state_of floor name ≡ state_of mid name) (take number (team_names f))
      (All-weaker (λ name. team_number f name ≢ Some number) (λ name. state_of floor name ≡ state_of mid name)
      (λ name other. others name (subst (λ (g : Frame). team_number g name ≢ Some number) (sym mid_is) other)) (take number (team_names f))
      (others_before f number (omega (arith, within))))) first from_begin) where
        from_begin : AddsTeamLines reach (selected_at mid.frame teams number) begin floor b c
        from_begin = lines_from (selected_at mid.frame teams number) begin mid floor b c (begin_is ∙ sym mid_is)
            (selected_have (λ name. state_of begin name ≡ state_of mid name) mid.frame teams number
            (λ name named. sym (untouched name number (ap (λ (g : Frame). team_number g name) (begin_is ∙ sym mid_is) ∙ named) (omega arith)))) second

        within : number < length (team_names f)
        within = subst (λ (n : ℕ). number < n) (sym (names_many f)) less

        here : selected_at mid.frame teams number ≡ filter (is_selected teams) (get_or (team_names f) number [] ∷ [])
        here = ap (λ (g : Frame). selected_at g teams number) mid_is
            ∙ ap (λ (o : Option (List ℕ)). filter (is_selected teams) (option_map_or (λ name. name ∷ []) o [])) (slice_get-get_or (team_names f) number [] within)

        one_more : first_requested f teams (number + 1) ≡ first_requested f teams number ++ selected_at mid.frame teams number
        one_more = filter_more (is_selected teams) (team_names f) number [] within ∙ ap (λ (list : List (List ℕ)). first_requested f teams number ++ list) (sym here)

  -- all teams are reported
  pub every_reported : (f : Frame) (teams : List (List ℕ)) (count : ℕ) (begin floor : FloorState) (a b : RepairReport) → length f.teams + 1 ≤ count
      → AddsTeamLines reach (first_requested f teams count) begin floor a b → AddsTeamLines reach (selected_names f teams) begin floor a b
  every_reported f teams count begin floor a b all =
      subst (λ (list : List (List ℕ)). AddsTeamLines reach (filter (is_selected teams) list) begin floor a b)
      (take_all count (team_names f) (subst (λ (n : ℕ). n ≤ count) (sym (names_many f)) all))

  -- the line of all teams is the last one
  pub all_reported : (f : Frame) (teams : List (List ℕ)) (limits : RepairLimits) (begin floor : FloorState) (before : Density) (a b c : RepairReport)
      → floor.frame ≡ f → a.text.items ≡ [] → a.sums ≡ no_sums → a.least.items ≡ limits.least.items → a.impossible.items ≡ limits.impossible.items
      → IsDensityOn begin before → AddsTeamLines reach (selected_names f teams) begin floor a b → AddsTotalLine before floor b c
      → IsReport reach teams limits begin floor c.text.items
  all_reported f teams limits begin floor before a b c frame empty zero least impossible measured more last = record {
    reported = more.reported;
    named = more.named ∙ ap (λ (g : Frame). selected_names g teams) (sym frame);
    each = subst (λ (bounds : List ℕ). All (IsTeamReport reach bounds limits.impossible.items begin floor) more.reported) least
        (subst (λ (list : List ImpossibleMacro). All (IsTeamReport reach a.least.items list begin floor) more.reported) impossible more.each);
    density = last.density;
    density_before = subst (λ (d : Density). IsDensityOn begin d) (sym last.density_before) measured;
    density_after = last.density_after;
    legal = last.legal;
    right = last.right;
    is = last.text ∙ ap (λ (text : List ℕ). text ++ all_line last.density b.sums last.legal) (more.text ∙ ap (λ (text : List ℕ). text ++ flat_map line_of_team more.reported) empty)
        ∙ ap (λ (s : Totals). flat_map line_of_team more.reported ++ all_line last.density s last.legal)
        (more.sums ∙ ap (λ (s : Totals). sums_with s more.reported) zero);
  }
