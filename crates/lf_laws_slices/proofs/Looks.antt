-- Verdicts, reports and texts of a team's cells on two frames that are alike.
use Rattle.std.proofs.Common.{◌≡◌, ℕ, ◌++◌, List, [], ◌∷◌, length, map, Option, Some, None, refl, ap, ◌∙◌, filter_map, count_by}
use Rattle.std.specs.Prelude.{codes, is_none, option_and_then, slice_get}
use Rattle.std.specs.Option.{option_map}
use Rattle.std.specs.List.{AllZip, flat_map, range_with_len}
use Rattle.lf_units.specs.declared.geometry.Point.{Point}
use Rattle.lf_floorplan.specs.declared.frame.Frame.{Frame}
use Rattle.lf_floorplan.specs.declared.macros.Macro.{Macro}
use Rattle.lf_floorplan.specs.declared.parts.Header.{Header}
use Rattle.lf_floorplan.specs.declared.parts.Team.{Team}
use Rattle.lf_floorplan.specs.declared.place.Place.{Place}
use Rattle.lf_floorplan.specs.Boxes.{IsSized, macro_of}
use Rattle.lf_units.specs.declared.placed.Placed.{Placed}
use Rattle.lf_rules.specs.declared.rule.Broken.{Broken}
use Rattle.lf_rules.specs.declared.rule.Rule.{Rule}
use Rattle.lf_rules.specs.declared.report_types.Listed.{Listed}
use Rattle.lf_rules.specs.declared.report_types.Violation.{Violation}
use Rattle.lf_rules.specs.declared.report_types.Report.{Report}
use Rattle.lf_rules.specs.Legality.{candidate_of}
use Rattle.lf_rules.specs.Choice.{SpotPlace, PlacementQuery, spot_of, BestPlaceIsUnique}
use Rattle.lf_rules.specs.Legalizer.{Legalizer, VerdictIsUnique}
use Rattle.lf_rules.specs.Team.{Member, boxes_beside, query_from}
use Rattle.lf_reports.specs.declared.broken_cell.BrokenCell.{BrokenCell}
use Rattle.lf_reports.specs.Reports.{listed_member, candidate_among, broken_among, name_among, violation_of, violation_by, violation_at, violations_in, report_of}
use Rattle.lf_cells.specs.declared.cell.Cell.{Cell}
use Rattle.lf_cells.specs.Cells.{working_at}
use Rattle.lf_legalize.specs.Members.{member_of}
use Rattle.lf_team_def.specs.TeamText.{words_line, section_lines, header_lines, region_lines, team_component_words, team_group_words, group_lines, team_lines, team_text}
use Rattle.lf_team_def.specs.Clauses.{clause_words}
use Rattle.lf_floor_model.specs.Teams.{TeamRules, team_rules, listed_of, broken_at}
use Rattle.lf_floor_model.specs.Queries.{place_of_spot, best_at}
use Rattle.lf_floor_model.specs.Changes.{broken_where, broken_cells}
use Rattle.lf_floor_model.proofs.Forms.{broken_by}
use Rattle.lf_laws_slices.specs.Alike.{AreFramesAlike}
use Rattle.lf_laws_slices.proofs.Zips.{OptionZip, zip_length, zip_get, zip_map, zip_same, zip_count, filter_map_agree}
use Rattle.lf_laws_slices.proofs.Places.{verdict_same, best_same}
use Rattle.lf_laws_slices.proofs.Members.{AreMembersAlike, beside_same, query_same}
use Rattle.lf_laws_slices.proofs.Cells.{AreSizedAlike, AreAllAlike, zip_then, zip_option, members_alike, working_same}

-- equal functions give the same result for an option
then_same : {A C : Type 0} (h k : A → Option C) → ((x : A) → h x ≡ k x) → (o : Option A) → option_and_then h o ≡ option_and_then k o
then_same h k each None = refl
then_same h k each (Some x) = each x

-- ---- rules and best places

module _ (verdict_one : VerdictIsUnique) (l l' : Legalizer) (f g : Frame) (a : AreFramesAlike f g) where
  -- the first broken rule of a cell at a place among other cells
  candidate_same : (team padding : ℕ) (m n : Macro) (place : Place) (ms ns : List Member) (own : ℕ) → m ≡ n → IsSized f m → AllZip (AreMembersAlike f g) ms ns
      → l.first_broken (candidate_of f team padding m place (boxes_beside f ms own)) ≡ l'.first_broken (candidate_of g team padding n place (boxes_beside g ns own))
  candidate_same team padding m n place ms ns own same sized z =
      verdict_same verdict_one l l' (candidate_of f team padding m place (boxes_beside f ms own)) g a sized
      ∙ ap (λ (mac : Macro). l'.first_broken (candidate_of g team padding mac place (boxes_beside f ms own))) same
      ∙ ap (λ (boxes : List Placed). l'.first_broken (candidate_of g team padding n place boxes)) (beside_same f g a ms ns own z)

  module _ (number padding : ℕ) where
    abbrev t : TeamRules
    t = team_rules l f number padding

    abbrev u : TeamRules
    u = team_rules l' g number padding

    by_same : (cs ds : List Cell) (own : ℕ) (place : Place) → AreAllAlike f g cs ds → (o p : Option Cell) → OptionZip (AreSizedAlike f g) o p
        → broken_by o t cs own place ≡ broken_by p u ds own place
    by_same cs ds own place z None None there = refl
    by_same cs ds own place z None (Some d) there = absurd there
    by_same cs ds own place z (Some c) None there = absurd there
    by_same cs ds own place z (Some c) (Some d) there =
        candidate_same number padding (macro_of f c.mac) (macro_of g d.mac) place (map member_of cs) (map member_of ds) own there.alike.same_macro there.sized.sized
        (members_alike f g cs ds z)

    pub broken_same : (cs ds : List Cell) (own : ℕ) (place : Place) → AreAllAlike f g cs ds → broken_at t cs own place ≡ broken_at u ds own place
    broken_same cs ds own place z =
        by_same cs ds own place z (slice_get cs own) (slice_get ds own) (zip_get (AreSizedAlike f g) cs ds z own)

    pub where_same : (cs ds : List Cell) (own : ℕ) → AreAllAlike f g cs ds → broken_where t cs own ≡ broken_where u ds own
    where_same cs ds own z =
        then_same (λ place. broken_at t cs own place) (λ place. broken_at u ds own place) (λ place. broken_same cs ds own place z) (working_at cs own)
        ∙ ap (λ (o : Option Place). option_and_then (λ place. broken_at u ds own place) o) (working_same f g cs ds own z)

    pub broken_cells_same : (cs ds : List Cell) → AreAllAlike f g cs ds → broken_cells t cs ≡ broken_cells u ds
    broken_cells_same cs ds z =
        filter_map_agree (λ own. option_map (λ (broken : Broken). cell_at own broken) (broken_where t cs own)) (λ own. option_map (λ (broken : Broken). cell_at own broken) (broken_where u ds own))
        (λ own. ap (λ (o : Option Broken). option_map (λ (broken : Broken). cell_at own broken) o) (where_same cs ds own z)) (range_with_len 0 (length cs))
        ∙ ap (λ (n : ℕ). filter_map (λ own. option_map (λ (broken : Broken). cell_at own broken) (broken_where u ds own)) (range_with_len 0 n)) (zip_length (AreSizedAlike f g) cs ds z)
      where
        cell_at : ℕ → Broken → BrokenCell
        cell_at own broken = record { own = own; broken = broken }

    pub best_place_same : BestPlaceIsUnique → (cs ds : List Cell) (own : ℕ) (target : Point) → AreAllAlike f g cs ds → best_at t cs own target ≡ best_at u ds own target
    best_place_same choice_one cs ds own target z =
        zip_then (AreSizedAlike f g) (λ c. option_and_then (λ best. place_of_spot best) (l.best_place (query_unplaced c) target))
        (λ d. option_and_then (λ best. place_of_spot best) (l'.best_place (query_unplaced' d) target)) each (slice_get cs own) (slice_get ds own)
        (zip_get (AreSizedAlike f g) cs ds z own)
      where
        query_unplaced : Cell → PlacementQuery
        query_unplaced c = query_from f number padding (map member_of cs) own c.mac

        query_unplaced' : Cell → PlacementQuery
        query_unplaced' d = query_from g number padding (map member_of ds) own d.mac

        each : (c d : Cell) → AreSizedAlike f g c d
            → option_and_then (λ best. place_of_spot best) (l.best_place (query_unplaced c) target) ≡ option_and_then (λ best. place_of_spot best) (l'.best_place (query_unplaced' d) target)
        each c d r =
            ap (λ (o : Option SpotPlace). option_and_then (λ best. place_of_spot best) o)
            (best_same choice_one l l' (query_unplaced c) target g a r.sized.sized
            ∙ ap (λ (x : PlacementQuery). l'.best_place x target) (query_same f g a number padding (map member_of cs) (map member_of ds) own c.mac d.mac (members_alike f g cs ds z) r.alike.same_macro))

-- ---- reports

-- two cells in reports are alike
record AreListedAlike (f g : Frame) (c d : Listed (List ℕ)) : Type 0 where
  name : c.name ≡ d.name
  team : c.team ≡ d.team
  place : c.place ≡ d.place
  same_macro : macro_of f c.mac ≡ macro_of g d.mac
  sized : IsSized f (macro_of f c.mac)

listed_alike : (f g : Frame) (number : ℕ) (cs ds : List Cell) → AreAllAlike f g cs ds
    → AllZip (AreListedAlike f g) (map (listed_of number) cs) (map (listed_of number) ds)
listed_alike f g number cs ds z = zip_map (AreSizedAlike f g) (AreListedAlike f g) (listed_of number) (listed_of number) each cs ds z where
  each : (c d : Cell) → AreSizedAlike f g c d → AreListedAlike f g (listed_of number c) (listed_of number d)
  each c d r = record { name = r.alike.name; team = refl; place = r.alike.working; same_macro = r.alike.same_macro; sized = r.sized.sized }

abbrev violation_with : List ℕ → Rule → Option (List ℕ) → Violation
violation_with cell rule other = record { cell = cell; rule = rule; other = other }

abbrev report_with : ℕ → ℕ → List Violation → Report
report_with cells unplaced violations = record { cells = cells; unplaced = unplaced; violations = violations }

map_same : {A C : Type 0} (h k : A → C) → ((x : A) → h x ≡ k x) → (o : Option A) → option_map h o ≡ option_map k o
map_same h k each None = refl
map_same {C = C} h k each (Some x) = ap (λ (c : C). Some c) (each x)

module _ (verdict_one : VerdictIsUnique) (l l' : Legalizer) (f g : Frame) (a : AreFramesAlike f g) (padding : ℕ) (cs ds : List (Listed (List ℕ))) (z : AllZip (AreListedAlike f g) cs ds) where
  members : AllZip (AreMembersAlike f g) (map listed_member cs) (map listed_member ds)
  members = zip_map (AreListedAlike f g) (AreMembersAlike f g) listed_member listed_member each cs ds z where
    each : (c d : Listed (List ℕ)) → AreListedAlike f g c d → AreMembersAlike f g (listed_member c) (listed_member d)
    each c d r = record { place = ap (λ (o : Option Place). option_map spot_of o) r.place; same_macro = r.same_macro; sized = r.sized }

  among_same : (own : ℕ) (c d : Listed (List ℕ)) → AreListedAlike f g c d → broken_among l f padding cs own c ≡ broken_among l' g padding ds own d
  among_same own c d r =
      then_same (λ p. l.first_broken (candidate_among f padding cs own c p)) (λ p. l'.first_broken (candidate_among g padding ds own d p)) each c.place
      ∙ ap (λ (o : Option Place). option_and_then (λ p. l'.first_broken (candidate_among g padding ds own d p)) o) r.place
    where
      each : (p : Place) → l.first_broken (candidate_among f padding cs own c p) ≡ l'.first_broken (candidate_among g padding ds own d p)
      each p =
          ap (λ (team : ℕ). l.first_broken (candidate_of f team padding (macro_of f c.mac) p (boxes_beside f (map listed_member cs) own))) r.team
          ∙ candidate_same verdict_one l l' f g a d.team padding (macro_of f c.mac) (macro_of g d.mac) p (map listed_member cs) (map listed_member ds) own r.same_macro r.sized members

  name_same : (own : ℕ) → name_among cs own ≡ name_among ds own
  name_same own =
      zip_option (AreListedAlike f g) (λ c. c.name) (λ d. d.name) (λ c d r. r.name) (slice_get cs own) (slice_get ds own) (zip_get (AreListedAlike f g) cs ds z own)

  violation_same : (c d : Listed (List ℕ)) → AreListedAlike f g c d → (b : Broken) → violation_of cs c b ≡ violation_of ds d b
  violation_same c d r b =
      ap (λ (name : List ℕ). violation_with name b.rule (option_and_then (name_among cs) b.other)) r.name
      ∙ ap (λ (other : Option (List ℕ)). violation_with d.name b.rule other) (then_same (name_among cs) (name_among ds) name_same b.other)

  at_same : (own : ℕ) → violation_at l f padding cs own ≡ violation_at l' g padding ds own
  at_same own =
      zip_then (AreListedAlike f g) (violation_by l f padding cs own) (violation_by l' g padding ds own) each (slice_get cs own) (slice_get ds own)
      (zip_get (AreListedAlike f g) cs ds z own)
    where
      each : (c d : Listed (List ℕ)) → AreListedAlike f g c d → violation_by l f padding cs own c ≡ violation_by l' g padding ds own d
      each c d r =
          map_same (violation_of cs c) (violation_of ds d) (violation_same c d r) (broken_among l f padding cs own c)
          ∙ ap (λ (o : Option Broken). option_map (violation_of ds d) o) (among_same own c d r)

  among_report_same : report_of l f padding cs ≡ report_of l' g padding ds
  among_report_same =
      let long = zip_length (AreListedAlike f g) cs ds z in
      ap (λ (n : ℕ). report_with n (count_by (λ c. is_none c.place) cs) (violations_in l f padding cs)) long
      ∙ ap (λ (n : ℕ). report_with (length ds) n (violations_in l f padding cs))
      (zip_count (AreListedAlike f g) (λ c. is_none c.place) (λ d. is_none d.place) (λ c d r. ap (λ (o : Option Place). is_none o) r.place) cs ds z)
      ∙ ap (λ (vs : List Violation). report_with (length ds) (count_by (λ d. is_none d.place) ds) vs)
      (filter_map_agree (violation_at l f padding cs) (violation_at l' g padding ds) at_same (range_with_len 0 (length cs))
      ∙ ap (λ (n : ℕ). filter_map (violation_at l' g padding ds) (range_with_len 0 n)) long)

-- the report of a team
pub report_same : VerdictIsUnique → (l l' : Legalizer) (f g : Frame) → AreFramesAlike f g → (padding number : ℕ) (cs ds : List Cell) → AreAllAlike f g cs ds
    → report_of l f padding (map (listed_of number) cs) ≡ report_of l' g padding (map (listed_of number) ds)
report_same verdict_one l l' f g a padding number cs ds z =
    among_report_same verdict_one l l' f g a padding (map (listed_of number) cs) (map (listed_of number) ds) (listed_alike f g number cs ds z)

-- ---- texts

group_words_same : (f g : Frame) (t : Team) (cs ds : List Cell) → AreAllAlike f g cs ds → team_group_words t cs ≡ team_group_words t ds
group_words_same f g t cs ds z =
    ap (λ (names : List (List ℕ)). codes "-" ∷ t.name ∷ (names ++ codes "+" ∷ codes "REGION" ∷ t.name ∷ codes ";" ∷ []))
    (zip_same (AreSizedAlike f g) (λ c. c.name) (λ d. d.name) (λ c d r. r.alike.name) cs ds z)

group_same : (f g : Frame) (fence : Option Team) (cs ds : List Cell) → AreAllAlike f g cs ds → group_lines fence cs ≡ group_lines fence ds
group_same f g None cs ds z = refl
group_same f g (Some t) [] [] z = refl
group_same f g (Some t) [] (d ∷ ds) z = absurd z
group_same f g (Some t) (c ∷ cs) [] z = absurd z
group_same f g (Some t) (c ∷ cs) (d ∷ ds) z =
    ap (λ (words : List (List ℕ)). section_lines (codes "GROUPS") (words ∷ [])) (group_words_same f g t (c ∷ cs) (d ∷ ds) z)

component_same : (f g : Frame) (c d : Cell) → AreSizedAlike f g c d → team_component_words f c ≡ team_component_words g d
component_same f g c d r =
    ap (λ (name : List ℕ). codes "-" ∷ name ∷ (macro_of f c.mac).name ∷ (clause_words c.working ++ codes ";" ∷ [])) r.alike.name
    ∙ ap (λ (m : Macro). codes "-" ∷ d.name ∷ m.name ∷ (clause_words c.working ++ codes ";" ∷ [])) r.alike.same_macro
    ∙ ap (λ (place : Option Place). codes "-" ∷ d.name ∷ (macro_of g d.mac).name ∷ (clause_words place ++ codes ";" ∷ [])) r.alike.working

abbrev lines_with : Header → Option Team → List (List (List ℕ)) → List (List (List ℕ)) → List (List (List ℕ))
lines_with header fence components groups =
    header_lines header
    ++ (region_lines fence ++ (section_lines (codes "COMPONENTS") components ++ (groups ++ (codes "END" ∷ codes "DESIGN" ∷ []) ∷ [])))

lines_same : (f g : Frame) → AreFramesAlike f g → (number : ℕ) (cs ds : List Cell) → AreAllAlike f g cs ds
    → team_lines f (slice_get f.teams number) cs ≡ team_lines g (slice_get g.teams number) ds
lines_same f g a number cs ds z =
    ap (λ (header : Header). lines_with header (slice_get f.teams number) (map (team_component_words f) cs) (group_lines (slice_get f.teams number) cs)) a.header
    ∙ ap (λ (teams : List Team). lines_with g.header (slice_get teams number) (map (team_component_words f) cs) (group_lines (slice_get teams number) cs)) a.fences
    ∙ ap (λ (components : List (List (List ℕ))). lines_with g.header (slice_get g.teams number) components (group_lines (slice_get g.teams number) cs))
    (zip_same (AreSizedAlike f g) (team_component_words f) (team_component_words g) (component_same f g) cs ds z)
    ∙ ap (λ (groups : List (List (List ℕ))). lines_with g.header (slice_get g.teams number) (map (team_component_words g) ds) groups)
    (group_same f g (slice_get g.teams number) cs ds z)

-- the DEF text of a team
pub text_same : (f g : Frame) → AreFramesAlike f g → (number : ℕ) (cs ds : List Cell) → AreAllAlike f g cs ds → team_text f number cs ≡ team_text g number ds
unfolding team_text
text_same f g a number cs ds z = ap (λ (lines : List (List (List ℕ))). flat_map words_line lines) (lines_same f g a number cs ds z)
