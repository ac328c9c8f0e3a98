-- The violations of a team's cells are those of the report of their list.
use Rattle.std.proofs.Common.{◌≡◌, ◌∙◌, ℕ, ◌+◌, List, [], ◌∷◌, ◌++◌, length, map, Option, Some, None, cond, refl, sym, ap, append_assoc}
use Rattle.std.specs.Prelude.{All, count_by, filter_map, is_none, slice_get, option_map, option_and_then}
use Rattle.std.specs.List.{range_with_len, cons_option}
use Rattle.std.proofs.Math.ListN.{length-map}
use Rattle.std.proofs.lemmas.List.Elements.{All-map}
use Rattle.std.proofs.lemmas.List.Sums.{sum_by-cons}
use Rattle.std.proofs.lemmas.Option.{slice_get-map}
use Rattle.lf_floorplan.specs.declared.frame.Frame.{Frame}
use Rattle.lf_floorplan.specs.declared.place.Place.{Place}
use Rattle.lf_floorplan.specs.Bounds.{IsDesignName}
use Rattle.lf_floorplan.specs.Boxes.{macro_of}
use Rattle.lf_rules.specs.declared.rule.Broken.{Broken}
use Rattle.lf_rules.specs.declared.report_types.Listed.{Listed}
use Rattle.lf_rules.specs.declared.report_types.Violation.{Violation}
use Rattle.lf_rules.specs.Legality.{candidate_of}
use Rattle.lf_rules.specs.Legalizer.{Legalizer}
use Rattle.lf_rules.specs.Team.{Member, boxes_beside}
use Rattle.lf_reports.specs.Reports.{broken_among, listed_member, name_among, violation_at, violation_by, violation_of, violations_in}
use Rattle.lf_reports.proofs.ReportLemmas.{reported_more}
use Rattle.lf_cells.specs.declared.cell.Cell.{Cell}
use Rattle.lf_legalize.specs.Members.{member_of}
use Rattle.lf_floor_model.specs.Teams.{TeamRules, listed_of}
use Rattle.lf_floor_model.specs.Changes.{broken_where}
use Rattle.lf_floor_model.proofs.Forms.{broken_by}
use Rattle.lf_floor_model.proofs.LegalPlaces.{some_one}
use Rattle.lf_proto.specs.ReportText.{violation_in, violation_named}
use Rattle.lf_floor_verbs.specs.Reporting.{names_of, violation_where}

found_alike : {X Y : Type 0} (g h : X → Option Y) → ((x : X) → h x ≡ g x) → (xs : List X) → filter_map h xs ≡ filter_map g xs
found_alike g h alike [] = refl
found_alike {Y = Y} g h alike (x ∷ xs) =
    ap (λ (o : Option Y). cons_option o (filter_map h xs)) (alike x) ∙ ap (cons_option (g x)) (found_alike g h alike xs)

-- ---- the cells of a team

-- the cells that the report lists are the members of the team
members_listed : (number : ℕ) (cells : List Cell) → map listed_member (map (listed_of number) cells) ≡ map member_of cells
members_listed number [] = refl
members_listed number (c ∷ cells) = ap (λ (members : List Member). member_of c ∷ members) (members_listed number cells)

-- the cell at a position breaks the same rule in both
broken_listed : (t : TeamRules) (cells : List Cell) (own : ℕ) (c : Cell) →
    broken_among t.legalizer t.frame t.padding (map (listed_of t.number) cells) own (listed_of t.number c)
    ≡ option_and_then (λ place. broken_by (Some c) t cells own place) c.working
broken_listed t cells own c =
    let beside : List Member → Option Broken = λ members.
    option_and_then (λ (p : Place). t.legalizer.first_broken (candidate_of t.frame t.number t.padding (macro_of t.frame c.mac) p (boxes_beside t.frame members own)))
    c.working in
    ap beside (members_listed t.number cells)

-- ---- violations

abbrev listed_names : List (Listed (List ℕ)) → List (List ℕ)
listed_names listed = map (λ c. c.name) listed

other_listed : (listed : List (Listed (List ℕ))) (other : Option ℕ) →
    option_and_then (slice_get (listed_names listed)) other ≡ option_and_then (name_among listed) other
other_listed listed None = refl
other_listed listed (Some own) = slice_get-map (λ (c : Listed (List ℕ)). c.name) listed own

-- the names and the verdict of a listed cell give its violation
pub violation_listed : (l : Legalizer) (f : Frame) (padding : ℕ) (listed : List (Listed (List ℕ))) (own : ℕ) (verdict : Option Broken) →
    ((c : Listed (List ℕ)) → slice_get listed own ≡ Some c → verdict ≡ broken_among l f padding listed own c) →
    option_and_then (violation_in (listed_names listed) own) verdict ≡ violation_at l f padding listed own
violation_listed l f padding listed own verdict is =
    ap (λ (o : Option (List ℕ)). reported o verdict) (slice_get-map (λ (c : Listed (List ℕ)). c.name) listed own) ∙ go (slice_get listed own) refl
  where
    reported : Option (List ℕ) → Option Broken → Option Violation
    reported o v = option_and_then (λ (b : Broken). option_map (violation_named (listed_names listed) b) o) v

    none : (v : Option Broken) → reported None v ≡ None
    none None = refl
    none (Some b) = refl

    some : (c : Listed (List ℕ)) (v : Option Broken) → reported (Some c.name) v ≡ option_map (violation_of listed c) v
    some c None = refl
    some c (Some b) = ap (λ (other : Option (List ℕ)). Some (record { cell = c.name; rule = b.rule; other = other })) (other_listed listed b.other)

    go : (o : Option (Listed (List ℕ))) → slice_get listed own ≡ o →
        reported (option_map (λ (c : Listed (List ℕ)). c.name) o) verdict ≡ option_and_then (violation_by l f padding listed own) o
    go None there = none verdict
    go (Some c) there = some c verdict ∙ ap (option_map (violation_of listed c)) (is c there)

names_listed : (number : ℕ) (cells : List Cell) → names_of cells ≡ listed_names (map (listed_of number) cells)
names_listed number [] = refl
names_listed number (c ∷ cells) = ap (λ (names : List (List ℕ)). c.name ∷ names) (names_listed number cells)

-- the violation of a cell is that of the list
where_listed : (t : TeamRules) (cells : List Cell) (own : ℕ) →
    violation_where t cells own ≡ violation_at t.legalizer t.frame t.padding (map (listed_of t.number) cells) own
where_listed t cells own =
    ap (λ (names : List (List ℕ)). option_and_then (violation_in names own) (broken_where t cells own)) (names_listed t.number cells)
    ∙ violation_listed t.legalizer t.frame t.padding (map (listed_of t.number) cells) own (broken_where t cells own)
    (λ c there. go (slice_get cells own) c (sym (slice_get-map (listed_of t.number) cells own) ∙ there))
  where
    go : (o : Option Cell) (c : Listed (List ℕ)) → option_map (listed_of t.number) o ≡ Some c →
        option_and_then (λ (place : Place). broken_by o t cells own place) (option_and_then (λ (c : Cell). c.working) o)
        ≡ broken_among t.legalizer t.frame t.padding (map (listed_of t.number) cells) own c
    go None c e = absurd cc
    go (Some k) c e =
        sym (broken_listed t cells own k)
        ∙ ap (broken_among t.legalizer t.frame t.padding (map (listed_of t.number) cells) own) (some_one e)

-- the violations of all cells are those of the list
pub violations_listed : (t : TeamRules) (cells : List Cell) →
    filter_map (violation_where t cells) (range_with_len 0 (length cells)) ≡ violations_in t.legalizer t.frame t.padding (map (listed_of t.number) cells)
violations_listed t cells =
    let listed = map (listed_of t.number) cells in
    found_alike (violation_at t.legalizer t.frame t.padding listed) (violation_where t cells) (where_listed t cells) (range_with_len 0 (length cells))
    ∙ ap (λ (n : ℕ). filter_map (violation_at t.legalizer t.frame t.padding listed) (range_with_len 0 n)) (sym (length-map cells (listed_of t.number)))

-- ---- the whole report

-- the same number of cells is unplaced
pub unplaced_listed : (number : ℕ) (cells : List Cell) → count_by (λ c. is_none c.working) cells ≡ count_by (λ c. is_none c.place) (map (listed_of number) cells)
unplaced_listed number [] = refl
unplaced_listed number (c ∷ cells) =
    sum_by-cons (λ (x : Cell). cond (is_none x.working) 1 0) c cells
    ∙ ap (λ (n : ℕ). cond (is_none c.working) 1 0 + n) (unplaced_listed number cells)
    ∙ sym (sum_by-cons (λ (x : Listed (List ℕ)). cond (is_none x.place) 1 0) (listed_of number c) (map (listed_of number) cells))

-- the names of cells; a text can have each of them
pub names_printed : (cells : List Cell) → All (λ c. IsDesignName c.name) cells → All IsDesignName (names_of cells)
names_printed cells printed = All-map IsDesignName (λ (c : Cell). c.name) cells printed

-- ---- the text

-- the violation of one more cell comes after those of the earlier cells
pub one_more_violation : {Y : Type 0} (g : ℕ → Option Y) (k : ℕ) (rest : List Y) →
    filter_map g (range_with_len 0 k) ++ cons_option (g k) rest ≡ filter_map g (range_with_len 0 (k + 1)) ++ rest
one_more_violation {Y = Y} g k rest =
    let before = filter_map g (range_with_len 0 k) in
    ap (λ (ys : List Y). before ++ ys) (onto (g k))
    ∙ sym (append_assoc before (cons_option (g k) []) rest)
    ∙ ap (λ (ys : List Y). ys ++ rest) (reported_more g k before (before ++ cons_option (g k) []) refl refl)
  where
    onto : (o : Option Y) → cons_option o rest ≡ cons_option o [] ++ rest
    onto None = refl
    onto (Some y) = refl
