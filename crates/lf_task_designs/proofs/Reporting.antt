-- Reporting a design's cells one by one gives the report of their list.
use Rattle.std.proofs.Common.{◌≡◌, ◌∙◌, ℕ, ◌+◌, List, [], ◌∷◌, ◌++◌, length, map, Option, Some, None, refl, sym, ap, append_assoc}
use Rattle.std.specs.Prelude.{All, filter_map, option_and_then, option_map, slice_get}
use Rattle.std.specs.List.{range_with_len, cons_option}
use Rattle.std.proofs.lemmas.List.Elements.{All-map}
use Rattle.std.proofs.lemmas.Option.{slice_get-map}
use Rattle.lf_floorplan.specs.declared.frame.Frame.{Frame}
use Rattle.lf_floorplan.specs.declared.loaded.LoadedCell.{LoadedCell}
use Rattle.lf_floorplan.specs.Bounds.{IsDesignName}
use Rattle.lf_floorplan.specs.Design.{IsCell}
use Rattle.lf_rules.specs.declared.rule.Broken.{Broken}
use Rattle.lf_rules.specs.declared.report_types.Listed.{Listed}
use Rattle.lf_rules.specs.declared.report_types.Violation.{Violation}
use Rattle.lf_rules.specs.Legalizer.{Legalizer}
use Rattle.lf_reports.specs.Reports.{AreVerdicts, broken_among, listed_at, name_among, verdict_at, violation_at, violation_by, violation_of, violations_in}
use Rattle.lf_reports.proofs.ReportLemmas.{reported_more}
use Rattle.lf_proto.specs.ReportText.{violation_in, violation_named}
use Rattle.lf_task_designs.specs.Checks.{def_places}
use Rattle.lf_task_designs.specs.Reporting.{listed_as_loaded, cell_names_of}

found_alike : {X Y : Type 0} (g h : X → Option Y) → ((x : X) → h x ≡ g x) → (xs : List X) → filter_map h xs ≡ filter_map g xs
found_alike g h alike [] = refl
found_alike {Y = Y} g h alike (x ∷ xs) =
    ap (λ (o : Option Y). cons_option o (filter_map h xs)) (alike x) ∙ ap (cons_option (g x)) (found_alike g h alike xs)

-- The cells that the report lists are those of the design.
pub places_as_loaded : (cells : List LoadedCell) → listed_at cells (def_places cells) ≡ map listed_as_loaded cells
places_as_loaded [] = refl
places_as_loaded (c ∷ cells) = ap (λ (listed : List (Listed (List ℕ))). listed_as_loaded c ∷ listed) (places_as_loaded cells)

-- ---- names

-- The names of a design's cells are names of a text.
pub names_printed : (f : Frame) (cells : List LoadedCell) → All (IsCell f) cells → All IsDesignName (cell_names_of cells)
names_printed f cells known = All-map IsDesignName (λ (c : LoadedCell). c.name) cells (λ i c within. (known i c within).name_printed)

names_listed : (cells : List LoadedCell) → cell_names_of cells ≡ map (λ c. c.name) (map listed_as_loaded cells)
names_listed [] = refl
names_listed (c ∷ cells) = ap (λ (names : List (List ℕ)). c.name ∷ names) (names_listed cells)

-- ---- violations

abbrev listed_names : List (Listed (List ℕ)) → List (List ℕ)
listed_names listed = map (λ c. c.name) listed

other_listed : (listed : List (Listed (List ℕ))) (other : Option ℕ) →
    option_and_then (slice_get (listed_names listed)) other ≡ option_and_then (name_among listed) other
other_listed listed None = refl
other_listed listed (Some own) = slice_get-map (λ (c : Listed (List ℕ)). c.name) listed own

-- The names and the verdict of a listed cell determine its violation.
violation_listed : (l : Legalizer) (f : Frame) (padding : ℕ) (listed : List (Listed (List ℕ))) (own : ℕ) (verdict : Option Broken) →
    ((c : Listed (List ℕ)) → slice_get listed own ≡ Some c → verdict ≡ broken_among l f padding listed own c) →
    option_and_then (violation_in (listed_names listed) own) verdict ≡ violation_at l f padding listed own
violation_listed l f padding listed own verdict is =
    ap (λ (o : Option (List ℕ)). reported o verdict) (slice_get-map (λ (c : Listed (List ℕ)). c.name) listed own) ∙ go (slice_get listed own) refl
  where
    reported : Option (List ℕ) → Option Broken → Option Violation
    reported o v = option_and_then (λ (b : Broken). option_map (violation_named (listed_names listed) b) o) v

    none : (v : Option Broken) → reported None v ≡ None
    none None = refl
    none (Some b) = refl

    some : (c : Listed (List ℕ)) (v : Option Broken) → reported (Some c.name) v ≡ option_map (violation_of listed c) v
    some c None = refl
    some c (Some b) = ap (λ (other : Option (List ℕ)). Some (record { cell = c.name; rule = b.rule; other = other })) (other_listed listed b.other)

    go : (o : Option (Listed (List ℕ))) → slice_get listed own ≡ o →
        reported (option_map (λ (c : Listed (List ℕ)). c.name) o) verdict ≡ option_and_then (violation_by l f padding listed own) o
    go None there = none verdict
    go (Some c) there = some c verdict ∙ ap (option_map (violation_of listed c)) (is c there)

-- The violation of the cell of this number, by its verdict.
abbrev pub reported_by : List LoadedCell → List (Option Broken) → ℕ → Option Violation
reported_by cells verdicts own = option_and_then (violation_in (cell_names_of cells) own) (verdict_at verdicts own)

-- It is the violation in the list.
reported_listed : (l : Legalizer) (f : Frame) (cells : List LoadedCell) (verdicts : List (Option Broken)) → AreVerdicts l f 0 (map listed_as_loaded cells) verdicts → (own : ℕ) →
    reported_by cells verdicts own ≡ violation_at l f 0 (map listed_as_loaded cells) own
reported_listed l f cells verdicts are own =
    ap (λ (names : List (List ℕ)). option_and_then (violation_in names own) (verdict_at verdicts own)) (names_listed cells)
    ∙ violation_listed l f 0 (map listed_as_loaded cells) own (verdict_at verdicts own) (are.each own)

-- The same for all cells.
pub all_reported : (l : Legalizer) (f : Frame) (cells : List LoadedCell) (verdicts : List (Option Broken)) → AreVerdicts l f 0 (map listed_as_loaded cells) verdicts →
    filter_map (reported_by cells verdicts) (range_with_len 0 (length verdicts)) ≡ violations_in l f 0 (map listed_as_loaded cells)
all_reported l f cells verdicts are =
    found_alike (violation_at l f 0 (map listed_as_loaded cells)) (reported_by cells verdicts) (reported_listed l f cells verdicts are) (range_with_len 0 (length verdicts))
    ∙ ap (λ (n : ℕ). filter_map (violation_at l f 0 (map listed_as_loaded cells)) (range_with_len 0 n)) are.count

-- The violation of one more cell follows those of the earlier cells.
pub one_more_violation : {Y : Type 0} (g : ℕ → Option Y) (k : ℕ) (rest : List Y) →
    filter_map g (range_with_len 0 k) ++ cons_option (g k) rest ≡ filter_map g (range_with_len 0 (k + 1)) ++ rest
one_more_violation {Y = Y} g k rest =
    let before = filter_map g (range_with_len 0 k) in
    ap (λ (ys : List Y). before ++ ys) (onto (g k))
    ∙ sym (append_assoc before (cons_option (g k) []) rest)
    ∙ ap (λ (ys : List Y). ys ++ rest) (reported_more g k before (before ++ cons_option (g k) []) refl refl)
  where
    onto : (o : Option Y) → cons_option o rest ≡ cons_option o [] ++ rest
    onto None = refl
    onto (Some y) = refl
