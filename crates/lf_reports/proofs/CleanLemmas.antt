-- A report is clean if and only if its cells make a fully legal design, and its names are those of
-- cells.
use Rattle.std.proofs.Common.{◌≡◌, ◌⊎◌, ℕ, zero, suc, ◌+◌, ◌<◌, List, [], ◌∷◌, length, map, Option, Some, None, inl, inr, refl, sym, ◌∙◌, ap, subst, arith, slice_get, get_or}
use Rattle.std.specs.Prelude.{All, AllPairs, IsSome, is_none, count_by, filter, filter_map, option_map, option_and_then, ◌↔◌}
use Rattle.std.specs.List.{range_with_len, cons_option}
use Rattle.std.specs.Option.{ForSome}
use Rattle.std.specs.Borrow.{Bor}
use Rattle.std.proofs.lemmas.Option.{slice_get_within, get_or_from_slice_get, slice_get-map}
use Rattle.std.proofs.lemmas.List.Elements.{All-nil, All-cons, All-head, All-tail}
use Rattle.std.proofs.lemmas.List.Sums.{length-filter}
use Rattle.std.proofs.lemmas.List.Kept.{AllPairs-cons}
use Rattle.lf_units.specs.declared.geometry.Rect.{Rect}
use Rattle.lf_units.specs.Area.{SharesPoint}
use Rattle.lf_floorplan.specs.declared.frame.Frame.{Frame}
use Rattle.lf_floorplan.specs.declared.loaded.LoadedCell.{LoadedCell}
use Rattle.lf_floorplan.specs.declared.place.Place.{Place}
use Rattle.lf_floorplan.specs.Bounds.{IsDesignName}
use Rattle.lf_floorplan.specs.Design.{IsCell, CellIsSized}
use Rattle.lf_rules.specs.declared.rule.Broken.{Broken}
use Rattle.lf_rules.specs.declared.report_types.Listed.{Listed}
use Rattle.lf_rules.specs.declared.report_types.Violation.{Violation}
use Rattle.lf_rules.specs.declared.report_types.Report.{Report}
use Rattle.lf_rules.specs.Legality.{Candidate, IsTeamLegal}
use Rattle.lf_rules.specs.Legalizer.{Legalizer, IsVerdict}
use Rattle.lf_rules.specs.Choice.{SpotPlace, spot_of, PlacementQuery, IsLegalAt, candidate_at}
use Rattle.lf_rules.specs.Team.{Member, box_in, query_from}
use Rattle.lf_rules.specs.FullyLegal.{DesignCell, candidate_alone, design_cells_at, KeepsRules, DoNotOverlap, IsFullyLegal}
use Rattle.lf_rules.specs.Reports.{HasPrintableNames, IsClean}
use Rattle.lf_reports.specs.Reports.{with_byte_name, listed_member, design_cell_of, name_among, listed_at, candidate_among, broken_among, violation_of, violation_by, violation_at, violations_in, report_of, IsListed}
use Rattle.lf_rules.proofs.BesideLemmas.{beside_hold}
use Rattle.lf_rules.proofs.LegalParts.{frame_beside, legal_by_parts}
use Rattle.lf_rules.proofs.TidyLemmas.{turn, Clear, clear_of_legal}
use Rattle.lf_rules.proofs.WiderLemmas.{shares_padded, wider_none}
use Rattle.lf_rules.proofs.DesignLemmas.{keeps}

abbrev Cells : Type 0
Cells = List (Listed (List ℕ))

-- ---- lists

-- What holds for each element's image holds for all images.
each_hold : {X Y : Type 0} (h : X → Y) (P : Y → Type 0) (xs : List X) → ((i : ℕ) (x : X) → slice_get xs i ≡ Some x → P (h x)) → All P (map h xs)
each_hold h P [] all = All-nil P
each_hold h P (x ∷ xs) all = All-cons P (h x) (map h xs) (all 0 x refl) (each_hold h P xs (λ i y there. all (suc i) y there))

pairs_hold : {X Y : Type 0} (h : X → Y) (R : Y → Y → Type 0) (xs : List X) →
    ((i j : ℕ) (x y : X) → i < j → slice_get xs i ≡ Some x → slice_get xs j ≡ Some y → R (h x) (h y)) → AllPairs R (map h xs)
pairs_hold h R [] all = λ i j d less within. absurd (omega arith)
pairs_hold h R (x ∷ xs) all =
    AllPairs-cons R (h x) (map h xs) (each_hold h (R (h x)) xs (λ i y there. all 0 (suc i) x y (omega arith) refl there))
    (pairs_hold h R xs (λ i j a b less here there. all (suc i) (suc j) a b (omega arith) here there))

image_at : {X Y : Type 0} (h : X → Y) (xs : List X) (i : ℕ) (x : X) → slice_get xs i ≡ Some x → slice_get (map h xs) i ≡ Some (h x)
image_at h xs i x there = slice_get-map h xs i ∙ ap (option_map h) there

each_of : {X Y : Type 0} (h : X → Y) (P : Y → Type 0) (xs : List X) → All P (map h xs) → (i : ℕ) (x : X) → slice_get xs i ≡ Some x → P (h x)
each_of h P xs all i x there =
    let at : slice_get (map h xs) i ≡ Some (h x) = image_at h xs i x there in
    subst P (get_or_from_slice_get (map h xs) i (h x) (h x) at) (all i (h x) (slice_get_within (map h xs) i (h x) at))

pairs_of : {X Y : Type 0} (h : X → Y) (R : Y → Y → Type 0) (xs : List X) → AllPairs R (map h xs) →
    (i j : ℕ) (x y : X) → i < j → slice_get xs i ≡ Some x → slice_get xs j ≡ Some y → R (h x) (h y)
pairs_of h R xs all i j x y less here there =
    let at : slice_get (map h xs) i ≡ Some (h x) = image_at h xs i x here in
    let to : slice_get (map h xs) j ≡ Some (h y) = image_at h xs j y there in
    let pair = all i j (h x) less (slice_get_within (map h xs) j (h y) to) in
    subst (λ b. R (h x) b) (get_or_from_slice_get (map h xs) j (h y) (h x) to)
    (subst (λ a. R a (get_or (map h xs) j (h x))) (get_or_from_slice_get (map h xs) i (h x) (h x) at) pair)

-- An element of the images is the image of an element.
after_image : {X Y : Type 0} (h : X → Y) (xs : List X) (i : ℕ) (y : Y) → slice_get (map h xs) i ≡ Some y → (x : X) × ((slice_get xs i ≡ Some x) × (h x ≡ y))
after_image h [] i y there = absurd cc
after_image h (x ∷ xs) zero y there = (x, (refl, cc))
after_image h (x ∷ xs) (suc i) y there = after_image h xs i y there

-- ---- the result is empty if no number has a value

none_at : {Y : Type 0} (g : ℕ → Option Y) (a n k : ℕ) → filter_map g (range_with_len a n) ≡ [] → k < n → g (a + k) ≡ None
none_at {Y = Y} g a zero k e less = absurd (omega arith)
none_at {Y = Y} g a (suc n) k e less = first (g a) refl e (λ j rest below. none_at g (a + 1) n j rest below) k less
  where
    at : ((j : ℕ) → filter_map g (range_with_len (a + 1) n) ≡ [] → j < n → g (a + 1 + j) ≡ None) → filter_map g (range_with_len (a + 1) n) ≡ [] → g a ≡ None →
        (k : ℕ) → k < suc n → g (a + k) ≡ None
    at later rest none zero less = subst (λ (m : ℕ). g m ≡ None) (omega arith) none
    at later rest none (suc j) less = subst (λ (m : ℕ). g m ≡ None) (omega arith) (later j rest (omega arith))

    first : (o : Option Y) → g a ≡ o → cons_option o (filter_map g (range_with_len (a + 1) n)) ≡ [] →
        ((j : ℕ) → filter_map g (range_with_len (a + 1) n) ≡ [] → j < n → g (a + 1 + j) ≡ None) → (k : ℕ) → k < suc n → g (a + k) ≡ None
    first None is rest later k less = at later rest is k less
    first (Some y) is rest later k less = absurd cc

all_none : {Y : Type 0} (g : ℕ → Option Y) (a n : ℕ) → ((k : ℕ) → k < n → g (a + k) ≡ None) → filter_map g (range_with_len a n) ≡ []
all_none g a zero none = refl
all_none g a (suc n) none =
    let here : g a ≡ None = subst (λ (m : ℕ). g m ≡ None) (omega arith) (none 0 (omega arith)) in
    ap (λ o. cons_option o (filter_map g (range_with_len (a + 1) n))) here
    ∙ all_none g (a + 1) n (λ k less. subst (λ (m : ℕ). g m ≡ None) (omega arith) (none (suc k) (omega arith)))

-- ---- one cell

-- The cell at this position among the other listed cells.
abbrev unplaced_among : Frame → ℕ → Cells → ℕ → Listed (List ℕ) → PlacementQuery
unplaced_among f padding cells own c = query_from f c.team padding (map listed_member cells) own c.mac

-- The cell is placed and legal.
abbrev IsFine : Frame → ℕ → Cells → ℕ → Listed (List ℕ) → Type 0
IsFine f padding cells own c = (p : SpotPlace) → option_map spot_of c.place ≡ Some p → IsLegalAt (unplaced_among f padding cells own c) p

none_of_map : {X Y : Type 0} (h : X → Y) (o : Option X) → option_map h o ≡ None → o ≡ None
none_of_map h None e = refl
none_of_map h (Some x) e = absurd cc

legal_by : (t : Candidate) (v : Option Broken) → IsVerdict t v → v ≡ None → IsTeamLegal t
legal_by t None verdict e = verdict
legal_by t (Some b) verdict e = absurd cc

none_by : (t : Candidate) (v : Option Broken) → IsVerdict t v → IsTeamLegal t → v ≡ None
none_by t None verdict legal = refl
none_by t (Some b) verdict legal = absurd (verdict.broken (legal b.rule))

fine_at : (l : Legalizer) (f : Frame) (padding : ℕ) (cells : Cells) (own : ℕ) (c : Listed (List ℕ)) → IsListed f c → (place : Option Place) →
    option_and_then (λ p. l.first_broken (candidate_among f padding cells own c p)) place ≡ None →
    (p : SpotPlace) → option_map spot_of place ≡ Some p → IsLegalAt (unplaced_among f padding cells own c) p
fine_at l f padding cells own c is None none p at = absurd cc
fine_at l f padding cells own c is (Some place) none p at =
    let t = candidate_among f padding cells own c place in
    let same : spot_of place ≡ p = cc in
    subst (λ (s : SpotPlace). IsLegalAt (unplaced_among f padding cells own c) s) same (legal_by t (l.first_broken t) (l.finds_first_broken t is.sized) none)

unbroken_at : (l : Legalizer) (f : Frame) (padding : ℕ) (cells : Cells) (own : ℕ) (c : Listed (List ℕ)) → IsListed f c → (place : Option Place) →
    ((p : SpotPlace) → option_map spot_of place ≡ Some p → IsLegalAt (unplaced_among f padding cells own c) p) →
    option_and_then (λ p. l.first_broken (candidate_among f padding cells own c p)) place ≡ None
unbroken_at l f padding cells own c is None fine = refl
unbroken_at l f padding cells own c is (Some place) fine =
    let t = candidate_among f padding cells own c place in
    none_by t (l.first_broken t) (l.finds_first_broken t is.sized) (fine (spot_of place) refl)

-- ---- all cells

listed_is : (f : Frame) (cells : Cells) → All (IsListed f) cells → (own : ℕ) (c : Listed (List ℕ)) → slice_get cells own ≡ Some c → IsListed f c
listed_is f cells all own c there =
    subst (IsListed f) (get_or_from_slice_get cells own c c there) (all own c (slice_get_within cells own c there))

-- If there is no violation, each cell is fine.
all_fine : (l : Legalizer) (f : Frame) (padding : ℕ) (cells : Cells) → All (IsListed f) cells → violations_in l f padding cells ≡ [] →
    (own : ℕ) (c : Listed (List ℕ)) → slice_get cells own ≡ Some c → IsFine f padding cells own c
all_fine l f padding cells all none own c there =
    let at : violation_at l f padding cells own ≡ None = subst (λ (k : ℕ). violation_at l f padding cells k ≡ None) (omega arith) (none_at (violation_at l f padding cells) 0 (length cells) own none (slice_get_within cells own c there)) in
    let by : violation_by l f padding cells own c ≡ None = ap (option_and_then (violation_by l f padding cells own)) (sym there) ∙ at in
    fine_at l f padding cells own c (listed_is f cells all own c there) c.place (none_of_map (violation_of cells c) (broken_among l f padding cells own c) by)

-- If each cell is fine, there is no violation.
no_violation : (l : Legalizer) (f : Frame) (padding : ℕ) (cells : Cells) → All (IsListed f) cells →
    ((own : ℕ) (c : Listed (List ℕ)) → slice_get cells own ≡ Some c → IsFine f padding cells own c) → violations_in l f padding cells ≡ []
no_violation l f padding cells all fine = all_none (violation_at l f padding cells) 0 (length cells) (λ k less. at (0 + k) (slice_get cells (0 + k)) refl)
  where
    at : (own : ℕ) (o : Option (Listed (List ℕ))) → slice_get cells own ≡ o → option_and_then (violation_by l f padding cells own) (slice_get cells own) ≡ None
    at own None there = ap (option_and_then (violation_by l f padding cells own)) there
    at own (Some c) there =
        ap (option_and_then (violation_by l f padding cells own)) there
        ∙ ap (option_map (violation_of cells c)) (unbroken_at l f padding cells own c (listed_is f cells all own c there) c.place (fine own c there))

-- ---- the number of unplaced cells

-- The unplaced cells.
abbrev unplaced_of : Cells → Cells
unplaced_of cells = filter (λ c. is_none c.place) cells

placed_each : (cells : Cells) → length (unplaced_of cells) ≡ 0 → (own : ℕ) (c : Listed (List ℕ)) → slice_get cells own ≡ Some c → IsSome (design_cell_of c).place
placed_each [] none own c there = absurd cc
placed_each (x ∷ cells) none own c there = by x.place refl (λ zeros k at. placed_each cells zeros k c at) own there
  where
    by : (place : Option Place) → x.place ≡ place → (length (unplaced_of cells) ≡ 0 → (k : ℕ) → slice_get cells k ≡ Some c → IsSome (design_cell_of c).place) →
        (own : ℕ) → slice_get (x ∷ cells) own ≡ Some c → IsSome (design_cell_of c).place
    by None is rest k at = absurd (let more : length (x ∷ unplaced_of cells) ≡ 0 = rw is at none in cc)
    by (Some p) is rest zero at = let same : x ≡ c = cc in subst (λ (y : Listed (List ℕ)). IsSome (design_cell_of y).place) same (rw is refl)
    by (Some p) is rest (suc k) at = let zeros : length (unplaced_of cells) ≡ 0 = rw is at none in rest zeros k at

placed_all : (cells : Cells) → count_by (λ c. is_none c.place) cells ≡ 0 → (own : ℕ) (c : Listed (List ℕ)) → slice_get cells own ≡ Some c →
    IsSome (design_cell_of c).place
placed_all cells none = placed_each cells (length-filter (λ c. is_none c.place) cells ∙ none)

lacks : (place : Option Place) → place ≡ None → IsSome (option_map spot_of place) → ⊥
lacks None is some = cc
lacks (Some p) is some = cc

unplaced_nil : (cells : Cells) → ((own : ℕ) (c : Listed (List ℕ)) → slice_get cells own ≡ Some c → IsSome (design_cell_of c).place) →
    length (unplaced_of cells) ≡ 0
unplaced_nil [] placed = refl
unplaced_nil (x ∷ cells) placed = by x.place refl (placed 0 x refl) (unplaced_nil cells (λ own c there. placed (suc own) c there))
  where
    by : (place : Option Place) → x.place ≡ place → IsSome (option_map spot_of x.place) → length (unplaced_of cells) ≡ 0 → length (unplaced_of (x ∷ cells)) ≡ 0
    by None is some rest = absurd (lacks x.place is some)
    by (Some p) is some rest = rw is rest

none_unplaced : (cells : Cells) → ((own : ℕ) (c : Listed (List ℕ)) → slice_get cells own ≡ Some c → IsSome (design_cell_of c).place) →
    count_by (λ c. is_none c.place) cells ≡ 0
none_unplaced cells placed = sym (length-filter (λ c. is_none c.place) cells) ∙ unplaced_nil cells placed

-- ---- the law

to_legal : (l : Legalizer) (f : Frame) (cells : Cells) → All (IsListed f) cells → IsClean (report_of l f 0 cells) → IsFullyLegal f (map design_cell_of cells)
to_legal l f cells all clean = record {
  placed = each_hold design_cell_of (λ s. IsSome s.place) cells (placed_all cells clean.all_placed);
  kept = each_hold design_cell_of (λ s. ForSome s.place (λ p. KeepsRules f s p)) cells
      (λ own c there p is. keeps f c.team (map listed_member cells) own (listed_member c) p (fine own c there p is));
  apart = pairs_hold design_cell_of (λ a b. DoNotOverlap f a b) cells
      (λ i j a b less here there p is_p q is_q meet. clear_of_legal f a.team 0 (map listed_member cells) i a.mac p (fine i a here p is_p) j (listed_member b) q
      (λ e. omega (arith, less, e)) (image_at listed_member cells j b there) is_q (shares_padded f 0 (box_in f a.mac p) (box_in f b.mac q) meet));
}
  where
    fine : (own : ℕ) (c : Listed (List ℕ)) → slice_get cells own ≡ Some c → IsFine f 0 cells own c
    fine = all_fine l f 0 cells all clean.none_broken

-- A cell that keeps rules 1 to 7 and is clear of the others is legal.
legal_of : (f : Frame) (cells : Cells) (own : ℕ) (c : Listed (List ℕ)) (p : SpotPlace) → KeepsRules f (design_cell_of c) p →
    Clear f (map listed_member cells) own (box_in f c.mac p) → IsLegalAt (unplaced_among f 0 cells own c) p
legal_of f cells own c p kept clear =
    let query_unplaced = unplaced_among f 0 cells own c in
    (legal_by_parts (candidate_at query_unplaced p)).1 (
      frame_beside (candidate_alone f (design_cell_of c) p) query_unplaced.others kept,
      subst (λ (box : Rect). All (λ other. SharesPoint box other.rect → ⊥) query_unplaced.others) (sym (wider_none f (box_in f c.mac p)))
          (beside_hold (λ rect. SharesPoint (box_in f c.mac p) rect → ⊥) f (map listed_member cells) own clear),
    )

-- Each cell of a fully legal design is clear of the others.
legal_clear : (f : Frame) (cells : Cells) → IsFullyLegal f (map design_cell_of cells) → (own : ℕ) (c : Listed (List ℕ)) (p : SpotPlace) → slice_get cells own ≡ Some c →
    option_map spot_of c.place ≡ Some p → Clear f (map listed_member cells) own (box_in f c.mac p)
legal_clear f cells legal own c p here is k m q differ there is_q does_overlap = elim order [
  | inl less ↦ pair k own d c less other.1.0 here q at_q p is (turn (box_in f c.mac p) (box_in f d.mac q) overlapping_one)
  | inr rest ↦ elim rest [ inl same ↦ differ same | inr more ↦ pair own k c d more here other.1.0 p is q at_q overlapping_one ]
]
  where
    order : (k < own) ⊎ ((k ≡ own) ⊎ (own < k))
    order = grind arith

    other : (x : Listed (List ℕ)) × ((slice_get cells k ≡ Some x) × (listed_member x ≡ m))
    other = after_image listed_member cells k m there

    d : Listed (List ℕ)
    d = other.0

    at_q : option_map spot_of d.place ≡ Some q
    at_q = ap (λ (y : Member). y.place) other.1.1 ∙ is_q

    overlapping_one : SharesPoint (box_in f c.mac p) (box_in f d.mac q)
    overlapping_one = subst (λ (n : ℕ). SharesPoint (box_in f c.mac p) (box_in f n q)) (sym (ap (λ (y : Member). y.mac) other.1.1)) does_overlap

    pair : (i j : ℕ) (a b : Listed (List ℕ)) → i < j → slice_get cells i ≡ Some a → slice_get cells j ≡ Some b → DoNotOverlap f (design_cell_of a) (design_cell_of b)
    pair = pairs_of design_cell_of (λ a b. DoNotOverlap f a b) cells legal.apart

to_clean : (l : Legalizer) (f : Frame) (cells : Cells) → All (IsListed f) cells → IsFullyLegal f (map design_cell_of cells) → IsClean (report_of l f 0 cells)
to_clean l f cells all legal = record {
  all_placed = none_unplaced cells (each_of design_cell_of (λ s. IsSome s.place) cells legal.placed);
  none_broken = no_violation l f 0 cells all (λ own c there p is. legal_of f cells own c p
      (each_of design_cell_of (λ s. ForSome s.place (λ q. KeepsRules f s q)) cells legal.kept own c there p is) (legal_clear f cells legal own c p there is));
}

pub clean_is_legal : (l : Legalizer) (f : Frame) (cells : Cells) → All (IsListed f) cells →
    IsClean (report_of l f 0 cells) ↔ IsFullyLegal f (map design_cell_of cells)
clean_is_legal l f cells all = (λ clean. to_legal l f cells all clean, λ legal. to_clean l f cells all legal)

-- ---- the names in a report

found_hold : {Y : Type 0} (P : Y → Type 0) (g : ℕ → Option Y) (a n : ℕ) → ((k : ℕ) (y : Y) → g k ≡ Some y → P y) → All P (filter_map g (range_with_len a n))
found_hold {Y = Y} P g a zero each = All-nil P
found_hold {Y = Y} P g a (suc n) each = by (g a) refl (found_hold P g (a + 1) n each)
  where
    by : (o : Option Y) → g a ≡ o → All P (filter_map g (range_with_len (a + 1) n)) → All P (cons_option o (filter_map g (range_with_len (a + 1) n)))
    by None is rest = rest
    by (Some y) is rest = All-cons P y (filter_map g (range_with_len (a + 1) n)) (each a y is) rest

other_printed : (f : Frame) (cells : Cells) → All (IsListed f) cells → (o : Option ℕ) → ForSome (option_and_then (name_among cells) o) IsDesignName
other_printed f cells all None name is = absurd cc
other_printed f cells all (Some own) name is = by (slice_get cells own) refl is
  where
    by : (found : Option (Listed (List ℕ))) → slice_get cells own ≡ found → option_map (λ (c : Listed (List ℕ)). c.name) found ≡ Some name → IsDesignName name
    by None there at = absurd cc
    by (Some c) there at = let same : c.name ≡ name = cc in subst IsDesignName same (listed_is f cells all own c there).printed

reported_by : (f : Frame) (cells : Cells) → All (IsListed f) cells → (c : Listed (List ℕ)) → IsListed f c → (o : Option Broken) (v : Violation) →
    option_map (violation_of cells c) o ≡ Some v → HasPrintableNames v
reported_by f cells all c is None v at = absurd cc
reported_by f cells all c is (Some b) v at =
    let same : violation_of cells c b ≡ v = cc in
    subst HasPrintableNames same (record { cell_printed = is.printed; other_printed = other_printed f cells all b.other })

pub all_reported : (l : Legalizer) (f : Frame) (padding : ℕ) (cells : Cells) → All (IsListed f) cells → All HasPrintableNames (violations_in l f padding cells)
all_reported l f padding cells all = found_hold HasPrintableNames (violation_at l f padding cells) 0 (length cells) (λ own v at. by own v (slice_get cells own) refl at)
  where
    by : (own : ℕ) (v : Violation) (o : Option (Listed (List ℕ))) → slice_get cells own ≡ o → option_and_then (violation_by l f padding cells own) o ≡ Some v → HasPrintableNames v
    by own v None there at = absurd cc
    by own v (Some c) there at = reported_by f cells all c (listed_is f cells all own c there) (broken_among l f padding cells own c) v at

-- ---- the cells of a design

pub design_cells_listed : (cells : List LoadedCell) (places : List (Option Place)) → map design_cell_of (listed_at cells places) ≡ design_cells_at cells places
design_cells_listed [] places = refl
design_cells_listed (c ∷ cells) [] = ap (λ (rest : List DesignCell). record { team = c.team; mac = c.mac; place = None } ∷ rest) (design_cells_listed cells [])
design_cells_listed (c ∷ cells) (p ∷ places) = ap (λ (rest : List DesignCell). record { team = c.team; mac = c.mac; place = option_map spot_of p } ∷ rest) (design_cells_listed cells places)

listed_cell : (f : Frame) → CellIsSized → (c : LoadedCell) (place : Option Place) → IsCell f c →
    IsListed f (record { name = c.name; team = c.team; mac = c.mac; place = place })
listed_cell f sized c place is = record { known = is.mac_known; sized = sized f c is; printed = is.name_printed }

pub all_listed : (f : Frame) → CellIsSized → (cells : List LoadedCell) (places : List (Option Place)) → All (IsCell f) cells →
    All (IsListed f) (listed_at cells places)
all_listed f sized [] places all = All-nil (IsListed f)
all_listed f sized (c ∷ cells) [] all =
    All-cons (IsListed f) _ (listed_at cells []) (listed_cell f sized c None (All-head (IsCell f) c cells all)) (all_listed f sized cells [] (All-tail (IsCell f) c cells all))
all_listed f sized (c ∷ cells) (p ∷ places) all =
    All-cons (IsListed f) _ (listed_at cells places) (listed_cell f sized c p (All-head (IsCell f) c cells all)) (all_listed f sized cells places (All-tail (IsCell f) c cells all))

-- A property of each named cell holds for the list of named cells.
pub all_named : (f : Frame) (cells : List (Listed (Bor (List ℕ)))) → All (λ c. IsListed f (with_byte_name c)) cells → All (IsListed f) (map with_byte_name cells)
all_named f [] all = All-nil (IsListed f)
all_named f (c ∷ cells) all =
    All-cons (IsListed f) (with_byte_name c) (map with_byte_name cells) (All-head (λ x. IsListed f (with_byte_name x)) c cells all) (all_named f cells (All-tail (λ x. IsListed f (with_byte_name x)) c cells all))

pub each_named : (f : Frame) (cells : List (Listed (Bor (List ℕ)))) → All (IsListed f) (map with_byte_name cells) → All (λ c. IsListed f (with_byte_name c)) cells
each_named f [] all = All-nil (λ c. IsListed f (with_byte_name c))
each_named f (c ∷ cells) all =
    All-cons (λ x. IsListed f (with_byte_name x)) c cells (All-head (IsListed f) (with_byte_name c) (map with_byte_name cells) all) (each_named f cells (All-tail (IsListed f) (with_byte_name c) (map with_byte_name cells) all))

pub length_listed : (cells : List LoadedCell) (places : List (Option Place)) → length (listed_at cells places) ≡ length cells
length_listed [] places = refl
length_listed (c ∷ cells) [] = ap suc (length_listed cells [])
length_listed (c ∷ cells) (p ∷ places) = ap suc (length_listed cells places)

-- A report with these parts.
abbrev pub report_with : ℕ → ℕ → List Violation → Report
report_with cells unplaced violations = record { cells = cells; unplaced = unplaced; violations = violations }

pub report_is : (l : Legalizer) (f : Frame) (padding : ℕ) (cells : Cells) (count unplaced : ℕ) (violations : List Violation) → count ≡ length cells →
    unplaced ≡ count_by (λ c. is_none c.place) cells → violations ≡ violations_in l f padding cells → report_with count unplaced violations ≡ report_of l f padding cells
report_is l f padding cells count unplaced violations is_count is_unplaced is_violations =
    let e : report_with count unplaced violations ≡ report_with (length cells) (count_by (λ c. is_none c.place) cells) (violations_in l f padding cells) = cc in e

pub joined : (cells : List LoadedCell) (places : List (Option Place)) (slice items : List (Listed (Bor (List ℕ)))) → slice ≡ items →
    map with_byte_name items ≡ listed_at cells places → map with_byte_name slice ≡ listed_at cells places
joined cells places slice items is_items is_listed = ap (λ (cs : List (Listed (Bor (List ℕ)))). map with_byte_name cs) is_items ∙ is_listed
