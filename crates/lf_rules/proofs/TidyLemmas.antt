-- After a tidy in which no cell was stuck, every cell is placed and team-legal.
use Rattle.std.proofs.lemmas.Int.{ints}
use Rattle.std.proofs.Common.{◌≡◌, ◌⊎◌, ℤ, pos, ◌+ℤ◌, ◌<ℤ◌, ℕ, zero, suc, ◌+◌, ◌<◌, ◌≤◌, List, [], ◌∷◌, length, Option, Some, None, inl, inr, refl, sym, ◌∙◌, ap, subst, arith, slice_get, get_or}
use Rattle.std.specs.Prelude.{All, slice_set, MatchOption}
use Rattle.std.specs.Option.{option_map}
use Rattle.std.proofs.lemmas.Option.{slice_get_within, get_or_from_slice_get}
use Rattle.lf_units.specs.declared.geometry.Rect.{Rect}
use Rattle.lf_units.specs.declared.geometry.Point.{Point}
use Rattle.lf_units.specs.Area.{SharesPoint}
use Rattle.lf_floorplan.specs.declared.frame.Frame.{Frame}
use Rattle.lf_floorplan.specs.Boxes.{IsSized, macro_of, size_of}
use Rattle.lf_floorplan.specs.Sizes.{turned}
use Rattle.lf_floorplan.proofs.SizeBounds.{IsSmall, small_pitch, turned_small, sized_pitch}
use Rattle.lf_units.specs.declared.placed.Placed.{Placed}
use Rattle.lf_rules.specs.declared.rule.Broken.{Broken}
use Rattle.lf_rules.specs.Legality.{IsApart}
use Rattle.lf_rules.specs.Padding.{length_of, wider}
use Rattle.lf_rules.specs.Choice.{SpotPlace, PlacementQuery, candidate_at, IsLegalAt, IsChoice, anchor}
use Rattle.lf_rules.specs.Legalizer.{Legalizer, IsVerdict}
use Rattle.lf_rules.specs.Team.{Member, box_in, boxes_beside, query_from, IsLegalCell}
use Rattle.lf_rules.specs.Tidy.{Tidied, Going, Stuck, target_of, tidied_to_best, tidied_to, tidied_own, tidy_cell, tidied_from, tidied, point_of}
use Rattle.lf_rules.proofs.WiderLemmas.{either_way, length_least}
use Rattle.lf_rules.proofs.BesideLemmas.{beside_hold, beside_each}
use Rattle.lf_rules.proofs.LegalParts.{beside, frame_beside, legal_by_parts, legal_with_less}

-- Rules 1 to 7 do not depend on the other cells.
beside_others : (c : PlacementQuery) (others : List Placed) (p : SpotPlace) → IsLegalAt c p →
    IsApart (candidate_at (record c { others = others }) p) → IsLegalAt (record c { others = others }) p
beside_others c others p legal apart =
    let parts = (legal_by_parts (candidate_at c p)).0 legal in
    (legal_by_parts (beside (candidate_at c p) others)).1 (frame_beside (candidate_at c p) others parts.0, apart)

pub turn : (a b : Rect) → SharesPoint a b → SharesPoint b a
turn a b m = record { x = m.x; y = m.y; in_first = m.in_second; in_second = m.in_first }

-- The box of the macro at the place, widened by the padding.
abbrev pub padded_in : Frame → ℕ → ℕ → SpotPlace → Rect
padded_in f padding mac p = wider (length_of f padding) (box_in f mac p)

-- No other placed cell overlaps the box.
abbrev pub Clear : Frame → List Member → ℕ → Rect → Type 0
Clear f cells own box = (k : ℕ) (m : Member) (p : SpotPlace) → (k ≡ own → ⊥) → slice_get cells k ≡ Some m → m.place ≡ Some p → SharesPoint box (box_in f m.mac p) → ⊥

-- At a legal place no cell overlaps the box, widened by the padding.
pub clear_of_legal : (f : Frame) (team padding : ℕ) (cells : List Member) (own mac : ℕ) (p : SpotPlace) → IsLegalAt (query_from f team padding cells own mac) p →
    Clear f cells own (padded_in f padding mac p)
clear_of_legal f team padding cells own mac p legal =
    beside_each (λ rect. SharesPoint (padded_in f padding mac p) rect → ⊥) f cells own ((legal_by_parts (candidate_at (query_from f team padding cells own mac) p)).0 legal).1

-- A place that was legal among other cells is legal among these if no cell overlaps it.
legal_of_clear : (f : Frame) (team padding : ℕ) (old new : List Member) (own mac : ℕ) (p : SpotPlace) → IsLegalAt (query_from f team padding old own mac) p →
    Clear f new own (padded_in f padding mac p) → IsLegalAt (query_from f team padding new own mac) p
legal_of_clear f team padding old new own mac p legal clear =
    beside_others (query_from f team padding old own mac) (boxes_beside f new own) p legal
    (beside_hold (λ rect. SharesPoint (padded_in f padding mac p) rect → ⊥) f new own clear)

-- The box of a macro of whole size holds a point.
pub wide_box : (f : Frame) (mac : ℕ) (p : SpotPlace) → IsSized f (macro_of f mac) → (box_in f mac p).x1 <ℤ (box_in f mac p).x2
wide_box f mac p sized =
    let small : IsSmall (turned (size_of f (macro_of f mac)) p.orient) = turned_small _ _ (small_pitch _ _ _ (sized_pitch f (macro_of f mac) sized)) in
    wide p.x _ small.wide
  where
    wide : (x w : ℤ) → pos 0 <ℤ w → x <ℤ (x +ℤ w)
    wide x w h = omega (arith, ints)

get_set : {X : Type 0} (xs : List X) (n : ℕ) (x y : X) → slice_get (slice_set xs n y) n ≡ Some x → x ≡ y
get_set [] n x y e = absurd cc
get_set (z ∷ xs) zero x y e = cc
get_set (z ∷ xs) (suc n) x y e = get_set xs n x y e

get_other : {X : Type 0} (xs : List X) (n k : ℕ) (y : X) → (k ≡ n → ⊥) → slice_get (slice_set xs n y) k ≡ slice_get xs k
get_other [] n k y differ = refl
get_other (z ∷ xs) zero zero y differ = absurd (differ refl)
get_other (z ∷ xs) zero (suc k) y differ = refl
get_other (z ∷ xs) (suc n) zero y differ = refl
get_other (z ∷ xs) (suc n) (suc k) y differ = get_other xs n k y (λ e. differ (ap suc e))

abbrev placed_at : ℕ → SpotPlace → Member
placed_at mac p = record { mac = mac; place = Some p }

-- The new cell's box is clear among the new cells.
new_clear : (f : Frame) (cells : List Member) (n mac : ℕ) (p : SpotPlace) (box : Rect) → Clear f cells n box → Clear f (slice_set cells n (placed_at mac p)) n box
new_clear f cells n mac p box clear k m q differ there is = clear k m q differ (sym (get_other cells n k (placed_at mac p) differ) ∙ there) is

order_of : (k n : ℕ) → (k ≡ n) ⊎ (k ≡ n → ⊥)
order_of k n = elim cases [ inl less ↦ inr (λ e. omega arith) | inr rest ↦ elim rest [ inl same ↦ inl same | inr more ↦ inr (λ e. omega arith) ] ]
  where
    cases : (k < n) ⊎ ((k ≡ n) ⊎ (n < k))
    cases = grind arith

-- A clear box remains clear if a cell is added that does not overlap it.
old_clear : (f : Frame) (cells : List Member) (own n mac : ℕ) (p : SpotPlace) (box : Rect) → Clear f cells own box → (SharesPoint box (box_in f mac p) → ⊥) →
    Clear f (slice_set cells n (placed_at mac p)) own box
old_clear f cells own n mac p box clear apart k m q differ there is does_overlap = elim (order_of k n) [
  | inl same ↦
      let here : slice_get (slice_set cells n (placed_at mac p)) n ≡ Some m = subst (λ (j : ℕ). slice_get (slice_set cells n (placed_at mac p)) j ≡ Some m) same there in
      let new : m ≡ placed_at mac p = get_set cells n m (placed_at mac p) here in
      let at : q ≡ p = some_one (sym is ∙ ap (λ (x : Member). x.place) new) in
      apart (subst (λ (s : SpotPlace). SharesPoint box (box_in f mac s)) at (subst (λ (j : ℕ). SharesPoint box (box_in f j q)) (ap (λ (x : Member). x.mac) new) does_overlap))
  | inr other ↦ clear k m q differ (sym (get_other cells n k (placed_at mac p) other) ∙ there) is does_overlap
]
  where
    some_one : {a b : SpotPlace} → Some a ≡ Some b → a ≡ b
    some_one e = cc

-- The first cells are placed and team-legal.
abbrev Done : Frame → ℕ → ℕ → ℕ → List Member → Type 0
Done f team padding n cells = (own : ℕ) → own < n → IsLegalCell f team padding cells own

below_or_at : (own n : ℕ) → own < n + 1 → (own < n) ⊎ (own ≡ n)
below_or_at own n less = grind arith

-- A cell that moves to a place that is legal for it is legal there.
went_legal : (f : Frame) (team padding n : ℕ) (cells : List Member) (m : Member) (p : SpotPlace) →
    IsLegalAt (query_from f team padding cells n m.mac) p → IsLegalCell f team padding (slice_set cells n (placed_at m.mac p)) n
went_legal f team padding n cells m p legal x here =
    subst (λ (y : Member). MatchOption y.place ⊥ (λ s. IsLegalAt (query_from f team padding (slice_set cells n (placed_at m.mac p)) n y.mac) s)) (sym (get_set cells n x (placed_at m.mac p) here))
    (legal_of_clear f team padding cells (slice_set cells n (placed_at m.mac p)) n m.mac p legal (new_clear f cells n m.mac p (padded_in f padding m.mac p) (clear_of_legal f team padding cells n m.mac p legal)))

abbrev Sized : Frame → List Member → Type 0
Sized f cells = (k : ℕ) (m : Member) → slice_get cells k ≡ Some m → IsSized f (macro_of f m.mac)

-- A legal cell remains legal if another cell moves to a place that is legal for that cell.
others_stay : (f : Frame) (team padding n own : ℕ) (cells : List Member) (m : Member) (p : SpotPlace) → Sized f cells → slice_get cells n ≡ Some m →
    IsLegalAt (query_from f team padding cells n m.mac) p → (own ≡ n → ⊥) → IsLegalCell f team padding cells own →
    IsLegalCell f team padding (slice_set cells n (placed_at m.mac p)) own
others_stay f team padding n own cells m p sized there legal other is_in_place x here =
    let was : slice_get cells own ≡ Some x = sym (get_other cells n own (placed_at m.mac p) other) ∙ here in
    earlier x was x.place refl (is_in_place x was)
  where
    overlaps_back : (x : Member) (q : SpotPlace) → IsSized f (macro_of f x.mac) → SharesPoint (padded_in f padding x.mac q) (box_in f m.mac p) →
        SharesPoint (padded_in f padding m.mac p) (box_in f x.mac q)
    overlaps_back x q whole does_overlap =
        either_way (length_of f padding) (box_in f x.mac q) (box_in f m.mac p) (length_least f padding) (wide_box f x.mac q whole)
        (wide_box f m.mac p (sized n m there)) does_overlap

    earlier : (x : Member) → slice_get cells own ≡ Some x → (place : Option SpotPlace) → x.place ≡ place →
        MatchOption place ⊥ (λ s. IsLegalAt (query_from f team padding cells own x.mac) s) →
        MatchOption place ⊥ (λ s. IsLegalAt (query_from f team padding (slice_set cells n (placed_at m.mac p)) own x.mac) s)
    earlier x was None is is_in_place = is_in_place
    earlier x was (Some q) is is_in_place =
        legal_of_clear f team padding cells (slice_set cells n (placed_at m.mac p)) own x.mac q is_in_place
        (old_clear f cells own n m.mac p (padded_in f padding x.mac q) (clear_of_legal f team padding cells own x.mac q is_in_place)
        (λ does_overlap. clear_of_legal f team padding cells n m.mac p legal own x q other was is (overlaps_back x q (sized own x was) does_overlap)))

-- The cell of number n moves to a place that is legal for it.
gone : (f : Frame) (team padding n : ℕ) (cells : List Member) (m : Member) (p : SpotPlace) → Sized f cells → slice_get cells n ≡ Some m →
    IsLegalAt (query_from f team padding cells n m.mac) p → Done f team padding n cells → Done f team padding (n + 1) (slice_set cells n (placed_at m.mac p))
gone f team padding n cells m p sized there legal done own less = elim (below_or_at own n less) [
  | inr same ↦ subst (λ (j : ℕ). IsLegalCell f team padding (slice_set cells n (placed_at m.mac p)) j) (sym same) (went_legal f team padding n cells m p legal)
  | inl before ↦ others_stay f team padding n own cells m p sized there legal (λ e. omega (arith, before, e)) (done own before)
]

-- The cell of number n stays, and its place is legal for it.
stayed : (f : Frame) (team padding n : ℕ) (cells : List Member) → IsLegalCell f team padding cells n → Done f team padding n cells → Done f team padding (n + 1) cells
stayed f team padding n cells is_in_place done own less = elim (below_or_at own n less) [
  | inl before ↦ done own before
  | inr same ↦ subst (λ (j : ℕ). IsLegalCell f team padding cells j) (sym same) is_in_place
]

-- The state of tidying after the cells below n.
pub record Came (f : Frame) (team padding n count : ℕ) (cells : List Member) : Type 0 where
  pub done : Done f team padding n cells
  pub sized : Sized f cells
  pub many : length cells ≡ count

abbrev CameTo : Frame → ℕ → ℕ → ℕ → ℕ → Tidied → Type 0
CameTo f team padding n count (Going cells moved) = Came f team padding n count cells
CameTo f team padding n count (Stuck own) = Unit {0}

length_set : {X : Type 0} (xs : List X) (n : ℕ) (y : X) → length (slice_set xs n y) ≡ length xs
length_set [] n y = refl
length_set (x ∷ xs) zero y = refl
length_set (x ∷ xs) (suc n) y = ap suc (length_set xs n y)

-- The macros are unchanged.
sized_set : (f : Frame) (cells : List Member) (n : ℕ) (m : Member) (p : SpotPlace) → slice_get cells n ≡ Some m → Sized f cells → Sized f (slice_set cells n (placed_at m.mac p))
sized_set f cells n m p there sized k x here = elim (order_of k n) [
  | inl same ↦
      let at : slice_get (slice_set cells n (placed_at m.mac p)) n ≡ Some x = subst (λ (j : ℕ). slice_get (slice_set cells n (placed_at m.mac p)) j ≡ Some x) same here in
      subst (λ (y : Member). IsSized f (macro_of f y.mac)) (sym (get_set cells n x (placed_at m.mac p) at)) (sized n m there)
  | inr other ↦ sized k x (sym (get_other cells n k (placed_at m.mac p) other) ∙ here)
]

-- The cell moves to the place that the search has found.
sent : (f : Frame) (team padding n count : ℕ) (cells : List Member) (moved : ℕ) (m : Member) (target : Point) (found : Option SpotPlace) → slice_get cells n ≡ Some m →
    IsChoice (query_from f team padding cells n m.mac) target found → Came f team padding n count cells → CameTo f team padding (n + 1) count (tidied_to_best found cells moved n m.mac)
sent f team padding n count cells moved m target None there choice came = tt
sent f team padding n count cells moved m target (Some p) there choice came = record {
  done = gone f team padding n cells m p came.sized there choice.may_go.legal came.done;
  sized = sized_set f cells n m p there came.sized;
  many = length_set cells n (placed_at m.mac p) ∙ came.many;
}

same_member : {a b : Member} → Some a ≡ Some b → a ≡ b
same_member e = cc

-- A cell that stays breaks no rule.
stays : (f : Frame) (team padding n : ℕ) (cells : List Member) (m : Member) (p : SpotPlace) → slice_get cells n ≡ Some m → m.place ≡ Some p →
    IsLegalAt (query_from f team padding cells n m.mac) p → IsLegalCell f team padding cells n
stays f team padding n cells m p there is legal x here =
    let same : m ≡ x = same_member (sym there ∙ here) in
    subst (λ (y : Member). MatchOption y.place ⊥ (λ s. IsLegalAt (query_from f team padding cells n y.mac) s)) same (rw is legal)

-- A placed cell stays or moves, by its first broken rule.
committed_checked : (l : Legalizer) (f : Frame) (team padding n count : ℕ) (cells : List Member) (moved : ℕ) (m : Member) (p : SpotPlace) (verdict : Option Broken) →
    slice_get cells n ≡ Some m → m.place ≡ Some p → IsVerdict (candidate_at (query_from f team padding cells n m.mac) p) verdict → Came f team padding n count cells →
    CameTo f team padding (n + 1) count (tidied_to (option_map (λ broken. point_of p) verdict) l (query_from f team padding cells n m.mac) cells moved n m.mac)
committed_checked l f team padding n count cells moved m p None there is legal came = record {
  done = stayed f team padding n cells (stays f team padding n cells m p there is legal) came.done;
  sized = came.sized;
  many = came.many;
}
committed_checked l f team padding n count cells moved m p (Some b) there is broken came =
    sent f team padding n count cells moved m (point_of p) _ there (l.finds_best_place (query_from f team padding cells n m.mac) (point_of p) (came.sized n m there)) came

placed_or_not : (l : Legalizer) (f : Frame) (team padding n count : ℕ) (cells : List Member) (moved : ℕ) (m : Member) (place : Option SpotPlace) →
    slice_get cells n ≡ Some m → m.place ≡ place → Came f team padding n count cells →
    CameTo f team padding (n + 1) count (tidied_to (target_of l (query_from f team padding cells n m.mac) place) l (query_from f team padding cells n m.mac) cells moved n m.mac)
placed_or_not l f team padding n count cells moved m None there is came =
    sent f team padding n count cells moved m (anchor f team) _ there (l.finds_best_place (query_from f team padding cells n m.mac) (anchor f team) (came.sized n m there)) came
placed_or_not l f team padding n count cells moved m (Some p) there is came =
    committed_checked l f team padding n count cells moved m p _ there is (l.finds_first_broken (candidate_at (query_from f team padding cells n m.mac) p) (came.sized n m there)) came

there_or_not : (l : Legalizer) (f : Frame) (team padding n count : ℕ) (cells : List Member) (moved : ℕ) (found : Option Member) → slice_get cells n ≡ found →
    Came f team padding n count cells → CameTo f team padding (n + 1) count (tidied_own found l f team padding cells moved n)
there_or_not l f team padding n count cells moved None past came = record {
  done = stayed f team padding n cells (λ m here. absurd (none_some (sym past ∙ here))) came.done;
  sized = came.sized;
  many = came.many;
}
  where
    none_some : {m : Member} → None ≡ Some m → ⊥
    none_some e = cc
there_or_not l f team padding n count cells moved (Some m) there came = placed_or_not l f team padding n count cells moved m m.place there refl came

one_cell : (l : Legalizer) (f : Frame) (team padding n count : ℕ) (t : Tidied) → CameTo f team padding n count t → CameTo f team padding (n + 1) count (tidy_cell l f team padding t n)
one_cell l f team padding n count (Stuck own) came = tt
one_cell l f team padding n count (Going cells moved) came = there_or_not l f team padding n count cells moved (slice_get cells n) refl came

all_cells : (l : Legalizer) (f : Frame) (team padding n count rest : ℕ) (t : Tidied) → CameTo f team padding n count t → CameTo f team padding (n + rest) count (tidied_from l f team padding n rest t)
all_cells l f team padding n count zero t came = subst (λ (k : ℕ). CameTo f team padding k count t) (omega arith) came
all_cells l f team padding n count (suc rest) t came =
    subst (λ (k : ℕ). CameTo f team padding k count (tidied_from l f team padding (n + 1) rest (tidy_cell l f team padding t n))) (omega arith)
    (all_cells l f team padding (n + 1) count rest (tidy_cell l f team padding t n) (one_cell l f team padding n count t came))

sized_each : (f : Frame) (cells : List Member) → All (λ m. IsSized f (macro_of f m.mac)) cells → Sized f cells
sized_each f cells all k m there =
    let is : get_or cells k m ≡ m = get_or_from_slice_get cells k m m there in
    rw is at (all k m (slice_get_within cells k m there))

every : (f : Frame) (team padding : ℕ) (new : List Member) → Came f team padding (length new) (length new) new → (own : ℕ) → IsLegalCell f team padding new own
every f team padding new came own m here = came.done own (slice_get_within new own m here) m here

pub tidied_legal : (l : Legalizer) (f : Frame) (team padding : ℕ) (cells new : List Member) (moved : ℕ) → All (λ m. IsSized f (macro_of f m.mac)) cells →
    tidied l f team padding cells ≡ Going new moved → (own : ℕ) → IsLegalCell f team padding new own
unfolding tidied
tidied_legal l f team padding cells new moved all is =
    let begin : CameTo f team padding 0 (length cells) (Going cells 0) = record { done = λ own less. absurd (omega arith); sized = sized_each f cells all; many = refl } in
    let end : CameTo f team padding (0 + length cells) (length cells) (tidied l f team padding cells) = all_cells l f team padding 0 (length cells) (length cells) (Going cells 0) begin in
    let came : CameTo f team padding (0 + length cells) (length cells) (Going new moved) = subst (λ (t : Tidied). CameTo f team padding (0 + length cells) (length cells) t) is end in
    let upto : Came f team padding (length cells) (length cells) new = subst (λ (k : ℕ). Came f team padding k (length cells) new) (omega arith) came in
    every f team padding new (subst (λ (k : ℕ). Came f team padding k k new) (sym came.many) upto)

-- ---- while one cell is tidied, the others remain legal

same_cells : {a b : List Member} {i j : ℕ} → Going a i ≡ Going b j → a ≡ b
same_cells e = cc

-- The cell that moves finds its choice.
legal_when_sent : (f : Frame) (team padding : ℕ) (cells new : List Member) (moved count own other : ℕ) (m : Member) (target : Point) (found : Option SpotPlace) →
    Sized f cells → slice_get cells own ≡ Some m → IsChoice (query_from f team padding cells own m.mac) target found → tidied_to_best found cells moved own m.mac ≡ Going new count →
    IsLegalCell f team padding cells other → IsLegalCell f team padding new other
legal_when_sent f team padding cells new moved count own other m target None sized there choice is is_in_place = absurd cc
legal_when_sent f team padding cells new moved count own other m target (Some p) sized there choice is is_in_place =
    subst (λ (ms : List Member). IsLegalCell f team padding ms other) (same_cells is)
    (elim (order_of other own) [
      | inl same ↦ subst (λ (j : ℕ). IsLegalCell f team padding (slice_set cells own (placed_at m.mac p)) j) (sym same) (went_legal f team padding own cells m p choice.may_go.legal)
      | inr differ ↦ others_stay f team padding own other cells m p sized there choice.may_go.legal differ is_in_place
    ])

legal_when_aimed : (l : Legalizer) (f : Frame) (team padding : ℕ) (cells new : List Member) (moved count own other : ℕ) (m : Member) (target : Option Point) →
    Sized f cells → slice_get cells own ≡ Some m → tidied_to target l (query_from f team padding cells own m.mac) cells moved own m.mac ≡ Going new count →
    IsLegalCell f team padding cells other → IsLegalCell f team padding new other
legal_when_aimed l f team padding cells new moved count own other m None sized there is is_in_place =
    subst (λ (ms : List Member). IsLegalCell f team padding ms other) (same_cells is) is_in_place
legal_when_aimed l f team padding cells new moved count own other m (Some target) sized there is is_in_place =
    legal_when_sent f team padding cells new moved count own other m target (l.best_place (query_from f team padding cells own m.mac) target) sized there
    (l.finds_best_place (query_from f team padding cells own m.mac) target (sized own m there)) is is_in_place

pub legal_when_tidied : (l : Legalizer) (f : Frame) (team padding : ℕ) (cells new : List Member) (moved count own other : ℕ) →
    All (λ m. IsSized f (macro_of f m.mac)) cells → tidy_cell l f team padding (Going cells moved) own ≡ Going new count →
    IsLegalCell f team padding cells other → IsLegalCell f team padding new other
legal_when_tidied l f team padding cells new moved count own other all is is_in_place = go (slice_get cells own) refl is where
  go : (o : Option Member) → slice_get cells own ≡ o → tidied_own o l f team padding cells moved own ≡ Going new count → IsLegalCell f team padding new other
  go None there is = subst (λ (ms : List Member). IsLegalCell f team padding ms other) (same_cells is) is_in_place
  go (Some m) there is =
      legal_when_aimed l f team padding cells new moved count own other m (target_of l (query_from f team padding cells own m.mac) m.place) (sized_each f cells all) there is is_in_place

-- ---- with less padding a legal cell remains legal

pub less_is_placed : (f : Frame) (team less more : ℕ) (cells : List Member) (own : ℕ) → less ≤ more → IsLegalCell f team more cells own → IsLegalCell f team less cells own
less_is_placed f team less more cells own upto is_in_place m there = go m.place (is_in_place m there) where
  go : (place : Option SpotPlace) → MatchOption place ⊥ (λ p. IsLegalAt (query_from f team more cells own m.mac) p) →
      MatchOption place ⊥ (λ p. IsLegalAt (query_from f team less cells own m.mac) p)
  go None h = h
  go (Some p) h = legal_with_less (candidate_at (query_from f team more cells own m.mac) p) less upto h
