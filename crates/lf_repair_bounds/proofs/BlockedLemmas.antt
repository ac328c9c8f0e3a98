-- The boxes that block sites, cell by cell and rectangle by rectangle.
use Rattle.std.proofs.Common.{◌≡◌, ◌∙◌, ◌⊎◌, inl, inr, ◌↔◌, ℕ, ◌+◌, ◌<◌, ◌≤◌, List, [], ◌∷◌, ◌++◌, length, get_or, map, take, Option, Some, None, ap, sym, subst, arith}
use Rattle.std.specs.Prelude.{All, Any, IfSome, IsPermutation, option_map, slice_get}
use Rattle.std.proofs.lemmas.List.{get_or_default, take_all}
use Rattle.std.proofs.lemmas.List.Elements.{All-append, All-cons, All-head, All-nil, All-push, All-tail}
use Rattle.std.proofs.lemmas.List.Sorted.{All-permutation, IsPermutation-sym}
use Rattle.std.proofs.lemmas.Option.{slice_get_cases}
use Rattle.lf_units.specs.declared.geometry.Rect.{Rect}
use Rattle.lf_units.specs.Area.{SharesPoint}
use Rattle.lf_floorplan.specs.declared.place.Place.{Place}
use Rattle.lf_units.specs.declared.placed.Placed.{Placed}
use Rattle.lf_rules.specs.Choice.{spot_of}
use Rattle.lf_rules.specs.Padding.{length_of, wider}
use Rattle.lf_rules.specs.Team.{box_in}
use Rattle.lf_cells.specs.declared.cell.Cell.{Cell}
use Rattle.lf_repair_bounds.specs.FreeRuns.{AreBlockedOf, AreOff, AreOffCells, blocked_box, cell_boxes, padded_boxes}
use Rattle.lf_repair_bounds.specs.Gaps.{KeepsApart, PlacedTeam}
use Rattle.lf_repair_bounds.proofs.Ways.{take_more}

-- ---- lists

pub all_left : {X : Type 0} (P : X → Type 0) (xs ys : List X) → All P (xs ++ ys) → All P xs
all_left P [] ys h = All-nil P
all_left P (x ∷ xs) ys h = All-cons P x xs (All-head P x (xs ++ ys) h) (all_left P xs ys (All-tail P x (xs ++ ys) h))

pub all_right : {X : Type 0} (P : X → Type 0) (xs ys : List X) → All P (xs ++ ys) → All P ys
all_right P [] ys h = h
all_right P (x ∷ xs) ys h = all_right P xs ys (All-tail P x (xs ++ ys) h)

iff_append : {X Y : Type 0} (P : X → Type 0) (Q : Y → Type 0) (xs more : List X) (ys : List Y) (y : Y) → (All P more ↔ Q y) → (All P xs ↔ All Q ys)
    → (All P (xs ++ more) ↔ All Q (ys ++ y ∷ []))
iff_append P Q xs more ys y one old = (
  λ h. All-push Q ys y (old.0 (all_left P xs more h)) (one.0 (all_right P xs more h)),
  λ h. All-append P xs more (old.1 (all_left Q ys (y ∷ []) h)) (one.1 (All-head Q y [] (all_right Q ys (y ∷ []) h))),
)

all_not : {X : Type 0} (P : X → Type 0) (xs : List X) → (Any P xs → ⊥) → All (λ x. P x → ⊥) xs
all_not P xs none k d within p = none (k, get_or xs k d, within, get_or_default xs k (get_or xs k d) d within, p)

not_any : {X : Type 0} (P : X → Type 0) (xs : List X) → All (λ x. P x → ⊥) xs → Any P xs → ⊥
not_any P xs all any = all any.0 any.1 any.2 (subst P (sym any.3) any.4)

-- ---- cells

off_padded : (t : PlacedTeam) (area : Rect) (mac : ℕ) (o : Option Place) → AreOff area (padded_boxes t.frame t.padding mac o)
    ↔ IfSome (option_map (λ p. box_in t.frame mac (spot_of p)) o) (λ box. SharesPoint (wider (length_of t.frame t.padding) box) area → ⊥)
off_padded t area mac None = (λ h. tt, λ h. All-nil (λ (p : Placed). SharesPoint p.rect area → ⊥))
off_padded t area mac (Some p) =
    let box : Placed = blocked_box (wider (length_of t.frame t.padding) (box_in t.frame mac (spot_of p))) in (
      λ h. All-head (λ (q : Placed). SharesPoint q.rect area → ⊥) box [] h,
      λ h. All-cons (λ (q : Placed). SharesPoint q.rect area → ⊥) box [] h (All-nil (λ (q : Placed). SharesPoint q.rect area → ⊥)),
    )

pub off_more_cells : (t : PlacedTeam) (n : ℕ) (old new : List Placed) → n < length t.cells → new ≡ old ++ cell_boxes t.frame t.padding (slice_get t.cells n)
    → AreOffCells t n old → AreOffCells t (n + 1) new
off_more_cells t n old new within grown off area = go (slice_get_cases t.cells n).1 where
  go : ((c : Cell) × (n < length t.cells) × (slice_get t.cells n ≡ Some c) × (get_or t.cells n c ≡ c)) ⊎ ((length t.cells ≤ n) × (slice_get t.cells n ≡ None))
      → (AreOff area new ↔ All (KeepsApart t area) (take (n + 1) t.cells))
  go (inl (c, inside, is, read)) =
      let more : List Placed = padded_boxes t.frame t.padding c.mac c.working in
      let all : new ≡ old ++ more = grown ∙ ap (λ (o : Option Cell). old ++ cell_boxes t.frame t.padding o) is in
      subst (λ (cells : List Cell). AreOff area new ↔ All (KeepsApart t area) cells) (sym (take_more t.cells n c is))
      (subst (λ (boxes : List Placed). AreOff area boxes ↔ All (KeepsApart t area) (take n t.cells ++ c ∷ [])) (sym all)
      (iff_append (λ (p : Placed). SharesPoint p.rect area → ⊥) (KeepsApart t area) old more (take n t.cells) c (off_padded t area c.mac c.working) (off area)))
  go (inr (past, none)) = absurd (omega (arith, past, within))

pub off_all_cells : (t : PlacedTeam) (n : ℕ) (boxes : List Placed) → length t.cells ≤ n → AreOffCells t n boxes → AreOffCells t (length t.cells) boxes
off_all_cells t n boxes all off area =
    subst (λ (cells : List Cell). AreOff area boxes ↔ All (KeepsApart t area) cells) (take_all n t.cells all ∙ sym (take_all (length t.cells) t.cells (omega arith))) (off area)

-- ---- soft blockages

pub turned_back : (a b : Rect) → SharesPoint a b → SharesPoint b a
turned_back a b s = record { x = s.x; y = s.y; in_first = s.in_second; in_second = s.in_first }

off_map : (area : Rect) (rects : List Rect) → AreOff area (map blocked_box rects) → All (λ r. SharesPoint area r → ⊥) rects
off_map area [] h = All-nil (λ (r : Rect). SharesPoint area r → ⊥)
off_map area (r ∷ rects) h =
    All-cons (λ (q : Rect). SharesPoint area q → ⊥) r rects
    (λ s. All-head (λ (p : Placed). SharesPoint p.rect area → ⊥) (blocked_box r) (map blocked_box rects) h (turned_back area r s))
    (off_map area rects (All-tail (λ (p : Placed). SharesPoint p.rect area → ⊥) (blocked_box r) (map blocked_box rects) h))

map_off : (area : Rect) (rects : List Rect) → All (λ r. SharesPoint area r → ⊥) rects → AreOff area (map blocked_box rects)
map_off area [] h = All-nil (λ (p : Placed). SharesPoint p.rect area → ⊥)
map_off area (r ∷ rects) h =
    All-cons (λ (p : Placed). SharesPoint p.rect area → ⊥) (blocked_box r) (map blocked_box rects)
    (λ s. All-head (λ (q : Rect). SharesPoint area q → ⊥) r rects h (turned_back r area s))
    (map_off area rects (All-tail (λ (q : Rect). SharesPoint area q → ⊥) r rects h))

pub blocked_all : (t : PlacedTeam) (cells boxes : List Placed) → AreOffCells t (length t.cells) cells → boxes ≡ cells ++ map blocked_box t.frame.soft
    → AreBlockedOf t boxes
blocked_all t cells boxes off is area =
    let Off : Placed → Type 0 = λ p. SharesPoint p.rect area → ⊥ in
    let whole : take (length t.cells) t.cells ≡ t.cells = take_all (length t.cells) t.cells (omega arith) in (
      λ h.
          let both : All Off (cells ++ map blocked_box t.frame.soft) = subst (All Off) is h in
          record {
            apart = subst (All (KeepsApart t area)) whole ((off area).0 (all_left Off cells (map blocked_box t.frame.soft) both));
            off_soft = not_any (SharesPoint area) t.frame.soft (off_map area t.frame.soft (all_right Off cells (map blocked_box t.frame.soft) both));
          },
      λ u.
          subst (All Off) (sym is) (All-append Off cells (map blocked_box t.frame.soft) ((off area).1 (subst (All (KeepsApart t area)) (sym whole) u.apart))
          (map_off area t.frame.soft (all_not (SharesPoint area) t.frame.soft u.off_soft))),
    )

-- the same boxes in another order
pub blocked_moved : (t : PlacedTeam) (boxes moved : List Placed) → IsPermutation boxes moved → AreBlockedOf t boxes → AreBlockedOf t moved
blocked_moved t boxes moved same are area =
    let Off : Placed → Type 0 = λ p. SharesPoint p.rect area → ⊥ in
    (λ h. (are area).0 (All-permutation Off moved boxes (IsPermutation-sym boxes moved same) h), λ u. All-permutation Off boxes moved same ((are area).1 u))
