-- The entries of strips, given the boxes that they mark.
use Rattle.std.proofs.Common.{◌≡◌, ℕ, zero, suc, ◌<◌, ◌≤◌, ℤ, pos, ◌-ℤ◌, ◌≤ℤ◌, ◌<ℤ◌, List, [], ◌∷◌, Option, length, get_or, map, take, drop}
use Rattle.std.proofs.Common.{refl, sym, ap, subst, ◌∙◌, arith}
use Rattle.std.specs.Prelude.{All}
use Rattle.std.proofs.lemmas.Int.{ints}
use Rattle.std.proofs.lemmas.List.Elements.{All-drop}
use Rattle.lf_units.specs.declared.geometry.Rect.{Rect}
use Rattle.lf_rules.specs.Padding.{HasRoomAround}
use Rattle.lf_segments.specs.declared.strip.Strip.{Strip}
use Rattle.lf_occupancy.specs.declared.strip_marks.Entry.{Entry}
use Rattle.lf_occupancy.specs.declared.strip_marks.StripMarks.{StripMarks}
use Rattle.lf_occupancy.specs.declared.strip_marks.Mark.{Mark}
use Rattle.lf_occupancy.specs.MarkLists.{MarksAreOf, ShowsBoxes, IsMarked, IsNearRun, IsNearZero, StripView, MarkIsOf, marked_entries, marked_entry, strip_view}
use Rattle.lf_occupancy.specs.Strips.{ShowAllBoxes, AreShown, widened_strips, strip_views}
use Rattle.lf_occupancy.proofs.Around.{widened_at}
use Rattle.lf_occupancy.proofs.Changes.{some_mark_list}
use Rattle.lf_occupancy.proofs.Finds.{no_strip}
use Rattle.lf_occupancy.proofs.Laning.{entries_many, entry_there}
use Rattle.lf_occupancy.proofs.Runs.{near_run}

pub shown_many : (xs : List Strip) (boxes : List (List (Option Rect))) (mark_lists : List StripMarks) → length mark_lists ≡ length xs →
    length (strip_views xs boxes mark_lists) ≡ length xs
shown_many [] boxes mark_lists many = refl
shown_many (g ∷ xs) boxes [] many = absurd (omega (arith, many))
shown_many (g ∷ xs) boxes (l ∷ mark_lists) many = let h = shown_many xs boxes mark_lists (omega (arith, many)) in omega (arith, h)

pub shown_at : (xs : List Strip) (boxes : List (List (Option Rect))) (mark_lists : List StripMarks) (n : ℕ) (d : Strip) (e : StripView) (l : StripMarks) → length mark_lists ≡ length xs →
    n < length xs →
    get_or (strip_views xs boxes mark_lists) n e ≡ strip_view (get_or boxes (get_or xs n d).team []) (get_or xs n d).area (get_or mark_lists n l)
shown_at [] boxes mark_lists n d e l many within = absurd (omega (arith, within))
shown_at (g ∷ xs) boxes [] n d e l many within = absurd (omega (arith, many))
shown_at (g ∷ xs) boxes (x ∷ mark_lists) zero d e l many within = refl
shown_at (g ∷ xs) boxes (x ∷ mark_lists) (suc n) d e l many within = shown_at xs boxes mark_lists n d e l (omega (arith, many)) (omega (arith, within))

pub mark_lists_shown : (xs : List Strip) (boxes : List (List (Option Rect))) (mark_lists : List StripMarks) → ShowAllBoxes xs boxes mark_lists → AreShown xs boxes (strip_views xs boxes mark_lists)
mark_lists_shown xs boxes mark_lists are = record {
  many = shown_many xs boxes mark_lists are.many;
  each = λ n d e within.
      let many = are.many in
      let l : StripMarks = some_mark_list mark_lists n (omega (arith, many, within)) in
      subst (ShowsBoxes (get_or boxes (get_or xs n d).team []) (get_or xs n d).area) (sym (shown_at xs boxes mark_lists n d e l many within))
      (are.each n d l within).mark_list;
}

-- one of the strips
module _ (xs : List Strip) (boxes : List (List (Option Rect))) (mark_lists : List StripMarks) (n team : ℕ) (area : Rect) (mark_list : StripMarks) (are : ShowAllBoxes xs boxes mark_lists)
    (within : n < length xs) (of_team : (d : Strip) → (get_or xs n d).team ≡ team) (at : area ≡ (get_or xs n no_strip).area)
    (is : mark_list ≡ get_or mark_lists n mark_list) where
  pub one_marked : IsMarked (get_or boxes team []) area mark_list
  one_marked =
      subst (λ (l : StripMarks). IsMarked (get_or boxes team []) area l) (sym is)
      (subst (λ (a : Rect). IsMarked (get_or boxes team []) a (get_or mark_lists n mark_list)) (sym at)
      (subst (λ (t : ℕ). IsMarked (get_or boxes t []) (get_or xs n no_strip).area (get_or mark_lists n mark_list)) (of_team no_strip)
      (are.each n no_strip mark_list within)))

  pub one_shown : (e : StripView) → strip_view (get_or boxes team []) area mark_list ≡ get_or (strip_views xs boxes mark_lists) n e
  one_shown e =
      sym (shown_at xs boxes mark_lists n no_strip e mark_list are.many within
      ∙ ap (λ (t : ℕ). strip_view (get_or boxes t []) (get_or xs n no_strip).area (get_or mark_lists n mark_list)) (of_team no_strip)
      ∙ ap (λ (a : Rect). strip_view (get_or boxes team []) a (get_or mark_lists n mark_list)) (sym at)
      ∙ ap (λ (l : StripMarks). strip_view (get_or boxes team []) area l) (sym is))

-- a widened strip is of the same team
pub widened_team : (site : ℤ) (xs : List Strip) (n team : ℕ) → n < length xs → ((d : Strip) → (get_or xs n d).team ≡ team) →
    (d : Strip) → (get_or (widened_strips site xs) n d).team ≡ team
widened_team site xs n team within is d = ap (λ (g : Strip). g.team) (widened_at site xs n d d within) ∙ is d

-- a widened strip has room around its entries
pub roomy_mark_list : (cells : List (Option Rect)) (area : Rect) (l : StripView) → ShowsBoxes cells area l → IsNearZero area → All (λ e. HasRoomAround e.area) l.entries
roomy_mark_list cells area l mark_list near k d within =
    let a = near.low in
    let b = near.high in
    let inside = mark_list.inside k d within in
    let p = inside.left in
    let q = inside.right in
    record { low = omega (arith, ints, a, p); high = omega (arith, ints, b, q) }

map_take : (f : Mark → Entry) (n : ℕ) (ms : List Mark) → map f (take n ms) ≡ take n (map f ms)
map_take f zero ms = refl
map_take f (suc n) [] = refl
map_take f (suc n) (m ∷ ms) = ap (λ (es : List Entry). f m ∷ es) (map_take f n ms)

map_drop : (f : Mark → Entry) (n : ℕ) (ms : List Mark) → map f (drop n ms) ≡ drop n (map f ms)
map_drop f zero ms = refl
map_drop f (suc n) [] = refl
map_drop f (suc n) (m ∷ ms) = map_drop f n ms

-- the entries of the first marks
pub entries_take : (cells : List (Option Rect)) (area : Rect) (n : ℕ) (ms : List Mark) → marked_entries cells area (take n ms) ≡ take n (marked_entries cells area ms)
entries_take cells area n ms = map_take (marked_entry cells area) n ms

-- a part of the marks has the same entries
pub rest_reported : (cells : List (Option Rect)) (area : Rect) (l : StripMarks) (rest : List Mark) (f : ℕ) → IsMarked cells area l → rest ≡ drop f l.marks.items →
    MarksAreOf cells area rest
rest_reported cells area l rest f marked same =
    subst (MarksAreOf cells area) (sym same) (All-drop (λ m. MarkIsOf (marked_entry cells area m) m) f l.marks.items marked.reported)

-- the entries of the marks between the two positions
pub near_marked : (cells : List (Option Rect)) (area : Rect) (l : StripMarks) (rest : List Mark) (lo hi : ℤ) (f n : ℕ) → IsMarked cells area l →
    f ≤ length l.marks.items → rest ≡ drop f l.marks.items →
    ((k : ℕ) (d : Mark) → k < f → (get_or l.marks.items k d).left <ℤ (lo -ℤ l.widest)) →
    ((k : ℕ) (d : Mark) → n ≤ k → k < length rest → hi ≤ℤ (get_or rest k d).left) →
    IsNearRun (marked_entries cells area l.marks.items) lo hi (marked_entries cells area (take n rest))
near_marked cells area l rest lo hi f n marked bound same low high =
    subst (IsNearRun es lo hi) (sym (entries_take cells area n rest))
    (near_run es (marked_entries cells area rest) lo hi l.widest f n (omega (arith, bound, many))
    (ap (marked_entries cells area) same ∙ map_drop (marked_entry cells area) f ms) marked.mark_list.orderly.wide before after_it)
  where
    ms : List Mark
    ms = l.marks.items

    es : List Entry
    es = marked_entries cells area ms

    many : length es ≡ length ms
    many = entries_many cells area ms

    m0 : Mark
    m0 = record { own = 0; left = pos 0; width = pos 0 }

    before : (k : ℕ) (d : Entry) → k < f → (get_or es k d).area.x1 <ℤ (lo -ℤ l.widest)
    before k d less =
        let within : k < length ms = omega (arith, bound, less) in
        let h = low k m0 less in
        let at : (get_or es k d).area.x1 ≡ (marked_entry cells area (get_or ms k m0)).area.x1 =
        ap (λ (e : Entry). e.area.x1) (entry_there cells area ms k d m0 within) in
        let left = (marked.reported k m0 within).left in
        omega (arith, ints, h, at, left)

    reported : MarksAreOf cells area rest
    reported = rest_reported cells area l rest f marked same

    after_it : (k : ℕ) (d : Entry) → n ≤ k → k < length (marked_entries cells area rest) → hi ≤ℤ (get_or (marked_entries cells area rest) k d).area.x1
    after_it k d from until =
        let count = entries_many cells area rest in
        let within : k < length rest = omega (arith, until, count) in
        let h = high k m0 from within in
        let at : (get_or (marked_entries cells area rest) k d).area.x1 ≡ (marked_entry cells area (get_or rest k m0)).area.x1 =
        ap (λ (e : Entry). e.area.x1) (entry_there cells area rest k d m0 within) in
        let left = (reported k m0 within).left in
        omega (arith, ints, h, at, left)
