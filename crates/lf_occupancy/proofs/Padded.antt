-- Entries widened by a padding.
use Rattle.std.proofs.Common.{◌≡◌, ◌⊎◌, inl, inr, ℕ, ◌+◌, ◌<◌, ℤ, pos, ◌+ℤ◌, ◌-ℤ◌, ◌*ℤ◌, ◌≤ℤ◌, ◌<ℤ◌, Bool, true, false, cond, List, [], ◌∷◌, ◌++◌, Option}
use Rattle.std.proofs.Common.{length, get_or, take, eqb, sym, ap, subst, ◌∙◌, arith}
use Rattle.std.specs.Prelude.{All, Contains, not}
use Rattle.std.proofs.lemmas.Bool.Decides.{nat_tests}
use Rattle.std.proofs.lemmas.Int.{ints}
use Rattle.std.proofs.lemmas.List.{append-nil, get_or-map, get_or_default, length-map, map-append, take_more}
use Rattle.std.proofs.lemmas.List.Elements.{All-contains, All-map, Contains-get_or, filter-append}
use Rattle.lf_units.specs.declared.geometry.Rect.{Rect}
use Rattle.lf_units.specs.declared.span.Span.{Span}
use Rattle.lf_units.specs.Spans.{AreDisjoint, IsDisjointFrom}
use Rattle.lf_occupancy.specs.declared.strip_marks.Entry.{Entry}
use Rattle.lf_occupancy.specs.declared.strip_marks.Mark.{Mark}
use Rattle.lf_occupancy.specs.MarkLists.{AreInOrder, IsNearRun, all_padded, marked_entries, marked_entry, others_in, widened_entry, spans_in, wider_range, x_range}
use Rattle.lf_occupancy.proofs.Laning.{entry_there}
use Rattle.lf_occupancy.proofs.Runs.{apart_each, each_apart, all_apart_each, each_all_apart, near_in}

pub padded_in_order : (by : ℤ) (es : List Entry) → AreInOrder es → AreInOrder (all_padded by es)
padded_in_order by es order i j d less within =
    let long = length-map es (widened_entry by) in
    let inner : j < length es = omega (arith, long, within) in
    let first : (get_or (all_padded by es) i d).area.x1 ≡ (get_or es i d).area.x1 -ℤ by =
    ap (λ (e : Entry). e.area.x1) (get_or-map (widened_entry by) es i d d (omega (arith, less, inner))) in
    let second : (get_or (all_padded by es) j d).area.x1 ≡ (get_or es j d).area.x1 -ℤ by =
    ap (λ (e : Entry). e.area.x1) (get_or-map (widened_entry by) es j d d inner) in
    let up = order i j d less inner in
    omega (arith, ints, first, second, up)

pub padded_narrow : (by widest : ℤ) (es : List Entry) → All (λ e. (e.area.x2 -ℤ e.area.x1) ≤ℤ widest) es →
    All (λ e. (e.area.x2 -ℤ e.area.x1) ≤ℤ (widest +ℤ (pos 2 *ℤ by))) (all_padded by es)
padded_narrow by widest es wide =
    All-map (λ e. (e.area.x2 -ℤ e.area.x1) ≤ℤ (widest +ℤ (pos 2 *ℤ by))) (widened_entry by) es (λ k d within. let h = wide k d within in omega (arith, ints, h))

pub padded_near : (by : ℤ) (es near : List Entry) (lo hi low high : ℤ) → low ≡ lo -ℤ by → high ≡ hi +ℤ by → IsNearRun es low high near →
    IsNearRun (all_padded by es) lo hi (all_padded by near)
padded_near by es near lo hi low high from to run = record {
  before = all_padded by run.before;
  after_it = all_padded by run.after_it;
  parts = ap (all_padded by) run.parts ∙ map-append (widened_entry by) run.before (near ++ run.after_it)
      ∙ ap (λ (rest : List Entry). all_padded by run.before ++ rest) (map-append (widened_entry by) near run.after_it);
  left = All-map (λ e. e.area.x2 ≤ℤ lo) (widened_entry by) run.before (λ k d within. let h = run.left k d within in omega (arith, ints, h, from));
  right = All-map (λ e. hi ≤ℤ e.area.x1) (widened_entry by) run.after_it (λ k d within. let h = run.right k d within in omega (arith, ints, h, to));
}

pub padded_there : (by : ℤ) (es : List Entry) (e : Entry) → Contains es e → Contains (all_padded by es) (widened_entry by e)
padded_there by es e (k, within, is) =
    let long = length-map es (widened_entry by) in
    (k, omega (arith, within, long), get_or-map (widened_entry by) es k e (widened_entry by e) within ∙ ap (widened_entry by) is)

pub there_padded : (by : ℤ) (es : List Entry) (e : Entry) → Contains (all_padded by es) e → (x : Entry) × (Contains es x × (e ≡ widened_entry by x))
there_padded by es e (k, within, is) =
    let long = length-map es (widened_entry by) in
    let inner : k < length es = omega (arith, within, long) in
    (get_or es k e, ((k, inner, same_at es k e inner), sym is ∙ get_or-map (widened_entry by) es k e e inner))
  where
    same_at : (xs : List Entry) (i : ℕ) (d : Entry) → i < length xs → get_or xs i (get_or xs i d) ≡ get_or xs i d
    same_at xs i d inside = get_or_default xs i (get_or xs i d) d inside

-- what holds for each of the other cells' entries, after they are widened
pub other_padded : (by : ℤ) (es : List Entry) (own : ℕ) (s : Span) → IsDisjointFrom (spans_in (others_in (all_padded by es) own)) s → (e : Entry) → Contains es e →
    (e.own ≡ own → ⊥) → AreDisjoint s (x_range (widened_entry by e).area)
other_padded by es own s apart e there other = apart_each (all_padded by es) own s apart (widened_entry by e) (padded_there by es e there) other

pub others_padded : (by : ℤ) (es : List Entry) (own : ℕ) (s : Span) →
    ((e : Entry) → Contains es e → (e.own ≡ own → ⊥) → AreDisjoint s (x_range (widened_entry by e).area)) → IsDisjointFrom (spans_in (others_in (all_padded by es) own)) s
others_padded by es own s each =
    each_apart (all_padded by es) own s
    (λ e there other.
    let found = there_padded by es e there in
    let At : Entry → Type 0 = λ x. AreDisjoint s (x_range x.area) in
    subst At (sym found.1.1) (each found.0 found.1.0 (λ same. other (ap (λ (x : Entry). x.own) found.1.1 ∙ same))))

pub one_padded : (by : ℤ) (es : List Entry) (s : Span) → IsDisjointFrom (spans_in (all_padded by es)) s → (e : Entry) → Contains es e →
    AreDisjoint s (x_range (widened_entry by e).area)
one_padded by es s apart e there = all_apart_each (all_padded by es) s apart (widened_entry by e) (padded_there by es e there)

pub each_padded : (by : ℤ) (es : List Entry) (s : Span) → ((e : Entry) → Contains es e → AreDisjoint s (x_range (widened_entry by e).area)) →
    IsDisjointFrom (spans_in (all_padded by es)) s
each_padded by es s each =
    each_all_apart (all_padded by es) s
    (λ e there.
    let found = there_padded by es e there in
    let At : Entry → Type 0 = λ x. AreDisjoint s (x_range x.area) in
    subst At (sym found.1.1) (each found.0 found.1.0))

-- what holds for the strip's entries holds for those near a range
pub near_each : (P : Entry → Type 0) (es near : List Entry) (lo hi : ℤ) → IsNearRun es lo hi near → All P es → All P near
near_each P es near lo hi run all k d within =
    All-contains P es (get_or near k d) all (near_in es near lo hi (get_or near k d) run (Contains-get_or near k d within))

-- a number between two that is no farther from this one than the length
pub record NearIn (lo hi by x : ℤ) : Type 0 where
  pub z : ℤ
  pub low : lo ≤ℤ z
  pub high : z <ℤ hi
  pub from : (z -ℤ by) ≤ℤ x
  pub to : x ≤ℤ (z +ℤ by)

pub nearest_in : (lo hi by x : ℤ) → lo <ℤ hi → (lo -ℤ by) ≤ℤ x → x <ℤ (hi +ℤ by) → pos 0 ≤ℤ by → NearIn lo hi by x
nearest_in lo hi by x wide low high some = elim order [
  | inl left ↦ record { z = lo; low = omega (arith, ints); high = wide; from = low; to = omega (arith, ints, left, some) }
  | inr (inl right) ↦ record {
    z = hi -ℤ pos 1;
    low = omega (arith, ints, wide);
    high = omega (arith, ints);
    from = omega (arith, ints, right, some);
    to = omega (arith, ints, high);
  }
  | inr (inr inside) ↦ record { z = x; low = inside.0; high = inside.1; from = omega (arith, ints, some); to = omega (arith, ints, some) }
]
  where
    order : (x <ℤ lo) ⊎ ((hi ≤ℤ x) ⊎ ((lo ≤ℤ x) × (x <ℤ hi)))
    order = grind (arith, ints)

-- one more entry
padded_further : (by : ℤ) (es : List Entry) (i : ℕ) (e : Entry) → i < length es → e ≡ get_or es i e →
    all_padded by (take (i + 1) es) ≡ all_padded by (take i es) ++ widened_entry by e ∷ []
padded_further by es i e within is =
    ap (λ (xs : List Entry). all_padded by xs) (take_more es i e within ∙ ap (λ (x : Entry). take i es ++ x ∷ []) (sym is))
    ∙ map-append (widened_entry by) (take i es) (e ∷ [])

further : (by : ℤ) (es : List Entry) (i : ℕ) (e : Entry) (own : ℕ) → i < length es → e ≡ get_or es i e →
    others_in (all_padded by (take (i + 1) es)) own ≡ others_in (all_padded by (take i es)) own ++ cond (not (eqb e.own own)) (widened_entry by e ∷ []) []
further by es i e own within is =
    ap (λ (xs : List Entry). others_in (all_padded by xs) own) (take_more es i e within ∙ ap (λ (x : Entry). take i es ++ x ∷ []) (sym is))
    ∙ ap (λ (xs : List Entry). others_in xs own) (map-append (widened_entry by) (take i es) (e ∷ []))
    ∙ filter-append (λ (x : Entry). not (eqb x.own own)) (all_padded by (take i es)) (widened_entry by e ∷ [])

-- one more entry of the others
pub other_further : (by : ℤ) (es : List Entry) (i : ℕ) (e : Entry) (own : ℕ) → i < length es → e ≡ get_or es i e → (e.own ≡ own → ⊥) →
    others_in (all_padded by (take (i + 1) es)) own ≡ others_in (all_padded by (take i es)) own ++ widened_entry by e ∷ []
other_further by es i e own within is apart =
    further by es i e own within is
    ∙ ap (λ (b : Bool). others_in (all_padded by (take i es)) own ++ cond b (widened_entry by e ∷ []) []) (apart_test e.own own apart)
  where
    apart_test : (a b : ℕ) → (a ≡ b → ⊥) → not (eqb a b) ≡ true
    apart_test a b away = grind (arith, nat_tests, away)

-- if the next entry is the cell's, no entry is added
pub other_no_further : (by : ℤ) (es : List Entry) (i : ℕ) (e : Entry) (own : ℕ) → i < length es → e ≡ get_or es i e → e.own ≡ own →
    others_in (all_padded by (take (i + 1) es)) own ≡ others_in (all_padded by (take i es)) own
other_no_further by es i e own within is same =
    further by es i e own within is
    ∙ ap (λ (b : Bool). others_in (all_padded by (take i es)) own ++ cond b (widened_entry by e ∷ []) []) (same_test e.own own same)
    ∙ append-nil (others_in (all_padded by (take i es)) own)
  where
    same_test : (a b : ℕ) → a ≡ b → not (eqb a b) ≡ false
    same_test a b is = grind (arith, nat_tests)

pub no_entry : Entry
no_entry = record { own = 0; area = record { x1 = pos 0; y1 = pos 0; x2 = pos 0; y2 = pos 0 } }

pub same_entry : (es : List Entry) (i : ℕ) → i < length es → get_or es i no_entry ≡ get_or es i (get_or es i no_entry)
same_entry es i within = get_or_default es i no_entry (get_or es i no_entry) within

-- the x range of a mark's entry is that of the entry at its position
pub range_there : (cells : List (Option Rect)) (area : Rect) (ms : List Mark) (i : ℕ) (m : Mark) (s : Span) → i < length ms →
    s ≡ x_range (marked_entry cells area (get_or ms i m)).area → s ≡ x_range (get_or (marked_entries cells area ms) i no_entry).area
range_there cells area ms i m s within is = is ∙ ap (λ (z : Entry). x_range z.area) (sym (entry_there cells area ms i no_entry m within))

-- the spans with one more entry
spans_more : (by : ℤ) (es : List Entry) (e : Entry) (s : Span) (old new : List Span) → old ≡ spans_in es → s ≡ wider_range by (x_range e.area) →
    new ≡ old ++ s ∷ [] → new ≡ spans_in (es ++ widened_entry by e ∷ [])
spans_more by es e s old new before is pushed =
    pushed ∙ ap (λ (t : Span). old ++ t ∷ []) is ∙ ap (λ (xs : List Span). xs ++ wider_range by (x_range e.area) ∷ []) before
    ∙ sym (map-append (λ (z : Entry). x_range z.area) es (widened_entry by e ∷ []))

-- one more of the spans
pub spans_further : (by : ℤ) (es : List Entry) (i : ℕ) (e : Entry) (s : Span) (old new : List Span) → i < length es → e ≡ get_or es i e →
    old ≡ spans_in (all_padded by (take i es)) → s ≡ wider_range by (x_range e.area) → new ≡ old ++ s ∷ [] → new ≡ spans_in (all_padded by (take (i + 1) es))
spans_further by es i e s old new within at before is pushed =
    spans_more by (all_padded by (take i es)) e s old new before is pushed ∙ ap spans_in (sym (padded_further by es i e within at))
