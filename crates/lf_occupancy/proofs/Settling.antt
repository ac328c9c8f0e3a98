-- Ranges of strips, and cells that are marked in them.
use Rattle.std.proofs.Common.{◌≡◌, ◌≢◌, ℕ, ◌+◌, ◌<◌, ◌≤◌, List, length, get_or, take, sym, subst, arith}
use Rattle.std.specs.Prelude.{All, AllPairs, Err, Ok, OnErr, Result}
use Rattle.std.proofs.lemmas.List.{take_all}
use Rattle.lf_units.specs.declared.geometry.Rect.{Rect}
use Rattle.lf_segments.specs.declared.rows_by_y.RowEntry.{RowEntry}
use Rattle.lf_segments.specs.declared.strip.Strip.{Strip}
use Rattle.lf_segments.specs.declared.strips.StripRange.{StripRange}
use Rattle.lf_segments.specs.Strips.{AreNear}
use Rattle.lf_occupancy.specs.declared.strip_marks.StripMarks.{StripMarks}
use Rattle.lf_occupancy.specs.MarkLists.{AreRising, TakesPart}
use Rattle.lf_occupancy.specs.Reserving.{AreReservedAndMarked, IsOneOf}
use Rattle.lf_occupancy.specs.Strips.{AreChanged, KeepMarksOf, CanTake, HaveRoom, IsReached, IsReachedIn, PutsIn}
use Rattle.lf_occupancy.proofs.Changes.{IsBetween, changed_alike, kept_along, other_row, rows_further}
use Rattle.lf_occupancy.proofs.Finds.{no_strip}

-- each strip of the range is changed
pub changed_in_run : {X : Type 0} (near : StripRange) (k : ℕ) (Change : ℕ → X → X → Type 0) (old new : List X) → near.end ≤ k →
    AreChanged (IsBetween near.start k near.end) Change old new → AreChanged (IsOneOf near) Change old new
changed_in_run near k Change old new past a = changed_alike (IsBetween near.start k near.end) (IsOneOf near) Change old new
    (λ n within b. (b.from, b.until))
    (λ n within one. let until = one.1 in record { from = one.0; below = omega (arith, until, past); until = until })
    a

-- the strips of the row that the rectangle reaches are those of the range
pub reached_in_run : (xs : List Strip) (row team : ℕ) (rect : Rect) (near : StripRange) → AreNear xs row team rect.x1 rect.x2 near.start near.end →
    (n : ℕ) → IsReachedIn xs row team rect n → IsOneOf near n
reached_in_run xs row team rect near are n r = (are.exact n no_strip r.0).1 (r.1 no_strip)

pub run_is_reached : (xs : List Strip) (row team : ℕ) (rect : Rect) (near : StripRange) → AreNear xs row team rect.x1 rect.x2 near.start near.end →
    (n : ℕ) → IsOneOf near n → IsReachedIn xs row team rect n
run_is_reached xs row team rect near are n one =
    let bound = are.within in
    let until = one.1 in
    let inner : n < length xs = omega (arith, bound, until) in
    (inner, λ d. (are.exact n d inner).0 one)

pub changed_in_row : {X : Type 0} (xs : List Strip) (row team : ℕ) (rect : Rect) (near : StripRange) (Change : ℕ → X → X → Type 0) (old new : List X) →
    AreNear xs row team rect.x1 rect.x2 near.start near.end → AreChanged (IsOneOf near) Change old new →
    AreChanged (IsReachedIn xs row team rect) Change old new
changed_in_row xs row team rect near Change old new are = changed_alike (IsOneOf near) (IsReachedIn xs row team rect) Change old new
    (λ n within one. run_is_reached xs row team rect near are n one) (λ n within r. reached_in_run xs row team rect near are n r)

-- strips with room, whose marks are in order, take a part of the rectangle
pub takes_room : (xs : List Strip) (rect : Rect) (Chosen : ℕ → Type 0) (mark_lists : List StripMarks) → ((n : ℕ) → Chosen n → n < length mark_lists) →
    All (λ l. AreRising l.marks.items) mark_lists → HaveRoom Chosen 1 mark_lists → CanTake xs rect Chosen mark_lists
takes_room xs rect Chosen mark_lists inside rising room n d e chosen =
    record { order = rising n e (inside n chosen); room = λ whole. let h = room n e chosen in omega (arith, h) }

-- strips of a row that had room still take a part of the rectangle after the cell is marked in the
-- rows in front of it
pub settled_takes : (xs : List Strip) (rows : List RowEntry) (i : ℕ) (r : RowEntry) (team own : ℕ) (rect : Rect) (near : StripRange) (mid new : List StripMarks) →
    AllPairs (λ a b. a.row ≢ b.row) rows → i < length rows → r ≡ get_or rows i r → AreNear xs r.row team rect.x1 rect.x2 near.start near.end →
    length mid ≡ length xs → All (λ l. AreRising l.marks.items) mid → HaveRoom (IsOneOf near) 1 mid →
    AreReservedAndMarked xs own rect (IsReached xs (take i rows) team rect) mid new → CanTake xs rect (IsOneOf near) new
settled_takes xs rows i r team own rect near mid new once inside is are many rising room s n d e one =
    let reached = run_is_reached xs r.row team rect near are n one in
    let within = reached.0 in
    let inner : n < length mid = omega (arith, within, many) in
    let long = s.kept.many in
    let same = s.put.others n e (omega (arith, inner, long)) (λ before. other_row xs rows i r team rect n once inside is before reached) in
    let kept = s.kept.each n e inner in
    subst (TakesPart (get_or xs n d).area rect) (sym same) record {
      order = subst AreRising (sym kept.marks) (rising n e inner);
      room = λ whole. let h = room n e one in let k = kept.many in let l = kept.room in omega (arith, h, k, l);
    }

-- with its parts marked in this row, the cell is marked in one row more
pub settled_further : (xs : List Strip) (rows : List RowEntry) (i : ℕ) (r : RowEntry) (team own : ℕ) (rect : Rect) (near : StripRange)
    (old mid settled new : List StripMarks) →
    AllPairs (λ a b. a.row ≢ b.row) rows → i + 1 ≡ length rows → r ≡ get_or rows i r → AreNear xs r.row team rect.x1 rect.x2 near.start near.end →
    KeepMarksOf old mid → AreReservedAndMarked xs own rect (IsReached xs (take i rows) team rect) mid settled → AreChanged (IsOneOf near) (PutsIn xs own rect) settled new →
    AreReservedAndMarked xs own rect (IsReached xs rows team rect) old new
settled_further xs rows i r team own rect near old mid settled new once long is are kept s put = record {
  roomy = s.roomy;
  kept = kept_along old mid s.roomy kept s.kept;
  put = subst (λ (es : List RowEntry). AreChanged (IsReached xs es team rect) (PutsIn xs own rect) s.roomy new) (take_all (i + 1) rows (omega (arith, long)))
      (rows_further (PutsIn xs own rect) xs rows i r team rect s.roomy settled new once (omega (arith, long)) is s.put
      (changed_in_row xs r.row team rect near (PutsIn xs own rect) settled new are put));
}

-- a property that always holds also holds on an error
pub on_err : {T E P : Type 0} (r : Result T E) → P → OnErr r P
on_err (Ok x) p = tt
on_err (Err e) p = p
