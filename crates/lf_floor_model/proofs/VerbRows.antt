-- The worked rows of verbs.
use Rattle.std.proofs.Common.{◌≡◌, ℕ, ◌<◌, List, ◌∷◌, true, false, ltb, take, Option, refl, ap, arith}
use Rattle.std.proofs.lemmas.Bool.{lt-ltb}
use Rattle.lf_floorplan.specs.declared.place.Place.{Place}
use Rattle.lf_proto.proofs.Places.{place_at-some}
use Rattle.lf_floor_model.specs.Teams.{TeamRules}
use Rattle.lf_floor_model.specs.Sessions.{opened, closed, synced}
use Rattle.lf_floor_model.specs.Queries.{located, found}
use Rattle.lf_floor_model.specs.Changes.{placed, unplaced, legalized, tidied_team, swapped, reverted, undone, committed, padded}
use Rattle.lf_floor_model.specs.VerbRows.{HasRoomForRows, SessionRow, StaleRow, UndoRow, SpentRow, BestRow, NoPlaceRow, TidyRow, TidyCommitRow, CommitRow, RefusedRow, SwapRow, PadRow}

-- each revision up to nine is below the limit
more_left : (t : TeamRules) (n : ℕ) → 9 < t.frame.limits.revisions → n < 10 → ltb n t.frame.limits.revisions ≡ true
more_left t n room small = lt-ltb n t.frame.limits.revisions (omega (arith, room, small))

left : (t : TeamRules) (n : ℕ) → HasRoomForRows t → n < 10 → ltb n t.frame.limits.revisions ≡ true
left t n room = more_left t n room.revisions

-- the newest entry is kept
newest : (t : TeamRules) → HasRoomForRows t → (x : List (Option Place)) (xs : List (List (Option Place))) → take t.frame.limits.undo (x ∷ xs) ≡ x ∷ take 63 xs
newest t room x xs = ap (λ (n : ℕ). take n (x ∷ xs)) room.undo

-- if two changes can be undone, the two newest entries are kept
two_kept : (t : TeamRules) → t.frame.limits.undo ≡ 2 → (entries : List (List (Option Place))) → take t.frame.limits.undo entries ≡ take 2 entries
two_kept t is entries = ap (λ (n : ℕ). take n entries) is

pub session_row : SessionRow
unfolding opened closed located
session_row t cells = refl

pub undo_row : UndoRow
unfolding placed undone located
undo_row t p q r room two first second third =
    rw (
      more_left t 0 room (omega arith),
      first,
      two_kept t two _,
      more_left t 1 room (omega arith),
      second,
      two_kept t two _,
      more_left t 2 room (omega arith),
      third,
      two_kept t two _,
      more_left t 3 room (omega arith),
      more_left t 4 room (omega arith),
      more_left t 5 room (omega arith),
    ) refl

pub spent_row : SpentRow
spent_row t change entries cells is =
    let spent : ltb 3 t.frame.limits.revisions ≡ false = ap (λ (n : ℕ). ltb 3 n) is in
    rw spent refl

pub stale_row : StaleRow
unfolding synced placed located
stale_row t p q room none = rw (left t 1 room (omega arith), none) refl

pub best_row : BestRow
unfolding found located legalized
best_row t target best room is = rw (is, left t 0 room (omega arith), is) refl

pub no_place_row : NoPlaceRow
unfolding found located legalized tidied_team undone
no_place_row t target room none stuck =
    let more = left t 0 room (omega arith) in
    rw (none, more, none, more, stuck, more) refl

pub tidy_row : TidyRow
unfolding tidied_team located
tidy_row t p q r room is = rw (left t 0 room (omega arith), is, place_at-some p, place_at-some q, place_at-some r) refl

pub tidy_commit_row : TidyCommitRow
unfolding tidied_team located committed
tidy_commit_row t p q r room is none =
    rw (left t 0 room (omega arith), is, place_at-some p, place_at-some q, place_at-some r, left t 1 room (omega arith), none) refl

pub commit_row : CommitRow
unfolding committed unplaced reverted located
commit_row t p q r room none =
    rw (left t 1 room (omega arith), none, left t 2 room (omega arith), left t 3 room (omega arith), left t 3 room (omega arith)) refl

pub refused_row : RefusedRow
unfolding committed placed swapped
refused_row t p q room =
    let more = left t 1 room (omega arith) in
    rw (more, more, more, more) refl

pub swap_row : SwapRow
unfolding swapped located undone
swap_row t p q r room first second apart does_overlap =
    rw (left t 3 room (omega arith), first, second, left t 4 room (omega arith), newest t room _ _, left t 5 room (omega arith), apart, does_overlap) refl

pub pad_row : PadRow
unfolding placed padded located undone
pad_row t padding p q room none =
    rw (left t 0 room (omega arith), none, newest t room _ _, left t 1 room (omega arith), left t 2 room (omega arith)) refl
