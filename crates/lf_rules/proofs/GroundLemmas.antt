-- A box is in open ground iff it shares no point with a fence's rectangle. Only the ground team has
-- open ground.
use Rattle.std.proofs.Common.{◌≡◌, ℕ, ℤ, ◌<ℤ◌, List, length, None, get_or, slice_get, arith}
use Rattle.std.proofs.lemmas.Int.{ints}
use Rattle.std.specs.Prelude.{All}
use Rattle.std.proofs.lemmas.Grind.{common_steps}
use Rattle.lf_units.specs.declared.geometry.Rect.{Rect}
use Rattle.lf_units.specs.Area.{Covers, SharesPoint, CoveredBy}
use Rattle.lf_floorplan.specs.Ground.{InGround, StaysInGround}
use Rattle.lf_floorplan.specs.declared.frame.Frame.{Frame}
use Rattle.lf_floorplan.specs.declared.parts.Team.{Team}

-- The box shares no point with a fence's rectangle.
abbrev pub IsClear : Rect → List Team → Type 0
IsClear rect teams = All (λ u. All (λ r. SharesPoint rect r → ⊥) u.rects) teams

pub open_of_clear : (rect : Rect) (teams : List Team) → IsClear rect teams → (x y : ℤ) → Covers rect x y → All (λ u. CoveredBy u.rects x y → ⊥) teams
open_of_clear rect teams h x y c k d lt v =
    let e = v.3 in
    let apart = h k d lt v.0 v.1 v.2 in
    apart (rw e record { x = x; y = y; in_first = c; in_second = v.4 })

pub clear_of_open : (rect : Rect) (teams : List Team) → ((x y : ℤ) → Covers rect x y → All (λ u. CoveredBy u.rects x y → ⊥) teams) → IsClear rect teams
clear_of_open rect teams h k d lt n r within s =
    h s.x s.y s.in_first k d lt (n, get_or (get_or teams k d).rects n r, within, grind (arith, common_steps), s.in_second)

-- No fence covers a point of the box.
abbrev pub IsOpen : Rect → List Team → Type 0
IsOpen rect teams = (x y : ℤ) → Covers rect x y → All (λ u. CoveredBy u.rects x y → ⊥) teams

pub stays_in_open : (f : Frame) (team : ℕ) (box : Rect) → slice_get f.teams team ≡ None → team ≡ length f.teams → IsOpen box f.teams → StaysInGround f team box
stays_in_open f team box none is open_there x y c = rw none (is, open_there x y c)

pub open_of_stays : (f : Frame) (team : ℕ) (box : Rect) → slice_get f.teams team ≡ None → StaysInGround f team box → IsOpen box f.teams
open_of_stays f team box none stays x y c = let held : InGround f team x y = stays x y c in (rw none at held).1

-- A number that is no team's has no ground, so no box with points stays in it.
pub no_ground : (f : Frame) (team : ℕ) (box : Rect) → box.x1 <ℤ box.x2 → box.y1 <ℤ box.y2 → slice_get f.teams team ≡ None → StaysInGround f team box → team ≡ length f.teams
no_ground f team box wide high none stays =
    let held : InGround f team box.x1 box.y1 = stays box.x1 box.y1 record { left = omega (arith, ints); right = wide; bottom = omega (arith, ints); top = high } in
    (rw none at held).0
