-- Tidying only moves cells.
use Rattle.std.proofs.Common.{◌≡◌, ℕ, zero, suc, ◌+◌, List, [], ◌∷◌, Option, Some, None, refl, ◌∙◌, ap, slice_get}
use Rattle.std.specs.Prelude.{map, slice_set, length}
use Rattle.lf_units.specs.declared.geometry.Point.{Point}
use Rattle.lf_floorplan.specs.declared.frame.Frame.{Frame}
use Rattle.lf_rules.specs.Choice.{SpotPlace, PlacementQuery}
use Rattle.lf_rules.specs.Legalizer.{Legalizer}
use Rattle.lf_rules.specs.Team.{Member, query_from}
use Rattle.lf_rules.specs.Tidy.{Tidied, Going, Stuck, target_of, tidied_to_best, tidied_to, tidied_own, tidy_cell, tidied_from, tidied}

abbrev macs_of : List Member → List ℕ
macs_of cells = map (λ m. m.mac) cells

abbrev placed_at : ℕ → Option SpotPlace → Member
placed_at mac place = record { mac = mac; place = place }

-- Setting a cell to another place keeps all macros.
macs_set : (cells : List Member) (n : ℕ) (m : Member) (place : Option SpotPlace) → slice_get cells n ≡ Some m → macs_of (slice_set cells n (placed_at m.mac place)) ≡ macs_of cells
macs_set [] n m place there = refl
macs_set (x ∷ cells) zero m place there =
    let same : m ≡ x = cc in
    ap (λ (y : Member). y.mac ∷ macs_of cells) same
macs_set (x ∷ cells) (suc n) m place there = ap (λ (macs : List ℕ). x.mac ∷ macs) (macs_set cells n m place there)

-- The macros so far are these.
abbrev HasMacs : List ℕ → Tidied → Type 0
HasMacs macs (Going cells moved) = macs_of cells ≡ macs
HasMacs macs (Stuck own) = Unit {0}

sent : (macs : List ℕ) (found : Option SpotPlace) (cells : List Member) (moved n : ℕ) (m : Member) → slice_get cells n ≡ Some m → macs_of cells ≡ macs → HasMacs macs (tidied_to_best found cells moved n m.mac)
sent macs None cells moved n m there is = tt
sent macs (Some p) cells moved n m there is = macs_set cells n m (Some p) there ∙ is

to_target : (macs : List ℕ) (target : Option Point) (l : Legalizer) (c : PlacementQuery) (cells : List Member) (moved n : ℕ) (m : Member) → slice_get cells n ≡ Some m → macs_of cells ≡ macs →
    HasMacs macs (tidied_to target l c cells moved n m.mac)
to_target macs None l c cells moved n m there is = is
to_target macs (Some target) l c cells moved n m there is = sent macs (l.best_place c target) cells moved n m there is

one_own : (macs : List ℕ) (found : Option Member) (l : Legalizer) (f : Frame) (team padding : ℕ) (cells : List Member) (moved n : ℕ) → slice_get cells n ≡ found → macs_of cells ≡ macs →
    HasMacs macs (tidied_own found l f team padding cells moved n)
one_own macs None l f team padding cells moved n there is = is
one_own macs (Some m) l f team padding cells moved n there is =
    to_target macs (target_of l (query_from f team padding cells n m.mac) m.place) l (query_from f team padding cells n m.mac) cells moved n m there is

one_cell : (macs : List ℕ) (l : Legalizer) (f : Frame) (team padding n : ℕ) (t : Tidied) → HasMacs macs t → HasMacs macs (tidy_cell l f team padding t n)
one_cell macs l f team padding n (Stuck own) is = tt
one_cell macs l f team padding n (Going cells moved) is = one_own macs (slice_get cells n) l f team padding cells moved n refl is

all_cells : (macs : List ℕ) (l : Legalizer) (f : Frame) (team padding n count : ℕ) (t : Tidied) → HasMacs macs t → HasMacs macs (tidied_from l f team padding n count t)
all_cells macs l f team padding n zero t is = is
all_cells macs l f team padding n (suc count) t is = all_cells macs l f team padding (n + 1) count (tidy_cell l f team padding t n) (one_cell macs l f team padding n t is)

going : (macs : List ℕ) (t : Tidied) (new : List Member) (moved : ℕ) → t ≡ Going new moved → HasMacs macs t → macs_of new ≡ macs
going macs t new moved is has = let at : HasMacs macs (Going new moved) = rw is at has in at

pub tidied_kept : (l : Legalizer) (f : Frame) (team padding : ℕ) (cells new : List Member) (moved : ℕ) → tidied l f team padding cells ≡ Going new moved → map (λ m. m.mac) new ≡ map (λ m. m.mac) cells
unfolding tidied
tidied_kept l f team padding cells new moved is =
    going (macs_of cells) (tidied l f team padding cells) new moved is (all_cells (macs_of cells) l f team padding 0 (length cells) (Going cells 0) refl)
