-- The boxes of a team's cells, one cell after the other.
use Rattle.std.proofs.Common.{◌≡◌, ◌<◌, ℕ, ◌+◌, List, [], ◌∷◌, ◌++◌, Bool, true, false, cond, not, eqb, length, map, filter, get_or, drop}
use Rattle.std.proofs.Common.{Option, Some, None, refl, ap, sym, ◌∙◌, arith}
use Rattle.std.specs.Prelude.{slice_get, option_map}
use Rattle.std.proofs.lemmas.List.{drop_more}
use Rattle.std.proofs.lemmas.Option.{slice_get-get_or}
use Rattle.lf_floorplan.specs.declared.frame.Frame.{Frame}
use Rattle.lf_units.specs.declared.placed.Placed.{Placed}
use Rattle.lf_rules.specs.Choice.{SpotPlace, spot_of}
use Rattle.lf_rules.specs.Team.{box_in, with_box, boxes_from}
use Rattle.lf_cells.specs.declared.cell.Cell.{Cell}
use Rattle.lf_legalize.specs.Members.{member_of}
use Rattle.lf_legalize.specs.Others.{beside_one}

-- the boxes of the cells from this position on, except that of the cell `own`
abbrev pub beside_from : Frame → ℕ → ℕ → List Cell → List Placed
beside_from f own n cells = filter (λ p. not (eqb p.own own)) (boxes_from f n (map member_of cells))

with_rest : (f : Frame) (own n mac : ℕ) (p : Option SpotPlace) (rest : List Placed)
    → filter (λ (b : Placed). not (eqb b.own own)) (with_box f n mac p rest)
    ≡ filter (λ (b : Placed). not (eqb b.own own)) (with_box f n mac p []) ++ filter (λ (b : Placed). not (eqb b.own own)) rest
with_rest f own n mac None rest = refl
with_rest f own n mac (Some p) rest = go (not (eqb n own)) where
  box : Placed
  box = record { own = n; rect = box_in f mac p }

  go : (b : Bool) → cond b (box ∷ filter (λ (x : Placed). not (eqb x.own own)) rest) (filter (λ (x : Placed). not (eqb x.own own)) rest)
      ≡ cond b (box ∷ []) [] ++ filter (λ (x : Placed). not (eqb x.own own)) rest
  go true = refl
  go false = refl

-- the boxes from a cell on are its own and those after it
pub beside_step : (f : Frame) (own n : ℕ) (cells : List Cell) → n < length cells
    → beside_from f own n (drop n cells) ≡ beside_one f own n (slice_get cells n) ++ beside_from f own (n + 1) (drop (n + 1) cells)
beside_step f own n cells within = go cells within (drop_more cells n)
  where
    go : (all : List Cell) → n < length all → ((d : Cell) → n < length all → drop n all ≡ get_or all n d ∷ drop (n + 1) all)
        → beside_from f own n (drop n all) ≡ beside_one f own n (slice_get all n) ++ beside_from f own (n + 1) (drop (n + 1) all)
    go [] inside more = absurd (omega (arith, inside))
    go (d ∷ ds) inside more =
        let c = get_or (d ∷ ds) n d in
        ap (λ (xs : List Cell). beside_from f own n xs) (more d inside)
        ∙ with_rest f own n c.mac (option_map spot_of c.working) (boxes_from f (n + 1) (map member_of (drop (n + 1) (d ∷ ds))))
        ∙ ap (λ (o : Option Cell). beside_one f own n o ++ beside_from f own (n + 1) (drop (n + 1) (d ∷ ds))) (sym (slice_get-get_or (d ∷ ds) n d inside))
