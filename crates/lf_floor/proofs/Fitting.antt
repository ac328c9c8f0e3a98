-- Undo entries for which room is reserved and that are pushed.
use Rattle.std.proofs.Common.{◌≡◌, ◌≤◌, ℕ, zero, suc, List, [], ◌∷◌, length, map, drop, get_or, None, refl, ap, sym, subst, ◌∙◌, arith}
use Rattle.std.specs.Prelude.{All}
use Rattle.std.specs.List.{range_with_len}
use Rattle.std.proofs.lemmas.List.{drop_all, length-map}
use Rattle.std.proofs.lemmas.List.FromFn.{fill_by_all}
use Rattle.std.proofs.lemmas.List.Elements.{All-cons, All-nil}
use Rattle.lf_cells.specs.declared.cell.Cell.{Cell}
use Rattle.lf_cells.specs.declared.cell.CellId.{CellId}
use Rattle.lf_cells.specs.Cells.{Cells, cells_of, id_of, ids_of, working_at}
use Rattle.lf_undo.specs.declared.moves.Move.{Move}
use Rattle.lf_undo.specs.Entries.{Places, entries_of, moves_taken_back}
use Rattle.lf_occupancy.specs.Views.{KeepsCapacities}
use Rattle.lf_placement.specs.Laws.{FittingIsStable}
use Rattle.lf_placement.specs.Placements.{Fits, Placing, SameButRooms, working_places_of}

-- ---- room

no_less : (rooms : List ℕ) → KeepsCapacities rooms rooms
no_less rooms = record { many = refl; each = λ n. omega arith }

no_less_then : (a b c : List ℕ) → KeepsCapacities a b → KeepsCapacities b c → KeepsCapacities a c
no_less_then a b c first next =
    record { many = next.many ∙ first.many; each = λ n. let x = first.each n in let y = next.each n in omega (arith, x, y) }

pub same_rooms : (p : Placing) → SameButRooms p p
same_rooms p = record { frame = refl; cells = refl; index = refl; site = refl; boxes = refl; rooms = no_less p.held.rooms }

pub rooms_then : (a b c : Placing) → SameButRooms a b → SameButRooms b c → SameButRooms a c
rooms_then a b c first next = record {
  frame = next.frame ∙ first.frame;
  cells = next.cells ∙ first.cells;
  index = next.index ∙ first.index;
  site = next.site ∙ first.site;
  boxes = next.boxes ∙ first.boxes;
  rooms = no_less_then a.held.rooms b.held.rooms c.held.rooms first.rooms next.rooms;
}

still_fits : FittingIsStable → (k : ℕ) (p q : Placing) (places : Places) → SameButRooms p q → Fits p k places → Fits q k places
still_fits last k p q places same fits =
    last p q k places same.frame same.index same.site same.rooms (ap (λ (cs : Cells). map (λ c. c.mac) (cells_of cs k)) same.cells) fits

-- the places before the next entry fit, and those before the other entries too
pub next_fits : FittingIsStable → (k : ℕ) (p q : Placing) (entries rest : List (List Move)) (moves : List Move) (before after : Places) → entries ≡ moves ∷ rest
    → after ≡ moves_taken_back moves before → Fits p k after → SameButRooms p q → All (Fits q k) (entries_of after rest) → All (Fits q k) (entries_of before entries)
next_fits last k p q entries rest moves before after are is fits same all =
    subst (λ (es : List (List Move)). All (Fits q k) (entries_of before es)) (sym are)
    (subst (λ (ps : Places). All (Fits q k) (ps ∷ entries_of ps rest)) is (All-cons (Fits q k) after (entries_of after rest) (still_fits last k p q after same fits) all))

pub none_fits : (k : ℕ) (p : Placing) (entries : List (List Move)) (places : Places) (n : ℕ) → length entries ≤ n → All (Fits p k) (entries_of places (drop n entries))
none_fits k p entries places n past =
    subst (λ (es : List (List Move)). All (Fits p k) (entries_of places es)) (sym (drop_all n entries past)) (All-nil (Fits p k))

-- ---- the working places of a team

working_there : (cells : List Cell) (own : ℕ) → get_or (working_places_of cells) own None ≡ working_at cells own
working_there [] own = refl
working_there (c ∷ cs) zero = refl
working_there (c ∷ cs) (suc own) = working_there cs own

map_twice : {X Y Z : Type 0} (f : Y → Z) (g : X → Y) (xs : List X) → map f (map g xs) ≡ map (λ x. f (g x)) xs
map_twice f g [] = refl
map_twice {Z = Z} f g (x ∷ xs) = ap (λ (zs : List Z). f (g x) ∷ zs) (map_twice f g xs)

-- the working places of the ids of the team's cells are those of the team
pub working_ids : (table : Cells) (team : ℕ) → map (λ id. working_at (cells_of table id.team) id.own) (ids_of team (cells_of table team)) ≡ working_places_of (cells_of table team)
working_ids table team =
    let cells = cells_of table team in
    map_twice (λ (id : CellId). working_at (cells_of table id.team) id.own) (id_of team) (range_with_len 0 (length cells))
    ∙ sym (fill_by_all (working_at cells) (working_places_of cells) (length cells) None (length-map cells (λ (c : Cell). c.working)) (λ k less. working_there cells k))
