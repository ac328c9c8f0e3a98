-- The cells of a team, batch by batch.
use Rattle.std.proofs.Common.{◌≡◌, ◌≢◌, ◌⊎◌, inl, inr, ℕ, ◌+◌, ◌-◌, ◌<◌, ◌≤◌, List, Option, Some}
use Rattle.std.proofs.Common.{length, get_or, map, take, drop, min, refl, ap, subst, sym, ◌∙◌, zero-add, arith}
use Rattle.std.specs.Prelude.{All, AllPairs, Contains, IsPermutation, IsSome, ◌↔◌}
use Rattle.std.proofs.Math.ListN.{drop_of_length-le}
use Rattle.std.proofs.lemmas.List.{get_or-drop, get_or-take, length-drop, length-take, take_all}
use Rattle.std.proofs.lemmas.List.FromFn.{get_or-map-range_with_len}
use Rattle.std.proofs.lemmas.List.Sorted.{Contains-permutation, IsPermutation-sym}
use Rattle.std.proofs.lemmas.Option.{slice_get-get_or, slice_get_within}
use Rattle.lf_cells.specs.declared.cell.Cell.{Cell}
use Rattle.lf_cells.specs.declared.cell.CellId.{CellId}
use Rattle.lf_cells.specs.Cells.{AreAllIds, Cells, cell_at, cells_of, id_of, ids_of}
use Rattle.lf_cells.proofs.TeamIds.{ids_many}
use Rattle.lf_occupancy.specs.Building.{PrecedesCell, id_at}
use Rattle.lf_occupancy.proofs.Building.{AreAllDone, fresh_id, ids_apart, some_cell}

one_or_past : (own from : ℕ) → (own < from) ⊎ (from ≤ own)
one_or_past own from = grind arith

-- a batch of a list from a position on, no longer than the rest of the list
pub part_read : (most from start count : ℕ) (ids : List CellId) → start ≡ min from (length ids) →
    count ≡ min most (length (take (length ids - start) (drop start ids))) →
    take count (take (length ids - start) (drop start ids)) ≡ take most (drop from ids)
part_read most from start count ids begins many =
    let rest = drop start ids in
    let long = length-drop start ids in
    let all : take (length ids - start) rest ≡ rest = take_all (length ids - start) rest (omega (arith, long)) in
    let many_left : count ≡ min most (length rest) = many ∙ ap (λ (xs : List CellId). min most (length xs)) all in
    ap (take count) all ∙ taken rest many_left ∙ ap (take most) (dropped (one_or_past from (length ids)))
  where
    taken : (rest : List CellId) → count ≡ min most (length rest) → take count rest ≡ take most rest
    taken rest many_left = elim (one_or_past most (length rest)) [
      | inl less ↦ ap (λ (n : ℕ). take n rest) (omega (arith, less, many_left))
      | inr past ↦ take_all count rest (omega (arith, past, many_left)) ∙ sym (take_all most rest past)
    ]

    dropped : (from < length ids) ⊎ (length ids ≤ from) → drop start ids ≡ drop from ids
    dropped (inl less) = ap (λ (n : ℕ). drop n ids) (omega (arith, less, begins))
    dropped (inr past) = drop_of_length-le ids (omega (arith, past, begins)) ∙ sym (drop_of_length-le ids past)

-- the ids of the team's cells from position `from` on, at most `most` of them
abbrev pub part : ℕ → ℕ → ℕ → List Cell → List CellId
part most from team cells = take most (drop from (ids_of team cells))

part_many : (most from team : ℕ) (cells : List Cell) → length (part most from team cells) ≡ min most (length cells - from)
part_many most from team cells =
    length-take most (drop from (ids_of team cells))
    ∙ ap (min most) (length-drop from (ids_of team cells) ∙ ap (λ (n : ℕ). n - from) (ids_many team cells))

-- the id of each
part_item : (most from team : ℕ) (cells : List Cell) (k : ℕ) (d : CellId) → k < length (part most from team cells) →
    get_or (part most from team cells) k d ≡ id_of team (from + k)
part_item most from team cells k d within =
    let many = part_many most from team cells in
    get_or-take most (drop from (ids_of team cells)) k d (omega (arith, many, within))
    ∙ get_or-drop from (ids_of team cells) k d
    ∙ get_or-map-range_with_len (id_of team) 0 (length cells) (from + k) (from + k) d (omega (arith, many, within)) (zero-add (from + k))

part_rises : (most from team : ℕ) (cells : List Cell) (i j : ℕ) (d : CellId) → i < j → j < length (part most from team cells) →
    (get_or (part most from team cells) i d).own < (get_or (part most from team cells) j d).own
part_rises most from team cells i j d less within =
    let a = ap (λ (id : CellId). id.own) (part_item most from team cells i d (omega (arith, less, within))) in
    let b = ap (λ (id : CellId). id.own) (part_item most from team cells j d within) in
    omega (arith, a, b, less)

-- the ids of a batch, in any order
pub record IsPart (most from team : ℕ) (cells : List Cell) (order : List CellId) : Type 0 where
  pub moved : IsPermutation (part most from team cells) order

pub part_put : (most from team : ℕ) (cells : List Cell) (all ids : List CellId) (list order : List ℕ) → all ≡ ids_of team cells →
    ids ≡ take most (drop from all) → IsPermutation ids (map (id_at ids) list) → order ≡ list → IsPart most from team cells (map (id_at ids) order)
part_put most from team cells all ids list order whole is moved same =
    let are : ids ≡ part most from team cells = is ∙ ap (λ (xs : List CellId). take most (drop from xs)) whole in
    record {
      moved = subst (λ (xs : List CellId). IsPermutation xs (map (id_at ids) order)) are
          (subst (λ (ws : List ℕ). IsPermutation ids (map (id_at ids) ws)) (sym same) moved);
    }

pub part_apart : (most from team : ℕ) (cells : List Cell) (order : List CellId) → IsPart most from team cells order → AllPairs (λ a b. a ≢ b) order
part_apart most from team cells order are = ids_apart (part most from team cells) order (part_rises most from team cells) are.moved

-- the team and position of an id of the batch
pub record IsWithin (most from number : ℕ) (cells : List Cell) (id : CellId) : Type 0 where
  pub team : id.team ≡ number
  pub least : from ≤ id.own
  pub less : id.own < from + most
  pub within : id.own < length cells

pub part_within : (most from team : ℕ) (cells : List Cell) (order : List CellId) (id : CellId) → IsPart most from team cells order → Contains order id →
    IsWithin most from team cells id
part_within most from team cells order id are there =
    let found = Contains-permutation order (part most from team cells) id (IsPermutation-sym (part most from team cells) order are.moved) there in
    let k = found.0 in
    let inside : k < length (part most from team cells) = found.1 in
    let many = part_many most from team cells in
    let is : id ≡ id_of team (from + k) = sym (found.2) ∙ part_item most from team cells k id inside in
    let own = ap (λ (x : CellId). x.own) is in
    record {
      team = ap (λ (x : CellId). x.team) is;
      least = omega (arith, own);
      less = omega (arith, own, inside, many);
      within = omega (arith, own, inside, many);
    }

pub part_contains : (most from team : ℕ) (cells : List Cell) (order : List CellId) (id : CellId) → IsPart most from team cells order →
    IsWithin most from team cells id → Contains order id
part_contains most from team cells order id are is =
    let many = part_many most from team cells in
    let least = is.least in
    let less = is.less in
    let within = is.within in
    let k = id.own - from in
    let inside : k < length (part most from team cells) = omega (arith, many, least, less, within) in
    let own : from + k ≡ id.own = omega (arith, least) in
    let there = part_item most from team cells k id inside ∙ ap (λ (o : ℕ). id_of team o) own ∙ ap (λ (t : ℕ). id_of t id.own) (sym is.team) in
    Contains-permutation (part most from team cells) order id are.moved (k, inside, there)

-- the cells in front of the batch, and those of it that were visited
abbrev pub IsPassed : ℕ → ℕ → List CellId → ℕ → CellId → Type 0
IsPassed team from order i id = PrecedesCell team from id ⊎ Contains (take i order) id

-- the next cell of the batch is not among the visited ones
pub part_fresh : (most from team : ℕ) (cells : List Cell) (order : List CellId) (i : ℕ) (id : CellId) → IsPart most from team cells order → i < length order →
    id ≡ get_or order i id → IsPassed team from order i id → ⊥
part_fresh most from team cells order i id are within is done =
    let at = part_within most from team cells order id are (i, within, sym is) in
    let same = at.team in
    let least = at.least in
    elim done [
      | inl before ↦ elim before [ inl less ↦ omega (arith, less, same) | inr mine ↦ let less = mine.1 in omega (arith, less, least) ]
      | inr there ↦ fresh_id order i id (part_apart most from team cells order are) within is there
    ]

-- each id has a cell
pub part_cell : (most from team : ℕ) (cells : Cells) (order : List CellId) (id : CellId) → IsPart most from team (cells_of cells team) order →
    Contains order id → (c : Cell) × (cell_at cells id ≡ Some c)
part_cell most from team cells order id are there =
    let at = part_within most from team (cells_of cells team) order id are there in
    found (subst (λ (t : ℕ). id.own < length (cells_of cells t)) (sym at.team) at.within)
  where
    found : id.own < length (cells_of cells id.team) → (c : Cell) × (cell_at cells id ≡ Some c)
    found within =
        let cs = cells_of cells id.team in
        (get_or cs id.own (some_cell cs id.own within), slice_get-get_or cs id.own (some_cell cs id.own within) within)

-- no cell of the batch is visited
pub none_passed : (team from : ℕ) (order : List CellId) (id : CellId) → PrecedesCell team from id ↔ IsPassed team from order 0 id
none_passed team from order id = (
  λ before. inl before,
  λ done. elim done [ inl before ↦ before | inr there ↦ let within = there.1 in absurd (omega (arith, within)) ],
)

cell_within : (team : ℕ) (cells : Cells) (id : CellId) (c : Cell) → cell_at cells id ≡ Some c → id.team ≡ team → id.own < length (cells_of cells team)
cell_within team cells id c there same =
    subst (λ (t : ℕ). id.own < length (cells_of cells t)) same (slice_get_within (cells_of cells id.team) id.own c there)

-- all of the batch is visited
pub part_passed : (most from team : ℕ) (cells : Cells) (order : List CellId) (i : ℕ) → IsPart most from team (cells_of cells team) order → length order ≤ i →
    (id : CellId) (c : Cell) → cell_at cells id ≡ Some c → IsPassed team from order i id ↔ PrecedesCell team (from + most) id
part_passed most from team cells order i are past id c there = (
  λ done. elim done [
    | inl before ↦ elim before [ inl less ↦ inl less | inr mine ↦ let less = mine.1 in inr (mine.0, omega (arith, less)) ]
    | inr passed ↦
        let at = part_within most from team (cells_of cells team) order id are (subst (λ (is : List CellId). Contains is id) whole passed) in
        inr (at.team, at.less)
  ],
  λ before. elim before [
    | inl less ↦ inl (inl less)
    | inr mine ↦ elim (one_or_past id.own from) [
      | inl less ↦ inl (inr (mine.0, less))
      | inr least ↦
          let at : IsWithin most from team (cells_of cells team) id =
          record { team = mine.0; least = least; less = mine.1; within = cell_within team cells id c there mine.0 } in
          inr (subst (λ (is : List CellId). Contains is id) (sym whole) (part_contains most from team (cells_of cells team) order id are at))
    ]
  ],
)
  where
    whole : take i order ≡ order
    whole = take_all i order past

-- all of the team is visited
pub team_passed : (from team : ℕ) (cells : Cells) → length (cells_of cells team) ≤ from →
    (id : CellId) (c : Cell) → cell_at cells id ≡ Some c → PrecedesCell team from id ↔ PrecedesCell (team + 1) 0 id
team_passed from team cells past id c there = (
  λ before. elim before [ inl less ↦ inl (omega (arith, less)) | inr mine ↦ let same = mine.0 in inl (omega (arith, same)) ],
  λ before. elim before [
    | inl less ↦ elim (one_or_past id.team team) [
      | inl earlier ↦ inl earlier
      | inr least ↦
          let same : id.team ≡ team = omega (arith, less, least) in
          let within = cell_within team cells id c there same in
          inr (same, omega (arith, within, past))
    ]
    | inr mine ↦ let less = mine.1 in absurd (omega (arith, less))
  ],
)

some_is : (o : Option Cell) (c : Cell) → o ≡ Some c → IsSome o
some_is o c is = subst IsSome (sym is) refl

-- the teams of all cells are visited
pub all_passed : (cells : Cells) (ids : List CellId) (above teams : ℕ) → AreAllIds cells ids → All (λ id. id.team < above) ids → above ≤ teams →
    AreAllDone cells (PrecedesCell teams 0)
all_passed cells ids above teams are below past id c there =
    let found = (are.cells id).1 (some_is (cell_at cells id) c there) in
    let less = below found.0 id found.1 in
    let same = ap (λ (x : CellId). x.team) found.2 in
    inl (omega (arith, less, same, past))
