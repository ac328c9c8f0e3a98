-- How an occupancy is built: the boxes of all cells.
use Rattle.std.proofs.Common.{◌≡◌, ◌≢◌, ◌⊎◌, inl, inr, ℕ, zero, suc, ◌+◌, ◌%◌, ◌<◌, ◌≤◌, List, [], ◌∷◌, ◌++◌, Option, Some, None}
use Rattle.std.proofs.Common.{length, get_or, set, take, map, eqb, slice_get, refl, sym, ap, subst, ◌∙◌, arith}
use Rattle.std.specs.Prelude.{AllPairs, Contains, option_and_then, IsPermutation, ◌↔◌, option_map}
use Rattle.std.proofs.lemmas.List.Sorted.{IsPermutation-map}
use Rattle.std.proofs.lemmas.Map.Keys.{IsDistinct-IsPermutation}
use Rattle.std.proofs.lemmas.Map.Made.{AllPairs-from_IsDistinct, IsDistinct-from_AllPairs}
use Rattle.std.proofs.lemmas.Bool.Decides.{Decides-eqb, eqb_tells}
use Rattle.std.proofs.lemmas.Int.{ints}
use Rattle.std.proofs.lemmas.List.{get_or-map, get_or-set_same, get_or-set_other, get_or-take, length-map, length-set, length-take, map-append}
use Rattle.std.proofs.lemmas.List.{same_lists, get_or_past, take_more}
use Rattle.std.proofs.lemmas.List.Elements.{Contains-push_cases}
use Rattle.std.proofs.lemmas.Option.{slice_get-get_or, slice_get_within}
use Rattle.lf_units.specs.declared.geometry.Rect.{Rect}
use Rattle.lf_floorplan.specs.declared.frame.Frame.{Frame}
use Rattle.lf_cells.specs.declared.cell.Cell.{Cell}
use Rattle.lf_cells.specs.declared.cell.CellId.{CellId}
use Rattle.lf_cells.specs.Cells.{Cells, cell_at, cells_of, id_of}
use Rattle.lf_occupancy.specs.declared.strip_marks.StripMarks.{StripMarks}
use Rattle.lf_segments.specs.declared.strip.Strip.{Strip}
use Rattle.lf_occupancy.specs.Building.{HaveNoMarks, AreFilled, AreFilledIn, HasNoMark, PrecedesCell, id_at}
use Rattle.lf_occupancy.specs.Floorplans.{working_box_of, boxes_in}
use Rattle.lf_occupancy.specs.Views.{cell_box}
use Rattle.lf_occupancy.specs.MarkLists.{IsMarked, marked_entries}
use Rattle.lf_occupancy.specs.Strips.{ShowAllBoxes, HasCell, HasNoBox}
use Rattle.lf_occupancy.proofs.Laning.{box_other, box_same}

-- the images of each team's cells
pub row_made : (g : Cell → Option Rect) (rows : List (List Cell)) (team : ℕ) → get_or (map (λ own. map g own) rows) team [] ≡ map g (get_or rows team [])
row_made g [] team = refl
row_made g (r ∷ rows) zero = refl
row_made g (r ∷ rows) (suc team) = row_made g rows team

-- the boxes of a team's cells
pub boxes_there : (f : Frame) (cells : Cells) (team : ℕ) → get_or (boxes_in f cells) team [] ≡ map (working_box_of f) (cells_of cells team)
boxes_there f cells team = row_made (working_box_of f) cells.cells team

one_cell : (c d : Cell) → Some c ≡ Some d → c ≡ d
one_cell c d e = cc

-- the box of a cell
box_there : (f : Frame) (cs : List Cell) (k : ℕ) (c : Cell) → slice_get cs k ≡ Some c → cell_box (map (working_box_of f) cs) k ≡ working_box_of f c
box_there f [] k c is = absurd cc
box_there f (x ∷ cs) zero c is = ap (working_box_of f) (one_cell x c is)
box_there f (x ∷ cs) (suc k) c is = box_there f cs k c is

box_at_number : (f : Frame) (cs : List Cell) (k : ℕ) → cell_box (map (working_box_of f) cs) k ≡ option_and_then (working_box_of f) (slice_get cs k)
box_at_number f [] k = refl
box_at_number f (c ∷ cs) zero = refl
box_at_number f (c ∷ cs) (suc k) = box_at_number f cs k

pub box_here : (f : Frame) (cells : Cells) (id : CellId) →
    cell_box (get_or (boxes_in f cells) id.team []) id.own ≡ option_and_then (working_box_of f) (cell_at cells id)
box_here f cells id =
    ap (λ (bs : List (Option Rect)). cell_box bs id.own) (boxes_there f cells id.team) ∙ box_at_number f (cells_of cells id.team) id.own

one_id : (a b : CellId) → Some a ≡ Some b → a ≡ b
one_id a b e = cc

pub id_there : (team own : ℕ) (o : Option Cell) (id : CellId) → Some id ≡ option_map (λ c. id_of team own) o → id ≡ id_of team own
id_there team own None id e = absurd cc
id_there team own (Some c) id e = one_id id (id_of team own) e

pub none_in : (f : Frame) (team own : ℕ) (o : Option Cell) → ◌≡◌ {A = Option CellId} None (option_map (λ c. id_of team own) o) → option_and_then (working_box_of f) o ≡ None
none_in f team own None e = refl
none_in f team own (Some c) e = absurd cc

pub box_said : (f : Frame) (cells : Cells) (id : CellId) (box : Option Rect) → box ≡ cell_box (get_or (boxes_in f cells) id.team []) id.own →
    (c : Cell) → cell_at cells id ≡ Some c → box ≡ working_box_of f c
box_said f cells id box is c there =
    is ∙ ap (λ (bs : List (Option Rect)). cell_box bs id.own) (boxes_there f cells id.team) ∙ box_there f (cells_of cells id.team) id.own c there

-- no box for any cell
abbrev none_of : Cell → Option Rect
none_of c = None

abbrev no_boxes : Cells → List (List (Option Rect))
no_boxes cells = map (λ own. map none_of own) cells.cells

none_there : (cs : List Cell) (k : ℕ) → cell_box (map none_of cs) k ≡ None
none_there [] k = refl
none_there (c ∷ cs) zero = refl
none_there (c ∷ cs) (suc k) = none_there cs k

no_box : (cells : Cells) (team own : ℕ) → cell_box (get_or (no_boxes cells) team []) own ≡ None
no_box cells team own = ap (λ (bs : List (Option Rect)). cell_box bs own) (row_made none_of cells.cells team) ∙ none_there (cells_of cells team) own

none_is_some : (r : Rect) → ◌≡◌ {A = Option Rect} None (Some r) → ⊥
none_is_some r e = cc

-- the marks of a strip without any are right if no cell has a box
bare_mark_list : (cells : List (Option Rect)) (area : Rect) (l : StripMarks) → ((own : ℕ) → cell_box cells own ≡ None) → HasNoMark l → IsMarked cells area l
bare_mark_list cells area l none b =
    let many : length (marked_entries cells area l.marks.items) ≡ 0 = ap (λ ms. length (marked_entries cells area ms)) b.marks in
    let long : length l.marks.items ≡ 0 = ap (λ ms. length ms) b.marks in
    record {
      mark_list = record {
        orderly = record {
          order = λ i j d less within. absurd (omega (arith, many, within));
          wide = λ k d within. absurd (omega (arith, many, within));
          some = let w = b.widest in omega (arith, ints, w);
          most = let w = b.widest in omega (arith, ints, w);
        };
        whole = λ k d within. absurd (omega (arith, many, within));
        inside = λ k d within. absurd (omega (arith, many, within));
        held = λ own x y lies. absurd (none_is_some lies.box (sym (none own) ∙ lies.is));
        reported = λ k d within. absurd (omega (arith, many, within));
        once = λ i j d less within. absurd (omega (arith, many, within));
      };
      reported = λ k d within. absurd (omega (arith, long, within));
    }

none_before : (id : CellId) → PrecedesCell 0 0 id → ⊥
none_before id before = elim before [ inl less ↦ omega (arith, less) | inr same ↦ let less = same.1 in omega (arith, less) ]

-- the marks of strips without any are right if no cell is done
pub mark_lists_bare : (f : Frame) (cells : Cells) (xs : List Strip) (mark_lists : List StripMarks) → HaveNoMarks (length xs) mark_lists →
    AreFilledIn f cells xs (PrecedesCell 0 0) mark_lists
mark_lists_bare f cells xs mark_lists bare = record {
  boxes = no_boxes cells;
  filled = record {
    many = λ team. ap (λ (bs : List (Option Rect)). length bs) (row_made none_of cells.cells team) ∙ length-map (cells_of cells team) none_of;
    done = λ id c at before. absurd (none_before id before);
    rest = λ id c at never. no_box cells id.team id.own;
  };
  marked = record {
    many = bare.many;
    each = λ n d e within.
        bare_mark_list (get_or (no_boxes cells) (get_or xs n d).team []) (get_or xs n d).area (get_or mark_lists n e) (no_box cells (get_or xs n d).team)
        (bare.each n e (let m = bare.many in omega (arith, m, within)));
  };
}

-- the first `n + 1` ids, by their positions
pub waiting_further : (ids : List CellId) (n : ℕ) (list new : List ℕ) (w : ℕ) → n < length ids → w % 65536 ≡ n → new ≡ list ++ w ∷ [] →
    map (id_at ids) list ≡ take n ids → map (id_at ids) new ≡ take (n + 1) ids
waiting_further ids n list new w inside same is was =
    ap (λ (ws : List ℕ). map (id_at ids) ws) is ∙ map-append (id_at ids) list (w ∷ [])
    ∙ ap (λ (zs : List CellId). zs ++ id_at ids w ∷ []) was
    ∙ ap (λ (k : ℕ). take n ids ++ get_or ids k none ∷ []) same
    ∙ sym (take_more ids n none inside)
  where
    none : CellId
    none = record { team = 0; own = 0 }

-- ids of cells differ
flips : (x y : ℕ) → eqb x y ≡ eqb y x
flips x y = elim (eqb_tells x y) [
  | inl same ↦ elim (eqb_tells y x) [ inl back ↦ same.0 ∙ sym back.0 | inr away ↦ absurd (away.1 (sym same.1)) ]
  | inr away ↦ elim (eqb_tells y x) [ inl back ↦ absurd (away.1 (sym back.1)) | inr other ↦ away.0 ∙ sym other.0 ]
]

pub ids_apart : (ids order : List CellId) → ((i j : ℕ) (d : CellId) → i < j → j < length ids → (get_or ids i d).own < (get_or ids j d).own) →
    IsPermutation ids order → AllPairs (λ a b. a ≢ b) order
ids_apart ids order rise moved i j d less within same =
    let there = AllPairs-from_IsDistinct Decides-eqb (map pos order)
    (IsDistinct-IsPermutation eqb flips (map pos ids) (map pos order) (IsPermutation-map pos ids order moved)
    (IsDistinct-from_AllPairs Decides-eqb (map pos ids) apart)) in
    let long = length-map order pos in
    let a = get_or-map pos order i d 0 (omega (arith, less, within)) in
    let b = get_or-map pos order j d 0 within in
    there i j 0 less (omega (arith, long, within)) (a ∙ ap pos same ∙ sym b)
  where
    pos : CellId → ℕ
    pos id = id.own

    none : CellId
    none = record { team = 0; own = 0 }

    apart : AllPairs (λ a b. a ≢ b) (map pos ids)
    apart i j d less within same =
        let long = length-map ids pos in
        let a = get_or-map pos ids i none d (omega (arith, long, less, within)) in
        let b = get_or-map pos ids j none d (omega (arith, long, within)) in
        let up = rise i j none less (omega (arith, long, within)) in
        omega (arith, a, b, up, same)

-- the next cell is not among the first ones
pub fresh_id : (ids : List CellId) (i : ℕ) (id : CellId) → AllPairs (λ a b. a ≢ b) ids → i < length ids → id ≡ get_or ids i id → Contains (take i ids) id → ⊥
fresh_id ids i id apart within is (k, below, at) =
    let long = length-take i ids in
    let less : k < i = omega (arith, below, long, within) in
    apart k i id less within (sym (get_or-take i ids k id less) ∙ at ∙ is)

-- a cell of the table is among the boxes
pub has_cell : (f : Frame) (cells : Cells) (Done : CellId → Type 0) (id : CellId) (boxes : List (List (Option Rect))) (c : Cell) →
    AreFilled f cells Done boxes → cell_at cells id ≡ Some c → HasCell boxes id
has_cell f cells Done id boxes c filled there = record { team = has_team reach; own = has_own }
  where
    has_own : id.own < length (get_or boxes id.team [])
    has_own = let m = filled.many id.team in let w = slice_get_within (cells_of cells id.team) id.own c there in omega (arith, m, w)

    reach : (id.team < length boxes) ⊎ (length boxes ≤ id.team)
    reach = grind arith

    has_team : (id.team < length boxes) ⊎ (length boxes ≤ id.team) → id.team < length boxes
    has_team (inl inside) = inside
    has_team (inr past) =
        let long : length (get_or boxes id.team []) ≡ 0 = ap (λ xs. length xs) (get_or_past boxes id.team [] past) in
        let w = has_own in
        absurd (omega (arith, long, w))

-- the ids visited after one more
passed : (ids : List CellId) (i : ℕ) (id other : CellId) → i < length ids → id ≡ get_or ids i id → Contains (take (i + 1) ids) other →
    Contains (take i ids) other ⊎ (id ≡ other)
passed ids i id other within is there =
    elim (Contains-push_cases (take i ids) (get_or ids i id) other (subst (λ xs. Contains xs other) (take_more ids i id within) there)) [
      | inl before ↦ inl before
      | inr last ↦ inr (is ∙ last)
    ]

passed_before : (ids : List CellId) (i : ℕ) (other : CellId) → i < length ids → Contains (take i ids) other → Contains (take (i + 1) ids) other
passed_before ids i other within (k, below, at) =
    let long = length-take i ids in
    let longer = length-take (i + 1) ids in
    let less : k < i = omega (arith, below, long, within) in
    (k, omega (arith, less, longer, within), get_or-take (i + 1) ids k other (omega (arith, less)) ∙ sym (get_or-take i ids k other less) ∙ at)

passed_now : (ids : List CellId) (i : ℕ) (id : CellId) → i < length ids → id ≡ get_or ids i id → Contains (take (i + 1) ids) id
passed_now ids i id within is =
    let longer = length-take (i + 1) ids in
    (i, omega (arith, longer, within), get_or-take (i + 1) ids i id (omega arith) ∙ sym is)

-- the cells done so far, and this cell
abbrev pub IsOneMore : (CellId → Type 0) → CellId → (CellId → Type 0) → Type 0
IsOneMore Done id More = (other : CellId) → More other ↔ (Done other ⊎ (id ≡ other))

-- one more id is visited
pub one_passed : (Before : CellId → Type 0) (ids : List CellId) (i : ℕ) (id : CellId) → i < length ids → id ≡ get_or ids i id →
    IsOneMore (λ other. Before other ⊎ Contains (take i ids) other) id (λ other. Before other ⊎ Contains (take (i + 1) ids) other)
one_passed Before ids i id within is other = (
  λ more. elim more [
    | inl before ↦ inl (inl before)
    | inr there ↦ elim (passed ids i id other within is there) [ inl old ↦ inl (inr old) | inr same ↦ inr same ]
  ],
  λ done. elim done [
    | inl old ↦ elim old [ inl before ↦ inl before | inr there ↦ inr (passed_before ids i other within there) ]
    | inr same ↦ inr (subst (λ (x : CellId). Contains (take (i + 1) ids) x) same (passed_now ids i id within is))
  ],
)

-- one more cell has its box
pub filled_further : (f : Frame) (cells : Cells) (Done More : CellId → Type 0) (id : CellId) (box : Option Rect) (boxes : List (List (Option Rect))) →
    IsOneMore Done id More → HasCell boxes id → ((c : Cell) → cell_at cells id ≡ Some c → box ≡ working_box_of f c) → AreFilled f cells Done boxes →
    AreFilled f cells More (set boxes id.team (set (get_or boxes id.team []) id.own box))
filled_further f cells Done More id box boxes more has said before = record {
  many = λ team. elim (eqb_tells team id.team) [
    | inl same ↦
        let At : ℕ → Type 0 = λ t. length (get_or (set boxes id.team changed) t []) ≡ length (cells_of cells t) in
        subst At (sym same.1)
        (ap (λ xs. length xs) (get_or-set_same boxes id.team changed [] has.team) ∙ length-set (get_or boxes id.team []) id.own box ∙ before.many id.team)
    | inr apart ↦ ap (λ xs. length xs) (get_or-set_other boxes id.team team changed [] apart.1) ∙ before.many team
  ];
  done = λ other c at there. elim (eqb_tells other.team id.team) [
    | inr away ↦ still other (λ t o. away.1 t) ∙ before.done other c at (among other there (λ t o. away.1 t))
    | inl same ↦ elim (eqb_tells other.own id.own) [
      | inr away ↦ still other (λ t o. away.1 o) ∙ before.done other c at (among other there (λ t o. away.1 o))
      | inl also ↦
          let At : ℕ → ℕ → Type 0 = λ t o. cell_box (get_or (set boxes id.team changed) t []) o ≡ working_box_of f c in
          let Cell_at : ℕ → ℕ → Type 0 = λ t o. slice_get (cells_of cells t) o ≡ Some c in
          let there_is : cell_at cells id ≡ Some c = subst (λ t. Cell_at t id.own) same.1 (subst (λ o. Cell_at other.team o) also.1 at) in
          subst (λ t. At t other.own) (sym same.1) (subst (λ o. At id.team o) (sym also.1) (here ∙ said c there_is))
    ]
  ];
  rest = λ other c at never. elim (eqb_tells other.team id.team) [
    | inr away ↦ still other (λ t o. away.1 t) ∙ before.rest other c at (λ old. never ((more other).1 (inl old)))
    | inl same ↦ elim (eqb_tells other.own id.own) [
      | inr away ↦ still other (λ t o. away.1 o) ∙ before.rest other c at (λ old. never ((more other).1 (inl old)))
      | inl also ↦ absurd (never ((more other).1 (inr (id_is other same.1 also.1))))
    ]
  ];
}
  where
    changed : List (Option Rect)
    changed = set (get_or boxes id.team []) id.own box

    id_is : (other : CellId) → other.team ≡ id.team → other.own ≡ id.own → id ≡ other
    id_is other team own =
        sym (ap (λ (t : ℕ). id_of t other.own) team ∙ ap (λ (o : ℕ). id_of id.team o) own)

    here : cell_box (get_or (set boxes id.team changed) id.team []) id.own ≡ box
    here = ap (λ cs. cell_box cs id.own) (get_or-set_same boxes id.team changed [] has.team) ∙ box_same (get_or boxes id.team []) id.own box has.own

    still : (other : CellId) → ((other.team ≡ id.team) → (other.own ≡ id.own) → ⊥) →
        cell_box (get_or (set boxes id.team changed) other.team []) other.own ≡ cell_box (get_or boxes other.team []) other.own
    still other apart = elim (eqb_tells other.team id.team) [
      | inr away ↦ ap (λ cs. cell_box cs other.own) (get_or-set_other boxes id.team other.team changed [] away.1)
      | inl same ↦
          let At : ℕ → Type 0 = λ t. cell_box (get_or (set boxes id.team changed) t []) other.own ≡ cell_box (get_or boxes t []) other.own in
          subst At (sym same.1)
          (ap (λ cs. cell_box cs other.own) (get_or-set_same boxes id.team changed [] has.team)
          ∙ box_other (get_or boxes id.team []) id.own other.own box (λ own. apart same.1 own))
    ]

    among : (other : CellId) → More other → ((other.team ≡ id.team) → (other.own ≡ id.own) → ⊥) → Done other
    among other there apart = elim ((more other).0 there) [
      | inl old ↦ old
      | inr same ↦ absurd (apart (sym (ap (λ (x : CellId). x.team) same)) (sym (ap (λ (x : CellId). x.own) same)))
    ]

row_same : (rows : List (List (Option Rect))) (k own : ℕ) → cell_box (get_or rows k []) own ≡ None → set rows k (set (get_or rows k []) own None) ≡ rows
row_same [] zero own none = refl
row_same [] (suc k) own none = refl
row_same (r ∷ rows) zero own none = ap (λ (z : List (Option Rect)). z ∷ rows) (set_none r own none)
  where
    set_none : (bs : List (Option Rect)) (n : ℕ) → cell_box bs n ≡ None → set bs n None ≡ bs
    set_none [] n is = refl
    set_none (b ∷ bs) zero is = ap (λ (x : Option Rect). x ∷ bs) (sym is)
    set_none (b ∷ bs) (suc n) is = ap (λ (xs : List (Option Rect)). b ∷ xs) (set_none bs n is)
row_same (r ∷ rows) (suc k) own none = ap (λ (rs : List (List (Option Rect))). r ∷ rs) (row_same rows k own none)

-- a cell without a box is still without one
pub none_set : (xs : List Strip) (boxes : List (List (Option Rect))) (id : CellId) (mark_lists : List StripMarks) → HasNoBox boxes id → ShowAllBoxes xs boxes mark_lists →
    ShowAllBoxes xs (set boxes id.team (set (get_or boxes id.team []) id.own None)) mark_lists
none_set xs boxes id mark_lists nowhere are = subst (λ (bs : List (List (Option Rect))). ShowAllBoxes xs bs mark_lists) (sym (row_same boxes id.team id.own nowhere.at)) are

-- the next of the cells is marked
pub one_filled : (f : Frame) (cells : Cells) (xs : List Strip) (Done More : CellId → Type 0) (id : CellId) (c : Cell) (old new : List StripMarks) →
    cell_at cells id ≡ Some c → (Done id → ⊥) → IsOneMore Done id More → (was : AreFilledIn f cells xs Done old) →
    (HasNoBox was.boxes id → ShowAllBoxes xs was.boxes old →
    ShowAllBoxes xs (set was.boxes id.team (set (get_or was.boxes id.team []) id.own (cell_box (get_or (boxes_in f cells) id.team []) id.own))) new) →
    AreFilledIn f cells xs More new
one_filled f cells xs Done More id c old new there fresh more was marks =
    let has = has_cell f cells Done id was.boxes c was.filled there in
    let box : Option Rect = cell_box (get_or (boxes_in f cells) id.team []) id.own in
    record {
      boxes = set was.boxes id.team (set (get_or was.boxes id.team []) id.own box);
      filled = filled_further f cells Done More id box was.boxes more has (box_said f cells id box refl) was.filled;
      marked = marks (record { known = has; at = was.filled.rest id c there fresh }) was.marked;
    }

-- the same holds if the same cells of the table are done
pub filled_same : (f : Frame) (cells : Cells) (xs : List Strip) (Done Other : CellId → Type 0) (mark_lists : List StripMarks) →
    ((id : CellId) (c : Cell) → cell_at cells id ≡ Some c → Done id ↔ Other id) → AreFilledIn f cells xs Done mark_lists → AreFilledIn f cells xs Other mark_lists
filled_same f cells xs Done Other mark_lists same are = record {
  boxes = are.boxes;
  filled = record {
    many = are.filled.many;
    done = λ id c at other. are.filled.done id c at ((same id c at).1 other);
    rest = λ id c at never. are.filled.rest id c at (λ done. never ((same id c at).0 done));
  };
  marked = are.marked;
}

-- the box of a cell of the list is the element at its position
cell_box_at : (cells : List (Option Rect)) (k : ℕ) (d : Option Rect) → k < length cells → cell_box cells k ≡ get_or cells k d
cell_box_at [] k d within = absurd (omega (arith, within))
cell_box_at (c ∷ cells) zero d within = refl
cell_box_at (c ∷ cells) (suc k) d within = cell_box_at cells k d (omega (arith, within))

pub some_cell : (cells : List Cell) (k : ℕ) → k < length cells → Cell
some_cell [] k within = absurd (omega (arith, within))
some_cell (c ∷ cells) k within = c

-- all cells of the table are done
abbrev pub AreAllDone : Cells → (CellId → Type 0) → Type 0
AreAllDone cells Done = (id : CellId) (c : Cell) → cell_at cells id ≡ Some c → Done id

pub all_filled : (f : Frame) (cells : Cells) (Done : CellId → Type 0) (boxes : List (List (Option Rect))) → AreAllDone cells Done →
    AreFilled f cells Done boxes → (team : ℕ) → get_or boxes team [] ≡ map (working_box_of f) (cells_of cells team)
all_filled f cells Done boxes all filled team = same_lists (get_or boxes team []) (map (working_box_of f) (cells_of cells team))
    (filled.many team ∙ sym (length-map (cells_of cells team) (working_box_of f))) each
  where
    own_cells : List Cell
    own_cells = cells_of cells team

    each : (k : ℕ) (d : Option Rect) → k < length (get_or boxes team []) → get_or (get_or boxes team []) k d ≡ get_or (map (working_box_of f) own_cells) k d
    each k d within =
        let many = filled.many team in
        let inner : k < length own_cells = omega (arith, many, within) in
        let c : Cell = get_or own_cells k (some_cell own_cells k inner) in
        let id : CellId = record { team = team; own = k } in
        let at : cell_at cells id ≡ Some c = slice_get-get_or own_cells k (some_cell own_cells k inner) inner in
        sym (cell_box_at (get_or boxes team []) k d within) ∙ filled.done id c at (all id c at) ∙ sym (get_or-map (working_box_of f) own_cells k
        (some_cell own_cells k inner) d inner)

-- the marks of the same boxes
pub mark_lists_of_same : (xs : List Strip) (boxes other : List (List (Option Rect))) (mark_lists : List StripMarks) →
    ((team : ℕ) → get_or boxes team [] ≡ get_or other team []) → ShowAllBoxes xs boxes mark_lists → ShowAllBoxes xs other mark_lists
mark_lists_of_same xs boxes other mark_lists same are = record {
  many = are.many;
  each = λ n d e within.
      subst (λ (cs : List (Option Rect)). IsMarked cs (get_or xs n d).area (get_or mark_lists n e)) (same (get_or xs n d).team) (are.each n d e within);
}

pub mark_lists_filled : (f : Frame) (cells : Cells) (xs : List Strip) (Done : CellId → Type 0) (mark_lists : List StripMarks) → AreAllDone cells Done →
    AreFilledIn f cells xs Done mark_lists → ShowAllBoxes xs (boxes_in f cells) mark_lists
mark_lists_filled f cells xs Done mark_lists all are =
    mark_lists_of_same xs are.boxes (boxes_in f cells) mark_lists (λ team. all_filled f cells Done are.boxes all are.filled team ∙ sym (boxes_there f cells team)) are.marked
