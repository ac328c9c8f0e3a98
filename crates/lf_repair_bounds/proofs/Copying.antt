-- Copies of designs: what their cells keep wherever they are placed, and lists of cells.
use Rattle.std.proofs.Common.{◌≡◌, ◌≢◌, ◌∙◌, ℕ, zero, suc, ◌+◌, ◌<◌, ◌≤◌, List, [], ◌∷◌, ◌++◌, length, map, drop, Option, None, Some, refl, ap, sym, subst, arith}
use Rattle.std.specs.Prelude.{All, AllPairs, IsSome, slice_get, option_map}
use Rattle.std.proofs.lemmas.List.{length-map}
use Rattle.std.proofs.lemmas.List.Elements.{All-cons, All-head, All-map, All-nil, All-tail}
use Rattle.std.proofs.lemmas.List.Kept.{AllPairs-cons}
use Rattle.lf_floorplan.specs.declared.frame.Frame.{Frame}
use Rattle.lf_floorplan.specs.declared.loaded.LoadedCell.{LoadedCell}
use Rattle.lf_floorplan.specs.declared.macros.Macro.{Macro}
use Rattle.lf_floorplan.specs.Boxes.{IsSized}
use Rattle.lf_floorplan.specs.Design.{CellsNamed, IsCell, MakeDesign}
use Rattle.lf_repair_bounds.specs.Copies.{AreCopies}

-- ---- lists

-- an element of a list is read
pub is_read : {X : Type 0} (xs : List X) (k : ℕ) (o : Option X) → o ≡ slice_get xs k → k < length xs → IsSome o
is_read xs k (Some x) e within = refl
is_read [] k None e within = absurd (omega (arith, within))
is_read (x ∷ xs) zero None e within = absurd cc
is_read (x ∷ xs) (suc k) None e within = is_read xs k None e (omega (arith, within))

-- nothing remains past the end
pub none_left : {X : Type 0} (xs : List X) (k : ℕ) → length xs ≤ k → drop k xs ≡ []
none_left [] zero past = refl
none_left [] (suc k) past = refl
none_left (x ∷ xs) zero past = absurd (omega (arith, past))
none_left (x ∷ xs) (suc k) past = none_left xs k (omega (arith, past))

-- an element of a list is seen
pub there : {X Y : Type 0} (view : X → Y) (ys : List Y) (k : ℕ) (o : Option X) → option_map view o ≡ slice_get ys k → k < length ys → IsSome o
there view ys k (Some x) e within = refl
there view [] k None e within = absurd (omega (arith, within))
there view (y ∷ ys) zero None e within = absurd cc
there view (y ∷ ys) (suc k) None e within = there view ys k None e (omega (arith, within))

-- and the list from there on begins with it
pub from_here : {X : Type 0} (xs : List X) (k : ℕ) (x : X) → slice_get xs k ≡ Some x → drop k xs ≡ x ∷ drop (k + 1) xs
from_here [] k x e = absurd cc
from_here {X} (y ∷ ys) zero x e =
    let same : y ≡ x = cc in
    ap (λ (z : X). z ∷ ys) same
from_here (y ∷ ys) (suc k) x e =
    let shift : suc k + 1 ≡ suc (k + 1) = omega arith in
    rw shift (from_here ys k x e)

pub pairs_tail : {X : Type 0} (R : X → X → Type 0) (x : X) (xs : List X) → AllPairs R (x ∷ xs) → AllPairs R xs
pairs_tail R x xs pairs = λ i j d before within. pairs (suc i) (suc j) d (omega (arith, before)) (omega (arith, within))

pub pairs_head : {X : Type 0} (R : X → X → Type 0) (x : X) (xs : List X) → AllPairs R (x ∷ xs) → All (R x) xs
pairs_head R x xs pairs = λ j d within. pairs zero (suc j) d (omega arith) (omega (arith, within))

at_front : {X : Type 0} (P : X → Type 0) (xs : List X) (y : X) (ys : List X) → All P (xs ++ y ∷ ys) → P y
at_front P [] y ys all = All-head P y ys all
at_front P (x ∷ xs) y ys all = at_front P xs y ys (All-tail P x (xs ++ y ∷ ys) all)

-- the elements in front of one are apart from it
pub apart_before : {X : Type 0} (R : X → X → Type 0) (xs : List X) (y : X) (ys : List X) → AllPairs R (xs ++ y ∷ ys) → All (λ x. R x y) xs
apart_before R [] y ys pairs = All-nil (λ x. R x y)
apart_before R (x ∷ xs) y ys pairs =
    All-cons (λ z. R z y) x xs (at_front (R x) xs y ys (pairs_head R x (xs ++ y ∷ ys) pairs)) (apart_before R xs y ys (pairs_tail R x (xs ++ y ∷ ys) pairs))

pairs_map : {X Y : Type 0} (R : X → X → Type 0) (S : Y → Y → Type 0) (f : X → Y) → ((a b : X) → R a b → S (f a) (f b)) → (xs : List X) → AllPairs R xs
    → AllPairs S (map f xs)
pairs_map R S f gives [] pairs = λ i j d before within. absurd (omega (arith, within))
pairs_map R S f gives (x ∷ xs) pairs =
    AllPairs-cons S (f x) (map f xs) (All-map (S (f x)) f xs (λ j d within. gives x _ (pairs_head R x xs pairs j d within)))
    (pairs_map R S f gives xs (pairs_tail R x xs pairs))

-- ---- cells at other places

-- two cells differ only in their place
pub record AreOneCell (c d : LoadedCell) : Type 0 where
  pub name : d.name ≡ c.name
  pub team : d.team ≡ c.team
  pub mac : d.mac ≡ c.mac
  pub component : d.component ≡ c.component

pub one_known : (f : Frame) (c d : LoadedCell) → AreOneCell c d → IsCell f c → IsCell f d
one_known f c d same is = record {
  team_known = rw same.team is.team_known;
  mac_known = rw same.mac is.mac_known;
  mac_sized = rw same.mac is.mac_sized;
  name_printed = rw same.name is.name_printed;
}

pub named_apart : (h : LoadedCell → LoadedCell) → ((c : LoadedCell) → AreOneCell c (h c)) → (cells : List LoadedCell) → CellsNamed cells → CellsNamed (map h cells)
named_apart h kept cells named =
    pairs_map (λ a b. a.name ≢ b.name) (λ a b. a.name ≢ b.name) h (λ a b differ same. differ (sym (kept a).name ∙ same ∙ (kept b).name)) cells named

-- cells that make a design make one wherever they are placed
pub design_moved : (f : Frame) (h : LoadedCell → LoadedCell) → ((c : LoadedCell) → AreOneCell c (h c)) → (cells : List LoadedCell) → MakeDesign f cells → MakeDesign f (map h cells)
design_moved f h kept cells is = record {
  few_cells = subst (λ (n : ℕ). n ≤ 4000000) (sym (length-map cells h)) is.few_cells;
  cells_known = All-map (IsCell f) h cells (λ i d within. one_known f _ _ (kept _) (is.cells_known i d within));
  names_differ = named_apart h kept cells is.names_differ;
  components_rise = pairs_map (λ a b. a.component < b.component) (λ a b. a.component < b.component) h
      (λ a b before. rw ((kept a).component, (kept b).component) before) cells is.components_rise;
}

-- ---- frames

-- a frame is a copy of its copy
pub copies_back : (f g : Frame) → AreCopies f g → AreCopies g f
copies_back f g twins = record {
  site = sym twins.site;
  pitch = sym twins.pitch;
  rows = sym twins.rows;
  teams = sym twins.teams;
  obstacles = sym twins.obstacles;
  macros = sym twins.macros;
  header = sym twins.header;
  limits = sym twins.limits;
}

pub sized_twin : (f g : Frame) (m : Macro) → AreCopies f g → IsSized f m → IsSized g m
sized_twin f g m twins is = record {
  in_lef = is.in_lef;
  across = rw twins.header is.across;
  up = rw twins.header is.up;
  wide = rw twins.header is.wide;
  high = rw twins.header is.high;
}

pub cell_twin : (f g : Frame) (c : LoadedCell) → AreCopies f g → IsCell f c → IsCell g c
cell_twin f g c twins is = record {
  team_known = rw twins.teams is.team_known;
  mac_known = rw twins.macros is.mac_known;
  mac_sized = λ m found. sized_twin f g m twins (is.mac_sized m (ap (λ (ms : List Macro). slice_get ms c.mac) (sym twins.macros) ∙ found));
  name_printed = is.name_printed;
}

-- cells that make a design on a frame make one on its copy
pub design_twin : (f g : Frame) (cells : List LoadedCell) → AreCopies f g → MakeDesign f cells → MakeDesign g cells
design_twin f g cells twins is = record {
  few_cells = is.few_cells;
  cells_known = λ i d within. cell_twin f g _ twins (is.cells_known i d within);
  names_differ = is.names_differ;
  components_rise = is.components_rise;
}
