-- The search for impossible macros, cell by cell.
use Rattle.std.proofs.Common.{◌≡◌, ◌∙◌, ℕ, ◌+◌, ◌≤◌, List, [], ◌∷◌, ◌++◌, Bool, true, false, IsTrue, length, take, drop, Some, refl, ap, subst, arith}
use Rattle.std.specs.Prelude.{◌||◌, All, Any, insert, slice_get}
use Rattle.std.proofs.lemmas.Bool.Decides.{nat_tests}
use Rattle.std.proofs.lemmas.List.{take_all}
use Rattle.std.proofs.lemmas.List.Elements.{All-append, All-cons, All-drop, All-get_or, All-nil, All-push, All-same, All-take, All-weaker}
use Rattle.std.proofs.lemmas.List.Folds.{list_any-append}
use Rattle.std.proofs.lemmas.Option.{get_or_from_slice_get, slice_get_within}
use Rattle.lf_floorplan.specs.declared.frame.Frame.{Frame}
use Rattle.lf_floorplan.specs.declared.loaded.LoadedCell.{LoadedCell}
use Rattle.lf_floorplan.specs.Boxes.{macro_of}
use Rattle.lf_repair_bounds.specs.declared.reasons.ImpossibleReason.{ImpossibleReason}
use Rattle.lf_repair_bounds.specs.declared.reasons.ImpossibleMacro.{ImpossibleMacro}
use Rattle.lf_repair_bounds.specs.declared.impossible.CheckedMacro.{CheckedMacro}
use Rattle.lf_repair_bounds.specs.ImpossibleMacros.{AreImpossibleMacros, HasCellOf, HasReason, IsImpossible, IsImpossibleMacro, is_listed, is_of_macro}
use Rattle.lf_repair_bounds.specs.Searched.{AreDecided, ChecksOne, Decides, IsDecided}
use Rattle.lf_repair_bounds.proofs.Ways.{take_more}

-- ---- lists of macros

left_or : (a b : Bool) → a ≡ true → (a || b) ≡ true
left_or true b e = refl
left_or false b e = absurd cc

right_or : (a b : Bool) → b ≡ true → (a || b) ≡ true
right_or true b e = refl
right_or false b e = e

is_own : (team mac : ℕ) (reason : ImpossibleReason) → is_of_macro team mac record { team = team; mac = mac; reason = reason } ≡ true
is_own team mac reason = grind (arith, nat_tests)

-- a list with one more entry
module _ (old new : List ImpossibleMacro) (m : ImpossibleMacro) (more : new ≡ old ++ m ∷ []) where
  is_or : (t k : ℕ) → is_listed new t k ≡ (is_listed old t k || is_listed (m ∷ []) t k)
  is_or t k = ap (λ (list : List ImpossibleMacro). is_listed list t k) more ∙ list_any-append (is_of_macro t k) old (m ∷ [])

  still_listed : (t k : ℕ) → IsTrue (is_listed old t k) → IsTrue (is_listed new t k)
  still_listed t k is = is_or t k ∙ left_or (is_listed old t k) (is_listed (m ∷ []) t k) is

  now_listed : (t k : ℕ) → is_of_macro t k m ≡ true → IsTrue (is_listed new t k)
  now_listed t k is = is_or t k ∙ right_or (is_listed old t k) (is_listed (m ∷ []) t k) (left_or (is_of_macro t k m) false is)

-- ---- one macro

-- a place can hold it
pub decides_none : (f : Frame) (cells : List LoadedCell) (team mac : ℕ) (list : List ImpossibleMacro) → (IsImpossible f team mac → ⊥) → Decides f cells team mac list list
decides_none f cells team mac list possible =
    record { are = λ are. are; kept = λ t m is. is; decided = λ impossible. absurd (possible impossible) }

-- no place can hold it
pub decides_one : (f : Frame) (cells : List LoadedCell) (team mac : ℕ) (reason : ImpossibleReason) (old new : List ImpossibleMacro) → HasCellOf cells team mac
    → IsImpossible f team mac → HasReason f team (macro_of f mac) reason → new ≡ old ++ record { team = team; mac = mac; reason = reason } ∷ []
    → Decides f cells team mac old new
decides_one f cells team mac reason old new of_cell impossible right more = record {
  are = λ are. All-same (IsImpossibleMacro f cells) new (old ++ m ∷ []) more (All-push (IsImpossibleMacro f cells) old m are is);
  kept = still_listed old new m more;
  decided = λ _. now_listed old new m more team mac (is_own team mac reason);
} where
  m : ImpossibleMacro
  m = record { team = team; mac = mac; reason = reason }

  is : IsImpossibleMacro f cells m
  is = record { of_cell = of_cell; impossible = impossible; reason = right }

-- ---- one cell

-- its macro was searched for
pub checks_known : (f : Frame) (cells : List LoadedCell) (team mac : ℕ) (checked : List CheckedMacro) (list : List ImpossibleMacro)
    → Any (λ c. (c.team ≡ team) × (c.mac ≡ mac)) checked → ChecksOne f cells team mac checked checked list list
checks_known f cells team mac checked list any = record {
  are = λ are. are;
  kept = λ t m is. is;
  checked = λ all. all;
  decided = λ all.
      let entry = any.1 in
      let here : IsDecided f list entry.team entry.mac =
      subst (λ (c : CheckedMacro). IsDecided f list c.team c.mac) any.3 (All-get_or (λ c. IsDecided f list c.team c.mac) checked any.0 entry any.2 all) in
      subst (λ (m : ℕ). IsDecided f list team m) any.4.1 (subst (λ (t : ℕ). IsDecided f list t entry.mac) any.4.0 here);
}

-- it is searched for
pub checks_new : (f : Frame) (cells : List LoadedCell) (team mac at : ℕ) (old_checked new_checked : List CheckedMacro) (old new : List ImpossibleMacro)
    → Decides f cells team mac old new → new_checked ≡ insert old_checked at record { team = team; mac = mac }
    → ChecksOne f cells team mac old_checked new_checked old new
checks_new f cells team mac at old_checked new_checked old new one more = record {
  are = one.are;
  kept = one.kept;
  checked = λ all. All-same Decided new_checked (insert old_checked at entry) more
      (All-append Decided (take at old_checked) (entry ∷ drop at old_checked) (All-take Decided at old_checked (still all))
      (All-cons Decided entry (drop at old_checked) one.decided (All-drop Decided at old_checked (still all))));
  decided = λ all. one.decided;
} where
  entry : CheckedMacro
  entry = record { team = team; mac = mac }

  Decided : CheckedMacro → Type 0
  Decided c = IsDecided f new c.team c.mac

  still : AreDecided f old old_checked → All Decided old_checked
  still all = All-weaker (λ c. IsDecided f old c.team c.mac) Decided (λ c decided impossible. one.kept c.team c.mac (decided impossible)) old_checked all

-- ---- all cells

-- what is known after the first cells
pub record IsSearchedTo (f : Frame) (cells : List LoadedCell) (at : ℕ) (checked : List CheckedMacro) (list : List ImpossibleMacro) : Type 0 where
  pub are : All (IsImpossibleMacro f cells) list
  pub searched : AreDecided f list checked
  pub decided : All (λ c. IsDecided f list c.team c.mac) (take at cells)

none_taken : {X : Type 0} (xs : List X) → take 0 xs ≡ []
none_taken [] = refl
none_taken (x ∷ xs) = refl

pub none_searched : (f : Frame) (cells : List LoadedCell) (checked : List CheckedMacro) (list : List ImpossibleMacro) → checked ≡ [] → list ≡ []
    → IsSearchedTo f cells 0 checked list
none_searched f cells checked list none_checked none = record {
  are = All-same (IsImpossibleMacro f cells) list [] none (All-nil (IsImpossibleMacro f cells));
  searched = All-same (λ c. IsDecided f list c.team c.mac) checked [] none_checked (All-nil (λ c. IsDecided f list c.team c.mac));
  decided = All-same (λ c. IsDecided f list c.team c.mac) (take 0 cells) [] (none_taken cells) (All-nil (λ c. IsDecided f list c.team c.mac));
}

pub next_searched : (f : Frame) (cells : List LoadedCell) (at : ℕ) (c : LoadedCell) (old_checked new_checked : List CheckedMacro) (old new : List ImpossibleMacro)
    → slice_get cells at ≡ Some c → ChecksOne f cells c.team c.mac old_checked new_checked old new → IsSearchedTo f cells at old_checked old
    → IsSearchedTo f cells (at + 1) new_checked new
next_searched f cells at c old_checked new_checked old new there one so_far = record {
  are = one.are so_far.are;
  searched = one.checked so_far.searched;
  decided = All-same Decided (take (at + 1) cells) (take at cells ++ c ∷ []) (take_more cells at c there)
      (All-push Decided (take at cells) c (All-weaker (λ d. IsDecided f old d.team d.mac) Decided (λ d decided impossible. one.kept d.team d.mac (decided impossible)) (take at cells) so_far.decided)
      (one.decided so_far.searched));
} where
  Decided : LoadedCell → Type 0
  Decided d = IsDecided f new d.team d.mac

pub all_searched : (f : Frame) (cells : List LoadedCell) (at : ℕ) (checked : List CheckedMacro) (list : List ImpossibleMacro) → length cells ≤ at
    → IsSearchedTo f cells at checked list → AreImpossibleMacros f cells list
all_searched f cells at checked list past so_far = record {
  are = so_far.are;
  all_listed = subst (λ (seen : List LoadedCell). All (λ c. IsDecided f list c.team c.mac) seen) (take_all at cells past) so_far.decided;
}

-- the cell at this position is one of the cells
pub has_own_cell : (cells : List LoadedCell) (at : ℕ) (c : LoadedCell) → slice_get cells at ≡ Some c → HasCellOf cells c.team c.mac
has_own_cell cells at c there = (at, c, slice_get_within cells at c there, get_or_from_slice_get cells at c c there, (refl, refl))
