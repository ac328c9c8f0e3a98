-- The inputs of a loaded design without the components of other teams.
use Rattle.std.proofs.Common.{◌≡◌, ◌↔◌, ℕ, List, [], ◌∷◌, ◌++◌, Bool, true, false, not, ◌||◌, ◌&&◌, cond, eqb, filter, Option, None, refl, ap, sym, ◌∙◌, subst, filter_map}
use Rattle.std.specs.Prelude.{All, Contains, bytes_eq}
use Rattle.std.specs.List.{AllZip, cons_option, flat_map}
use Rattle.std.proofs.lemmas.Bool.{eq-eqb, eqb-true}
use Rattle.std.proofs.lemmas.List.Elements.{All-nil, All-cons, All-head, All-tail}
use Rattle.std.proofs.lemmas.Slice.Eq.{bytes_eq-Decides}
use Rattle.lf_units.specs.declared.geometry.Rect.{Rect}
use Rattle.lf_def.specs.declared.components.Component.{Component}
use Rattle.lf_lef.specs.Contents.{Contents}
use Rattle.lf_def.specs.Kinds.{is_fixed, is_cover, is_movable}
use Rattle.lf_floorplan.specs.declared.loaded.LoadedCell.{LoadedCell}
use Rattle.lf_floorplan.specs.declared.loaded.Loaded.{Loaded}
use Rattle.lf_frame.specs.Teams.{IsTeamOfComponent}
use Rattle.lf_frame.specs.Loading.{macro_named}
use Rattle.lf_frame.specs.Findings.{LoadInputs, units_in}
use Rattle.lf_frame.specs.Loads.{fixed_box, blocked, obstacles_in, IsLoadedFrom}
use Rattle.lf_floor_model.proofs.Parts.{taken, passed}
use Rattle.lf_laws_slices.specs.Cuts.{IsOwn, AreSameComponents, IsCutFrom, without_others}
use Rattle.lf_laws_slices.proofs.Cuts.{Makes, team_is_one, without_positions}

-- ---- components of the team

-- a cell of the team has the name
abbrev is_among : ℕ → List LoadedCell → List ℕ → Bool
is_among number [] name = false
is_among number (x ∷ xs) name = (bytes_eq x.name name && eqb x.team number) || is_among number xs name

or_right : (b : Bool) → (b || true) ≡ true
or_right true = refl
or_right false = refl

both_true : (a b : Bool) → (a && b) ≡ true → (a ≡ true) × (b ≡ true)
both_true true b e = (refl, e)
both_true false b e = absurd cc

module _ (i : LoadInputs) (number : ℕ) where
  -- the name of a cell of the team is a name in the team
  found_own : (cs : List Component) (xs : List LoadedCell) → AllZip (Makes i) cs xs → (name : List ℕ) → is_among number xs name ≡ true
      → IsTeamOfComponent i.document.regions i.document.groups name number
  found_own [] [] z name is = absurd cc
  found_own [] (x ∷ xs) z name is = absurd z
  found_own (c ∷ cs) [] z name is = absurd z
  found_own (c ∷ cs) (x ∷ xs) z name is = by (bytes_eq x.name name && eqb x.team number) refl is (λ rest. found_own cs xs z.1 name rest) where
    by : (b : Bool) → (bytes_eq x.name name && eqb x.team number) ≡ b → (b || is_among number xs name) ≡ true
        → (is_among number xs name ≡ true → IsTeamOfComponent i.document.regions i.document.groups name number) → IsTeamOfComponent i.document.regions i.document.groups name number
    by false e is rest = rest is
    by true e is rest =
        let both = both_true (bytes_eq x.name name) (eqb x.team number) e in
        subst (λ (n : ℕ). IsTeamOfComponent i.document.regions i.document.groups name n) (eqb-true x.team number both.1)
        (subst (λ (m : List ℕ). IsTeamOfComponent i.document.regions i.document.groups m x.team) (sym z.0.name ∙ (bytes_eq-Decides x.name name).0 both.0) z.0.team)

  -- a component of the team has a cell in the team
  own_found : (cs : List Component) (xs : List LoadedCell) → AllZip (Makes i) cs xs → All (λ c. IsOwn i number c → is_among number xs c.name ≡ true) cs
  own_found [] xs z = All-nil (λ c. IsOwn i number c → is_among number xs c.name ≡ true)
  own_found (c ∷ cs) [] z = absurd z
  own_found (c ∷ cs) (x ∷ xs) z =
      All-cons (λ c. IsOwn i number c → is_among number (x ∷ xs) c.name ≡ true) c cs first (λ k d within own. later _ (own_found cs xs z.1 k d within own))
    where
      first : IsOwn i number c → is_among number (x ∷ xs) c.name ≡ true
      first own =
          let named : bytes_eq x.name c.name ≡ true = (bytes_eq-Decides x.name c.name).1 z.0.name in
          let same : eqb x.team number ≡ true =
          eq-eqb x.team number (team_is_one i.document.regions i.document.groups c.name x.team number z.0.team own) in
          ap (λ (b : Bool). (b && eqb x.team number) || is_among number xs c.name) named
          ∙ ap (λ (b : Bool). (true && b) || is_among number xs c.name) same

      later : (name : List ℕ) → is_among number xs name ≡ true → is_among number (x ∷ xs) name ≡ true
      later name is = ap (λ (b : Bool). (bytes_eq x.name name && eqb x.team number) || b) is ∙ or_right (bytes_eq x.name name && eqb x.team number)

-- ---- the remaining components

module _ (own : Component → Bool) where
  abbrev kept : Component → Bool
  kept c = not (is_movable c) || own c

  -- the remaining movable components are those that pass the test
  movable_left : (cs : List Component) → filter is_movable (filter kept cs) ≡ filter own (filter is_movable cs)
  movable_left [] = refl
  movable_left (c ∷ cs) = by (is_movable c) refl (own c) refl (movable_left cs) where
    by : (m : Bool) → is_movable c ≡ m → (o : Bool) → own c ≡ o
        → filter is_movable (filter kept cs) ≡ filter own (filter is_movable cs)
        → filter is_movable (filter kept (c ∷ cs)) ≡ filter own (filter is_movable (c ∷ cs))
    by false is o e rest =
        let stays : kept c ≡ true = ap (λ (m : Bool). not m || own c) is in
        ap (λ (xs : List Component). filter is_movable xs) (taken kept c cs stays)
        ∙ passed is_movable c (filter kept cs) is
        ∙ rest
        ∙ sym (ap (λ (xs : List Component). filter own xs) (passed is_movable c cs is))
    by true is false e rest =
        let goes : kept c ≡ false = ap (λ (m : Bool). not m || own c) is ∙ e in
        ap (λ (xs : List Component). filter is_movable xs) (passed kept c cs goes)
        ∙ rest
        ∙ sym (passed own c (filter is_movable cs) e)
        ∙ sym (ap (λ (xs : List Component). filter own xs) (taken is_movable c cs is))
    by true is true e rest =
        let stays : kept c ≡ true = ap (λ (m : Bool). not m || own c) is ∙ e in
        ap (λ (xs : List Component). filter is_movable xs) (taken kept c cs stays)
        ∙ taken is_movable c (filter kept cs) is
        ∙ ap (λ (xs : List Component). c ∷ xs) rest
        ∙ sym (taken own c (filter is_movable cs) e)
        ∙ sym (ap (λ (xs : List Component). filter own xs) (taken is_movable c cs is))

  -- the removed components have no box
  boxes_left : (box : Component → Option Rect) → ((c : Component) → is_movable c ≡ true → box c ≡ None) → (cs : List Component)
      → filter_map box (filter kept cs) ≡ filter_map box cs
  boxes_left box none [] = refl
  boxes_left box none (c ∷ cs) = by (is_movable c) refl (kept c) refl (boxes_left box none cs) where
    by : (m : Bool) → is_movable c ≡ m → (k : Bool) → kept c ≡ k → filter_map box (filter kept cs) ≡ filter_map box cs
        → filter_map box (filter kept (c ∷ cs)) ≡ filter_map box (c ∷ cs)
    by m is true e left =
        ap (λ (xs : List Component). filter_map box xs) (taken kept c cs e)
        ∙ ap (λ (rest : List Rect). cons_option (box c) rest) left
    by true is false e left =
        ap (λ (xs : List Component). filter_map box xs) (passed kept c cs e)
        ∙ left
        ∙ sym (ap (λ (o : Option Rect). cons_option o (filter_map box cs)) (none c is))
    by false is false e left = absurd (never (sym (ap (λ (m : Bool). not m || own c) is) ∙ e)) where
      never : true ≡ false → ⊥
      never e = cc

-- a movable component is no obstacle
no_box : (i : LoadInputs) (c : Component) → is_movable c ≡ true → fixed_box i.library (units_in i) c ≡ None
no_box i c is = by (is_fixed c) refl is where
  by : (b : Bool) → is_fixed c ≡ b → (not b && not (is_cover c)) ≡ true → fixed_box i.library (units_in i) c ≡ None
  by true e movable = absurd cc
  by false e movable = rw e refl

all_passing : (own : Component → Bool) (P : Component → Type 0) (cs : List Component) → All (λ c. own c ≡ true → P c) cs → All P (filter own cs)
all_passing own P [] all = All-nil P
all_passing own P (c ∷ cs) all =
    by (own c) refl (all_passing own P cs (All-tail (λ c. own c ≡ true → P c) c cs all)) where
      by : (b : Bool) → own c ≡ b → All P (filter own cs) → All P (cond b (c ∷ filter own cs) (filter own cs))
      by true is rest = All-cons P c (filter own cs) (All-head (λ c. own c ≡ true → P c) c cs all is) rest
      by false is rest = rest

same_each : (i j : LoadInputs) → i.library ≡ j.library → (cs : List Component) → AllZip (AreSameComponents i j) cs cs
same_each i j same [] = tt
same_each i j same (c ∷ cs) = (record { name = refl; location_is = refl; same_macro = ap (λ (library : Contents). macro_named library c.mac) same }, same_each i j same cs)

pub cut_there : (number : ℕ) (i : LoadInputs) (a : Loaded) → IsLoadedFrom i a → (own : Component → Bool) × IsCutFrom number i (without_others own i)
cut_there number i a loaded = (
  own,
  record {
    header = refl;
    core = refl;
    rows = refl;
    fences_are = refl;
    limits = refl;
    obstacles = λ r. subst (λ (rects : List Rect). Contains (obstacles_in i) r ↔ Contains rects r) (sym same_obstacles) ((λ h. h), (λ h. h));
    soft = λ r. ((λ h. h), (λ h. h));
    cells = record {
      own = own;
      decides = λ k d within. ((λ is. found_own i number movables a.cells makes _ is), own_found i number movables a.cells makes k d within);
      kept = subst (λ (cs : List Component). AllZip (AreSameComponents i j) (filter own movables) cs) (sym left) (same_each i j refl (filter own movables));
      no_others =
          subst (λ (cs : List Component). All (IsOwn j number) cs) (sym left)
          (all_passing own (IsOwn j number) movables (λ k d within is. found_own i number movables a.cells makes _ is));
    };
  },
) where
  own : Component → Bool
  own c = is_among number a.cells c.name

  j : LoadInputs
  j = without_others own i

  movables : List Component
  movables = filter is_movable i.document.components

  makes : AllZip (Makes i) movables a.cells
  makes = without_positions i 0 i.document.components a.cells loaded.cells

  left : filter is_movable j.document.components ≡ filter own movables
  left = movable_left own i.document.components

  same_obstacles : obstacles_in j ≡ obstacles_in i
  same_obstacles =
      ap (λ (boxes : List Rect). boxes ++ flat_map blocked i.document.blockages)
      (boxes_left own (fixed_box i.library (units_in i)) (no_box i) i.document.components)
