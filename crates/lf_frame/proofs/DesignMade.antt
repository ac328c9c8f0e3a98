-- The cells of an accepted design make a design on its frame.
use Rattle.std.proofs.Common.{◌≡◌, ◌≢◌, ℕ, zero, suc, ◌+◌, ◌<◌, ◌≤◌, ◌⊎◌, inl, inr, Bool, true, false, List, [], ◌∷◌, length, get_or, Option, None, Some, refl, sym, ap, ◌∙◌, arith}
use Rattle.std.specs.Prelude.{All, AllPairs, IsSome, IfSome, filter, not, nat_le, slice_get}
use Rattle.std.specs.List.{AllZip, enumerate_from}
use Rattle.std.proofs.lemmas.Bool.{false≢true, and_parts, leb-true}
use Rattle.std.proofs.lemmas.Grind.{common_steps}
use Rattle.std.proofs.lemmas.List.{get_or_default}
use Rattle.std.proofs.lemmas.List.Elements.{All-nil, All-cons, All-head, All-tail, All-filter, filter_passes}
use Rattle.std.proofs.lemmas.List.Kept.{AllPairs-filter}
use Rattle.std.proofs.lemmas.List.FromFn.{length-enumerate_from, get_or-enumerate_from}
use Rattle.std.proofs.lemmas.List.Sums.{AllPass-from_list_all}
use Rattle.std.proofs.lemmas.Option.{slice_get_within, unwrap_or-slice_get}
use Rattle.std.proofs.lemmas.List.Quantifiers.{position-Some}
use Rattle.lf_lex.specs.Tokens.{is_word_byte}
use Rattle.lf_lex.specs.Reading.{IsName as IsReadName}
use Rattle.lf_lex.specs.declared.fault.FaultNumber.TheVariants.{NoMacro, SecondName, TwoFences, TooMany}
use Rattle.lf_names.specs.Names.{position_of}
use Rattle.lf_floorplan.specs.declared.macros.Macro.{Macro}
use Rattle.lf_lef.specs.Contents.{macro_names}
use Rattle.lf_def.specs.declared.regions.Region.{Region}
use Rattle.lf_def.specs.declared.groups.Group.{Group}
use Rattle.lf_def.specs.declared.components.Component.{Component}
use Rattle.lf_def.specs.Ranges.{IsComponent}
use Rattle.lf_floorplan.specs.declared.frame.Frame.{Frame}
use Rattle.lf_floorplan.specs.declared.loaded.LoadedCell.{LoadedCell}
use Rattle.lf_floorplan.specs.Bounds.{IsPrinted, IsDesignName}
use Rattle.lf_floorplan.specs.Boxes.{IsSized}
use Rattle.lf_floorplan.specs.Ground.{IsTeam}
use Rattle.lf_floorplan.specs.Design.{IsCell, MakeDesign}
use Rattle.lf_frame.specs.Entries.{NoneBreaks}
use Rattle.lf_def.specs.Kinds.{is_cover, is_fixed, is_movable}
use Rattle.lf_frame.specs.Teams.{fences, fence_names, IsTeamOfComponent}
use Rattle.lf_frame.specs.Loading.{macro_named}
use Rattle.lf_frame.specs.ClaimRefusals.{HasEarlierName, IsClaimedTwice}
use Rattle.lf_frame.specs.Refusals.{HasNoMacro, IsComponentTooMany}
use Rattle.lf_frame.specs.Findings.{LoadInputs, units_in, IsAccepted}
use Rattle.lf_frame.specs.Loads.{IsSizedIn, AreInRange, IsFrameOf, movables, CanBeCell, IsCellOf}
use Rattle.lf_frame.proofs.Gathered.{none_of_name}
use Rattle.lf_frame.proofs.Accepted.{first_nothing, macros_sized}

-- A fact about each entry holds of the one that belongs to it.
all_right : {A B : Type 0} {R : A → B → Type 0} (P : A → Type 0) (Q : B → Type 0) (xs : List A) (ys : List B) → AllZip R xs ys →
    ((x : A) (y : B) → P x → R x y → Q y) → All P xs → All Q ys
all_right P Q [] [] zip each all = All-nil Q
all_right P Q [] (y ∷ ys) zip each all = absurd zip
all_right P Q (x ∷ xs) [] zip each all = absurd zip
all_right P Q (x ∷ xs) (y ∷ ys) zip each all = All-cons Q y ys (each x y (All-head P x xs all) zip.0) (all_right P Q xs ys zip.1 each (All-tail P x xs all))

pairs_right : {A B : Type 0} {R : A → B → Type 0} (P : A → A → Type 0) (Q : B → B → Type 0) (d : A) (xs : List A) (ys : List B) → AllZip R xs ys →
    ((x x' : A) (y y' : B) → P x x' → R x y → R x' y' → Q y y') → AllPairs P xs → AllPairs Q ys
pairs_right {A} {B} {R} P Q d xs ys zip each pairs i j e below within =
    let long : length xs ≡ length ys = same_length xs ys zip in
    each (get_or xs i d) (get_or xs j d) (get_or ys i e) (get_or ys j e) (pairs i j d below (omega (arith, long))) (at xs ys i zip (omega (arith, long))) (at xs ys j zip (omega (arith, long)))
  where
    same_length : (xs : List A) (ys : List B) → AllZip R xs ys → length xs ≡ length ys
    same_length [] [] zip = refl
    same_length [] (y ∷ ys) zip = absurd zip
    same_length (x ∷ xs) [] zip = absurd zip
    same_length (x ∷ xs) (y ∷ ys) zip = ap suc (same_length xs ys zip.1)

    at : (xs : List A) (ys : List B) (k : ℕ) → AllZip R xs ys → k < length xs → R (get_or xs k d) (get_or ys k e)
    at [] [] k zip within = absurd (omega arith)
    at [] (y ∷ ys) k zip within = absurd zip
    at (x ∷ xs) [] k zip within = absurd zip
    at (x ∷ xs) (y ∷ ys) zero zip within = zip.0
    at (x ∷ xs) (y ∷ ys) (suc k) zip within = at xs ys k zip.1 (omega arith)

-- A fact about each component holds of it with its position.
all_numbered : (P : Component → Type 0) (n : ℕ) (cs : List Component) → All P cs → All (λ e. P e.1) (enumerate_from n cs)
all_numbered P n [] all = All-nil (λ e. P e.1)
all_numbered P n (c ∷ cs) all = All-cons (λ e. P e.1) (n, c) (enumerate_from (n + 1) cs) (All-head P c cs all) (all_numbered P (n + 1) cs (All-tail P c cs all))

-- A movable component is not COVER.
uncovered : (c : Component) → is_movable c ≡ true → is_cover c ≡ false
uncovered c movable = by (is_cover c) (and_parts (not (is_fixed c)) (not (is_cover c)) movable).1
  where
    by : (t : Bool) → not t ≡ true → t ≡ false
    by true e = absurd (false≢true e)
    by false e = refl

known : (o : Option Macro) → (o ≡ None → ⊥) → IsSome o
known None there = absurd (there refl)
known (Some m) there = refl

placed : (macros : List Macro) (place : Option ℕ) → IsSome (Rattle.lf_frame.specs.Loading.at_place macros place) → IsSome place
placed macros None there = there
placed macros (Some k) there = refl

-- A movable component of an accepted design can be a cell.
pub can_be_cells : (i : LoadInputs) → IsAccepted i → All (λ c. is_movable c ≡ true → CanBeCell i c) i.document.components
can_be_cells i a k d within movable =
    let c : Component = get_or i.document.components k d in
    let none = none_of_name {breaks = HasNoMacro i.library} (a NoMacro) k d within in
    let twice = none_of_name {breaks = IsClaimedTwice i.document.regions i.document.groups} (a TwoFences) k d within in
    record {
      mac = placed i.library.macros (position_of (macro_names i.library.macros) c.mac) (known (macro_named i.library c.mac) (λ e. none (uncovered c movable, e)));
      once = λ h. twice (movable, h);
    }

printed : (byte : ℕ) → is_word_byte byte ≡ true → IsPrinted byte
printed byte is =
    let parts = and_parts (nat_le 33 byte) (nat_le byte 126) is in
    record { least = leb-true 33 byte parts.0; most = leb-true byte 126 parts.1 }

name_printed : (name : List ℕ) → IsReadName name → IsDesignName name
name_printed name is = record { short = is.short; printed = λ k d within. printed (get_or name k d) (AllPass-from_list_all is_word_byte name is.printable k d within) }

position_within : (names : List (List ℕ)) (name : List ℕ) (place : ℕ) → position_of names name ≡ Some place → place < length names
position_within names name place is = (position-Some (Rattle.std.specs.Str.bytes_eq name) names place [] is).0

-- The number of a team is at most the number of fences.
pub team_within : (regions : List Region) (groups : List Group) (name : List ℕ) (team : ℕ) → IsTeamOfComponent regions groups name team → team ≤ length (fences regions)
team_within regions groups name team (inl one) =
    let within : team < length (fence_names regions) = position_within (fence_names regions) one.fence team one.place in
    let same : length (fence_names regions) ≡ length (fences regions) = grind (arith, common_steps) in
    omega (arith, same)
team_within regions groups name team (inr ground) = omega (arith, ground.1)

-- The position of a macro is less than the number of macros.
pub macro_within : (macros : List Macro) (name : List ℕ) (place : ℕ) → position_of (macro_names macros) name ≡ Some place → place < length macros
macro_within macros name place is =
    let many : length (macro_names macros) ≡ length macros = grind (arith, common_steps) in
    let within : place < length (macro_names macros) = position_within (macro_names macros) name place is in
    omega (arith, many)

-- The conditions on an entry.
abbrev IsEntry : LoadInputs → ℕ × Component → Type 0
IsEntry i e = IsComponent e.1 × ((is_movable e.1 ≡ true) × (is_cover e.1 ≡ false → IfSome (macro_named i.library e.1.mac) (IsSizedIn (units_in i))))

sized_in : (f : Frame) (i : LoadInputs) (m : Macro) (k : ℕ) → IsFrameOf i f → slice_get f.macros k ≡ Some m → IsSizedIn (units_in i) m → IsSized f m
sized_in f i m k is at sized =
    let units : f.header.units ≡ units_in i = ap (λ (h : Rattle.lf_floorplan.specs.declared.parts.Header.Header). h.units) is.header in
    let within : k < length f.macros = slice_get_within f.macros k m at in
    let there : get_or f.macros k m ≡ m = sym (unwrap_or-slice_get f.macros k m) ∙ ap (λ o. Rattle.std.specs.Prelude.unwrap_or o m) at in
    let lef = rw there at (f.macros_in_lef k m within) in
    record {
      in_lef = lef.0;
      across = rw units sized.whole.across;
      up = rw units sized.whole.up;
      wide = rw units sized.whole.wide;
      high = rw units sized.whole.high;
    }

team_there : (i : LoadInputs) (f : Frame) (name : List ℕ) (team : ℕ) → IsFrameOf i f → IsTeamOfComponent i.document.regions i.document.groups name team → IsTeam f team
team_there i f name team is of =
    let count : length f.teams ≡ length (fences i.document.regions) = ap (λ (ts : List Rattle.lf_floorplan.specs.declared.parts.Team.Team). length ts) is.teams ∙ (grind (arith, common_steps)) in
    by count of
  where
    by : length f.teams ≡ length (fences i.document.regions) → IsTeamOfComponent i.document.regions i.document.groups name team → team ≤ length f.teams
    by count (inl one) =
        let within : team < length (fence_names i.document.regions) = position_within (fence_names i.document.regions) one.fence team one.place in
        let same : length (fence_names i.document.regions) ≡ length (fences i.document.regions) = grind (arith, common_steps) in
        omega (arith, count, same)
    by count (inr ground) = omega (arith, count, ground.1)

is_cell : (i : LoadInputs) (f : Frame) → IsFrameOf i f → (e : ℕ × Component) (c : LoadedCell) → IsEntry i e → IsCellOf i e c → IsCell f c
is_cell i f is e c entry of =
    let many : length (macro_names i.library.macros) ≡ length i.library.macros = grind (arith, common_steps) in
    let within : c.mac < length (macro_names i.library.macros) = position_within (macro_names i.library.macros) e.1.mac c.mac of.mac in
    let same : length f.macros ≡ length i.library.macros = ap (λ (ms : List Macro). length ms) is.macros in
    let sized : IfSome (slice_get i.library.macros c.mac) (IsSizedIn (units_in i)) = rw of.mac at (entry.1.1 (uncovered e.1 entry.1.0)) in
    record {
      team_known = team_there i f e.1.name c.team is of.team;
      mac_known = omega (arith, many, same);
      mac_sized = λ m at. sized_in f i m c.mac is at (rw (sym (ap (λ (ms : List Macro). slice_get ms c.mac) is.macros) ∙ at) at sized);
      name_printed = rw of.name (name_printed e.1.name entry.0.name);
    }

apart : (i : LoadInputs) → IsAccepted i → AllPairs (λ a b. (a.1.name ≢ b.1.name) × (a.0 < b.0)) (enumerate_from 0 i.document.components)
apart i a j k d below within =
    let long : length (enumerate_from 0 i.document.components) ≡ length i.document.components = length-enumerate_from 0 i.document.components in
    let after_it : k < length i.document.components = omega (arith, long) in
    let first = get_or-enumerate_from 0 i.document.components j d (omega (arith, long)) in
    let second = get_or-enumerate_from 0 i.document.components k d after_it in
    let none = none_of_name {breaks = HasEarlierName} (a SecondName) k d.1 after_it in
    rw (first, second) ((λ same. none (j, get_or i.document.components j d.1, grind (arith, common_steps), grind (arith, common_steps, get_or_default i.document.components j (get_or i.document.components j d.1) d.1), same)), omega arith)

-- The number of components is at most the limit.
pub few : (i : LoadInputs) → IsAccepted i → length i.document.components ≤ i.limits.components
few i a =
    let after_rows = (first_nothing (a TooMany)).1 in
    let after_fences = (first_nothing after_rows).1 in
    let none = none_of_name {breaks = IsComponentTooMany i.limits.components} (first_nothing after_fences).0 in
    by i.document.components none
  where
    by : (cs : List Component) → NoneBreaks (IsComponentTooMany i.limits.components) cs → length cs ≤ i.limits.components
    by [] none = omega arith
    by (c ∷ cs) none =
        let cases : (length (c ∷ cs) ≤ i.limits.components) ⊎ (i.limits.components < length (c ∷ cs)) = grind arith in
        elim cases [
          | inl low ↦ low
          | inr past ↦ absurd (none i.limits.components c past (grind (arith, common_steps)))
        ]

pairs_of : {A B : Type 0} {R : A → B → Type 0} (P : A → A → Type 0) (Q : B → B → Type 0) (xs : List A) (ys : List B) → AllZip R xs ys →
    ((x x' : A) (y y' : B) → P x x' → R x y → R x' y' → Q y y') → AllPairs P xs → AllPairs Q ys
pairs_of P Q [] [] zip each pairs = λ i j d below within. absurd (omega arith)
pairs_of P Q [] (y ∷ ys) zip each pairs = absurd zip
pairs_of P Q (x ∷ xs) ys zip each pairs = pairs_right P Q x (x ∷ xs) ys zip each pairs

fewer : {A : Type 0} (p : A → Bool) (xs : List A) → length (filter p xs) ≤ length xs
fewer p [] = omega arith
fewer p (x ∷ xs) = by (p x) refl (fewer p xs)
  where
    by : (t : Bool) → p x ≡ t → length (filter p xs) ≤ length xs → length (filter p (x ∷ xs)) ≤ length (x ∷ xs)
    by true is rest = rw is (omega arith)
    by false is rest = rw is (omega arith)

entries_known : (i : LoadInputs) → AreInRange i → IsAccepted i → All (IsEntry i) (movables i.document.components)
entries_known i range a =
    let test : ℕ × Component → Bool = λ e. is_movable e.1 in
    let entries : List (ℕ × Component) = enumerate_from 0 i.document.components in
    let ranged = All-filter test (λ e. IsComponent e.1) entries (all_numbered IsComponent 0 i.document.components range.components) in
    let movable = filter_passes test entries in
    let sized = All-filter test (λ e. is_cover e.1 ≡ false → IfSome (macro_named i.library e.1.mac) (IsSizedIn (units_in i))) entries
    (all_numbered (λ c. is_cover c ≡ false → IfSome (macro_named i.library c.mac) (IsSizedIn (units_in i))) 0 i.document.components (macros_sized i range a)) in
    λ k d within. (ranged k d within, (movable k d within, sized k d within))

pub design_made : (i : LoadInputs) (f : Frame) (cells : List LoadedCell) → AreInRange i → IsAccepted i → IsFrameOf i f →
    AllZip (IsCellOf i) (movables i.document.components) cells → MakeDesign f cells
design_made i f cells range a is zip =
    let cs : List Component = i.document.components in
    let entries : List (ℕ × Component) = enumerate_from 0 cs in
    let test : ℕ × Component → Bool = λ e. is_movable e.1 in
    let long : length (movables cs) ≡ length cells = all_long (movables cs) cells zip in
    let fewer_cells : length (filter test entries) ≤ length entries = fewer test entries in
    let same : length entries ≡ length cs = length-enumerate_from 0 cs in
    let pairs = AllPairs-filter (λ (x : ℕ × Component) (y : ℕ × Component). (x.1.name ≢ y.1.name) × (x.0 < y.0)) test entries (apart i a) in
    record {
      few_cells = omega (arith, long, fewer_cells, same, few i a, i.limits.allowed.components_within.most);
      cells_known = all_right (IsEntry i) (IsCell f) (movables cs) cells zip (is_cell i f is) (entries_known i range a);
      names_differ = pairs_of (λ (x : ℕ × Component) (y : ℕ × Component). (x.1.name ≢ y.1.name) × (x.0 < y.0)) (λ b c. b.name ≢ c.name) (movables cs) cells zip (λ x y b c p is_b is_c same. p.0 (sym is_b.name ∙ same ∙ is_c.name)) pairs;
      components_rise = pairs_of (λ (x : ℕ × Component) (y : ℕ × Component). (x.1.name ≢ y.1.name) × (x.0 < y.0)) (λ b c. b.component < c.component) (movables cs) cells zip (λ x y b c p is_b is_c. rw (is_b.component, is_c.component) p.1) pairs;
    }
  where
    all_long : (xs : List (ℕ × Component)) (ys : List LoadedCell) → AllZip (IsCellOf i) xs ys → length xs ≡ length ys
    all_long [] [] zip = refl
    all_long [] (y ∷ ys) zip = absurd zip
    all_long (x ∷ xs) [] zip = absurd zip
    all_long (x ∷ xs) (y ∷ ys) zip = ap suc (all_long xs ys zip.1)
