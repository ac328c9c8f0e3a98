-- The cells of the movable components, in order.
use Rattle.std.proofs.Common.{◌≡◌, ◌≢◌, ◌⊎◌, inl, inr, ℕ, zero, suc, ◌+◌, ◌<◌, ◌≤◌, true, false, List, [], ◌∷◌, ◌++◌, length, get_or, take, drop, refl, sym, ap, ◌∙◌, subst, length-take-le, arith}
use Rattle.std.specs.Prelude.{All, Option, None, option_map, unwrap_or}
use Rattle.std.specs.List.{AllZip}
use Rattle.std.proofs.lemmas.Grind.{common_steps}
use Rattle.std.proofs.lemmas.List.{get_or_default, get_or-take, length-append}
use Rattle.std.proofs.lemmas.Option.{slice_get-map, slice_get_read}
use Rattle.lf_lef.specs.Contents.{Contents}
use Rattle.lf_def.specs.declared.regions.Region.{Region}
use Rattle.lf_def.specs.declared.groups.Group.{Group}
use Rattle.lf_def.specs.declared.components.Component.{Component}
use Rattle.lf_floorplan.specs.declared.loaded.LoadedCell.{LoadedCell}
use Rattle.lf_frame.specs.Entries.{NoneBreaks}
use Rattle.lf_frame.specs.ClaimRefusals.{HasEarlierName, HasTwoFences}
use Rattle.lf_frame.specs.Teams.{IsTeamOfComponent}
use Rattle.lf_frame.specs.ClaimTables.{ClaimFacts, IsTableOf, FindsTeam}
use Rattle.lf_def.specs.Kinds.{is_movable}
use Rattle.lf_frame.specs.MacroTables.{macro_number_of, macros_of, macro_at}
use Rattle.lf_frame.specs.Findings.{LoadInputs}
use Rattle.lf_frame.specs.Loads.{movables, movables_from, IsCellOf}

-- The macro of a component is what the table of macros has at its number.
pub macro_read : (library : Contents) (components : List Component) (macros : List (Option ℕ)) (k : ℕ) (c : Component) → macros ≡ macros_of library components →
    k < length components → c ≡ get_or components k c → macro_at macros k ≡ macro_number_of library c
macro_read library components macros k c made within is =
    ap (λ (all : List (Option ℕ)). macro_at all k) made
    ∙ ap (λ (found : Option (Option ℕ)). unwrap_or found None) (
    slice_get-map (macro_number_of library) components k
    ∙ ap (option_map (macro_number_of library)) (slice_get_read components (length components) k c refl within is)
    )

-- The team of a component is what the table of claims has at its number, unless two fences claim
-- it.
pub team_read : (regions : List Region) (groups : List Group) (components : List Component) (table : ClaimFacts) (k : ℕ) (c : Component) (team : ℕ) →
    FindsTeam table k team → IsTableOf regions groups components table → NoneBreaks HasEarlierName components → k < length components →
    c ≡ get_or components k c → (HasTwoFences regions groups c.name → ⊥) → IsTeamOfComponent regions groups c.name team
team_read regions groups components table k c team decides of differ within is once =
    decides regions groups components of differ c (slice_get_read components (length components) k c refl within is) once

-- Holds if these cells, followed by the cells of the components from this one on, are the cells of
-- all.
abbrev pub GoesOn : LoadInputs → List Component → ℕ → List LoadedCell → Type 0
GoesOn i components k cells = (more : List LoadedCell) → AllZip (IsCellOf i) (movables_from k (drop k components)) more → AllZip (IsCellOf i) (movables components) (cells ++ more)

left : (components : List Component) (k : ℕ) (c : Component) → k < length components → c ≡ get_or components k c →
    drop k components ≡ c ∷ drop (k + 1) components
left components k c within is = grind (arith, common_steps)

pub cell_more : (i : LoadInputs) (components : List Component) (k : ℕ) (c : Component) (cells : List LoadedCell) (cell : LoadedCell) → k < length components →
    c ≡ get_or components k c → is_movable c ≡ true → IsCellOf i (k, c) cell → GoesOn i components k cells → GoesOn i components (k + 1) (cells ++ cell ∷ [])
cell_more i components k c cells cell within is movable made before more zip =
    let same : cells ++ cell ∷ more ≡ (cells ++ cell ∷ []) ++ more = grind (arith, common_steps) in
    rw same at (before (cell ∷ more) (rw (left components k c within is, movable) (made, zip)))

pub none_more : (i : LoadInputs) (components : List Component) (k : ℕ) (c : Component) (cells : List LoadedCell) → k < length components → c ≡ get_or components k c →
    is_movable c ≡ false → GoesOn i components k cells → GoesOn i components (k + 1) cells
none_more i components k c cells within is stays before more zip = before more (rw (left components k c within is, stays) zip)

pub all_made : (i : LoadInputs) (components : List Component) (k : ℕ) (cells : List LoadedCell) → length components ≤ k → GoesOn i components k cells →
    AllZip (IsCellOf i) (movables components) cells
all_made i components k cells past before =
    let nothing : drop k components ≡ [] = grind (arith, common_steps) in
    let whole : cells ++ [] ≡ cells = grind (arith, common_steps) in
    rw whole at (before [] (rw nothing tt))

-- An earlier component has the name.
pub record IsEarlier (components : List Component) (k : ℕ) (name : List ℕ) : Type 0 where
  pub place : ℕ
  pub before : place < k
  pub named : (e : Component) → (get_or components place e).name ≡ name

-- The names of these cells are those of earlier components.
abbrev pub AreEarlier : List Component → ℕ → List LoadedCell → Type 0
AreEarlier components k cells = (m : ℕ) (d : LoadedCell) → m < length cells → IsEarlier components k (get_or cells m d).name

pub none_earlier : (components : List Component) → AreEarlier components 0 []
none_earlier components m d within = absurd (omega (arith, within))

later : (components : List Component) (k : ℕ) (name : List ℕ) → IsEarlier components k name → IsEarlier components (k + 1) name
later components k name is = record { place = is.place; before = omega (arith, is.before); named = is.named }

pub stays_earlier : (components : List Component) (k : ℕ) (cells : List LoadedCell) → AreEarlier components k cells → AreEarlier components (k + 1) cells
stays_earlier components k cells early m d within = later components k (get_or cells m d).name (early m d within)

at_kept : (cells : List LoadedCell) (cell : LoadedCell) (m : ℕ) (d : LoadedCell) → m < length cells → get_or (cells ++ cell ∷ []) m d ≡ get_or cells m d
at_kept [] cell m d within = absurd (omega (arith, within))
at_kept (c ∷ cells) cell zero d within = refl
at_kept (c ∷ cells) cell (suc m) d within = at_kept cells cell m d (omega (arith, within))

at_last : (cells : List LoadedCell) (cell d : LoadedCell) → get_or (cells ++ cell ∷ []) (length cells) d ≡ cell
at_last [] cell d = refl
at_last (c ∷ cells) cell d = at_last cells cell d

pub one_earlier : (components : List Component) (k : ℕ) (c : Component) (cells : List LoadedCell) (cell : LoadedCell) → k < length components → c ≡ get_or components k c →
    cell.name ≡ c.name → AreEarlier components k cells → AreEarlier components (k + 1) (cells ++ cell ∷ [])
one_earlier components k c cells cell within is name early m d inside =
    let long : length (cells ++ cell ∷ []) ≡ length cells + 1 = length-append cells (cell ∷ []) in
    let cases : (m < length cells) ⊎ (length cells ≤ m) = grind arith in
    elim cases [
      | inl low ↦
          subst (λ (x : LoadedCell). IsEarlier components (k + 1) x.name) (sym (at_kept cells cell m d low)) (stays_earlier components k cells early m d low)
      | inr high ↦
          let last : m ≡ length cells = omega (arith, long, inside, high) in
          let same : get_or (cells ++ cell ∷ []) m d ≡ cell = ap (λ (n : ℕ). get_or (cells ++ cell ∷ []) n d) last ∙ at_last cells cell d in
          subst (λ (x : LoadedCell). IsEarlier components (k + 1) x.name) (sym same) (record {
            place = k;
            before = omega arith;
            named = λ e. ap (λ (x : Component). x.name) (get_or_default components k e c within ∙ sym is) ∙ sym name;
          })
    ]

-- The name of this component is new.
pub is_new : (components : List Component) (k : ℕ) (c : Component) (cells : List LoadedCell) → NoneBreaks HasEarlierName components → k < length components →
    c ≡ get_or components k c → AreEarlier components k cells → All (λ d. d.name ≢ c.name) cells
is_new components k c cells none within is early m d inside same =
    let e = early m d inside in
    let x : Component = get_or components e.place c in
    let many : length (take k components) ≡ k = length-take-le k components (omega (arith, within)) in
    none k c within (
      e.place,
      x,
      omega (arith, many, e.before),
      get_or-take k components e.place x e.before ∙ get_or_default components e.place x c (omega (arith, e.before, within)),
      e.named c ∙ same ∙ ap (λ (y : Component). y.name) is,
    )
