-- Facts about a design in which no refusal finds anything.
use Rattle.std.proofs.Common.{◌≡◌, ℕ, zero, suc, ℤ, pos, ◌*ℤ◌, ◌≤◌, ◌<ℤ◌, ◌⊎◌, inl, inr, Bool, true, false, List, [], ◌∷◌, get_or, Option, None, Some, Bor, refl, arith}
use Rattle.std.specs.Prelude.{All, IsSome, IsSomeAnd, IfSome, MatchOption, cond, is_some, int_lt, slice_get}
use Rattle.std.specs.Option.{option_copied}
use Rattle.std.proofs.lemmas.Bool.{and_parts, false≢true}
use Rattle.std.proofs.lemmas.Int.{ints}
use Rattle.std.proofs.lemmas.Option.{none-some}
use Rattle.std.proofs.lemmas.List.Elements.{All-head, All-tail}
use Rattle.lf_units.specs.declared.geometry.Point.{Point}
use Rattle.lf_units.specs.Length.{in_dbu}
use Rattle.lf_lex.specs.declared.fault.FaultNumber.TheVariants.{NoRows, NoSize, NotWhole}
use Rattle.lf_names.specs.Names.{position_of}
use Rattle.lf_floorplan.specs.declared.sites.Site.{Site}
use Rattle.lf_floorplan.specs.declared.macros.Macro.{Macro}
use Rattle.lf_lef.specs.Contents.{IsMacro, macro_names}
use Rattle.lf_def.specs.declared.components.Component.{Component}
use Rattle.lf_def.specs.declared.components.PlacementClause.{PlacementClause}
use Rattle.lf_def.specs.declared.components.PlacementKind.TheVariants.{Fixed, Cover, Placed, Unplaced}
use Rattle.lf_def.specs.Kinds.{is_fixed, is_cover, is_movable}
use Rattle.lf_frame.specs.Loading.{macro_named, has_size, IsWholeSize, at_place}
use Rattle.lf_floorplan.specs.Sizes.{size_in_dbu}
use Rattle.lf_frame.specs.Refusals.{HasNoSize, HasPartUnits}
use Rattle.lf_frame.specs.Findings.{LoadInputs, units_in, core_in, Finding, OfCore, WhereWhole, OfPitch, CoreHasPartUnits, IsAccepted}
use Rattle.lf_frame.specs.Loads.{IsSizedIn, FixedIsSized, AreInRange}
use Rattle.lf_frame.proofs.CoreLemmas.{pitch_of_core, above}
use Rattle.lf_frame.proofs.Gathered.{none_of_name}

-- There is a core site.
pub core_there : (i : LoadInputs) → IsAccepted i → IsSome (core_in i)
core_there i a = by (core_in i) (a NoRows)
  where
    by : (found : Option Site) → None ≡ cond (is_some found) None (Some i.document.header.design) → IsSome found
    by None e = absurd (none-some i.document.header.design e)
    by (Some s) e = refl

pub borrowed_there : (borrowed_view : Option (Bor Site)) {found : Option Site} → option_copied borrowed_view ≡ found → IsSome found → IsSome borrowed_view
borrowed_there None {found} same there = rw (← same) at there
borrowed_there (Some s) {found} same there = refl

-- What is found of the core site.
pub of_core : (i : LoadInputs) (core : Site) (finds : Site → Finding) → core_in i ≡ Some core → OfCore i finds None → finds core None
of_core i core finds is h = rw is at h

pub of_pitch : (i : LoadInputs) (core : Site) (finds : Site → Point → Finding) → core_in i ≡ Some core → IsWholeSize (units_in i) core.size → OfPitch i finds None →
    finds core (size_in_dbu (units_in i) core.size) None
of_pitch i core finds is whole h =
    let at : WhereWhole i core (finds core (size_in_dbu (units_in i) core.size)) None = rw is at h in
    at.whole whole

pub first_nothing : {A B : Type 0} → (A × B) ⊎ (IsSome {T = List ℕ} None × A) → A × B
first_nothing (inl both) = both
first_nothing (inr some) = absurd (false≢true some.0)

-- The core site's size is whole in database units.
pub core_whole : (i : LoadInputs) (core : Site) → core_in i ≡ Some core → IsAccepted i → (IsWholeSize (units_in i) core.size → ⊥) → ⊥
core_whole i core is a not_whole =
    let found : CoreHasPartUnits i core None = of_core i core (CoreHasPartUnits i) is (first_nothing (a NotWhole)).0 in
    none-some core.name (found.part not_whole)

pub pitch_there : {A P : Type 0} (Q : A → Type 0) (found : Option A) → MatchOption found (P → ⊥) Q → ((P → ⊥) → ⊥) → IsSome found
pitch_there Q None none whole = absurd (whole none)
pitch_there Q (Some p) some whole = refl

same_length : (a b : ℤ) → ((a ≡ b → ⊥) → ⊥) → a ≡ b
same_length a b there =
    let cases : (a ≡ b) ⊎ ((a <ℤ b) ⊎ (b <ℤ a)) = grind (arith, ints) in
    elim cases [
      | inl same ↦ same
      | inr (inl less) ↦ absurd (there (λ e. omega (arith, ints)))
      | inr (inr more) ↦ absurd (there (λ e. omega (arith, ints)))
    ]

whole_size : (units : ℕ) (size : Point) → ((IsWholeSize units size → ⊥) → ⊥) → IsWholeSize units size
whole_size units size there = record {
  across = same_length (in_dbu units size.x *ℤ pos 1000000) (size.x *ℤ pos units) (λ no. there (λ w. no w.across));
  up = same_length (in_dbu units size.y *ℤ pos 1000000) (size.y *ℤ pos units) (λ no. there (λ w. no w.up));
}

has_true : (b : Bool) → (b ≡ false → ⊥) → b ≡ true
has_true true not_false = refl
has_true false not_false = absurd (not_false refl)

is_in_place : {A : Type 0} (P : A → Type 0) (xs : List A) (k : ℕ) → All P xs → IfSome (slice_get xs k) P
is_in_place P [] k all = tt
is_in_place P (x ∷ xs) zero all = All-head P x xs all
is_in_place P (x ∷ xs) (suc k) all = is_in_place P xs k (All-tail P x xs all)

place_is_kept : {A : Type 0} (P : A → Type 0) (xs : List A) (place : Option ℕ) → All P xs → IfSome (at_place xs place) P
place_is_kept P xs None all = tt
place_is_kept P xs (Some k) all = is_in_place P xs k all

sized_macro : (units : ℕ) (found : Option Macro) → 1 ≤ units → units ≤ 20000 → IfSome found IsMacro → (IsSomeAnd found (λ m. has_size m.size ≡ false) → ⊥) →
    (IsSomeAnd found (λ m. IsWholeSize units m.size → ⊥) → ⊥) → IfSome found (IsSizedIn units)
sized_macro units None some few range has whole = tt
sized_macro units (Some m) some few range has whole =
    let is : has_size m.size ≡ true = has_true (has_size m.size) has in
    let parts = and_parts (int_lt (pos 0) m.size.x) (int_lt (pos 0) m.size.y) is in
    record {
      wide = above m.size.x parts.0;
      high = above m.size.y parts.1;
      whole = pitch_of_core units m.size some few range.size is (whole_size units m.size whole);
    }

-- The macro of a component other than COVER has a size that is whole in database units.
pub macros_sized : (i : LoadInputs) → AreInRange i → IsAccepted i →
    All (λ c. is_cover c ≡ false → IfSome (macro_named i.library c.mac) (IsSizedIn (units_in i))) i.document.components
macros_sized i range a k d within uncovered =
    let c : Component = get_or i.document.components k d in
    let has = none_of_name {breaks = HasNoSize i.library} (a NoSize) k d within in
    let whole = none_of_name {breaks = HasPartUnits i.library (units_in i)} (first_nothing (a NotWhole)).1 k d within in
    sized_macro (units_in i) (macro_named i.library c.mac) range.units.least range.units.most
    (place_is_kept IsMacro i.library.macros (position_of (macro_names i.library.macros) c.mac) range.macros)
    (λ h. has (uncovered, h)) (λ h. whole (uncovered, h))

-- A FIXED component is not COVER.
fixed_uncovered : (c : Component) → is_fixed c ≡ true → is_cover c ≡ false
fixed_uncovered c = by c.placement
  where
    by : (p : Option PlacementClause) → Rattle.lf_def.specs.Kinds.has_kind Rattle.lf_def.specs.Kinds.is_fixed_kind p ≡ true →
        Rattle.lf_def.specs.Kinds.has_kind Rattle.lf_def.specs.Kinds.is_cover_kind p ≡ false
    by None e = absurd (false≢true e)
    by (Some p) e = kind p.kind e
      where
        kind : (k : Rattle.lf_def.specs.declared.components.PlacementKind.PlacementKind) → Rattle.lf_def.specs.Kinds.is_fixed_kind k ≡ true →
            Rattle.lf_def.specs.Kinds.is_cover_kind k ≡ false
        kind Fixed e = refl
        kind Cover e = absurd (false≢true e)
        kind Placed e = refl
        kind Unplaced e = refl

pub fixed_sized : (i : LoadInputs) → AreInRange i → IsAccepted i → All (FixedIsSized i.library (units_in i)) i.document.components
fixed_sized i range a k d within fixed = macros_sized i range a k d within (fixed_uncovered (get_or i.document.components k d) fixed)
