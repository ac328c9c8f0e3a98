-- What each refusal of loading finds, and which refusal loading returns.
use Rattle.std.specs.Prelude.{◌≡◌, ◌⊎◌, ℕ, ◌<◌, List, [], Option, Some, None, IsSome, is_some, cond, unwrap_or, option_map, MatchOption}
use Rattle.std.specs.Option.{option_copied}
use Rattle.lf_units.specs.declared.geometry.Point.{Point}
use Rattle.lf_lex.specs.declared.fault.FaultNumber.{FaultNumber}
use Rattle.lf_lex.specs.declared.fault.FaultNumber.TheVariants.{BadToken, UnexpectedEnd, Unexpected, BadNumber, WrongEnd, UnknownStatement}
use Rattle.lf_lex.specs.declared.fault.FaultNumber.TheVariants.{NoUnits, NoSite, NoRows, VerticalRow, BadStep, RowOrient, RowsOverlap}
use Rattle.lf_lex.specs.declared.fault.FaultNumber.TheVariants.{NoMacro, NoSize, NotWhole, SecondName, SecondRegion, NoRegion, TeamName}
use Rattle.lf_lex.specs.declared.fault.FaultNumber.TheVariants.{FencesOverlap, TwoFences, TooMany, OutOfMemory}
use Rattle.lf_lex.specs.declared.fault.LoadFault.{LoadFault}
use Rattle.lf_floorplan.specs.declared.sites.Site.{Site}
use Rattle.lf_lef.specs.Contents.{Contents}
use Rattle.lf_def.specs.declared.groups.Group.{Group}
use Rattle.lf_def.specs.Document.{Document}
use Rattle.lf_def.specs.declared.document.DefDoc.{DefDoc}
use Rattle.lf_def.specs.Contents.{contents}
use Rattle.lf_floorplan.specs.declared.limits.Limits.{Limits}
use Rattle.lf_frame.specs.Entries.{FirstIs}
use Rattle.lf_frame.specs.Loading.{at_place, core_site, IsWholeSize}
use Rattle.lf_floorplan.specs.Sizes.{size_in_dbu}
use Rattle.lf_frame.specs.ClaimRefusals.{HasEarlierName, IsClaimedTwice}
use Rattle.lf_frame.specs.Refusals.{HasNoSite, IsVertical, HasBadStep, IsSideways, OverlapsEarlierRow, HasNoMacro, HasNoSize, HasPartUnits}
use Rattle.lf_frame.specs.Refusals.{HasEarlierFenceName, HasNoRegion, HasGroundName, OverlapsEarlierFence, IsRowTooMany, IsFenceTooMany}
use Rattle.lf_frame.specs.Refusals.{IsComponentTooMany, EndsTooFar}

-- The inputs of loading: the library of the LEF texts, the document of the DEF text, and the
-- limits.
pub record LoadInputs : Type 0 where
  pub library : Contents
  pub document : Document
  pub limits : Limits

-- The inputs made of these.
abbrev pub inputs : Contents → DefDoc → Limits → LoadInputs
inputs library document limits = record { library = library; document = contents document; limits = limits }

-- The database units per micron. 1 for a document without UNITS, which is refused.
abbrev pub units_in : LoadInputs → ℕ
units_in i = unwrap_or i.document.header.units 1

-- The core site of a design.
abbrev pub core_in : LoadInputs → Option Site
core_in i = core_site i.library i.document.rows

-- What a refusal finds: a name, or nothing.
abbrev pub Finding : Type 1
Finding = Option (List ℕ) → Type 0

-- Holds if this is the name of the first entry that breaks the rule, or `None` if no entry does.
pub record NameOfFirst {A : Type 0} (name_of : A → List ℕ) (breaks : List A → A → Type 0) (entries : List A)
    (found : Option (List ℕ)) : Type 0 where
  pub place : Option ℕ
  pub first : FirstIs breaks entries place
  pub name : found ≡ option_map name_of (at_place entries place)

-- What the first finds. If that is nothing, what the second finds.
abbrev pub FirstOf : Finding → Finding → Finding
FirstOf first second found = (first None × second found) ⊎ (IsSome found × first found)

-- What is found with the core site. Nothing without a core site, since NoRows comes first.
abbrev pub OfCore : LoadInputs → (Site → Finding) → Finding
OfCore i finds found = MatchOption (core_in i) (found ≡ None) (λ core. finds core found)

-- What is found with the core site's size in database units. Nothing if the size is not whole in
-- them.
pub record WhereWhole (i : LoadInputs) (core : Site) (finds : Finding) (found : Option (List ℕ)) : Type 0 where
  pub whole : IsWholeSize (units_in i) core.size → finds found
  pub part : (IsWholeSize (units_in i) core.size → ⊥) → found ≡ None

-- What is found with the core site and its size in database units.
abbrev pub OfPitch : LoadInputs → (Site → Point → Finding) → Finding
OfPitch i finds = OfCore i (λ core. WhereWhole i core (finds core (size_in_dbu (units_in i) core.size)))

-- Holds if the name of the core site is found when its size is not whole in database units, and
-- nothing otherwise.
pub record CoreHasPartUnits (i : LoadInputs) (core : Site) (found : Option (List ℕ)) : Type 0 where
  pub whole : IsWholeSize (units_in i) core.size → found ≡ None
  pub part : (IsWholeSize (units_in i) core.size → ⊥) → found ≡ Some core.name

-- The region of a group.
abbrev pub region_name : Group → List ℕ
region_name g = unwrap_or g.region []

-- What the refusal with this number finds (LEF SITE, MACRO; DEF UNITS, ROW, REGIONS, GROUPS,
-- COMPONENTS). The faults of readers and OutOfMemory find nothing.
abbrev pub Finds : LoadInputs → FaultNumber → Finding
Finds i NoUnits = λ found. found ≡ cond (is_some i.document.header.units) None (Some i.document.header.design)
Finds i NoSite = NameOfFirst (λ r. r.site) (HasNoSite i.library) i.document.rows
Finds i NoRows = λ found. found ≡ cond (is_some (core_in i)) None (Some i.document.header.design)
Finds i VerticalRow = OfCore i (λ core. NameOfFirst (λ r. r.name) (IsVertical core) i.document.rows)
Finds i BadStep = OfPitch i (λ core pitch. NameOfFirst (λ r. r.name) (HasBadStep core pitch) i.document.rows)
Finds i RowOrient = OfCore i (λ core. NameOfFirst (λ r. r.name) (IsSideways core) i.document.rows)
Finds i RowsOverlap =
    OfPitch i (λ core pitch. NameOfFirst (λ r. r.name) (OverlapsEarlierRow core pitch) i.document.rows)
Finds i NoMacro = NameOfFirst (λ c. c.mac) (HasNoMacro i.library) i.document.components
Finds i NoSize = NameOfFirst (λ c. c.mac) (HasNoSize i.library) i.document.components
Finds i NotWhole = FirstOf (OfCore i (CoreHasPartUnits i))
    (NameOfFirst (λ c. c.mac) (HasPartUnits i.library (units_in i)) i.document.components)
Finds i SecondName = NameOfFirst (λ c. c.name) HasEarlierName i.document.components
Finds i SecondRegion = NameOfFirst (λ r. r.name) HasEarlierFenceName i.document.regions
Finds i NoRegion = NameOfFirst region_name (HasNoRegion i.document.regions) i.document.groups
Finds i TeamName = NameOfFirst (λ r. r.name) HasGroundName i.document.regions
Finds i FencesOverlap = NameOfFirst (λ r. r.name) OverlapsEarlierFence i.document.regions
Finds i TwoFences =
    NameOfFirst (λ c. c.name) (IsClaimedTwice i.document.regions i.document.groups) i.document.components
Finds i TooMany =
    FirstOf (OfCore i (λ core. NameOfFirst (λ r. r.name) (IsRowTooMany core i.limits.rows) i.document.rows))
    (FirstOf (NameOfFirst (λ r. r.name) (IsFenceTooMany i.limits.fences) i.document.regions)
    (FirstOf (NameOfFirst (λ c. c.name) (IsComponentTooMany i.limits.components) i.document.components)
    (OfPitch i (λ core pitch. NameOfFirst (λ r. r.name) (EndsTooFar core pitch) i.document.rows))))
Finds i BadToken = λ found. found ≡ None
Finds i UnexpectedEnd = λ found. found ≡ None
Finds i Unexpected = λ found. found ≡ None
Finds i BadNumber = λ found. found ≡ None
Finds i WrongEnd = λ found. found ≡ None
Finds i UnknownStatement = λ found. found ≡ None
Finds i OutOfMemory = λ found. found ≡ None

-- The number of a refusal, from 1 to 24.
abbrev pub finding_number : FaultNumber → ℕ
finding_number BadToken = 1
finding_number UnexpectedEnd = 2
finding_number Unexpected = 3
finding_number BadNumber = 4
finding_number WrongEnd = 5
finding_number UnknownStatement = 6
finding_number NoUnits = 7
finding_number NoSite = 8
finding_number NoRows = 9
finding_number VerticalRow = 10
finding_number BadStep = 11
finding_number RowOrient = 12
finding_number RowsOverlap = 13
finding_number NoMacro = 14
finding_number NoSize = 15
finding_number NotWhole = 16
finding_number SecondName = 17
finding_number SecondRegion = 18
finding_number NoRegion = 19
finding_number TeamName = 20
finding_number FencesOverlap = 21
finding_number TwoFences = 22
finding_number TooMany = 23
finding_number OutOfMemory = 24

-- Holds if no refusal finds anything.
abbrev pub IsAccepted : LoadInputs → Type 0
IsAccepted i = (n : FaultNumber) → Finds i n None

-- Holds if this refusal finds the name, and no refusal of a lesser number finds anything.
pub record IsRefused (i : LoadInputs) (number : FaultNumber) (name : List ℕ) : Type 0 where
  pub finds : Finds i number (Some name)
  pub least : (n : FaultNumber) → finding_number n < finding_number number → Finds i n None

-- Holds if this is the fault that loading returns: a refusal's number and the name that it finds,
-- without a line.
pub record IsLoadFault (i : LoadInputs) (fault : LoadFault) : Type 0 where
  pub name : List ℕ
  pub named : option_copied fault.name ≡ Some name
  pub no_line : fault.line ≡ None
  pub refused : IsRefused i fault.number name
