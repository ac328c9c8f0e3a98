-- The contents of a library.
use Rattle.std.specs.Prelude.{◌≡◌, ℕ, ◌≤◌, List, length, map, take, All}
use Rattle.lf_lex.specs.Reading.{IsName}
use Rattle.lf_floorplan.specs.declared.sites.Site.{Site}
use Rattle.lf_floorplan.specs.declared.macros.Macro.{Macro}
use Rattle.lf_lef.specs.Lengths.{HasRange}

-- The sites and the macros, each list in first-read order.
pub record Contents : Type 0 where
  pub sites : List Site
  pub macros : List Macro

abbrev pub site_names : List Site → List (List ℕ)
site_names sites = map (λ s. s.name) sites

abbrev pub macro_names : List Macro → List (List ℕ)
macro_names macros = map (λ m. m.name) macros

-- Holds if the site has a name and lengths in the range of LEF.
pub record IsSite (s : Site) : Type 0 where
  pub name : IsName s.name
  pub size : HasRange s.size

-- Holds if the macro has a name and lengths in the range of LEF.
pub record IsMacro (m : Macro) : Type 0 where
  pub name : IsName m.name
  pub size : HasRange m.size
  pub origin : HasRange m.origin

-- At most 1,000,000 sites.
pub record AreSites (sites : List Site) : Type 0 where
  pub each : All IsSite sites
  pub few : length sites ≤ 1000000

-- At most 1,000,000 macros.
pub record AreMacros (macros : List Macro) : Type 0 where
  pub each : All IsMacro macros
  pub few : length macros ≤ 1000000

-- Holds if the new library begins with the old one.
pub record ExtendsLibrary (old new : Contents) : Type 0 where
  pub sites : take (length old.sites) new.sites ≡ old.sites
  pub macros : take (length old.macros) new.macros ≡ old.macros
