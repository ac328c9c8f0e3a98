-- Lists of sites and macros that are cut or grow.
use Rattle.std.proofs.Common.{ℕ, List, take, arith}
use Rattle.std.proofs.lemmas.List.{length-take}
use Rattle.std.proofs.lemmas.List.Elements.{All-take}
use Rattle.lf_floorplan.specs.declared.sites.Site.{Site}
use Rattle.lf_floorplan.specs.declared.macros.Macro.{Macro}
use Rattle.lf_lef.specs.Contents.{IsSite, IsMacro, AreSites, AreMacros}

pub first_sites : (n : ℕ) (sites : List Site) → AreSites sites → AreSites (take n sites)
first_sites n sites h = record { each = All-take IsSite n sites h.each; few = omega (arith, length-take n sites, h.few) }

pub first_macros : (n : ℕ) (macros : List Macro) → AreMacros macros → AreMacros (take n macros)
first_macros n macros h = record { each = All-take IsMacro n macros h.each; few = omega (arith, length-take n macros, h.few) }
