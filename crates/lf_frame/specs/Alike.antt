-- Inputs of loading that differ only in the positions of components in the DEF text. Loading
-- returns the same for both.
use Rattle.std.specs.Prelude.{◌≡◌, ℕ, List, Option, None, cond, option_map}
use Rattle.lf_lex.specs.declared.fault.FaultNumber.{FaultNumber}
use Rattle.lf_lex.specs.declared.fault.LoadFault.{LoadFault}
use Rattle.lf_def.specs.declared.components.Component.{Component}
use Rattle.lf_def.specs.Laws.{placement_without_places, document_without_places}
use Rattle.lf_def.specs.Kinds.{is_movable}
use Rattle.lf_floorplan.specs.declared.loaded.Loaded.{Loaded}
use Rattle.lf_frame.specs.Findings.{LoadInputs, Finds, IsAccepted, IsLoadFault}
use Rattle.lf_frame.specs.Loads.{IsLoadedFrom}

-- The parts of a component that teams cannot change: all but the placement of a movable one. Its
-- positions in the text are left out.
abbrev pub without_movable_place : Component → Component
without_movable_place c = record {
  name = c.name;
  mac = c.mac;
  placement = cond (is_movable c) None (option_map placement_without_places c.placement);
  semicolon = 0;
}

-- Holds if the inputs differ only in the byte positions of components and of their placement
-- clauses.
pub record AreAlike (i j : LoadInputs) : Type 0 where
  pub library : i.library ≡ j.library
  pub document : document_without_places i.document ≡ document_without_places j.document
  pub limits : i.limits ≡ j.limits

-- Every refusal finds the same on inputs that are alike.
abbrev pub FindAlike : Type 0
FindAlike = (i j : LoadInputs) → AreAlike i j
    → (n : FaultNumber) (found : Option (List ℕ)) → Finds i n found → Finds j n found

-- If one of two inputs that are alike is accepted, so is the other.
abbrev pub AcceptedAlike : Type 0
AcceptedAlike = (i j : LoadInputs) → AreAlike i j → IsAccepted i → IsAccepted j

-- A fault of one of two inputs that are alike is a fault of the other.
abbrev pub RefusedAlike : Type 0
RefusedAlike = (i j : LoadInputs) → AreAlike i j → (fault : LoadFault) → IsLoadFault i fault → IsLoadFault j fault

-- A design that is loaded from one of two inputs that are alike is loaded from the other.
abbrev pub LoadedAlike : Type 0
LoadedAlike = (i j : LoadInputs) → AreAlike i j → (l : Loaded) → IsLoadedFrom i l → IsLoadedFrom j l
