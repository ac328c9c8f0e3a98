-- Kept DEF texts: what can be written into them, and that none is requested if none is kept.
use Rattle.std.proofs.Common.{◌≡◌, ◌∙◌, ap, refl, subst, sym, false, true, ℕ, List, None, Option, Some, is_some, map}
use Rattle.std.specs.Borrow.{Bor}
use Rattle.lf_def.specs.Document.{Document}
use Rattle.lf_floorplan.specs.declared.place.Place.{Place}
use Rattle.lf_task_designs.specs.declared.opening.SourceText.{SourceText}
use Rattle.lf_task_designs.specs.Designs.{AreKept}
use Rattle.lf_task_files.specs.Exits.{CanBePut}
use Rattle.lf_task_files.specs.Inputs.{path_of}
use Rattle.lf_write.specs.Export.{CanBeRenewed, ClauseFacts, clause_of}

-- Places can be written into the kept text if they can be written into the text of the design.
pub can_be_put : (original : Option SourceText) (text : List ℕ) (document : Document) (places : List (ℕ × Option Place)) → AreKept original text document
    → CanBeRenewed text (map (clause_of text) document.components) places → CanBePut original places
can_be_put None text document places are can = tt
can_be_put (Some original) text document places are can =
    subst (λ (clauses : List ClauseFacts). CanBeRenewed original.text.items clauses places) (sym are.1)
    (subst (λ (bytes : List ℕ). CanBeRenewed bytes (map (clause_of text) document.components) places) (sym are.0) can)

-- A path is given if its bytes are.
pub is_given : (path : Option (Bor (List ℕ))) → is_some (path_of path) ≡ is_some path
is_given None = refl
is_given (Some path) = refl

-- If no text is kept, but one is kept for a path, there is no path.
pub not_requested : (original : Option SourceText) (path : Option (List ℕ)) → is_some original ≡ is_some path → original ≡ None → path ≡ None
not_requested original None kept none = refl
not_requested original (Some path) kept none = absurd (clash (sym (ap is_some none) ∙ kept)) where
  clash : false ≡ true → ⊥
  clash e = cc
