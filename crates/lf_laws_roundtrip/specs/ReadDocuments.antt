-- The document of a DEF text is spelled as in a text.
use Rattle.std.specs.Prelude.{◌≡◌, ◌≢◌, ℕ, List, All, IfSome, Ok, codes}
use Rattle.lf_def.specs.declared.groups.Group.{Group}
use Rattle.lf_def.specs.declared.components.Component.{Component}
use Rattle.lf_def.specs.Document.{Document, document_of}
use Rattle.lf_laws_roundtrip.specs.Spelled.{IsSpelledWord, IsSpelledName, IsQuotedText}

-- Holds if the component's name and macro are spelled as in a text.
pub record IsSpelledComponent (c : Component) : Type 0 where
  pub name_spelled : IsSpelledName c.name
  pub mac_spelled : IsSpelledName c.mac

-- Holds if the group is not bound to a region named by a parenthesis.
abbrev pub IsBindable : Group → Type 0
IsBindable g = IfSome g.region (λ n. n ≢ codes "(")

-- Holds if the names of the document are words, and its divider and brackets quoted texts.
pub record IsSpelledDocument (d : Document) : Type 0 where
  pub version : IsSpelledWord d.header.version
  pub divider : IsQuotedText d.header.divider
  pub brackets : IsQuotedText d.header.brackets
  pub design : IsSpelledName d.header.design
  pub regions : All (λ r. IsSpelledName r.name) d.regions
  pub groups : All IsBindable d.groups
  pub components : All IsSpelledComponent d.components

-- The document of a text is spelled as in a text.
abbrev pub ReadIsSpelled : Type 0
ReadIsSpelled = (text : List ℕ) (d : Document) → document_of text ≡ Ok d → IsSpelledDocument d
