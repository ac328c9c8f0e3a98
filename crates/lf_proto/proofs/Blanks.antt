-- Blanks only separate the fields of a line.
use Rattle.std.proofs.Common.{◌≡◌, ℕ, Bool, true, false, ◌&&◌, cond, nat_lt, List, [], ◌∷◌, ◌++◌, length, filter, None, refl, sym, ap, ◌∙◌, append-nil}
use Rattle.std.proofs.lemmas.List.Elements.{filter-append}
use Rattle.std.proofs.lemmas.List.Folds.{list_all-append}
use Rattle.std.proofs.lemmas.List.Splits.{slice_split-cons_yes, slice_split-cons_no}
use Rattle.std.specs.List.{slice_split, onto_first, list_all}
use Rattle.lf_proto.specs.Lines.{is_blank, is_line_byte, fields}
use Rattle.lf_proto.specs.Requests.{command_on, command_in}
use Rattle.lf_proto.specs.Printed.{PassesBlanksAround, PassesBlanksBetween}

abbrev parts_of : List ℕ → List (List ℕ)
parts_of line = slice_split is_blank line

onto_first-append : (b : ℕ) (line : List ℕ) (more : List (List ℕ)) → onto_first b (parts_of line ++ more) ≡ onto_first b (parts_of line) ++ more
onto_first-append b [] more = refl
onto_first-append b (x ∷ line) more = at (is_blank x)
  where
    under : (parts : List (List ℕ)) → onto_first b (onto_first x parts ++ more) ≡ onto_first b (onto_first x parts) ++ more
    under [] = refl
    under (p ∷ parts) = refl

    at : (blank : Bool) → onto_first b (cond blank ([] ∷ parts_of line) (onto_first x (parts_of line)) ++ more) ≡ onto_first b (cond blank ([] ∷ parts_of line) (onto_first x (parts_of line))) ++ more
    at true = refl
    at false = under (parts_of line)

module _ (x a : ℕ) (front rest : List ℕ) (ih : parts_of (front ++ a ∷ rest) ≡ parts_of front ++ parts_of rest) where
  parts_more : (blank : Bool) → is_blank x ≡ blank → parts_of (x ∷ (front ++ a ∷ rest)) ≡ parts_of (x ∷ front) ++ parts_of rest
  parts_more true is =
      slice_split-cons_yes is_blank x (front ++ a ∷ rest) is ∙ (ap (λ parts. [] ∷ parts) ih
      ∙ sym (ap (λ parts. parts ++ parts_of rest) (slice_split-cons_yes is_blank x front is)))
  parts_more false is =
      slice_split-cons_no is_blank x (front ++ a ∷ rest) is ∙ (ap (onto_first x) ih ∙ (onto_first-append x front (parts_of rest)
      ∙ sym (ap (λ parts. parts ++ parts_of rest) (slice_split-cons_no is_blank x front is))))

parts-blank : (front : List ℕ) (a : ℕ) (rest : List ℕ) → is_blank a ≡ true → parts_of (front ++ a ∷ rest) ≡ parts_of front ++ parts_of rest
parts-blank [] a rest blank = slice_split-cons_yes is_blank a rest blank
parts-blank (x ∷ front) a rest blank = parts_more x a front rest (parts-blank front a rest blank) (is_blank x) refl

-- a blank separates the fields in front of it from those after it
pub fields-blank : (front : List ℕ) (a : ℕ) (rest : List ℕ) → is_blank a ≡ true → fields (front ++ a ∷ rest) ≡ fields front ++ fields rest
fields-blank front a rest blank =
    ap (filter (λ field. nat_lt 0 (length field))) (parts-blank front a rest blank) ∙ filter-append (λ field. nat_lt 0 (length field)) (parts_of front) (parts_of rest)

blank_is_line_byte : (a : ℕ) → is_blank a ≡ true → is_line_byte a ≡ true
blank_is_line_byte a blank = rw blank refl

pub line_bytes-blank : (front : List ℕ) (a : ℕ) (rest : List ℕ) → is_blank a ≡ true → list_all is_line_byte (front ++ a ∷ rest) ≡ (list_all is_line_byte front && list_all is_line_byte rest)
line_bytes-blank front a rest blank = list_all-append is_line_byte front (a ∷ rest) ∙ ap (λ t. list_all is_line_byte front && (t && list_all is_line_byte rest)) (blank_is_line_byte a blank)

-- the command on a line depends on whether its bytes may occur in a line, and on its fields
same_command : (line other : List ℕ) → list_all is_line_byte line ≡ list_all is_line_byte other → fields line ≡ fields other → command_on line ≡ command_on other
same_command line other bytes same =
    ap (λ t. cond t (command_in (fields line)) None) bytes ∙ ap (λ f. cond (list_all is_line_byte other) (command_in f) None) same

and_true : (t : Bool) → (t && true) ≡ t
and_true true = refl
and_true false = refl

pub passes_around : PassesBlanksAround
passes_around blank line is = (
  same_command (blank ∷ line) line (line_bytes-blank [] blank line is) (fields-blank [] blank line is),
  same_command (line ++ blank ∷ []) line (line_bytes-blank line blank [] is ∙ and_true (list_all is_line_byte line)) (fields-blank line blank [] is ∙ append-nil (fields line)),
)

pub passes_between : PassesBlanksBetween
passes_between a b c front rest a_is b_is c_is =
    same_command (front ++ a ∷ b ∷ rest) (front ++ c ∷ rest)
    (line_bytes-blank front a (b ∷ rest) a_is ∙ (ap (λ t. list_all is_line_byte front && t) (line_bytes-blank [] b rest b_is) ∙ sym (line_bytes-blank front c rest c_is)))
    (fields-blank front a (b ∷ rest) a_is ∙ (ap (λ f. fields front ++ f) (fields-blank [] b rest b_is) ∙ sym (fields-blank front c rest c_is)))
