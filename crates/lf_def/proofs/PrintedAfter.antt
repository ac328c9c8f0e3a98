-- Printed rows and sections read back as the whole document of a text, after any skipped
-- statements.
use Rattle.std.proofs.Common.{◌≡◌, ◌≢◌, ℕ, true, List, [], ◌∷◌, ◌++◌, All, map, ℤ, Some, Ok, refl, ap, sym, ◌∙◌, subst}
use Rattle.std.specs.Prelude.{codes, IsSome}
use Rattle.std.specs.List.{list_all}
use Rattle.std.proofs.lemmas.List.{append_assoc, append-nil}
use Rattle.std.proofs.lemmas.List.Elements.{All-nil, All-cons, All-append, All-map}
use Rattle.lf_lex.specs.Tokens.{tokens_from}
use Rattle.lf_lex.specs.Splices.{joined_words, is_word_text, plain_word}
use Rattle.lf_lex.proofs.Splicing.{plains, joined_front}
use Rattle.lf_def.specs.declared.rows.RowStatement.{RowStatement}
use Rattle.lf_def.specs.declared.regions.Region.{Region}
use Rattle.lf_def.specs.declared.groups.Group.{Group}
use Rattle.lf_def.specs.declared.components.Component.{Component}
use Rattle.lf_def.specs.declared.blockages.Blockage.{Blockage}
use Rattle.lf_def.specs.declared.doc_parts.DocParts.{DocParts}
use Rattle.lf_def.specs.Header.{no_header}
use Rattle.lf_def.specs.Document.{Document, no_parts, document_of}
use Rattle.lf_def.specs.Laws.{without_places}
use Rattle.lf_def.specs.Printed.{WritesNumbers, IsWord, IsPrintedRow, IsPrintedRegion, IsPrintedGroup, IsPrintedComponent, IsPrintedBlockage}
use Rattle.lf_def.specs.PrintedTexts.{Skipped, IsSkipped, TextPart, skipped_part, design_is, one_row, regions_section, groups_section, components_section, blockages_section, text_tokens, IsPrintedPart, with_parts, document_with, BeginsWith, ReadsApartFromOffsets, design_named, after_skipped, ReadsBackInTexts, ComponentsReadBackInTexts}
use Rattle.lf_def.proofs.PrintedTexts.{parts_read_back}

-- The parts of a text after its DESIGN.
abbrev named_parts : List ℕ → DocParts
named_parts n = record no_parts { header = record no_header { design = Some n } }

passed_adds_nothing : (ps : List Skipped) (qs : List TextPart) (d : DocParts) → with_parts d (map skipped_part ps ++ qs) ≡ with_parts d qs
passed_adds_nothing [] qs d = refl
passed_adds_nothing (p ∷ ps) qs d = passed_adds_nothing ps qs d

-- Skipped statements add nothing in front of DESIGN and after it.
after_is : (before : List Skipped) (n : List ℕ) (between : List Skipped) (parts : List TextPart) → with_parts no_parts (after_skipped before n between parts) ≡ with_parts (named_parts n) parts
after_is before n between parts = passed_adds_nothing before (design_is n ∷ (map skipped_part between ++ parts)) no_parts ∙ passed_adds_nothing between parts (named_parts n)

after_printed : (before : List Skipped) (n : List ℕ) (between : List Skipped) (parts : List TextPart) → All IsSkipped before → All IsSkipped between → IsWord n → All IsPrintedPart parts → All IsPrintedPart (after_skipped before n between parts)
after_printed before n between parts hb hm hn hp =
    All-append IsPrintedPart (map skipped_part before) (design_is n ∷ (map skipped_part between ++ parts)) (All-map IsPrintedPart skipped_part before hb)
    (All-cons IsPrintedPart (design_is n) (map skipped_part between ++ parts) hn (All-append IsPrintedPart (map skipped_part between) parts (All-map IsPrintedPart skipped_part between hm) hp))

-- The document of a text with these parts, if they give d after DESIGN.
says_after : (print : ℤ → List ℕ) → WritesNumbers print → (before : List Skipped) (n : List ℕ) (between : List Skipped) (parts : List TextPart) (d : DocParts) → All IsSkipped before → All IsSkipped between → IsWord n → All IsPrintedPart parts
    → with_parts (named_parts n) parts ≡ d → IsSome d.header.design → (text : List ℕ) → BeginsWith text (text_tokens print (after_skipped before n between parts)) → ReadsApartFromOffsets text (document_with d)
says_after print writes before n between parts d hb hm hn hp e named text begins =
    let whole = after_is before n between parts ∙ e in
    subst (λ (z : DocParts). ReadsApartFromOffsets text (document_with z)) whole
    (parts_read_back print writes (after_skipped before n between parts) (after_printed before n between parts hb hm hn hp) (rw whole named) text begins)

no_components : (cs : List Component) → map without_places cs ≡ [] → cs ≡ []
no_components [] e = refl
no_components (c ∷ cs) e = absurd cc

-- Without components there are no places.
exactly : (text : List ℕ) (d : Document) → d.components ≡ [] → ReadsApartFromOffsets text d → document_of text ≡ Ok d
exactly text d none says =
    let read : says.0 ≡ d.components = no_components says.0 (says.2 ∙ ap (λ (z : List Component). map without_places z) none) ∙ sym none in
    says.1 ∙ ap (λ (z : List Component). Ok (record d { components = z })) read

rows_say : (rs : List RowStatement) (d : DocParts) → with_parts d (map one_row rs) ≡ record d { rows = d.rows ++ rs }
rows_say [] d = ap (λ (z : List RowStatement). record d { rows = z }) (sym (append-nil d.rows))
rows_say (r ∷ rs) d = rows_say rs (record d { rows = d.rows ++ r ∷ [] }) ∙ ap (λ (z : List RowStatement). record d { rows = z }) (append_assoc d.rows (r ∷ []) rs)

pub rows_after : (print : ℤ → List ℕ) → WritesNumbers print → (rs : List RowStatement) → All IsPrintedRow rs → ReadsBackInTexts print (map one_row rs) (λ d. record d { rows = rs })
rows_after print writes rs h before between n hb hm hn text begins =
    exactly text (record (design_named n) { rows = rs }) refl
    (says_after print writes before n between (map one_row rs) (record (named_parts n) { rows = rs }) hb hm hn (All-map IsPrintedPart one_row rs h) (rows_say rs (named_parts n)) refl text begins)

one_part : (p : TextPart) → IsPrintedPart p → All IsPrintedPart (p ∷ [])
one_part p h = All-cons IsPrintedPart p [] h (All-nil IsPrintedPart)

pub regions_after : (print : ℤ → List ℕ) → WritesNumbers print → (count : List ℕ) → count ≢ codes ";" → (rs : List Region) → All IsPrintedRegion rs → ReadsBackInTexts print (regions_section count rs ∷ []) (λ d. record d { regions = rs })
regions_after print writes count other rs h before between n hb hm hn text begins =
    exactly text (record (design_named n) { regions = rs }) refl
    (says_after print writes before n between (regions_section count rs ∷ []) (record (named_parts n) { regions = rs }) hb hm hn (one_part (regions_section count rs) (other, h)) refl refl text begins)

pub groups_after : (print : ℤ → List ℕ) → WritesNumbers print → (count : List ℕ) → count ≢ codes ";" → (gs : List Group) → All IsPrintedGroup gs → ReadsBackInTexts print (groups_section count gs ∷ []) (λ d. record d { groups = gs })
groups_after print writes count other gs h before between n hb hm hn text begins =
    exactly text (record (design_named n) { groups = gs }) refl
    (says_after print writes before n between (groups_section count gs ∷ []) (record (named_parts n) { groups = gs }) hb hm hn (one_part (groups_section count gs) (other, h)) refl refl text begins)

pub components_after : (print : ℤ → List ℕ) → WritesNumbers print → (count : List ℕ) → count ≢ codes ";" → (cs : List Component) → All IsPrintedComponent cs → ComponentsReadBackInTexts print count cs
components_after print writes count other cs h before between n hb hm hn text begins =
    says_after print writes before n between (components_section count cs ∷ []) (record (named_parts n) { components = cs }) hb hm hn (one_part (components_section count cs) (other, h)) refl refl text begins

pub blockages_after : (print : ℤ → List ℕ) → WritesNumbers print → (count : List ℕ) → count ≢ codes ";" → (bs : List Blockage) → All IsPrintedBlockage bs → ReadsBackInTexts print (blockages_section count bs ∷ []) (λ d. record d { blockages = bs })
blockages_after print writes count other bs h before between n hb hm hn text begins =
    exactly text (record (design_named n) { blockages = bs }) refl
    (says_after print writes before n between (blockages_section count bs ∷ []) (record (named_parts n) { blockages = bs }) hb hm hn (one_part (blockages_section count bs) (other, h)) refl refl text begins)

-- Words with one space between, and a line feed.
pub words_begin : (words : List (List ℕ)) (rest : List ℕ) → list_all is_word_text words ≡ true → BeginsWith (joined_words words ++ 10 ∷ rest) (map plain_word words)
words_begin words rest h = (plains (tokens_from 0 0 1 (10 ∷ rest)), joined_front 0 1 words (10 ∷ rest) h refl)
