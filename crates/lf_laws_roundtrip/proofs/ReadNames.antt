-- The document of a DEF text is spelled as in a text: names are words, and quoted texts end with
-- their marks.
use Rattle.std.proofs.Common.{◌≡◌, ◌≢◌, ℕ, ◌≤◌, Bool, true, false, List, [], ◌∷◌, ◌++◌, length, Option, Some, None, Result, Ok, Err, refl, ap, ◌∙◌, subst}
use Rattle.std.proofs.Common.{arith}
use Rattle.std.specs.Prelude.{All, IfSome, codes, nat_lt, not, is_some, unwrap_or}
use Rattle.std.specs.Str.{bytes_eq}
use Rattle.std.specs.List.{list_all}
use Rattle.std.proofs.lemmas.Bool.Decides.{nat_tests}
use Rattle.std.proofs.lemmas.List.Elements.{All-nil, All-cons, All-append}
use Rattle.lf_lex.specs.declared.tokens.TokenKind.{TokenKind}
use Rattle.lf_lex.specs.declared.tokens.TokenKind.TheVariants.{Word, Quoted}
use Rattle.lf_lex.specs.declared.fault.ReadFault.{ReadFault}
use Rattle.lf_lex.specs.Tokens.{Lexeme, is_word_byte, tokens_of}
use Rattle.lf_lex.specs.Splices.{is_word_text}
use Rattle.lf_lex.specs.Reading.{Reader, ReadValue, Turn, taken, turn, token, is, is_word, kind_is_word, keyword, word, name, end_name, to_semicolon, block}
use Rattle.lf_lex.specs.Reading.{value_of, first_counts}
use Rattle.lf_lex.proofs.Splicing.{and_true}
use Rattle.lf_lex.proofs.Following.{keyword_follows, end_name_follows, to_semicolon_follows}
use Rattle.lf_def.specs.declared.section.Due.{Due}
use Rattle.lf_def.specs.declared.section.Due.TheVariants.{Item, Keyword, Rest, Separator}
use Rattle.lf_def.specs.declared.header.HeaderParts.{HeaderParts}
use Rattle.lf_def.specs.declared.regions.Region.{Region}
use Rattle.lf_def.specs.declared.groups.GroupParts.{GroupParts}
use Rattle.lf_def.specs.declared.doc_parts.DocParts.{DocParts}
use Rattle.lf_def.specs.Coordinates.{def_rectangle}
use Rattle.lf_def.specs.Entries.{entry_or_end, section, name_token}
use Rattle.lf_def.specs.Header.{version, quoted, design, units, is_header, header_statement}
use Rattle.lf_def.specs.Rows.{with_row}
use Rattle.lf_def.specs.Regions.{region, region_token, first_rect, regions}
use Rattle.lf_def.specs.Groups.{group, group_token, group_from, group_part, with_pattern, with_region, no_group, groups}
use Rattle.lf_def.specs.Components.{component, component_token, no_component, components}
use Rattle.lf_def.specs.Blockages.{blockages}
use Rattle.lf_def.specs.Document.{Document, document_from, def_statement, def_statement_from, body_statement, skip_from, end_design, no_parts}
use Rattle.lf_def.proofs.Following.{rect_follows, units_follows, region_token_follows, region_token_goes}
use Rattle.lf_def.proofs.Places.{component_token_goes, with_row_follows, blockages_alike, passed_follows}
use Rattle.lf_def.proofs.Local.{local_of, local_block}
use Rattle.lf_def.proofs.Kept.{component_token_local}
use Rattle.lf_laws_roundtrip.specs.Spelled.{IsSpelledWord, IsSpelledName, IsQuotedText}
use Rattle.lf_laws_roundtrip.specs.ReadDocuments.{IsSpelledComponent, IsBindable, IsSpelledDocument, ReadIsSpelled}
use Rattle.lf_laws_roundtrip.proofs.ReadTokens.{IsSpelledToken, spelled_from}
use Rattle.lf_laws_roundtrip.proofs.Gives.{Gives, Anything, Keeps, gives_local, gives_pure, gives_fault, gives_choose, gives_given, gives_bind, token_gives}
use Rattle.lf_laws_roundtrip.proofs.Gives.{block_gives, gives_turn}

-- Words and names.

kind_of_word : (k : TokenKind) → kind_is_word k ≡ true → k ≡ Word
kind_of_word Word h = refl
kind_of_word Quoted h = absurd cc

kind_of_quoted : (k : TokenKind) → kind_is_word k ≡ false → k ≡ Quoted
kind_of_quoted Word h = absurd cc
kind_of_quoted Quoted h = refl

not_is : (w : List ℕ) (t : Lexeme) → bytes_eq w w ≡ true → is w t ≡ false → t.text ≢ w
not_is w t same h e = let again : is w t ≡ true = ap (λ (x : List ℕ). bytes_eq x w) e ∙ same in cc

not_false : (b : Bool) → not b ≡ true → b ≡ false
not_false true h = absurd cc
not_false false h = refl

word_is : (t : Lexeme) → IsSpelledToken t → is_word t ≡ true → IsSpelledWord t.text
word_is t spelled h =
    let both = and_true (kind_is_word t.kind) (not (is (codes ";") t)) h in
    record { spelled = spelled.word (kind_of_word t.kind both.0); other = not_is (codes ";") t refl (not_false (is (codes ";") t) both.1) }

word_gives : Gives (λ t. IsSpelledWord t.text) word
unfolding word
word_gives =
    gives_bind IsSpelledToken (λ t. IsSpelledWord t.text) token _ token_gives
    (λ t k. gives_choose (λ u. IsSpelledWord u.text) (is_word t) _ _ (λ h. gives_pure (λ u. IsSpelledWord u.text) t (word_is t k h))
    (λ _. gives_fault (λ u. IsSpelledWord u.text) _))

bytes_of_word : (w : List ℕ) → is_word_text w ≡ true → list_all is_word_byte w ≡ true
bytes_of_word [] h = refl
bytes_of_word (b ∷ bytes) h = (and_true _ (list_all is_word_byte (b ∷ bytes)) h).1

short : (n : ℕ) → nat_lt 1024 n ≡ false → n ≤ 1024
short n h = grind (arith, nat_tests)

name_is : (w : List ℕ) → IsSpelledWord w → nat_lt 1024 (length w) ≡ false → IsSpelledName w
name_is w h few = record {
  word = record { name = record { short = short (length w) few; printable = bytes_of_word w h.spelled }; other = h.other };
  spelled = h.spelled;
}

name_gives : Gives (λ t. IsSpelledName t.text) name
unfolding name
name_gives =
    gives_bind (λ t. IsSpelledWord t.text) (λ t. IsSpelledName t.text) word _ word_gives
    (λ t k. gives_choose (λ u. IsSpelledName u.text) (nat_lt 1024 (length t.text)) _ _ (λ _. gives_fault (λ u. IsSpelledName u.text) _)
    (λ few. gives_pure (λ u. IsSpelledName u.text) t (name_is t.text k few)))

keyword_gives : (due : List ℕ) → Gives Anything (keyword due)
keyword_gives due = gives_local (keyword due) (local_of (keyword due) (keyword_follows due))

-- The header.

version_gives : Gives IsSpelledWord version
unfolding version
version_gives =
    gives_bind (λ t. IsSpelledWord t.text) IsSpelledWord word _ word_gives
    (λ t k. gives_bind Anything IsSpelledWord (keyword (codes ";")) _ (keyword_gives (codes ";")) (λ _ _. gives_pure IsSpelledWord t.text k))

quoted_gives : Gives IsQuotedText quoted
unfolding quoted
quoted_gives =
    gives_bind IsSpelledToken IsQuotedText token _ token_gives
    (λ t k. gives_choose IsQuotedText (kind_is_word t.kind) _ _ (λ _. gives_fault IsQuotedText _)
    (λ h. gives_bind Anything IsQuotedText (keyword (codes ";")) _ (keyword_gives (codes ";"))
    (λ _ _. gives_pure IsQuotedText t.text (k.quoted (kind_of_quoted t.kind h)))))

design_gives : Gives IsSpelledName design
unfolding design
design_gives =
    gives_bind (λ t. IsSpelledName t.text) IsSpelledName name _ name_gives
    (λ t k. gives_bind Anything IsSpelledName (keyword (codes ";")) _ (keyword_gives (codes ";")) (λ _ _. gives_pure IsSpelledName t.text k))

record AreSpelledHeader (h : HeaderParts) : Type 0 where
  version_spelled : IfSome h.version IsSpelledWord
  divider_closed : IfSome h.divider IsQuotedText
  brackets_closed : IfSome h.brackets IsQuotedText
  design_spelled : IfSome h.design IsSpelledName

first_kept : {A : Type 0} (P : A → Type 0) (o : Option A) (x : A) → IfSome o P → P x → IfSome (first_counts o x) P
first_kept P None x h k = k
first_kept P (Some y) x h k = h

header_gives : (s : HeaderParts) (t : Lexeme) → AreSpelledHeader s → Gives AreSpelledHeader (header_statement s t)
unfolding header_statement
header_gives s t h =
    gives_choose AreSpelledHeader (is (codes "VERSION") t) _ _
    (λ _. gives_bind IsSpelledWord AreSpelledHeader version _ version_gives
    (λ v k. gives_pure AreSpelledHeader (record s { version = first_counts s.version v })
    (record {
      version_spelled = first_kept IsSpelledWord s.version v h.version_spelled k;
      divider_closed = h.divider_closed;
      brackets_closed = h.brackets_closed;
      design_spelled = h.design_spelled;
    })))
    (λ _. gives_choose AreSpelledHeader (is (codes "DIVIDERCHAR") t) _ _
    (λ _. gives_bind IsQuotedText AreSpelledHeader quoted _ quoted_gives
    (λ v k. gives_pure AreSpelledHeader (record s { divider = first_counts s.divider v })
    (record {
      version_spelled = h.version_spelled;
      divider_closed = first_kept IsQuotedText s.divider v h.divider_closed k;
      brackets_closed = h.brackets_closed;
      design_spelled = h.design_spelled;
    })))
    (λ _. gives_choose AreSpelledHeader (is (codes "BUSBITCHARS") t) _ _
    (λ _. gives_bind IsQuotedText AreSpelledHeader quoted _ quoted_gives
    (λ v k. gives_pure AreSpelledHeader (record s { brackets = first_counts s.brackets v })
    (record {
      version_spelled = h.version_spelled;
      divider_closed = h.divider_closed;
      brackets_closed = first_kept IsQuotedText s.brackets v h.brackets_closed k;
      design_spelled = h.design_spelled;
    })))
    (λ _. gives_choose AreSpelledHeader (is (codes "DESIGN") t) _ _
    (λ _. gives_bind IsSpelledName AreSpelledHeader design _ design_gives
    (λ v k. gives_pure AreSpelledHeader (record s { design = first_counts s.design v })
    (record {
      version_spelled = h.version_spelled;
      divider_closed = h.divider_closed;
      brackets_closed = h.brackets_closed;
      design_spelled = first_kept IsSpelledName s.design v h.design_spelled k;
    })))
    (λ _. gives_bind Anything AreSpelledHeader units _ (gives_local units (local_of units units_follows))
    (λ v _. gives_pure AreSpelledHeader (record s { units = first_counts s.units v })
    (record {
      version_spelled = h.version_spelled;
      divider_closed = h.divider_closed;
      brackets_closed = h.brackets_closed;
      design_spelled = h.design_spelled;
    }))))))

-- Sections.

entry_gives : {A : Type 0} (P : A → Type 0) (due : List ℕ) (entry : Reader A) → Gives P entry → (s : List A) → All P s
    → Gives (Keeps (All P)) (entry_or_end due entry s)
unfolding entry_or_end
entry_gives {A = A} P due entry f s h =
    gives_bind IsSpelledToken (Keeps (All P)) token _ token_gives
    (λ t _. gives_choose (Keeps (All P)) (is (codes "-") t) _ _
    (λ _. gives_bind P (Keeps (All P)) entry _ f
    (λ x k. gives_turn (All P) (s ++ x ∷ []) true (All-append P s (x ∷ []) h (All-cons P x [] k (All-nil P)))))
    (λ _. gives_choose (Keeps (All P)) (is (codes "END") t) _ _
    (λ _. gives_bind Anything (Keeps (All P)) (end_name due) _ (gives_local (end_name due) (local_of (end_name due) (end_name_follows due)))
    (λ _ _. gives_turn (All P) s false h))
    (λ _. gives_fault (Keeps (All P)) _)))

section_gives : {A : Type 0} (P : A → Type 0) (due : List ℕ) (entry : Reader A) → Gives P entry → (s : List A) → All P s → Gives (All P) (section due entry s)
unfolding section
section_gives P due entry f s h =
    gives_bind Anything (All P) to_semicolon _ (gives_local to_semicolon (local_of to_semicolon to_semicolon_follows))
    (λ _ _. block_gives (All P) (All P) (entry_or_end due entry) (λ x k. entry_gives P due entry f x k) s h)

abbrev RegionIsSpelled : Region → Type 0
RegionIsSpelled r = IsSpelledName r.name

region_gives : Gives RegionIsSpelled region
unfolding region
region_gives =
    gives_bind (λ t. IsSpelledName t.text) RegionIsSpelled name _ name_gives
    (λ n k. gives_bind Anything RegionIsSpelled def_rectangle _ (gives_local def_rectangle (local_of def_rectangle rect_follows))
    (λ r _. gives_bind Anything RegionIsSpelled (block region_token (first_rect r)) _
    (gives_local (block region_token (first_rect r))
    (local_block region_token (λ s. local_of (region_token s) (region_token_follows s)) region_token_goes (first_rect r)))
    (λ p _. gives_pure RegionIsSpelled (record { name = n.text; kind = p.kind; rects = p.rects }) k)))

component_gives : Gives IsSpelledComponent component
unfolding component
component_gives =
    gives_bind (λ t. IsSpelledName t.text) IsSpelledComponent name _ name_gives
    (λ n k. gives_bind (λ t. IsSpelledName t.text) IsSpelledComponent name _ name_gives
    (λ m h. gives_bind Anything IsSpelledComponent (block component_token no_component) _
    (gives_local (block component_token no_component) (local_block component_token component_token_local component_token_goes no_component))
    (λ p _. gives_pure IsSpelledComponent (record { name = n.text; mac = m.text; placement = p.placement; semicolon = p.semicolon })
    (record { name_spelled = k; mac_spelled = h }))))

-- Groups.

abbrev PartsAreBindable : GroupParts → Type 0
PartsAreBindable p = IfSome p.region (λ n. n ≢ codes "(")

pattern_gives : (s : GroupParts) (t : Lexeme) → PartsAreBindable s → Gives (Keeps PartsAreBindable) (with_pattern s t)
unfolding with_pattern
pattern_gives s t h = gives_given (Keeps PartsAreBindable) (name_token t) _
    (λ p _. gives_turn PartsAreBindable (record s { patterns = s.patterns ++ p ∷ [] }) true h)

binding_gives : (s : GroupParts) → PartsAreBindable s → Gives (Keeps PartsAreBindable) (with_region s)
unfolding with_region
binding_gives s h =
    gives_bind (λ t. IsSpelledName t.text) (Keeps PartsAreBindable) name _ name_gives
    (λ n _. gives_choose (Keeps PartsAreBindable) (is (codes "(") n) _ _ (λ _. gives_fault (Keeps PartsAreBindable) _)
    (λ other. gives_turn PartsAreBindable (record s { region = first_counts s.region n.text; due = Separator }) true
    (first_kept (λ m. m ≢ codes "(") s.region n.text h (not_is (codes "(") n refl other))))

part_gives : (due : Due) (s : GroupParts) (t : Lexeme) → PartsAreBindable s → Gives (Keeps PartsAreBindable) (group_part due s t)
unfolding group_part
part_gives Item s t h = pattern_gives s t h
part_gives Keyword s t h =
    gives_choose (Keeps PartsAreBindable) (is (codes "REGION") t) _ _ (λ _. binding_gives s h)
    (λ _. gives_turn PartsAreBindable (record s { due = Rest }) true h)
part_gives Rest s t h = gives_turn PartsAreBindable s true h
part_gives Separator s t h = gives_fault (Keeps PartsAreBindable) _

from_gives : (s : GroupParts) (t : Lexeme) → PartsAreBindable s → Gives (Keeps PartsAreBindable) (group_from s t)
unfolding group_from
from_gives s t h =
    gives_choose (Keeps PartsAreBindable) (is (codes ";") t) _ _ (λ _. gives_turn PartsAreBindable s false h)
    (λ _. gives_choose (Keeps PartsAreBindable) (is (codes "+") t) _ _ (λ _. gives_turn PartsAreBindable (record s { due = Keyword }) true h)
    (λ _. part_gives s.due s t h))

group_token_gives : (s : GroupParts) → PartsAreBindable s → Gives (Keeps PartsAreBindable) (group_token s)
unfolding group_token
group_token_gives s h = gives_bind IsSpelledToken (Keeps PartsAreBindable) token _ token_gives (λ t _. from_gives s t h)

group_gives : Gives IsBindable group
unfolding group
group_gives =
    gives_bind (λ t. IsSpelledName t.text) IsBindable name _ name_gives
    (λ n _. gives_bind PartsAreBindable IsBindable (block group_token no_group) _
    (block_gives PartsAreBindable PartsAreBindable group_token group_token_gives no_group tt)
    (λ p k. gives_pure IsBindable (record { name = n.text; patterns = p.patterns; region = p.region }) k))

-- The whole text.

record AreSpelledParts (d : DocParts) : Type 0 where
  header_spelled : AreSpelledHeader d.header
  regions_spelled : All RegionIsSpelled d.regions
  groups_bindable : All IsBindable d.groups
  components_spelled : All IsSpelledComponent d.components

-- Holds if the design has a name. It does when the text ends.
abbrev IsNamed : DocParts → Type 0
IsNamed d = AreSpelledParts d × (is_some d.header.design ≡ true)

abbrev Ends : Turn DocParts → Type 0
Ends t = AreSpelledParts t.state × (t.more ≡ false → IsNamed t.state)

end_gives : (s : DocParts) → Gives (λ _. is_some s.header.design ≡ true) (end_design s)
unfolding end_design
end_gives s =
    gives_bind IsSpelledToken (λ _. is_some s.header.design ≡ true) token _ token_gives
    (λ t _. gives_choose (λ _. is_some s.header.design ≡ true) (not (kind_is_word t.kind)) _ _ (λ _. gives_fault (λ _. is_some s.header.design ≡ true) _)
    (λ _. gives_choose (λ _. is_some s.header.design ≡ true) (not (is (codes "DESIGN") t)) _ _ (λ _. gives_fault (λ _. is_some s.header.design ≡ true) _)
    (λ _. gives_choose (λ _. is_some s.header.design ≡ true) (is_some s.header.design) _ _
    (λ there. gives_pure (λ _. is_some s.header.design ≡ true) tt there)
    (λ _. gives_fault (λ _. is_some s.header.design ≡ true) _))))

body_gives : (s : DocParts) (t : Lexeme) → AreSpelledParts s → Gives AreSpelledParts (body_statement s t)
unfolding body_statement
body_gives s t h =
    gives_choose AreSpelledParts (is (codes "ROW") t) _ _
    (λ _. gives_bind Anything AreSpelledParts (with_row s.rows) _ (gives_local (with_row s.rows) (local_of (with_row s.rows) (with_row_follows s.rows)))
    (λ x _. gives_pure AreSpelledParts (record s { rows = x }) (as_before (record s { rows = x }) h)))
    (λ _. gives_choose AreSpelledParts (is (codes "REGIONS") t) _ _
    (λ _. gives_bind (All RegionIsSpelled) AreSpelledParts (regions s.regions) _
    (section_gives RegionIsSpelled (codes "REGIONS") region region_gives s.regions h.regions_spelled)
    (λ x k. gives_pure AreSpelledParts (record s { regions = x })
    (record { header_spelled = h.header_spelled; regions_spelled = k; groups_bindable = h.groups_bindable; components_spelled = h.components_spelled })))
    (λ _. gives_choose AreSpelledParts (is (codes "GROUPS") t) _ _
    (λ _. gives_bind (All IsBindable) AreSpelledParts (groups s.groups) _
    (section_gives IsBindable (codes "GROUPS") group group_gives s.groups h.groups_bindable)
    (λ x k. gives_pure AreSpelledParts (record s { groups = x })
    (record { header_spelled = h.header_spelled; regions_spelled = h.regions_spelled; groups_bindable = k; components_spelled = h.components_spelled })))
    (λ _. gives_choose AreSpelledParts (is (codes "COMPONENTS") t) _ _
    (λ _. gives_bind (All IsSpelledComponent) AreSpelledParts (components s.components) _
    (section_gives IsSpelledComponent (codes "COMPONENTS") component component_gives s.components h.components_spelled)
    (λ x k. gives_pure AreSpelledParts (record s { components = x })
    (record { header_spelled = h.header_spelled; regions_spelled = h.regions_spelled; groups_bindable = h.groups_bindable; components_spelled = k })))
    (λ _. gives_choose AreSpelledParts (is (codes "BLOCKAGES") t) _ _
    (λ _. gives_bind Anything AreSpelledParts (blockages s.blockages) _
    (gives_local (blockages s.blockages) (local_of (blockages s.blockages) (blockages_alike s.blockages s.blockages refl)))
    (λ x _. gives_pure AreSpelledParts (record s { blockages = x }) (as_before (record s { blockages = x }) h)))
    (λ _. gives_bind Anything AreSpelledParts (skip_from t) _ (gives_local (skip_from t) (local_of (skip_from t) (passed_follows t t refl)))
    (λ _ _. gives_pure AreSpelledParts s h))))))
  where
    as_before : (d : DocParts) → AreSpelledParts (record d { rows = s.rows; blockages = s.blockages }) → AreSpelledParts d
    as_before d h = record {
      header_spelled = h.header_spelled;
      regions_spelled = h.regions_spelled;
      groups_bindable = h.groups_bindable;
      components_spelled = h.components_spelled;
    }

goes : (s : DocParts) → AreSpelledParts s → Gives Ends (λ l. taken (turn s true) l)
goes s h = gives_pure Ends (turn s true) (h, λ e. absurd cc)

statement_from_gives : (s : DocParts) (t : Lexeme) → AreSpelledParts s → Gives Ends (def_statement_from s t)
unfolding def_statement_from
statement_from_gives s t h =
    gives_choose Ends (is (codes "END") t) _ _
    (λ _. gives_bind (λ _. is_some s.header.design ≡ true) Ends (end_design s) _ (end_gives s) (λ _ there. gives_pure Ends (turn s false) (h, λ _. (h, there))))
    (λ _. gives_choose Ends (is_header t) _ _
    (λ _. gives_bind AreSpelledHeader Ends (header_statement s.header t) _ (header_gives s.header t h.header_spelled)
    (λ x k. goes (record s { header = x })
    (record { header_spelled = k; regions_spelled = h.regions_spelled; groups_bindable = h.groups_bindable; components_spelled = h.components_spelled })))
    (λ _. gives_bind AreSpelledParts Ends (body_statement s t) _ (body_gives s t h) (λ x k. goes x k)))

statement_gives : (s : DocParts) → AreSpelledParts s → Gives Ends (def_statement s)
unfolding def_statement
statement_gives s h = gives_bind IsSpelledToken Ends token _ token_gives (λ t _. statement_from_gives s t h)

-- The initial state is spelled.
nothing_known : AreSpelledParts no_parts
nothing_known = record {
  header_spelled = record { version_spelled = tt; divider_closed = tt; brackets_closed = tt; design_spelled = tt };
  regions_spelled = All-nil RegionIsSpelled;
  groups_bindable = All-nil IsBindable;
  components_spelled = All-nil IsSpelledComponent;
}

or_else : {A : Type 0} (P : A → Type 0) (o : Option A) (x : A) → IfSome o P → P x → P (unwrap_or o x)
or_else P None x h k = k
or_else P (Some y) x h k = h

named_design : (o : Option (List ℕ)) → IfSome o IsSpelledName → is_some o ≡ true → IsSpelledName (unwrap_or o [])
named_design None h there = absurd cc
named_design (Some n) h there = h

said_by : (parts : DocParts) (d : Document) → IsNamed parts → document_from (Ok parts) ≡ Ok d → IsSpelledDocument d
said_by parts d h e = subst IsSpelledDocument (one _ d e) (record {
  version = or_else IsSpelledWord parts.header.version (codes "5.8") h.0.header_spelled.version_spelled (record { spelled = refl; other = λ x. absurd cc });
  divider = or_else IsQuotedText parts.header.divider (codes "\"/\"") h.0.header_spelled.divider_closed
      (record { more = codes "/\""; text = refl; closed = refl });
  brackets = or_else IsQuotedText parts.header.brackets (codes "\"[]\"") h.0.header_spelled.brackets_closed
      (record { more = codes "[]\""; text = refl; closed = refl });
  design = named_design parts.header.design h.0.header_spelled.design_spelled h.1;
  regions = h.0.regions_spelled;
  groups = h.0.groups_bindable;
  components = h.0.components_spelled;
})
  where
    one : (x y : Document) → ◌≡◌ {A = Result Document ReadFault} (Ok x) (Ok y) → x ≡ y
    one x y e = cc

pub read_is_spelled : ReadIsSpelled
read_is_spelled text d e = by (block def_statement no_parts (tokens_of text)) refl e
  where
    by : (o : Result (ReadValue DocParts) ReadFault) → block def_statement no_parts (tokens_of text) ≡ o → document_from (value_of o) ≡ Ok d → IsSpelledDocument d
    by (Err f) read e = absurd cc
    by (Ok t) read e =
        said_by t.value d (block_gives AreSpelledParts IsNamed def_statement statement_gives no_parts nothing_known (tokens_of text) t.rest t.value
        (spelled_from 0 0 1 text) read).0 e
