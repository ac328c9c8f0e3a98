-- Printed parts of a text, and whole printed texts, read back.
use Rattle.std.proofs.Common.{◌≡◌, ◌≢◌, ℕ, ◌<◌, true, false, List, [], ◌∷◌, ◌++◌, All, map, length, ℤ, pos, Result, Ok, refl, ap, sym, ◌∙◌, arith}
use Rattle.std.specs.Prelude.{codes, not, is_some, IsSome}
use Rattle.std.specs.Str.{bytes_eq}
use Rattle.std.proofs.lemmas.List.{map-append}
use Rattle.std.proofs.lemmas.List.Elements.{All-from_recursion, All-head, All-tail, All-contains}
use Rattle.lf_lex.specs.declared.fault.ReadFault.{ReadFault}
use Rattle.lf_lex.specs.Tokens.{Lexed, Lexeme, PlainToken, plain, with_tokens, tokens_of}
use Rattle.lf_lex.specs.Splices.{plain_word}
use Rattle.lf_lex.specs.Reading.{◌>>=◌, Reader, ReadValue, taken, turn, continues, lexed_after, is, kind_is_word, to_semicolon, to_end, to_word, first_counts, block}
use Rattle.lf_lex.specs.Reading.{value_of}
use Rattle.lf_lex.proofs.Runs.{same, turn_bare}
use Rattle.lf_lex.proofs.BackWords.{is_at, keyword_back, to_end_at, to_semicolon_at, to_word_at, word_back}
use Rattle.lf_def.specs.declared.rows.RowStatement.{RowStatement}
use Rattle.lf_def.specs.declared.components.Component.{Component}
use Rattle.lf_def.specs.declared.doc_parts.DocParts.{DocParts}
use Rattle.lf_def.specs.declared.header.HeaderParts.{HeaderParts}
use Rattle.lf_def.specs.Header.{version, quoted, design, units, header_statement}
use Rattle.lf_def.specs.Rows.{row, with_row}
use Rattle.lf_def.specs.Regions.{region, regions}
use Rattle.lf_def.specs.Groups.{group, groups}
use Rattle.lf_def.specs.Components.{component, components}
use Rattle.lf_def.specs.Blockages.{blockages}
use Rattle.lf_def.specs.Document.{skip_from, end_design, body_statement, def_statement_from, def_statement, no_parts, document_from}
use Rattle.lf_def.specs.Laws.{without_places}
use Rattle.lf_def.specs.Ranges.{IsCount}
use Rattle.lf_def.specs.Printed.{WritesNumbers, IsWord, row_words, IsPrintedRow, region_words, IsPrintedRegion, group_words, IsPrintedGroup, component_words}
use Rattle.lf_def.specs.Printed.{IsPrintedComponent, blockage_words, section_words}
use Rattle.lf_def.specs.PrintedTexts.{statement_keywords, section_keywords, Skipped, to_its_semicolon, to_its_end, extension, skipped_tokens, IsSkipped, TextPart}
use Rattle.lf_def.specs.PrintedTexts.{skipped_part, version_is, divider_is, brackets_are, design_is, units_are, one_row, regions_section, groups_section}
use Rattle.lf_def.specs.PrintedTexts.{components_section, components_with_others, blockages_section, quoted_of, part_tokens, text_tokens, IsPrintedPart}
use Rattle.lf_def.specs.PrintedTexts.{with_part, with_parts, document_with, PartsReadBack}
use Rattle.lf_def.specs.PrintedComponents.{IsPrintedEntry, entry_tokens, components_tokens, printed_component}
use Rattle.lf_def.proofs.Following.{same_grows}
use Rattle.lf_def.proofs.Places.{bare_list, components_grow, bare_doc}
use Rattle.lf_lex.proofs.Back.{BackAt, Back, TurnsAt, halves, back_pure, back_bind, back_first, back_yes, back_no, at_map, at_same, at_first, at_last, at_more}
use Rattle.lf_lex.proofs.Back.{at_block, token_with}
use Rattle.lf_def.proofs.PrintedEntries.{name_back, count_back, row_back}
use Rattle.lf_def.proofs.PrintedLists.{region_back, group_back}
use Rattle.lf_def.proofs.PrintedClauses.{entry_back}
use Rattle.lf_def.proofs.PrintedPlaces.{component_back}
use Rattle.lf_def.proofs.PrintedBlockages.{blockages_back}
use Rattle.lf_def.proofs.PrintedSections.{section_at, section_back}

-- A statement that reads a value and adds it to the state.
part_back : {A B H : Type 0} (bareA : A → B) (r : Reader A) (f : A → H) (g : H → DocParts) (s : DocParts) (u : PlainToken) (vs : List PlainToken) (x : A) (y : DocParts)
    → ((t : Lexeme) (l : Lexed) → plain t ≡ u → def_statement_from s t l ≡ ((r l >>= λ v. taken (f v.value) v.rest) >>= λ new. continues (g new.value) new.rest))
    → ((x' : A) → bareA x' ≡ bareA x → bare_doc (g (f x')) ≡ bare_doc y) → BackAt bareA r vs x
    → BackAt (turn_bare bare_doc) (def_statement s) (u ∷ vs) (turn y true)
unfolding def_statement
part_back bareA r f g s u vs x y is_read alike back =
    at_first (turn_bare bare_doc) _ u vs (turn y true) (λ t e. at_same (turn_bare bare_doc) (def_statement_from s t) _ vs (turn y true) (λ l. is_read t l e)
    (at_map (λ (h : _). bare_doc (g h)) (turn_bare bare_doc) (λ l. r l >>= λ v. taken (f v.value) v.rest) (λ h. turn (g h) true) vs (f x) (turn y true)
    (at_map bareA (λ (h : _). bare_doc (g h)) r f vs x (f x) back (λ x' ex. alike x' ex ∙ sym (alike x refl)))
    (λ h eh. ap (λ (z : DocParts). turn z true) (eh ∙ alike x refl))))

-- The reader of a statement follows from the bytes of its first token.
by_bytes : (s : DocParts) (t : Lexeme) (l : Lexed) (u : PlainToken) → plain t ≡ u
    → def_statement_from s t l ≡ def_statement_from s (record t { text = u.text; kind = u.kind }) l
by_bytes s t l u e = ap (λ (p : PlainToken). def_statement_from s (record t { text = p.text; kind = p.kind }) l) e

-- Skipped statements.

abbrev ReadsBy : List ℕ → Reader (Unit {0}) → Type 0
ReadsBy w r = (s : DocParts) (t : Lexeme) (l : Lexed) → plain t ≡ plain_word w
    → def_statement_from s t l ≡ ((r l >>= λ v. taken s v.rest) >>= λ new. continues new.value new.rest)

passed_back : (w : List ℕ) (r : Reader (Unit {0})) (s : DocParts) (vs : List PlainToken) → ReadsBy w r → BackAt same r vs tt
    → BackAt (turn_bare bare_doc) (def_statement s) (plain_word w ∷ vs) (turn s true)
passed_back w r s vs reads back = part_back same r (λ (v : Unit {0}). s) (λ (h : DocParts). h) s (plain_word w) vs tt s (λ t l e. reads s t l e) (λ x e. refl) back

abbrev ToSemicolon : List ℕ → Type 0
ToSemicolon w = ReadsBy w to_semicolon

each_statement : All ToSemicolon statement_keywords
unfolding def_statement_from body_statement skip_from
each_statement =
    All-from_recursion ToSemicolon statement_keywords (
      λ s t l e. by_bytes s t l _ e,
      (
        λ s t l e. by_bytes s t l _ e,
        (
          λ s t l e. by_bytes s t l _ e,
          (
            λ s t l e. by_bytes s t l _ e,
            (λ s t l e. by_bytes s t l _ e, (λ s t l e. by_bytes s t l _ e, (λ s t l e. by_bytes s t l _ e, tt))),
          ),
        ),
      ),
    )

-- The keyword of a section that is skipped up to END and the keyword.
record ToEnd (w : List ℕ) : Type 0 where
  pub reads : ReadsBy w (to_end w)
  pub own : bytes_eq w w ≡ true
  pub other : bytes_eq (codes "END") w ≡ false

each_section : All ToEnd section_keywords
unfolding def_statement_from body_statement skip_from
each_section =
    All-from_recursion ToEnd section_keywords (
      record { reads = λ s t l e. by_bytes s t l _ e; own = refl; other = refl },
      (
        record { reads = λ s t l e. by_bytes s t l _ e; own = refl; other = refl },
        (
          record { reads = λ s t l e. by_bytes s t l _ e; own = refl; other = refl },
          (
            record { reads = λ s t l e. by_bytes s t l _ e; own = refl; other = refl },
            (
              record { reads = λ s t l e. by_bytes s t l _ e; own = refl; other = refl },
              (
                record { reads = λ s t l e. by_bytes s t l _ e; own = refl; other = refl },
                (
                  record { reads = λ s t l e. by_bytes s t l _ e; own = refl; other = refl },
                  (
                    record { reads = λ s t l e. by_bytes s t l _ e; own = refl; other = refl },
                    (
                      record { reads = λ s t l e. by_bytes s t l _ e; own = refl; other = refl },
                      (
                        record { reads = λ s t l e. by_bytes s t l _ e; own = refl; other = refl },
                        (record { reads = λ s t l e. by_bytes s t l _ e; own = refl; other = refl }, tt),
                      ),
                    ),
                  ),
                ),
              ),
            ),
          ),
        ),
      ),
    )

extension_reads : ReadsBy (codes "BEGINEXT") (to_word (codes "ENDEXT"))
unfolding def_statement_from body_statement skip_from
extension_reads s t l e = by_bytes s t l _ e

passed_part : (s : DocParts) (p : Skipped) → IsSkipped p → BackAt (turn_bare bare_doc) (def_statement s) (skipped_tokens p) (turn s true)
passed_part s (to_its_semicolon w ps) h = passed_back w to_semicolon s (ps ++ plain_word (codes ";") ∷ [])
    (All-contains ToSemicolon statement_keywords w each_statement h.0) (to_semicolon_at ps h.1)
passed_part s (to_its_end w ps) h =
    let k = All-contains ToEnd section_keywords w each_section h.0 in
    passed_back w (to_end w) s (ps ++ plain_word (codes "END") ∷ plain_word w ∷ []) k.reads (to_end_at w k.own k.other ps h.1)
passed_part s (extension ps) h = passed_back (codes "BEGINEXT") (to_word (codes "ENDEXT")) s (ps ++ plain_word (codes "ENDEXT") ∷ []) extension_reads
    (to_word_at (codes "ENDEXT") refl ps h)

-- The header.

version_back : (v : List ℕ) → v ≢ codes ";" → Back same version (v ∷ codes ";" ∷ []) v
unfolding version
version_back v h =
    back_bind plain same _ _ (v ∷ []) (codes ";" ∷ []) (token_with v) v (word_back v h) (λ t e.
    back_bind same same _ _ (codes ";" ∷ []) [] tt v (keyword_back (codes ";") refl) (λ u eu. back_pure same v t.text (ap (λ (p : PlainToken). p.text) e)))

quoted_back : (q : List ℕ) → BackAt same quoted (quoted_of q ∷ plain_word (codes ";") ∷ []) q
unfolding quoted
quoted_back q =
    at_first same _ (quoted_of q) (plain_word (codes ";") ∷ []) q
    (λ t e. back_no same (kind_is_word t.kind) _ _ (codes ";" ∷ []) q (ap (λ (p : PlainToken). kind_is_word p.kind) e)
    (back_bind same same _ _ (codes ";" ∷ []) [] tt q (keyword_back (codes ";") refl) (λ u eu. back_pure same q t.text (ap (λ (p : PlainToken). p.text) e))))

design_back : (n : List ℕ) → IsWord n → Back same design (n ∷ codes ";" ∷ []) n
unfolding design
design_back n h =
    back_bind plain same _ _ (n ∷ []) (codes ";" ∷ []) (token_with n) n (name_back n h) (λ t e.
    back_bind same same _ _ (codes ";" ∷ []) [] tt n (keyword_back (codes ";") refl) (λ u eu. back_pure same n t.text (ap (λ (p : PlainToken). p.text) e)))

units_back : (print : ℤ → List ℕ) → WritesNumbers print → (n : ℕ) → IsCount 20000 n
    → Back same units (codes "DISTANCE" ∷ codes "MICRONS" ∷ print (pos n) ∷ codes ";" ∷ []) n
unfolding units
units_back print writes n h =
    back_bind same same _ _ (codes "DISTANCE" ∷ []) (codes "MICRONS" ∷ print (pos n) ∷ codes ";" ∷ []) tt n (keyword_back (codes "DISTANCE") refl) (λ a ea.
    back_bind same same _ _ (codes "MICRONS" ∷ []) (print (pos n) ∷ codes ";" ∷ []) tt n (keyword_back (codes "MICRONS") refl) (λ b eb.
    back_bind same same _ _ (print (pos n) ∷ []) (codes ";" ∷ []) n n (count_back print writes 20000 (omega arith) n h) (λ m em.
    back_bind same same _ _ (codes ";" ∷ []) [] tt n (keyword_back (codes ";") refl) (λ u eu. back_pure same n m em))))

-- Rows.

with_row_back : (print : ℤ → List ℕ) → WritesNumbers print → (rows : List RowStatement) (r : RowStatement) → IsPrintedRow r
    → Back same (with_row rows) (row_words print r) (rows ++ r ∷ [])
unfolding with_row
with_row_back print writes rows r h = at_map same same row (λ (x : RowStatement). rows ++ x ∷ []) (map plain_word (row_words print r)) r (rows ++ r ∷ [])
    (row_back print writes r h) (λ x e. ap (λ (z : RowStatement). rows ++ z ∷ []) e)

-- Each part.

at_part : (print : ℤ → List ℕ) → WritesNumbers print → (s : DocParts) (p : TextPart) → IsPrintedPart p
    → BackAt (turn_bare bare_doc) (def_statement s) (part_tokens print p) (turn (with_part s p) true)
unfolding def_statement_from header_statement body_statement
at_part print writes s (skipped_part p) h = passed_part s p h
at_part print writes s (version_is v) h =
    part_back same version (λ (x : List ℕ). record s.header { version = first_counts s.header.version x }) (λ (x : HeaderParts). record s { header = x }) s
    (plain_word (codes "VERSION")) (map plain_word (v ∷ codes ";" ∷ [])) v (with_part s (version_is v))
    (λ t l e. by_bytes s t l _ e) (λ x e. ap (λ (z : List ℕ). bare_doc (with_part s (version_is z))) e) (version_back v h)
at_part print writes s (divider_is q) h =
    part_back same quoted (λ (x : List ℕ). record s.header { divider = first_counts s.header.divider x }) (λ (x : HeaderParts). record s { header = x }) s
    (plain_word (codes "DIVIDERCHAR")) (quoted_of q ∷ plain_word (codes ";") ∷ []) q (with_part s (divider_is q))
    (λ t l e. by_bytes s t l _ e) (λ x e. ap (λ (z : List ℕ). bare_doc (with_part s (divider_is z))) e) (quoted_back q)
at_part print writes s (brackets_are q) h =
    part_back same quoted (λ (x : List ℕ). record s.header { brackets = first_counts s.header.brackets x }) (λ (x : HeaderParts). record s { header = x }) s
    (plain_word (codes "BUSBITCHARS")) (quoted_of q ∷ plain_word (codes ";") ∷ []) q (with_part s (brackets_are q))
    (λ t l e. by_bytes s t l _ e) (λ x e. ap (λ (z : List ℕ). bare_doc (with_part s (brackets_are z))) e) (quoted_back q)
at_part print writes s (design_is n) h =
    part_back same design (λ (x : List ℕ). record s.header { design = first_counts s.header.design x }) (λ (x : HeaderParts). record s { header = x }) s
    (plain_word (codes "DESIGN")) (map plain_word (n ∷ codes ";" ∷ [])) n (with_part s (design_is n))
    (λ t l e. by_bytes s t l _ e) (λ x e. ap (λ (z : List ℕ). bare_doc (with_part s (design_is z))) e) (design_back n h)
at_part print writes s (units_are n) h =
    part_back same units (λ (x : ℕ). record s.header { units = first_counts s.header.units x }) (λ (x : HeaderParts). record s { header = x }) s
    (plain_word (codes "UNITS")) (map plain_word (codes "DISTANCE" ∷ codes "MICRONS" ∷ print (pos n) ∷ codes ";" ∷ [])) n (with_part s (units_are n))
    (λ t l e. by_bytes s t l _ e) (λ x e. ap (λ (z : ℕ). bare_doc (with_part s (units_are z))) e) (units_back print writes n h)
at_part print writes s (one_row r) h =
    part_back same (with_row s.rows) (λ x. record s { rows = x }) (λ (x : DocParts). x) s (plain_word (codes "ROW")) (map plain_word (row_words print r))
    (s.rows ++ r ∷ []) (with_part s (one_row r))
    (λ t l e. by_bytes s t l _ e) (λ x e. ap (λ z. bare_doc (record s { rows = z })) e) (with_row_back print writes s.rows r h)
at_part print writes s (regions_section count rs) h =
    part_back same (regions s.regions) (λ x. record s { regions = x }) (λ (x : DocParts). x) s (plain_word (codes "REGIONS"))
    (map plain_word (section_words (codes "REGIONS") count (region_words print) rs)) (s.regions ++ rs) (with_part s (regions_section count rs))
    (λ t l e. by_bytes s t l _ e) (λ x e. ap (λ z. bare_doc (record s { regions = z })) e)
    (section_back same same same_grows (codes "REGIONS") refl region (region_words print) IsPrintedRegion (region_back print writes) count h.0 rs s.regions h.1)
at_part print writes s (groups_section count gs) h =
    part_back same (groups s.groups) (λ x. record s { groups = x }) (λ (x : DocParts). x) s (plain_word (codes "GROUPS"))
    (map plain_word (section_words (codes "GROUPS") count group_words gs)) (s.groups ++ gs) (with_part s (groups_section count gs))
    (λ t l e. by_bytes s t l _ e) (λ x e. ap (λ z. bare_doc (record s { groups = z })) e)
    (section_back same same same_grows (codes "GROUPS") refl group group_words IsPrintedGroup group_back count h.0 gs s.groups h.1)
at_part print writes s (components_section count cs) h =
    part_back bare_list (components s.components) (λ x. record s { components = x }) (λ (x : DocParts). x) s (plain_word (codes "COMPONENTS"))
    (map plain_word (section_words (codes "COMPONENTS") count (component_words print) cs)) (s.components ++ cs) (with_part s (components_section count cs))
    (λ t l e. by_bytes s t l _ e) (λ x e. ap (λ z. record s { components = z }) e)
    (section_back without_places bare_list components_grow (codes "COMPONENTS") refl component (component_words print) IsPrintedComponent
    (component_back print writes) count h.0 cs s.components h.1)
at_part print writes s (components_with_others count ps) h =
    part_back bare_list (components s.components) (λ x. record s { components = x }) (λ (x : DocParts). x) s (plain_word (codes "COMPONENTS"))
    (components_tokens print count ps) (s.components ++ map printed_component ps)
    (with_part s (components_with_others count ps)) (λ t l e. by_bytes s t l _ e) (λ x e. ap (λ z. record s { components = z }) e)
    (section_at without_places bare_list components_grow (codes "COMPONENTS") refl component (entry_tokens print) printed_component IsPrintedEntry
    (entry_back print writes) count h.0 ps s.components h.1)
at_part print writes s (blockages_section count bs) h =
    part_back same (blockages s.blockages) (λ x. record s { blockages = x }) (λ (x : DocParts). x) s (plain_word (codes "BLOCKAGES"))
    (map plain_word (section_words (codes "BLOCKAGES") count (blockage_words print) bs)) (s.blockages ++ bs) (with_part s (blockages_section count bs))
    (λ t l e. by_bytes s t l _ e) (λ x e. ap (λ z. bare_doc (record s { blockages = z })) e) (blockages_back print writes count h.0 bs s.blockages h.1)

some_tokens : (print : ℤ → List ℕ) (p : TextPart) → 0 < length (part_tokens print p)
some_tokens print (skipped_part (to_its_semicolon w ps)) = omega arith
some_tokens print (skipped_part (to_its_end w ps)) = omega arith
some_tokens print (skipped_part (extension ps)) = omega arith
some_tokens print (version_is v) = omega arith
some_tokens print (divider_is q) = omega arith
some_tokens print (brackets_are q) = omega arith
some_tokens print (design_is n) = omega arith
some_tokens print (units_are n) = omega arith
some_tokens print (one_row r) = omega arith
some_tokens print (regions_section count rs) = omega arith
some_tokens print (groups_section count gs) = omega arith
some_tokens print (components_section count cs) = omega arith
some_tokens print (components_with_others count ps) = omega arith
some_tokens print (blockages_section count bs) = omega arith

more_alike : (cs : List Component) (s s' : DocParts) → bare_doc s' ≡ bare_doc s
    → bare_doc (record s' { components = s'.components ++ cs }) ≡ bare_doc (record s { components = s.components ++ cs })
more_alike cs s s' a =
    ap (λ (z : List Component). record s' { components = z }) (map-append without_places s'.components cs)
    ∙ ap (λ (z : DocParts). record z { components = z.components ++ map without_places cs }) a
    ∙ ap (λ (z : List Component). record s { components = z }) (sym (map-append without_places s.components cs))

-- Places do not affect what a part adds.
with_alike : (p : TextPart) (s s' : DocParts) → bare_doc s' ≡ bare_doc s → bare_doc (with_part s' p) ≡ bare_doc (with_part s p)
with_alike (skipped_part p) s s' a = a
with_alike (version_is v) s s' a = ap (λ (z : DocParts). with_part z (version_is v)) a
with_alike (divider_is q) s s' a = ap (λ (z : DocParts). with_part z (divider_is q)) a
with_alike (brackets_are q) s s' a = ap (λ (z : DocParts). with_part z (brackets_are q)) a
with_alike (design_is n) s s' a = ap (λ (z : DocParts). with_part z (design_is n)) a
with_alike (units_are n) s s' a = ap (λ (z : DocParts). with_part z (units_are n)) a
with_alike (one_row r) s s' a = ap (λ (z : DocParts). with_part z (one_row r)) a
with_alike (regions_section count rs) s s' a = ap (λ (z : DocParts). with_part z (regions_section count rs)) a
with_alike (groups_section count gs) s s' a = ap (λ (z : DocParts). with_part z (groups_section count gs)) a
with_alike (blockages_section count bs) s s' a = ap (λ (z : DocParts). with_part z (blockages_section count bs)) a
with_alike (components_section count cs) s s' a = more_alike cs s s' a
with_alike (components_with_others count ps) s s' a = more_alike (map printed_component ps) s s' a

-- END DESIGN.

end_design_back : (s : DocParts) → IsSome s.header.design → Back same (end_design s) (codes "DESIGN" ∷ []) tt
unfolding end_design
end_design_back s h =
    back_first same _ (codes "DESIGN") [] tt (λ t e. back_no same _ _ _ [] tt (ap (λ (p : PlainToken). not (kind_is_word p.kind)) e)
    (back_no same _ _ _ [] tt (ap (λ (p : PlainToken). not (bytes_eq p.text (codes "DESIGN"))) e)
    (back_yes same (is_some s.header.design) _ _ [] tt h (back_pure same tt tt refl))))

text_end : (s y : DocParts) → bare_doc s ≡ bare_doc y → IsSome y.header.design
    → Back (turn_bare bare_doc) (def_statement s) (codes "END" ∷ codes "DESIGN" ∷ []) (turn y false)
unfolding def_statement def_statement_from
text_end s y a h =
    let named : IsSome s.header.design = rw (ap (λ (z : DocParts). z.header) a) h in
    back_first (turn_bare bare_doc) _ (codes "END") (codes "DESIGN" ∷ []) (turn y false)
    (λ t e. back_yes (turn_bare bare_doc) (is (codes "END") t) _ _ (codes "DESIGN" ∷ []) (turn y false) (is_at (codes "END") (codes "END") t e)
    (at_map same (turn_bare bare_doc) (end_design s) (λ (u : Unit {0}). turn s false) (map plain_word (codes "DESIGN" ∷ [])) tt (turn y false)
    (end_design_back s named) (λ u eu. ap (λ (z : DocParts). turn z false) a)))

-- Whole texts.

at_alike : {A B : Type 0} (bare : A → B) (r : Reader A) (ps : List PlainToken) (x y : A) → bare x ≡ bare y → BackAt bare r ps x → BackAt bare r ps y
at_alike bare r ps x y e f p q = let a = f p q in record { value = a.value; alike = a.alike ∙ e; takes = λ l. a.takes l }

parts_turns : (print : ℤ → List ℕ) → WritesNumbers print → (ps : List TextPart) (s : DocParts) → All IsPrintedPart ps → IsSome (with_parts s ps).header.design
    → (s' : DocParts) → bare_doc s' ≡ bare_doc s
    → TurnsAt bare_doc def_statement s' (text_tokens print ps) (with_parts s ps)
parts_turns print writes [] s h named s' a = at_last bare_doc def_statement s' s (map plain_word (codes "END" ∷ codes "DESIGN" ∷ [])) (text_end s' s a named)
parts_turns print writes (p ∷ ps) s h named s' a =
    let one = at_part print writes s' p (All-head IsPrintedPart p ps h) in
    at_more bare_doc def_statement s' (with_part s p) (with_parts s (p ∷ ps)) (part_tokens print p) (text_tokens print ps) (some_tokens print p)
    (at_alike (turn_bare bare_doc) (def_statement s') (part_tokens print p) (turn (with_part s' p) true) (turn (with_part s p) true)
    (ap (λ (z : DocParts). turn z true) (with_alike p s s' a)) one) (λ s1 e1.
    parts_turns print writes ps (with_part s p) (All-tail IsPrintedPart p ps h) named s1 e1)

pub parts_read_back : (print : ℤ → List ℕ) → WritesNumbers print → (parts : List TextPart) → PartsReadBack print parts
parts_read_back print writes parts h named text begins =
    let c = halves (tokens_of text).tokens (text_tokens print parts) begins.0 begins.1 in
    let rest = lexed_after c.back (tokens_of text) in
    let a = at_block bare_doc def_statement no_parts (with_parts no_parts parts) (text_tokens print parts)
    (parts_turns print writes parts no_parts h named no_parts refl) c.front c.front_is in
    let whole : tokens_of text ≡ with_tokens c.front rest = ap (λ (z : List Lexeme). lexed_after z (tokens_of text)) c.whole in
    let read = ap (λ (z : Lexed). document_from (value_of (block def_statement no_parts z))) whole
    ∙ ap (λ (z : Result (ReadValue DocParts) ReadFault). document_from (value_of z)) (a.takes rest) in (
      a.value.components,
      read ∙ ap (λ (z : DocParts). Ok (document_with (record z { components = a.value.components }))) a.alike,
      ap
          (λ (z : DocParts). z.components) a.alike,
    )
