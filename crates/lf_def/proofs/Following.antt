-- The statements of DEF take a run of tokens, and read alike from tokens that differ only in their
-- places.
use Rattle.std.proofs.Common.{◌≡◌, ℕ, Bool, true, false, ◌&&◌, cond, List, [], ◌∷◌, ◌++◌, ℤ, pos, negsuc, length, Option, Some, None, Result, Ok, refl, ap, sym}
use Rattle.std.proofs.Common.{◌∙◌}
use Rattle.std.specs.Prelude.{codes, not, nat_lt, nat_le}
use Rattle.lf_units.specs.declared.geometry.Point.{Point}
use Rattle.lf_units.specs.declared.geometry.Rect.{Rect}
use Rattle.lf_units.specs.Number.{fixed_of}
use Rattle.lf_orient.specs.declared.Orient.{Orient}
use Rattle.lf_orient.specs.declared.Orient.TheVariants.{N, W, S, E, FN, FW, FS, FE}
use Rattle.lf_lex.specs.declared.fault.FaultNumber.TheVariants.{BadNumber, Unexpected, TooMany}
use Rattle.lf_lex.specs.declared.fault.ReadFault.{ReadFault}
use Rattle.lf_lex.specs.Tokens.{Lexed, Lexeme, PlainToken, plain}
use Rattle.lf_lex.specs.Reading.{◌>>=◌, Reader, Turn, taken, turn, fault_at, token, is, is_word, kind_is_word, word, keyword, name, end_name, to_semicolon}
use Rattle.lf_lex.specs.Reading.{block, first_counts}
use Rattle.lf_lex.proofs.Runs.{Follows, Goes, same, turn_bare, bind, choose, given, pure, fault, token_follows, takes_one, block_follows, alike_states}
use Rattle.lf_lex.proofs.Following.{text_alike, is_alike, keyword_follows, word_follows, name_follows, end_name_follows, to_semicolon_follows, number_again}
use Rattle.lf_def.specs.declared.section.Due.{Due}
use Rattle.lf_def.specs.declared.section.Due.TheVariants.{Item, Keyword, Rest, Separator}
use Rattle.lf_def.specs.declared.rows.RowStatement.{RowStatement}
use Rattle.lf_def.specs.declared.rows.Sites.{Sites}
use Rattle.lf_def.specs.declared.regions.Region.{Region}
use Rattle.lf_def.specs.declared.regions.RegionKind.{RegionKind}
use Rattle.lf_def.specs.declared.regions.RegionKind.TheVariants.{Fence, Guide}
use Rattle.lf_def.specs.declared.regions.RegionParts.{RegionParts}
use Rattle.lf_def.specs.declared.groups.Group.{Group}
use Rattle.lf_def.specs.declared.groups.GroupParts.{GroupParts}
use Rattle.lf_def.specs.declared.blockages.Blockage.{Blockage}
use Rattle.lf_def.specs.declared.blockages.BlockageParts.{BlockageParts}
use Rattle.lf_def.specs.declared.header.HeaderParts.{HeaderParts}
use Rattle.lf_def.specs.Coordinates.{dbu_of, dbu, number_up_to, count, point_rest, def_point, rect_between, rect_rest, def_rectangle, orient_of}
use Rattle.lf_def.specs.Entries.{entry_or_end, section, name_token}
use Rattle.lf_def.specs.Header.{version, quoted, design, units, header_statement}
use Rattle.lf_def.specs.Rows.{row_end, step, sites, one_site, sites_from, row}
use Rattle.lf_def.specs.Regions as regions
use Rattle.lf_def.specs.Groups as groups
use Rattle.lf_def.specs.Blockages as blockages
use Rattle.lf_units.proofs.Same.{same_point}

-- Coordinates.

dbu_again : (t t' : Lexeme) → plain t' ≡ plain t → (v : ℤ) → dbu_of t ≡ Ok v → dbu_of t' ≡ Ok v
dbu_again t t' e v h = rw (text_alike t t' e) (number_again (fixed_of t.text 0 2147483647) t.line t'.line v h)

pub dbu_follows : Follows same dbu dbu
unfolding dbu
dbu_follows = bind plain same token token _ _ token_follows (λ t t' e. given same (dbu_of t) (dbu_of t') _ _ (dbu_again t t' e) (λ v. pure same v v refl))

tested_again : (test : Bool) (n line line' v : ℕ) → ◌≡◌ {A = Result ℕ ReadFault} (cond test (Ok n) (fault_at BadNumber line)) (Ok v)
    → ◌≡◌ {A = Result ℕ ReadFault} (cond test (Ok n) (fault_at BadNumber line')) (Ok v)
tested_again true n line line' v e = e
tested_again false n line line' v e = absurd cc

up_to_again : (most : ℕ) (x : ℤ) (line line' v : ℕ) → number_up_to most x line ≡ Ok v → number_up_to most x line' ≡ Ok v
up_to_again most (pos n) line line' v e = tested_again (nat_le 1 n && nat_le n most) n line line' v e
up_to_again most (negsuc n) line line' v e = absurd cc

pub count_follows : (most : ℕ) → Follows same (count most) (count most)
unfolding count
count_follows most =
    bind plain same token token _ _ token_follows (λ t t' e. given same (dbu_of t) (dbu_of t') _ _ (dbu_again t t' e) (λ x.
    given same (number_up_to most x t.line) (number_up_to most x t'.line) _ _ (up_to_again most x t.line t'.line) (λ n. pure same n n refl)))

abbrev pub point_at : ℤ → ℤ → Point
point_at x y = record { x = x; y = y }

pub point_rest_follows : Follows same point_rest point_rest
unfolding point_rest
point_rest_follows =
    bind same same dbu dbu _ _ dbu_follows (λ x x' ex. bind same same dbu dbu _ _ dbu_follows
    (λ y y' ey. bind same same (keyword (codes ")")) (keyword (codes ")")) _ _ (keyword_follows (codes ")")) (λ s s' es.
    pure same (point_at x y) (point_at x' y') (same_point (point_at x' y') (point_at x y) ex ey))))

pub point_follows : Follows same def_point def_point
unfolding def_point
point_follows = bind same same (keyword (codes "(")) (keyword (codes "(")) _ _ (keyword_follows (codes "(")) (λ s s' es. point_rest_follows)

rect_alike : (p p' q q' : Point) → p' ≡ p → q' ≡ q → rect_between p' q' ≡ rect_between p q
rect_alike p p' q q' e f = rw (e, f) refl

pub rect_rest_follows : Follows same rect_rest rect_rest
unfolding rect_rest
rect_rest_follows =
    bind same same point_rest point_rest _ _ point_rest_follows
    (λ p p' ep. bind same same def_point def_point _ _ point_follows (λ q q' eq. pure same (rect_between p q) (rect_between p' q') (rect_alike p p' q q' ep eq)))

pub rect_follows : Follows same def_rectangle def_rectangle
unfolding def_rectangle
rect_follows = bind same same (keyword (codes "(")) (keyword (codes "(")) _ _ (keyword_follows (codes "(")) (λ s s' es. rect_rest_follows)

orient_tested : (a b c d e f g h : Bool) (line line' : ℕ) (v : Orient)
    → ◌≡◌ {A = Result Orient ReadFault} (cond a (Ok N) (cond b (Ok W)
    (cond c (Ok S) (cond d (Ok E) (cond e (Ok FN) (cond f (Ok FW) (cond g (Ok FS) (cond h (Ok FE) (fault_at Unexpected line))))))))) (Ok v)
    → ◌≡◌ {A = Result Orient ReadFault} (cond a (Ok N) (cond b (Ok W)
    (cond c (Ok S) (cond d (Ok E) (cond e (Ok FN) (cond f (Ok FW) (cond g (Ok FS) (cond h (Ok FE) (fault_at Unexpected line'))))))))) (Ok v)
orient_tested true b c d e f g h line line' v x = x
orient_tested false true c d e f g h line line' v x = x
orient_tested false false true d e f g h line line' v x = x
orient_tested false false false true e f g h line line' v x = x
orient_tested false false false false true f g h line line' v x = x
orient_tested false false false false false true g h line line' v x = x
orient_tested false false false false false false true h line line' v x = x
orient_tested false false false false false false false true line line' v x = x
orient_tested false false false false false false false false line line' v x = absurd cc

pub orient_again : (t t' : Lexeme) → plain t' ≡ plain t → (v : Orient) → orient_of t ≡ Ok v → orient_of t' ≡ Ok v
orient_again t t' e v x =
    ap (λ (z : List ℕ). orient_of (record t' { text = z })) (text_alike t t' e)
    ∙ orient_tested (is (codes "N") t) (is (codes "W") t) (is (codes "S") t) (is (codes "E") t) (is (codes "FN") t) (is (codes "FW") t) (is (codes "FS") t)
    (is (codes "FE") t) t.line t'.line v x

-- Header.

pub version_follows : Follows same version version
unfolding version
version_follows =
    bind plain same word word _ _ word_follows (λ t t' e. bind same same (keyword (codes ";")) (keyword (codes ";")) _ _ (keyword_follows (codes ";"))
    (λ s s' es. pure same t.text t'.text (text_alike t t' e)))

pub quoted_follows : Follows same quoted quoted
unfolding quoted
quoted_follows =
    bind plain same token token _ _ token_follows (λ t t' e. choose same (kind_is_word t.kind) (kind_is_word t'.kind) _ _ _ _
    (ap (λ (p : PlainToken). kind_is_word p.kind) e) (fault same _ _)
    (bind same same (keyword (codes ";")) (keyword (codes ";")) _ _ (keyword_follows (codes ";")) (λ s s' es. pure same t.text t'.text (text_alike t t' e))))

pub design_follows : Follows same design design
unfolding design
design_follows =
    bind plain same name name _ _ name_follows (λ t t' e. bind same same (keyword (codes ";")) (keyword (codes ";")) _ _ (keyword_follows (codes ";"))
    (λ s s' es. pure same t.text t'.text (text_alike t t' e)))

pub units_follows : Follows same units units
unfolding units
units_follows =
    bind same same (keyword (codes "DISTANCE")) (keyword (codes "DISTANCE")) _ _ (keyword_follows (codes "DISTANCE"))
    (λ a a' ea. bind same same (keyword (codes "MICRONS")) (keyword (codes "MICRONS")) _ _ (keyword_follows (codes "MICRONS")) (λ b b' eb.
    bind same same (count 20000) (count 20000) _ _ (count_follows 20000)
    (λ n n' en. bind same same (keyword (codes ";")) (keyword (codes ";")) _ _ (keyword_follows (codes ";")) (λ s s' es. pure same n n' en))))

pub header_follows : (s : HeaderParts) (t t' : Lexeme) → plain t' ≡ plain t → Follows same (header_statement s t) (header_statement s t')
unfolding header_statement
header_follows s t t' e =
    choose same (is (codes "VERSION") t) (is (codes "VERSION") t') _ _ _ _ (is_alike (codes "VERSION") t t' e)
    (bind same same version version _ _ version_follows (λ x x' ex. pure same (record s { version = first_counts s.version x })
    (record s { version = first_counts s.version x' }) (ap (λ (z : List ℕ). record s { version = first_counts s.version z }) ex)))
    (choose same (is (codes "DIVIDERCHAR") t) (is (codes "DIVIDERCHAR") t') _ _ _ _ (is_alike (codes "DIVIDERCHAR") t t' e)
    (bind same same quoted quoted _ _ quoted_follows (λ x x' ex. pure same (record s { divider = first_counts s.divider x })
    (record s { divider = first_counts s.divider x' }) (ap (λ (z : List ℕ). record s { divider = first_counts s.divider z }) ex)))
    (choose same (is (codes "BUSBITCHARS") t) (is (codes "BUSBITCHARS") t') _ _ _ _ (is_alike (codes "BUSBITCHARS") t t' e)
    (bind same same quoted quoted _ _ quoted_follows (λ x x' ex. pure same (record s { brackets = first_counts s.brackets x })
    (record s { brackets = first_counts s.brackets x' }) (ap (λ (z : List ℕ). record s { brackets = first_counts s.brackets z }) ex)))
    (choose same (is (codes "DESIGN") t) (is (codes "DESIGN") t') _ _ _ _ (is_alike (codes "DESIGN") t t' e)
    (bind same same design design _ _ design_follows (λ x x' ex. pure same (record s { design = first_counts s.design x })
    (record s { design = first_counts s.design x' }) (ap (λ (z : List ℕ). record s { design = first_counts s.design z }) ex)))
    (bind same same units units _ _ units_follows (λ x x' ex. pure same (record s { units = first_counts s.units x })
    (record s { units = first_counts s.units x' }) (ap (λ (z : ℕ). record s { units = first_counts s.units z }) ex))))))

-- Rows.

pub row_end_follows : (t t' : Lexeme) → plain t' ≡ plain t → Follows same (row_end t) (row_end t')
unfolding row_end
row_end_follows t t' e =
    choose same (is (codes ";") t) (is (codes ";") t') _ _ _ _ (is_alike (codes ";") t t' e) (pure same tt tt refl)
    (choose same (is (codes "+") t) (is (codes "+") t') _ _ _ _ (is_alike (codes "+") t t' e) to_semicolon_follows (fault same _ _))

pub step_follows : (t t' : Lexeme) → plain t' ≡ plain t → Follows same (step t) (step t')
unfolding step
step_follows t t' e =
    choose same (is (codes "STEP") t) (is (codes "STEP") t') _ _ _ _ (is_alike (codes "STEP") t t' e)
    (bind same same dbu dbu _ _ dbu_follows (λ x x' ex. bind same same dbu dbu _ _ dbu_follows
    (λ y y' ey. bind plain same token token _ _ token_follows (λ u u' eu.
    bind same same (row_end u) (row_end u') _ _ (row_end_follows u u' eu)
    (λ s s' es. pure same (Some (point_at x y)) (Some (point_at x' y')) (ap (λ (p : Point). Some p) (same_point (point_at x' y') (point_at x y) ex ey)))))))
    (bind same same (row_end t) (row_end t') _ _ (row_end_follows t t' e) (λ s s' es. pure same None None refl))

abbrev sites_at : ℕ → ℕ → Option Point → Sites
sites_at x y s = record { x = x; y = y; step = s }

sites_alike : (x x' y y' : ℕ) (s s' : Option Point) → x' ≡ x → y' ≡ y → s' ≡ s → sites_at x' y' s' ≡ sites_at x y s
sites_alike x x' y y' s s' e f g = rw (e, f, g) refl

pub sites_follows : Follows same sites sites
unfolding sites
sites_follows =
    bind same same (count 2147483647) (count 2147483647) _ _ (count_follows 2147483647)
    (λ x x' ex. bind same same (keyword (codes "BY")) (keyword (codes "BY")) _ _ (keyword_follows (codes "BY")) (λ b b' eb.
    bind same same (count 2147483647) (count 2147483647) _ _ (count_follows 2147483647) (λ y y' ey. bind plain same token token _ _ token_follows (λ t t' et.
    bind same same (step t) (step t') _ _ (step_follows t t' et)
    (λ s s' es. pure same (sites_at x y s) (sites_at x' y' s') (sites_alike x x' y y' s s' ex ey es))))))

pub sites_from_follows : (t t' : Lexeme) → plain t' ≡ plain t → Follows same (sites_from t) (sites_from t')
unfolding sites_from
sites_from_follows t t' e =
    choose same (is (codes "DO") t) (is (codes "DO") t') _ _ _ _ (is_alike (codes "DO") t t' e) sites_follows
    (bind same same (row_end t) (row_end t') _ _ (row_end_follows t t' e) (λ s s' es. pure same one_site one_site refl))

abbrev row_at : List ℕ → List ℕ → ℤ → ℤ → Orient → Sites → RowStatement
row_at n site x y o s = record { name = n; site = site; x = x; y = y; orient = o; sites_x = s.x; sites_y = s.y; step = s.step }

row_alike : (n n' site site' : List ℕ) (x x' y y' : ℤ) (o : Orient) (s s' : Sites) → n' ≡ n → site' ≡ site → x' ≡ x → y' ≡ y → s' ≡ s
    → row_at n' site' x' y' o s' ≡ row_at n site x y o s
row_alike n n' site site' x x' y y' o s s' a b c d e = rw (a, b, c, d, e) refl

pub row_follows : Follows same row row
unfolding row
row_follows =
    bind plain same name name _ _ name_follows (λ n n' en. bind plain same name name _ _ name_follows
    (λ site site' ei. bind same same dbu dbu _ _ dbu_follows (λ x x' ex. bind same same dbu dbu _ _ dbu_follows (λ y y' ey.
    bind plain same token token _ _ token_follows (λ t t' et. given same (orient_of t) (orient_of t') _ _ (orient_again t t' et)
    (λ o. bind plain same token token _ _ token_follows (λ u u' eu.
    bind same same (sites_from u) (sites_from u') _ _ (sites_from_follows u u' eu) (λ s s' es.
    pure same (row_at n.text site.text x y o s) (row_at n'.text site'.text x' y' o s')
    (row_alike n.text n'.text site.text site'.text x x' y y' o s s' (text_alike n n' en) (text_alike site site' ei) ex ey es)))))))))

-- Sections.

-- One more entry is alike, if the list and the entry are.
abbrev pub Grows : {A B C : Type 0} → (A → B) → (List A → C) → Type 0
Grows bare bare_list = (xs xs' : List _) (x x' : _) → bare_list xs' ≡ bare_list xs → bare x' ≡ bare x → bare_list (xs' ++ x' ∷ []) ≡ bare_list (xs ++ x ∷ [])

pub same_grows : {A : Type 0} → Grows {A = A} same same
same_grows xs xs' x x' e f = rw (e, f) refl

-- An entry or the end of a section, given its first token.
unfoldable pub entry_from : {A : Type 0} → List ℕ → Reader A → List A → Lexeme → Reader (Turn (List A))
entry_from due entry s t l =
    cond (is (codes "-") t) (entry l >>= λ e. taken (turn (s ++ e.value ∷ []) true) e.rest)
    (cond (is (codes "END") t) (end_name due l >>= λ stop. taken (turn s false) stop.rest) (fault_at Unexpected t.line))

entry_from_follows : {A B C : Type 0} (bare : A → B) (bare_list : List A → C) → Grows bare bare_list → (due : List ℕ) (entry : Reader A)
    → Follows bare entry entry → (s s' : List A) → bare_list s' ≡ bare_list s
    → (t t' : Lexeme) → plain t' ≡ plain t → Follows (turn_bare bare_list) (entry_from due entry s t) (entry_from due entry s' t')
unfolding entry_from
entry_from_follows bare bare_list grows due entry f s s' a t t' e =
    choose (turn_bare bare_list) (is (codes "-") t) (is (codes "-") t') _ _ _ _ (is_alike (codes "-") t t' e)
    (bind bare (turn_bare bare_list) entry entry _ _ f (λ x x' ex. pure (turn_bare bare_list) (turn (s ++ x ∷ []) true) (turn (s' ++ x' ∷ []) true)
    (ap (λ (z : _). turn z true) (grows s s' x x' a ex))))
    (choose (turn_bare bare_list) (is (codes "END") t) (is (codes "END") t') _ _ _ _ (is_alike (codes "END") t t' e)
    (bind same (turn_bare bare_list) (end_name due) (end_name due) _ _ (end_name_follows due)
    (λ x x' ex. pure (turn_bare bare_list) (turn s false) (turn s' false) (ap (λ (z : _). turn z false) a)))
    (fault (turn_bare bare_list) _ _))

pub entry_or_end_is : {A : Type 0} (due : List ℕ) (entry : Reader A) (s : List A) (l : Lexed)
    → entry_or_end due entry s l ≡ (token l >>= λ t. entry_from due entry s t.value t.rest)
unfolding entry_or_end entry_from
entry_or_end_is due entry s l = refl

pub entry_or_end_follows : {A B C : Type 0} (bare : A → B) (bare_list : List A → C) → Grows bare bare_list → (due : List ℕ) (entry : Reader A)
    → Follows bare entry entry → (s s' : List A) → bare_list s' ≡ bare_list s
    → Follows (turn_bare bare_list) (entry_or_end due entry s) (entry_or_end due entry s')
unfolding entry_or_end entry_from
entry_or_end_follows bare bare_list grows due entry f s s' a =
    bind plain (turn_bare bare_list) token token (λ t. entry_from due entry s t.value t.rest) (λ t. entry_from due entry s' t.value t.rest) token_follows
    (λ t t' e. entry_from_follows bare bare_list grows due entry f s s' a t t' e)

no_places : {A : Type 0} → A → Unit {0}
no_places x = tt

no_places_grow : {A B : Type 0} (bare : A → B) → Grows bare (no_places {A = List A})
no_places_grow bare xs xs' x x' e f = refl

pub entry_or_end_goes : {A B : Type 0} (bare : A → B) (due : List ℕ) (entry : Reader A) → Follows bare entry entry → Goes (entry_or_end due entry)
entry_or_end_goes bare due entry f s s1 l m h =
    takes_one (turn_bare no_places) (λ t. entry_from due entry s t.value t.rest) (entry_from due entry s) l m (turn s1 true)
    (λ t. entry_from_follows bare no_places (no_places_grow bare) due entry f s s refl t t refl) (sym (entry_or_end_is due entry s l) ∙ h)

pub section_follows : {A B C : Type 0} (bare : A → B) (bare_list : List A → C) → Grows bare bare_list → (due : List ℕ) (entry : Reader A)
    → Follows bare entry entry → (s s' : List A) → bare_list s' ≡ bare_list s
    → Follows bare_list (section due entry s) (section due entry s')
unfolding section
section_follows bare bare_list grows due entry f s s' a =
    bind same bare_list to_semicolon to_semicolon _ _ to_semicolon_follows (λ x x' ex.
    block_follows bare_list (entry_or_end due entry) (entry_or_end_follows bare bare_list grows due entry f) (entry_or_end_goes bare due entry f) s s' a)

-- Regions.

kind_tested : (a b : Bool) (line line' : ℕ) (v : RegionKind) → ◌≡◌ {A = Result RegionKind ReadFault}
    (cond a (Ok Fence) (cond b (Ok Guide) (fault_at Unexpected line))) (Ok v)
    → ◌≡◌ {A = Result RegionKind ReadFault} (cond a (Ok Fence) (cond b (Ok Guide) (fault_at Unexpected line'))) (Ok v)
kind_tested true b line line' v x = x
kind_tested false true line line' v x = x
kind_tested false false line line' v x = absurd cc

kind_again : (t t' : Lexeme) → plain t' ≡ plain t → (v : RegionKind) → regions.kind_named t ≡ Ok v → regions.kind_named t' ≡ Ok v
kind_again t t' e v x = ap (λ (z : List ℕ). regions.kind_named (record t' { text = z })) (text_alike t t' e)
    ∙ kind_tested (is (codes "FENCE") t) (is (codes "GUIDE") t) t.line t'.line v x

region_rect_follows : (s : RegionParts) → Follows same (regions.with_rect s) (regions.with_rect s)
unfolding regions.with_rect
region_rect_follows s = bind same same rect_rest rect_rest _ _ rect_rest_follows
    (λ r r' e. pure same (turn (record s { rects = s.rects ++ r ∷ [] }) true) (turn (record s { rects = s.rects ++ r' ∷ [] }) true)
    (ap (λ (z : Rect). turn (record s { rects = s.rects ++ z ∷ [] }) true) e))

region_kind_follows : (s : RegionParts) → Follows same (regions.with_kind s) (regions.with_kind s)
unfolding regions.with_kind
region_kind_follows s = bind plain same token token _ _ token_follows
    (λ t t' e. given same (regions.kind_named t) (regions.kind_named t') _ _ (kind_again t t' e)
    (λ k. pure same (turn (record s { kind = first_counts s.kind k; due = Separator }) true) _ refl))

region_part_follows : (due : Due) (s : RegionParts) (t t' : Lexeme) → plain t' ≡ plain t
    → Follows same (regions.region_part due s t) (regions.region_part due s t')
unfolding regions.region_part
region_part_follows Item s t t' e = choose same (is (codes "(") t) (is (codes "(") t') _ _ _ _ (is_alike (codes "(") t t' e) (region_rect_follows s)
    (fault same _ _)
region_part_follows Keyword s t t' e = choose same (is (codes "TYPE") t) (is (codes "TYPE") t') _ _ _ _ (is_alike (codes "TYPE") t t' e) (region_kind_follows s)
    (pure same (turn (record s { due = Rest }) true) _ refl)
region_part_follows Rest s t t' e = pure same (turn s true) _ refl
region_part_follows Separator s t t' e = fault same _ _

region_from_follows : (s : RegionParts) (t t' : Lexeme) → plain t' ≡ plain t → Follows same (regions.region_from s t) (regions.region_from s t')
unfolding regions.region_from
region_from_follows s t t' e =
    choose same (is (codes ";") t) (is (codes ";") t') _ _ _ _ (is_alike (codes ";") t t' e) (pure same (turn s false) _ refl)
    (choose same (is (codes "+") t) (is (codes "+") t') _ _ _ _ (is_alike (codes "+") t t' e) (pure same (turn (record s { due = Keyword }) true) _ refl)
    (region_part_follows s.due s t t' e))

pub region_token_follows : (s : RegionParts) → Follows same (regions.region_token s) (regions.region_token s)
unfolding regions.region_token
region_token_follows s = bind plain same token token _ _ token_follows (λ t t' e. region_from_follows s t t' e)

pub region_token_goes : Goes regions.region_token
unfolding regions.region_token
region_token_goes s s1 l m h = takes_one same _ _ l m (turn s1 true) (λ t. region_from_follows s t t refl) h

region_tokens_follow : (s s' : RegionParts) → s' ≡ s → Follows same (block regions.region_token s) (block regions.region_token s')
region_tokens_follow s s' e = block_follows same regions.region_token (alike_states regions.region_token region_token_follows) region_token_goes s s' e

region_alike : (n n' : List ℕ) (p p' : RegionParts) → n' ≡ n → p' ≡ p
    → ◌≡◌ {A = Region} (record { name = n'; kind = p'.kind; rects = p'.rects }) (record { name = n; kind = p.kind; rects = p.rects })
region_alike n n' p p' e f = rw (e, f) refl

pub region_follows : Follows same regions.region regions.region
unfolding regions.region
region_follows =
    bind plain same name name _ _ name_follows (λ n n' en. bind same same def_rectangle def_rectangle _ _ rect_follows (λ r r' er.
    bind same same (block regions.region_token (regions.first_rect r)) (block regions.region_token (regions.first_rect r')) _ _
    (region_tokens_follow (regions.first_rect r) (regions.first_rect r') (ap regions.first_rect er)) (λ p p' ep.
    pure same (record { name = n.text; kind = p.kind; rects = p.rects }) (record { name = n'.text; kind = p'.kind; rects = p'.rects })
    (region_alike n.text n'.text p p' (text_alike n n' en) ep))))

-- Groups.

name_tested : (a b : Bool) (text : List ℕ) (line line' : ℕ) (v : List ℕ)
    → ◌≡◌ {A = Result (List ℕ) ReadFault} (cond a (fault_at Unexpected line) (cond b (fault_at TooMany line) (Ok text))) (Ok v)
    → ◌≡◌ {A = Result (List ℕ) ReadFault} (cond a (fault_at Unexpected line') (cond b (fault_at TooMany line') (Ok text))) (Ok v)
name_tested true b text line line' v x = absurd cc
name_tested false true text line line' v x = absurd cc
name_tested false false text line line' v x = x

name_again : (t t' : Lexeme) → plain t' ≡ plain t → (v : List ℕ) → name_token t ≡ Ok v → name_token t' ≡ Ok v
name_again t t' e v x = ap (λ (z : PlainToken). name_token (record t' { text = z.text; kind = z.kind })) e
    ∙ name_tested (not (is_word t)) (nat_lt 1024 (length t.text)) t.text t.line t'.line v x

pattern_follows : (s : GroupParts) (t t' : Lexeme) → plain t' ≡ plain t → Follows same (groups.with_pattern s t) (groups.with_pattern s t')
unfolding groups.with_pattern
pattern_follows s t t' e = given same (name_token t) (name_token t') _ _ (name_again t t' e)
    (λ p. pure same (turn (record s { patterns = s.patterns ++ p ∷ [] }) true) _ refl)

group_region_follows : (s : GroupParts) → Follows same (groups.with_region s) (groups.with_region s)
unfolding groups.with_region
group_region_follows s =
    bind plain same name name _ _ name_follows (λ n n' e. choose same (is (codes "(") n) (is (codes "(") n') _ _ _ _ (is_alike (codes "(") n n' e)
    (fault same _ _)
    (pure same (turn (record s { region = first_counts s.region n.text; due = Separator }) true)
    (turn (record s { region = first_counts s.region n'.text; due = Separator }) true)
    (ap (λ (z : List ℕ). turn (record s { region = first_counts s.region z; due = Separator }) true) (text_alike n n' e))))

group_part_follows : (due : Due) (s : GroupParts) (t t' : Lexeme) → plain t' ≡ plain t → Follows same (groups.group_part due s t) (groups.group_part due s t')
unfolding groups.group_part
group_part_follows Item s t t' e = pattern_follows s t t' e
group_part_follows Keyword s t t' e = choose same (is (codes "REGION") t) (is (codes "REGION") t') _ _ _ _ (is_alike (codes "REGION") t t' e)
    (group_region_follows s) (pure same (turn (record s { due = Rest }) true) _ refl)
group_part_follows Rest s t t' e = pure same (turn s true) _ refl
group_part_follows Separator s t t' e = fault same _ _

group_from_follows : (s : GroupParts) (t t' : Lexeme) → plain t' ≡ plain t → Follows same (groups.group_from s t) (groups.group_from s t')
unfolding groups.group_from
group_from_follows s t t' e =
    choose same (is (codes ";") t) (is (codes ";") t') _ _ _ _ (is_alike (codes ";") t t' e) (pure same (turn s false) _ refl)
    (choose same (is (codes "+") t) (is (codes "+") t') _ _ _ _ (is_alike (codes "+") t t' e) (pure same (turn (record s { due = Keyword }) true) _ refl)
    (group_part_follows s.due s t t' e))

pub group_token_follows : (s : GroupParts) → Follows same (groups.group_token s) (groups.group_token s)
unfolding groups.group_token
group_token_follows s = bind plain same token token _ _ token_follows (λ t t' e. group_from_follows s t t' e)

pub group_token_goes : Goes groups.group_token
unfolding groups.group_token
group_token_goes s s1 l m h = takes_one same _ _ l m (turn s1 true) (λ t. group_from_follows s t t refl) h

group_tokens_follow : Follows same (block groups.group_token groups.no_group) (block groups.group_token groups.no_group)
group_tokens_follow = block_follows same groups.group_token (alike_states groups.group_token group_token_follows) group_token_goes groups.no_group
    groups.no_group refl

group_alike : (n n' : List ℕ) (p p' : GroupParts) → n' ≡ n → p' ≡ p
    → ◌≡◌ {A = Group} (record { name = n'; patterns = p'.patterns; region = p'.region }) (record { name = n; patterns = p.patterns; region = p.region })
group_alike n n' p p' e f = rw (e, f) refl

pub group_follows : Follows same groups.group groups.group
unfolding groups.group
group_follows =
    bind plain same name name _ _ name_follows (λ n n' en. bind same same (block groups.group_token groups.no_group)
    (block groups.group_token groups.no_group) _ _ group_tokens_follow (λ p p' ep.
    pure same (record { name = n.text; patterns = p.patterns; region = p.region }) (record { name = n'.text; patterns = p'.patterns; region = p'.region })
    (group_alike n.text n'.text p p' (text_alike n n' en) ep)))

-- Blockages.

blockage_rect_follows : (s : BlockageParts) → Follows same (blockages.with_rect s) (blockages.with_rect s)
unfolding blockages.with_rect
blockage_rect_follows s =
    bind same same def_rectangle def_rectangle _ _ rect_follows (λ r r' e. pure same (turn (record s { rects = s.rects ++ r ∷ []; due = Item }) true)
    (turn (record s { rects = s.rects ++ r' ∷ []; due = Item }) true) (ap (λ (z : Rect). turn (record s { rects = s.rects ++ z ∷ []; due = Item }) true) e))

noted_alike : (s : BlockageParts) (t t' : Lexeme) → plain t' ≡ plain t → blockages.noted s t' ≡ blockages.noted s t
noted_alike s t t' e = ap (λ (z : List ℕ). blockages.noted s (record t { text = z })) (text_alike t t' e)

blockage_part_follows : (due : Due) (s : BlockageParts) (t t' : Lexeme) → plain t' ≡ plain t
    → Follows same (blockages.blockage_part due s t) (blockages.blockage_part due s t')
unfolding blockages.blockage_part
blockage_part_follows Keyword s t t' e = pure same (turn (blockages.noted s t) true) (turn (blockages.noted s t') true)
    (ap (λ (z : BlockageParts). turn z true) (noted_alike s t t' e))
blockage_part_follows Rest s t t' e = choose same (is (codes "RECT") t) (is (codes "RECT") t') _ _ _ _ (is_alike (codes "RECT") t t' e)
    (blockage_rect_follows s) (pure same (turn s true) _ refl)
blockage_part_follows Item s t t' e = choose same (is (codes "RECT") t) (is (codes "RECT") t') _ _ _ _ (is_alike (codes "RECT") t t' e)
    (blockage_rect_follows s) (fault same _ _)
blockage_part_follows Separator s t t' e = choose same (is (codes "RECT") t) (is (codes "RECT") t') _ _ _ _ (is_alike (codes "RECT") t t' e)
    (blockage_rect_follows s) (fault same _ _)

blockage_from_follows : (s : BlockageParts) (t t' : Lexeme) → plain t' ≡ plain t → Follows same (blockages.blockage_from s t) (blockages.blockage_from s t')
unfolding blockages.blockage_from
blockage_from_follows s t t' e =
    choose same (is (codes ";") t) (is (codes ";") t') _ _ _ _ (is_alike (codes ";") t t' e) (pure same (turn s false) _ refl)
    (choose same (is (codes "+") t) (is (codes "+") t') _ _ _ _ (is_alike (codes "+") t t' e) (pure same (turn (record s { due = Keyword }) true) _ refl)
    (blockage_part_follows s.due s t t' e))

pub blockage_token_follows : (s : BlockageParts) → Follows same (blockages.blockage_token s) (blockages.blockage_token s)
unfolding blockages.blockage_token
blockage_token_follows s = bind plain same token token _ _ token_follows (λ t t' e. blockage_from_follows s t t' e)

pub blockage_token_goes : Goes blockages.blockage_token
unfolding blockages.blockage_token
blockage_token_goes s s1 l m h = takes_one same _ _ l m (turn s1 true) (λ t. blockage_from_follows s t t refl) h

blockage_tokens_follow : Follows same (block blockages.blockage_token blockages.no_blockage) (block blockages.blockage_token blockages.no_blockage)
blockage_tokens_follow = block_follows same blockages.blockage_token
    (alike_states blockages.blockage_token blockage_token_follows) blockage_token_goes blockages.no_blockage blockages.no_blockage refl

pub blockage_follows : Follows same blockages.blockage blockages.blockage
unfolding blockages.blockage
blockage_follows =
    bind plain same token token _ _ token_follows (λ t t' e.
    choose same (is (codes "LAYER") t) (is (codes "LAYER") t') _ _ _ _ (is_alike (codes "LAYER") t t' e)
    (bind same same to_semicolon to_semicolon _ _ to_semicolon_follows (λ x x' ex. pure same None None refl))
    (choose same (is (codes "PLACEMENT") t) (is (codes "PLACEMENT") t') _ _ _ _ (is_alike (codes "PLACEMENT") t t' e)
    (bind same same (block blockages.blockage_token blockages.no_blockage) (block blockages.blockage_token blockages.no_blockage) _ _ blockage_tokens_follow
    (λ p p' ep. pure same (Some (blockages.blockage_of p)) (Some (blockages.blockage_of p')) (ap (λ (z : BlockageParts). Some (blockages.blockage_of z)) ep)))
    (fault same _ _)))

blockage_or_end_from : (s : List Blockage) (t t' : Lexeme) → plain t' ≡ plain t
    → Follows same (λ l. cond (is (codes "-") t) (blockages.blockage l >>= λ b. taken (turn (blockages.with_blockage s b.value) true) b.rest)
    (cond (is (codes "END") t) (end_name (codes "BLOCKAGES") l >>= λ stop. taken (turn s false) stop.rest) (fault_at Unexpected t.line)))
    (λ l. cond (is (codes "-") t') (blockages.blockage l >>= λ b. taken (turn (blockages.with_blockage s b.value) true) b.rest)
    (cond (is (codes "END") t') (end_name (codes "BLOCKAGES") l >>= λ stop. taken (turn s false) stop.rest) (fault_at Unexpected t'.line)))
blockage_or_end_from s t t' e =
    choose same (is (codes "-") t) (is (codes "-") t') _ _ _ _ (is_alike (codes "-") t t' e)
    (bind same same blockages.blockage blockages.blockage _ _ blockage_follows
    (λ x x' ex. pure same (turn (blockages.with_blockage s x) true) (turn (blockages.with_blockage s x') true)
    (ap (λ (z : Option Blockage). turn (blockages.with_blockage s z) true) ex)))
    (choose same (is (codes "END") t) (is (codes "END") t') _ _ _ _ (is_alike (codes "END") t t' e)
    (bind same same (end_name (codes "BLOCKAGES")) (end_name (codes "BLOCKAGES")) _ _ (end_name_follows (codes "BLOCKAGES"))
    (λ x x' ex. pure same (turn s false) (turn s false) refl)) (fault same _ _))

pub blockage_or_end_follows : (s : List Blockage) → Follows same (blockages.blockage_or_end s) (blockages.blockage_or_end s)
unfolding blockages.blockage_or_end
blockage_or_end_follows s = bind plain same token token _ _ token_follows (λ t t' e. blockage_or_end_from s t t' e)

pub blockage_or_end_goes : Goes blockages.blockage_or_end
unfolding blockages.blockage_or_end
blockage_or_end_goes s s1 l m h = takes_one same _ _ l m (turn s1 true) (λ t. blockage_or_end_from s t t refl) h

pub blockages_follow : (s : List Blockage) → Follows same (blockages.blockages s) (blockages.blockages s)
unfolding blockages.blockages
blockages_follow s =
    bind same same to_semicolon to_semicolon _ _ to_semicolon_follows (λ x x' ex.
    block_follows same blockages.blockage_or_end (alike_states blockages.blockage_or_end blockage_or_end_follows) blockage_or_end_goes s s refl)
