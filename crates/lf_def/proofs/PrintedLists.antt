-- Printed regions, groups, components and blockages read back.
use Rattle.std.proofs.Common.{◌≡◌, ℕ, Bool, true, false, ◌&&◌, cond, List, [], ◌∷◌, ◌++◌, All, ℤ, length, Option, Some, None, Result, Ok, Err, refl, ap, sym}
use Rattle.std.proofs.Common.{◌∙◌, subst}
use Rattle.std.specs.Prelude.{codes, not, nat_lt, IfSome}
use Rattle.std.specs.Str.{bytes_eq}
use Rattle.std.proofs.lemmas.List.{append_assoc, append-nil}
use Rattle.std.proofs.lemmas.List.Elements.{All-head, All-tail}
use Rattle.lf_units.specs.declared.geometry.Rect.{Rect}
use Rattle.lf_lex.specs.declared.fault.ReadFault.{ReadFault}
use Rattle.lf_lex.specs.Tokens.{Lexeme, PlainToken, plain}
use Rattle.lf_lex.specs.Splices.{plain_word}
use Rattle.lf_lex.specs.Reading.{Statement, turn, is, name, block}
use Rattle.lf_lex.proofs.Runs.{same}
use Rattle.lf_lex.proofs.BackWords.{is_at, no_more, not_eq, short_test, word_test}
use Rattle.lf_def.specs.declared.section.Due.{Due}
use Rattle.lf_def.specs.declared.section.Due.TheVariants.{Item, Keyword, Separator}
use Rattle.lf_def.specs.declared.regions.Region.{Region}
use Rattle.lf_def.specs.declared.regions.RegionKind.{RegionKind}
use Rattle.lf_def.specs.declared.regions.RegionKind.TheVariants.{Fence, Guide}
use Rattle.lf_def.specs.declared.regions.RegionParts.{RegionParts}
use Rattle.lf_def.specs.declared.groups.Group.{Group}
use Rattle.lf_def.specs.declared.groups.GroupParts.{GroupParts}
use Rattle.lf_def.specs.Coordinates.{def_rectangle, rect_rest}
use Rattle.lf_def.specs.Entries.{name_token}
use Rattle.lf_def.specs.Regions as regions
use Rattle.lf_def.specs.Groups as groups
use Rattle.lf_def.specs.Ranges.{IsRect}
use Rattle.lf_def.specs.Printed.{WritesNumbers, IsWord, rect_words, rects_words, region_kind_words, region_words, IsPrintedRegion, group_region_words, group_words}
use Rattle.lf_def.specs.Printed.{IsPattern, IsRegionName, IsPrintedGroup}
use Rattle.lf_lex.proofs.Back.{Back, TurnsBack, back_pure, back_bind, back_first, back_yes, back_no, back_given, token_with, turns_last, turns_more, block_back}
use Rattle.lf_def.proofs.PrintedEntries.{name_back, rect_back, rect_rest_back}

-- A turn, and the turns after it, if no places are left out.
pub then_turns : {S : Type 0} (statement : Statement S) (s s1 y : S) (w : List ℕ) (ws vs : List (List ℕ)) → Back same (statement s) (w ∷ ws) (turn s1 true)
    → TurnsBack same statement s1 vs y → TurnsBack same statement s (w ∷ (ws ++ vs)) y
then_turns statement s s1 y w ws vs f g = turns_more same statement s s1 y w ws vs f (λ s1' e. rw e g)

-- Regions.

region_stop : (s : RegionParts) → Back same (regions.region_token s) (codes ";" ∷ []) (turn s false)
unfolding regions.region_token regions.region_from
region_stop s = back_first same _ (codes ";") [] (turn s false)
    (λ t e. back_yes same (is (codes ";") t) _ _ [] (turn s false) (is_at (codes ";") (codes ";") t e) (back_pure same (turn s false) (turn s false) refl))

region_plus : (s : RegionParts) → Back same (regions.region_token s) (codes "+" ∷ []) (turn (record s { due = Keyword }) true)
unfolding regions.region_token regions.region_from
region_plus s =
    back_first same _ (codes "+") [] (turn (record s { due = Keyword }) true)
    (λ t e. back_no same (is (codes ";") t) _ _ [] (turn (record s { due = Keyword }) true) (is_at (codes ";") (codes "+") t e)
    (back_yes same (is (codes "+") t) _ _ [] (turn (record s { due = Keyword }) true) (is_at (codes "+") (codes "+") t e)
    (back_pure same (turn (record s { due = Keyword }) true) (turn (record s { due = Keyword }) true) refl)))

abbrev region_at : Option RegionKind → List Rect → Due → RegionParts
region_at kind rects due = record { kind = kind; rects = rects; due = due }

region_rect : (print : ℤ → List ℕ) → WritesNumbers print → (r : Rect) → IsRect r → (rects : List Rect)
    → Back same (regions.region_token (region_at None rects Item)) (rect_words print r []) (turn (region_at None (rects ++ r ∷ []) Item) true)
unfolding regions.region_token regions.region_from regions.region_part regions.with_rect
region_rect print writes r h rects =
    back_first same _ (codes "(") (print r.x1 ∷ print r.y1 ∷ codes ")" ∷ codes "(" ∷ print r.x2 ∷ print r.y2 ∷ codes ")" ∷ [])
    (turn (region_at None (rects ++ r ∷ []) Item) true) (λ t e.
    back_no same (is (codes ";") t) _ _ (print r.x1 ∷ print r.y1 ∷ codes ")" ∷ codes "(" ∷ print r.x2 ∷ print r.y2 ∷ codes ")" ∷ [])
    (turn (region_at None (rects ++ r ∷ []) Item) true) (is_at (codes ";") (codes "(") t e)
    (back_no same (is (codes "+") t) _ _ (print r.x1 ∷ print r.y1 ∷ codes ")" ∷ codes "(" ∷ print r.x2 ∷ print r.y2 ∷ codes ")" ∷ [])
    (turn (region_at None (rects ++ r ∷ []) Item) true) (is_at (codes "+") (codes "(") t e)
    (back_yes same (is (codes "(") t) _ _ (print r.x1 ∷ print r.y1 ∷ codes ")" ∷ codes "(" ∷ print r.x2 ∷ print r.y2 ∷ codes ")" ∷ [])
    (turn (region_at None (rects ++ r ∷ []) Item) true) (is_at (codes "(") (codes "(") t e)
    (back_bind same same rect_rest _ (print r.x1 ∷ print r.y1 ∷ codes ")" ∷ codes "(" ∷ print r.x2 ∷ print r.y2 ∷ codes ")" ∷ []) [] r
    (turn (region_at None (rects ++ r ∷ []) Item) true) (rect_rest_back print writes r h) (λ q eq.
    back_pure same (turn (region_at None (rects ++ r ∷ []) Item) true) (turn (region_at None (rects ++ q ∷ []) Item) true)
    (ap (λ (z : Rect). turn (region_at None (rects ++ z ∷ []) Item) true) eq))))))

abbrev kind_of_word : RegionKind → List ℕ
kind_of_word Fence = codes "FENCE"
kind_of_word Guide = codes "GUIDE"

kind_at : (k : RegionKind) (t : Lexeme) → plain t ≡ plain_word (kind_of_word k) → regions.kind_named t ≡ Ok k
kind_at Fence t e = ap (λ (p : PlainToken). regions.kind_named (record t { text = p.text })) e
kind_at Guide t e = ap (λ (p : PlainToken). regions.kind_named (record t { text = p.text })) e

region_type : (k : RegionKind) (rects : List Rect) → Back same (regions.region_token (region_at None rects Keyword)) (codes "TYPE" ∷ kind_of_word k ∷ [])
    (turn (region_at (Some k) rects Separator) true)
unfolding regions.region_token regions.region_from regions.region_part regions.with_kind
region_type k rects =
    back_first same _ (codes "TYPE") (kind_of_word k ∷ []) (turn (region_at (Some k) rects Separator) true) (λ t e.
    back_no same (is (codes ";") t) _ _ (kind_of_word k ∷ []) (turn (region_at (Some k) rects Separator) true) (is_at (codes ";") (codes "TYPE") t e)
    (back_no same (is (codes "+") t) _ _ (kind_of_word k ∷ []) (turn (region_at (Some k) rects Separator) true) (is_at (codes "+") (codes "TYPE") t e)
    (back_yes same (is (codes "TYPE") t) _ _ (kind_of_word k ∷ []) (turn (region_at (Some k) rects Separator) true) (is_at (codes "TYPE") (codes "TYPE") t e)
    (back_first same _ (kind_of_word k) [] (turn (region_at (Some k) rects Separator) true)
    (λ u eu. back_given same (regions.kind_named u) _ k [] (turn (region_at (Some k) rects Separator) true) (kind_at k u eu)
    (back_pure same (turn (region_at (Some k) rects Separator) true) (turn (region_at (Some k) rects Separator) true) refl))))))

abbrev due_after_it : Option RegionKind → Due
due_after_it None = Item
due_after_it (Some k) = Separator

region_kind : (kind : Option RegionKind) (rects : List Rect) → TurnsBack same regions.region_token (region_at None rects Item) (region_kind_words kind)
    (region_at kind rects (due_after_it kind))
region_kind None rects = turns_last same regions.region_token (region_at None rects Item) (region_at None rects Item) (codes ";" ∷ [])
    (region_stop (region_at None rects Item))
region_kind (Some Fence) rects =
    then_turns regions.region_token (region_at None rects Item) (region_at None rects Keyword) (region_at (Some Fence) rects Separator) (codes "+") []
    (codes "TYPE" ∷ codes "FENCE" ∷ codes ";" ∷ []) (region_plus (region_at None rects Item))
    (then_turns regions.region_token (region_at None rects Keyword) (region_at (Some Fence) rects Separator) (region_at (Some Fence) rects Separator)
    (codes "TYPE") (codes "FENCE" ∷ []) (codes ";" ∷ []) (region_type Fence rects)
    (turns_last same regions.region_token (region_at (Some Fence) rects Separator) (region_at (Some Fence) rects Separator) (codes ";" ∷ [])
    (region_stop (region_at (Some Fence) rects Separator))))
region_kind (Some Guide) rects =
    then_turns regions.region_token (region_at None rects Item) (region_at None rects Keyword) (region_at (Some Guide) rects Separator) (codes "+") []
    (codes "TYPE" ∷ codes "GUIDE" ∷ codes ";" ∷ []) (region_plus (region_at None rects Item))
    (then_turns regions.region_token (region_at None rects Keyword) (region_at (Some Guide) rects Separator) (region_at (Some Guide) rects Separator)
    (codes "TYPE") (codes "GUIDE" ∷ []) (codes ";" ∷ []) (region_type Guide rects)
    (turns_last same regions.region_token (region_at (Some Guide) rects Separator) (region_at (Some Guide) rects Separator) (codes ";" ∷ [])
    (region_stop (region_at (Some Guide) rects Separator))))

region_rects : (print : ℤ → List ℕ) → WritesNumbers print → (kind : Option RegionKind) (before rs : List Rect) → All IsRect rs
    → TurnsBack same regions.region_token (region_at None before Item) (rects_words print rs (region_kind_words kind))
    (region_at kind (before ++ rs) (due_after_it kind))
region_rects print writes kind before [] h = rw (append-nil before) (region_kind kind before)
region_rects print writes kind before (r ∷ rs) h =
    let later = region_rects print writes kind (before ++ r ∷ []) rs (All-tail IsRect r rs h) in
    let there : (before ++ r ∷ []) ++ rs ≡ before ++ r ∷ rs = append_assoc before (r ∷ []) rs in
    then_turns regions.region_token (region_at None before Item) (region_at None (before ++ r ∷ []) Item) (region_at kind (before ++ r ∷ rs) (due_after_it kind))
    (codes "(")
    (print r.x1 ∷ print r.y1 ∷ codes ")" ∷ codes "(" ∷ print r.x2 ∷ print r.y2 ∷ codes ")" ∷ []) (rects_words print rs (region_kind_words kind))
    (region_rect print writes r (All-head IsRect r rs h) before) (rw there at later)

region_is : (r : Region) (rects : List Rect) (n : Lexeme) (q : Rect) (p : RegionParts) (due : Due) → r.rects ≡ rects → plain n ≡ plain_word r.name
    → p ≡ region_at r.kind rects due → ◌≡◌ {A = Region} (record { name = n.text; kind = p.kind; rects = p.rects }) r
region_is r rects n q p due e f g = rw (ap (λ (z : PlainToken). z.text) f, g, sym e) refl

region_some : (print : ℤ → List ℕ) → WritesNumbers print → (r : Region) → IsWord r.name → (first : Rect) (rs : List Rect) → All IsRect (first ∷ rs)
    → r.rects ≡ first ∷ rs
    → Back same regions.region (r.name ∷ rects_words print (first ∷ rs) (region_kind_words r.kind)) r
unfolding regions.region
region_some print writes r name_is first rs h e =
    back_bind plain same name _ (r.name ∷ []) (rects_words print (first ∷ rs) (region_kind_words r.kind)) (token_with r.name) r (name_back r.name name_is) (λ n en.
    back_bind same same def_rectangle _ (rect_words print first []) (rects_words print rs (region_kind_words r.kind)) first r
    (rect_back print writes first (All-head IsRect first rs h)) (λ q eq.
    no_more same _ r (rects_words print rs (region_kind_words r.kind))
    (back_bind same same (block regions.region_token (regions.first_rect q)) _ (rects_words print rs (region_kind_words r.kind)) []
    (region_at r.kind (first ∷ rs) (due_after_it r.kind)) r
    (same_start q eq (block_back same regions.region_token (region_at None (first ∷ []) Item) (region_at r.kind (first ∷ rs) (due_after_it r.kind))
    (rects_words print rs (region_kind_words r.kind)) (region_rects print writes r.kind (first ∷ []) rs (All-tail IsRect first rs h)))) (λ p ep.
    back_pure same r (record { name = n.text; kind = p.kind; rects = p.rects }) (region_is r (first ∷ rs) n q p (due_after_it r.kind) e en ep)))))
  where
    same_start : (q : Rect) → q ≡ first → Back same (block regions.region_token (regions.first_rect first)) (rects_words print rs (region_kind_words r.kind))
        (region_at r.kind (first ∷ rs) (due_after_it r.kind))
        → Back same (block regions.region_token (regions.first_rect q)) (rects_words print rs (region_kind_words r.kind))
        (region_at r.kind (first ∷ rs) (due_after_it r.kind))
    same_start q eq f = rw eq f

by_rects : (print : ℤ → List ℕ) → WritesNumbers print → (r : Region) → IsPrintedRegion r → (rects : List Rect) → r.rects ≡ rects
    → Back same regions.region (region_words print r) r
by_rects print writes r h [] e = absurd (h.some e)
by_rects print writes r h (first ∷ rs) e =
    let rects : All IsRect (first ∷ rs) = subst (λ (z : List Rect). All IsRect z) e h.rects in
    subst (λ (z : List Rect). Back same regions.region (r.name ∷ rects_words print z (region_kind_words r.kind)) r) (sym e)
    (region_some print writes r h.name first rs rects e)

pub region_back : (print : ℤ → List ℕ) → WritesNumbers print → (r : Region) → IsPrintedRegion r → Back same regions.region (region_words print r) r
region_back print writes r h = by_rects print writes r h r.rects refl

-- Groups.

abbrev group_at : List (List ℕ) → Option (List ℕ) → Due → GroupParts
group_at patterns region due = record { patterns = patterns; region = region; due = due }

group_stop : (s : GroupParts) → Back same (groups.group_token s) (codes ";" ∷ []) (turn s false)
unfolding groups.group_token groups.group_from
group_stop s = back_first same _ (codes ";") [] (turn s false)
    (λ t e. back_yes same (is (codes ";") t) _ _ [] (turn s false) (is_at (codes ";") (codes ";") t e) (back_pure same (turn s false) (turn s false) refl))

group_plus : (s : GroupParts) → Back same (groups.group_token s) (codes "+" ∷ []) (turn (record s { due = Keyword }) true)
unfolding groups.group_token groups.group_from
group_plus s =
    back_first same _ (codes "+") [] (turn (record s { due = Keyword }) true)
    (λ t e. back_no same (is (codes ";") t) _ _ [] (turn (record s { due = Keyword }) true) (is_at (codes ";") (codes "+") t e)
    (back_yes same (is (codes "+") t) _ _ [] (turn (record s { due = Keyword }) true) (is_at (codes "+") (codes "+") t e)
    (back_pure same (turn (record s { due = Keyword }) true) (turn (record s { due = Keyword }) true) refl)))

tests_pass : (a b : Bool) (text : List ℕ) (q p : ReadFault) → a ≡ true → b ≡ false
    → ◌≡◌ {A = Result (List ℕ) ReadFault} (cond (not a) (Err q) (cond b (Err p) (Ok text))) (Ok text)
tests_pass a b text q p e f = rw (e, f) refl

name_at : (n : List ℕ) (t : Lexeme) → IsWord n → plain t ≡ plain_word n → name_token t ≡ Ok n
name_at n t h e =
    ap (λ (p : PlainToken). name_token (record t { text = p.text; kind = p.kind })) e
    ∙ tests_pass (true && not (bytes_eq n (codes ";"))) (nat_lt 1024 (length n)) n _ _ (word_test (bytes_eq n (codes ";")) (not_eq n (codes ";") h.other))
    (short_test (length n) h.name.short)

group_pattern : (patterns : List (List ℕ)) (p : List ℕ) → IsPattern p
    → Back same (groups.group_token (group_at patterns None Item)) (p ∷ []) (turn (group_at (patterns ++ p ∷ []) None Item) true)
unfolding groups.group_token groups.group_from groups.group_part groups.with_pattern
group_pattern patterns p h =
    back_first same _ p [] (turn (group_at (patterns ++ p ∷ []) None Item) true) (λ t e.
    back_no same (is (codes ";") t) _ _ [] (turn (group_at (patterns ++ p ∷ []) None Item) true) (is_at (codes ";") p t e ∙ not_eq p (codes ";") h.word.other)
    (back_no same (is (codes "+") t) _ _ [] (turn (group_at (patterns ++ p ∷ []) None Item) true) (is_at (codes "+") p t e ∙ not_eq p (codes "+") h.other)
    (back_given same (name_token t) _ p [] (turn (group_at (patterns ++ p ∷ []) None Item) true) (name_at p t h.word e)
    (back_pure same (turn (group_at (patterns ++ p ∷ []) None Item) true) (turn (group_at (patterns ++ p ∷ []) None Item) true) refl))))

group_name : (patterns : List (List ℕ)) (n : List ℕ) → IsRegionName n
    → Back same (groups.group_token (group_at patterns None Keyword)) (codes "REGION" ∷ n ∷ []) (turn (group_at patterns (Some n) Separator) true)
unfolding groups.group_token groups.group_from groups.group_part groups.with_region
group_name patterns n h =
    back_first same _ (codes "REGION") (n ∷ []) (turn (group_at patterns (Some n) Separator) true) (λ t e.
    back_no same (is (codes ";") t) _ _ (n ∷ []) (turn (group_at patterns (Some n) Separator) true) (is_at (codes ";") (codes "REGION") t e)
    (back_no same (is (codes "+") t) _ _ (n ∷ []) (turn (group_at patterns (Some n) Separator) true) (is_at (codes "+") (codes "REGION") t e)
    (back_yes same (is (codes "REGION") t) _ _ (n ∷ []) (turn (group_at patterns (Some n) Separator) true) (is_at (codes "REGION") (codes "REGION") t e)
    (back_bind plain same name _ (n ∷ []) [] (token_with n) (turn (group_at patterns (Some n) Separator) true) (name_back n h.word) (λ u eu.
    back_no same (is (codes "(") u) _ _ [] (turn (group_at patterns (Some n) Separator) true) (is_at (codes "(") n u eu ∙ not_eq n (codes "(") h.other)
    (back_pure same (turn (group_at patterns (Some n) Separator) true) (turn (group_at patterns (Some u.text) Separator) true)
    (ap (λ (z : PlainToken). turn (group_at patterns (Some z.text) Separator) true) eu)))))))

abbrev due_after : Option (List ℕ) → Due
due_after None = Item
due_after (Some n) = Separator

group_region : (region : Option (List ℕ)) (patterns : List (List ℕ)) → IfSome region (λ n. IsRegionName n)
    → TurnsBack same groups.group_token (group_at patterns None Item) (group_region_words region) (group_at patterns region (due_after region))
group_region None patterns h = turns_last same groups.group_token (group_at patterns None Item) (group_at patterns None Item) (codes ";" ∷ [])
    (group_stop (group_at patterns None Item))
group_region (Some n) patterns h =
    then_turns groups.group_token (group_at patterns None Item) (group_at patterns None Keyword) (group_at patterns (Some n) Separator) (codes "+") []
    (codes "REGION" ∷ n ∷ codes ";" ∷ []) (group_plus (group_at patterns None Item))
    (then_turns groups.group_token (group_at patterns None Keyword) (group_at patterns (Some n) Separator) (group_at patterns (Some n) Separator)
    (codes "REGION") (n ∷ []) (codes ";" ∷ []) (group_name patterns n h)
    (turns_last same groups.group_token (group_at patterns (Some n) Separator) (group_at patterns (Some n) Separator) (codes ";" ∷ [])
    (group_stop (group_at patterns (Some n) Separator))))

group_patterns : (region : Option (List ℕ)) (before ps : List (List ℕ)) → IfSome region (λ n. IsRegionName n) → All IsPattern ps
    → TurnsBack same groups.group_token (group_at before None Item) (ps ++ group_region_words region) (group_at (before ++ ps) region (due_after region))
group_patterns region before [] h k = rw (append-nil before) (group_region region before h)
group_patterns region before (p ∷ ps) h k =
    let later = group_patterns region (before ++ p ∷ []) ps h (All-tail IsPattern p ps k) in
    let there : (before ++ p ∷ []) ++ ps ≡ before ++ p ∷ ps = append_assoc before (p ∷ []) ps in
    then_turns groups.group_token (group_at before None Item) (group_at (before ++ p ∷ []) None Item)
    (group_at (before ++ p ∷ ps) region (due_after region)) p [] (ps ++ group_region_words region) (group_pattern before p (All-head IsPattern p ps k))
    (rw there at later)

group_is : (g : Group) (n : Lexeme) (p : GroupParts) (due : Due) → plain n ≡ plain_word g.name → p ≡ group_at g.patterns g.region due
    → ◌≡◌ {A = Group} (record { name = n.text; patterns = p.patterns; region = p.region }) g
group_is g n p due e f = rw (ap (λ (z : PlainToken). z.text) e, f) refl

pub group_back : (g : Group) → IsPrintedGroup g → Back same groups.group (group_words g) g
unfolding groups.group
group_back g h =
    back_bind plain same name _ (g.name ∷ []) (g.patterns ++ group_region_words g.region) (token_with g.name) g (name_back g.name h.name) (λ n en.
    no_more same _ g (g.patterns ++ group_region_words g.region)
    (back_bind same same (block groups.group_token groups.no_group) _ (g.patterns ++ group_region_words g.region) []
    (group_at g.patterns g.region (due_after g.region)) g
    (block_back same groups.group_token groups.no_group (group_at g.patterns g.region (due_after g.region)) (g.patterns ++ group_region_words g.region)
    (group_patterns g.region [] g.patterns h.region h.patterns)) (λ p ep.
    back_pure same g (record { name = n.text; patterns = p.patterns; region = p.region }) (group_is g n p (due_after g.region) en ep))))
