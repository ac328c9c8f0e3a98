-- Printed rows, regions, groups, components and blockages read back.
use Rattle.std.proofs.Common.{◌≡◌, ℕ, ◌≤◌, true, ◌&&◌, List, [], ◌∷◌, ◌++◌, ℤ, pos, ◌≤ℤ◌, Option, Some, None, Result, Ok, refl, ap, ◌∙◌, arith}
use Rattle.std.proofs.lemmas.List.{append-nil}
use Rattle.std.specs.Prelude.{codes, nat_le, IfSome}
use Rattle.std.specs.Int.{int_min, int_max}
use Rattle.std.proofs.lemmas.Bool.Decides.{nat_tests}
use Rattle.std.proofs.lemmas.Int.{ints, clamps}
use Rattle.lf_units.specs.declared.geometry.Point.{Point}
use Rattle.lf_units.specs.declared.geometry.Rect.{Rect}
use Rattle.lf_units.specs.Number.{fixed_of}
use Rattle.lf_orient.specs.declared.Orient.{Orient}
use Rattle.lf_orient.specs.declared.Orient.TheVariants.{N, W, S, E, FN, FW, FS, FE}
use Rattle.lf_lex.specs.declared.fault.ReadFault.{ReadFault}
use Rattle.lf_lex.specs.Tokens.{Lexeme, PlainToken, plain}
use Rattle.lf_lex.specs.Splices.{plain_word}
use Rattle.lf_lex.specs.Reading.{◌>>=◌, Reader, ReadValue, taken, token, is, keyword, name, or_bad_number}
use Rattle.lf_lex.proofs.Runs.{same, left}
use Rattle.lf_lex.proofs.BackWords.{short_name_back, is_at, keyword_back, no_more}
use Rattle.lf_def.specs.declared.rows.RowStatement.{RowStatement}
use Rattle.lf_def.specs.declared.rows.Sites.{Sites}
use Rattle.lf_def.specs.Coordinates.{dbu_of, dbu, number_up_to, count, point_rest, def_point, rect_between, rect_rest, def_rectangle, orient_of}
use Rattle.lf_def.specs.Rows.{row_end, step, sites, sites_from, row}
use Rattle.lf_def.specs.Ranges.{IsDefCoordinate, HasCoordinates, IsCount, IsRow, IsRect}
use Rattle.lf_orient.specs.Words.{orient_word}
use Rattle.lf_def.specs.Printed.{WritesNumbers, IsWord, ReadsBack, rect_words, step_words, row_words, IsPrintedRow}
use Rattle.lf_lex.proofs.Back.{Back, back_pure, back_bind, back_first, back_yes, back_no, back_given, token_with}
use Rattle.lf_def.proofs.Following.{point_at}

pub name_back : (n : List ℕ) → IsWord n → Back plain name (n ∷ []) (token_with n)
name_back n h = short_name_back n h.other h.name.short

-- If no places are left out, the value itself is read.
pub reads_back : {A : Type 0} (reader : Reader A) (ws : List (List ℕ)) (x : A) → Back same reader ws x → ReadsBack reader ws x
reads_back reader ws x f p e l = let a = f p e in a.takes l ∙ ap (λ (z : _). taken z l) a.alike

pub dbu_at : (print : ℤ → List ℕ) → WritesNumbers print → (x : ℤ) → IsDefCoordinate x → (t : Lexeme) → plain t ≡ plain_word (print x) → dbu_of t ≡ Ok x
dbu_at print writes x h t e = ap (λ (p : PlainToken). or_bad_number (fixed_of p.text 0 2147483647) t.line) e ∙ rw (writes x h) refl

pub dbu_back : (print : ℤ → List ℕ) → WritesNumbers print → (x : ℤ) → IsDefCoordinate x → Back same dbu (print x ∷ []) x
unfolding dbu
dbu_back print writes x h = back_first same _ (print x) [] x (λ t e. back_given same (dbu_of t) _ x [] x (dbu_at print writes x h t e)
    (back_pure same x x refl))

count_test : (most n : ℕ) → 1 ≤ n → n ≤ most → (nat_le 1 n && nat_le n most) ≡ true
count_test most n h k = grind (arith, nat_tests)

up_to_is : (most n line : ℕ) → IsCount most n → number_up_to most (pos n) line ≡ Ok n
up_to_is most n line h = rw (count_test most n h.some h.few) refl

count_coordinate : (n : ℕ) → n ≤ 2147483647 → IsDefCoordinate (pos n)
count_coordinate n h = record { low = omega (arith, ints); high = omega (arith, ints) }

pub count_back : (print : ℤ → List ℕ) → WritesNumbers print → (most : ℕ) → most ≤ 2147483647 → (n : ℕ) → IsCount most n
    → Back same (count most) (print (pos n) ∷ []) n
unfolding count
count_back print writes most within n h =
    back_first same _ (print (pos n)) [] n (λ t e. back_given same (dbu_of t) _ (pos n) [] n
    (dbu_at print writes (pos n) (count_coordinate n (omega (arith, h.few, within))) t e)
    (back_given same (number_up_to most (pos n) t.line) _ n [] n (up_to_is most n t.line h) (back_pure same n n refl)))

pub point_rest_back : (print : ℤ → List ℕ) → WritesNumbers print → (x y : ℤ) → IsDefCoordinate x → IsDefCoordinate y
    → Back same point_rest (print x ∷ print y ∷ codes ")" ∷ []) (point_at x y)
unfolding point_rest
point_rest_back print writes x y hx hy =
    back_bind same same dbu _ (print x ∷ []) (print y ∷ codes ")" ∷ []) x (point_at x y) (dbu_back print writes x hx) (λ x' ex.
    back_bind same same dbu _ (print y ∷ []) (codes ")" ∷ []) y (point_at x y) (dbu_back print writes y hy) (λ y' ey.
    back_bind same same (keyword (codes ")")) _ (codes ")" ∷ []) [] tt (point_at x y) (keyword_back (codes ")") refl)
    (λ s es. back_pure same (point_at x y) (point_at x' y') (rw (ex, ey) refl))))

point_back : (print : ℤ → List ℕ) → WritesNumbers print → (x y : ℤ) → IsDefCoordinate x → IsDefCoordinate y
    → Back same def_point (codes "(" ∷ print x ∷ print y ∷ codes ")" ∷ []) (point_at x y)
unfolding def_point
point_back print writes x y hx hy =
    back_bind same same (keyword (codes "(")) _ (codes "(" ∷ []) (print x ∷ print y ∷ codes ")" ∷ []) tt (point_at x y) (keyword_back (codes "(") refl)
    (λ s es. point_rest_back print writes x y hx hy)

lesser : (a b : ℤ) → a ≤ℤ b → int_min a b ≡ a
lesser a b h = omega (arith, ints, clamps)

greater : (a b : ℤ) → a ≤ℤ b → int_max a b ≡ b
greater a b h = omega (arith, ints, clamps)

corners : (r : Rect) (p q : Point) → IsRect r → p ≡ point_at r.x1 r.y1 → q ≡ point_at r.x2 r.y2 → rect_between p q ≡ r
corners r p q h e f = rw (e, f, lesser r.x1 r.x2 h.across, lesser r.y1 r.y2 h.up, greater r.x1 r.x2 h.across, greater r.y1 r.y2 h.up) refl

pub rect_rest_back : (print : ℤ → List ℕ) → WritesNumbers print → (r : Rect) → IsRect r
    → Back same rect_rest (print r.x1 ∷ print r.y1 ∷ codes ")" ∷ codes "(" ∷ print r.x2 ∷ print r.y2 ∷ codes ")" ∷ []) r
unfolding rect_rest
rect_rest_back print writes r h =
    back_bind same same point_rest _ (print r.x1 ∷ print r.y1 ∷ codes ")" ∷ []) (codes "(" ∷ print r.x2 ∷ print r.y2 ∷ codes ")" ∷ []) (point_at r.x1 r.y1) r
    (point_rest_back print writes r.x1 r.y1 h.x1 h.y1) (λ p ep.
    back_bind same same def_point _ (codes "(" ∷ print r.x2 ∷ print r.y2 ∷ codes ")" ∷ []) [] (point_at r.x2 r.y2) r (point_back print writes r.x2 r.y2 h.x2 h.y2)
    (λ q eq. back_pure same r (rect_between p q) (corners r p q h ep eq)))

pub rect_back : (print : ℤ → List ℕ) → WritesNumbers print → (r : Rect) → IsRect r → Back same def_rectangle (rect_words print r []) r
unfolding def_rectangle
rect_back print writes r h =
    back_bind same same (keyword (codes "(")) _ (codes "(" ∷ [])
    (print r.x1 ∷ print r.y1 ∷ codes ")" ∷ codes "(" ∷ print r.x2 ∷ print r.y2 ∷ codes ")" ∷ []) tt r (keyword_back (codes "(") refl)
    (λ s es. rect_rest_back print writes r h)

pub orient_at : (o : Orient) (t : Lexeme) → plain t ≡ plain_word (orient_word o) → orient_of t ≡ Ok o
orient_at N t e = ap (λ (p : PlainToken). orient_of (record t { text = p.text })) e
orient_at W t e = ap (λ (p : PlainToken). orient_of (record t { text = p.text })) e
orient_at S t e = ap (λ (p : PlainToken). orient_of (record t { text = p.text })) e
orient_at E t e = ap (λ (p : PlainToken). orient_of (record t { text = p.text })) e
orient_at FN t e = ap (λ (p : PlainToken). orient_of (record t { text = p.text })) e
orient_at FW t e = ap (λ (p : PlainToken). orient_of (record t { text = p.text })) e
orient_at FS t e = ap (λ (p : PlainToken). orient_of (record t { text = p.text })) e
orient_at FE t e = ap (λ (p : PlainToken). orient_of (record t { text = p.text })) e

-- Rows.

end_back : (t : Lexeme) → plain t ≡ plain_word (codes ";") → Back same (row_end t) [] tt
unfolding row_end
end_back t e = back_yes same (is (codes ";") t) _ _ [] tt (is_at (codes ";") (codes ";") t e) (back_pure same tt tt refl)

-- The words of a step after the first of them.
step_back : (print : ℤ → List ℕ) → WritesNumbers print → (s : Option Point) → IfSome s (λ p. HasCoordinates p)
    → (k : ReadValue Lexeme → Result (ReadValue Sites) ReadFault) (y : Sites)
    → ((t : Lexeme) (ws : List (List ℕ)) → Back same (step t) ws s → Back same (λ l. k (left t l)) ws y) → Back same (λ l. token l >>= k) (step_words print s) y
unfolding step
step_back print writes None h k y next =
    back_first same k (codes ";") [] y (λ t e. next t [] (back_no same (is (codes "STEP") t) _ _ [] None (is_at (codes "STEP") (codes ";") t e)
    (back_bind same same (row_end t) _ [] [] tt None (end_back t e) (λ s es. back_pure same None None refl))))
step_back print writes (Some p) h k y next =
    back_first same k (codes "STEP") (print p.x ∷ print p.y ∷ codes ";" ∷ []) y
    (λ t e. next t (print p.x ∷ print p.y ∷ codes ";" ∷ [])
    (back_yes same (is (codes "STEP") t) _ _ (print p.x ∷ print p.y ∷ codes ";" ∷ []) (Some p) (is_at (codes "STEP") (codes "STEP") t e)
    (back_bind same same dbu _ (print p.x ∷ []) (print p.y ∷ codes ";" ∷ []) p.x (Some p) (dbu_back print writes p.x h.x) (λ x' ex.
    back_bind same same dbu _ (print p.y ∷ []) (codes ";" ∷ []) p.y (Some p) (dbu_back print writes p.y h.y) (λ y' ey.
    back_first same _ (codes ";") [] (Some p) (λ u eu. back_bind same same (row_end u) _ [] [] tt (Some p) (end_back u eu)
    (λ s es. back_pure same (Some p) (Some (point_at x' y')) (rw (ex, ey) refl))))))))

abbrev sites_of : RowStatement → Sites
sites_of r = record { x = r.sites_x; y = r.sites_y; step = r.step }

sites_back : (print : ℤ → List ℕ) → WritesNumbers print → (r : RowStatement) → IsRow r
    → Back same sites (print (pos r.sites_x) ∷ codes "BY" ∷ print (pos r.sites_y) ∷ step_words print r.step) (sites_of r)
unfolding sites
sites_back print writes r h =
    back_bind same same (count 2147483647) _ (print (pos r.sites_x) ∷ []) (codes "BY" ∷ print (pos r.sites_y) ∷ step_words print r.step) r.sites_x (sites_of r)
    (count_back print writes 2147483647 (omega arith) r.sites_x h.sites_x) (λ x ex.
    back_bind same same (keyword (codes "BY")) _ (codes "BY" ∷ []) (print (pos r.sites_y) ∷ step_words print r.step) tt (sites_of r)
    (keyword_back (codes "BY") refl) (λ b eb.
    back_bind same same (count 2147483647) _ (print (pos r.sites_y) ∷ []) (step_words print r.step) r.sites_y (sites_of r)
    (count_back print writes 2147483647 (omega arith) r.sites_y h.sites_y) (λ y ey.
    step_back print writes r.step h.step _ (sites_of r) (λ t ws f.
    append_nil_back ws (back_bind same same (step t) _ ws [] r.step (sites_of r) f
    (λ s es. back_pure same (sites_of r) (record { x = x; y = y; step = s }) (sites_alike ex ey es)))))))
  where
    sites_alike : {x x' y y' : ℕ} {s s' : Option Point} → x' ≡ x → y' ≡ y → s' ≡ s
        → ◌≡◌ {A = Sites} (record { x = x'; y = y'; step = s' }) (record { x = x; y = y; step = s })
    sites_alike e f g = rw (e, f, g) refl

    append_nil_back : {A : Type 0} {q : Reader A} {y : A} (ws : List (List ℕ)) → Back same q (ws ++ []) y → Back same q ws y
    append_nil_back ws f = rw (append-nil ws) at f

abbrev from_count : (ℤ → List ℕ) → RowStatement → List (List ℕ)
from_count print r = print (pos r.sites_x) ∷ codes "BY" ∷ print (pos r.sites_y) ∷ step_words print r.step

abbrev from_orient : (ℤ → List ℕ) → RowStatement → List (List ℕ)
from_orient print r = orient_word r.orient ∷ codes "DO" ∷ from_count print r

row_alike : (r : RowStatement) (n i : Lexeme) (x y : ℤ) (s : Sites) → plain n ≡ plain_word r.name → plain i ≡ plain_word r.site → x ≡ r.x → y ≡ r.y → s ≡ sites_of r
    → ◌≡◌ {A = RowStatement} (record { name = n.text; site = i.text; x = x; y = y; orient = r.orient; sites_x = s.x; sites_y = s.y; step = s.step }) r
row_alike r n i x y s a b c d e = rw (ap (λ (p : PlainToken). p.text) a, ap (λ (p : PlainToken). p.text) b, c, d, e) refl

pub row_back : (print : ℤ → List ℕ) → WritesNumbers print → (r : RowStatement) → IsPrintedRow r → Back same row (row_words print r) r
unfolding row sites_from
row_back print writes r h =
    back_bind plain same name _ (r.name ∷ []) (r.site ∷ print r.x ∷ print r.y ∷ from_orient print r) (token_with r.name) r (name_back r.name h.name) (λ n en.
    back_bind plain same name _ (r.site ∷ []) (print r.x ∷ print r.y ∷ from_orient print r) (token_with r.site) r (name_back r.site h.site) (λ i ei.
    back_bind same same dbu _ (print r.x ∷ []) (print r.y ∷ from_orient print r) r.x r (dbu_back print writes r.x h.row.x) (λ x ex.
    back_bind same same dbu _ (print r.y ∷ []) (from_orient print r) r.y r (dbu_back print writes r.y h.row.y) (λ y ey.
    back_first same _ (orient_word r.orient) (codes "DO" ∷ from_count print r) r
    (λ t et. back_given same (orient_of t) _ r.orient (codes "DO" ∷ from_count print r) r (orient_at r.orient t et)
    (back_first same _ (codes "DO") (from_count print r) r (λ u eu.
    no_more same _ r (from_count print r) (back_bind same same (sites_from u) _ (from_count print r) [] (sites_of r) r
    (back_yes same (is (codes "DO") u) _ _ (from_count print r) (sites_of r) (is_at (codes "DO") (codes "DO") u eu) (sites_back print writes r h.row)) (λ s es.
    back_pure same r (record { name = n.text; site = i.text; x = x; y = y; orient = r.orient; sites_x = s.x; sites_y = s.y; step = s.step })
    (row_alike r n i x y s en ei ex ey es))))))))))
