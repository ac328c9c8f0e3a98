-- Printed macros are read as their statements describe them.
use Rattle.std.proofs.Common.{◌≡◌, ◌≢◌, ℕ, ◌<◌, Bool, true, false, cond, List, [], ◌∷◌, ◌++◌, All, map, length, ℤ, Option, Some, None, Result, refl, ap, ◌∙◌}
use Rattle.std.proofs.Common.{arith}
use Rattle.std.specs.Prelude.{codes, IfSome}
use Rattle.std.specs.Str.{bytes_eq}
use Rattle.std.proofs.lemmas.List.Elements.{All-head, All-tail, recursion_from_All}
use Rattle.lf_units.specs.declared.geometry.Point.{Point}
use Rattle.lf_orient.specs.declared.Symmetry.{Symmetry}
use Rattle.lf_lex.specs.declared.fault.ReadFault.{ReadFault}
use Rattle.lf_lex.specs.Tokens.{Lexeme, PlainToken, plain}
use Rattle.lf_lex.specs.Splices.{plain_word}
use Rattle.lf_lex.specs.Reading.{◌>>=◌, Reader, ReadValue, Turn, taken, turn, continues, finishes, token, is, name, end_name, to_semicolon, to_end, block, first_counts}
use Rattle.lf_lex.proofs.Runs.{same, left}
use Rattle.lf_lex.proofs.Back.{BackAt, TurnsAt, token_of, token_with, at_token, back_pure, at_bind, at_map, at_first, at_yes, at_no, at_known, at_last, at_more}
use Rattle.lf_lex.proofs.Back.{at_block}
use Rattle.lf_lex.proofs.BackWords.{text_is, is_of, not_eq, same_bytes, short_name_back, end_back, to_semicolon_at, to_end_at}
use Rattle.lf_lef.specs.declared.pins.Reach.{Reach}
use Rattle.lf_lef.specs.declared.pins.Pin.{Pin}
use Rattle.lf_lef.specs.declared.macros.MacroParts.{MacroParts}
use Rattle.lf_lef.specs.Lengths.{micros, point_from, lef_point, size, origin}
use Rattle.lf_lef.specs.Sites.{one_word, symmetry, no_symmetry}
use Rattle.lf_lef.specs.Pins.{past_mask, past_iterate, reach_of, lef_rectangle, port_statement_from, port_statement, use_named, pin_statement_from, pin_statement}
use Rattle.lf_lef.specs.Pins.{no_pin, pin}
use Rattle.lf_lef.specs.Macros.{passed_statement, passed_group, skip_lef_from, macro_statement_from, macro_statement, no_macro_parts, macro_parts}
use Rattle.lf_lef.specs.Printed.{IsPrintable, with_semicolon, IsSkippedToSemicolon}
use Rattle.lf_lef.specs.PrintedMacros.{PrintedLength, IsPrintedLength, PrintedPoint, point_words, printed_point}
use Rattle.lf_lef.specs.PrintedMacros.{PrintedRect, IsPrintedRect, mask_words, iterate_words, PortStatement, port_rect, port_passed, port_statement_tokens}
use Rattle.lf_lef.specs.PrintedMacros.{IsPortStatement, port_tokens, reaches_with_rect, with_rects}
use Rattle.lf_lef.specs.PrintedMacros.{PinStatement, pin_use, pin_port, pin_passed, pin_statement_tokens, IsPinStatement, pin_body_tokens, with_pin_statement}
use Rattle.lf_lef.specs.PrintedMacros.{with_pin_statements}
use Rattle.lf_lef.specs.PrintedMacros.{Layers, obstructions, density, layers_word, layers_tokens, MacroStatement, macro_origin, macro_size, macro_symmetry}
use Rattle.lf_lef.specs.PrintedMacros.{macro_pin, macro_layers, macro_timing, macro_passed}
use Rattle.lf_lef.specs.PrintedMacros.{macro_statement_tokens, IsMacroStatement, macro_body_tokens, with_statement, with_statements}
use Rattle.lf_lef.specs.PrintedMacros.{symmetry_tokens, with_symmetries}
use Rattle.lf_lef.proofs.Following.{point_at}
use Rattle.lf_lef.proofs.PrintedLengths.{micros_at, no_keyword, point_with, first_word, rest_words, point_from_back, point_back, size_back, origin_back}
use Rattle.lf_lef.proofs.PrintedLengths.{symmetries_back}
use Rattle.lf_lef.proofs.PrintedLengths.{one_word_back, passed_back, some_passed}

-- Ports.

mask_back : {B D : Type 0} (bare : B → D) (k : ReadValue Lexeme → Result (ReadValue B) ReadFault) (m : Option PrintedLength) → IfSome m IsPrintedLength
    → (u : PlainToken) (vs : List PlainToken) (y : B) → bytes_eq u.text (codes "MASK") ≡ false → ((t : Lexeme) → plain t ≡ u → BackAt bare (λ l. k (left t l)) vs y)
    → BackAt bare (λ l. token l >>= λ t. (past_mask t.value t.rest >>= k)) (map plain_word (mask_words m) ++ u ∷ vs) y
unfolding past_mask
mask_back bare k None h u vs y other next =
    at_first bare _ u vs y (λ t e. at_bind plain bare (past_mask t) k [] vs t y
    (at_no plain (is (codes "MASK") t) _ _ [] t (is_of (codes "MASK") u t e ∙ other) (back_pure plain t t refl)) (λ t' e'. next t' (e' ∙ e)))
mask_back bare k (Some n) h u vs y other next =
    at_first bare _ (plain_word (codes "MASK")) (plain_word n.word ∷ u ∷ vs) y (λ t e. at_bind plain bare (past_mask t) k (plain_word n.word ∷ u ∷ []) vs (token_of u) y
    (at_yes plain (is (codes "MASK") t) _ _ (plain_word n.word ∷ u ∷ []) (token_of u) (is_of (codes "MASK") (plain_word (codes "MASK")) t e)
    (at_bind same plain micros _ (plain_word n.word ∷ []) (u ∷ []) n.length (token_of u) (micros_at n h) (λ v ev. at_token u))) next)

iterate_back : {B D : Type 0} (bare : B → D) (k : ReadValue Lexeme → Result (ReadValue B) ReadFault) (m : Option PrintedLength) → IfSome m IsPrintedLength
    → (iterate : Bool)
    → (u : PlainToken) (vs : List PlainToken) (y : B) → bytes_eq u.text (codes "MASK") ≡ false → bytes_eq u.text (codes "ITERATE") ≡ false
    → ((t : Lexeme) → plain t ≡ u → BackAt bare (λ l. k (left t l)) vs y)
    → BackAt bare (λ l. token l >>= λ t. (past_mask t.value t.rest >>= λ p. (past_iterate p.value p.rest >>= k)))
    (map plain_word (mask_words m) ++ (map plain_word (iterate_words iterate) ++ u ∷ vs)) y
unfolding past_iterate
iterate_back bare k m h true u vs y no_mask no_iterate next =
    mask_back bare _ m h (plain_word (codes "ITERATE")) (u ∷ vs) y refl (λ t e. at_bind plain bare (past_iterate t) k (u ∷ []) vs (token_of u) y
    (at_yes plain (is (codes "ITERATE") t) _ _ (u ∷ []) (token_of u) (is_of (codes "ITERATE") (plain_word (codes "ITERATE")) t e) (at_token u)) next)
iterate_back bare k m h false u vs y no_mask no_iterate next =
    mask_back bare _ m h u vs y no_mask (λ t e. at_bind plain bare (past_iterate t) k [] vs t y
    (at_no plain (is (codes "ITERATE") t) _ _ [] t (is_of (codes "ITERATE") u t e ∙ no_iterate) (back_pure plain t t refl)) (λ t' e'. next t' (e' ∙ e)))

no_mask : (x : PrintedLength) (b : Bool) → IsPrintedLength x → bytes_eq (first_word x b) (codes "MASK") ≡ false
no_mask x true h = refl
no_mask x false h = no_keyword x h (codes "MASK") refl

no_iterate : (x : PrintedLength) (b : Bool) → IsPrintedLength x → bytes_eq (first_word x b) (codes "ITERATE") ≡ false
no_iterate x true h = refl
no_iterate x false h = no_keyword x h (codes "ITERATE") refl

abbrev rect_with : Option PrintedLength → Bool → PrintedLength → PrintedLength → Bool → PrintedPoint → List PlainToken → PrintedRect
rect_with m iterate x y b o more = record { mask = m; iterate = iterate; corner = point_with x y b; opposite = o; more = more }

reach_alike : (a b : ℤ) (p q : Point) → p.y ≡ a → q.y ≡ b → reach_of p.y q.y ≡ reach_of a b
reach_alike a b p q e f = rw (e, f) refl

-- The tokens after RECT, with the first corner written out.
corner_back : (m : Option PrintedLength) (iterate : Bool) (x y : PrintedLength) (b : Bool) (o : PrintedPoint) (more : List PlainToken)
    → IsPrintedRect (rect_with m iterate x y b o more)
    → BackAt same lef_rectangle (map plain_word (mask_words m) ++ (map plain_word (iterate_words iterate) ++
    (plain_word (first_word x b) ∷ (map plain_word (rest_words x y b) ++ (map plain_word (point_words o) ++ with_semicolon more)))))
    (reach_of y.length o.y.length)
unfolding lef_rectangle
corner_back m iterate x y b o more h =
    let v = reach_of y.length o.y.length in
    let back = map plain_word (point_words o) ++ with_semicolon more in
    iterate_back same _ m h.mask iterate (plain_word (first_word x b)) (map plain_word (rest_words x y b) ++ back) v (no_mask x b h.corner.x)
    (no_iterate x b h.corner.x) (λ t e.
    at_bind same same (point_from t) _ (map plain_word (rest_words x y b)) back (point_at x.length y.length) v (point_from_back x y b h.corner.x h.corner.y t e)
    (λ p ep.
    at_bind same same lef_point _ (map plain_word (point_words o)) (with_semicolon more) (printed_point o) v (point_back o h.opposite) (λ q eq.
    at_map same same to_semicolon (λ (z : Unit {0}). reach_of p.y q.y) (with_semicolon more) tt v (to_semicolon_at more h.more) (λ z ez.
    reach_alike y.length o.y.length p q (ap (λ (c : Point). c.y) ep) (ap (λ (c : Point). c.y) eq)))))

abbrev after_rect : PrintedRect → List PlainToken
after_rect r = map plain_word (mask_words r.mask) ++ (map plain_word (iterate_words r.iterate) ++
    (map plain_word (point_words r.corner) ++ (map plain_word (point_words r.opposite) ++ with_semicolon r.more)))

rect_by : (m : Option PrintedLength) (iterate : Bool) (x y : PrintedLength) (b : Bool) (o : PrintedPoint) (more : List PlainToken)
    → IsPrintedRect (rect_with m iterate x y b o more)
    → BackAt same lef_rectangle (after_rect (rect_with m iterate x y b o more)) (reach_of y.length o.y.length)
rect_by m iterate x y true o more h = corner_back m iterate x y true o more h
rect_by m iterate x y false o more h = corner_back m iterate x y false o more h

rect_back : (r : PrintedRect) → IsPrintedRect r → BackAt same lef_rectangle (after_rect r) (reach_of r.corner.y.length r.opposite.y.length)
rect_back r h = rect_by r.mask r.iterate r.corner.x r.corner.y r.corner.in_parentheses r.opposite r.more h

port_statement_back : (s : List Reach) (x : PortStatement) → IsPortStatement x
    → BackAt same (port_statement s) (port_statement_tokens x) (turn (reaches_with_rect s x) true)
unfolding port_statement port_statement_from
port_statement_back s (port_rect r) h =
    let v = turn (reaches_with_rect s (port_rect r)) true in
    at_known same (port_statement_from s) (λ l. lef_rectangle l >>= λ z. continues (s ++ z.value ∷ []) z.rest) (plain_word (codes "RECT")) (after_rect r) v (λ t l. refl)
    (at_map same same lef_rectangle (λ (z : Reach). turn (s ++ z ∷ []) true) (after_rect r) (reach_of r.corner.y.length r.opposite.y.length) v (rect_back r h)
    (λ z e. ap (λ (c : Reach). turn (s ++ c ∷ []) true) e))
port_statement_back s (port_passed ts) h =
    passed_back (port_statement_from s) s (codes "END" ∷ codes "RECT" ∷ []) ts h (λ t l. refl) (λ u d n t l.
    let others = recursion_from_All (λ w. u.text ≢ w) (codes "END" ∷ codes "RECT" ∷ []) d in
    rw (not_eq u.text (codes "END") others.0, not_eq u.text (codes "RECT") others.1.0, not_eq u.text (codes ";") n) refl)

some_port : (x : PortStatement) → 0 < length (port_statement_tokens x)
some_port (port_rect r) = omega arith
some_port (port_passed ts) = some_passed ts

port_turns : (s : List Reach) (xs : List PortStatement) → All IsPortStatement xs → TurnsAt same port_statement s (port_tokens xs) (with_rects s xs)
unfolding port_statement port_statement_from
port_turns s [] h =
    at_last same port_statement s s (plain_word (codes "END") ∷ [])
    (at_known same (port_statement_from s) (λ l. finishes s l) (plain_word (codes "END")) [] (turn s false) (λ t l. refl)
    (back_pure same (turn s false) (turn s false) refl))
port_turns s (x ∷ xs) h =
    at_more same port_statement s (reaches_with_rect s x) (with_rects s (x ∷ xs)) (port_statement_tokens x) (port_tokens xs) (some_port x)
    (port_statement_back s x (All-head IsPortStatement x xs h)) (λ s' e.
    rw e (port_turns (reaches_with_rect s x) xs (All-tail IsPortStatement x xs h)))

-- Pins.

pin_statement_back : (n : List ℕ) (s : Pin) (x : PinStatement) → IsPinStatement x
    → BackAt same (pin_statement n s) (pin_statement_tokens x) (turn (with_pin_statement s x) true)
unfolding pin_statement pin_statement_from
pin_statement_back n s (pin_use w) h =
    let with_use : List ℕ → Turn Pin = λ z. turn (record s { supply = first_counts s.supply (use_named z) }) true in
    at_known same (pin_statement_from n s) (λ l. one_word l >>= λ z. taken (with_use z.value) z.rest) (plain_word (codes "USE"))
    (plain_word w ∷ plain_word (codes ";") ∷ []) (with_use w) (λ t l. refl)
    (at_map same same one_word with_use (plain_word w ∷ plain_word (codes ";") ∷ []) w (with_use w) (one_word_back w h) (λ z e. ap with_use e))
pin_statement_back n s (pin_port xs) h =
    let with_port : List Reach → Turn Pin = λ z. turn (record s { reaches = z }) true in
    let v = with_rects s.reaches xs in
    at_known same (pin_statement_from n s) (λ l. block port_statement s.reaches l >>= λ z. taken (with_port z.value) z.rest) (plain_word (codes "PORT"))
    (port_tokens xs) (with_port v) (λ t l. refl)
    (at_map same same (block port_statement s.reaches) with_port (port_tokens xs) v (with_port v)
    (at_block same port_statement s.reaches v (port_tokens xs) (port_turns s.reaches xs h)) (λ z e. ap with_port e))
pin_statement_back n s (pin_passed ts) h =
    let keywords = codes "END" ∷ codes "USE" ∷ codes "PORT" ∷ [] in
    passed_back (pin_statement_from n s) s keywords ts h (λ t l. refl) (λ u d o t l.
    let others = recursion_from_All (λ w. u.text ≢ w) keywords d in
    rw (
      not_eq u.text (codes "END") others.0,
      not_eq u.text (codes "USE") others.1.0,
      not_eq u.text (codes "PORT") others.1.1.0,
      not_eq u.text
          (codes ";") o,
    ) refl)

some_pin : (x : PinStatement) → 0 < length (pin_statement_tokens x)
some_pin (pin_use w) = omega arith
some_pin (pin_port xs) = omega arith
some_pin (pin_passed ts) = some_passed ts

pin_turns : (n : List ℕ) (s : Pin) (xs : List PinStatement) → All IsPinStatement xs
    → TurnsAt same (pin_statement n) s (pin_body_tokens n xs) (with_pin_statements s xs)
unfolding pin_statement pin_statement_from
pin_turns n s [] h =
    at_last same (pin_statement n) s s (plain_word (codes "END") ∷ plain_word n ∷ [])
    (at_known same (pin_statement_from n s) (λ l. end_name n l >>= λ stop. finishes s stop.rest) (plain_word (codes "END")) (plain_word n ∷ []) (turn s false)
    (λ t l. refl)
    (at_map same same (end_name n) (λ (z : Unit {0}). turn s false) (plain_word n ∷ []) tt (turn s false) (end_back n (same_bytes n)) (λ z e. refl)))
pin_turns n s (x ∷ xs) h =
    at_more same (pin_statement n) s (with_pin_statement s x) (with_pin_statements s (x ∷ xs)) (pin_statement_tokens x) (pin_body_tokens n xs) (some_pin x)
    (pin_statement_back n s x (All-head IsPinStatement x xs h)) (λ s' e. rw e (pin_turns n (with_pin_statement s x) xs (All-tail IsPinStatement x xs h)))

pin_back : (n : List ℕ) (xs : List PinStatement) → IsPrintable n → All IsPinStatement xs
    → BackAt same pin (plain_word n ∷ pin_body_tokens n xs) (with_pin_statements no_pin xs)
unfolding pin
pin_back n xs h hs =
    let v = with_pin_statements no_pin xs in
    at_bind plain same name _ (plain_word n ∷ []) (pin_body_tokens n xs) (token_with n) v (short_name_back n h.word h.short) (λ t e.
    rw (text_is n t e) (at_block same (pin_statement n) no_pin v (pin_body_tokens n xs) (pin_turns n no_pin xs hs)))

-- Macros.

abbrev layers_from : Lexeme → Reader (Turn (Unit {0}))
layers_from t l = cond (is (codes "END") t) (finishes tt l) (cond (is (codes ";") t) (continues tt l) (to_semicolon l >>= λ stop. continues tt stop.rest))

layers_turns : (xs : List (List PlainToken)) → All (IsSkippedToSemicolon (codes "END" ∷ [])) xs → TurnsAt same passed_statement tt (layers_tokens xs) tt
unfolding passed_statement
layers_turns [] h =
    at_last same passed_statement tt tt (plain_word (codes "END") ∷ []) (at_first same _ (plain_word (codes "END")) [] (turn tt false) (λ t e.
    at_yes same (is (codes "END") t) _ _ [] (turn tt false) (is_of (codes "END") (plain_word (codes "END")) t e)
    (back_pure same (turn tt false) (turn tt false) refl)))
layers_turns (x ∷ xs) h =
    at_more same passed_statement tt tt tt (with_semicolon x) (layers_tokens xs) (some_passed x)
    (passed_back layers_from tt (codes "END" ∷ []) x (All-head (IsSkippedToSemicolon (codes "END" ∷ [])) x xs h) (λ t l. refl) (λ u d n t l.
    let others = recursion_from_All (λ w. u.text ≢ w) (codes "END" ∷ []) d in
    rw (not_eq u.text (codes "END") others.0, not_eq u.text (codes ";") n) refl)) (λ s e. layers_turns xs (All-tail (IsSkippedToSemicolon (codes "END" ∷ [])) x xs h))

passed_group_back : (xs : List (List PlainToken)) → All (IsSkippedToSemicolon (codes "END" ∷ [])) xs → BackAt same passed_group (layers_tokens xs) tt
passed_group_back xs h = at_block same passed_statement tt tt (layers_tokens xs) (layers_turns xs h)

abbrev other_words : List (List ℕ)
other_words = codes "END" ∷ codes "ORIGIN" ∷ codes "SIZE" ∷ codes "SYMMETRY" ∷ codes "PIN" ∷ codes "OBS" ∷ codes "DENSITY" ∷ codes "TIMING" ∷ []

layers_back : (n : List ℕ) (s : MacroParts) (k : Layers) (xs : List (List PlainToken)) → All (IsSkippedToSemicolon (codes "END" ∷ [])) xs
    → BackAt same (macro_statement n s) (plain_word (layers_word k) ∷ layers_tokens xs) (turn s true)
unfolding macro_statement macro_statement_from skip_lef_from
layers_back n s obstructions xs h =
    at_known same (macro_statement_from n s) (λ l. passed_group l >>= λ stop. continues s stop.rest) (plain_word (codes "OBS")) (layers_tokens xs) (turn s true)
    (λ t l. refl)
    (at_map same same passed_group (λ (z : Unit {0}). turn s true) (layers_tokens xs) tt (turn s true) (passed_group_back xs h) (λ z e. refl))
layers_back n s density xs h =
    at_known same (macro_statement_from n s) (λ l. passed_group l >>= λ stop. continues s stop.rest) (plain_word (codes "DENSITY")) (layers_tokens xs) (turn s true)
    (λ t l. refl)
    (at_map same same passed_group (λ (z : Unit {0}). turn s true) (layers_tokens xs) tt (turn s true) (passed_group_back xs h) (λ z e. refl))

macro_statement_back : (n : List ℕ) (s : MacroParts) (x : MacroStatement) → IsMacroStatement x
    → BackAt same (macro_statement n s) (macro_statement_tokens x) (turn (with_statement s x) true)
unfolding macro_statement macro_statement_from skip_lef_from
macro_statement_back n s (macro_origin p) h =
    let made : Point → Turn MacroParts = λ z. turn (record s { origin = first_counts s.origin z }) true in
    let after_it = map plain_word (point_words p) ++ plain_word (codes ";") ∷ [] in
    at_known same (macro_statement_from n s) (λ l. origin l >>= λ z. taken (made z.value) z.rest) (plain_word (codes "ORIGIN")) after_it (made (printed_point p))
    (λ t l. refl)
    (at_map same same origin made after_it (printed_point p) (made (printed_point p)) (origin_back p h) (λ z e. ap made e))
macro_statement_back n s (macro_size w hh) h =
    let made : Point → Turn MacroParts = λ z. turn (record s { size = first_counts s.size z }) true in
    let v = point_at w.length hh.length in
    let after_it = plain_word w.word ∷ plain_word (codes "BY") ∷ plain_word hh.word ∷ plain_word (codes ";") ∷ [] in
    at_known same (macro_statement_from n s) (λ l. size l >>= λ z. taken (made z.value) z.rest) (plain_word (codes "SIZE")) after_it (made v) (λ t l. refl)
    (at_map same same size made after_it v (made v) (size_back w hh h.0 h.1) (λ z e. ap made e))
macro_statement_back n s (macro_symmetry ws) h =
    let made : Symmetry → Turn MacroParts = λ z. turn (record s { symmetry = first_counts s.symmetry z }) true in
    let v = with_symmetries no_symmetry ws in
    at_known same (macro_statement_from n s) (λ l. symmetry l >>= λ z. taken (made z.value) z.rest) (plain_word (codes "SYMMETRY")) (symmetry_tokens ws) (made v)
    (λ t l. refl)
    (at_map same same symmetry made (symmetry_tokens ws) v (made v) (symmetries_back ws) (λ z e. ap made e))
macro_statement_back n s (macro_pin m xs) h =
    let made : Pin → Turn MacroParts = λ z. turn (record s { pins = s.pins ++ z ∷ [] }) true in
    let v = with_pin_statements no_pin xs in
    let after_it = plain_word m ∷ pin_body_tokens m xs in
    at_known same (macro_statement_from n s) (λ l. pin l >>= λ z. taken (made z.value) z.rest) (plain_word (codes "PIN")) after_it (made v) (λ t l. refl)
    (at_map same same pin made after_it v (made v) (pin_back m xs h.0 h.1) (λ z e. ap made e))
macro_statement_back n s (macro_layers k xs) h = layers_back n s k xs h
macro_statement_back n s (macro_timing between) h =
    let after_it = between ++ plain_word (codes "END") ∷ plain_word (codes "TIMING") ∷ [] in
    at_known same (macro_statement_from n s) (λ l. to_end (codes "TIMING") l >>= λ stop. continues s stop.rest) (plain_word (codes "TIMING")) after_it (turn s true)
    (λ t l. refl)
    (at_map same same (to_end (codes "TIMING")) (λ (z : Unit {0}). turn s true) after_it tt (turn s true) (to_end_at (codes "TIMING") refl refl between h)
    (λ z e. refl))
macro_statement_back n s (macro_passed ts) h =
    passed_back (macro_statement_from n s) s other_words ts h (λ t l. refl) (λ u d o t l.
    let others = recursion_from_All (λ w. u.text ≢ w) other_words d in
    rw (
      not_eq u.text (codes "END") others.0,
      not_eq u.text (codes "ORIGIN") others.1.0,
      not_eq u.text (codes "SIZE") others.1.1.0,
      not_eq u.text (codes "SYMMETRY") others.1.1.1.0,
      not_eq u.text (codes "PIN") others.1.1.1.1.0,
      not_eq u.text (codes "OBS") others.1.1.1.1.1.0,
      not_eq u.text (codes "DENSITY") others.1.1.1.1.1.1.0,
      not_eq u.text (codes "TIMING") others.1.1.1.1.1.1.1.0,
      not_eq u.text (codes ";") o,
    ) refl)

some_statement : (x : MacroStatement) → 0 < length (macro_statement_tokens x)
some_statement (macro_origin p) = omega arith
some_statement (macro_size w h) = omega arith
some_statement (macro_symmetry y) = omega arith
some_statement (macro_pin m xs) = omega arith
some_statement (macro_layers k xs) = omega arith
some_statement (macro_timing between) = omega arith
some_statement (macro_passed ts) = some_passed ts

macro_turns : (n : List ℕ) (s : MacroParts) (xs : List MacroStatement) → All IsMacroStatement xs
    → TurnsAt same (macro_statement n) s (macro_body_tokens n xs) (with_statements s xs)
unfolding macro_statement macro_statement_from
macro_turns n s [] h =
    at_last same (macro_statement n) s s (plain_word (codes "END") ∷ plain_word n ∷ [])
    (at_known same (macro_statement_from n s) (λ l. end_name n l >>= λ stop. finishes s stop.rest) (plain_word (codes "END")) (plain_word n ∷ []) (turn s false)
    (λ t l. refl)
    (at_map same same (end_name n) (λ (z : Unit {0}). turn s false) (plain_word n ∷ []) tt (turn s false) (end_back n (same_bytes n)) (λ z e. refl)))
macro_turns n s (x ∷ xs) h =
    at_more same (macro_statement n) s (with_statement s x) (with_statements s (x ∷ xs)) (macro_statement_tokens x) (macro_body_tokens n xs) (some_statement x)
    (macro_statement_back n s x (All-head IsMacroStatement x xs h)) (λ s' e. rw e (macro_turns n (with_statement s x) xs (All-tail IsMacroStatement x xs h)))

pub macro_parts_back : (n : List ℕ) (xs : List MacroStatement) → All IsMacroStatement xs
    → BackAt same (macro_parts n) (macro_body_tokens n xs) (with_statements no_macro_parts xs)
macro_parts_back n xs h = at_block same (macro_statement n) no_macro_parts (with_statements no_macro_parts xs) (macro_body_tokens n xs)
    (macro_turns n no_macro_parts xs h)
