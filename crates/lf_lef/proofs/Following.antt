-- The statements of LEF take a run of tokens, and read alike from tokens that differ only in their
-- places.
use Rattle.std.proofs.Common.{◌≡◌, ℕ, ◌^◌, Bool, true, false, ◌||◌, List, [], ◌∷◌, ◌++◌, ℤ, Ok, refl, ap}
use Rattle.std.specs.Prelude.{codes}
use Rattle.std.specs.Str.{bytes_eq}
use Rattle.lf_units.specs.declared.geometry.Point.{Point}
use Rattle.lf_units.specs.Number.{fixed_of}
use Rattle.lf_orient.specs.declared.Symmetry.{Symmetry}
use Rattle.lf_lex.specs.Tokens.{Lexeme, plain}
use Rattle.lf_lex.specs.Reading.{turn, token, is, word, keyword, name, end_name, to_semicolon, block, first_counts}
use Rattle.lf_lex.proofs.Runs.{Follows, Goes, same, bind, choose, given, pure, fault, token_follows, takes_one, takes_first, block_follows, alike_states}
use Rattle.lf_lex.proofs.Following.{text_alike, is_alike, keyword_follows, word_follows, name_follows, end_name_follows, to_semicolon_follows, to_end_follows}
use Rattle.lf_lex.proofs.Following.{number_again}
use Rattle.lf_lef.specs.declared.sites.SiteParts.{SiteParts}
use Rattle.lf_lef.specs.declared.pins.Reach.{Reach}
use Rattle.lf_lef.specs.declared.pins.Pin.{Pin}
use Rattle.lf_lef.specs.declared.macros.MacroParts.{MacroParts}
use Rattle.lf_lef.specs.Lengths.{micros_of, micros, point_from, lef_point, size, origin}
use Rattle.lf_lef.specs.Sites.{one_word, symmetry_word, no_symmetry, symmetry, site_statement_from, site_statement}
use Rattle.lf_lef.specs.Pins.{past_mask, past_iterate, reach_of, lef_rectangle, port_statement_from, port_statement, use_named, pin_statement_from, pin_statement}
use Rattle.lf_lef.specs.Pins.{no_pin, pin}
use Rattle.lf_lef.specs.Macros.{passed_statement, passed_group, skip_lef_from, macro_statement_from, macro_statement}
use Rattle.lf_units.proofs.Same.{same_point}

abbrev pub point_at : ℤ → ℤ → Point
point_at x y = record { x = x; y = y }

micros_again : (t t' : Lexeme) → plain t' ≡ plain t → (v : ℤ) → micros_of t ≡ Ok v → micros_of t' ≡ Ok v
micros_again t t' e v h = rw (text_alike t t' e) (number_again (fixed_of t.text 6 (10 ^ 12)) t.line t'.line v h)

pub micros_follows : Follows same micros micros
unfolding micros
micros_follows = bind plain same token token _ _ token_follows
    (λ t t' e. given same (micros_of t) (micros_of t') _ _ (micros_again t t' e) (λ v. pure same v v refl))

pub point_from_follows : (t t' : Lexeme) → plain t' ≡ plain t → Follows same (point_from t) (point_from t')
unfolding point_from
point_from_follows t t' e =
    choose same (is (codes "(") t) (is (codes "(") t') _ _ _ _ (is_alike (codes "(") t t' e)
    (bind same same micros micros _ _ micros_follows (λ x x' ex.
    bind same same micros micros _ _ micros_follows (λ y y' ey. bind same same (keyword (codes ")")) (keyword (codes ")")) _ _ (keyword_follows (codes ")"))
    (λ s s' es.
    pure same (point_at x y) (point_at x' y') (same_point (point_at x' y') (point_at x y) ex ey)))))
    (given same (micros_of t) (micros_of t') _ _ (micros_again t t' e)
    (λ x. bind same same micros micros _ _ micros_follows (λ y y' ey.
    pure same (point_at x y) (point_at x y') (same_point (point_at x y') (point_at x y) refl ey))))

pub point_follows : Follows same lef_point lef_point
unfolding lef_point
point_follows = bind plain same token token _ _ token_follows (λ t t' e. point_from_follows t t' e)

pub size_follows : Follows same size size
unfolding size
size_follows =
    bind same same micros micros _ _ micros_follows (λ x x' ex. bind same same (keyword (codes "BY")) (keyword (codes "BY")) _ _ (keyword_follows (codes "BY"))
    (λ b b' eb.
    bind same same micros micros _ _ micros_follows (λ y y' ey. bind same same (keyword (codes ";")) (keyword (codes ";")) _ _ (keyword_follows (codes ";"))
    (λ s s' es.
    pure same (point_at x y) (point_at x' y') (same_point (point_at x' y') (point_at x y) ex ey)))))

pub origin_follows : Follows same origin origin
unfolding origin
origin_follows = bind same same lef_point lef_point _ _ point_follows
    (λ p p' e. bind same same (keyword (codes ";")) (keyword (codes ";")) _ _ (keyword_follows (codes ";")) (λ s s' es. pure same p p' e))

-- Sites.

pub one_word_follows : Follows same one_word one_word
unfolding one_word
one_word_follows = bind plain same word word _ _ word_follows
    (λ w w' e. bind same same (keyword (codes ";")) (keyword (codes ";")) _ _ (keyword_follows (codes ";"))
    (λ s s' es. pure same w.text w'.text (text_alike w w' e)))

-- Sites.

pub symmetry_word_follows : (s : Symmetry) → Follows same (symmetry_word s) (symmetry_word s)
unfolding symmetry_word
symmetry_word_follows s =
    bind plain same token token _ _ token_follows (λ t t' e.
    (choose same (is (codes ";") t) (is (codes ";") t') _ _ _ _ (is_alike (codes ";") t t' e) (pure same _ _ refl)
    (choose same (is (codes "X") t) (is (codes "X") t') _ _ _ _ (is_alike (codes "X") t t' e) (pure same _ _ refl)
    (choose same (is (codes "Y") t) (is (codes "Y") t') _ _ _ _ (is_alike (codes "Y") t t' e) (pure same _ _ refl)
    (choose same (is (codes "R90") t) (is (codes "R90") t') _ _ _ _ (is_alike (codes "R90") t t' e) (pure same _ _ refl)
    (fault same _ _))))))

pub symmetry_word_goes : Goes symmetry_word
unfolding symmetry_word
symmetry_word_goes s s1 l m h =
    takes_first _ l m (turn s1 true) h (λ t.
    (choose same (is (codes ";") t) (is (codes ";") t) _ _ _ _ (refl) (pure same _ _ refl)
    (choose same (is (codes "X") t) (is (codes "X") t) _ _ _ _ (refl) (pure same _ _ refl)
    (choose same (is (codes "Y") t) (is (codes "Y") t) _ _ _ _ (refl) (pure same _ _ refl)
    (choose same (is (codes "R90") t) (is (codes "R90") t) _ _ _ _ (refl) (pure same _ _ refl)
    (fault same _ _))))))

pub symmetry_follows : Follows same symmetry symmetry
symmetry_follows = block_follows same symmetry_word (alike_states symmetry_word symmetry_word_follows) symmetry_word_goes no_symmetry no_symmetry refl

pub site_statement_from_follows : (name : List ℕ) (s : SiteParts) (t t' : Lexeme) → plain t' ≡ plain t
    → Follows same (site_statement_from name s t) (site_statement_from name s t')
unfolding site_statement_from
site_statement_from_follows name s t t' e =
    (choose same (is (codes "END") t) (is (codes "END") t') _ _ _ _ (is_alike (codes "END") t t' e)
    (bind same same (end_name name) (end_name name) _ _ (end_name_follows name) (λ x x' ex. pure same (turn s false) (turn s false) refl))
    (choose same (is (codes "CLASS") t) (is (codes "CLASS") t') _ _ _ _ (is_alike (codes "CLASS") t t' e)
    (bind same same one_word one_word _ _ one_word_follows (λ x x' ex.
    pure same (turn (record s { core = first_counts s.core (bytes_eq x (codes "CORE")) }) true)
    (turn (record s { core = first_counts s.core (bytes_eq x' (codes "CORE")) }) true)
    (ap (λ (z : List ℕ). turn (record s { core = first_counts s.core (bytes_eq z (codes "CORE")) }) true) ex)))
    (choose same (is (codes "SYMMETRY") t) (is (codes "SYMMETRY") t') _ _ _ _ (is_alike (codes "SYMMETRY") t t' e)
    (bind same same symmetry symmetry _ _ symmetry_follows (λ x x' ex. pure same (turn (record s { symmetry = first_counts s.symmetry x }) true)
    (turn (record s { symmetry = first_counts s.symmetry x' }) true)
    (ap (λ (z : Symmetry). turn (record s { symmetry = first_counts s.symmetry z }) true) ex)))
    (choose same (is (codes "SIZE") t) (is (codes "SIZE") t') _ _ _ _ (is_alike (codes "SIZE") t t' e)
    (bind same same size size _ _ size_follows (λ x x' ex. pure same (turn (record s { size = first_counts s.size x }) true)
    (turn (record s { size = first_counts s.size x' }) true) (ap (λ (z : Point). turn (record s { size = first_counts s.size z }) true) ex)))
    (choose same (is (codes ";") t) (is (codes ";") t') _ _ _ _ (is_alike (codes ";") t t' e) (pure same _ _ refl)
    (bind same same to_semicolon to_semicolon _ _ to_semicolon_follows (λ x x' ex. pure same (turn s true) (turn s true) refl)))))))

pub site_statement_follows : (name : List ℕ) (s : SiteParts) → Follows same (site_statement name s) (site_statement name s)
unfolding site_statement
site_statement_follows name s = bind plain same token token _ _ token_follows (λ t t' e. site_statement_from_follows name s t t' e)

pub site_statement_goes : (name : List ℕ) → Goes (site_statement name)
unfolding site_statement
site_statement_goes name s s1 l m e = takes_one same _ _ l m (turn s1 true) (λ t. site_statement_from_follows name s t t refl) e

pub site_statements_follow : (name : List ℕ) (s : SiteParts) → Follows same (block (site_statement name) s) (block (site_statement name) s)
site_statements_follow name s = block_follows same (site_statement name) (alike_states (site_statement name) (site_statement_follows name))
    (site_statement_goes name) s s refl

-- Pins.

past_mask_follows : (t t' : Lexeme) → plain t' ≡ plain t → Follows plain (past_mask t) (past_mask t')
unfolding past_mask
past_mask_follows t t' e =
    choose plain (is (codes "MASK") t) (is (codes "MASK") t') _ _ _ _ (is_alike (codes "MASK") t t' e)
    (bind same plain micros micros _ _ micros_follows (λ x x' ex. token_follows)) (pure plain t t' e)

past_iterate_follows : (t t' : Lexeme) → plain t' ≡ plain t → Follows plain (past_iterate t) (past_iterate t')
unfolding past_iterate
past_iterate_follows t t' e = choose plain (is (codes "ITERATE") t) (is (codes "ITERATE") t') _ _ _ _ (is_alike (codes "ITERATE") t t' e) token_follows
    (pure plain t t' e)

reach_alike : (p p' q q' : Point) → p' ≡ p → q' ≡ q → reach_of p'.y q'.y ≡ reach_of p.y q.y
reach_alike p p' q q' e f = rw (e, f) refl

pub rect_follows : Follows same lef_rectangle lef_rectangle
unfolding lef_rectangle
rect_follows =
    bind plain same token token _ _ token_follows (λ t t' e. bind plain same (past_mask t) (past_mask t') _ _ (past_mask_follows t t' e) (λ u u' eu.
    bind plain same (past_iterate u) (past_iterate u') _ _ (past_iterate_follows u u' eu)
    (λ v v' ev. bind same same (point_from v) (point_from v') _ _ (point_from_follows v v' ev) (λ p p' ep.
    bind same same lef_point lef_point _ _ point_follows (λ q q' eq. bind same same to_semicolon to_semicolon _ _ to_semicolon_follows
    (λ s s' es. pure same (reach_of p.y q.y) (reach_of p'.y q'.y) (reach_alike p p' q q' ep eq)))))))

pub port_statement_from_follows : (s : List Reach) (t t' : Lexeme) → plain t' ≡ plain t → Follows same (port_statement_from s t) (port_statement_from s t')
unfolding port_statement_from
port_statement_from_follows s t t' e =
    (choose same (is (codes "END") t) (is (codes "END") t') _ _ _ _ (is_alike (codes "END") t t' e) (pure same _ _ refl)
    (choose same (is (codes "RECT") t) (is (codes "RECT") t') _ _ _ _ (is_alike (codes "RECT") t t' e)
    (bind same same lef_rectangle lef_rectangle _ _ rect_follows (λ x x' ex. pure same (turn (s ++ x ∷ []) true) (turn (s ++ x' ∷ []) true)
    (ap (λ (z : Reach). turn (s ++ z ∷ []) true) ex)))
    (choose same (is (codes ";") t) (is (codes ";") t') _ _ _ _ (is_alike (codes ";") t t' e) (pure same _ _ refl)
    (bind same same to_semicolon to_semicolon _ _ to_semicolon_follows (λ x x' ex. pure same (turn s true) (turn s true) refl)))))

pub port_statement_follows : (s : List Reach) → Follows same (port_statement s) (port_statement s)
unfolding port_statement
port_statement_follows s = bind plain same token token _ _ token_follows (λ t t' e. port_statement_from_follows s t t' e)

pub port_statement_goes : Goes port_statement
unfolding port_statement
port_statement_goes s s1 l m e = takes_one same _ _ l m (turn s1 true) (λ t. port_statement_from_follows s t t refl) e

pub port_statements_follow : (s : List Reach) → Follows same (block port_statement s) (block port_statement s)
port_statements_follow s = block_follows same port_statement (alike_states port_statement port_statement_follows) port_statement_goes s s refl

pub pin_statement_from_follows : (name : List ℕ) (s : Pin) (t t' : Lexeme) → plain t' ≡ plain t
    → Follows same (pin_statement_from name s t) (pin_statement_from name s t')
unfolding pin_statement_from
pin_statement_from_follows name s t t' e =
    (choose same (is (codes "END") t) (is (codes "END") t') _ _ _ _ (is_alike (codes "END") t t' e)
    (bind same same (end_name name) (end_name name) _ _ (end_name_follows name) (λ x x' ex. pure same (turn s false) (turn s false) refl))
    (choose same (is (codes "USE") t) (is (codes "USE") t') _ _ _ _ (is_alike (codes "USE") t t' e)
    (bind same same one_word one_word _ _ one_word_follows (λ x x' ex. pure same (turn (record s { supply = first_counts s.supply (use_named x) }) true)
    (turn (record s { supply = first_counts s.supply (use_named x') }) true)
    (ap (λ (z : List ℕ). turn (record s { supply = first_counts s.supply (use_named z) }) true) ex)))
    (choose same (is (codes "PORT") t) (is (codes "PORT") t') _ _ _ _ (is_alike (codes "PORT") t t' e)
    (bind same same (block port_statement s.reaches) (block port_statement s.reaches) _ _ (port_statements_follow s.reaches)
    (λ x x' ex. pure same (turn (record s { reaches = x }) true) (turn (record s { reaches = x' }) true)
    (ap (λ (z : List Reach). turn (record s { reaches = z }) true) ex)))
    (choose same (is (codes ";") t) (is (codes ";") t') _ _ _ _ (is_alike (codes ";") t t' e) (pure same _ _ refl)
    (bind same same to_semicolon to_semicolon _ _ to_semicolon_follows (λ x x' ex. pure same (turn s true) (turn s true) refl))))))

pub pin_statement_follows : (name : List ℕ) (s : Pin) → Follows same (pin_statement name s) (pin_statement name s)
unfolding pin_statement
pin_statement_follows name s = bind plain same token token _ _ token_follows (λ t t' e. pin_statement_from_follows name s t t' e)

pub pin_statement_goes : (name : List ℕ) → Goes (pin_statement name)
unfolding pin_statement
pin_statement_goes name s s1 l m e = takes_one same _ _ l m (turn s1 true) (λ t. pin_statement_from_follows name s t t refl) e

pub pin_statements_follow : (name : List ℕ) (s : Pin) → Follows same (block (pin_statement name) s) (block (pin_statement name) s)
pin_statements_follow name s = block_follows same (pin_statement name) (alike_states (pin_statement name) (pin_statement_follows name))
    (pin_statement_goes name) s s refl

named_pin : (n n' : List ℕ) → n' ≡ n → Follows same (block (pin_statement n) no_pin) (block (pin_statement n') no_pin)
named_pin n n' e = rw e (pin_statements_follow n no_pin)

pub pin_follows : Follows same pin pin
unfolding pin
pin_follows = bind plain same name name _ _ name_follows (λ n n' e. named_pin n.text n'.text (text_alike n n' e))

-- Macros.

passed_statement_follows : (s : Unit {0}) → Follows same (passed_statement s) (passed_statement s)
unfolding passed_statement
passed_statement_follows s =
    bind plain same token token _ _ token_follows (λ t t' e.
    (choose same (is (codes "END") t) (is (codes "END") t') _ _ _ _ (is_alike (codes "END") t t' e) (pure same _ _ refl)
    (choose same (is (codes ";") t) (is (codes ";") t') _ _ _ _ (is_alike (codes ";") t t' e) (pure same _ _ refl)
    (bind same same to_semicolon to_semicolon _ _ to_semicolon_follows (λ x x' ex. pure same (turn tt true) (turn tt true) refl)))))

pub passed_statement_goes : Goes passed_statement
unfolding passed_statement
passed_statement_goes s s1 l m h =
    takes_first _ l m (turn s1 true) h (λ t.
    (choose same (is (codes "END") t) (is (codes "END") t) _ _ _ _ (refl) (pure same _ _ refl)
    (choose same (is (codes ";") t) (is (codes ";") t) _ _ _ _ (refl) (pure same _ _ refl)
    (bind same same to_semicolon to_semicolon _ _ to_semicolon_follows (λ x x' ex. pure same (turn tt true) (turn tt true) refl)))))

passed_group_follows : Follows same passed_group passed_group
passed_group_follows = block_follows same passed_statement (alike_states passed_statement passed_statement_follows) passed_statement_goes tt tt refl

either_alike : (b b' c c' : Bool) → b' ≡ b → c' ≡ c → (b' || c') ≡ (b || c)
either_alike b b' c c' e f = rw (e, f) refl

passed_from_follows : (t t' : Lexeme) → plain t' ≡ plain t → Follows same (skip_lef_from t) (skip_lef_from t')
unfolding skip_lef_from
passed_from_follows t t' e =
    choose same (is (codes "OBS") t || is (codes "DENSITY") t) (is (codes "OBS") t' || is (codes "DENSITY") t') _ _ _ _
    (either_alike (is (codes "OBS") t) (is (codes "OBS") t') (is (codes "DENSITY") t) (is (codes "DENSITY") t') (is_alike (codes "OBS") t t' e)
    (is_alike (codes "DENSITY") t t' e)) passed_group_follows
    (choose same (is (codes "TIMING") t) (is (codes "TIMING") t') _ _ _ _ (is_alike (codes "TIMING") t t' e) (to_end_follows (codes "TIMING"))
    (choose same (is (codes ";") t) (is (codes ";") t') _ _ _ _ (is_alike (codes ";") t t' e) (pure same _ _ refl)
    to_semicolon_follows))

pub macro_statement_from_follows : (name : List ℕ) (s : MacroParts) (t t' : Lexeme) → plain t' ≡ plain t
    → Follows same (macro_statement_from name s t) (macro_statement_from name s t')
unfolding macro_statement_from
macro_statement_from_follows name s t t' e =
    (choose same (is (codes "END") t) (is (codes "END") t') _ _ _ _ (is_alike (codes "END") t t' e)
    (bind same same (end_name name) (end_name name) _ _ (end_name_follows name) (λ x x' ex. pure same (turn s false) (turn s false) refl))
    (choose same (is (codes "ORIGIN") t) (is (codes "ORIGIN") t') _ _ _ _ (is_alike (codes "ORIGIN") t t' e)
    (bind same same origin origin _ _ origin_follows (λ x x' ex. pure same (turn (record s { origin = first_counts s.origin x }) true)
    (turn (record s { origin = first_counts s.origin x' }) true) (ap (λ (z : Point). turn (record s { origin = first_counts s.origin z }) true) ex)))
    (choose same (is (codes "SIZE") t) (is (codes "SIZE") t') _ _ _ _ (is_alike (codes "SIZE") t t' e)
    (bind same same size size _ _ size_follows (λ x x' ex. pure same (turn (record s { size = first_counts s.size x }) true)
    (turn (record s { size = first_counts s.size x' }) true) (ap (λ (z : Point). turn (record s { size = first_counts s.size z }) true) ex)))
    (choose same (is (codes "SYMMETRY") t) (is (codes "SYMMETRY") t') _ _ _ _ (is_alike (codes "SYMMETRY") t t' e)
    (bind same same symmetry symmetry _ _ symmetry_follows (λ x x' ex. pure same (turn (record s { symmetry = first_counts s.symmetry x }) true)
    (turn (record s { symmetry = first_counts s.symmetry x' }) true)
    (ap (λ (z : Symmetry). turn (record s { symmetry = first_counts s.symmetry z }) true) ex)))
    (choose same (is (codes "PIN") t) (is (codes "PIN") t') _ _ _ _ (is_alike (codes "PIN") t t' e)
    (bind same same pin pin _ _ pin_follows (λ x x' ex. pure same (turn (record s { pins = s.pins ++ x ∷ [] }) true)
    (turn (record s { pins = s.pins ++ x' ∷ [] }) true) (ap (λ (z : Pin). turn (record s { pins = s.pins ++ z ∷ [] }) true) ex)))
    (bind same same (skip_lef_from t) (skip_lef_from t') _ _ (passed_from_follows t t' e) (λ x x' ex. pure same (turn s true) (turn s true) refl)))))))

pub macro_statement_follows : (name : List ℕ) (s : MacroParts) → Follows same (macro_statement name s) (macro_statement name s)
unfolding macro_statement
macro_statement_follows name s = bind plain same token token _ _ token_follows (λ t t' e. macro_statement_from_follows name s t t' e)

pub macro_statement_goes : (name : List ℕ) → Goes (macro_statement name)
unfolding macro_statement
macro_statement_goes name s s1 l m e = takes_one same _ _ l m (turn s1 true) (λ t. macro_statement_from_follows name s t t refl) e

pub macro_statements_follow : (name : List ℕ) (s : MacroParts) → Follows same (block (macro_statement name) s) (block (macro_statement name) s)
macro_statements_follow name s = block_follows same (macro_statement name) (alike_states (macro_statement name) (macro_statement_follows name))
    (macro_statement_goes name) s s refl
