-- A component is at a place if its location is that place.
use Rattle.std.proofs.Common.{◌≡◌, ◌↔◌, ℕ, Bool, true, false, ◌&&◌, List, ℤ, Option, Some, None, Result, Ok, refl, sym, ap, ◌∙◌}
use Rattle.std.specs.Prelude.{bytes_eq, IsTrue, option_map}
use Rattle.std.specs.Ordering.{int_eq}
use Rattle.std.proofs.lemmas.Bool.Decides.{Decides-int_eq}
use Rattle.std.proofs.lemmas.Slice.Eq.{bytes_eq-Decides}
use Rattle.lf_orient.specs.declared.Orient.{Orient}
use Rattle.lf_orient.specs.declared.Orient.TheVariants.{N, W, S, E, FN, FW, FS, FE}
use Rattle.lf_orient.specs.Words.{orient_word}
use Rattle.lf_lex.specs.declared.fault.ReadFault.{ReadFault}
use Rattle.lf_lex.proofs.Back.{token_with}
use Rattle.lf_lex.proofs.Splicing.{and_true}
use Rattle.lf_floorplan.specs.declared.place.Place.{Place}
use Rattle.lf_def.specs.declared.components.Component.{Component}
use Rattle.lf_def.specs.declared.components.Location.{Location}
use Rattle.lf_def.specs.Coordinates.{orient_of}
use Rattle.lf_write.specs.Export.{clause_location, place_location, is_at, is_placed_at, with_place}

read_word : (o : Orient) → orient_of (token_with (orient_word o)) ≡ Ok o
read_word N = refl
read_word W = refl
read_word S = refl
read_word E = refl
read_word FN = refl
read_word FW = refl
read_word FS = refl
read_word FE = refl

ok_same : (a b : Orient) → ◌≡◌ {A = Result Orient ReadFault} (Ok a) (Ok b) → a ≡ b
ok_same a b e = cc

-- The words of two orientations differ.
one_orient : (a b : Orient) → bytes_eq (orient_word a) (orient_word b) ≡ true → a ≡ b
one_orient a b h =
    let e : orient_word a ≡ orient_word b = (bytes_eq-Decides (orient_word a) (orient_word b)).0 h in
    ok_same a b (sym (read_word a) ∙ ap (λ (w : List ℕ). orient_of (token_with w)) e ∙ read_word b)

same_location : (x x' y y' : ℤ) (o o' : Orient) → x ≡ x' → y ≡ y' → o ≡ o'
    → ◌≡◌ {A = Location} (record { x = x; y = y; orient = o }) (record { x = x'; y = y'; orient = o' })
same_location x x' y y' o o' e f g = rw (e, f, g) refl

found_there : (l : Location) (p : Place) → is_at (Some l) (Some p) ≡ true → l ≡ place_location p
found_there l p h =
    let a = and_true (int_eq l.x p.x && int_eq l.y p.y) (bytes_eq (orient_word l.orient) (orient_word p.orient)) h in
    let b = and_true (int_eq l.x p.x) (int_eq l.y p.y) a.0 in
    same_location l.x p.x l.y p.y l.orient p.orient ((Decides-int_eq l.x p.x).0 b.0) ((Decides-int_eq l.y p.y).0 b.1) (one_orient l.orient p.orient a.1)

all_three : (a b c : Bool) → a ≡ true → b ≡ true → c ≡ true → (a && b && c) ≡ true
all_three a b c e f g = rw (e, f, g) refl

is_there : (p : Place) → is_at (Some (place_location p)) (Some p) ≡ true
is_there p =
    all_three (int_eq p.x p.x) (int_eq p.y p.y) (bytes_eq (orient_word p.orient) (orient_word p.orient)) ((Decides-int_eq p.x p.x).1 refl)
    ((Decides-int_eq p.y p.y).1 refl) ((bytes_eq-Decides (orient_word p.orient) (orient_word p.orient)).1 refl)

some_same : (a b : Location) → ◌≡◌ {A = Option Location} (Some a) (Some b) → a ≡ b
some_same a b e = cc

pub is_placed_by : (at : Option Location) (given : Option Place) → (is_at at given ≡ true) ↔ (at ≡ option_map place_location given)
is_placed_by None None = ((λ h. refl), (λ h. refl))
is_placed_by None (Some p) = ((λ h. absurd cc), (λ h. absurd cc))
is_placed_by (Some l) None = ((λ h. absurd cc), (λ h. absurd cc))
is_placed_by (Some l) (Some p) = (
  (λ h. ap (λ (z : Location). Some z) (found_there l p h)),
  (λ h. ap (λ (z : Location). is_at (Some z) (Some p)) (some_same l (place_location p) h) ∙ is_there p),
)

pub is_found_there : (c : Component) (given : Option Place) → IsTrue (is_placed_at c given) ↔ (clause_location c ≡ option_map place_location given)
is_found_there c given = is_placed_by (clause_location c) given

given_by : (c : Component) (given : Option Place) (test : Bool) → is_placed_at c given ≡ test
    → (clause_location (with_place given c) ≡ option_map place_location given) × ((with_place given c).name ≡ c.name) × ((with_place given c).mac ≡ c.mac)
given_by c given true e = rw e ((is_found_there c given).0 e, refl, refl)
given_by c None false e = rw e (refl, refl, refl)
given_by c (Some p) false e = rw e (refl, refl, refl)

pub given_place_is_taken : (c : Component) (given : Option Place)
    → (clause_location (with_place given c) ≡ option_map place_location given) × ((with_place given c).name ≡ c.name) × ((with_place given c).mac ≡ c.mac)
given_place_is_taken c given = given_by c given (is_placed_at c given) refl
