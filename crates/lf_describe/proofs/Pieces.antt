-- A text that is written in chunks through a buffer.
use Rattle.std.proofs.Common.{inl, ◌≡◌, ℕ, zero, suc, ◌+◌, List, [], ◌∷◌, ◌++◌, length, take, drop, Option, Some, Result, Ok, Err, ◌<◌, refl, sym, ◌∙◌, ap, subst, arith, slice_get}
use Rattle.std.specs.Prelude.{flat_map, OnErr, OnOk}
use Rattle.std.specs.Io.KnownBytes.{Appends, Keeps}
use Rattle.std.proofs.lemmas.List.{append_assoc, append-nil, take-append-drop}
use Rattle.std.proofs.KnownBytes.{Appends-nil, Appends-trans, Appends-kept}
use Rattle.lf_floorplan.specs.declared.frame.Frame.{Frame}
use Rattle.lf_rules.specs.declared.report_types.Listed.{Listed}
use Rattle.lf_rules.specs.Legalizer.{Legalizer}
use Rattle.lf_density.specs.Density.{no_density}
use Rattle.lf_describe.specs.Description.{AppendsFirst}
use Rattle.lf_describe.specs.Written.{AppendsFront, WritesFrontOf}

-- Nothing is written, and all bytes wait.
pub nothing : (a : Option (List ℕ)) (text : List ℕ) → WritesFrontOf a a text text
nothing a text = ([], refl, Appends-nil a)

pub unwritten : (a : Option (List ℕ)) (text : List ℕ) → AppendsFront a a text
unwritten a text = (text, nothing a text)

-- Nothing of a description is written.
pub none_first : (l : Legalizer) (f : Frame) (names : List (List ℕ)) (cells : List (Listed (List ℕ))) (a : Option (List ℕ)) → AppendsFirst l f names cells a a
none_first l f names cells a = record { density = no_density; many = 0; measured = inl refl; text = Appends-nil a }

pub written : (a b : Option (List ℕ)) (text rest : List ℕ) → rest ≡ [] → WritesFrontOf a b text rest → Appends a b text
written a b text rest none (front, e, p) =
    subst (Appends a b) (sym (e ∙ ap (λ (r : List ℕ). front ++ r) none ∙ append-nil front)) p

-- One more chunk after a text.
pub after_it : (a b c : Option (List ℕ)) (text v x u : List ℕ) → WritesFrontOf a b text v → WritesFrontOf b c (v ++ x) u → WritesFrontOf a c (text ++ x) u
after_it a b c text v x u (s, e, p) (t, f, q) = (s ++ t, same, Appends-trans a b c s t p q)
  where
    same : text ++ x ≡ (s ++ t) ++ u
    same = ap (λ (y : List ℕ). y ++ x) e ∙ append_assoc s v x ∙ ap (λ (y : List ℕ). s ++ y) f ∙ sym (append_assoc s t u)

-- A front of a text is a front of the longer text.
pub goes_on : (a b : Option (List ℕ)) (text more : List ℕ) → AppendsFront a b text → AppendsFront a b (text ++ more)
goes_on a b text more (rest, (front, e, p)) =
    (rest ++ more, (front, ap (λ (y : List ℕ). y ++ more) e ∙ append_assoc front rest more, p))

-- A chunk after a text was cut short.
pub cut_after : (a b c : Option (List ℕ)) (text v x : List ℕ) → WritesFrontOf a b text v → AppendsFront b c (v ++ x) → AppendsFront a c (text ++ x)
cut_after a b c text v x left (u, right) = (u, after_it a b c text v x u left right)

-- Nothing more is written.
pub kept : (a b c : Option (List ℕ)) (text v : List ℕ) → WritesFrontOf a b text v → Keeps b c → WritesFrontOf a c text v
kept a b c text v (s, e, p) keeps = (s, e, Appends-kept a b c s p keeps)

-- The waiting bytes are written.
pub whole : (a b c : Option (List ℕ)) (text v : List ℕ) → WritesFrontOf a b text v → Appends b c v → Appends a c text
whole a b c text v (s, e, p) q = subst (Appends a c) (sym e) (Appends-trans a b c s v p q)

-- The waiting bytes are cut short.
pub cut_last : (a b c : Option (List ℕ)) (text v : List ℕ) → WritesFrontOf a b text v → AppendsFront b c v → AppendsFront a c text
cut_last a b c text v (s, e, p) (rest, (front, f, q)) =
    (rest, (s ++ front, e ∙ ap (λ (y : List ℕ). s ++ y) f ∙ sym (append_assoc s front rest), Appends-trans a b c s front p q))

-- ---- results

pub on_err : {T E P : Type 0} (r : Result T E) → P → OnErr r P
on_err (Ok x) p = tt
on_err (Err e) p = p

pub on_err_weaker : {T E P Q : Type 0} (r : Result T E) → (P → Q) → OnErr r P → OnErr r Q
on_err_weaker (Ok x) f p = tt
on_err_weaker (Err e) f p = f p

pub on_ok_weaker : {T E P Q : Type 0} (r : Result T E) → (P → Q) → OnOk r P → OnOk r Q
on_ok_weaker (Ok x) f p = f p
on_ok_weaker (Err e) f p = tt

pub some_same : {X : Type 0} (x y : X) → Some x ≡ Some y → x ≡ y
some_same x y e = cc

pub there_is : {X : Type 0} (xs : List X) (k : ℕ) → k < length xs → (x : X) × (slice_get xs k ≡ Some x)
there_is [] k less = absurd (omega (arith, less))
there_is (x ∷ xs) zero less = (x, refl)
there_is (x ∷ xs) (suc k) less = there_is xs k (omega (arith, less))

-- A front of the waiting bytes is written.
pub taken : (a b c : Option (List ℕ)) (text rest : List ℕ) (n : ℕ) → WritesFrontOf a b text rest → Appends b c (take n rest) → WritesFrontOf a c text (drop n rest)
taken a b c text rest n (s, e, p) q =
    (s ++ take n rest, e ∙ ap (λ (y : List ℕ). s ++ y) (sym (take-append-drop n rest)) ∙ sym (append_assoc s (take n rest) (drop n rest)), Appends-trans a b c s (take n rest) p q)

-- The front as the first bytes.
pub first_bytes : (a b : Option (List ℕ)) (text : List ℕ) → AppendsFront a b text → (n : ℕ) × Appends a b (take n text)
first_bytes a b text (rest, (front, e, p)) =
    (length front, subst (Appends a b) (sym (ap (take (length front)) e ∙ front_of front rest)) p)
  where
    front_of : (x y : List ℕ) → take (length x) (x ++ y) ≡ x
    front_of [] y = refl
    front_of (b ∷ x) y = ap (λ (l : List ℕ). b ∷ l) (front_of x y)

-- ---- chunks by their numbers

one_more : {X : Type 0} (g : X → List ℕ) (xs : List X) (i : ℕ) (x : X) → slice_get xs i ≡ Some x → flat_map g (take (suc i) xs) ≡ flat_map g (take i xs) ++ g x
one_more g [] i x at = absurd cc
one_more g (y ∷ ys) zero x at = let same : y ≡ x = cc in append-nil (g y) ∙ ap g same
one_more g (y ∷ ys) (suc i) x at = ap (λ (l : List ℕ). g y ++ l) (one_more g ys i x at) ∙ sym (append_assoc (g y) (flat_map g (take i ys)) (g x))

cut_at : {X : Type 0} (g : X → List ℕ) (xs : List X) (i : ℕ) → flat_map g xs ≡ flat_map g (take i xs) ++ flat_map g (drop i xs)
cut_at g xs zero = refl
cut_at g [] (suc i) = refl
cut_at g (y ∷ ys) (suc i) = ap (λ (l : List ℕ). g y ++ l) (cut_at g ys i) ∙ sym (append_assoc (g y) (flat_map g (take i ys)) (flat_map g (drop i ys)))

-- Before the first chunk.
pub before_first : {X : Type 0} (g : X → List ℕ) (xs : List X) (a : Option (List ℕ)) (w : List ℕ) → WritesFrontOf a a (w ++ flat_map g (take 0 xs)) w
before_first g xs a w = subst (λ (t : List ℕ). WritesFrontOf a a t w) (sym (append-nil w)) (nothing a w)

-- After the chunk of this number.
pub after_piece : {X : Type 0} (g : X → List ℕ) (xs : List X) (i : ℕ) (x : X) (a b c : Option (List ℕ)) (w v u : List ℕ) → slice_get xs i ≡ Some x →
    WritesFrontOf a b (w ++ flat_map g (take i xs)) v → WritesFrontOf b c (v ++ g x) u → WritesFrontOf a c (w ++ flat_map g (take (i + 1) xs)) u
after_piece g xs i x a b c w v u at left right =
    let next : suc i ≡ i + 1 = omega arith in
    let same : (w ++ flat_map g (take i xs)) ++ g x ≡ w ++ flat_map g (take (i + 1) xs) =
    append_assoc w (flat_map g (take i xs)) (g x) ∙ ap (λ (l : List ℕ). w ++ l) (sym (one_more g xs i x at)) ∙ ap (λ (n : ℕ). w ++ flat_map g (take n xs)) next in
    subst (λ (t : List ℕ). WritesFrontOf a c t u) same (after_it a b c (w ++ flat_map g (take i xs)) v (g x) u left right)

-- The chunk of this number was cut short.
pub cut_piece : {X : Type 0} (g : X → List ℕ) (xs : List X) (i : ℕ) (x : X) (a b c : Option (List ℕ)) (w v : List ℕ) → slice_get xs i ≡ Some x →
    WritesFrontOf a b (w ++ flat_map g (take i xs)) v → AppendsFront b c (v ++ g x) → AppendsFront a c (w ++ flat_map g xs)
cut_piece g xs i x a b c w v at left right =
    let same : ((w ++ flat_map g (take i xs)) ++ g x) ++ flat_map g (drop (suc i) xs) ≡ w ++ flat_map g xs =
    ap (λ (l : List ℕ). l ++ flat_map g (drop (suc i) xs)) (append_assoc w (flat_map g (take i xs)) (g x) ∙ ap (λ (l : List ℕ). w ++ l) (sym (one_more g xs i x at)))
    ∙ append_assoc w (flat_map g (take (suc i) xs)) (flat_map g (drop (suc i) xs)) ∙ ap (λ (l : List ℕ). w ++ l) (sym (cut_at g xs (suc i))) in
    subst (AppendsFront a c) same
    (goes_on a c ((w ++ flat_map g (take i xs)) ++ g x) (flat_map g (drop (suc i) xs)) (cut_after a b c (w ++ flat_map g (take i xs)) v (g x) left right))
