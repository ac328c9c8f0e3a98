-- Splices that replace bytes by the same bytes may be left out.
use Rattle.std.proofs.Common.{◌≡◌, ℕ, ◌+◌, ◌-◌, ◌≤◌, ◌⊎◌, inl, inr, List, [], ◌∷◌, ◌++◌, length, take, drop, Option, Some, None, refl, sym, ap, ◌∙◌, arith}
use Rattle.std.specs.Prelude.{filter_map}
use Rattle.std.specs.List.{cons_option}
use Rattle.std.proofs.lemmas.List.{append_assoc, drop-drop, drop-take, take-append-drop, take-take}
use Rattle.lf_lex.specs.Splices.{Splice, spliced, Rising}
use Rattle.lf_floorplan.specs.declared.place.Place.{Place}
use Rattle.lf_write.proofs.Spans.{earlier}

-- Holds if the splice replaces bytes by the same bytes.
abbrev pub IsIdle : List ℕ → Splice → Type 0
IsIdle text s = s.new ≡ take (s.stop - s.start) (drop s.start text)

-- Holds if the splices are the same, or one is idle and the other `None`.
abbrev pub Agree : List ℕ → Option Splice → Option Splice → Type 0
Agree text None o = o ≡ None
Agree text (Some s) o = (o ≡ Some s) ⊎ ((o ≡ None) × IsIdle text s)

pub agree_same : (text : List ℕ) (o : Option Splice) → Agree text o o
agree_same text None = refl
agree_same text (Some s) = inl refl

drop_on : (at m : ℕ) (text : List ℕ) → at ≤ m → drop (m - at) (drop at text) ≡ drop m text
drop_on at m text le = let sum : at + (m - at) ≡ m = omega (arith, le) in drop-drop (m - at) at text ∙ ap (λ (n : ℕ). drop n text) sum

take_twice : (a b : ℕ) (bytes : List ℕ) → take (a + b) bytes ≡ take a bytes ++ take b (drop a bytes)
take_twice a b bytes =
    sym (take-append-drop a (take (a + b) bytes))
    ∙ ap (λ (z : List ℕ). z ++ drop a (take (a + b) bytes)) (take-take a (a + b) bytes (omega arith))
    ∙ ap (λ (z : List ℕ). take a bytes ++ z) (drop-take a b bytes)

take_on : (at m n : ℕ) (text : List ℕ) → at ≤ m → m ≤ n → take (n - at) (drop at text) ≡ take (m - at) (drop at text) ++ take (n - m) (drop m text)
take_on at m n text le le' =
    let sum : n - at ≡ (m - at) + (n - m) = omega (arith, le, le') in
    ap (λ (k : ℕ). take k (drop at text)) sum ∙ take_twice (m - at) (n - m) (drop at text)
    ∙ ap (λ (z : List ℕ). take (m - at) (drop at text) ++ take (n - m) z) (drop_on at m text le)

-- The bytes in front of the first splice are unchanged.
unspliced : (text : List ℕ) (at m : ℕ) (ss : List Splice) → at ≤ m → Rising m (length text) ss
    → spliced at ss (drop at text) ≡ take (m - at) (drop at text) ++ spliced m ss (drop m text)
unfolding spliced
unspliced text at m [] le h =
    sym (take-append-drop (m - at) (drop at text)) ∙ ap (λ (z : List ℕ). take (m - at) (drop at text) ++ z) (drop_on at m text le)
unspliced text at m (s ∷ ss) le h =
    let tail = s.new ++ spliced s.stop ss (drop s.stop text) in
    ap (λ (z : List ℕ). take (s.start - at) (drop at text) ++ (s.new ++ spliced s.stop ss z)) (drop_on at s.stop text (omega (arith, le, h.0, h.1)))
    ∙ ap (λ (z : List ℕ). z ++ tail) (take_on at m s.start text le h.0)
    ∙ append_assoc (take (m - at) (drop at text)) (take (s.start - m) (drop m text)) tail
    ∙ ap (λ (z : List ℕ). take (m - at) (drop at text) ++ (take (s.start - m) (drop m text) ++ (s.new ++ spliced s.stop ss z)))
    (sym (drop_on m s.stop text (omega (arith, h.0, h.1))))

-- Splices that rise from an offset on, and the same ones without some idle ones.
abbrev Same : List ℕ → ℕ → List Splice → List Splice → Type 0
Same text at ss ss' = Rising at (length text) ss' × (spliced at ss (drop at text) ≡ spliced at ss' (drop at text))

both : (text : List ℕ) (at : ℕ) (s : Splice) (ss ss' : List Splice) → at ≤ s.start → s.start ≤ s.stop → Same text s.stop ss ss'
    → Same text at (s ∷ ss) (s ∷ ss')
unfolding spliced
both text at s ss ss' le le' next =
    let there = drop_on at s.stop text (omega (arith, le, le')) in (
      (le, le', next.0),
      ap (λ (z : List ℕ). take (s.start - at) (drop at text) ++ (s.new ++ spliced s.stop ss z)) there
          ∙ ap (λ (z : List ℕ). take (s.start - at) (drop at text) ++ (s.new ++ z)) next.1
          ∙ ap (λ (z : List ℕ). take (s.start - at) (drop at text) ++ (s.new ++ spliced s.stop ss' z)) (sym there),
    )

without : (text : List ℕ) (at : ℕ) (s : Splice) (ss ss' : List Splice) → IsIdle text s → at ≤ s.start → s.start ≤ s.stop → Same text s.stop ss ss'
    → Same text at (s ∷ ss) ss'
unfolding spliced
without text at s ss ss' idle le le' next =
    let there = drop_on at s.stop text (omega (arith, le, le')) in
    let rise = earlier s.stop s.start (length text) ss' le' next.0 in (
      earlier s.stop at (length text) ss' (omega (arith, le, le')) next.0,
      ap (λ (z : List ℕ). take (s.start - at) (drop at text) ++ (s.new ++ spliced s.stop ss z)) there
          ∙ ap (λ (z : List ℕ). take (s.start - at) (drop at text) ++ (s.new ++ z)) next.1
          ∙ ap (λ (z : List ℕ). take (s.start - at) (drop at text) ++ (z ++ spliced s.stop ss' (drop s.stop text))) idle
          ∙ ap (λ (z : List ℕ). take (s.start - at) (drop at text) ++ z) (sym (unspliced text s.start s.stop ss' le' next.0))
          ∙ sym (unspliced text at s.start ss' le rise),
    )

-- A splice, or `None`, in front of those that rise.
one_step : (text : List ℕ) (o o' : Option Splice) (ss ss' : List Splice) (at : ℕ) → Agree text o o' → Rising at (length text) (cons_option o ss)
    → ((from : ℕ) → Rising from (length text) ss → Same text from ss ss') → Same text at (cons_option o ss) (cons_option o' ss')
one_step text None o' ss ss' at agree h next = rw agree (next at h)
one_step text (Some s) o' ss ss' at (inl is) h next = rw is (both text at s ss ss' h.0 h.1 (next s.stop h.2))
one_step text (Some s) o' ss ss' at (inr idle) h next = rw idle.0 (without text at s ss ss' idle.1 h.0 h.1 (next s.stop h.2))

abbrev pub Found : Type 0
Found = ℕ × Option Place → Option Splice

same_from : (text : List ℕ) (f f' : Found) → ((g : ℕ × Option Place) → Agree text (f g) (f' g)) → (places : List (ℕ × Option Place)) (at : ℕ)
    → Rising at (length text) (filter_map f places) → Same text at (filter_map f places) (filter_map f' places)
same_from text f f' agree [] at h = (h, refl)
same_from text f f' agree (g ∷ places) at h =
    one_step text (f g) (f' g) (filter_map f places) (filter_map f' places) at (agree g) h (λ from r. same_from text f f' agree places from r)

-- Rising splices have the same effect on the text as those without the idle ones.
pub same_spliced : (text : List ℕ) (f f' : Found) (places : List (ℕ × Option Place)) → ((g : ℕ × Option Place) → Agree text (f g) (f' g))
    → Rising 0 (length text) (filter_map f places) → spliced 0 (filter_map f places) text ≡ spliced 0 (filter_map f' places) text
same_spliced text f f' places agree h = (same_from text f f' agree places 0 h).1
