-- The exported text, change by change.
use Rattle.std.proofs.Common.{◌≡◌, ℕ, ◌+◌, ◌-◌, ◌<◌, ◌≤◌, Bool, true, false, List, [], ◌∷◌, ◌++◌, length, get_or, take, drop, Option, Some, None}
use Rattle.std.proofs.Common.{refl, sym, ap, subst, ◌∙◌, arith}
use Rattle.std.specs.Prelude.{slice_get, All, IfSome, ◌==◌}
use Rattle.std.specs.Io.KnownBytes.{Appends}
use Rattle.std.specs.List.{cons_option}
use Rattle.std.specs.Option.{option_and_then}
use Rattle.std.proofs.KnownBytes.{Appends-nil, Appends-trans}
use Rattle.std.proofs.lemmas.List.{append_assoc, drop-drop, drop_all, drop_more}
use Rattle.std.proofs.lemmas.Option.{get_or_from_slice_get, slice_get_read, slice_get_within}
use Rattle.std.proofs.lemmas.List.Elements.{All-head, All-tail}
use Rattle.std.proofs.lemmas.Bool.Decides.{nat_tests}
use Rattle.lf_lex.specs.Splices.{Splice, spliced, Rising}
use Rattle.lf_floorplan.specs.declared.place.Place.{Place}
use Rattle.lf_def.specs.declared.components.Component.{Component}
use Rattle.lf_write.specs.Export.{ClauseFacts, change, changes, exported, is_unchanged, renewal, renewal_at, renewals, renewed, splice_at, is_placed_at}
use Rattle.lf_write.specs.Laws.{FitsText}
use Rattle.lf_write.proofs.Positions.{Given}

-- What is written of the text up to an offset, and the effect of the remaining changes on the rest.
pub record Written (text : List ℕ) (ks : List ClauseFacts) (places : Given) (i at : ℕ) (before now : Option (List ℕ)) : Type 0 where
  pub front : List ℕ
  pub rising : Rising at (length text) (renewals ks (drop i places))
  pub whole : front ++ spliced at (renewals ks (drop i places)) (drop at text) ≡ renewed text ks places
  pub written : Appends before now front

pub written_first : (text : List ℕ) (ks : List ClauseFacts) (places : Given) (before : Option (List ℕ)) → Rising 0 (length text) (renewals ks places)
    → Written text ks places 0 0 before before
written_first text ks places before r = record { front = []; rising = r; whole = refl; written = Appends-nil before }

-- The next listed place, and its clause.
pub record Listed (ks : List ClauseFacts) (places : Given) (i : ℕ) (g : ℕ × Option Place) (k : ClauseFacts) : Type 0 where
  pub left : i < length places
  pub there : slice_get places i ≡ Some g
  pub within : g.0 < length ks
  pub clause : k ≡ get_or ks g.0 k

position_within : (ks : List ClauseFacts) (places : Given) (i : ℕ) (g : ℕ × Option Place) → All (λ g. g.0 < length ks) places
    → slice_get places i ≡ Some g → g.0 < length ks
position_within ks places i g all there =
    subst (λ (x : ℕ × Option Place). x.0 < length ks) (get_or_from_slice_get places i g g there) (all i g (slice_get_within places i g there))

pub listed_next : {ks : List ClauseFacts} {places : Given} {i : ℕ} {g : ℕ × Option Place} {k : ClauseFacts} → All (λ g. g.0 < length ks) places
    → slice_get places i ≡ Some g → k ≡ get_or ks g.0 k → Listed ks places i g k
listed_next {ks = ks} {places = places} {i = i} {g = g} all there clause =
    record { left = slice_get_within places i g there; there = there; within = position_within ks places i g all there; clause = clause }

-- The first of the remaining changes.
first_left : (ks : List ClauseFacts) (places : Given) (i : ℕ) (g : ℕ × Option Place) (k : ClauseFacts) → Listed ks places i g k
    → renewals ks (drop i places) ≡ cons_option (renewal k g.1) (renewals ks (drop (i + 1) places))
first_left ks places i g k is =
    ap (λ (z : Given). renewals ks z) (drop_more places i g is.left)
    ∙ ap (λ (z : ℕ × Option Place). cons_option (renewal_at ks z) (renewals ks (drop (i + 1) places))) (get_or_from_slice_get places i g g is.there)
    ∙ ap (λ (z : Option ClauseFacts). cons_option (option_and_then (λ d. renewal d g.1) z) (renewals ks (drop (i + 1) places)))
    (slice_get_read ks (length ks) g.0 k refl is.within is.clause)

unchanged_renewal : (k : ClauseFacts) (given : Option Place) (ss : List Splice) → is_unchanged k given ≡ true → cons_option (renewal k given) ss ≡ ss
unchanged_renewal k given ss e = rw e refl

moving : (k : ClauseFacts) (given : Option Place) (ss : List Splice) → is_unchanged k given ≡ false → cons_option (renewal k given) ss ≡ splice_at k given ∷ ss
moving k given ss e = rw e refl

pub written_unchanged : {text : List ℕ} {ks : List ClauseFacts} {places : Given} {i at : ℕ} {before now : Option (List ℕ)} {g : ℕ × Option Place} {k : ClauseFacts}
    → Listed ks places i g k → is_unchanged k g.1 ≡ true → Written text ks places i at before now → Written text ks places (i + 1) at before now
written_unchanged {ks = ks} {places = places} {i = i} {g = g} {k = k} is is_in_place w =
    let e = first_left ks places i g k is ∙ unchanged_renewal k g.1 (renewals ks (drop (i + 1) places)) is_in_place in
    record { front = w.front; rising = rw e at w.rising; whole = rw e at w.whole; written = w.written }

rising_within : (at len : ℕ) (ss : List Splice) → Rising at len ss → at ≤ len
rising_within at len [] h = h
rising_within at len (s ∷ ss) h = omega (arith, h.0, h.1, rising_within s.stop len ss h.2)

-- The remaining changes begin with the change of this component.
pub ready : {text : List ℕ} {ks : List ClauseFacts} {places : Given} {i at : ℕ} {before now : Option (List ℕ)} {g : ℕ × Option Place} {k : ClauseFacts}
    → Listed ks places i g k → is_unchanged k g.1 ≡ false → Written text ks places i at before now → (at ≤ k.start) × (k.start ≤ length text)
ready {text = text} {ks = ks} {places = places} {i = i} {g = g} {k = k} is moves w =
    let e = first_left ks places i g k is ∙ moving k g.1 (renewals ks (drop (i + 1) places)) moves in
    let r = rw e at w.rising in
    (r.0, omega (arith, r.1, rising_within k.stop (length text) (renewals ks (drop (i + 1) places)) r.2))

one_made : (text : List ℕ) (at : ℕ) (out : List ℕ) (s : Splice) (ss : List Splice) → at ≤ s.start → s.start ≤ s.stop
    → (out ++ (take (s.start - at) (drop at text) ++ s.new)) ++ spliced s.stop ss (drop s.stop text) ≡ out ++ spliced at (s ∷ ss) (drop at text)
unfolding spliced
one_made text at out s ss le le' =
    let after_it : drop (s.stop - at) (drop at text) ≡ drop s.stop text =
    let sum : at + (s.stop - at) ≡ s.stop = omega (arith, le, le') in drop-drop (s.stop - at) at text ∙ ap (λ (n : ℕ). drop n text) sum in
    append_assoc out (take (s.start - at) (drop at text) ++ s.new) (spliced s.stop ss (drop s.stop text))
    ∙ ap (λ (z : List ℕ). out ++ z) (append_assoc (take (s.start - at) (drop at text)) s.new (spliced s.stop ss (drop s.stop text)))
    ∙ ap (λ (z : List ℕ). out ++ (take (s.start - at) (drop at text) ++ (s.new ++ spliced s.stop ss z))) (sym after_it)

pub written_change : {text : List ℕ} {ks : List ClauseFacts} {places : Given} {i at stop : ℕ} {before now after : Option (List ℕ)} {g : ℕ × Option Place}
    {k : ClauseFacts}
    → Listed ks places i g k → is_unchanged k g.1 ≡ false → Written text ks places i at before now
    → Appends now after (take (k.start - at) (drop at text) ++ (splice_at k g.1).new) → stop ≡ k.stop → Written text ks places (i + 1) stop before after
written_change {text = text} {ks = ks} {places = places} {i = i} {at = at} {before = before} {now = now} {after = after} {g = g} {k = k} is moves w bytes stop_is =
    let e = first_left ks places i g k is ∙ moving k g.1 (renewals ks (drop (i + 1) places)) moves in
    let r = rw e at w.rising in
    let made = one_made text at w.front (splice_at k g.1) (renewals ks (drop (i + 1) places)) r.0 r.1 in
    rw stop_is (record {
      front = w.front ++ (take (k.start - at) (drop at text) ++ (splice_at k g.1).new);
      rising = r.2;
      whole = made ∙ rw e at w.whole;
      written = Appends-trans before now after w.front (take (k.start - at) (drop at text) ++ (splice_at k g.1).new) w.written bytes;
    })

pub rest_within : {text : List ℕ} {ks : List ClauseFacts} {places : Given} {i at : ℕ} {before now : Option (List ℕ)}
    → length places ≤ i → Written text ks places i at before now → at ≤ length text
rest_within {text = text} {ks = ks} {places = places} {i = i} {at = at} past w =
    rising_within at (length text) (renewals ks (drop i places)) w.rising

pub written_last : {text : List ℕ} {ks : List ClauseFacts} {places : Given} {i at : ℕ} {before now : Option (List ℕ)} (after : Option (List ℕ))
    → length places ≤ i → Written text ks places i at before now → Appends now after (drop at text) → Appends before after (renewed text ks places)
unfolding spliced
written_last {text = text} {ks = ks} {places = places} {i = i} {at = at} {before = before} {now = now} after past w bytes =
    let none : drop i places ≡ [] = drop_all i places past in
    let whole : w.front ++ drop at text ≡ renewed text ks places = rw none at w.whole in
    subst (Appends before after) whole (Appends-trans before now after w.front (drop at text) w.written bytes)

stays : (o : Option Component) (given : Option Place) → IfSome o (λ c. is_placed_at c given ≡ true) → option_and_then (λ c. change c given) o ≡ None
stays None given h = refl
stays (Some c) given h = rw h refl

no_changes : (cs : List Component) (places : Given) → All (λ g. IfSome (slice_get cs g.0) (λ c. is_placed_at c g.1 ≡ true)) places → changes cs places ≡ []
no_changes cs [] h = refl
no_changes cs (g ∷ places) h =
    ap (λ (o : Option Splice). cons_option o (changes cs places))
    (stays (slice_get cs g.0) g.1 (All-head (λ (g : ℕ × Option Place). IfSome (slice_get cs g.0) (λ c. is_placed_at c g.1 ≡ true)) g places h))
    ∙ no_changes cs places (All-tail (λ (g : ℕ × Option Place). IfSome (slice_get cs g.0) (λ c. is_placed_at c g.1 ≡ true)) g places h)

-- If all components are at their places already, nothing is written again.
pub nothing_written : (text : List ℕ) (cs : List Component) (places : Given) → All (λ g. IfSome (slice_get cs g.0) (λ c. is_placed_at c g.1 ≡ true)) places
    → exported text cs places ≡ text
unfolding spliced
nothing_written text cs places h = ap (λ (ss : List Splice). spliced 0 ss text) (no_changes cs places h)

-- Holds if a text can hold the coordinates of the places so far.
pub record Looked (places : Given) (i : ℕ) : Type 0 where
  pub fit : (k : ℕ) (d : ℕ × Option Place) → k < i → k < length places → FitsText (get_or places k d).1

pub none_looked : (places : Given) → Looked places 0
none_looked places = record { fit = λ k d lt within. absurd (omega (arith, lt)) }

pub one_looked : {places : Given} {i : ℕ} {g : ℕ × Option Place} → slice_get places i ≡ Some g → FitsText g.1 → Looked places i → Looked places (i + 1)
one_looked {places = places} {i = i} {g = g} there fits l = record { fit = λ k d h within. by_place k d h within (k == i) refl }
  where
    same_place : (k : ℕ) (d : ℕ × Option Place) → k ≡ i → FitsText (get_or places k d).1
    same_place k d e =
        let f : get_or places k d ≡ g = ap (λ (n : ℕ). get_or places n d) e ∙ get_or_from_slice_get places i g d there in
        rw f fits

    by_place : (k : ℕ) (d : ℕ × Option Place) → k < i + 1 → k < length places → (test : Bool) → (k == i) ≡ test → FitsText (get_or places k d).1
    by_place k d h within true t = let e : k ≡ i = grind (arith, nat_tests, t) in same_place k d e
    by_place k d h within false t = let lower : k < i = grind (arith, nat_tests, t, h) in l.fit k d lower within

pub all_looked : {places : Given} {i : ℕ} → length places ≤ i → Looked places i → All (λ g. FitsText g.1) places
all_looked past l k d lt = l.fit k d (omega (arith, past, lt)) lt
