-- What a crash leaves.
use Rattle.std.proofs.Common.{◌≡◌, ◌⊎◌, ℕ, zero, suc, ◌+◌, ◌-◌, ◌<◌, ◌≤◌, true, false, List, [], ◌∷◌, ◌++◌, length, take, drop, slice_index, refl, sym, ◌∙◌, ap, subst, inl, inr, arith, append_assoc, length-append, length-drop, take-append-drop, ext_get_or}
use Rattle.std.proofs.lemmas.Bool.{cases_lt, cases_eq, cases_Bool}
use Rattle.std.proofs.lemmas.List.{take_at, get_or_past, get_or-drop, get_or-take, length-take, length-take-le}
use Rattle.std.proofs.lemmas.List.Prefix.{at_from_reads}
use Rattle.sqlite_disk.specs.Disk.{Holds, Torn, Mixed}
use Rattle.lf_journal_text.specs.Batches.{batch_size, recovered, is_torn, is_intact, IsBatch, EndsWhole, StopsAt}
use Rattle.lf_journal_text.proofs.Reading.{zeroed, same_size, no_header, recovered_none, ends_more, with_more, stops, batch_long}
use Rattle.lf_journal_text.proofs.Torn.{torn_by, mixed_torn, regated, torn_zeros, intact_at, torn_at}
use Rattle.lf_journal.specs.Journals.{StandsFor, IsBeforeOrAfter, IsShut}

pub same_front : (end : ℕ) (old new : List ℕ) → end ≤ length old → end ≤ length new → ((i : ℕ) → i < end → slice_index new i ≡ slice_index old i) → take end new ≡ take end old
same_front end old new long long' h =
    ext_get_or 0 (take end new) (take end old) (length-take-le end new long' ∙ sym (length-take-le end old long))
    (λ i low.
    let below : i < end = omega (arith, length-take-le end new long') in
    get_or-take end new i 0 below ∙ h i below ∙ sym (get_or-take end old i 0 below))

pub torn_front : (end at n : ℕ) (old c : List ℕ) → end ≤ at → end ≤ length old → Torn at n old c → take end c ≡ take end old
torn_front end at n old c low long t = same_front end old c long (omega (arith, t.no_shorter)) (λ i below. t.below i (omega arith) (omega arith))

-- a file with the same text in front, and nothing whole but something torn behind it
pub stands : (end : ℕ) (old c : List ℕ) → StopsAt end old → take end c ≡ take end old → batch_size (drop end c) ≡ 0 → is_torn (drop end c) ≡ true → StandsFor (recovered old) c
stands end old c stop same none torn =
    let long : length (take end c) ≡ end = ap length same ∙ length-take-le end old stop.within in
    let stop' : StopsAt end c = record { within = omega (arith, long, length-take end c); text = subst EndsWhole (sym same) stop.text; none = none } in
    ((stops end c stop').0 ∙ ap recovered same ∙ sym (stops end old stop).0, intact_at end c stop' torn)

-- a zero where the next batch would begin, and zeros far behind it
pub shut_there : (end : ℕ) (old c : List ℕ) → StopsAt end old → take end c ≡ take end old → slice_index c end ≡ 0 → ((i : ℕ) → end + 131072 ≤ i → slice_index c i ≡ 0) → StandsFor (recovered old) c
shut_there end old c stop same gate far =
    let zero_at : slice_index (drop end c) 0 ≡ 0 = get_or-drop end c 0 0 ∙ ap (λ (k : ℕ). slice_index c k) (omega arith) ∙ gate in
    stands end old c stop same (no_header (drop end c) 0 (omega arith) zero_at) (torn_by (drop end c) 0 (omega arith) zero_at (λ k high. get_or-drop end c k 0 ∙ far (end + k) (omega arith)))

longer : (b : ℕ) (bs : List ℕ) → length (b ∷ bs) ≡ 1 + length bs
longer b bs = omega arith

behind_gate : (gate : ℕ) (b : List ℕ) (i : ℕ) → 1 ≤ i → slice_index (gate ∷ drop 1 b) i ≡ slice_index b i
behind_gate gate b zero low = absurd (omega arith)
behind_gate gate b (suc i) low =
    let there : 1 + i ≡ suc i = omega arith in
    get_or-drop 1 b i 0 ∙ ap (λ (k : ℕ). slice_index b k) there

-- a batch behind another open gate
regated_batch : (gate : ℕ) (b : List ℕ) → IsBatch b → 0 < gate → IsBatch (gate ∷ drop 1 b)
regated_batch gate b is some =
    let size : length (gate ∷ drop 1 b) ≡ length b = omega (arith, longer gate (drop 1 b), length-drop 1 b, is.some) in
    record {
      some = omega (arith, size, is.some);
      whole = same_size b (gate ∷ drop 1 b) (omega (arith, is.some, is.whole)) some (λ i l low. behind_gate gate b i l) ∙ is.whole ∙ sym size;
    }

module _ (end : ℕ) (old : List ℕ) (ends : EndsWhole (take end old)) (zeros : (i : ℕ) → end ≤ i → slice_index old i ≡ 0) where
  pub at_rest : end ≤ length old → StopsAt end old
  at_rest within = record { within = within; text = ends; none = no_header (drop end old) 0 (omega arith) (get_or-drop end old 0 0 ∙ zeros (end + 0) (omega arith)) }

  -- zeros behind stay zeros
  pub zero_behind : (at n : ℕ) (c : List ℕ) → end ≤ at → at + n ≤ length old → Torn at n old c → (i : ℕ) → at + n ≤ i → slice_index c i ≡ 0
  zero_behind at n c low room t i past =
      elim (cases_lt i (length old)) [
        | inl within ↦ t.above i within past ∙ zeros i (omega arith)
        | inr high ↦ get_or_past c i 0 (omega (arith, t.no_longer))
      ]

  module _ (b : List ℕ) (is : IsBatch b) (room : end + length b < length old) where
    pub text_after : (s : List ℕ) → Torn end (length b) old s → Holds s end b → take (end + length b) s ≡ take end old ++ b
    text_after s t holds =
        let front : take end s ≡ take end old = torn_front end end (length b) old s (omega arith) (omega arith) t in
        let whole : s ≡ (take end old ++ b) ++ drop (end + length b) s =
        sym (take-append-drop end s)
        ∙ ap (λ (l : List ℕ). l ++ drop end s) front
        ∙ ap (λ (l : List ℕ). take end old ++ l) (at_from_reads 0 s b end holds.within holds.each)
        ∙ sym (append_assoc (take end old) b (drop (end + length b) s)) in
        ap (λ (l : List ℕ). take (end + length b) l) whole
        ∙ take_at (take end old ++ b) (drop (end + length b) s) (end + length b) (omega (arith, length-append (take end old) b, length-take-le end old (omega arith)))

    pub ends_after : (s : List ℕ) → Torn end (length b) old s → Holds s end b → EndsWhole (take (end + length b) s)
    ends_after s t holds = subst EndsWhole (sym (text_after s t holds)) (ends_more (take end old) b ends is)

    pub zeros_after : (s : List ℕ) → Torn end (length b) old s → (i : ℕ) → end + length b ≤ i → slice_index s i ≡ 0
    zeros_after s t = zero_behind end (length b) s (omega arith) (omega arith) t

    pub stands_after : (s : List ℕ) → Torn end (length b) old s → Holds s end b → StandsFor (recovered old ++ drop 1 b ∷ []) s
    stands_after s t holds =
        let next = end + length b in
        let zero_at : slice_index (drop next s) 0 ≡ 0 = get_or-drop next s 0 0 ∙ zeros_after s t (next + 0) (omega arith) in
        let stop : StopsAt next s = record { within = holds.within; text = ends_after s t holds; none = no_header (drop next s) 0 (omega arith) zero_at } in (
          (stops next s stop).0
              ∙ ap recovered (text_after s t holds)
              ∙ with_more (take end old) b ends is
              ∙ ap (λ (l : List (List ℕ)). l ++ drop 1 b ∷ []) (sym (stops end old (at_rest (omega arith))).0),
          intact_at next s stop (torn_by (drop next s) 0 (omega arith) zero_at (λ k far. get_or-drop next s k 0 ∙ zeros_after s t (next + k) (omega arith))),
        )

    -- where each byte is old or new: with the batch or without
    pub mixed_append : (c : List ℕ) → Mixed end b old c → IsBeforeOrAfter (recovered old) b c
    mixed_append c mixed =
        let t = mixed.torn in
        let stop = at_rest (omega arith) in
        let front : take end c ≡ take end old = torn_front end end (length b) old c (omega arith) (omega arith) t in
        let beyond : (i : ℕ) → length b ≤ i → slice_index (drop end c) i ≡ 0 = λ i past. get_or-drop end c i 0 ∙ zeros_after c t (end + i) (omega arith) in
        let each : (i : ℕ) → (slice_index (drop end c) i ≡ 0) ⊎ (slice_index (drop end c) i ≡ slice_index b i) = λ i.
        elim (cases_lt i (length b)) [
          | inl low ↦ elim (mixed.each i low (omega arith)) [
            | inl was ↦ inl (get_or-drop end c i 0 ∙ was ∙ zeros (end + i) (omega arith))
            | inr put ↦ inr (get_or-drop end c i 0 ∙ put)
          ]
          | inr past ↦ inl (beyond i past)
        ] in
        elim (zeroed (drop end c) b each) [
          | inl none ↦ inl (stands end old c stop front none (mixed_torn (drop end c) b is each beyond none))
          | inr w ↦
              let holds : Holds c end b = record {
                within = omega (arith, t.no_shorter);
                each = λ i low. sym (get_or-drop end c i 0) ∙ w.1 i (omega (arith, is.whole));
              } in
              inr (stands_after c t holds)
        ]

    -- all but the gate: the zero in its place is on the disk
    pub staged_crash : (n : ℕ) (c : List ℕ) → n + 1 ≡ length b → Torn (end + 1) n old c → StandsFor (recovered old) c
    staged_crash n c counts t =
        shut_there end old c (at_rest (omega arith)) (torn_front end (end + 1) n old c (omega arith) (omega arith) t)
        (t.below end (omega arith) (omega arith) ∙ zeros end (omega arith))
        (λ i far. zero_behind (end + 1) n c (omega arith) (omega (arith, counts)) t i (omega (arith, counts, (batch_long b is).1)))

    module _ (n : ℕ) (mid : List ℕ) (counts : n + 1 ≡ length b) (t : Torn (end + 1) n old mid) (h : Holds mid (end + 1) (drop 1 b)) where
      pub opened_torn : (c : List ℕ) → Torn end 1 mid c → Torn end (length b) old c
      opened_torn c t' =
          record {
            no_shorter = omega (arith, t.no_shorter, t'.no_shorter);
            no_longer = omega (arith, t.no_longer, t'.no_longer, counts, t.no_shorter);
            below = λ i a low. t'.below i (omega (arith, t.no_shorter)) low ∙ t.below i a (omega arith);
            above = λ i a high. t'.above i (omega (arith, t.no_shorter)) (omega (arith, counts)) ∙ t.above i a (omega (arith, counts));
          }

      opened_each : (c : List ℕ) → Torn end 1 mid c → (gate : ℕ) → slice_index c end ≡ gate → length (drop 1 b) ≡ n → (i : ℕ) → i < 1 + n → slice_index c (end + i) ≡ slice_index (gate ∷ drop 1 b) i
      opened_each c t' gate mark size zero low = let here : end + 0 ≡ end = omega arith in ap (λ (k : ℕ). slice_index c k) here ∙ mark
      opened_each c t' gate mark size (suc i) low =
          let there : end + suc i ≡ end + 1 + i = omega arith in
          t'.above (end + suc i) (omega (arith, t.no_shorter, counts)) (omega arith)
          ∙ ap (λ (k : ℕ). slice_index mid k) there
          ∙ h.each i (omega (arith, size))

      pub opened_holds : (c : List ℕ) → Torn end 1 mid c → (gate : ℕ) → slice_index c end ≡ gate → Holds c end (gate ∷ drop 1 b)
      opened_holds c t' gate mark =
          let size : length (drop 1 b) ≡ n = omega (arith, length-drop 1 b, counts) in
          record {
            within = omega (arith, t.no_shorter, t'.no_shorter, size, counts, longer gate (drop 1 b));
            each = λ i low. opened_each c t' gate mark size i (omega (arith, size, longer gate (drop 1 b)));
          }

-- Whatever lands on the gate: zero keeps it shut, and any other byte opens it.
pub gate_crash : (end : ℕ) (old : List ℕ) (ends : EndsWhole (take end old)) (zeros : (i : ℕ) → end ≤ i → slice_index old i ≡ 0)
    (b : List ℕ) (is : IsBatch b) (room : end + length b < length old) (n : ℕ) (mid : List ℕ) (counts : n + 1 ≡ length b) (t : Torn (end + 1) n old mid)
    (h : Holds mid (end + 1) (drop 1 b)) (c : List ℕ) → Torn end 1 mid c → IsBeforeOrAfter (recovered old) b c
gate_crash end old ends zeros b is room n mid counts t h c t' =
    let torn = opened_torn end old ends zeros b is room n mid counts t h c t' in
    elim (cases_eq (slice_index c end) 0) [
      | inl shut ↦ inl (shut_there end old c (at_rest end old ends zeros (omega arith)) (torn_front end end (length b) old c (omega arith) (omega arith) torn) shut
          (λ i far. zeros_after end old ends zeros b is room c torn i (omega (arith, (batch_long b is).1))))
      | inr other ↦
          let gate = slice_index c end in
          let size : length (gate ∷ drop 1 b) ≡ length b = omega (arith, longer gate (drop 1 b), length-drop 1 b, is.some) in
          let torn' : Torn end (length (gate ∷ drop 1 b)) old c = subst (λ (k : ℕ). Torn end k old c) (sym size) torn in
          inr (stands_after end old ends zeros (gate ∷ drop 1 b) (regated_batch gate b is (omega arith)) (omega (arith, size, room)) c torn'
          (opened_holds end old ends zeros b is room n mid counts t h c t' gate refl))
    ]

-- the gate as it was written
pub gate_written : (end : ℕ) (s b : List ℕ) → 0 < length b → Holds s end (take 1 b) → slice_index s end ≡ slice_index b 0
gate_written end s b some held =
    let one : length (take 1 b) ≡ 1 = length-take-le 1 b some in
    let here : end ≡ end + 0 = omega arith in
    ap (λ (k : ℕ). slice_index s k) here ∙ held.each 0 (omega (arith, one)) ∙ get_or-take 1 b 0 0 (omega arith)

pub gate_and_rest : (b : List ℕ) → 0 < length b → slice_index b 0 ∷ drop 1 b ≡ b
gate_and_rest [] some = absurd (omega arith)
gate_and_rest (x ∷ xs) some = refl

-- zeros ahead: a crash leaves the zero that was there, and anything up to 16 KiB behind the file
pub grown : (end n : ℕ) (old c : List ℕ) → EndsWhole (take end old) → ((i : ℕ) → end ≤ i → slice_index old i ≡ 0) → end < length old
    → length old + n ≤ end + 131072 → Torn (length old) n old c → StandsFor (recovered old) c
grown end n old c ends zeros room near t =
    shut_there end old c (at_rest end old ends zeros (omega arith)) (torn_front end (length old) n old c (omega arith) (omega arith) t)
    (t.below end room room ∙ zeros end (omega arith))
    (λ i far. get_or_past c i 0 (omega (arith, t.no_longer)))

pub grown_zeros : (end : ℕ) (old s block : List ℕ) → ((i : ℕ) → end ≤ i → slice_index old i ≡ 0) → ((i : ℕ) → i < length block → slice_index block i ≡ 0) → Torn (length old) (length block) old s → Holds s (length old) block → (i : ℕ) → end ≤ i → slice_index s i ≡ 0
grown_zeros end old s block zeros none t holds i low =
    elim (cases_lt i (length old)) [
      | inl before ↦ t.below i before before ∙ zeros i low
      | inr after ↦ elim (cases_lt i (length old + length block)) [
        | inl within ↦
            let here : length old + (i - length old) ≡ i = omega arith in
            ap (λ (k : ℕ). slice_index s k) (sym here) ∙ holds.each (i - length old) (omega arith) ∙ none (i - length old) (omega arith)
        | inr past ↦ get_or_past s i 0 (omega (arith, t.no_longer))
      ]
    ]

-- ---- starting again

-- A zero is written where the whole batches end: over an open gate, or behind the file.
module _ (end : ℕ) (file : List ℕ) (stop : StopsAt end file) (torn : is_torn (drop end file) ≡ true) (open' : slice_index file end ≡ 0 → length file ≤ end) where
  far_zeros : (i : ℕ) → end + 131072 ≤ i → slice_index file i ≡ 0
  far_zeros i far =
      let there : end + (i - end) ≡ i = omega arith in
      ap (λ (k : ℕ). slice_index file k) (sym there) ∙ sym (get_or-drop end file (i - end) 0) ∙ torn_zeros (drop end file) torn (i - end) (omega arith)

  pub shut_front : (c : List ℕ) → Torn end 1 file c → take end c ≡ take end file
  shut_front c t = torn_front end end 1 file c (omega arith) stop.within t

  pub shut_crash : (c : List ℕ) → Torn end 1 file c → StandsFor (recovered file) c
  shut_crash c t =
      elim (cases_lt end (length file)) [
        | inr outside ↦
            let behind : (k : ℕ) → 1 ≤ k → slice_index (drop end c) k ≡ 0 = λ k low. get_or-drop end c k 0 ∙ get_or_past c (end + k) 0 (omega (arith, t.no_longer)) in
            stands end file c stop (shut_front c t) (no_header (drop end c) 1 (omega arith) (behind 1 (omega arith))) (torn_by (drop end c) 1 (omega arith) (behind 1 (omega arith)) (λ k far. behind k (omega arith)))
        | inl inside ↦
            let gate : 0 < slice_index (drop end file) 0 = elim (cases_eq (slice_index file end) 0) [
              | inl shut ↦ absurd (omega (arith, open' shut))
              | inr other ↦
                  let here : end + 0 ≡ end = omega arith in
                  omega (arith, get_or-drop end file 0 0, ap (λ (k : ℕ). slice_index file k) here)
            ] in
            let same : (i : ℕ) → 1 ≤ i → slice_index (drop end c) i ≡ slice_index (drop end file) i = λ i low.
            get_or-drop end c i 0 ∙ elim (cases_lt (end + i) (length file)) [
              | inl within ↦ t.above (end + i) within (omega arith)
              | inr past ↦ get_or_past c (end + i) 0 (omega (arith, t.no_longer)) ∙ sym (get_or_past file (end + i) 0 past)
            ] ∙ sym (get_or-drop end file i 0) in
            let after = regated (drop end file) (drop end c) torn stop.none gate same in
            stands end file c stop (shut_front c t) after.0 after.1
      ]

  pub shut_done : (s : List ℕ) → Torn end 1 file s → Holds s end (0 ∷ []) → IsShut end file s
  shut_done s t held =
      let here : end ≡ end + 0 = omega arith in
      record {
        inside = omega (arith, held.within);
        size = omega (arith, held.within, t.no_shorter, t.no_longer, stop.within);
        text = shut_front s t;
        gate = ap (λ (k : ℕ). slice_index s k) here ∙ held.each 0 (omega arith);
        far = λ i far. elim (cases_lt i (length file)) [
          | inl within ↦ t.above i within (omega arith) ∙ far_zeros i far
          | inr past ↦ get_or_past s i 0 (omega (arith, t.no_longer))
        ];
      }

pub shut_already : (end : ℕ) (file : List ℕ) → StopsAt end file → is_torn (drop end file) ≡ true → end < length file → slice_index file end ≡ 0 → IsShut end file file
shut_already end file stop torn inside gate =
    record {
      inside = inside;
      size = omega arith;
      text = refl;
      gate = gate;
      far = λ i far.
          let there : end + (i - end) ≡ i = omega arith in
          ap (λ (k : ℕ). slice_index file k) (sym there) ∙ sym (get_or-drop end file (i - end) 0) ∙ torn_zeros (drop end file) torn (i - end) (omega arith);
    }

-- Zeros are written behind the shut gate.
module _ (end n : ℕ) (old shut : List ℕ) (ends : EndsWhole (take end old)) (is : IsShut end old shut) (fits : end + 1 + n ≤ length shut) where
  pub stop_shut : StopsAt end shut
  stop_shut =
      let here : end + 0 ≡ end = omega arith in
      record {
        within = omega (arith, is.inside);
        text = subst EndsWhole (sym is.text) ends;
        none = no_header (drop end shut) 0 (omega arith) (get_or-drop end shut 0 0 ∙ ap (λ (k : ℕ). slice_index shut k) here ∙ is.gate);
      }

  pub cleared_crash : n ≤ 131071 → (c : List ℕ) → Torn (end + 1) n shut c → StandsFor (recovered shut) c
  cleared_crash few c t =
      shut_there end shut c stop_shut (torn_front end (end + 1) n shut c (omega arith) (omega (arith, is.inside)) t)
      (t.below end is.inside (omega arith) ∙ is.gate)
      (λ i far. elim (cases_lt i (length shut)) [
        | inl within ↦ t.above i within (omega arith) ∙ is.far i far
        | inr past ↦ get_or_past c i 0 (omega (arith, t.no_longer))
      ])

  pub cleared_zeros : (block s : List ℕ) → length block ≡ n → ((i : ℕ) → i < n → slice_index block i ≡ 0) → length shut ≤ end + 1 + n ⊎ (n ≡ 131071)
      → Torn (end + 1) n shut s → Holds s (end + 1) block → (i : ℕ) → end ≤ i → slice_index s i ≡ 0
  cleared_zeros block s size none reach t held i low =
      elim (cases_eq i end) [
        | inl first ↦ ap (λ (k : ℕ). slice_index s k) first ∙ t.below end is.inside (omega arith) ∙ is.gate
        | inr later ↦ elim (cases_lt i (end + 1 + n)) [
          | inl within ↦
              let there : end + 1 + (i - (end + 1)) ≡ i = omega arith in
              ap (λ (k : ℕ). slice_index s k) (sym there) ∙ held.each (i - (end + 1)) (omega (arith, size)) ∙ none (i - (end + 1)) (omega arith)
          | inr past ↦ elim (cases_lt i (length shut)) [
            | inr beyond ↦ get_or_past s i 0 (omega (arith, t.no_longer))
            | inl inside ↦ elim reach [
              | inl all ↦ absurd (omega arith)
              | inr most ↦ t.above i inside past ∙ is.far i (omega arith)
            ]
          ]
        ]
      ]

-- a segment at rest stands for its batches
pub settled_stands : (end : ℕ) (file : List ℕ) → EndsWhole (take end file) → ((i : ℕ) → end ≤ i → slice_index file i ≡ 0) → end < length file → StandsFor (recovered file) file
settled_stands end file ends zeros room =
    shut_there end file file (at_rest end file ends zeros (omega arith)) refl (zeros end (omega arith)) (λ i far. zeros i (omega arith))

pub shut_again : (end : ℕ) (old new : List ℕ) → IsShut end old new → IsShut end new new
shut_again end old new is = record { inside = is.inside; size = omega (arith, is.inside); text = refl; gate = is.gate; far = is.far }

pub shut_same : (end : ℕ) (old new : List ℕ) → StopsAt end old → IsShut end old new → recovered new ≡ recovered old
shut_same end old new stop is =
    (stops end new (stop_shut end 0 old new stop.text is (omega (arith, is.inside)))).0 ∙ ap recovered is.text ∙ sym (stops end old stop).0

-- a shut place as a crash finds it
pub shut_stands : (end : ℕ) (file : List ℕ) → EndsWhole (take end file) → IsShut end file file → StandsFor (recovered file) file
shut_stands end file ends is = shut_there end file file (stop_shut end 0 file file ends is (omega (arith, is.inside))) refl is.gate is.far

-- A segment without a batch.
pub fresh : (end : ℕ) (file : List ℕ) → end ≡ 0 → EndsWhole (take end file) → ((i : ℕ) → end ≤ i → slice_index file i ≡ 0) → end < length file → (recovered file ≡ []) × StandsFor [] file
fresh end file first ends zeros room =
    let none : recovered file ≡ [] = recovered_none file (no_header file 0 (omega arith) (zeros 0 (omega arith))) in
    let stands = settled_stands end file ends zeros room in
    (none, (none, stands.1))

pub damaged_file : (end : ℕ) (file : List ℕ) → StopsAt end file → is_torn (drop end file) ≡ false → is_intact file ≡ false
damaged_file end file stop damaged =
    elim (cases_Bool (is_intact file)) [
      | inl is ↦ absurd (cc (sym damaged ∙ torn_at end file stop is))
      | inr other ↦ other
    ]
