-- Reading a segment batch by batch.
use Rattle.std.proofs.Common.{◌≡◌, ◌≢◌, ◌⊎◌, ℕ, zero, suc, ◌+◌, ◌-◌, ◌<◌, ◌≤◌, Bool, true, false, not, ◌&&◌, List, [], ◌∷◌, ◌++◌, length, take, drop, map, get_or, Option, Some, None, Result, Ok, Err, refl, sym, ◌∙◌, ap, inl, inr, arith, append_assoc, length-drop}
use Rattle.std.proofs.lemmas.List.{append-nil, drop-drop, drop-take, length-take-le}
use Rattle.std.proofs.lemmas.Bool.{cases_eq, cases_Bool, cond-true, cond-false, eq-eqb, ne_eqb, and_from}
use Rattle.lf_journal_text.specs.Batches.{batch_size, recovered, whole_end, is_torn, is_intact, damage_kind}
use Rattle.lf_journal_text.specs.Records.{Log, ended_at, in_front, is_beginning, log_in, logged_at, logs_from, ReadsPrefix, segment_at, segment_of}
use Rattle.lf_journal_text.specs.declared.damage.Damage.{Damage}
use Rattle.lf_journal_text.specs.declared.records.Record.{Record}
use Rattle.lf_journal_text.specs.Views.{entry_of}
use Rattle.lf_journal_text.specs.Records.{title}
use Rattle.std.specs.Str.{bytes_eq}
use Rattle.lf_journal_text.specs.declared.damage.DamageKind.TheVariants.{BadRecord, OtherVersion}
use Rattle.lf_journal_text.proofs.Reading.{announced_small, sized, size_within, recovered_none, end_none, one_more}
use Rattle.lf_journal_text.proofs.Torn.{prefix_read}

pub segment_stop : (n at : ℕ) (xs : List ℕ) → batch_size xs ≡ 0 → segment_at n at xs ≡ ended_at at xs
unfolding segment_at
segment_stop zero at xs none = refl
segment_stop (suc n) at xs none = cond-true _ _ _ (eq-eqb _ _ none)

pub segment_step : (n at : ℕ) (xs : List ℕ) → batch_size xs ≢ 0 → segment_at (suc n) at xs ≡ logged_at at (log_in (drop 1 (take (batch_size xs) xs))) (segment_at n (at + batch_size xs) (drop (batch_size xs) xs))
unfolding segment_at
segment_step n at xs some = cond-false _ _ _ (ne_eqb _ _ some)

pub segment_enough : (n k at : ℕ) (xs : List ℕ) → length xs ≤ n → length xs ≤ k → segment_at n at xs ≡ segment_at k at xs
segment_enough zero k at xs few few' =
    let none : batch_size xs ≡ 0 = omega (arith, size_within xs) in
    segment_stop zero at xs none ∙ sym (segment_stop k at xs none)
segment_enough (suc n) zero at xs few few' =
    let none : batch_size xs ≡ 0 = omega (arith, size_within xs) in
    segment_stop (suc n) at xs none ∙ sym (segment_stop zero at xs none)
segment_enough (suc n) (suc k) at xs few few' =
    elim (cases_eq (batch_size xs) 0) [
      | inl none ↦ segment_stop (suc n) at xs none ∙ sym (segment_stop (suc k) at xs none)
      | inr some ↦
          let rest = segment_enough n k (at + batch_size xs) (drop (batch_size xs) xs) (omega (arith, length-drop (batch_size xs) xs)) (omega (arith, length-drop (batch_size xs) xs)) in
          segment_step n at xs some ∙ ap (λ r. logged_at at (log_in (drop 1 (take (batch_size xs) xs))) r) rest ∙ sym (segment_step k at xs some)
    ]

-- The segment from byte `at` on.
unfoldable pub segment_from : ℕ → List ℕ → Result (List Log) Damage
segment_from at xs = segment_at (length xs) at xs

pub from_stop : (at : ℕ) (xs : List ℕ) → batch_size xs ≡ 0 → segment_from at xs ≡ ended_at at xs
unfolding segment_from
from_stop at xs none = segment_stop (length xs) at xs none

pub from_step : (at : ℕ) (xs : List ℕ) → batch_size xs ≢ 0 → segment_from at xs ≡ logged_at at (log_in (drop 1 (take (batch_size xs) xs))) (segment_from (at + batch_size xs) (drop (batch_size xs) xs))
unfolding segment_from
from_step at xs some =
    segment_enough (length xs) (suc (length xs)) at xs (omega arith) (omega arith)
    ∙ segment_step (length xs) at xs some
    ∙ ap (λ r. logged_at at (log_in (drop 1 (take (batch_size xs) xs))) r) (segment_enough (length xs) (length (drop (batch_size xs) xs)) (at + batch_size xs) (drop (batch_size xs) xs) (omega (arith, length-drop (batch_size xs) xs)) (omega arith))

pub whole_segment : (file : List ℕ) → segment_from 0 file ≡ segment_of file
unfolding segment_from segment_of
whole_segment file = refl

pub bad_record : (at : ℕ) (rest : Result (List Log) Damage) → logged_at at None rest ≡ Err (record { at = at; kind = BadRecord })
unfolding logged_at
bad_record at rest = refl

pub other_version : (at : ℕ) (log : Log) (rest : Result (List Log) Damage) → at ≡ 0 → is_beginning log.entries ≡ false → logged_at at (Some log) rest ≡ Err (record { at = at; kind = OtherVersion })
unfolding logged_at
other_version at log rest first is = cond-true _ _ _ (and_from _ _ (eq-eqb _ _ first) (ap not is))

both_false : (a b : Bool) → (a ≡ false) ⊎ (b ≡ false) → (a && b) ≡ false
both_false true true h = elim h [ inl e ↦ e | inr e ↦ e ]
both_false true false h = refl
both_false false b h = refl

pub one_log : (at : ℕ) (log : Log) (rest : Result (List Log) Damage) → (at ≡ 0 → is_beginning log.entries ≡ true) → logged_at at (Some log) rest ≡ in_front (log ∷ []) rest
unfolding logged_at
one_log at log rest begins =
    elim (cases_eq at 0) [
      | inl first ↦ cond-false _ _ _ (both_false _ _ (inr (ap not (begins first))))
      | inr later ↦ cond-false _ _ _ (both_false _ _ (inl (ne_eqb _ _ later)))
    ]

pub in_front_both : (before logs : List Log) (rest : Result (List Log) Damage) → in_front before (in_front logs rest) ≡ in_front (before ++ logs) rest
in_front_both before logs (Ok rest) = ap Ok (sym (append_assoc before logs rest))
in_front_both before logs (Err damage) = refl

pub in_front_none : (rest : Result (List Log) Damage) → in_front [] rest ≡ rest
in_front_none (Ok rest) = refl
in_front_none (Err damage) = refl

-- ---- what is read depends on the batches and the end alone

nothing_first : (at : ℕ) (end : Result (List Log) Damage) → logs_from at [] end ≡ end
unfolding logs_from
nothing_first at end = refl

one_first : (at : ℕ) (batch : List ℕ) (batches : List (List ℕ)) (end : Result (List Log) Damage) → logs_from at (batch ∷ batches) end ≡ logged_at at (log_in batch) (logs_from (at + (1 + length batch)) batches end)
unfolding logs_from
one_first at batch batches end = refl

pub end_of : ℕ → List ℕ → Result (List Log) Damage
end_of at xs = ended_at (at + whole_end xs) (drop (whole_end xs) xs)

at_end : (n at : ℕ) (xs : List ℕ) → batch_size xs ≡ 0 → segment_at n at xs ≡ logs_from at (recovered xs) (end_of at xs)
unfolding end_of
at_end n at xs none =
    let far : at + whole_end xs ≡ at = omega (arith, end_none xs none) in
    segment_stop n at xs none
    ∙ sym (ap (λ (k : ℕ). ended_at k xs) far)
    ∙ sym (ap (λ (k : ℕ). ended_at (at + whole_end xs) (drop k xs)) (end_none xs none))
    ∙ sym (nothing_first at (end_of at xs))
    ∙ sym (ap (λ (l : List (List ℕ)). logs_from at l (end_of at xs)) (recovered_none xs none))

same_end : (at : ℕ) (xs : List ℕ) → batch_size xs ≢ 0 → end_of (at + batch_size xs) (drop (batch_size xs) xs) ≡ end_of at xs
unfolding end_of
same_end at xs some =
    let rest = drop (batch_size xs) xs in
    let reach : whole_end xs ≡ batch_size xs + whole_end rest = (one_more xs some).1 in
    let far : at + batch_size xs + whole_end rest ≡ at + whole_end xs = omega (arith, reach) in
    ap (λ (k : ℕ). ended_at k (drop (whole_end rest) rest)) far
    ∙ ap (λ (l : List ℕ). ended_at (at + whole_end xs) l) (drop-drop (whole_end rest) (batch_size xs) xs)
    ∙ ap (λ (k : ℕ). ended_at (at + whole_end xs) (drop k xs)) (sym reach)

pub by_batches : (n at : ℕ) (xs : List ℕ) → length xs ≤ n → segment_at n at xs ≡ logs_from at (recovered xs) (end_of at xs)
by_batches zero at xs few = at_end zero at xs (omega (arith, size_within xs))
by_batches (suc n) at xs few =
    elim (cases_eq (batch_size xs) 0) [
      | inl none ↦ at_end (suc n) at xs none
      | inr some ↦
          let s = batch_size xs in
          let rest = drop s xs in
          let batch = drop 1 (take s xs) in
          let size : at + s ≡ at + (1 + length batch) = omega (arith, length-drop 1 (take s xs), length-take-le s xs (size_within xs), some) in
          let next : segment_at n (at + s) rest ≡ logs_from (at + s) (recovered rest) (end_of (at + s) rest) = by_batches n (at + s) rest (omega (arith, length-drop s xs, some)) in
          segment_step n at xs some
          ∙ ap (λ r. logged_at at (log_in batch) r) (next
          ∙ ap (λ (e : Result (List Log) Damage). logs_from (at + s) (recovered rest) e) (same_end at xs some)
          ∙ ap (λ (k : ℕ). logs_from k (recovered rest) (end_of at xs)) size)
          ∙ sym (one_first at batch (recovered rest) (end_of at xs))
          ∙ sym (ap (λ (l : List (List ℕ)). logs_from at l (end_of at xs)) (one_more xs some).0)
    ]

from_all : (file : List ℕ) → segment_from 0 file ≡ logs_from 0 (recovered file) (end_of 0 file)
unfolding segment_from
from_all file = by_batches (length file) 0 file (omega arith)

ended_well : (at : ℕ) (xs : List ℕ) → is_torn xs ≡ true → ended_at at xs ≡ Ok []
unfolding ended_at
ended_well at xs torn = cond-true _ _ _ torn

ended_badly : (at : ℕ) (xs : List ℕ) → is_torn xs ≡ false → ended_at at xs ≡ Err (record { at = at; kind = damage_kind xs })
unfolding ended_at
ended_badly at xs damaged = cond-false _ _ _ damaged

end_intact : (file : List ℕ) → is_intact file ≡ true → end_of 0 file ≡ Ok []
unfolding end_of is_intact
end_intact file is = ended_well (0 + whole_end file) (drop (whole_end file) file) is

end_damaged : (file : List ℕ) → is_intact file ≡ false → end_of 0 file ≡ Err (record { at = 0 + whole_end file; kind = damage_kind (drop (whole_end file) file) })
unfolding end_of is_intact
end_damaged file is = ended_badly (0 + whole_end file) (drop (whole_end file) file) is

-- What an intact file is read to depends on its batches alone.
pub intact_read : (file : List ℕ) → is_intact file ≡ true → segment_of file ≡ logs_from 0 (recovered file) (Ok [])
intact_read file is =
    sym (whole_segment file) ∙ from_all file ∙ ap (λ (e : Result (List Log) Damage). logs_from 0 (recovered file) e) (end_intact file is)

-- ---- prefixes

-- What was read without damage.
record Logged (at : ℕ) (found : Option Log) (behind : Result (List Log) Damage) (logs : List Log) : Type 0 where
  pub log : Log
  pub others : List Log
  pub batch : found ≡ Some log
  pub begins : at ≡ 0 → is_beginning log.entries ≡ true
  pub rest : behind ≡ Ok others
  pub all : logs ≡ log ∷ others

behind_it : (at : ℕ) (log : Log) (rest : Result (List Log) Damage) (logs : List Log) → (at ≡ 0 → is_beginning log.entries ≡ true) → in_front (log ∷ []) rest ≡ Ok logs → Logged at (Some log) rest logs
behind_it at log (Ok others) logs begins is = record { log = log; others = others; batch = refl; begins = begins; rest = refl; all = cc (sym is) }
behind_it at log (Err damage) logs begins is = absurd (cc is)

first_logged : (at : ℕ) (batch : Option Log) (rest : Result (List Log) Damage) (logs : List Log) → logged_at at batch rest ≡ Ok logs → Logged at batch rest logs
first_logged at None rest logs is = absurd (cc (sym (bad_record at rest) ∙ is))
first_logged at (Some log) rest logs is =
    let begins : at ≡ 0 → is_beginning log.entries ≡ true = λ first. elim (cases_Bool (is_beginning log.entries)) [
      | inl begun ↦ begun
      | inr other ↦ absurd (cc (sym (other_version at log rest first other) ∙ is))
    ] in
    behind_it at log rest logs begins (sym (one_log at log rest begins) ∙ is)

record Fronted (at : ℕ) (batches : List (List ℕ)) (logs : List Log) : Type 0 where
  pub front : List Log
  pub more : List Log
  pub read : logs_from at batches (Ok []) ≡ Ok front
  pub all : logs ≡ front ++ more

fronted : (batches others : List (List ℕ)) (at : ℕ) (end : Result (List Log) Damage) (logs : List Log) → logs_from at (batches ++ others) end ≡ Ok logs → Fronted at batches logs
fronted [] others at end logs is = record { front = []; more = logs; read = nothing_first at (Ok []); all = refl }
fronted (batch ∷ batches) others at end logs is =
    let next = at + (1 + length batch) in
    let one = first_logged at (log_in batch) (logs_from next (batches ++ others) end) logs (sym (one_first at batch (batches ++ others) end) ∙ is) in
    let rest = fronted batches others next end one.others one.rest in
    record {
      front = one.log ∷ rest.front;
      more = rest.more;
      read =
          one_first at batch batches (Ok [])
          ∙ ap (λ (b : Option Log). logged_at at b (logs_from next batches (Ok []))) one.batch
          ∙ one_log at one.log (logs_from next batches (Ok [])) one.begins
          ∙ ap (λ (r : Result (List Log) Damage). in_front (one.log ∷ []) r) rest.read;
      all = one.all ∙ ap (λ (l : List Log). one.log ∷ l) rest.all;
    }

ends_well : (batches : List (List ℕ)) (at : ℕ) (end : Result (List Log) Damage) (logs : List Log) → logs_from at batches end ≡ Ok logs → (others : List Log) × (end ≡ Ok others)
ends_well [] at end logs is = (logs, sym (nothing_first at end) ∙ is)
ends_well (batch ∷ batches) at end logs is =
    let one = first_logged at (log_in batch) (logs_from (at + (1 + length batch)) batches end) logs (sym (one_first at batch batches end) ∙ is) in
    ends_well batches (at + (1 + length batch)) end one.others one.rest

pub read_is_intact : (file : List ℕ) (logs : List Log) → segment_of file ≡ Ok logs → is_intact file ≡ true
read_is_intact file logs is =
    elim (cases_Bool (is_intact file)) [
      | inl well ↦ well
      | inr damaged ↦
          let ended = ends_well (recovered file) 0 (end_of 0 file) logs (sym (from_all file) ∙ whole_segment file ∙ is) in
          absurd (cc (sym (end_damaged file damaged) ∙ ended.1))
    ]

pub prefix_of_read : (n : ℕ) (file : List ℕ) (logs : List Log) → segment_of file ≡ Ok logs → ReadsPrefix logs (take n file)
prefix_of_read n file logs is =
    let whole = read_is_intact file logs is in
    let cut = prefix_read (length file) n file (omega arith) in
    let front = fronted (recovered (take n file)) cut.more 0 (Ok []) logs (sym (ap (λ (l : List (List ℕ)). logs_from 0 l (Ok [])) cut.batches) ∙ sym (intact_read file whole) ∙ is) in
    record { front = front.front; more = front.more; read = intact_read (take n file) (cut.intact whole) ∙ front.read; all = front.all }

-- ---- steps of the reader

pub size_long : (xs : List ℕ) → batch_size xs ≢ 0 → 38 < batch_size xs
size_long xs some =
    elim (sized xs) [
      | inl none ↦ absurd (some none)
      | inr w ↦ omega (arith, w.1, (announced_small xs w.0.lengths).0)
    ]

-- the batch without its gate, as it is sliced
pub slice_is : (at size : ℕ) (bytes : List ℕ) → 0 < size → take (at + size - (at + 1)) (drop (at + 1) bytes) ≡ drop 1 (take size (drop at bytes))
slice_is at size bytes some =
    let less : at + size - (at + 1) ≡ size - 1 = omega arith in
    let more : 1 + (size - 1) ≡ size = omega arith in
    ap (λ (k : ℕ). take k (drop (at + 1) bytes)) less
    ∙ ap (λ (l : List ℕ). take (size - 1) l) (sym (drop-drop 1 at bytes))
    ∙ sym (drop-take 1 (size - 1) (drop at bytes))
    ∙ ap (λ (k : ℕ). drop 1 (take k (drop at bytes))) more

-- what has been read, and what is to come
pub record Reads (at : ℕ) (logs : List Log) (bytes : List ℕ) : Type 0 where
  pub read : in_front logs (segment_from at (drop at bytes)) ≡ segment_of bytes

pub reads_first : (bytes : List ℕ) → Reads 0 [] bytes
reads_first bytes = record { read = in_front_none (segment_from 0 bytes) ∙ whole_segment bytes }

module _ (at size : ℕ) (logs : List Log) (bytes : List ℕ) (reads : Reads at logs bytes) (is : size ≡ batch_size (drop at bytes)) (some : size ≢ 0) where
  abbrev batch : List ℕ
  batch = take (at + size - (at + 1)) (drop (at + 1) bytes)

  batch_is : batch ≡ drop 1 (take (batch_size (drop at bytes)) (drop at bytes))
  batch_is = slice_is at size bytes (omega (arith, some)) ∙ ap (λ (k : ℕ). drop 1 (take k (drop at bytes))) is

  stepped : segment_from at (drop at bytes) ≡ logged_at at (log_in batch) (segment_from (at + size) (drop (at + size) bytes))
  stepped =
      let some' : batch_size (drop at bytes) ≢ 0 = λ e. some (is ∙ e) in
      from_step at (drop at bytes) some'
      ∙ ap (λ (b : List ℕ). logged_at at (log_in b) (segment_from (at + batch_size (drop at bytes)) (drop (batch_size (drop at bytes)) (drop at bytes)))) (sym batch_is)
      ∙ ap (λ (k : ℕ). logged_at at (log_in batch) (segment_from (at + k) (drop k (drop at bytes)))) (sym is)
      ∙ ap (λ (l : List ℕ). logged_at at (log_in batch) (segment_from (at + size) l)) (drop-drop size at bytes)

  pub reads_bad : None ≡ log_in batch → segment_of bytes ≡ Err (record { at = at; kind = BadRecord })
  reads_bad none =
      sym reads.read ∙ ap (λ r. in_front logs r) (stepped ∙ ap (λ o. logged_at at o (segment_from (at + size) (drop (at + size) bytes))) (sym none) ∙ bad_record at (segment_from (at + size) (drop (at + size) bytes)))

  pub reads_other : (log : Log) → Some log ≡ log_in batch → at ≡ 0 → is_beginning log.entries ≡ false → segment_of bytes ≡ Err (record { at = at; kind = OtherVersion })
  reads_other log found first other =
      sym reads.read ∙ ap (λ r. in_front logs r) (stepped ∙ ap (λ o. logged_at at o (segment_from (at + size) (drop (at + size) bytes))) (sym found) ∙ other_version at log (segment_from (at + size) (drop (at + size) bytes)) first other)

  pub reads_on : (log : Log) → Some log ≡ log_in batch → (at ≡ 0 → is_beginning log.entries ≡ true) → Reads (at + size) (logs ++ log ∷ []) bytes
  reads_on log found begins =
      record {
        read =
            sym (in_front_both logs (log ∷ []) (segment_from (at + size) (drop (at + size) bytes)))
            ∙ ap (λ r. in_front logs r) (sym (one_log at log (segment_from (at + size) (drop (at + size) bytes)) begins)
            ∙ ap (λ o. logged_at at o (segment_from (at + size) (drop (at + size) bytes))) found
            ∙ sym stepped)
            ∙ reads.read;
      }

pub reads_end : (at : ℕ) (logs : List Log) (bytes : List ℕ) → Reads at logs bytes → batch_size (drop at bytes) ≡ 0 → is_torn (drop at bytes) ≡ true → segment_of bytes ≡ Ok logs
reads_end at logs bytes reads none torn =
    sym reads.read ∙ ap (λ r. in_front logs r) (from_stop at (drop at bytes) none ∙ ended_well at (drop at bytes) torn) ∙ ap Ok (append-nil logs)

pub reads_damage : (at : ℕ) (logs : List Log) (bytes : List ℕ) → Reads at logs bytes → batch_size (drop at bytes) ≡ 0 → is_torn (drop at bytes) ≡ false → segment_of bytes ≡ Err (record { at = at; kind = damage_kind (drop at bytes) })
reads_damage at logs bytes reads none damaged =
    sym reads.read ∙ ap (λ r. in_front logs r) (from_stop at (drop at bytes) none ∙ ended_badly at (drop at bytes) damaged)

pub one_record : (rs : List Record) (d : Record) → length rs ≡ 1 → is_beginning (map entry_of rs) ≡ bytes_eq (get_or rs 0 d).origin.now title
one_record [] d one = absurd (omega arith)
one_record (r ∷ []) d one = refl
one_record (r ∷ s ∷ rs) d one = absurd (omega arith)
