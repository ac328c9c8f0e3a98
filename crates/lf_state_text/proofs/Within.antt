-- The result of reading is within the design's limits.
use Rattle.std.proofs.Common.{◌≡◌, ℕ, zero, suc, ◌+◌, ◌<◌, ◌≤◌, Bool, true, false, ◌==◌, cond, nat_lt, List, [], ◌∷◌, length, Option, None, Some, Result, Ok, Err, refl, ap, subst, arith}
use Rattle.std.specs.Prelude.{IfOk, IfSome, codes}
use Rattle.std.specs.List.{AllByRecursion}
use Rattle.std.proofs.lemmas.Bool.{leb-true, ltb-true}
use Rattle.lf_floorplan.specs.declared.limits.Limits.{Limits}
use Rattle.lf_undo.specs.declared.moves.Move.{Move}
use Rattle.lf_state_text.specs.declared.fault.StateFaultNumber.TheVariants.{Unexpected, BadNumber}
use Rattle.lf_state_text.specs.declared.fault.StateError.{StateError}
use Rattle.lf_state_text.specs.declared.refusal.ChunkError.{ChunkError}
use Rattle.lf_state_text.specs.Refused.{ReturnsIn}
use Rattle.lf_state_text.specs.Designs.{NamedDesign, NamedTeam}
use Rattle.lf_state_text.specs.Words.{slot_on}
use Rattle.lf_state_text.specs.Saved.{SavedTeam, AreOf, Both, IsSavedTeamOf}
use Rattle.lf_state_text.specs.Reading.{◌>>=◌, TextFault, Numbers, ReturnsAt, or_fault, is_seen_by, word_at, due_at, number_at, below_at, count_at, read_spot, slot_at, read_cell, move_at, entry_at, named_at, numbers_at, rows_at, team_at, opening_at, all_at, saved_state_of, many_at, each_at, with_fault_line}

-- ---- successive steps of reading

abbrev ok_or : {A B : Type 0} → Result A B → A → A
ok_or (Ok x) d = x
ok_or (Err e) d = d

same_ok : {A B : Type 0} {a b : A} → ◌≡◌ {A = Result A B} (Ok a) (Ok b) → a ≡ b
same_ok {A} {B} {a} {b} is = ap (λ (r : Result A B). ok_or r a) is

-- both steps succeeded
pub record Steps {A B : Type 0} (o : Result A TextFault) (f : A → Result B TextFault) (y : B) : Type 0 where
  pub first : A
  pub is : o ≡ Ok first
  pub rest : f first ≡ Ok y

steps : {A B : Type 0} (o : Result A TextFault) (f : A → Result B TextFault) (y : B) → (o >>= f) ≡ Ok y → Steps o f y
steps (Ok x) f y is = record { first = x; is = refl; rest = is }
steps (Err e) f y is = absurd cc

-- a test that succeeded
pub record Passed {A : Type 0} (test : Bool) (x y : A) : Type 0 where
  pub holds : test ≡ true
  pub same : x ≡ y

passed : {A : Type 0} (test : Bool) (x y : A) (f : TextFault) → cond test (Ok x) (Err f) ≡ Ok y → Passed test x y
passed true x y f is = record { holds = refl; same = same_ok is }
passed false x y f is = absurd cc

-- ---- lists

module _ {X : Type 0} (item : List ℕ → Result (X × List ℕ) TextFault) (P : X → Type 0) (each : (bytes : List ℕ) (x : X × List ℕ) → item bytes ≡ Ok x → P x.0) where
  many-within : (n : ℕ) (bytes : List ℕ) (r : List X × List ℕ) → many_at item n bytes ≡ Ok r → (length r.0 ≡ n) × AllByRecursion P r.0
  unfolding many_at
  many-within zero bytes r is = subst (λ (x : List X × List ℕ). (length x.0 ≡ 0) × AllByRecursion P x.0) (same_ok is) (refl, tt)
  many-within (suc n) bytes r is =
      let one = steps (item bytes) _ r is in
      let others = steps (many_at item n one.first.1) _ r one.rest in
      let more = many-within n one.first.1 others.first others.is in
      subst (λ (x : List X × List ℕ). (length x.0 ≡ suc n) × AllByRecursion P x.0) (same_ok others.rest) (ap suc more.0, (each bytes one.first one.is, more.1))

module _ {D X : Type 0} (item : D → List ℕ → Result (X × List ℕ) TextFault) (P : D → X → Type 0) (each : (d : D) (bytes : List ℕ) (x : X × List ℕ) → item d bytes ≡ Ok x → P d x.0) where
  each-within : (ds : List D) (bytes : List ℕ) (r : List X × List ℕ) → each_at item ds bytes ≡ Ok r → Both P ds r.0
  unfolding each_at
  each-within [] bytes r is = subst (λ (x : List X × List ℕ). Both P [] x.0) (same_ok is) tt
  each-within (d ∷ ds) bytes r is =
      let one = steps (item d bytes) _ r is in
      let others = steps (each_at item ds one.first.1) _ r one.rest in
      subst (λ (x : List X × List ℕ). Both P (d ∷ ds) x.0) (same_ok others.rest) (each d bytes one.first one.is, each-within ds one.first.1 others.first others.is)

both-long : {A B : Type 0} (P : A → B → Type 0) (firsts : List A) (seconds : List B) → Both P firsts seconds → length seconds ≡ length firsts
both-long P [] [] both = refl
both-long P [] (b ∷ seconds) both = absurd both
both-long P (a ∷ firsts) [] both = absurd both
both-long P (a ∷ firsts) (b ∷ seconds) both = ap suc (both-long P firsts seconds both.1)

-- ---- words and lines

pub below-within : (limit byte : ℕ) (bytes : List ℕ) (r : ℕ × List ℕ) → below_at limit byte bytes ≡ Ok r → r.0 < limit
unfolding below_at
below-within limit byte bytes r is =
    let n = steps (number_at byte bytes) _ r is in
    let test = passed (nat_lt n.first.0 limit) n.first r _ n.rest in
    subst (λ (x : ℕ × List ℕ). x.0 < limit) test.same (ltb-true n.first.0 limit test.holds)

seen-is : (revision : ℕ) (o : Option ℕ) → is_seen_by revision o ≡ true → IfSome o (λ seen. seen ≤ revision)
seen-is revision None holds = tt
seen-is revision (Some seen) holds = leb-true seen revision holds

slot-within : (revision : ℕ) (bytes : List ℕ) (r : Option ℕ × List ℕ) → slot_at revision bytes ≡ Ok r → IfSome r.0 (λ seen. seen ≤ revision)
unfolding slot_at
slot-within revision bytes r is =
    let word = steps (word_at 10 bytes) _ r is in
    let slot = steps (or_fault BadNumber bytes (slot_on word.first.0)) _ r word.rest in
    let test = passed (is_seen_by revision slot.first) (slot.first, word.first.1) r _ slot.rest in
    subst (λ (x : Option ℕ × List ℕ). IfSome x.0 (λ seen. seen ≤ revision)) test.same (seen-is revision slot.first test.holds)

move-within : (cells : ℕ) (bytes : List ℕ) (r : Move × List ℕ) → move_at cells bytes ≡ Ok r → r.0.own < cells
unfolding move_at
move-within cells bytes r is =
    let own = steps (below_at cells 32 bytes) _ r is in
    let place = steps (read_spot 10 own.first.1) _ r own.rest in
    subst (λ (x : Move × List ℕ). x.0.own < cells) (same_ok place.rest) (below-within cells 32 bytes own.first own.is)

entry-within : (cells : ℕ) (bytes : List ℕ) (r : List Move × List ℕ) → entry_at cells bytes ≡ Ok r → AllByRecursion (λ m. m.own < cells) r.0
unfolding entry_at
entry-within cells bytes r is =
    let undo = steps (due_at Unexpected (codes "undo ") bytes) _ r is in
    let count = steps (number_at 10 undo.first) _ r undo.rest in
    (many-within (move_at cells) (λ m. m.own < cells) (move-within cells) count.first.0 count.first.1 r count.rest).1

-- ---- teams

-- the numbers of a first line are within the limits
pub record AreWithin (limits : Limits) (n : Numbers) : Type 0 where
  pub revision : n.revision < limits.revisions + 1
  pub padding : n.padding < 17
  pub entries : n.entries < limits.undo + 1

numbers-within : (limits : Limits) (cells : ℕ) (bytes : List ℕ) (r : Numbers × List ℕ) → numbers_at limits cells bytes ≡ Ok r → AreWithin limits r.0
unfolding numbers_at
numbers-within limits cells bytes r is =
    let revision = steps (below_at (limits.revisions + 1) 32 bytes) _ r is in
    let padding = steps (below_at 17 32 revision.first.1) _ r revision.rest in
    let slots = steps (count_at limits.sessions 32 padding.first.1) _ r padding.rest in
    let all = steps (count_at cells 32 slots.first) _ r slots.rest in
    let entries = steps (below_at (limits.undo + 1) 10 all.first) _ r all.rest in
    subst (λ (x : Numbers × List ℕ). AreWithin limits x.0) (same_ok entries.rest) record {
      revision = below-within (limits.revisions + 1) 32 bytes revision.first revision.is;
      padding = below-within 17 32 revision.first.1 padding.first padding.is;
      entries = below-within (limits.undo + 1) 10 all.first entries.first entries.is;
    }

rows-within : (limits : Limits) (named : NamedTeam) (numbers : Numbers) (bytes : List ℕ) (r : SavedTeam × List ℕ) → AreWithin limits numbers
    → rows_at limits named numbers bytes ≡ Ok r → IsSavedTeamOf limits named r.0
unfolding rows_at
rows-within limits named numbers bytes r within is =
    let own = length named.cells in
    let slots = steps (many_at (slot_at numbers.revision) limits.sessions bytes) _ r is in
    let cells = steps (each_at read_cell named.cells slots.first.1) _ r slots.rest in
    let entries = steps (many_at (entry_at own) numbers.entries cells.first.1) _ r cells.rest in
    let seen = many-within (slot_at numbers.revision) (λ s. IfSome s (λ n. n ≤ numbers.revision)) (slot-within numbers.revision) limits.sessions bytes slots.first slots.is in
    let moves = many-within (entry_at own) (λ ms. AllByRecursion (λ m. m.own < own) ms) (entry-within own) numbers.entries cells.first.1 entries.first entries.is in
    let places = each-within read_cell (λ name c. Unit {0}) (λ name b x read. tt) named.cells slots.first.1 cells.first cells.is in
    let revision_is = within.revision in
    let padding_is = within.padding in
    let entries_is = within.entries in
    subst (λ (x : SavedTeam × List ℕ). IsSavedTeamOf limits named x.0) (same_ok entries.rest) record {
      revision = omega arith;
      padding = omega arith;
      slots = seen.0;
      seen = seen.1;
      cells = both-long (λ name c. Unit {0}) named.cells cells.first.0 places;
      entries = omega (arith, moves.0);
      own = moves.1;
    }

team-within : (limits : Limits) (named : NamedTeam) (bytes : List ℕ) (r : SavedTeam × List ℕ) → team_at limits named bytes ≡ Ok r → IsSavedTeamOf limits named r.0
unfolding team_at
team-within limits named bytes r is =
    let rest = steps (named_at named.name bytes) _ r is in
    let numbers = steps (numbers_at limits (length named.cells) rest.first) _ r rest.rest in
    rows-within limits named numbers.first.0 numbers.first.1 r (numbers-within limits (length named.cells) rest.first numbers.first numbers.is) numbers.rest

all-within : (design : NamedDesign) (text : List ℕ) (ts : List SavedTeam) → all_at design text ≡ Ok ts → AreOf design ts
unfolding all_at
all-within design text ts is =
    let rest = steps (opening_at design text) _ ts is in
    let teams = steps (each_at (team_at design.limits) design.teams rest.first) _ ts rest.rest in
    let test = passed (length teams.first.1 == 0) teams.first.0 ts _ teams.rest in
    subst (AreOf design) test.same (each-within (team_at design.limits) (IsSavedTeamOf design.limits) (team-within design.limits) design.teams rest.first teams.first teams.is)

-- the same for the fault with its line
state-within : (design : NamedDesign) (text : List ℕ) (read : Result (List SavedTeam) TextFault) (ts : List SavedTeam) → all_at design text ≡ read → with_fault_line text read ≡ Ok ts → AreOf design ts
state-within design text (Ok xs) ts is reported = subst (AreOf design) (same_ok reported) (all-within design text xs is)
state-within design text (Err f) ts is reported = absurd cc

pub reported-within : {X : Type 0} (view : X → List SavedTeam) (design : NamedDesign) (text : List ℕ) (result : Result X ChunkError) → ReturnsIn view result (saved_state_of design text)
    → IfOk result (λ rows. AreOf design (view rows))
reported-within view design text (Ok rows) reported = state-within design text (all_at design text) (view rows) refl reported
reported-within view design text (Err e) reported = tt

pub reported-at : {X : Type 0} (view : X → List SavedTeam) (design : NamedDesign) (text : List ℕ) (result : Result X StateError) → ReturnsAt view result (saved_state_of design text)
    → IfOk result (λ rows. AreOf design (view rows))
reported-at view design text (Ok rows) reported = state-within design text (all_at design text) (view rows) refl reported
reported-at view design text (Err e) reported = tt
