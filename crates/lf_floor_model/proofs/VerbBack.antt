-- What undo and revert restore.
use Rattle.std.proofs.Common.{◌≡◌, ℕ, zero, suc, ◌+◌, ◌<◌, ◌≤◌, List, [], ◌∷◌, Bool, true, cond, map, take, length, Option, Some, None, refl, ap, sym, ◌∙◌, subst, arith}
use Rattle.std.specs.Prelude.{MatchBool}
use Rattle.std.proofs.lemmas.Bool.{eq-eqb, lt-ltb}
use Rattle.lf_floorplan.specs.declared.place.Place.{Place}
use Rattle.lf_rules.specs.Tidy.{Tidied, Stuck, tidied}
use Rattle.lf_proto.specs.declared.verb.Action.TheVariants.{Change as Changing}
use Rattle.lf_proto.specs.declared.verb.Change.{Change}
use Rattle.lf_proto.specs.declared.verb.Change.TheVariants.{Tidy, Undo, Commit, Revert, Pad}
use Rattle.lf_proto.specs.declared.reply.Reply.TheVariants.{Revision}
use Rattle.lf_proto.specs.declared.reply.Refusal.TheVariants.{NoPlace, RevisionsSpent, Stale}
use Rattle.lf_cells.specs.declared.cell.Cell.{Cell}
use Rattle.lf_cells.specs.Cells.{as_committed}
use Rattle.lf_legalize.specs.Members.{member_of}
use Rattle.lf_floor_model.specs.States.{TeamState}
use Rattle.lf_floor_model.specs.Teams.{TeamRules}
use Rattle.lf_floor_model.specs.Outcomes.{Outcome, refused, with_entry, places_of}
use Rattle.lf_floor_model.specs.Sessions.{seen_at}
use Rattle.lf_floor_model.specs.Changes.{restored, reverted, undone, undone_by, padded, tidied_by, tidied_team, back_to_committed, outcome_of_change}
use Rattle.lf_floor_model.specs.Verbs.{is_recorded, outcome_by_slot}
use Rattle.lf_floor_model.specs.VerbLaws.{MayChange, IsPadded, LeadsToPlaces, PadKeeps, is_accepted, outcome_of_asking}
use Rattle.lf_floor_model.proofs.Forms.{unless_spent}
use Rattle.lf_floor_model.proofs.Cases.{AreLeft, accepted_is, macs_stay}
use Rattle.lf_floor_model.proofs.Kept.{same_length}

-- ---- a session that may change

slot_is : (t : TeamRules) (session : ℕ) (change : Change (List ℕ) Place) (s : TeamState) (o : Option ℕ) → o ≡ Some s.revision
    → s.revision < t.frame.limits.revisions
    → outcome_by_slot o t session (Changing change) s ≡ outcome_of_change t session change s
slot_is t session change s None seen left = absurd cc
slot_is t session change s (Some n) seen left =
    let same : n ≡ s.revision = some_one seen in
    ap (λ (b : Bool). cond b (unless_spent t session change s) (refused (Stale s.revision) s)) (eq-eqb n s.revision same)
    ∙ ap (λ (b : Bool). cond b (outcome_of_change t session change s) (refused RevisionsSpent s)) (lt-ltb s.revision t.frame.limits.revisions left)
  where
    some_one : {a b : ℕ} → Some a ≡ Some b → a ≡ b
    some_one e = cc

-- the outcome of a change that the session may make
pub may_is : (t : TeamRules) (session : ℕ) (change : Change (List ℕ) Place) (s : TeamState) → MayChange t session s
    → outcome_of_asking t session change s ≡ outcome_of_change t session change s
may_is t session change s may = slot_is t session change s (seen_at s.slots session) may.seen may.left

pub stuck_is : (t : TeamRules) (session stuck : ℕ) (s : TeamState) → MayChange t session s
    → tidied t.legalizer t.frame t.number t.padding (map member_of s.cells) ≡ Stuck stuck
    → outcome_of_asking t session Tidy s ≡ refused (NoPlace stuck) s
unfolding tidied_team
stuck_is t session stuck s may is = may_is t session Tidy s may ∙ ap (λ (d : Tidied). tidied_by d t session s) is

-- ---- undo

take_first : {X : Type 0} (n : ℕ) (x : X) (xs : List X) → 1 ≤ n → (rest : List X) × (take n (x ∷ xs) ≡ x ∷ rest)
take_first zero x xs some = absurd (omega arith)
take_first (suc n) x xs some = (take n xs, refl)

restored_places : (old new : List Cell) → length new ≡ length old → places_of (restored (places_of old) new) ≡ places_of old
restored_places [] [] same = refl
restored_places [] (c ∷ cs) same = absurd (omega (arith, same))
restored_places (b ∷ bs) [] same = absurd (omega (arith, same))
restored_places (b ∷ bs) (c ∷ cs) same =
    let rest : length cs ≡ length bs = omega (arith, same) in
    ap (λ (places : List (Option Place)). b.working ∷ places) (restored_places bs cs rest)

-- the old working places are the newest entry, and the number of cells is the same
pub record IsRecorded (t : TeamRules) (s new : TeamState) : Type 0 where
  pub entries : new.entries ≡ with_entry t.frame.limits s
  pub many : length new.cells ≡ length s.cells

change_recorded : (t : TeamRules) (session : ℕ) (change : Change (List ℕ) Place) (s : TeamState) → is_recorded change ≡ true
    → is_accepted (outcome_of_asking t session change s) ≡ true → IsRecorded t s (outcome_of_asking t session change s).team
change_recorded t session change s is accepted =
    let after = (outcome_of_asking t session change s).team in
    let c = accepted_is t session change s accepted in
    record {
      entries = subst (λ (b : Bool). MatchBool b (after.entries ≡ with_entry t.frame.limits s) (AreLeft s after.entries)) is c.entries;
      many = same_length s.cells after.cells (macs_stay t s change after.cells c.cells);
    }

undone_leads : (t : TeamRules) (other : ℕ) (s new : TeamState) → IsRecorded t s new → LeadsToPlaces (undone other new) (places_of s.cells)
unfolding undone
undone_leads t other s new is =
    let first = take_first t.frame.limits.undo (places_of s.cells) s.entries t.frame.limits.allowed.undo_within.least in
    let entries : new.entries ≡ places_of s.cells ∷ first.0 = is.entries ∙ first.1 in
    let P : List (List (Option Place)) → Type 0 = λ e. LeadsToPlaces (undone_by e other new) (places_of s.cells) in
    subst P (sym entries) record { reported = refl; places_are = restored_places s.cells new.cells is.many }

pub undo_leads : (t : TeamRules) (session other : ℕ) (change : Change (List ℕ) Place) (s : TeamState) → is_recorded change ≡ true
    → is_accepted (outcome_of_asking t session change s) ≡ true
    → MayChange t other (outcome_of_asking t session change s).team → LeadsToPlaces (outcome_of_asking t other Undo (outcome_of_asking t session change s).team) (places_of s.cells)
undo_leads t session other change s is accepted may =
    let after = (outcome_of_asking t session change s).team in
    let P : Outcome → Type 0 = λ o. LeadsToPlaces o (places_of s.cells) in
    subst P (sym (may_is t other Undo after may)) (undone_leads t other s after (change_recorded t session change s is accepted))

-- ---- revert after a commit

-- moving back to the places just committed moves no cell
back_committed : (cells : List Cell) → places_of (map back_to_committed (map as_committed cells)) ≡ places_of cells
back_committed [] = refl
back_committed (c ∷ cs) = ap (λ (places : List (Option Place)). c.working ∷ places) (back_committed cs)

reverted_leads : (t : TeamRules) (other : ℕ) (s new : TeamState) → new.cells ≡ map as_committed s.cells → LeadsToPlaces (reverted t other new) (places_of s.cells)
unfolding reverted
reverted_leads t other s new is = record {
  reported = refl;
  places_are = ap (λ (cells : List Cell). places_of (map back_to_committed cells)) is ∙ back_committed s.cells;
}

pub revert_leads : (t : TeamRules) (session other : ℕ) (s : TeamState) → is_accepted (outcome_of_asking t session Commit s) ≡ true
    → MayChange t other (outcome_of_asking t session Commit s).team → LeadsToPlaces (outcome_of_asking t other Revert (outcome_of_asking t session Commit s).team) (places_of s.cells)
revert_leads t session other s accepted may =
    let after = (outcome_of_asking t session Commit s).team in
    let P : Outcome → Type 0 = λ o. LeadsToPlaces o (places_of s.cells) in
    subst P (sym (may_is t other Revert after may)) (reverted_leads t other s after (accepted_is t session Commit s accepted).cells.are)

-- ---- pad

-- a pad that the session may make
pub pad_keeps : PadKeeps
unfolding padded
pad_keeps t session padding s may =
    let is = may_is t session (Pad padding) s may in
    subst (λ (o : Outcome). (o.reply ≡ Revision (s.revision + 1)) × IsPadded padding s o.team) (sym is)
    (refl, record { padding = refl; cells = refl; entries = refl })
