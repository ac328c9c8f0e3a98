-- What a command leaves unchanged, and what a change counts.
use Rattle.std.proofs.Common.{◌≡◌, ◌≢◌, inl, inr, ℕ, zero, suc, ◌+◌, ◌<◌, ◌≤◌, List, [], ◌∷◌, Bool, true, false, length, map, get_or, Option, Some, None, refl, ap, sym, ◌∙◌, subst, arith}
use Rattle.std.specs.Prelude.{All, AllPairs, IfSome, MatchBool, slice_set}
use Rattle.std.proofs.lemmas.List.{length-set, length-map, length-take}
use Rattle.std.proofs.lemmas.List.Elements.{All-cons, All-set, All-tail, All-take}
use Rattle.lf_floorplan.specs.declared.frame.Frame.{Frame}
use Rattle.lf_floorplan.specs.declared.place.Place.{Place}
use Rattle.lf_proto.specs.declared.reply.Reply.{Reply}
use Rattle.lf_proto.specs.declared.reply.Reply.TheVariants.{Refused}
use Rattle.lf_proto.specs.declared.reply.Refusal.{Refusal}
use Rattle.lf_cells.specs.declared.cell.Cell.{Cell}
use Rattle.lf_floor_model.specs.States.{TeamState}
use Rattle.lf_floor_model.specs.Teams.{TeamRules, IsTeamOf}
use Rattle.lf_legalize.specs.Members.{IsSizedCell}
use Rattle.lf_proto.specs.declared.request.TeamCommand.{TeamCommand}
use Rattle.lf_proto.specs.declared.request.TeamCommand.TheVariants.{Within}
use Rattle.lf_proto.specs.declared.verb.Action.TheVariants.{Change as Changing}
use Rattle.lf_proto.specs.declared.verb.Change.{Change}
use Rattle.lf_proto.specs.declared.verb.Change.TheVariants.{Pad}
use Rattle.lf_floor_model.specs.Outcomes.{Outcome, is_short, places_of, changed, with_entry}
use Rattle.lf_floor_model.specs.Sessions.{seen_at}
use Rattle.lf_floor_model.specs.Verbs.{is_recorded, outcome_of}
use Rattle.lf_floor_model.specs.VerbLaws.{CountsOne, KeepsCells, is_accepted, is_ok, is_change, is_commit, is_pad, committed_places, replied_revision, outcome_of_asking}
use Rattle.lf_floor_model.proofs.Forms.{with_session_slot}
use Rattle.lf_floor_model.proofs.Cases.{with_padding, PaddingAfter, AreLeft, EntriesAfter, Facts, IsChangeOf, accepted_is, macs_stay, names_stay, order_facts, part_stays}

pub false_true : false ≡ true → ⊥
false_true e = cc

-- ---- refusals

pub granted_plain : (reply : Reply) → is_ok reply ≡ true → is_short reply ≡ false
granted_plain (Refused refusal) granted = absurd (false_true granted)
granted_plain _ granted = refl

-- a reply that contains a revision is not a refusal
reported_granted : (reply : Reply) (revision : ℕ) → replied_revision reply ≡ Some revision → is_ok reply ≡ true
reported_granted (Refused refusal) revision reported = absurd cc
reported_granted _ revision reported = refl

-- the rules never have the outcome OutOfMemory
pub never_short : (t : TeamRules) (verb : TeamCommand (List ℕ) Place) (s : TeamState) → is_short (outcome_of t verb s).reply ≡ false
never_short t verb s = by (outcome_of t verb s) (order_facts t verb s) where
  by : (o : Outcome) → Facts t s verb o → is_short o.reply ≡ false
  by o (inl r) = ap (λ (o : Outcome). is_short o.reply) r.is ∙ r.plain
  by o (inr (inl look)) = granted_plain o.reply look.accepted
  by o (inr (inr done)) = granted_plain o.reply (reported_granted o.reply (s.revision + 1) done.is.reported)

-- if the outcome is a refusal, the team is unchanged
abbrev pub LeavesIfRefused : TeamState → Outcome → Type 0
LeavesIfRefused s o = (refusal : Refusal) → o.reply ≡ Refused refusal → o.team ≡ s

granted : (s : TeamState) (o : Outcome) → is_accepted o ≡ true → LeavesIfRefused s o
granted s o accepted refusal is = absurd (never (sym accepted ∙ ap is_ok is)) where
  never : true ≡ false → ⊥
  never e = cc

pub refusal_leaves : (t : TeamRules) (verb : TeamCommand (List ℕ) Place) (s : TeamState) → LeavesIfRefused s (outcome_of t verb s)
refusal_leaves t verb s = by (outcome_of t verb s) (order_facts t verb s) where
  by : (o : Outcome) → Facts t s verb o → LeavesIfRefused s o
  by o (inl r) = λ refusal is. ap (λ (o : Outcome). o.team) r.is
  by o (inr (inl look)) = granted s o look.accepted
  by o (inr (inr done)) = granted s o (reported_granted o.reply (s.revision + 1) done.is.reported)

-- ---- revisions

seen_set : (slots : List (Option ℕ)) (session old new : ℕ) → seen_at slots session ≡ Some old → seen_at (slice_set slots session (Some new)) session ≡ Some new
seen_set [] session old new e = absurd cc
seen_set (x ∷ xs) zero old new e = refl
seen_set (x ∷ xs) (suc k) old new e = seen_set xs k old new e

seen_other : (slots : List (Option ℕ)) (session other : ℕ) (new : Option ℕ) → other ≢ session
    → seen_at (slice_set slots session new) other ≡ seen_at slots other
seen_other [] session other new differ = refl
seen_other (x ∷ xs) zero zero new differ = absurd (differ refl)
seen_other (x ∷ xs) zero (suc other) new differ = refl
seen_other (x ∷ xs) (suc k) zero new differ = refl
seen_other (x ∷ xs) (suc k) (suc other) new differ = seen_other xs k other new (λ e. differ (ap suc e))

-- an accepted change is counted
pub change_counted : (t : TeamRules) (session : ℕ) (change : Change (List ℕ) Place) (s : TeamState) → is_accepted (outcome_of_asking t session change s) ≡ true
    → CountsOne t session s (outcome_of_asking t session change s)
change_counted t session change s accepted =
    let c = accepted_is t session change s accepted in
    record {
      allowed = c.allowed;
      counts = record {
        counted = ap (λ (n : TeamState). n.revision) c.team;
        reported = c.reported;
        seen = ap (λ (n : TeamState). seen_at n.slots session) c.team ∙ seen_set s.slots session s.revision (s.revision + 1) c.allowed.seen;
        others = λ other differ. ap (λ (n : TeamState). seen_at n.slots other) c.team ∙ seen_other s.slots session other (Some (s.revision + 1)) differ;
      };
    }

same_cells : (s : TeamState) (slots : List (Option ℕ)) → KeepsCells s (record s { slots = slots })
same_cells s slots = record { cells = refl; revision = refl; entries = refl; padding = refl }

-- if the verb is not a change, the cells are unchanged
pub look_kept : (t : TeamRules) (verb : TeamCommand (List ℕ) Place) (s : TeamState) → is_change verb ≡ false → KeepsCells s (outcome_of t verb s).team
look_kept t verb s no_change = by (outcome_of t verb s) (order_facts t verb s) where
  kept : (new : TeamState) (slots : List (Option ℕ)) → new ≡ record s { slots = slots } → KeepsCells s new
  kept new slots is = subst (λ (n : TeamState). KeepsCells s n) (sym is) (same_cells s slots)

  by : (o : Outcome) → Facts t s verb o → KeepsCells s o.team
  by o (inl r) = kept o.team s.slots (ap (λ (o : Outcome). o.team) r.is)
  by o (inr (inl look)) = elim look.team [ inl same ↦ kept o.team s.slots same | inr slot ↦ kept o.team _ slot.is ]
  by o (inr (inr done)) = absurd (false_true (sym no_change ∙ ap is_change done.order_is))

-- ---- a team of the frame

pub mac_at : (old new : List Cell) → map (λ c. c.mac) new ≡ map (λ c. c.mac) old → (i : ℕ) (d : Cell) → (get_or new i d).mac ≡ (get_or old i d).mac
mac_at [] [] same i d = refl
mac_at [] (c ∷ cs) same i d = absurd cc
mac_at (b ∷ bs) [] same i d = absurd cc
mac_at (b ∷ bs) (c ∷ cs) same zero d = cc
mac_at (b ∷ bs) (c ∷ cs) same (suc i) d =
    let rest : map (λ c. c.mac) cs ≡ map (λ c. c.mac) bs = cc in
    mac_at bs cs rest i d

pub same_length : (old new : List Cell) → map (λ c. c.mac) new ≡ map (λ c. c.mac) old → length new ≡ length old
same_length old new same = sym (length-map new (λ (c : Cell). c.mac)) ∙ ap length same ∙ length-map old (λ (c : Cell). c.mac)

pub sized_as : (f : Frame) (c d : Cell) → d.mac ≡ c.mac → IsSizedCell f c → IsSizedCell f d
sized_as f c d same h = record {
  known = rw same h.known;
  sized = rw same h.sized;
}

name_at : (old new : List Cell) → map (λ c. c.name) new ≡ map (λ c. c.name) old → (i : ℕ) (d : Cell) → (get_or new i d).name ≡ (get_or old i d).name
name_at [] [] same i d = refl
name_at [] (c ∷ cs) same i d = absurd cc
name_at (b ∷ bs) [] same i d = absurd cc
name_at (b ∷ bs) (c ∷ cs) same zero d = cc
name_at (b ∷ bs) (c ∷ cs) same (suc i) d =
    let rest : map (λ c. c.name) cs ≡ map (λ c. c.name) bs = cc in
    name_at bs cs rest i d

-- no slot has seen a revision above the present one
abbrev SeenPast : ℕ → List (Option ℕ) → Type 0
SeenPast revision slots = All (λ slot. IfSome slot (λ seen. seen ≤ revision)) slots

seen_later : (old new : ℕ) (slots : List (Option ℕ)) → old ≤ new → SeenPast old slots → SeenPast new slots
seen_later old new slots more past i d within = later (get_or slots i d) (past i d within) where
  later : (slot : Option ℕ) → IfSome slot (λ seen. seen ≤ old) → IfSome slot (λ seen. seen ≤ new)
  later None seen = tt
  later (Some seen) is = omega (arith, is, more)

-- the new cells have the old macros and names
record AreAlike (old new : List Cell) : Type 0 where
  macs : map (λ c. c.mac) new ≡ map (λ c. c.mac) old
  names : map (λ c. c.name) new ≡ map (λ c. c.name) old

-- a change to cells with the same macros and names, with complete entries within the limit
changed_team : (t : TeamRules) (s : TeamState) (session : ℕ) (cells : List Cell) (entries : List (List (Option Place))) → IsTeamOf t.frame s
    → s.revision < t.frame.limits.revisions → AreAlike s.cells cells
    → All (λ places. length places ≡ length s.cells) entries → length entries ≤ t.frame.limits.undo → IsTeamOf t.frame (changed session cells entries s).team
changed_team t s session cells entries h left alike whole few =
    let long = same_length s.cells cells alike.macs in
    record {
      sized = λ i d within. sized_as t.frame (get_or s.cells i d) (get_or cells i d) (mac_at s.cells cells alike.macs i d) (h.sized i d (rw long at within));
      printed = λ i d within. rw (name_at s.cells cells alike.names i d) (h.printed i d (rw long at within));
      names_differ = subst (λ (names : List (List ℕ)). AllPairs (λ a b. a ≢ b) names) (sym alike.names) h.names_differ;
      few_cells = rw long h.few_cells;
      all_slots = length-set s.slots session (Some (s.revision + 1)) ∙ h.all_slots;
      whole_entries = rw long whole;
      few_entries = few;
      few_revisions = omega (arith, left);
      seen_past =
          All-set (λ slot. IfSome slot (λ seen. seen ≤ s.revision + 1)) s.slots session (Some (s.revision + 1)) (omega arith)
          (seen_later s.revision (s.revision + 1) s.slots (omega arith) h.seen_past);
    }

-- another padding does not matter
padded_team : (t : TeamRules) (s : TeamState) (padding : ℕ) → IsTeamOf t.frame s → IsTeamOf t.frame (with_padding padding s)
padded_team t s padding h = record {
  sized = h.sized;
  printed = h.printed;
  names_differ = h.names_differ;
  few_cells = h.few_cells;
  all_slots = h.all_slots;
  whole_entries = h.whole_entries;
  few_entries = h.few_entries;
  few_revisions = h.few_revisions;
  seen_past = h.seen_past;
}

-- one slot is written, with a revision not above the present one
with_slot_team : (t : TeamRules) (s : TeamState) (session : ℕ) (seen : Option ℕ) → IfSome seen (λ n. n ≤ s.revision) → IsTeamOf t.frame s
    → IsTeamOf t.frame (with_session_slot session seen s)
with_slot_team t s session seen past h = record {
  sized = h.sized;
  printed = h.printed;
  names_differ = h.names_differ;
  few_cells = h.few_cells;
  all_slots = length-set s.slots session seen ∙ h.all_slots;
  whole_entries = h.whole_entries;
  few_entries = h.few_entries;
  few_revisions = h.few_revisions;
  seen_past = All-set (λ slot. IfSome slot (λ seen. seen ≤ s.revision)) s.slots session seen past h.seen_past;
}

-- undo entries have a place for each cell and are within the limit
abbrev AreWhole : TeamRules → TeamState → List (List (Option Place)) → Type 0
AreWhole t s entries = All (λ places. length places ≡ length s.cells) entries × (length entries ≤ t.frame.limits.undo)

-- the entries with the working places added as the newest
newest : (t : TeamRules) (s : TeamState) → IsTeamOf t.frame s → AreWhole t s (with_entry t.frame.limits s)
newest t s h =
    let whole = λ (places : List (Option Place)). length places ≡ length s.cells in
    let long : length (places_of s.cells) ≡ length s.cells = length-map s.cells (λ (c : Cell). c.working) in (
      All-take whole t.frame.limits.undo (places_of s.cells ∷ s.entries) (All-cons whole (places_of s.cells) s.entries long h.whole_entries),
      omega (arith, length-take t.frame.limits.undo (places_of s.cells ∷ s.entries)),
    )

-- the entries after the newest one
older : (t : TeamRules) (s : TeamState) (old : List (Option Place)) (entries : List (List (Option Place))) → s.entries ≡ old ∷ entries → IsTeamOf t.frame s
    → AreWhole t s entries
older t s old entries is h =
    let all : All (λ (places : List (Option Place)). length places ≡ length s.cells) (old ∷ entries) = rw is at h.whole_entries in
    (All-tail (λ (places : List (Option Place)). length places ≡ length s.cells) old entries all, omega (arith, ap length is, h.few_entries))

-- the entries after a change
entries_stay : (t : TeamRules) (s : TeamState) (change : Change (List ℕ) Place) (entries : List (List (Option Place))) → IsTeamOf t.frame s
    → EntriesAfter t s change entries → AreWhole t s entries
entries_stay t s change entries h after = by (is_recorded change) after where
  by : (b : Bool) → MatchBool b (entries ≡ with_entry t.frame.limits s) (AreLeft s entries) → AreWhole t s entries
  by true is = subst (λ (es : List (List (Option Place))). AreWhole t s es) (sym is) (newest t s h)
  by false (inl same) = subst (λ (es : List (List (Option Place))). AreWhole t s es) (sym same) (h.whole_entries, h.few_entries)
  by false (inr (old, is)) = older t s old entries is h

change_keeps : (t : TeamRules) (s : TeamState) (session : ℕ) (change : Change (List ℕ) Place) (o : Outcome) → IsTeamOf t.frame s → IsChangeOf t session change s o
    → IsTeamOf t.frame o.team
change_keeps t s session change o h c =
    let alike : AreAlike s.cells o.team.cells =
    record { macs = macs_stay t s change o.team.cells c.cells; names = names_stay t s change o.team.cells c.cells } in
    let entries = entries_stay t s change o.team.entries h c.entries in
    subst (λ (n : TeamState). IsTeamOf t.frame n) (sym c.team)
    (changed_team t (with_padding o.team.padding s) session o.team.cells o.team.entries (padded_team t s o.team.padding h) c.allowed.left alike entries.0 entries.1)

-- after any command a team of the frame is still a team of the frame
pub verb_keeps : (t : TeamRules) (verb : TeamCommand (List ℕ) Place) (s : TeamState) → IsTeamOf t.frame s → IsTeamOf t.frame (outcome_of t verb s).team
verb_keeps t verb s h = by (outcome_of t verb s) (order_facts t verb s) where
  kept : (new old : TeamState) → new ≡ old → IsTeamOf t.frame old → IsTeamOf t.frame new
  kept new old is known = subst (λ (n : TeamState). IsTeamOf t.frame n) (sym is) known

  by : (o : Outcome) → Facts t s verb o → IsTeamOf t.frame o.team
  by o (inl r) = kept o.team s (ap (λ (o : Outcome). o.team) r.is) h
  by o (inr (inl look)) = elim look.team [
    | inl same ↦ kept o.team s same h
    | inr slot ↦ kept o.team _ slot.is (with_slot_team t s slot.session slot.seen slot.past h)
  ]
  by o (inr (inr done)) = change_keeps t s done.session done.change o h done.is

-- ---- committed places

-- the committed places are unchanged, unless the verb is a commit
pub committed_stay : (t : TeamRules) (verb : TeamCommand (List ℕ) Place) (s : TeamState) → is_commit verb ≡ false
    → committed_places (outcome_of t verb s).team ≡ committed_places s
committed_stay t verb s other = by (outcome_of t verb s) (order_facts t verb s) where
  by : (o : Outcome) → Facts t s verb o → committed_places o.team ≡ committed_places s
  by o (inl r) = ap (λ (o : Outcome). committed_places o.team) r.is
  by o (inr (inl look)) = elim look.team [ inl same ↦ ap committed_places same | inr slot ↦ ap committed_places slot.is ]
  by o (inr (inr done)) = elim (part_stays (λ c. c.committed) (λ c p. refl) t s done.session done.change o.team.cells done.is.cells) [
    | inl same ↦ same
    | inr commits ↦ absurd (false_true (sym other ∙ ap is_commit done.order_is ∙ commits.0))
  ]

-- ---- the padding

-- the padding is unchanged, unless the verb is a pad
pub padding_stays : (t : TeamRules) (verb : TeamCommand (List ℕ) Place) (s : TeamState) → is_pad verb ≡ false → (outcome_of t verb s).team.padding ≡ s.padding
padding_stays t verb s other = by (outcome_of t verb s) (order_facts t verb s) where
  changes : (session : ℕ) (change : Change (List ℕ) Place) (new : ℕ) → is_pad (Within session (Changing change)) ≡ false → PaddingAfter change s new → new ≡ s.padding
  changes session (Pad padding) new plain after = absurd (false_true (sym plain))
  changes session _ new plain after = after

  by : (o : Outcome) → Facts t s verb o → o.team.padding ≡ s.padding
  by o (inl r) = ap (λ (o : Outcome). o.team.padding) r.is
  by o (inr (inl look)) = elim look.team [
    | inl same ↦ ap (λ (n : TeamState). n.padding) same
    | inr slot ↦ ap (λ (n : TeamState). n.padding) slot.is
  ]
  by o (inr (inr done)) = changes done.session done.change o.team.padding (ap is_pad (sym done.order_is) ∙ other) done.is.padding
