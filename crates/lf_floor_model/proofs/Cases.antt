-- The effects of each command: one case analysis of the outcomes, for all laws on them.
use Rattle.std.proofs.Common.{◌≡◌, ◌⊎◌, inl, inr, ℕ, zero, suc, ◌+◌, ◌≤◌, List, [], ◌∷◌, Bool, true, false, cond, eqb, ltb, Option, Some, None, map, refl, ap, sym, ◌∙◌, arith}
use Rattle.std.specs.Prelude.{IfSome, MatchBool, position, is_none}
use Rattle.std.proofs.lemmas.Bool.{eqb-true, ltb-true, false≢true}
use Rattle.lf_units.specs.declared.geometry.Point.{Point}
use Rattle.lf_floorplan.specs.declared.place.Place.{Place}
use Rattle.lf_rules.specs.declared.rule.Broken.{Broken}
use Rattle.lf_rules.specs.declared.padding.Padding.{Padding}
use Rattle.lf_rules.specs.Team.{Member}
use Rattle.lf_rules.specs.Tidy.{Tidied, Going, Stuck, tidied}
use Rattle.lf_proto.specs.declared.reply.Reply.{Reply}
use Rattle.lf_proto.specs.declared.reply.Reply.TheVariants.{Done, Opened, Revision, At, Report, Def as DefText, Refused}
use Rattle.lf_proto.specs.declared.reply.Refusal.{Refusal}
use Rattle.lf_proto.specs.declared.reply.Refusal.TheVariants.{NoSession, Stale, NoCell, Unplaced, Illegal, NoPlace, NothingToUndo, RevisionsSpent, SessionsFull}
use Rattle.lf_floor_model.specs.States.{TeamState}
use Rattle.lf_floor_model.specs.Teams.{TeamRules, broken_at}
use Rattle.lf_cells.specs.declared.cell.Cell.{Cell}
use Rattle.lf_cells.specs.Cells.{cell_named, moved, working_at, as_committed}
use Rattle.lf_legalize.specs.Members.{member_of}
use Rattle.lf_proto.specs.declared.request.TeamCommand.{TeamCommand}
use Rattle.lf_proto.specs.declared.request.TeamCommand.TheVariants.{Open, Within}
use Rattle.lf_proto.specs.declared.verb.Action.{Action}
use Rattle.lf_proto.specs.declared.verb.Action.TheVariants.{Close, Sync, Check, Def, Where, Find, Change as Changing}
use Rattle.lf_proto.specs.declared.verb.Change.{Change}
use Rattle.lf_proto.specs.declared.verb.Change.TheVariants.{Place as PlaceAt, Legalize, Tidy, Unplace, Swap, Undo, Commit, Revert, Pad}
use Rattle.lf_floor_model.specs.Outcomes.{Outcome, is_short, refused, changed, with_entry}
use Rattle.lf_floor_model.specs.Sessions.{seen_at, opened, opened_at, closed, synced}
use Rattle.lf_floor_model.specs.Queries.{checked, written, located, best_at, found}
use Rattle.lf_reports.specs.declared.broken_cell.BrokenCell.{BrokenCell}
use Rattle.lf_floor_model.specs.Changes.{placed, unplaced, legalized, restored, tidied_by, tidied_team, broken_where, exchanged, swapped, back_to_committed, reverted, undone_by, undone, padded, first_unplaced, broken_cells, committed_unless, committed, outcome_of_change}
use Rattle.lf_floor_model.specs.Verbs.{is_recorded, unless_stale, outcome_within, outcome_of, takes_memory, outcome_by_slot}
use Rattle.lf_floor_model.specs.VerbLaws.{MayChange, is_accepted, is_change, is_commit, replied_revision, outcome_of_asking}
use Rattle.lf_floor_model.proofs.Forms.{with_session_slot, located_own, located_at, found_own, found_at, placed_own, placed_unless, unplaced_own, unplaced_from, legalized_own, legalized_at, places_in, swapped_unless, swapped_from, swapped_own, unless_spent}

-- the command of a session's change
abbrev pub asking : ℕ → Change (List ℕ) Place → TeamCommand (List ℕ) Place
asking session change = Within session (Changing change)

-- ---- the cells after an accepted change

-- after place: the cell of that name is at the place and breaks no rule there
pub record ArePlaced (t : TeamRules) (s : TeamState) (name : List ℕ) (place : Place) (cells : List Cell) : Type 0 where
  pub own : ℕ
  pub named : cell_named name s.cells ≡ Some own
  pub unbroken : broken_at t s.cells own place ≡ None
  pub are : cells ≡ moved s.cells own (Some place)

-- after legalize: the cell of that name is at its best place
pub record AreLegalized (t : TeamRules) (s : TeamState) (name : List ℕ) (target : Point) (cells : List Cell) : Type 0 where
  pub own : ℕ
  pub place : Place
  pub named : cell_named name s.cells ≡ Some own
  pub best : best_at t s.cells own target ≡ Some place
  pub are : cells ≡ moved s.cells own (Some place)

-- after tidy: the cells are at the places that tidying finds
pub record AreTidied (t : TeamRules) (s : TeamState) (cells : List Cell) : Type 0 where
  pub members : List Member
  pub count : ℕ
  pub tidies : tidied t.legalizer t.frame t.number t.padding (map member_of s.cells) ≡ Going members count
  pub are : cells ≡ restored (places_in members) s.cells

-- after unplace: one cell is unplaced
pub record AreUnplaced (s : TeamState) (cells : List Cell) : Type 0 where
  pub own : ℕ
  pub are : cells ≡ moved s.cells own None

-- after swap: the cells of these names, both placed, have exchanged their places and break no rule
-- there
pub record AreSwapped (t : TeamRules) (s : TeamState) (name other : List ℕ) (cells : List Cell) : Type 0 where
  pub first : ℕ
  pub second : ℕ
  pub place : Place
  pub place' : Place
  pub named : cell_named name s.cells ≡ Some first
  pub named' : cell_named other s.cells ≡ Some second
  pub is_in_place : working_at s.cells first ≡ Some place
  pub is_in_place' : working_at s.cells second ≡ Some place'
  pub unbroken : broken_where t (exchanged s.cells first second) first ≡ None
  pub unbroken' : broken_where t (exchanged s.cells first second) second ≡ None
  pub are : cells ≡ exchanged s.cells first second

-- after undo: the cells have the places of an undo entry
pub record AreRestored (s : TeamState) (cells : List Cell) : Type 0 where
  pub old : List (Option Place)
  pub are : cells ≡ restored old s.cells

-- after commit: the working places are committed, and every cell was placed and broke no rule
pub record AreCommitted (t : TeamRules) (s : TeamState) (cells : List Cell) : Type 0 where
  pub placed : first_unplaced s.cells ≡ None
  pub unbroken : broken_cells t s.cells ≡ []
  pub are : cells ≡ map as_committed s.cells

-- the cells after an accepted change
abbrev pub CellsAfter : TeamRules → TeamState → Change (List ℕ) Place → List Cell → Type 0
CellsAfter t s (PlaceAt name place) cells = ArePlaced t s name place cells
CellsAfter t s (Legalize name target) cells = AreLegalized t s name target cells
CellsAfter t s Tidy cells = AreTidied t s cells
CellsAfter t s (Unplace name) cells = AreUnplaced s cells
CellsAfter t s (Swap name other) cells = AreSwapped t s name other cells
CellsAfter t s Undo cells = AreRestored s cells
CellsAfter t s Commit cells = AreCommitted t s cells
CellsAfter t s Revert cells = cells ≡ map back_to_committed s.cells
CellsAfter t s (Pad padding) cells = cells ≡ s.cells

-- ---- what a change keeps of the cells

-- a part of a cell that does not depend on its working place
abbrev pub IsFixed : {X : Type 0} → (Cell → X) → Type 0
IsFixed part = (c : Cell) (place : Option Place) → part (record c { working = place }) ≡ part c

pub moved_part : {X : Type 0} (part : Cell → X) → IsFixed part → (cells : List Cell) (own : ℕ) (place : Option Place)
    → map part (moved cells own place) ≡ map part cells
moved_part part fixed [] own place = refl
moved_part part fixed (c ∷ cs) zero place = ap (λ x. x ∷ map part cs) (fixed c place)
moved_part part fixed (c ∷ cs) (suc own) place = ap (λ xs. part c ∷ xs) (moved_part part fixed cs own place)

restored_part : {X : Type 0} (part : Cell → X) → IsFixed part → (places : List (Option Place)) (cells : List Cell)
    → map part (restored places cells) ≡ map part cells
restored_part part fixed [] cells = refl
restored_part part fixed (place ∷ places) [] = refl
restored_part part fixed (place ∷ places) (c ∷ cs) =
    ap (λ x. x ∷ map part (restored places cs)) (fixed c place) ∙ ap (λ xs. part c ∷ xs) (restored_part part fixed places cs)

back_part : {X : Type 0} (part : Cell → X) → IsFixed part → (cells : List Cell) → map part (map back_to_committed cells) ≡ map part cells
back_part part fixed [] = refl
back_part part fixed (c ∷ cs) = ap (λ x. x ∷ map part (map back_to_committed cs)) (fixed c c.committed) ∙ ap (λ xs. part c ∷ xs) (back_part part fixed cs)

pub exchanged_part : {X : Type 0} (part : Cell → X) → IsFixed part → (cells : List Cell) (first second : ℕ)
    → map part (exchanged cells first second) ≡ map part cells
exchanged_part part fixed cells first second =
    moved_part part fixed (moved cells first (working_at cells second)) second (working_at cells first)
    ∙ moved_part part fixed cells first (working_at cells second)

committed_macs : (cells : List Cell) → map (λ c. c.mac) (map as_committed cells) ≡ map (λ c. c.mac) cells
committed_macs [] = refl
committed_macs (c ∷ cs) = ap (λ xs. c.mac ∷ xs) (committed_macs cs)

committed_names : (cells : List Cell) → map (λ c. c.name) (map as_committed cells) ≡ map (λ c. c.name) cells
committed_names [] = refl
committed_names (c ∷ cs) = ap (λ xs. c.name ∷ xs) (committed_names cs)

-- a change keeps this part of each cell, or is a commit
pub part_stays : {X : Type 0} (part : Cell → X) → IsFixed part → (t : TeamRules) (s : TeamState) (session : ℕ) (change : Change (List ℕ) Place) (cells : List Cell)
    → CellsAfter t s change cells → (map part cells ≡ map part s.cells) ⊎ ((is_commit (asking session change) ≡ true) × AreCommitted t s cells)
part_stays part fixed t s session (PlaceAt name place) cells after = inl (ap (map part) after.are ∙ moved_part part fixed s.cells after.own (Some place))
part_stays part fixed t s session (Legalize name target) cells after =
    inl (ap (map part) after.are ∙ moved_part part fixed s.cells after.own (Some after.place))
part_stays part fixed t s session Tidy cells after = inl (ap (map part) after.are ∙ restored_part part fixed (places_in after.members) s.cells)
part_stays part fixed t s session (Unplace name) cells after = inl (ap (map part) after.are ∙ moved_part part fixed s.cells after.own None)
part_stays part fixed t s session (Swap name other) cells after =
    inl (ap (map part) after.are ∙ exchanged_part part fixed s.cells after.first after.second)
part_stays part fixed t s session Undo cells after = inl (ap (map part) after.are ∙ restored_part part fixed after.old s.cells)
part_stays part fixed t s session Commit cells after = inr (refl, after)
part_stays part fixed t s session Revert cells after = inl (ap (map part) after ∙ back_part part fixed s.cells)
part_stays part fixed t s session (Pad padding) cells after = inl (ap (map part) after)

-- a change keeps the macros of the cells
pub macs_stay : (t : TeamRules) (s : TeamState) (change : Change (List ℕ) Place) (cells : List Cell) → CellsAfter t s change cells
    → map (λ c. c.mac) cells ≡ map (λ c. c.mac) s.cells
macs_stay t s change cells after = elim (part_stays (λ c. c.mac) (λ c p. refl) t s 0 change cells after) [
  | inl same ↦ same
  | inr commits ↦ ap (map (λ (c : Cell). c.mac)) commits.1.are ∙ committed_macs s.cells
]

-- a change keeps the names of the cells
pub names_stay : (t : TeamRules) (s : TeamState) (change : Change (List ℕ) Place) (cells : List Cell) → CellsAfter t s change cells
    → map (λ c. c.name) cells ≡ map (λ c. c.name) s.cells
names_stay t s change cells after = elim (part_stays (λ c. c.name) (λ c p. refl) t s 0 change cells after) [
  | inl same ↦ same
  | inr commits ↦ ap (map (λ (c : Cell). c.name)) commits.1.are ∙ committed_names s.cells
]

-- ---- what is known of an outcome

-- the undo entries are the old ones, with or without the newest
abbrev pub AreLeft : TeamState → List (List (Option Place)) → Type 0
AreLeft s entries = (entries ≡ s.entries) ⊎ ((old : List (Option Place)) × (s.entries ≡ old ∷ entries))

-- the undo entries after an accepted change; they depend on whether undo reverts it
abbrev pub EntriesAfter : TeamRules → TeamState → Change (List ℕ) Place → List (List (Option Place)) → Type 0
EntriesAfter t s change entries = MatchBool (is_recorded change) (entries ≡ with_entry t.frame.limits s) (AreLeft s entries)

-- the padding after an accepted change: that of a pad, otherwise the old one
abbrev pub PaddingAfter : Change (List ℕ) Place → TeamState → ℕ → Type 0
PaddingAfter (Pad padding) s new = new ≡ padding.sites
PaddingAfter _ s new = new ≡ s.padding

-- the team with another padding
abbrev pub with_padding : ℕ → TeamState → TeamState
with_padding padding s = record s { padding = padding }

-- an accepted change: the session may make it; the revision is one more, the reply contains it and
-- the session has seen it; cells, undo entries and padding are those after this change
pub record IsChangeOf (t : TeamRules) (session : ℕ) (change : Change (List ℕ) Place) (s : TeamState) (o : Outcome) : Type 0 where
  pub allowed : MayChange t session s
  pub reported : replied_revision o.reply ≡ Some (s.revision + 1)
  pub team : o.team ≡ (changed session o.team.cells o.team.entries (with_padding o.team.padding s)).team
  pub cells : CellsAfter t s change o.team.cells
  pub entries : EntriesAfter t s change o.team.entries
  pub padding : PaddingAfter change s o.team.padding

-- a refusal for a reason other than memory
pub record IsRefusal (s : TeamState) (o : Outcome) : Type 0 where
  pub refusal : Refusal
  pub plain : is_short (Refused refusal) ≡ false
  pub is : o ≡ refused refusal s

-- one session's slot is replaced, and its session has seen no revision above the present one
pub record HasSlot (s new : TeamState) : Type 0 where
  pub session : ℕ
  pub seen : Option ℕ
  pub past : IfSome seen (λ n. n ≤ s.revision)
  pub is : new ≡ with_session_slot session seen s

-- the reply contains a report or a DEF text
abbrev pub has_text : Reply → Bool
has_text (Report text) = true
has_text (DefText text) = true
has_text _ = false

-- an accepted command that is not a change: at most one slot differs; only a command that may
-- allocate has a text as its reply, and then the team is unchanged
pub record IsLook (s : TeamState) (order : TeamCommand (List ℕ) Place) (o : Outcome) : Type 0 where
  pub look : is_change order ≡ false
  pub accepted : is_accepted o ≡ true
  pub team : (o.team ≡ s) ⊎ HasSlot s o.team
  pub text : has_text o.reply ≡ true → (o.team ≡ s) × (takes_memory order ≡ true)

-- the command is a change, and it is accepted
pub record IsDone (t : TeamRules) (s : TeamState) (order : TeamCommand (List ℕ) Place) (o : Outcome) : Type 0 where
  pub session : ℕ
  pub change : Change (List ℕ) Place
  pub order_is : order ≡ asking session change
  pub is : IsChangeOf t session change s o

-- an outcome is a refusal, a query or a change
abbrev pub Facts : TeamRules → TeamState → TeamCommand (List ℕ) Place → Outcome → Type 0
Facts t s order o = IsRefusal s o ⊎ (IsLook s order o ⊎ IsDone t s order o)

-- ---- the changes

-- the outcome of a change is a refusal or a change
abbrev Ends : TeamRules → TeamState → ℕ → Change (List ℕ) Place → Outcome → Type 0
Ends t s session change o = IsRefusal s o ⊎ IsChangeOf t session change s o

module _ (t : TeamRules) (s : TeamState) (session : ℕ) where
  denied : (change : Change (List ℕ) Place) (r : Refusal) → is_short (Refused r) ≡ false → Ends t s session change (refused r s)
  denied change r plain = inl (record { refusal = r; plain = plain; is = refl })

  module _ (may : MayChange t session s) where
    done : (change : Change (List ℕ) Place) (reply : Reply) (cells : List Cell) (entries : List (List (Option Place)))
        → replied_revision reply ≡ Some (s.revision + 1) → PaddingAfter change s s.padding → CellsAfter t s change cells → EntriesAfter t s change entries
        → Ends t s session change (record { reply = reply; team = (changed session cells entries s).team })
    done change reply cells entries reported same after left =
        inr (record { allowed = may; reported = reported; team = refl; cells = after; entries = left; padding = same })

    placed_by : (name : List ℕ) (place : Place) → Ends t s session (PlaceAt name place) (placed t session name place s)
    unfolding placed
    placed_by name place = own (cell_named name s.cells) refl where
      unless : (n : ℕ) (b : Option Broken) → cell_named name s.cells ≡ Some n → broken_at t s.cells n place ≡ b
          → Ends t s session (PlaceAt name place) (placed_unless b n t.frame.limits session place s)
      unless n None named e = done (PlaceAt name place) _ _ _ refl refl (record { own = n; named = named; unbroken = e; are = refl }) refl
      unless n (Some b) named e = denied _ (Illegal b.rule n b.other) refl

      own : (o : Option ℕ) → cell_named name s.cells ≡ o → Ends t s session (PlaceAt name place) (placed_own o t session place s)
      own None named = denied _ NoCell refl
      own (Some n) named = unless n (broken_at t s.cells n place) named refl

    legalized_by : (name : List ℕ) (target : Point) → Ends t s session (Legalize name target) (legalized t session name target s)
    unfolding legalized
    legalized_by name target = own (cell_named name s.cells) refl where
      at : (n : ℕ) (o : Option Place) → cell_named name s.cells ≡ Some n → best_at t s.cells n target ≡ o
          → Ends t s session (Legalize name target) (legalized_at o t session n s)
      at n None named e = denied _ (NoPlace n) refl
      at n (Some place) named e =
          done (Legalize name target) _ _ _ refl refl (record { own = n; place = place; named = named; best = e; are = refl }) refl

      own : (o : Option ℕ) → cell_named name s.cells ≡ o → Ends t s session (Legalize name target) (legalized_own o t session target s)
      own None named = denied _ NoCell refl
      own (Some n) named = at n (best_at t s.cells n target) named refl

    tidied_all : Ends t s session Tidy (tidied_team t session s)
    unfolding tidied_team
    tidied_all = go (tidied t.legalizer t.frame t.number t.padding (map member_of s.cells)) refl where
      go : (d : Tidied) → tidied t.legalizer t.frame t.number t.padding (map member_of s.cells) ≡ d → Ends t s session Tidy (tidied_by d t session s)
      go (Stuck n) e = denied _ (NoPlace n) refl
      go (Going members count) e = done Tidy _ _ _ refl refl (record { members = members; count = count; tidies = e; are = refl }) refl

    unplaced_by : (name : List ℕ) → Ends t s session (Unplace name) (unplaced t.frame.limits session name s)
    unfolding unplaced
    unplaced_by name = own (cell_named name s.cells) where
      from : (p : Option Place) (n : ℕ) → Ends t s session (Unplace name) (unplaced_from p n t.frame.limits session s)
      from None n = denied _ (Unplaced n) refl
      from (Some p) n = done (Unplace name) _ _ _ refl refl (record { own = n; are = refl }) refl

      own : (o : Option ℕ) → Ends t s session (Unplace name) (unplaced_own o t.frame.limits session s)
      own None = denied _ NoCell refl
      own (Some n) = from (working_at s.cells n) n

    module _ (name other : List ℕ) (n m : ℕ) (first : cell_named name s.cells ≡ Some n) (second : cell_named other s.cells ≡ Some m) where
      swap_unless : (p q : Place) → working_at s.cells n ≡ Some p → working_at s.cells m ≡ Some q → (b c : Option Broken)
          → broken_where t (exchanged s.cells n m) n ≡ b → broken_where t (exchanged s.cells n m) m ≡ c
          → Ends t s session (Swap name other) (swapped_unless b c t session n m (exchanged s.cells n m) s)
      swap_unless p q at_n at_m (Some b) c e_b e_c = denied _ (Illegal b.rule n b.other) refl
      swap_unless p q at_n at_m None (Some c) e_b e_c = denied _ (Illegal c.rule m c.other) refl
      swap_unless p q at_n at_m None None e_b e_c = done (Swap name other) _ _ _ refl refl record {
        first = n;
        second = m;
        place = p;
        place' = q;
        named = first;
        named' = second;
        is_in_place = at_n;
        is_in_place' = at_m;
        unbroken = e_b;
        unbroken' = e_c;
        are = refl;
      } refl

      swap_from : (p q : Option Place) → working_at s.cells n ≡ p → working_at s.cells m ≡ q
          → Ends t s session (Swap name other) (swapped_from p q t session n m s)
      swap_from None q at_n at_m = denied _ (Unplaced n) refl
      swap_from (Some p) None at_n at_m = denied _ (Unplaced m) refl
      swap_from (Some p) (Some q) at_n at_m =
          swap_unless p q at_n at_m (broken_where t (exchanged s.cells n m) n) (broken_where t (exchanged s.cells n m) m) refl refl

    swapped_by : (name other : List ℕ) → Ends t s session (Swap name other) (swapped t session name other s)
    unfolding swapped
    swapped_by name other = own (cell_named name s.cells) (cell_named other s.cells) refl refl where
      own : (a b : Option ℕ) → cell_named name s.cells ≡ a → cell_named other s.cells ≡ b
          → Ends t s session (Swap name other) (swapped_own a b t session s)
      own None b first second = denied _ NoCell refl
      own (Some n) None first second = denied _ NoCell refl
      own (Some n) (Some m) first second = swap_from name other n m first second (working_at s.cells n) (working_at s.cells m) refl refl

    undone_all : Ends t s session Undo (undone session s)
    unfolding undone
    undone_all = go s.entries refl where
      go : (entries : List (List (Option Place))) → s.entries ≡ entries → Ends t s session Undo (undone_by entries session s)
      go [] e = denied _ NothingToUndo refl
      go (old ∷ entries) e = done Undo _ _ _ refl refl (record { old = old; are = refl }) (inr (old, e))

    committed_all : Ends t s session Commit (committed t session s)
    unfolding committed
    committed_all = go (first_unplaced s.cells) (broken_cells t s.cells) refl refl where
      go : (o : Option ℕ) (bs : List BrokenCell) → first_unplaced s.cells ≡ o → broken_cells t s.cells ≡ bs
          → Ends t s session Commit (committed_unless o bs session s)
      go (Some n) bs u b = denied _ (Unplaced n) refl
      go None (c ∷ cs) u b = denied _ (Illegal c.broken.rule c.own c.broken.other) refl
      go None [] u b = done Commit _ _ _ refl refl (record { placed = u; unbroken = b; are = refl }) (inl refl)

    reverted_all : Ends t s session Revert (reverted t session s)
    unfolding reverted
    reverted_all = done Revert _ _ _ refl refl refl refl

    padded_by : (padding : Padding) → Ends t s session (Pad padding) (padded padding session s)
    unfolding padded
    padded_by padding = inr (record { allowed = may; reported = refl; team = refl; cells = refl; entries = inl refl; padding = refl })

    change_by : (change : Change (List ℕ) Place) → Ends t s session change (outcome_of_change t session change s)
    change_by (PlaceAt name place) = placed_by name place
    change_by (Legalize name target) = legalized_by name target
    change_by Tidy = tidied_all
    change_by (Unplace name) = unplaced_by name
    change_by (Swap name other) = swapped_by name other
    change_by Undo = undone_all
    change_by Commit = committed_all
    change_by Revert = reverted_all
    change_by (Pad padding) = padded_by padding

  spent_by : (change : Change (List ℕ) Place) → seen_at s.slots session ≡ Some s.revision → Ends t s session change (unless_spent t session change s)
  spent_by change seen = go (ltb s.revision t.frame.limits.revisions) refl where
    go : (b : Bool) → ltb s.revision t.frame.limits.revisions ≡ b
        → Ends t s session change (cond b (outcome_of_change t session change s) (refused RevisionsSpent s))
    go true left = change_by (record { seen = seen; left = ltb-true s.revision t.frame.limits.revisions left }) change
    go false left = denied change RevisionsSpent refl

  stale_by : (change : Change (List ℕ) Place) (seen : ℕ) → seen_at s.slots session ≡ Some seen → Ends t s session change (unless_stale seen t session change s)
  stale_by change seen has_seen = go (eqb seen s.revision) refl where
    go : (b : Bool) → eqb seen s.revision ≡ b → Ends t s session change (cond b (unless_spent t session change s) (refused (Stale s.revision) s))
    go true same = spent_by change (has_seen ∙ ap (λ (n : ℕ). Some n) (eqb-true seen s.revision same))
    go false same = denied change (Stale s.revision) refl

  slot_by : (change : Change (List ℕ) Place) (o : Option ℕ) → seen_at s.slots session ≡ o → Ends t s session change (outcome_by_slot o t session (Changing change) s)
  slot_by change None seen = denied change NoSession refl
  slot_by change (Some n) seen = stale_by change n seen

-- a change is refused or done
requested_by : (t : TeamRules) (session : ℕ) (change : Change (List ℕ) Place) (s : TeamState) → Ends t s session change (outcome_of_asking t session change s)
requested_by t session change s = slot_by t s session change (seen_at s.slots session) refl

-- an accepted change is done
pub accepted_is : (t : TeamRules) (session : ℕ) (change : Change (List ℕ) Place) (s : TeamState) → is_accepted (outcome_of_asking t session change s) ≡ true
    → IsChangeOf t session change s (outcome_of_asking t session change s)
accepted_is t session change s accepted = by (requested_by t session change s) where
  by : Ends t s session change (outcome_of_asking t session change s) → IsChangeOf t session change s (outcome_of_asking t session change s)
  by (inl r) = absurd (false≢true (sym (ap is_accepted r.is) ∙ accepted))
  by (inr is) = is

-- ---- the commands

module _ (t : TeamRules) (s : TeamState) where
  refuse : (order : TeamCommand (List ℕ) Place) (r : Refusal) → is_short (Refused r) ≡ false → Facts t s order (refused r s)
  refuse order r plain = inl (record { refusal = r; plain = plain; is = refl })

  -- the reply contains no text, and the team is unchanged
  decides : (order : TeamCommand (List ℕ) Place) (reply : Reply) → is_change order ≡ false → is_accepted (record { reply = reply; team = s }) ≡ true → has_text reply ≡ false
      → Facts t s order (record { reply = reply; team = s })
  decides order reply look accepted short =
      inr (inl (record { look = look; accepted = accepted; team = inl refl; text = λ long. absurd (false≢true (sym short ∙ long)) }))

  -- the reply contains a text
  shows : (order : TeamCommand (List ℕ) Place) (reply : Reply) → is_change order ≡ false → is_accepted (record { reply = reply; team = s }) ≡ true → takes_memory order ≡ true
      → Facts t s order (record { reply = reply; team = s })
  shows order reply look accepted takes = inr (inl (record { look = look; accepted = accepted; team = inl refl; text = λ long. (refl, takes) }))

  -- the session's slot is replaced
  slots : (order : TeamCommand (List ℕ) Place) (reply : Reply) (session : ℕ) (seen : Option ℕ) → is_change order ≡ false
      → is_accepted (record { reply = reply; team = with_session_slot session seen s }) ≡ true → has_text reply ≡ false → IfSome seen (λ n. n ≤ s.revision)
      → Facts t s order (record { reply = reply; team = with_session_slot session seen s })
  slots order reply session seen look accepted short past = inr (inl (record {
    look = look;
    accepted = accepted;
    team = inr (record { session = session; seen = seen; past = past; is = refl });
    text = λ long. absurd (false≢true (sym short ∙ long));
  }))

  opened_by : Facts t s Open (opened s)
  unfolding opened
  opened_by = go (position is_none s.slots) where
    go : (o : Option ℕ) → Facts t s Open (opened_at o s)
    go None = refuse Open SessionsFull refl
    go (Some session) = slots Open (Opened session s.revision) session (Some s.revision) refl refl refl (omega arith)

  located_by : (session : ℕ) (name : List ℕ) → Facts t s (Within session (Where name)) (located name s)
  unfolding located
  located_by session name = own (cell_named name s.cells) where
    at : (o : Option Place) (n : ℕ) → Facts t s (Within session (Where name)) (located_at o n s)
    at None n = refuse _ (Unplaced n) refl
    at (Some place) n = decides _ (At place) refl refl refl

    own : (o : Option ℕ) → Facts t s (Within session (Where name)) (located_own o s)
    own None = refuse _ NoCell refl
    own (Some n) = at (working_at s.cells n) n

  found_by : (session : ℕ) (name : List ℕ) (target : Point) → Facts t s (Within session (Find name target)) (found t name target s)
  unfolding found
  found_by session name target = own (cell_named name s.cells) where
    at : (o : Option Place) (n : ℕ) → Facts t s (Within session (Find name target)) (found_at o n s)
    at None n = refuse _ (NoPlace n) refl
    at (Some place) n = decides _ (At place) refl refl refl

    own : (o : Option ℕ) → Facts t s (Within session (Find name target)) (found_own o t target s)
    own None = refuse _ NoCell refl
    own (Some n) = at (best_at t s.cells n target) n

  session_by : (session seen : ℕ) (action : Action (List ℕ) Place) → seen_at s.slots session ≡ Some seen
      → Facts t s (Within session action) (outcome_within seen t session action s)
  unfolding closed synced checked written
  session_by session seen Close has_seen = slots _ Done session None refl refl refl tt
  session_by session seen Sync has_seen = slots _ (Revision s.revision) session (Some s.revision) refl refl refl (omega arith)
  session_by session seen Check has_seen = shows _ _ refl refl refl
  session_by session seen Def has_seen = shows _ _ refl refl refl
  session_by session seen (Where name) has_seen = located_by session name
  session_by session seen (Find name target) has_seen = found_by session name target
  session_by session seen (Changing change) has_seen = elim (stale_by t s session change seen has_seen) [
    | inl r ↦ inl r
    | inr is ↦ inr (inr (record { session = session; change = change; order_is = refl; is = is }))
  ]

  action_by : (session : ℕ) (action : Action (List ℕ) Place) (o : Option ℕ) → seen_at s.slots session ≡ o
      → Facts t s (Within session action) (outcome_by_slot o t session action s)
  action_by session action None seen = refuse _ NoSession refl
  action_by session action (Some n) seen = session_by session n action seen

-- the case of the outcome of any command
pub order_facts : (t : TeamRules) (order : TeamCommand (List ℕ) Place) (s : TeamState) → Facts t s order (outcome_of t order s)
order_facts t Open s = opened_by t s
order_facts t (Within session action) s = action_by t s session action (seen_at s.slots session) refl
