-- The outcome of each verb on two frames that are alike.
use Rattle.std.proofs.Common.{◌≡◌, ℕ, ◌+◌, List, [], ◌∷◌, Bool, true, false, cond, map, Option, Some, None, refl, ap, ◌∙◌, subst, eqb, ltb}
use Rattle.std.specs.Prelude.{position, is_none, option_and_then, take}
use Rattle.std.specs.List.{AllZip}
use Rattle.lf_units.specs.declared.geometry.Point.{Point}
use Rattle.lf_floorplan.specs.declared.frame.Frame.{Frame}
use Rattle.lf_floorplan.specs.declared.limits.Limits.{Limits}
use Rattle.lf_floorplan.specs.declared.place.Place.{Place}
use Rattle.lf_rules.specs.declared.rule.Broken.{Broken}
use Rattle.lf_rules.specs.declared.report_types.Report.{Report as RulesReport}
use Rattle.lf_rules.specs.declared.padding.Padding.{Padding}
use Rattle.lf_rules.specs.Choice.{SpotPlace, BestPlaceIsUnique}
use Rattle.lf_rules.specs.Legalizer.{Legalizer, VerdictIsUnique}
use Rattle.lf_rules.specs.Team.{Member}
use Rattle.lf_rules.specs.Tidy.{Tidied, Going, Stuck, tidied}
use Rattle.lf_reports.specs.declared.broken_cell.BrokenCell.{BrokenCell}
use Rattle.lf_proto.specs.ReportText.{report_text}
use Rattle.lf_proto.specs.declared.request.TeamCommand.{TeamCommand}
use Rattle.lf_proto.specs.declared.request.TeamCommand.TheVariants.{Open, Within}
use Rattle.lf_proto.specs.declared.verb.Action.{Action}
use Rattle.lf_proto.specs.declared.verb.Action.TheVariants.{Close, Sync, Check, Def, Where, Find, Change as Changing}
use Rattle.lf_proto.specs.declared.verb.Change.{Change}
use Rattle.lf_proto.specs.declared.verb.Change.TheVariants.{Place as PlaceAt, Legalize, Tidy, Unplace, Swap, Undo, Commit, Revert, Pad}
use Rattle.lf_proto.specs.declared.reply.Reply.{Reply}
use Rattle.lf_proto.specs.declared.reply.Reply.TheVariants.{Legalized, Tidied as TidyDone, Report, Def as DefText}
use Rattle.lf_proto.specs.declared.reply.Refusal.{Refusal}
use Rattle.lf_proto.specs.declared.reply.Refusal.TheVariants.{NoSession, SessionsFull, Stale, RevisionsSpent, NoCell, Unplaced, Illegal, NoPlace, NothingToUndo}
use Rattle.lf_cells.specs.declared.cell.Cell.{Cell}
use Rattle.lf_cells.specs.Cells.{cell_named, moved, working_at, as_committed}
use Rattle.lf_legalize.specs.Members.{member_of}
use Rattle.lf_floor_model.specs.States.{TeamState}
use Rattle.lf_floor_model.specs.Teams.{TeamRules, team_rules, broken_at}
use Rattle.lf_floor_model.specs.Outcomes.{Outcome, refused, changed, with_entry, recorded, with_reply}
use Rattle.lf_floor_model.specs.Sessions.{seen_at, opened, opened_at, closed, synced}
use Rattle.lf_floor_model.specs.Queries.{place_of_spot, checked, written, located, best_at, found}
use Rattle.lf_floor_model.specs.Changes.{placed, unplaced, legalized, restored, tidied_by, tidied_team, broken_where, exchanged, swapped_to, swapped, back_to_committed, reverted, undone_by, undone, padded, first_unplaced, broken_cells, committed_unless, committed, outcome_of_change}
use Rattle.lf_floor_model.specs.Verbs.{unless_stale, outcome_within, outcome_of, outcome_by_slot}
use Rattle.lf_floor_model.proofs.Forms.{located_own, located_at, found_own, found_at, placed_own, placed_unless, unplaced_own, unplaced_from, legalized_own, legalized_at, places_in, swapped_unless, swapped_from, swapped_own, unless_spent}
use Rattle.lf_laws_slices.specs.Alike.{AreFramesAlike}
use Rattle.lf_laws_slices.proofs.Zips.{zip_same}
use Rattle.lf_laws_slices.proofs.Members.{AreMembersAlike}
use Rattle.lf_laws_slices.proofs.Tidying.{AreTidiedAlike, tidied_same}
use Rattle.lf_laws_slices.proofs.Cells.{AreAllAlike, members_alike, named_same, unplaced_same, working_same, places_same, moved_alike, restored_alike, exchanged_alike, committed_alike, back_alike}
use Rattle.lf_laws_slices.proofs.Looks.{broken_same, where_same, broken_cells_same, best_place_same, report_same, text_same}

-- the team, with other cells
abbrev pub with_cells : List Cell → TeamState → TeamState
with_cells cells s = record s { cells = cells }

-- the second outcome has the same reply, and its team differs in the cells alone, which are alike
pub record Matches (f g : Frame) (o p : Outcome) : Type 0 where
  pub reply : o.reply ≡ p.reply
  pub cells : AreAllAlike f g o.team.cells p.team.cells
  pub team : with_cells p.team.cells o.team ≡ p.team

-- ---- changes of one team

module _ (f g : Frame) where
  -- a refusal
  left : (refusal : Refusal) (s : TeamState) (ds : List Cell) → AreAllAlike f g s.cells ds → Matches f g (refused refusal s) (refused refusal (with_cells ds s))
  left refusal s ds z = record { reply = refl; cells = z; team = refl }

  -- a change to these cells and undo entries, with one revision more
  gone : (session : ℕ) (cs' ds' : List Cell) (entries entries' : List (List (Option Place))) (s : TeamState) (ds : List Cell)
      → AreAllAlike f g cs' ds' → entries ≡ entries'
      → Matches f g (changed session cs' entries s) (changed session ds' entries' (with_cells ds s))
  gone session cs' ds' entries entries' s ds z same =
      subst (λ (es : List (List (Option Place))). Matches f g (changed session cs' entries s) (changed session ds' es (with_cells ds s))) same
      record { reply = refl; cells = z; team = refl }

  -- the same outcomes with another reply
  said : (reply : Reply) (o p : Outcome) → Matches f g o p → Matches f g (with_reply reply o) (with_reply reply p)
  said reply o p m = record { reply = refl; cells = m.cells; team = m.team }

-- ---- verbs

module _ (verdict_one : VerdictIsUnique) (choice_one : BestPlaceIsUnique) (l l' : Legalizer) (f g : Frame) (a : AreFramesAlike f g) (number padding : ℕ) where
  abbrev t : TeamRules
  t = team_rules l f number padding

  abbrev u : TeamRules
  u = team_rules l' g number padding

  -- a team over f, and the same team with cells over g
  module _ (s : TeamState) (ds : List Cell) (z : AreAllAlike f g s.cells ds) where
    abbrev s' : TeamState
    s' = with_cells ds s

    entry_same : with_entry f.limits s ≡ with_entry g.limits s'
    entry_same =
        ap (λ (limits : Limits). with_entry limits s) a.limits
        ∙ ap (λ (places : List (Option Place)). take g.limits.undo (places ∷ s.entries)) (places_same f g s.cells ds z)

    -- a change that can be undone
    kept : (session : ℕ) (cs' ds' : List Cell) → AreAllAlike f g cs' ds' → Matches f g (recorded t session cs' s) (recorded u session ds' s')
    kept session cs' ds' alike = gone f g session cs' ds' (with_entry f.limits s) (with_entry g.limits s') s ds alike entry_same

    refuse : (refusal : Refusal) → Matches f g (refused refusal s) (refused refusal s')
    refuse refusal = left f g refusal s ds z

    -- ---- sessions

    opens : Matches f g (opened s) (opened s')
    unfolding opened
    opens = by (position is_none s.slots) where
      by : (o : Option ℕ) → Matches f g (opened_at o s) (opened_at o s')
      by None = refuse SessionsFull
      by (Some session) = record { reply = refl; cells = z; team = refl }

    closes : (session : ℕ) → Matches f g (closed session s) (closed session s')
    unfolding closed
    closes session = record { reply = refl; cells = z; team = refl }

    syncs : (session : ℕ) → Matches f g (synced session s) (synced session s')
    unfolding synced
    syncs session = record { reply = refl; cells = z; team = refl }

    -- ---- queries

    checks : Matches f g (checked t s) (checked u s')
    unfolding checked
    checks = record {
      reply = ap (λ (r : RulesReport). Report (report_text r)) (report_same verdict_one l l' f g a padding number s.cells ds z);
      cells = z;
      team = refl;
    }

    writes : Matches f g (written t s) (written u s')
    unfolding written
    writes = record { reply = ap (λ (text : List ℕ). DefText text) (text_same f g a number s.cells ds z); cells = z; team = refl }

    locates : (name : List ℕ) → Matches f g (located name s) (located name s')
    unfolding located
    locates name =
        subst (λ (o : Option ℕ). Matches f g (located name s) (located_own o s')) (named_same f g name s.cells ds z) (by (cell_named name s.cells))
      where
        at : (own : ℕ) (o : Option Place) → Matches f g (located_at o own s) (located_at o own s')
        at own None = refuse (Unplaced own)
        at own (Some place) = record { reply = refl; cells = z; team = refl }

        by : (o : Option ℕ) → Matches f g (located_own o s) (located_own o s')
        by None = refuse NoCell
        by (Some own) =
            subst (λ (o : Option Place). Matches f g (located_own (Some own) s) (located_at o own s')) (working_same f g s.cells ds own z) (at own (working_at s.cells own))

    finds : (name : List ℕ) (target : Point) → Matches f g (found t name target s) (found u name target s')
    unfolding found
    finds name target =
        subst (λ (o : Option ℕ). Matches f g (found t name target s) (found_own o u target s')) (named_same f g name s.cells ds z) (by (cell_named name s.cells))
      where
        at : (own : ℕ) (o : Option Place) → Matches f g (found_at o own s) (found_at o own s')
        at own None = refuse (NoPlace own)
        at own (Some place) = record { reply = refl; cells = z; team = refl }

        by : (o : Option ℕ) → Matches f g (found_own o t target s) (found_own o u target s')
        by None = refuse NoCell
        by (Some own) =
            subst (λ (o : Option Place). Matches f g (found_own (Some own) t target s) (found_at o own s'))
            (best_place_same verdict_one l l' f g a number padding choice_one s.cells ds own target z) (at own (best_at t s.cells own target))

    -- ---- changes

    places : (session : ℕ) (name : List ℕ) (place : Place) → Matches f g (placed t session name place s) (placed u session name place s')
    unfolding placed
    places session name place =
        subst (λ (o : Option ℕ). Matches f g (placed t session name place s) (placed_own o u session place s')) (named_same f g name s.cells ds z) (by (cell_named name s.cells))
      where
        at : (own : ℕ) (o : Option Broken) → Matches f g (placed_unless o own f.limits session place s) (placed_unless o own g.limits session place s')
        at own (Some broken) = refuse (Illegal broken.rule own broken.other)
        at own None =
            kept session (moved s.cells own (Some place)) (moved ds own (Some place)) (moved_alike f g s.cells ds own (Some place) (Some place) refl z)

        by : (o : Option ℕ) → Matches f g (placed_own o t session place s) (placed_own o u session place s')
        by None = refuse NoCell
        by (Some own) =
            subst (λ (o : Option Broken). Matches f g (placed_own (Some own) t session place s) (placed_unless o own g.limits session place s'))
            (broken_same verdict_one l l' f g a number padding s.cells ds own place z) (at own (broken_at t s.cells own place))

    unplaces : (session : ℕ) (name : List ℕ) → Matches f g (unplaced f.limits session name s) (unplaced g.limits session name s')
    unfolding unplaced
    unplaces session name =
        subst (λ (o : Option ℕ). Matches f g (unplaced f.limits session name s) (unplaced_own o g.limits session s')) (named_same f g name s.cells ds z) (by (cell_named name s.cells))
      where
        at : (own : ℕ) (o : Option Place) → Matches f g (unplaced_from o own f.limits session s) (unplaced_from o own g.limits session s')
        at own None = refuse (Unplaced own)
        at own (Some place) = kept session (moved s.cells own None) (moved ds own None) (moved_alike f g s.cells ds own None None refl z)

        by : (o : Option ℕ) → Matches f g (unplaced_own o f.limits session s) (unplaced_own o g.limits session s')
        by None = refuse NoCell
        by (Some own) =
            subst (λ (o : Option Place). Matches f g (unplaced_own (Some own) f.limits session s) (unplaced_from o own g.limits session s'))
            (working_same f g s.cells ds own z) (at own (working_at s.cells own))

    legalizes : (session : ℕ) (name : List ℕ) (target : Point) → Matches f g (legalized t session name target s) (legalized u session name target s')
    unfolding legalized
    legalizes session name target =
        subst (λ (o : Option ℕ). Matches f g (legalized t session name target s) (legalized_own o u session target s')) (named_same f g name s.cells ds z) (by (cell_named name s.cells))
      where
        at : (own : ℕ) (o : Option Place) → Matches f g (legalized_at o t session own s) (legalized_at o u session own s')
        at own None = refuse (NoPlace own)
        at own (Some place) =
            let new = moved s.cells own (Some place) in
            let new' = moved ds own (Some place) in
            said f g (Legalized (s.revision + 1) place) (recorded t session new s) (recorded u session new' s')
            (kept session new new' (moved_alike f g s.cells ds own (Some place) (Some place) refl z))

        by : (o : Option ℕ) → Matches f g (legalized_own o t session target s) (legalized_own o u session target s')
        by None = refuse NoCell
        by (Some own) =
            subst (λ (o : Option Place). Matches f g (legalized_own (Some own) t session target s) (legalized_at o u session own s'))
            (best_place_same verdict_one l l' f g a number padding choice_one s.cells ds own target z) (at own (best_at t s.cells own target))

    tidies : (session : ℕ) → Matches f g (tidied_team t session s) (tidied_team u session s')
    unfolding tidied_team
    tidies session =
        by (tidied l f number padding (map member_of s.cells)) (tidied l' g number padding (map member_of ds))
        (tidied_same verdict_one choice_one l l' f g a number padding (map member_of s.cells) (map member_of ds) (members_alike f g s.cells ds z))
      where
        places_in_same : (ms ns : List Member) → AllZip (AreMembersAlike f g) ms ns → places_in ms ≡ places_in ns
        places_in_same ms ns alike =
            zip_same (AreMembersAlike f g) (λ m. option_and_then place_of_spot m.place) (λ n. option_and_then place_of_spot n.place)
            (λ m n r. ap (λ (o : Option SpotPlace). option_and_then place_of_spot o) r.place) ms ns alike

        by : (x y : Tidied) → AreTidiedAlike f g x y → Matches f g (tidied_by x t session s) (tidied_by y u session s')
        by (Going ms moved) (Going ns moved') alike =
            let new = restored (places_in ms) s.cells in
            let new' = restored (places_in ms) ds in
            let there = said f g (TidyDone (s.revision + 1) moved) (recorded t session new s) (recorded u session new' s')
            (kept session new new' (restored_alike f g (places_in ms) s.cells ds z)) in
            let reported = subst (λ (k : ℕ). Matches f g (tidied_by (Going ms moved) t session s) (with_reply (TidyDone (s.revision + 1) k) (recorded u session new' s'))) alike.1 there in
            subst (λ (places : List (Option Place)). Matches f g (tidied_by (Going ms moved) t session s) (with_reply (TidyDone (s.revision + 1) moved') (recorded u session (restored places ds) s')))
            (places_in_same ms ns alike.0) reported
        by (Going ms moved) (Stuck own) alike = absurd alike
        by (Stuck own) (Going ns moved) alike = absurd alike
        by (Stuck own) (Stuck own') alike = subst (λ (k : ℕ). Matches f g (refused (NoPlace own) s) (refused (NoPlace k) s')) alike (refuse (NoPlace own))

    swaps : (session : ℕ) (name other : List ℕ) → Matches f g (swapped t session name other s) (swapped u session name other s')
    unfolding swapped
    swaps session name other =
        subst (λ (o : Option ℕ). Matches f g (swapped t session name other s) (swapped_own (cell_named name ds) o u session s')) (named_same f g other s.cells ds z)
        (subst (λ (o : Option ℕ). Matches f g (swapped t session name other s) (swapped_own o (cell_named other s.cells) u session s')) (named_same f g name s.cells ds z)
        (by (cell_named name s.cells) (cell_named other s.cells)))
      where
        unless : (first second : ℕ) (x y : Option Broken)
            → Matches f g (swapped_unless x y t session first second (exchanged s.cells first second) s) (swapped_unless x y u session first second (exchanged ds first second) s')
        unless first second (Some broken) y = refuse (Illegal broken.rule first broken.other)
        unless first second None (Some broken) = refuse (Illegal broken.rule second broken.other)
        unless first second None None =
            kept session (exchanged s.cells first second) (exchanged ds first second) (exchanged_alike f g s.cells ds first second z)

        to : (first second : ℕ)
            → Matches f g (swapped_to (exchanged s.cells first second) t session first second s) (swapped_to (exchanged ds first second) u session first second s')
        to first second =
            let new = exchanged s.cells first second in
            let new' = exchanged ds first second in
            let alike = exchanged_alike f g s.cells ds first second z in
            subst (λ (y : Option Broken). Matches f g (swapped_to new t session first second s) (swapped_unless (broken_where u new' first) y u session first second new' s'))
            (where_same verdict_one l l' f g a number padding new new' second alike)
            (subst (λ (x : Option Broken). Matches f g (swapped_to new t session first second s) (swapped_unless x (broken_where t new second) u session first second new' s'))
            (where_same verdict_one l l' f g a number padding new new' first alike)
            (unless first second (broken_where t new first) (broken_where t new second)))

        from : (first second : ℕ) (x y : Option Place) → Matches f g (swapped_from x y t session first second s) (swapped_from x y u session first second s')
        from first second None y = refuse (Unplaced first)
        from first second (Some place) None = refuse (Unplaced second)
        from first second (Some place) (Some place') = to first second

        by : (x y : Option ℕ) → Matches f g (swapped_own x y t session s) (swapped_own x y u session s')
        by None y = refuse NoCell
        by (Some first) None = refuse NoCell
        by (Some first) (Some second) =
            subst (λ (o : Option Place). Matches f g (swapped_own (Some first) (Some second) t session s) (swapped_from (working_at ds first) o u session first second s'))
            (working_same f g s.cells ds second z)
            (subst (λ (o : Option Place). Matches f g (swapped_own (Some first) (Some second) t session s) (swapped_from o (working_at s.cells second) u session first second s'))
            (working_same f g s.cells ds first z)
            (from first second (working_at s.cells first) (working_at s.cells second)))

    reverts : (session : ℕ) → Matches f g (reverted t session s) (reverted u session s')
    unfolding reverted
    reverts session = kept session (map back_to_committed s.cells) (map back_to_committed ds) (back_alike f g s.cells ds z)

    undoes : (session : ℕ) → Matches f g (undone session s) (undone session s')
    unfolding undone
    undoes session = by s.entries where
      by : (entries : List (List (Option Place))) → Matches f g (undone_by entries session s) (undone_by entries session s')
      by [] = refuse NothingToUndo
      by (places ∷ entries) =
          gone f g session (restored places s.cells) (restored places ds) entries entries s ds (restored_alike f g places s.cells ds z) refl

    commits : (session : ℕ) → Matches f g (committed t session s) (committed u session s')
    unfolding committed
    commits session =
        subst (λ (bs : List BrokenCell). Matches f g (committed t session s) (committed_unless (first_unplaced ds) bs session s'))
        (broken_cells_same verdict_one l l' f g a number padding s.cells ds z)
        (subst (λ (o : Option ℕ). Matches f g (committed t session s) (committed_unless o (broken_cells t s.cells) session s')) (unplaced_same f g s.cells ds z)
        (by (first_unplaced s.cells) (broken_cells t s.cells)))
      where
        by : (o : Option ℕ) (illegal : List BrokenCell) → Matches f g (committed_unless o illegal session s) (committed_unless o illegal session s')
        by (Some own) illegal = refuse (Unplaced own)
        by None (first ∷ others) = refuse (Illegal first.broken.rule first.own first.broken.other)
        by None [] = gone f g session (map as_committed s.cells) (map as_committed ds) s.entries s.entries s ds (committed_alike f g s.cells ds z) refl

    pads : (session : ℕ) (new : Padding) → Matches f g (padded new session s) (padded new session s')
    unfolding padded
    pads session new = gone f g session s.cells ds s.entries s.entries (record s { padding = new.sites }) ds z refl

    -- ---- all verbs

    changes : (session : ℕ) (change : Change (List ℕ) Place) → Matches f g (outcome_of_change t session change s) (outcome_of_change u session change s')
    changes session (PlaceAt name place) = places session name place
    changes session (Legalize name target) = legalizes session name target
    changes session Tidy = tidies session
    changes session (Unplace name) = unplaces session name
    changes session (Swap first second) = swaps session first second
    changes session Undo = undoes session
    changes session Commit = commits session
    changes session Revert = reverts session
    changes session (Pad new) = pads session new

    unspent : (session : ℕ) (change : Change (List ℕ) Place) → Matches f g (unless_spent t session change s) (unless_spent u session change s')
    unspent session change =
        subst (λ (limits : Limits). Matches f g (unless_spent t session change s) (cond (ltb s.revision limits.revisions) (outcome_of_change u session change s') (refused RevisionsSpent s')))
        a.limits (by (ltb s.revision f.limits.revisions))
      where
        by : (b : Bool)
            → Matches f g (cond b (outcome_of_change t session change s) (refused RevisionsSpent s)) (cond b (outcome_of_change u session change s') (refused RevisionsSpent s'))
        by true = changes session change
        by false = refuse RevisionsSpent

    unstale : (seen session : ℕ) (change : Change (List ℕ) Place) → Matches f g (unless_stale seen t session change s) (unless_stale seen u session change s')
    unstale seen session change = by (eqb seen s.revision) where
      by : (b : Bool)
          → Matches f g (cond b (unless_spent t session change s) (refused (Stale s.revision) s)) (cond b (unless_spent u session change s') (refused (Stale s.revision) s'))
      by true = unspent session change
      by false = refuse (Stale s.revision)

    acts : (seen session : ℕ) (action : Action (List ℕ) Place) → Matches f g (outcome_within seen t session action s) (outcome_within seen u session action s')
    acts seen session Close = closes session
    acts seen session Sync = syncs session
    acts seen session Check = checks
    acts seen session Def = writes
    acts seen session (Where name) = locates name
    acts seen session (Find name target) = finds name target
    acts seen session (Changing change) = unstale seen session change

    slots : (o : Option ℕ) (session : ℕ) (action : Action (List ℕ) Place) → Matches f g (outcome_by_slot o t session action s) (outcome_by_slot o u session action s')
    slots None session action = refuse NoSession
    slots (Some seen) session action = acts seen session action

    -- the outcome of a command
    pub orders : (order : TeamCommand (List ℕ) Place) → Matches f g (outcome_of t order s) (outcome_of u order s')
    orders Open = opens
    orders (Within session action) = slots (seen_at s.slots session) session action
