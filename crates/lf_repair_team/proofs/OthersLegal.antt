-- A change of one cell leaves the other cells legal.
use Rattle.std.proofs.Common.{◌≡◌, ◌≢◌, inl, inr, ℕ, ◌<◌, List, length, map, Bool, true, false, cond, eqb, ltb, Option, Some, None, refl, ap, sym, ◌∙◌, subst}
use Rattle.std.specs.Prelude.{All, MatchOption, slice_get}
use Rattle.std.specs.Option.{option_map}
use Rattle.std.proofs.lemmas.Bool.{cases_eq}
use Rattle.std.proofs.lemmas.Option.{slice_get-map, slice_get_within}
use Rattle.lf_units.specs.declared.geometry.Point.{Point}
use Rattle.lf_units.specs.Area.{SharesPoint}
use Rattle.lf_floorplan.specs.declared.frame.Frame.{Frame}
use Rattle.lf_floorplan.specs.declared.place.Place.{Place}
use Rattle.lf_floorplan.specs.Boxes.{IsSized, macro_of}
use Rattle.lf_rules.specs.declared.rule.Broken.{Broken}
use Rattle.lf_rules.specs.Choice.{SpotPlace, IsAllowedPlace, IsLegalAt, LegalInRange, candidate_at, spot_of}
use Rattle.lf_rules.specs.Legalizer.{Legalizer}
use Rattle.lf_rules.specs.Padding.{length_of}
use Rattle.lf_rules.specs.Team.{Member, IsLegalCell, box_in, boxes_beside, query_from}
use Rattle.lf_rules.proofs.BesideLemmas.{beside_hold}
use Rattle.lf_rules.proofs.LegalParts.{beside, frame_beside, legal_by_parts}
use Rattle.lf_rules.proofs.TidyLemmas.{Clear, clear_of_legal, padded_in, wide_box}
use Rattle.lf_rules.proofs.WiderLemmas.{either_way, length_least}
use Rattle.lf_proto.specs.declared.request.Command.TheVariants.{To}
use Rattle.lf_proto.specs.declared.request.TeamCommand.TheVariants.{Within}
use Rattle.lf_proto.specs.declared.verb.Action.TheVariants.{Change as Changing}
use Rattle.lf_proto.specs.declared.verb.Change.{Change}
use Rattle.lf_proto.specs.declared.verb.Change.TheVariants.{Place as PlaceAt, Legalize, Tidy, Unplace, Swap, Undo, Commit, Revert, Pad}
use Rattle.lf_proto.specs.declared.reply.Refusal.TheVariants.{RevisionsSpent, Stale}
use Rattle.lf_cells.specs.declared.cell.Cell.{Cell}
use Rattle.lf_cells.specs.Cells.{cell_named, moved, working_at}
use Rattle.lf_legalize.specs.Members.{member_of}
use Rattle.lf_floor_model.specs.States.{FloorState, TeamState}
use Rattle.lf_floor_model.specs.Teams.{IsTeamOf, TeamRules, broken_at, team_number, team_rules, query_of_cell}
use Rattle.lf_floor_model.specs.Outcomes.{Outcome, refused}
use Rattle.lf_floor_model.specs.Sessions.{seen_at}
use Rattle.lf_floor_model.specs.Queries.{best_at}
use Rattle.lf_floor_model.specs.Changes.{legalized, outcome_of_change, placed, unplaced}
use Rattle.lf_floor_model.specs.Steps.{outcome_by_rules}
use Rattle.lf_floor_model.specs.VerbLaws.{outcome_of_asking}
use Rattle.lf_floor_model.specs.Verbs.{outcome_by_slot}
use Rattle.lf_floor_model.proofs.Forms.{legalized_at, legalized_own, placed_own, placed_unless, unplaced_from, unplaced_own, unless_spent}
use Rattle.lf_floor_model.proofs.LegalPlaces.{member_is, member_there, moved_here, moved_there, named_there, none_some, sized_at, some_one, there_within, unbroken}
use Rattle.lf_floor_model.proofs.Tidying.{best_legal}
use Rattle.lf_repair_team.specs.CellEdits.{IsAnotherCell, IsOfCell, IsUnchangedOrStepped, RemainsLegal}
use Rattle.lf_repair_team.specs.TeamRepairs.{IsLegalIn}
use Rattle.lf_repair_team.proofs.Results.{each_state}
use Rattle.lf_repair_team.proofs.Steps.{requested_step}

-- ---- the rules

-- a place that is legal next to some cells is legal next to others that do not overlap it
legal_beside : (f : Frame) (team padding : ℕ) (old new : List Member) (own mac : ℕ) (p : SpotPlace) → IsLegalAt (query_from f team padding old own mac) p
    → Clear f new own (padded_in f padding mac p) → IsLegalAt (query_from f team padding new own mac) p
legal_beside f team padding old new own mac p legal clear =
    let c = candidate_at (query_from f team padding old own mac) p in
    (legal_by_parts (beside c (boxes_beside f new own))).1 (
      frame_beside c (boxes_beside f new own) ((legal_by_parts c).0 legal).0,
      beside_hold (λ rect. SharesPoint (padded_in f padding mac p) rect → ⊥) f new own clear,
    )

-- the lists have the same cells, except possibly at this position
abbrev pub SameExcept : ℕ → List Member → List Member → Type 0
SameExcept n old new = (k : ℕ) → k ≢ n → slice_get new k ≡ slice_get old k

-- a legal cell remains legal if another cell is unplaced or gets a place that is legal for it
other_legal : (f : Frame) (team padding n own : ℕ) (old new : List Member) → own ≢ n → SameExcept n old new
    → ((m : Member) (p : SpotPlace) → slice_get new n ≡ Some m → m.place ≡ Some p → IsLegalAt (query_from f team padding old n m.mac) p × IsSized f (macro_of f m.mac))
    → ((m : Member) → slice_get old own ≡ Some m → IsSized f (macro_of f m.mac))
    → IsLegalCell f team padding old own → IsLegalCell f team padding new own
other_legal f team padding n own old new differ same arrives sized legal m here = at m.place refl (legal m was) where
  was : slice_get old own ≡ Some m
  was = sym (same own differ) ∙ here

  clear : (q : SpotPlace) → m.place ≡ Some q → IsLegalAt (query_from f team padding old own m.mac) q → Clear f new own (padded_in f padding m.mac q)
  clear q is before k x p other there placed shares = elim (cases_eq k n) [
    | inl at_n ↦
        let arrived = arrives x p (subst (λ (j : ℕ). slice_get new j ≡ Some x) at_n there) placed in
        clear_of_legal f team padding old n x.mac p arrived.0 own m q differ was is
        (either_way (length_of f padding) (box_in f m.mac q) (box_in f x.mac p) (length_least f padding) (wide_box f m.mac q (sized m was))
        (wide_box f x.mac p arrived.1) shares)
    | inr apart ↦ clear_of_legal f team padding old own m.mac q before k x p other (sym (same k apart) ∙ there) placed shares
  ]

  at : (o : Option SpotPlace) → m.place ≡ o → MatchOption o ⊥ (λ p. IsLegalAt (query_from f team padding old own m.mac) p)
      → MatchOption o ⊥ (λ p. IsLegalAt (query_from f team padding new own m.mac) p)
  at None is before = before
  at (Some q) is before = legal_beside f team padding old new own m.mac q before (clear q is before)

-- a cell that has no place, or only places of a kind, has no other if an unplaced cell gets one
pub still_none : (Kind : SpotPlace → Type 0) (f : Frame) (team padding n own mac : ℕ) (old new : List Member) → SameExcept n old new → ((m : Member) → slice_get old n ≡ Some m → m.place ≡ None)
    → ((p : SpotPlace) → IsAllowedPlace (query_from f team padding old own mac) p → Kind p)
    → (p : SpotPlace) → IsAllowedPlace (query_from f team padding new own mac) p → Kind p
still_none Kind f team padding n own mac old new same unplaced none p allowed =
    none p (record { legal = legal_beside f team padding new old own mac p allowed.legal clear; off_soft = allowed.off_soft })
  where
    clear : Clear f old own (padded_in f padding mac p)
    clear k x q other there placed shares = elim (cases_eq k n) [
      | inl at_n ↦ absurd (none_some (sym (unplaced x (subst (λ (j : ℕ). slice_get old j ≡ Some x) at_n there)) ∙ placed))
      | inr apart ↦ clear_of_legal f team padding new own mac p allowed.legal k x q other (same k apart ∙ there) placed shares
    ]

-- ---- the verbs

pub members_except : (cells : List Cell) (n : ℕ) (place : Option Place) → SameExcept n (map member_of cells) (map member_of (moved cells n place))
members_except cells n place k apart =
    slice_get-map member_of (moved cells n place) k ∙ ap (λ (o : Option Cell). option_map member_of o) (moved_there cells n k place apart)
    ∙ sym (slice_get-map member_of cells k)

-- what holds for the team and for the outcome of a change that is made holds for the outcome
pub outcome_has : (P : TeamState → Type 0) (t : TeamRules) (session : ℕ) (change : Change (List ℕ) Place) (s : TeamState) → P s
    → P (outcome_of_change t session change s).team → P (outcome_of_asking t session change s).team
outcome_has P t session change s before done = slot (seen_at s.slots session) where
  spent : (b : Bool) → P (cond b (outcome_of_change t session change s) (refused RevisionsSpent s)).team
  spent true = done
  spent false = before

  stale : (seen : ℕ) (b : Bool) → P (cond b (unless_spent t session change s) (refused (Stale s.revision) s)).team
  stale seen true = spent (ltb s.revision t.frame.limits.revisions)
  stale seen false = before

  slot : (o : Option ℕ) → P (outcome_by_slot o t session (Changing change) s).team
  slot None = before
  slot (Some seen) = stale seen (eqb seen s.revision)

-- the team has a cell at this position, which is legal
abbrev HasLegalAt : Frame → ℕ → ℕ → TeamState → Type 0
HasLegalAt f number other u = (other < length u.cells) × IsLegalCell f number u.padding (map member_of u.cells) other

module _ (l : Legalizer) (f : Frame) (number : ℕ) (s : TeamState) (known : IsTeamOf f s) (in_range : LegalInRange) (cell : List ℕ) (other : ℕ) (differ : cell_named cell s.cells ≡ Some other → ⊥) (legal : HasLegalAt f number other s) where
  abbrev Legal : Outcome → Type 0
  Legal o = HasLegalAt f number other o.team

  abbrev rules : TeamRules
  rules = team_rules l f number s.padding

  apart : (n : ℕ) → cell_named cell s.cells ≡ Some n → other ≢ n
  apart n named e = differ (named ∙ ap (λ (k : ℕ). Some k) (sym e))

  sized_other : (m : Member) → slice_get (map member_of s.cells) other ≡ Some m → IsSized f (macro_of f m.mac)
  sized_other m there =
      let found = member_there s.cells other m there in
      subst (λ (x : Member). IsSized f (macro_of f x.mac)) found.2 (sized_at f s.cells other found.0 known.sized found.1)

  still_within : (n : ℕ) (place : Option Place) → cell_named cell s.cells ≡ Some n → other < length (moved s.cells n place)
  still_within n place named =
      let found = there_within s.cells other legal.0 in
      slice_get_within (moved s.cells n place) other found.0 (moved_there s.cells n other place (apart n named) ∙ found.1)

  -- the cell that moves, at its new place
  member_moved : (n : ℕ) (place : Option Place) (c : Cell) (m : Member) → slice_get s.cells n ≡ Some c → slice_get (map member_of (moved s.cells n place)) n ≡ Some m
      → member_of (record c { working = place }) ≡ m
  member_moved n place c m at there = some_one (sym (member_is (moved s.cells n place) n (record c { working = place }) (moved_here s.cells n place c at)) ∙ there)

  arrived : (n : ℕ) (place : Place) → cell_named cell s.cells ≡ Some n
      → ((c : Cell) → slice_get s.cells n ≡ Some c → IsLegalAt (query_of_cell rules s.cells n c) (spot_of place))
      → IsLegalCell f number s.padding (map member_of (moved s.cells n (Some place))) other
  arrived n place named may =
      other_legal f number s.padding n other (map member_of s.cells) (map member_of (moved s.cells n (Some place))) (apart n named)
      (members_except s.cells n (Some place)) at_n sized_other legal.1
    where
      found : (c : Cell) × (slice_get s.cells n ≡ Some c)
      found = named_there cell s.cells n named

      at_n : (m : Member) (p : SpotPlace) → slice_get (map member_of (moved s.cells n (Some place))) n ≡ Some m → m.place ≡ Some p
          → IsLegalAt (query_from f number s.padding (map member_of s.cells) n m.mac) p × IsSized f (macro_of f m.mac)
      at_n m p there is =
          let same : member_of (record found.0 { working = Some place }) ≡ m = member_moved n (Some place) found.0 m found.1 there in
          let spot : spot_of place ≡ p = some_one (ap (λ (x : Member). x.place) same ∙ is) in
          let mac : found.0.mac ≡ m.mac = ap (λ (x : Member). x.mac) same in (
            subst (λ (q : SpotPlace). IsLegalAt (query_from f number s.padding (map member_of s.cells) n m.mac) q) spot
                (subst (λ (k : ℕ). IsLegalAt (query_from f number s.padding (map member_of s.cells) n k) (spot_of place)) mac (may found.0 found.1)),
            subst (λ (k : ℕ). IsSized f (macro_of f k)) mac (sized_at f s.cells n found.0 known.sized found.1),
          )

  left : (n : ℕ) → cell_named cell s.cells ≡ Some n → IsLegalCell f number s.padding (map member_of (moved s.cells n None)) other
  left n named =
      other_legal f number s.padding n other (map member_of s.cells) (map member_of (moved s.cells n None)) (apart n named)
      (members_except s.cells n None) at_n sized_other legal.1
    where
      at_n : (m : Member) (p : SpotPlace) → slice_get (map member_of (moved s.cells n None)) n ≡ Some m → m.place ≡ Some p
          → IsLegalAt (query_from f number s.padding (map member_of s.cells) n m.mac) p × IsSized f (macro_of f m.mac)
      at_n m p there is =
          let found = named_there cell s.cells n named in
          absurd (none_some (ap (λ (x : Member). x.place) (member_moved n None found.0 m found.1 there) ∙ is))

  placed_legal : (session : ℕ) (place : Place) → Legal (placed rules session cell place s)
  unfolding placed
  placed_legal session place = own (cell_named cell s.cells) refl where
    unless : (n : ℕ) → cell_named cell s.cells ≡ Some n → (b : Option Broken) → broken_at rules s.cells n place ≡ b → Legal (placed_unless b n f.limits session place s)
    unless n named None none = (
      still_within n (Some place) named,
      arrived n place named (λ c there. unbroken rules s.cells n c place there (sized_at f s.cells n c known.sized there) none),
    )
    unless n named (Some b) is = legal

    own : (o : Option ℕ) → cell_named cell s.cells ≡ o → Legal (placed_own o rules session place s)
    own None named = legal
    own (Some n) named = unless n named (broken_at rules s.cells n place) refl

  legalized_legal : (session : ℕ) (target : Point) → Legal (legalized rules session cell target s)
  unfolding legalized
  legalized_legal session target = own (cell_named cell s.cells) refl where
    at : (n : ℕ) → cell_named cell s.cells ≡ Some n → (o : Option Place) → best_at rules s.cells n target ≡ o → Legal (legalized_at o rules session n s)
    at n named None best = legal
    at n named (Some place) best = (
      still_within n (Some place) named,
      arrived n place named (λ c there. best_legal rules s.cells known.sized in_range n c target place there best),
    )

    own : (o : Option ℕ) → cell_named cell s.cells ≡ o → Legal (legalized_own o rules session target s)
    own None named = legal
    own (Some n) named = at n named (best_at rules s.cells n target) refl

  unplaced_legal : (session : ℕ) → Legal (unplaced f.limits session cell s)
  unfolding unplaced
  unplaced_legal session = own (cell_named cell s.cells) refl where
    from : (n : ℕ) → cell_named cell s.cells ≡ Some n → (o : Option Place) → Legal (unplaced_from o n f.limits session s)
    from n named None = legal
    from n named (Some place) = (still_within n None named, left n named)

    own : (o : Option ℕ) → cell_named cell s.cells ≡ o → Legal (unplaced_own o f.limits session s)
    own None named = legal
    own (Some n) named = from n named (working_at s.cells n)

  change_legal : (session : ℕ) (change : Change (List ℕ) Place) → IsOfCell cell change → Legal (outcome_of_change rules session change s)
  change_legal session (PlaceAt name place) is = subst (λ (n : List ℕ). Legal (placed rules session n place s)) (sym is) (placed_legal session place)
  change_legal session (Legalize name target) is = subst (λ (n : List ℕ). Legal (legalized rules session n target s)) (sym is) (legalized_legal session target)
  change_legal session (Unplace name) is = subst (λ (n : List ℕ). Legal (unplaced f.limits session n s)) (sym is) (unplaced_legal session)
  change_legal session Tidy is = absurd is
  change_legal session (Swap first second) is = absurd is
  change_legal session Undo is = absurd is
  change_legal session Commit is = absurd is
  change_legal session Revert is = absurd is
  change_legal session (Pad padding) is = absurd is

-- ---- the floor

-- a change of the cell with this name leaves each other cell legal
pub other_remains_legal : (l : Legalizer) (old new : FloorState) (team cell : List ℕ) (session : ℕ) (change : Change (List ℕ) Place) (other : ℕ)
    → LegalInRange → All (λ s. IsTeamOf old.frame s) old.teams → new.frame ≡ old.frame → IsOfCell cell change
    → IsUnchangedOrStepped l old (To team (Within session (Changing change))) new → IsAnotherCell old team cell other → RemainsLegal team old new other
other_remains_legal l old new team cell session change other in_range teams frame is requested differ legal =
    elim (requested_step l old new team (Within session (Changing change)) requested) [
      | inl same ↦ subst (λ (floor : FloorState). IsLegalIn floor team other) (sym same) legal
      | inr served ↦
          let s = served.state in
          let number = served.number in
          let state : legal.state ≡ s = some_one (sym legal.there ∙ served.before) in
          let same : legal.number ≡ number = some_one (sym legal.named ∙ served.named) in
          let before : HasLegalAt old.frame number other s =
          subst (λ (u : TeamState). HasLegalAt old.frame number other u) state
          (legal.within, subst (λ (n : ℕ). IsLegalCell old.frame n legal.state.padding (map member_of legal.state.cells) other) same legal.legal) in
          let known : IsTeamOf old.frame s = each_state (IsTeamOf old.frame) old team s teams served.before in
          let after : HasLegalAt old.frame number other (outcome_by_rules l old.frame number (Within session (Changing change)) s).team =
          outcome_has (HasLegalAt old.frame number other) (team_rules l old.frame number s.padding) session change s before
          (change_legal l old.frame number s known in_range cell other (differ s served.before) before session change is) in
          record {
            number = number;
            state = (outcome_by_rules l old.frame number (Within session (Changing change)) s).team;
            named = ap (λ (f : Frame). team_number f team) frame ∙ served.named;
            there = served.after;
            within = after.0;
            legal = subst (λ (f : Frame). IsLegalCell f number (outcome_by_rules l old.frame number (Within session (Changing change)) s).team.padding
                (map member_of (outcome_by_rules l old.frame number (Within session (Changing change)) s).team.cells) other) (sym frame) after.1;
          }
    ]
