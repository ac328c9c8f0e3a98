-- A team gets another padding: except for it only the revision changes.
use Rattle.std.proofs.Common.{◌≡◌, ℕ, ◌+◌, List, Some, length, map, refl, ap, ◌∙◌}
use Rattle.std.specs.Prelude.{slice_index_or, slice_set}
use Rattle.std.proofs.lemmas.List.{length-set, get_or-set_same}
use Rattle.lf_rules.specs.declared.padding.Padding.{Padding as Sites}
use Rattle.lf_cells.specs.declared.cell.Cell.{Cell}
use Rattle.lf_cells.specs.Cells.{cells_of}
use Rattle.lf_sessions.specs.Slots.{slots_of}
use Rattle.lf_undo.specs.Stacks.{stack_of}
use Rattle.lf_undo.specs.Entries.{entries_of}
use Rattle.lf_proto.specs.declared.reply.Reply.TheVariants.{Revision}
use Rattle.lf_placement.specs.Placements.{Placing}
use Rattle.lf_floor_model.specs.Changes.{padded}
use Rattle.lf_floor_model.specs.Outcomes.{IsOutcome, places_of}
use Rattle.lf_floor_model.specs.States.{TeamState}
use Rattle.lf_floor_verbs.specs.declared.tables.Tables.{Tables}
use Rattle.lf_floor_verbs.specs.Tables.{CountsChange, EntriesFit, HasRows, SetsPadding, table_cells, own_team, padding_of, revision_of, sites_in}
use Rattle.lf_floor_verbs.proofs.Ends.{counted_own, team_of}
use Rattle.lf_floor_verbs.proofs.Fitting.{entries_as, rooms_stay}

module _ (k session : ℕ) (padding : Sites) (old mid new : Tables) (rows : HasRows k old) (pads : SetsPadding k padding old mid) where
  -- a part without the paddings is unchanged
  kept_part : {X : Type 0} (part : Tables → X) → part (record old { paddings = mid.paddings }) ≡ part old → part mid ≡ part old
  kept_part part same = ap part pads.rest ∙ same

  -- the rows are still there
  pub rows_padded : HasRows k mid
  rows_padded =
      let undo : mid.undo ≡ old.undo = kept_part (λ (t : Tables). t.undo) refl in
      let sessions : mid.sessions ≡ old.sessions = kept_part (λ (t : Tables). t.sessions) refl in
      let revisions : mid.revisions ≡ old.revisions = kept_part (λ (t : Tables). t.revisions) refl in
      let long : length (sites_in mid) ≡ length (sites_in old) =
      ap (λ (xs : List ℕ). length xs) pads.paddings ∙ length-set (sites_in old) k padding.sites in
      record { undo = rw undo rows.undo; sessions = rw sessions rows.sessions; revisions = rw revisions rows.revisions; paddings = rw long rows.paddings }

  padding_now : padding_of mid k ≡ padding.sites
  padding_now = ap (λ (xs : List ℕ). slice_index_or xs k 0) pads.paddings ∙ get_or-set_same (sites_in old) k padding.sites 0 rows.paddings

  module _ (counts : CountsChange k session mid new) where
    -- the team after the pad
    pub padded_team : own_team k new ≡ (padded padding session (own_team k old)).team
    unfolding padded
    padded_team =
        let counted : Tables → ℕ → TeamState = λ (t : Tables) (sites : ℕ).
        team_of (table_cells k t) (revision_of t k + 1) (entries_of (places_of (table_cells k t)) (stack_of t.undo k))
        (slice_set (slots_of t.sessions k) session (Some (revision_of t k + 1))) sites in
        counted_own k session mid new rows_padded counts ∙ kept_part (λ (t : Tables). counted t (padding_of mid k)) refl
        ∙ ap (counted old) padding_now

    pub padded_reaches : (revision : ℕ) → revision ≡ revision_of mid k + 1 → IsOutcome (padded padding session (own_team k old)) (Revision revision) (own_team k new)
    unfolding padded
    padded_reaches revision reported = record {
      reply_is = ap Revision (reported ∙ kept_part (λ (t : Tables). revision_of t k + 1) refl);
      team_is = padded_team;
    }

    -- the places of its undo entries still fit
    pub padded_fit : EntriesFit k old → EntriesFit k new
    unfolding padded
    padded_fit fit =
        let same : new.placement ≡ old.placement = counts.placement ∙ kept_part (λ (t : Tables). t.placement) refl in
        entries_as k old new (rooms_stay old.placement new.placement same)
        (ap (λ (p : Placing). map (λ (c : Cell). c.mac) (cells_of p.cells k)) same) (ap (λ (s : TeamState). s.entries) padded_team) fit
