use Rattle.std.proofs.Common.{◌<◌, ◌≤◌, ℕ, List, length, map, refl, ap, sym, subst, ◌∙◌, arith}
use Rattle.std.proofs.lemmas.List.{length-map}
use Rattle.lf_floorplan.specs.declared.frame.Frame.{Frame}
use Rattle.lf_cells.specs.declared.cell.Cell.{Cell}
use Rattle.lf_cells.specs.Cells.{Cells, cells_of}
use Rattle.lf_undo.specs.declared.moves.Move.{Move}
use Rattle.lf_undo.specs.Entries.{Places, entries_of}
use Rattle.lf_undo.specs.Stacks.{stack_of}
use Rattle.lf_placement.specs.Placements.{working_places_of}
use Rattle.lf_floor.specs.Saved.{map_two, restored_cell, saved_cell}
use Rattle.lf_floor.proofs.Restoring.{cells_back, saved_places}
use Rattle.lf_floor_verbs.specs.Tables.{table_cells}
use Rattle.lf_floor_verbs.specs.declared.tables.Tables.{Tables}
use Rattle.lf_floor.proofs.Placing.{still_awaits}
use Rattle.lf_floor.proofs.Saving.{fit_is, others_are, own_cells, team_is}
use Rattle.lf_floor.proofs.restore.restore_team.Goals as goal

pub restore_entries-requires : goal.restore_entries-requires
restore_entries-requires c =
    let cells = table_cells c.args.number c.args.tables.now in
    record {
      team = c.requires.served.rows.undo;
      none = c.requires.awaits.none;
      few = subst (λ (n : ℕ). length c.args.row.entries.items ≤ n) (sym c.requires.served.limit) c.requires.due.entries;
      own = own_cells (length cells) _ c.args.row.entries.items (length-map cells (λ (c : Cell). c.name)) c.requires.due.own;
      room = c.requires.room;
      bounds = c.requires.awaits.bounds;
    }

pub set_numbers-requires : goal.set_numbers-requires
set_numbers-requires c =
    let rows = c.requires.served.rows in
    let most = ap (λ (f : Frame). f.limits.sessions) c.frame.ensures in
    record {
      rows = record {
        undo = subst (λ (n : ℕ). c.args.number < n) (sym c.in_ok-restore_entries.ensures.teams) rows.undo;
        sessions = rows.sessions;
        revisions = rows.revisions;
        paddings = rows.paddings;
      };
      few = omega (arith, c.requires.due.slots, c.slots_are_few.ensures, most);
    }

pub returns-clause-team : goal.returns-clause-team
returns-clause-team c =
    let old = c.args.tables.now in
    let cells = table_cells c.args.number old in
    let mid : Tables = record old { placement = c.restore_entries.new.placement; undo = c.restore_entries.new.undo } in
    team_is c.args.number old c.set_numbers.new.tables mid c.args.row.revision c.args.row.padding.sites c.args.row.slots.items c.requires.served.rows
    c.in_ok-restore_entries.ensures.others refl refl refl c.in_ok-restore_entries.ensures.teams c.in_ok-restore_entries.ensures.limit c.set_numbers.ensures
    (map_two restored_cell cells (map saved_cell cells))
    (entries_of (map (λ c. c.working) (map saved_cell cells)) c.args.row.entries.items)
    (ap (λ (cs : Cells). cells_of cs c.args.number) c.in_ok-restore_entries.ensures.cells ∙ sym (cells_back cells cells refl))
    (ap (λ (cs : Cells). entries_of (working_places_of (cells_of cs c.args.number)) (stack_of mid.undo c.args.number)) c.in_ok-restore_entries.ensures.cells
    ∙ ap (λ (ps : Places). entries_of ps (stack_of mid.undo c.args.number)) (sym (saved_places cells))
    ∙ ap (λ (es : List (List Move)). entries_of (map (λ c. c.working) (map saved_cell cells)) es) c.in_ok-restore_entries.ensures.stack)

pub returns-clause-others : goal.returns-clause-others
returns-clause-others c =
    let old = c.args.tables.now in
    let mid : Tables = record old { placement = c.restore_entries.new.placement; undo = c.restore_entries.new.undo } in
    others_are c.args.number old c.set_numbers.new.tables mid c.args.row.revision c.args.row.padding.sites c.args.row.slots.items c.requires.served.rows
    c.in_ok-restore_entries.ensures.others refl refl refl c.in_ok-restore_entries.ensures.teams c.in_ok-restore_entries.ensures.limit c.set_numbers.ensures

pub returns-clause-fit : goal.returns-clause-fit
returns-clause-fit c =
    let old = c.args.tables.now in
    let mid : Tables = record old { placement = c.restore_entries.new.placement; undo = c.restore_entries.new.undo } in
    fit_is c.args.number old c.set_numbers.new.tables mid c.args.row.revision c.args.row.padding.sites c.args.row.slots.items c.requires.served.rows
    c.in_ok-restore_entries.ensures.others refl refl refl c.in_ok-restore_entries.ensures.teams c.in_ok-restore_entries.ensures.limit c.set_numbers.ensures
    c.in_ok-restore_entries.ensures.fit

pub returns-clause-awaits : goal.returns-clause-awaits
returns-clause-awaits c = λ other apart awaits.
    let old = c.args.tables.now in
    let mid : Tables = record old { placement = c.restore_entries.new.placement; undo = c.restore_entries.new.undo } in
    still_awaits other c.args.counts.now c.restore_entries.new.counts old mid c.set_numbers.new.tables c.in_ok-restore_entries.ensures.cells
    (c.in_ok-restore_entries.ensures.others.stacks other apart) c.set_numbers.ensures.placement c.set_numbers.ensures.undo
    (λ at bounds. c.in_ok-restore_entries.ensures.counts at other apart bounds) awaits
