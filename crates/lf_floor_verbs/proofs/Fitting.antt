-- What fits still fits if only places change and rooms grow.
use Rattle.std.proofs.Common.{◌≡◌, ℕ, ◌+◌, List, ◌∷◌, length, map, take, Some, refl, ap, sym, ◌∙◌, subst, arith}
use Rattle.std.specs.Prelude.{All, slice_set}
use Rattle.std.proofs.lemmas.List.Elements.{All-cons, All-take}
use Rattle.lf_cells.specs.declared.cell.Cell.{Cell}
use Rattle.lf_cells.specs.Cells.{Cells, cells_of}
use Rattle.lf_occupancy.specs.Views.{KeepsCapacities}
use Rattle.lf_undo.specs.declared.moves.Move.{Move}
use Rattle.lf_undo.specs.Stacks.{Stacks}
use Rattle.lf_undo.specs.Entries.{Places, moves_taken_back}
use Rattle.lf_placement.specs.Laws.{SameMacros}
use Rattle.lf_placement.specs.Placements.{Fits, HaveMoved, KeepsRest, OtherCellsStay, Placing, SameButPlaces, SameButRooms, moves_applied, working_places_of, without_place}
use Rattle.lf_placement.proofs.Changing.{macs_same}
use Rattle.lf_placement.proofs.Keeping.{last}
use Rattle.lf_placement.proofs.Moves.{cells_stay, cells_through, same_made}
use Rattle.lf_floor_model.specs.States.{TeamState}
use Rattle.lf_floor_verbs.specs.declared.tables.Tables.{Tables}
use Rattle.lf_floor_verbs.specs.Tables.{EntriesFit, OnlyGainRoom, KeepsRooms, OnlyMovesTeam, KeepsOtherTeams, table_cells, team_after_change, own_team, revision_of, team_with}

-- ---- rooms

no_less : (rooms : List ℕ) → KeepsCapacities rooms rooms
no_less rooms = record { many = refl; each = λ n. omega arith }

pub same_rooms : (old new : Placing) → KeepsRest old new → KeepsRooms old new
same_rooms old new rest = record { frame = rest.frame; index = rest.index; site = rest.site; rooms = rw rest.rooms (no_less old.held.rooms) }

pub rooms_stay : (old new : Placing) → new ≡ old → KeepsRooms old new
rooms_stay old new same = rw same record { frame = refl; index = refl; site = refl; rooms = no_less old.held.rooms }

pub rooms_through : (a b c : Placing) → KeepsRooms a b → KeepsRooms b c → KeepsRooms a c
rooms_through a b c ab bc = record {
  frame = bc.frame ∙ ab.frame;
  index = bc.index ∙ ab.index;
  site = bc.site ∙ ab.site;
  rooms = record { many = bc.rooms.many ∙ ab.rooms.many; each = λ n. let x = ab.rooms.each n in let y = bc.rooms.each n in omega (arith, x, y) };
}

-- ---- only places of one team's cells change

pub only_none : (k : ℕ) (p : Placing) → OnlyMovesTeam k p p
only_none k p = record { ground = rooms_stay p p refl; same = refl; others = cells_stay k p.cells }

pub only_through : (k : ℕ) (a b c : Placing) → OnlyMovesTeam k a b → OnlyMovesTeam k b c → OnlyMovesTeam k a c
only_through k a b c ab bc = record {
  ground = rooms_through a b c ab.ground bc.ground;
  same = bc.same ∙ ab.same;
  others = cells_through k a.cells b.cells c.cells ab.others bc.others;
}

pub only_grown : (k : ℕ) (old new : Placing) → SameButRooms old new → OnlyMovesTeam k old new
only_grown k old new grown = record {
  ground = record { frame = grown.frame; index = grown.index; site = grown.site; rooms = grown.rooms };
  same = ap (λ (cs : Cells). map without_place (cells_of cs k)) grown.cells;
  others = record {
    cells = λ other differ. ap (λ (cs : Cells). cells_of cs other) grown.cells;
    components = ap (λ (cs : Cells). cs.components) grown.cells;
  };
}

pub only_same : (k : ℕ) (old new : Placing) → SameButPlaces (cells_of old.cells k) (cells_of new.cells k) → OtherCellsStay k old.cells new.cells
    → KeepsRest old new → OnlyMovesTeam k old new
only_same k old new same others rest = record { ground = same_rooms old new rest; same = same; others = others }

pub only_made : (k : ℕ) (moves : List Move) (old new : Placing) → cells_of new.cells k ≡ moves_applied moves (cells_of old.cells k)
    → OtherCellsStay k old.cells new.cells → KeepsRest old new → OnlyMovesTeam k old new
only_made k moves old new are others rest =
    only_same k old new (ap (λ (cs : List Cell). map without_place cs) are ∙ same_made moves (cells_of old.cells k)) others rest

-- ---- what fits

pub fits_only : (k : ℕ) (old new : Placing) (places : Places) → OnlyMovesTeam k old new → Fits old k places → Fits new k places
fits_only k old new places only fits =
    last old new k places only.ground.frame only.ground.index only.ground.site only.ground.rooms (macs_same (cells_of old.cells k) (cells_of new.cells k) only.same) fits

pub fits_as : (k : ℕ) (old new : Placing) (places : Places) → KeepsRooms old new → SameMacros (cells_of old.cells k) (cells_of new.cells k) → Fits old k places
    → Fits new k places
fits_as k old new places ground macros fits = last old new k places ground.frame ground.index ground.site ground.rooms macros fits

-- the places of unchanged entries still fit
pub entries_as : (k : ℕ) (old new : Tables) → KeepsRooms old.placement new.placement → SameMacros (table_cells k old) (table_cells k new)
    → (own_team k new).entries ≡ (own_team k old).entries → EntriesFit k old → EntriesFit k new
entries_as k old new ground macros entries fit =
    subst (λ (es : List Places). All (λ places. Fits new.placement k places) es) (sym entries)
    (λ i d within. fits_as k old.placement new.placement _ ground macros (fit i d within))

-- the places of the entries of an unchanged team still fit
pub entries_stay : (k : ℕ) (old new : Tables) → KeepsRooms old.placement new.placement → own_team k new ≡ own_team k old → EntriesFit k old → EntriesFit k new
entries_stay k old new ground same fit =
    entries_as k old new ground (ap (λ (s : TeamState). map (λ c. c.mac) s.cells) same) (ap (λ (s : TeamState). s.entries) same) fit

-- a change of places, if the old places fit
pub kept_fit : (k session : ℕ) (now : List Cell) (old new : Tables) → OnlyMovesTeam k old.placement new.placement
    → Fits old.placement k (working_places_of (table_cells k old)) → own_team k new ≡ team_after_change k session (table_cells k old) now old → EntriesFit k old → EntriesFit k new
kept_fit k session now old new only original_place is fit =
    subst (λ (es : List Places). All (λ places. Fits new.placement k places) es) (sym (ap (λ (s : TeamState). s.entries) is))
    (All-take (λ (places : Places). Fits new.placement k places) old.undo.limit (working_places_of (table_cells k old) ∷ (own_team k old).entries)
    (All-cons (λ (places : Places). Fits new.placement k places) (working_places_of (table_cells k old)) (own_team k old).entries
    (fits_only k old.placement new.placement (working_places_of (table_cells k old)) only original_place)
    (λ i d within. fits_only k old.placement new.placement _ only (fit i d within))))

-- the moves may be reverted, if the old places fit
pub back_fits : (k : ℕ) (moves : List Move) (before : List Cell) (first now : Placing) → OnlyMovesTeam k first now → Fits first k (working_places_of before)
    → HaveMoved before moves (cells_of now.cells k) → Fits now k (moves_taken_back moves (working_places_of (cells_of now.cells k)))
back_fits k moves before first now only original_place have =
    subst (λ (places : Places). Fits now k places) (sym have.places) (fits_only k first now (working_places_of before) only original_place)

-- ---- the tables

pub others_stay : (number : ℕ) (tables : Tables) → KeepsOtherTeams number tables tables
others_stay number tables = record {
  teams = λ other differ. refl;
  components = refl;
  ground = rooms_stay tables.placement tables.placement refl;
  undo = refl;
  sessions = refl;
  revisions = refl;
  paddings = refl;
  limit = refl;
}

-- ---- rooms have grown

lists_grown : (old new : Stacks (List Move)) → new ≡ record old { room = new.room } → new.lists ≡ old.lists
lists_grown old new is = ap (λ (s : Stacks (List Move)). s.lists) is

limit_grown : (old new : Stacks (List Move)) → new ≡ record old { room = new.room } → new.limit ≡ old.limit
limit_grown old new is = ap (λ (s : Stacks (List Move)). s.limit) is

-- the team with these cells is the same in both tables
pub grown_with : (k : ℕ) (cells : List Cell) (old new : Tables) → OnlyGainRoom old new → team_with k cells new ≡ team_with k cells old
grown_with k cells old new grown = go where
  go : team_with k cells new ≡ team_with k cells old
  go = rw (grown.sessions, grown.revisions, grown.paddings)
      (ap (λ (lists : List (List (List Move))). team_with k cells (record old { undo = record old.undo { lists = lists } })) (lists_grown old.undo new.undo grown.undo))

pub grown_team : (k : ℕ) (old new : Tables) → OnlyGainRoom old new → own_team k new ≡ own_team k old
grown_team k old new grown =
    grown_with k (table_cells k new) old new grown ∙ ap (λ (cs : Cells). team_with k (cells_of cs k) old) grown.placement.cells

pub grown_revision : (k : ℕ) (old new : Tables) → OnlyGainRoom old new → revision_of new k ≡ revision_of old k
grown_revision k old new grown = rw grown.revisions refl

pub grown_kept : (k session : ℕ) (before now : List Cell) (old new : Tables) → OnlyGainRoom old new
    → team_after_change k session before now new ≡ team_after_change k session before now old
grown_kept k session before now old new grown =
    ap (λ (n : ℕ). team_after_change k session before now (record new { undo = record new.undo { limit = n } })) (limit_grown old.undo new.undo grown.undo)
    ∙ ap (λ (s : TeamState). record {
      cells = now;
      revision = s.revision + 1;
      entries = take old.undo.limit (working_places_of before ∷ s.entries);
      slots = slice_set s.slots session (Some (s.revision + 1));
      padding = s.padding;
    }) (grown_with k before old new grown)

pub others_grown : (k : ℕ) (old new : Tables) → OnlyGainRoom old new → KeepsOtherTeams k old new
others_grown k old new grown = record {
  teams = λ other differ. grown_team other old new grown;
  components = ap (λ (cs : Cells). cs.components) grown.placement.cells;
  ground = record { frame = grown.placement.frame; index = grown.placement.index; site = grown.placement.site; rooms = grown.placement.rooms };
  undo = ap (λ (ls : List (List (List Move))). length ls) (lists_grown old.undo new.undo grown.undo);
  sessions = ap (λ ss. length ss) grown.sessions;
  revisions = ap (λ rs. length rs.items) grown.revisions;
  paddings = rw grown.paddings refl;
  limit = limit_grown old.undo new.undo grown.undo;
}

pub fit_grown : (k : ℕ) (old new : Tables) → OnlyGainRoom old new → EntriesFit k old → EntriesFit k new
fit_grown k old new grown fit = entries_stay k old new (others_grown k old new grown).ground (grown_team k old new grown) fit
