use Rattle.std.proofs.Common.{◌≡◌, List, refl, ap, sym, ◌∙◌}
use Rattle.lf_cells.specs.declared.cell.Cell.{Cell}
use Rattle.lf_cells.specs.Cells.{cells_of}
use Rattle.lf_floorplan.specs.declared.frame.Frame.{Frame}
use Rattle.lf_undo.specs.declared.moves.Move.{Move}
use Rattle.lf_placement.specs.Placements.{moves_applied}
use Rattle.lf_floor_model.specs.Teams.{team_rules}
use Rattle.lf_floor_model.specs.Changes.{exchanged}
use Rattle.lf_floor_verbs.specs.Swapping.{swap_refusal}
use Rattle.lf_floor_verbs.specs.Tables.{table_cells, frame_of, own_team}
use Rattle.lf_floor_verbs.proofs.Ends.{back_to}
use Rattle.lf_floor_verbs.proofs.Fitting.{back_fits, kept_fit, only_made}
use Rattle.lf_floor_verbs.proofs.BrokenRules.{alone_moved}
use Rattle.lf_floor_verbs.proofs.Moves.{none_yet}
use Rattle.lf_floor_verbs.proofs.Swaps.{exchange_made, first_there, second_there, swap_refused}
use Rattle.lf_floor_verbs.proofs.tables.Tables.exchange.Goals as goal

pub refusal_of-requires : goal.refusal_of-requires
refusal_of-requires c =
    let x = c.args.exchange.now in
    let k = x.first.team in
    let are = c.requires.are in
    let cells = table_cells k c.args.self.now in
    let only = only_made k c.args.moves c.args.self.now.placement c.apply.new.self c.apply.ensures.own c.apply.ensures.others c.apply.ensures.rest in
    record {
      team = are.second;
      first = alone_moved k c.args.self.now.placement c.apply.new.self x.first x.to _ refl only c.requires.first;
      second = alone_moved k c.args.self.now.placement c.apply.new.self x.second x.from c.args.alone are.second only c.requires.second;
      to = rw (c.apply.ensures.own, c.requires.moves) (first_there cells x.first.own x.second.own x.from x.to are.from are.to);
      from = rw (c.apply.ensures.own, c.requires.moves) (second_there cells x.first.own x.second.own x.from x.to are.from are.to);
    }

pub undo_moves-requires : goal.undo_moves-requires
undo_moves-requires c =
    let k = c.args.exchange.now.first.team in
    let before = table_cells k c.args.self.now in
    back_fits k c.apply.new.moves before c.args.self.now.placement c.apply.new.self
    (only_made k c.args.moves c.args.self.now.placement c.apply.new.self c.apply.ensures.own c.apply.ensures.others c.apply.ensures.rest)
    (c.boxes_match_places.ensures k) (c.apply.ensures.moved before (none_yet before))

pub returns-in-None-clause-fit : goal.returns-in-None-clause-fit
returns-in-None-clause-fit c =
    let k = c.args.exchange.now.first.team in
    let old = c.args.self.now in
    let before = table_cells k old in
    kept_fit k c.args.session (cells_of c.apply.new.self.cells k) old c.push_undo.new.self
    (rw c.push_undo.ensures.placement (only_made k c.args.moves old.placement c.apply.new.self c.apply.ensures.own c.apply.ensures.others c.apply.ensures.rest))
    (c.boxes_match_places.ensures k) (c.push_undo.ensures.team before (c.apply.ensures.moved before (none_yet before))) c.requires.change.served.fit

pub returns-in-Some-clause-team : goal.returns-in-Some-clause-team
returns-in-Some-clause-team c = λ l.
    let x = c.args.exchange.now in
    let k = x.first.team in
    let old = c.args.self.now in
    let before = table_cells k old in
    let t = team_rules l (frame_of old) k c.args.padding.sites in
    let now = cells_of c.apply.new.self.cells k in
    let are : now ≡ exchanged before x.first.own x.second.own =
    c.apply.ensures.own ∙ ap (λ (ms : List Move). moves_applied ms before) c.requires.moves ∙ exchange_made k x before c.requires.are in
    rw (swap_refused t c.args.session x.first.own x.second.own (own_team k old) c.in-Some.refusal
    (sym c.in-Some.is ∙ c.refusal_of.ensures l
    ∙ ap (λ (f : Frame). swap_refusal (team_rules l f k c.args.padding.sites) now x.first.own x.second.own) c.apply.ensures.rest.frame
    ∙ ap (λ (cs : List Cell). swap_refusal t cs x.first.own x.second.own) are))
    record {
      reply_is = refl;
      team_is = back_to k old c.undo_moves.new.self (c.undo_moves.ensures.own before (c.apply.ensures.moved before (none_yet before)));
    }
