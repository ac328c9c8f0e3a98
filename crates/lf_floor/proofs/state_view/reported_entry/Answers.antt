use Rattle.std.proofs.Common.{ℕ, List, length, ap, sym, ◌∙◌, arith}
use Rattle.std.specs.Prelude.{Option, slice_get, option_map}
use Rattle.std.proofs.lemmas.List.{length-map}
use Rattle.lf_undo.specs.declared.moves.Move.{Move}
use Rattle.lf_undo.specs.Stacks.{stack_of}
use Rattle.lf_state_text.specs.Saved.{SavedTeam, moves_within}
use Rattle.lf_floor.specs.Saved.{saved_cell}
use Rattle.lf_floor_verbs.specs.Tables.{table_cells}
use Rattle.lf_floor.proofs.Saving.{get_mapped, none_reported, option_twice, reported_at}
use Rattle.lf_floor.proofs.state_view.reported_entry.Goals as goal

pub at-requires : goal.at-requires
at-requires c = omega (arith, c.if-team-len.false, c.len.ensures, c.args.tables.now.revisions.ok.0, c.requires.revisions, c.requires.undo)

pub returns-then-team-len : goal.returns-then-team-len
returns-then-team-len c = sym (ap (λ (t : SavedTeam). slice_get t.entries c.args.newer) (none_reported c.args.tables.now c.args.team (omega (arith, c.if-team-len.true, c.len.ensures, c.args.tables.now.revisions.ok.0))))

pub returns : goal.returns
returns c =
    let tables = c.args.tables.now in
    let k = c.args.team in
    let cells = length (table_cells k tables) in
    let reported = reported_at tables k (omega (arith, c.if-team-len.false, c.len.ensures, c.args.tables.now.revisions.ok.0)) in
    ap (λ (t : SavedTeam). option_map (λ moves. moves_within (length t.cells) moves.now) c.at.result) reported
    ∙ ap (λ (n : ℕ). option_map (λ moves. moves_within n moves.now) c.at.result) (length-map (table_cells k tables) saved_cell)
    ∙ option_twice (λ moves. moves.now) (moves_within cells) c.at.result
    ∙ ap (λ (o : Option (List Move)). option_map (moves_within cells) o) c.at.ensures
    ∙ sym (get_mapped (moves_within cells) (stack_of tables.undo k) c.args.newer)
    ∙ sym (ap (λ (t : SavedTeam). slice_get t.entries c.args.newer) reported)
