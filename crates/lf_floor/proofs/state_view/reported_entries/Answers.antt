use Rattle.std.proofs.Common.{length, ap, sym, ◌∙◌, arith}
use Rattle.std.proofs.lemmas.List.{length-map}
use Rattle.lf_undo.specs.Stacks.{stack_of}
use Rattle.lf_state_text.specs.Saved.{SavedTeam, moves_within}
use Rattle.lf_floor_verbs.specs.Tables.{table_cells}
use Rattle.lf_floor.proofs.Saving.{none_reported, reported_at}
use Rattle.lf_floor.proofs.state_view.reported_entries.Goals as goal

pub depth-requires : goal.depth-requires
depth-requires c = omega (arith, c.if-team-len.false, c.len.ensures, c.args.tables.now.revisions.ok.0, c.requires.revisions, c.requires.undo)

pub returns-then-team-len : goal.returns-then-team-len
returns-then-team-len c = sym (ap (λ (t : SavedTeam). length t.entries) (none_reported c.args.tables.now c.args.team (omega (arith, c.if-team-len.true, c.len.ensures, c.args.tables.now.revisions.ok.0))))

pub returns : goal.returns
returns c =
    let tables = c.args.tables.now in
    let k = c.args.team in
    c.depth.ensures.depth ∙ sym (length-map (stack_of tables.undo k) (moves_within (length (table_cells k tables))))
    ∙ sym (ap (λ (t : SavedTeam). length t.entries) (reported_at tables k (omega (arith, c.if-team-len.false, c.len.ensures, c.args.tables.now.revisions.ok.0))))
