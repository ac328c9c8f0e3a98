use Rattle.std.proofs.Common.{List, ◌++◌, ap, subst, append_assoc, ◌∙◌, ◌∷◌, []}
use Rattle.std.specs.Prelude.{codes, count_by, nat_lt}
use Rattle.std.specs.List.{flat_map}
use Rattle.std.specs.Fmt.{decimal}
use Rattle.lf_undo.specs.declared.moves.Move.{Move}
use Rattle.lf_proto.specs.ReplyText.{spaced_line}
use Rattle.lf_state_text.specs.Writing.{move_within}
use Rattle.lf_state_text.proofs.Lines.{entry_put, entry_spotted}
use Rattle.lf_state_text.proofs.write.put_entry.Goals as goal

pub returns-clause-text : goal.returns-clause-text
returns-clause-text g c = λ start before had.
    let moves = c.args.entry.now in
    let first = spaced_line (codes "undo" ∷ decimal c.count_within-count.result ∷ []) in
    let others = flat_map (move_within c.args.cells) c.as_slice-moves.result.now in
    subst (g.O.Output.took start c.put_moves.new.out)
    (append_assoc before first others
    ∙ ap (λ ms. before ++ (first ++ flat_map (move_within c.args.cells) ms)) c.as_slice-moves.ensures
    ∙ ap (λ l. before ++ l) (entry_put c.args.cells c.count_within-count.result moves (c.count_within-count.ensures ∙ ap (λ (ms : List Move). count_by (λ m. nat_lt m.own c.args.cells) ms) c.as_slice-moves.ensures)))
    (c.put_moves.ensures start _ (c.put_line.ensures start before had))

pub returns-clause-spotted : goal.returns-clause-spotted
returns-clause-spotted g c = entry_spotted c.args.cells c.args.entry.now c.are_few.ensures c.moves_known.ensures
