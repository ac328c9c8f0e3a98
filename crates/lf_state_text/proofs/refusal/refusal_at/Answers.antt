use Rattle.std.proofs.Common.{◌≡◌, ◌++◌, [], List, ℕ, length, arith, ap, subst, ◌∙◌}
use Rattle.std.proofs.lemmas.List.{append-nil}
use Rattle.lf_state_text.specs.declared.fault.StateFault.{StateFault}
use Rattle.lf_state_text.specs.Pieces.{text_of_chunks}
use Rattle.lf_state_text.specs.Reading.{fault_with_line}
use Rattle.lf_state_text.proofs.Held.{line-here}
use Rattle.lf_state_text.proofs.refusal.refusal_at.Goals as goal

pub returns-clause-fault : goal.returns-clause-fault
returns-clause-fault c = λ text end.
    let left = c.join_all.new.cursor in
    subst (λ (l : List ℕ). ◌≡◌ {A = StateFault} (record { number = c.args.number; line = c.in-Some.line }) (fault_with_line text (record { number = c.args.number; left = length l })))
    c.join_all.ensures.rest (line-here text left c.args.number c.in-Some.line (c.join_all.ensures.ends text end) c.in-Some.ensures)

pub returns-clause-end : goal.returns-clause-end
returns-clause-end c = λ text end.
    let left = c.join_all.new.cursor in
    let now = c.join_all.ensures.ends text end in
    record {
      gone = now.gone;
      whole = now.whole;
      is = now.is ∙ ap (λ (t : List ℕ). now.gone ++ t) (alone left.piece.items (text_of_chunks left.later.items) (ap text_of_chunks c.in-Ok.ensures.all));
      lines = now.lines;
      after_it = omega (arith, c.in-Some.ensures);
    }
  where
    alone : (piece later : List ℕ) → later ≡ [] → piece ++ later ≡ piece
    alone piece later none = ap (λ (t : List ℕ). piece ++ t) none ∙ append-nil piece
