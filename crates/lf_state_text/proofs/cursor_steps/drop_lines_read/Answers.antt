use Rattle.std.proofs.Common.{◌≡◌, ◌+◌, ◌++◌, take, drop, arith, rules}
use Rattle.lf_lex.specs.Tokens.{line_feeds}
use Rattle.lf_state_text.specs.Pieces.{text_of_chunks}
use Rattle.lf_state_text.proofs.Held.{feeds-append, held-on, lines-append}
use Rattle.lf_state_text.proofs.cursor_steps.drop_lines_read.Goals as goal

pub returns-clause-ends : goal.returns-clause-ends
returns-clause-ends c = λ text end.
    let old = c.args.cursor.now in
    let start = c.lines_len-start.result in
    let counted : c.in-Some.lines ≡ old.lines + line_feeds (take start old.piece.items) = search rules in
    let left : c.in_ok-piece.piece.items ≡ drop start old.piece.items = search rules in
    record {
      gone = end.gone ++ take start old.piece.items;
      whole = lines-append end.gone (take start old.piece.items) end.whole (search rules);
      is = rw left (held-on end.gone old.piece.items (text_of_chunks old.later.items) text start end.is);
      lines = omega (arith, counted, end.lines, feeds-append end.gone (take start old.piece.items));
    }
