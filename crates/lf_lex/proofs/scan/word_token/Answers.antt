use Rattle.std.proofs.Common.{◌≡◌, ◌≤◌, ◌+◌, length, take, drop, get_or, sym, arith}
use Rattle.std.proofs.lemmas.List.{length-drop}
use Rattle.lf_lex.specs.Tokens.{word_len}
use Rattle.lf_lex.proofs.Scanning.{word_placed, word_stops}
use Rattle.lf_lex.proofs.Spelling.{word_spelled}
use Rattle.lf_lex.proofs.Words.{first_is_other, no_line_feeds, rest_is_other, whole_word}
use Rattle.lf_lex.proofs.scan.word_token.Goals as goal

pub returns-then-is_other-clause-token : goal.returns-then-is_other-clause-token
returns-then-is_other-clause-token c =
    let text = c.args.text.now in
    let at = c.args.at in
    word_stops text at c.args.line c.requires.within c.requires.begins c.requires.no_quote (first_is_other (get_or text at 0) (take (word_len (drop (at + 1) text)) (drop (at + 1) text)) (sym c.if-is_other.ensures))

pub returns-in_default-clause-token : goal.returns-in_default-clause-token
returns-in_default-clause-token c =
    let text = c.args.text.now in
    let at = c.args.at in
    word_stops text at c.args.line c.requires.within c.requires.begins c.requires.no_quote (rest_is_other (get_or text at 0) (take (word_len (drop (at + 1) text)) (drop (at + 1) text)) (rw c.rest.ensures at c.in_default.ensures.len))

pub returns-clause-token : goal.returns-clause-token
returns-clause-token c =
    let text = c.args.text.now in
    let at = c.args.at in
    let more = c.in-Some.more in
    let m : more ≡ word_len (drop (at + 1) text) = rw c.rest.ensures at c.in-Some.ensures.len in
    let le : more ≤ length (drop (at + 1) text) = rw c.rest.ensures at c.in-Some.ensures.within in
    let all = whole_word text c.part.result.now at more c.requires.within (sym c.if-is_other.ensures) (rw c.rest.ensures at c.in-Some.ensures.bytes) c.part.ensures.bytes in (
      omega arith,
      omega arith,
      omega (arith, length-drop (at + 1) text),
      word_placed text at c.args.line more c.part.result.now c.requires.within c.requires.begins c.requires.no_quote m le c.part.ensures.bytes all,
    )

pub returns-clause-spelled : goal.returns-clause-spelled
returns-clause-spelled c =
    let text = c.args.text.now in
    let at = c.args.at in
    let all = whole_word text c.part.result.now at c.in-Some.more c.requires.within (sym c.if-is_other.ensures) (rw c.rest.ensures at c.in-Some.ensures.bytes) c.part.ensures.bytes in
    word_spelled text c.part.result.now at _ c.args.line c.requires.within (omega arith) c.requires.no_quote c.part.ensures.bytes all

pub returns-clause-feeds : goal.returns-clause-feeds
returns-clause-feeds c =
    let text = c.args.text.now in
    let at = c.args.at in
    no_line_feeds c.part.result.now (whole_word text c.part.result.now at c.in-Some.more c.requires.within (sym c.if-is_other.ensures) (rw c.rest.ensures at c.in-Some.ensures.bytes) c.part.ensures.bytes)
