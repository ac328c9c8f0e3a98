use Rattle.std.proofs.Common.{◌≡◌, ◌≤◌, Some, None, false, ◌+◌, arith, length, drop}
use Rattle.std.proofs.lemmas.List.{length-drop}
use Rattle.lf_lex.specs.Tokens.{quoted_len, line_feeds}
use Rattle.lf_lex.proofs.Scanning.{quoted_placed, quoted_stops}
use Rattle.lf_lex.proofs.Spelling.{quoted_spelled}
use Rattle.lf_lex.proofs.scan.quoted_token.Goals as goal

pub returns-in-Some-clause-token : goal.returns-in-Some-clause-token
returns-in-Some-clause-token c =
    let text = c.args.text.now in
    let at = c.args.at in
    let le : c.in-Some.more ≤ length (drop (at + 1) text) = rw c.rest-inside.ensures at c.in-Some.ensures.within in
    let e : Some c.in-Some.more ≡ quoted_len false (drop (at + 1) text) = rw c.rest-inside.ensures at c.in-Some.ensures.len in (
      omega arith,
      omega arith,
      omega (arith, length-drop (at + 1) text),
      quoted_placed text at c.args.line c.in-Some.more c.part.result.now c.requires.within c.requires.quote le c.part.ensures.bytes e,
    )

pub returns-in-None-clause-token : goal.returns-in-None-clause-token
returns-in-None-clause-token c =
    let text = c.args.text.now in
    let at = c.args.at in
    let e : None ≡ quoted_len false (drop (at + 1) text) = rw c.rest-inside.ensures at c.in-None.ensures.len in
    let feeds : c.line_feeds.result ≡ line_feeds (drop (at + 1) text) = rw c.rest-inside.ensures at c.line_feeds.ensures.count in
    rw feeds (quoted_stops text at c.args.line c.requires.within c.requires.quote e)

pub returns-in-Some-clause-spelled : goal.returns-in-Some-clause-spelled
returns-in-Some-clause-spelled c = quoted_spelled c.args.text.now c.part.result.now c.args.at _ c.args.line c.requires.within (omega arith) c.requires.quote c.part.ensures.bytes
