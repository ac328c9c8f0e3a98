use Rattle.std.proofs.Common.{◌∙◌, length}
use Rattle.std.specs.List.{position_or_len}
use Rattle.std.proofs.lemmas.List.Sums.{prefix_len-le-length}
use Rattle.lf_lex.specs.Tokens.{is_other}
use Rattle.lf_lex.proofs.Scanning.{unwrap_position}
use Rattle.lf_lex.proofs.scan.other_len.Goals as goal

pub returns-clause-len : goal.returns-clause-len
returns-clause-len c =
    let text = c.args.text.now in
    c.unwrap_or.ensures ∙ rw c.first_other.ensures (unwrap_position (position_or_len is_other text) (length text) (prefix_len-le-length _ text))
