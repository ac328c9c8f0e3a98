use Rattle.std.proofs.lemmas.Str.{IsUtf8-from_ascii}
use Rattle.lf_describe.proofs.Names.{ascii, reported}
use Rattle.lf_describe.proofs.laws.names_are_written.Goals as goal

pub returns : goal.returns
returns c = λ name is. reported name (IsUtf8-from_ascii name (ascii name is.printed))
