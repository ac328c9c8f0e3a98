use Rattle.lf_lex.specs.Tokens.{lexeme}
use Rattle.lf_def.proofs.NamePieces.{last_is}
use Rattle.lf_def.proofs.component_words.ComponentNames.new.Goals as goal

pub returns-clause-mac : goal.returns-clause-mac
returns-clause-mac c = last_is c.args.text.now (lexeme c.args.name.now) (lexeme c.args.mac.now) c.requires.slices c.requires.within
