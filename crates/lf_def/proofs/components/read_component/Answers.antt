use Rattle.lf_lex.specs.Tokens.{lexeme}
use Rattle.lf_def.proofs.NamePieces.{names_slices, names_within}
use Rattle.lf_def.proofs.components.read_component.Goals as goal

pub new-names-requires-clause-slices : goal.new-names-requires-clause-slices
new-names-requires-clause-slices c =
    names_slices c.text-text.result.now c.args.lexer.now c.name.new.lexer c.name-2.new.lexer (lexeme c.in_ok-component.component) (lexeme c.in_ok-mac.mac)
    c.in_ok-component.ensures.read.0 c.in_ok-mac.ensures.read.0 c.text-text.ensures.slices

pub new-names-requires-clause-within : goal.new-names-requires-clause-within
new-names-requires-clause-within c =
    names_within c.text-text.result.now c.args.lexer.now c.name.new.lexer c.name-2.new.lexer (lexeme c.in_ok-component.component) (lexeme c.in_ok-mac.mac)
    c.in_ok-component.ensures.read.0 c.in_ok-mac.ensures.read.0 c.text-text.ensures.within
