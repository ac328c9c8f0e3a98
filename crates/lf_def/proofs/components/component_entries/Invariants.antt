use Rattle.std.proofs.Common.{◌≤◌, length}
use Rattle.std.specs.Prelude.{All, codes}
use Rattle.lf_lex.specs.Reading.{block}
use Rattle.lf_lex.proofs.Turns.{Going}
use Rattle.lf_def.specs.Entries.{entry_or_end}
use Rattle.lf_def.specs.Components.{component}
use Rattle.lf_def.specs.Ranges.{IsComponent}
use Rattle.lf_def.proofs.components.component_entries.Given as goal

abbrev pub invariant-loop : goal.invariant-loop
invariant-loop l = record {
  going : Going (entry_or_end (codes "COMPONENTS") component) l.components l.lexer (block (entry_or_end (codes "COMPONENTS") component) l.initial.components l.initial.lexer);
  fewer : length l.lexer.tokens ≤ length l.initial.lexer.tokens;
  range : All IsComponent l.components;
}

abbrev pub decreases-loop : goal.decreases-loop
decreases-loop l = length l.lexer.tokens
