use Rattle.std.proofs.Common.{◌≡◌, ◌++◌, drop, map}
use Rattle.lf_journal_text.specs.Records.{names_text}
use Rattle.lf_journal_text.proofs.beginning.put_names.Given as goal

abbrev pub invariant-loop-name : goal.invariant-loop-name
invariant-loop-name l =
    l.line.items ++ names_text (map (λ name. name.items) (drop l.name-index l.names)) ≡ l.fn.line.items ++ names_text (map (λ name. name.items) l.names)
