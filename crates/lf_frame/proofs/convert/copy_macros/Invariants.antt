use Rattle.std.proofs.Common.{◌≡◌, ◌++◌, drop}
use Rattle.lf_frame.proofs.convert.copy_macros.Given as goal

-- The copies so far, followed by the remaining macros, are all of them.
abbrev pub invariant-loop-mac : goal.invariant-loop-mac
invariant-loop-mac l = l.copies ++ drop l.mac-index l.macros ≡ l.macros
