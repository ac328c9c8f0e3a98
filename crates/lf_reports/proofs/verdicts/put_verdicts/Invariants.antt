use Rattle.std.proofs.Common.{◌≡◌, ◌++◌, List, length, map, take}
use Rattle.lf_units.specs.declared.placed.Placed.{Placed}
use Rattle.lf_rules.specs.Legalizer.{Legalizer}
use Rattle.lf_reports.specs.Reports.{with_byte_name, HaveVerdicts}
use Rattle.lf_reports.proofs.verdicts.put_verdicts.Given as goal

-- The cells of the boxes so far have their verdict, and so do those that already had it.
abbrev pub invariant-loop-number : goal.invariant-loop-number
invariant-loop-number l =
    (length l.verdicts.items ≡ length l.cells)
    × ((lz : Legalizer) (done : List Placed) → HaveVerdicts lz l.frame l.near.padding.sites (map with_byte_name l.cells) done l.initial.verdicts.items →
    HaveVerdicts lz l.frame l.near.padding.sites (map with_byte_name l.cells) (done ++ take l.number l.boxes) l.verdicts.items)
