use Rattle.std.proofs.Common.{arith}
use Rattle.std.proofs.lemmas.Result.{IfOk-weaker}
use Rattle.lf_legalize.specs.RowSearches.{padding_in}
use Rattle.lf_legalize.specs.Levels.{AreFreeOn, IsLevel, IsLevelRow, AreOpenInRow}
use Rattle.lf_legalize.proofs.LevelLemmas.{level_bottom, level_above}
use Rattle.lf_legalize.proofs.levels.free_at.Goals as goal

pub returns-then-level-eq0 : goal.returns-then-level-eq0
returns-then-level-eq0 c =
    let s = c.args.search.now in
    IfOk-weaker c.open_in_row.result (λ free. AreOpenInRow s.occupancy.now c.args.bottom.now.number s.id c.args.bottom.now.window.now.span (padding_in s) free.items)
    (λ free. IsLevel s c.args.bottom.now.number c.args.bottom.now.row.now c.args.bottom.now.window.now.span c.args.level free.items)
    (λ free is. level_bottom s c.args.bottom.now.number c.args.bottom.now.row.now c.args.bottom.now.window.now.span c.args.level free.items (omega (
      arith,
      c.if-level-eq0.true,
    )) is)
    c.open_in_row.ensures

pub returns : goal.returns
returns c =
    let s = c.args.search.now in
    IfOk-weaker c.free_above.result (λ free. AreFreeOn (IsLevelRow s.frame.now c.args.bottom.now.row.now c.args.level) s.occupancy.now s.id
    c.args.bottom.now.window.now.span (padding_in s) free.items)
    (λ free. IsLevel s c.args.bottom.now.number c.args.bottom.now.row.now c.args.bottom.now.window.now.span c.args.level free.items)
    (λ free is. level_above s c.args.bottom.now.number c.args.bottom.now.row.now c.args.bottom.now.window.now.span c.args.level free.items
    (λ none. let some = c.if-level-eq0.false in omega (arith, none, some)) is)
    c.free_above.ensures
