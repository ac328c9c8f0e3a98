use Rattle.std.proofs.Common.{◌≡◌, ℕ, List, [], Vec, Global, get_or, length, map, refl, sym, subst, rules}
use Rattle.lf_segments.specs.Indexes.{FrameIndexView}
use Rattle.lf_units.specs.declared.span.Span.{Span}
use Rattle.lf_legalize.specs.Levels.{AreLevels, HasBareLevel}
use Rattle.lf_legalize.proofs.LevelLemmas.{bare_bottom, one_level}
use Rattle.lf_legalize.proofs.RowChoice.{none_bare}
use Rattle.lf_legalize.proofs.on_row.best_of_one.Goals as goal

pub best_in_gap-requires-clause-bare : goal.best_in_gap-requires-clause-bare
best_in_gap-requires-clause-bare c =
    subst (λ (g : FrameIndexView). (k : ℕ) → get_or g.soft k [] ≡ []) c.index.ensures (c.if-has_no_soft.ensures refl)

pub returns-then-is_empty : goal.returns-then-is_empty
returns-then-is_empty c p on may =
    let s = c.args.search.now in
    let n = c.args.bottom.now.number in
    let row = c.args.bottom.now.row.now in
    let window = c.args.bottom.now.window.now.span in
    let none : length c.in_ok-free.free.items ≡ 0 = search rules in
    let bare : HasBareLevel s n row window = bare_bottom s n row window c.in_ok-free.free.items c.requires.one none c.in_ok-free.ensures in
    none_bare s n row window p c.requires.is_in_place c.search_is_occupied.ensures bare on may

pub best_at-requires-clause-levels : goal.best_at-requires-clause-levels
best_at-requires-clause-levels c =
    let s = c.args.search.now in
    let n = c.args.bottom.now.number in
    let row = c.args.bottom.now.row.now in
    let window = c.args.bottom.now.window.now.span in
    subst (λ (lists : List (Vec Span Global)). AreLevels s n row window s.height (map (λ list. list.items) lists)) (sym c.from_ref.ensures.value)
    (one_level s n row window c.in_ok-free.free.items c.requires.one c.in_ok-free.ensures)
