use Rattle.std.proofs.Common.{◌≡◌, ◌++◌, Some, slice_get, refl, rules}
use Rattle.std.proofs.lemmas.Bool.{false≢true}
use Rattle.std.proofs.lemmas.Option.{slice_get_read}
use Rattle.lf_legalize.proofs.LevelLemmas.{adds_none, adds_row}
use Rattle.lf_legalize.proofs.levels.push_row.Goals as goal

pub returns-then-not-is_railed : goal.returns-then-not-is_railed
returns-then-not-is_railed c =
    let row = c.index-as_slice-number.result in
    let there : slice_get c.args.search.now.frame.now.rows c.args.number ≡ Some row = slice_get_read _ _ c.args.number row refl (search rules) (search rules) in
    adds_none c.args.search.now c.args.bottom.now.row.now c.args.level c.args.number c.args.bottom.now.window.now.span c.args.spans.now.items row there
    (λ rail. false≢true (c.if-not-is_railed.ensures.1 rail))

pub returns : goal.returns
returns c =
    let row = c.index-as_slice-number.result in
    let there : slice_get c.args.search.now.frame.now.rows c.args.number ≡ Some row = slice_get_read _ _ c.args.number row refl (search rules) (search rules) in
    let free = c.in_ok-free.free.items in
    let is : c.extend_from_slice.new.self.items ≡ c.args.spans.now.items ++ free = search rules in
    adds_row c.args.search.now c.args.bottom.now.row.now c.args.level c.args.number c.args.bottom.now.window.now.span c.args.spans.now.items
    c.extend_from_slice.new.self.items free row
    there (c.if-not-is_railed.ensures.0 refl) c.in_ok-free.ensures is
