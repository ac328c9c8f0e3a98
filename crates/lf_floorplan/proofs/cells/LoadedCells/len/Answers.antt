use Rattle.std.proofs.Common.{◌≡◌, List, length, ap, sym, ◌∙◌, rules}
use Rattle.lf_floorplan.specs.declared.loaded.LoadedCell.{LoadedCell}
use Rattle.lf_floorplan.proofs.NamedCells.{many_seen}
use Rattle.lf_floorplan.proofs.cells.LoadedCells.len.Goals as goal

pub returns : goal.returns
returns c =
    let parts = c.self.inside.parts in
    let many : c.len.result ≡ length parts.cells.items = search rules in
    many ∙ sym (many_seen parts.names parts.cells.items c.self.invariant) ∙ ap (λ (cells : List LoadedCell). length cells) c.self.view_is
