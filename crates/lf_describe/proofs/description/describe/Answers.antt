use Rattle.std.proofs.Common.{◌∙◌, ℕ, List, ap, map, subst}
use Rattle.std.specs.Borrow.{Bor}
use Rattle.lf_rules.specs.declared.report_types.Listed.{Listed}
use Rattle.lf_reports.specs.Reports.{with_byte_name}
use Rattle.lf_describe.specs.Description.{AppendsFirst, AppendsLines, fixed_names}
use Rattle.lf_describe.proofs.Designs.{are_cells, each_is_listed, few_are, legal_is}
use Rattle.lf_describe.proofs.Pieces.{none_first, on_err_weaker, on_ok_weaker}
use Rattle.lf_describe.proofs.description.describe.Goals as goal

pub describe_cells-requires-clause-listed : goal.describe_cells-requires-clause-listed
describe_cells-requires-clause-listed g c =
    each_is_listed c.cell_is_sized.ensures c.args.loaded.now c.deref-2.result.now (are_cells c.args.loaded.now.cells _ _ c.deref-2.ensures.value c.in-Ok-listed.ensures)

pub describe_cells-requires-clause-few : goal.describe_cells-requires-clause-few
describe_cells-requires-clause-few g c =
    few_are c.args.loaded.now c.deref-2.result.now (are_cells c.args.loaded.now.cells _ _ c.deref-2.ensures.value c.in-Ok-listed.ensures)

pub returns-clause-legal : goal.returns-clause-legal
returns-clause-legal g c =
    let l = c.legalizer_exists.ensures in
    legal_is c.cell_is_sized.ensures l c.args.loaded.now c.deref-2.result.now c.describe_cells.result
    (are_cells c.args.loaded.now.cells _ _ c.deref-2.ensures.value c.in-Ok-listed.ensures) (c.describe_cells.ensures.clean l)

pub returns-in_default-clause-cut : goal.returns-in_default-clause-cut
returns-in_default-clause-cut g c = λ l. none_first l _ _ _ _

pub returns-in_default-listed-clause-cut : goal.returns-in_default-listed-clause-cut
returns-in_default-listed-clause-cut g c = λ l. none_first l _ _ _ _

pub returns-clause-text : goal.returns-clause-text
returns-clause-text g c = λ l.
    let f = c.args.loaded.now.frame in
    let old = g.W.Sink.contents c.args.writer.now in
    let new = g.W.Sink.contents c.describe_cells.new.writer in
    let cells = are_cells c.args.loaded.now.cells _ _ c.deref-2.ensures.value c.in-Ok-listed.ensures in
    let names = ap (λ (ns : List (Bor (List ℕ))). map (λ n. n.now) ns) c.deref.ensures.value ∙ c.in-Ok.ensures ∙ ap fixed_names c.as_slice.ensures in
    on_ok_weaker c.describe_cells.result
    (λ p. subst (λ (cs : List (Listed (List ℕ))). AppendsLines l f (fixed_names c.args.document.now.components) cs old new) cells
    (subst (λ (ns : List (List ℕ)). AppendsLines l f ns (map with_byte_name c.deref-2.result.now) old new) names p))
    (c.describe_cells.ensures.text l)

pub returns-clause-cut : goal.returns-clause-cut
returns-clause-cut g c = λ l.
    let f = c.args.loaded.now.frame in
    let old = g.W.Sink.contents c.args.writer.now in
    let new = g.W.Sink.contents c.describe_cells.new.writer in
    let cells = are_cells c.args.loaded.now.cells _ _ c.deref-2.ensures.value c.in-Ok-listed.ensures in
    let names = ap (λ (ns : List (Bor (List ℕ))). map (λ n. n.now) ns) c.deref.ensures.value ∙ c.in-Ok.ensures ∙ ap fixed_names c.as_slice.ensures in
    on_err_weaker c.describe_cells.result
    (λ p. subst (λ (cs : List (Listed (List ℕ))). AppendsFirst l f (fixed_names c.args.document.now.components) cs old new) cells
    (subst (λ (ns : List (List ℕ)). AppendsFirst l f ns (map with_byte_name c.deref-2.result.now) old new) names p))
    (c.describe_cells.ensures.cut l)
