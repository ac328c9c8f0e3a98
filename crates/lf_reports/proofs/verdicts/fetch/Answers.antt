use Rattle.std.proofs.Common.{◌≡◌, ◌∙◌, ◌++◌, ◌∷◌, ◌+◌, [], ℕ, List, Some, ap, refl, sym, subst, map, drop, get_or, pos}
use Rattle.std.specs.Prelude.{slice_get, option_map}
use Rattle.std.proofs.lemmas.Option.{slice_get-map, slice_get_read}
use Rattle.std.proofs.lemmas.List.{map-append}
use Rattle.lf_rules.specs.declared.report_types.Listed.{Listed}
use Rattle.lf_units.specs.declared.placed.Placed.{Placed}
use Rattle.lf_reports.specs.Reports.{with_byte_name}
use Rattle.lf_reports.proofs.VerdictLists.{fetched_more}
use Rattle.lf_reports.proofs.verdicts.fetch.Goals as goal

pub loop-placed-preserved : goal.loop-placed-preserved
loop-placed-preserved c =
    let cells = c.args.cells.now in
    let nowhere : Placed = record { own = 0; rect = record { x1 = pos 0; y1 = pos 0; x2 = pos 0; y2 = pos 0 } } in
    let own = (get_or c.args.boxes.now c.loop-placed.placed-index nowhere).own in
    let cell = c.index-cells-placed.result in
    let within = c.requires c.loop-placed.placed-index nowhere c.loop-placed-test.true in
    let there : slice_get (map with_byte_name cells) own ≡ Some (with_byte_name cell) = slice_get-map with_byte_name cells own
    ∙ ap (option_map with_byte_name) (slice_get_read cells _ own cell refl within c.index-cells-placed.is) in
    let grown : map with_byte_name c.push.new.self.items ≡ map with_byte_name c.loop-placed.fetched.items ++ with_byte_name cell ∷ [] =
    ap (map with_byte_name) c.in_ok-push.ensures.items ∙ map-append with_byte_name c.loop-placed.fetched.items (cell ∷ []) in
    subst (λ (x : List (Listed (List ℕ))). map Some x ++ map (λ p. slice_get (map with_byte_name cells) p.own) (drop (c.loop-placed.placed-index + 1) c.args.boxes.now) ≡ map (λ p. slice_get (map with_byte_name cells) p.own) c.args.boxes.now) (sym grown)
    (fetched_more (map with_byte_name cells) (map with_byte_name c.loop-placed.fetched.items) c.args.boxes.now c.loop-placed.placed-index nowhere (with_byte_name cell) c.loop-placed-test.true there c.loop-placed.invariant)
