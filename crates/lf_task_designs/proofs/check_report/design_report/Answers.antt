use Rattle.std.proofs.Common.{◌≡◌, ◌∙◌, List, Option, ap, map, sym, subst}
use Rattle.std.specs.Prelude.{◌↔◌, count_by, is_none}
use Rattle.std.proofs.Math.ListN.{length-map}
use Rattle.lf_floorplan.specs.declared.place.Place.{Place}
use Rattle.lf_rules.specs.FullyLegal.{IsFullyLegal, design_cells_at}
use Rattle.lf_reports.specs.Reports.{IsFaultless, listed_at}
use Rattle.lf_reports.proofs.LegalVerdicts.{unplaced_are, verdicts_moved}
use Rattle.lf_task_designs.specs.Checks.{def_places}
use Rattle.lf_task_designs.specs.Reporting.{listed_as_loaded}
use Rattle.lf_task_designs.proofs.Reporting.{places_as_loaded}
use Rattle.lf_task_designs.proofs.check_report.design_report.Goals as goal

pub returns-clause-text : goal.returns-clause-text
returns-clause-text c = λ l.
    let cells = c.args.loaded.now.cells in
    let at : c.deref.result.now ≡ def_places cells = c.deref.ensures.value ∙ c.in_ok-places.ensures {u = tt} in
    let again : c.deref-2.result.now ≡ def_places cells = c.deref-2.ensures.value ∙ c.in_ok-places.ensures {u = tt} in
    let listed : map listed_as_loaded cells ≡ listed_at cells c.deref.result.now =
    sym (places_as_loaded cells) ∙ sym (ap (λ (places : List (Option Place)). listed_at cells places) at) in
    let unplaced = c.unplaced_in-unplaced.ensures ∙ ap (λ (places : List (Option Place)). count_by is_none places) again
    ∙ unplaced_are cells (def_places cells) (length-map cells (λ cell. cell.place)) in
    c.in_ok-text.ensures {u = tt} l unplaced (verdicts_moved l c.args.loaded.now.frame listed c.deref-3.ensures.value (c.in_ok-verdicts.ensures.each l))

pub returns-clause-legal : goal.returns-clause-legal
returns-clause-legal c =
    let cells = c.args.loaded.now.cells in
    let verdicts = c.in_ok-verdicts.verdicts.items in
    let at : c.deref.result.now ≡ def_places cells = c.deref.ensures.value ∙ c.in_ok-places.ensures {u = tt} in
    let again : c.deref-2.result.now ≡ def_places cells = c.deref-2.ensures.value ∙ c.in_ok-places.ensures {u = tt} in
    let faultless = c.is_faultless-legal.ensures (def_places cells) (c.unplaced_in-unplaced.ensures ∙ ap (λ (places : List (Option Place)). count_by is_none places) again) in
    let legal = subst (λ (places : List (Option Place)). IsFaultless places verdicts ↔ IsFullyLegal c.args.loaded.now.frame (design_cells_at cells places)) at
    c.in_ok-verdicts.ensures.legal in (
      λ yes. legal.0 (subst (IsFaultless (def_places cells)) c.deref-4.ensures.value (faultless.0 yes)),
      λ is. faultless.1 (subst (IsFaultless (def_places cells)) (sym c.deref-4.ensures.value) (legal.1 is)),
    )
