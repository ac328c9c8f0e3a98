use Rattle.std.proofs.Common.{◌≡◌, ◌∙◌, ◌<◌, ℕ, List, All, [], length, map, sym, subst, rules}
use Rattle.std.proofs.lemmas.List.Elements.{All-take, All-drop}
use Rattle.std.proofs.Math.ListN.{length-map}
use Rattle.lf_units.specs.declared.placed.Placed.{Placed}
use Rattle.lf_reports.specs.Reports.{with_byte_name, listed_member}
use Rattle.lf_reports.proofs.VerdictLists.{numbers_known, none_yet, pass_some, all_passed}
use Rattle.lf_reports.proofs.verdicts.verdicts_in.Goals as goal

pub put_verdicts-requires-clause-known : goal.put_verdicts-requires-clause-known
put_verdicts-requires-clause-known c =
    let Known : Placed → Type 0 = λ p. p.own < length c.args.cells.now in
    subst (All Known) (sym c.split_at.ensures.front) (All-take Known _ c.loop-rest.rest.now c.loop-rest.invariant.known)

pub loop-rest-init : goal.loop-rest-init
loop-rest-init c =
    let f = c.args.frame.now in
    let cells = map with_byte_name c.args.cells.now in
    let named_long : length cells ≡ length c.args.cells.now = length-map c.args.cells.now with_byte_name in
    let long : length (map listed_member cells) ≡ length c.args.cells.now = length-map cells listed_member ∙ named_long in
    let known : All (λ p. p.own < length c.args.cells.now) c.args.near.now.boxes.now =
    subst (λ (n : ℕ). All (λ p. p.own < n) c.args.near.now.boxes.now) long (numbers_known f (map listed_member cells) c.args.near.now.boxes.now c.requires.tree) in
    record {
      count = c.in_ok-verdicts.ensures.count;
      known = subst (λ (boxes : List Placed). All (λ p. p.own < length c.args.cells.now) boxes) (sym c.boxes-rest.ensures) known;
      have = λ l. record {
        passed = [];
        parts = c.boxes-rest.ensures;
        have = none_yet l f c.args.near.now.padding.sites cells c.in_ok-verdicts.verdicts.items (c.in_ok-verdicts.ensures.count ∙ sym named_long) c.in_ok-verdicts.ensures.none;
      };
    }

pub loop-rest-preserved : goal.loop-rest-preserved
loop-rest-preserved c =
    let Known : Placed → Type 0 = λ p. p.own < length c.args.cells.now in
    record {
      count = c.put_verdicts.ensures.count;
      known = subst (All Known) (sym c.split_at.ensures.back) (All-drop Known _ c.loop-rest.rest.now c.loop-rest.invariant.known);
      have = λ l.
          pass_some l c.args.frame.now c.args.near.now.padding.sites (map with_byte_name c.args.cells.now) c.args.near.now.boxes.now c.loop-rest.rest.now _ _ _ c.loop-rest.verdicts.items _
          c.split_at.ensures.front c.split_at.ensures.back (λ done have. c.in_ok-put_verdicts.ensures.put l done have) (c.loop-rest.invariant.have l);
    }

pub returns-clause-each : goal.returns-clause-each
returns-clause-each c = λ l.
    all_passed l c.args.frame.now c.args.near.now.padding.sites (map with_byte_name c.args.cells.now) c.args.near.now.boxes.now c.loop-rest.rest.now c.loop-rest.verdicts.items
    c.requires.tree (search rules) (c.loop-rest.invariant.have l)
