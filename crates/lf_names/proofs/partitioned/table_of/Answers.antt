use Rattle.std.proofs.Common.{◌≡◌, ◌≢◌, ◌≤◌, ◌∷◌, ◌++◌, [], length, take, map, AllPairs, Some, sym, ap, subst, ◌∙◌, arith}
use Rattle.std.proofs.lemmas.Grind.{common_steps}
use Rattle.lf_names.specs.Names.{position_of}
use Rattle.std.proofs.lemmas.List.{length-map}
use Rattle.lf_names.specs.NameParts.{entry_of}
use Rattle.lf_names.proofs.LabelledLemmas.{read, cut_front, cut_back, differ_more, differ_labelled, occurs_twice}
use Rattle.lf_names.proofs.partitioned.table_of.Goals as goal

pub loop-position-preserved : goal.loop-position-preserved
loop-position-preserved c =
    let store = c.args.names.now in
    let i = c.loop-position.position in
    let adds = rw c.in-New.is at c.in_ok-add.ensures.ok in
    let known = c.loop-position.invariant in
    record {
      left = λ own keeps.
          c.cut.ensures.back ∙ cut_back own i _ (read store own i c.at.result keeps (omega arith) c.at.ensures) c.loop-position.remaining.now (known.left own keeps);
      known = λ own keeps.
          let r = read store own i c.at.result keeps (omega arith) c.at.ensures in
          let name = c.cut.ensures.prefix ∙ cut_front own i _ r c.loop-position.remaining.now (known.left own keeps) in
          adds.2 ∙ ap (λ ns. ns ++ c.cut.result.0.now ∷ []) (known.known own keeps) ∙ ap (λ n. map (λ m. m.name) (take i own) ++ n ∷ []) name ∙ sym r.known;
      differ = rw adds.2 (differ_more c.loop-position.table c.cut.result.0.now adds.0 known.differ);
    }

pub returns-in-Present-clause-none : goal.returns-in-Present-clause-none
returns-in-Present-clause-none c = λ own keeps.
    let store = c.args.names.now in
    let i = c.loop-position.position in
    let known = c.loop-position.invariant in
    let r = read store own i c.at.result keeps (omega arith) c.at.ensures in
    let name = c.cut.ensures.prefix ∙ cut_front own i _ r c.loop-position.remaining.now (known.left own keeps) in
    let adds = rw c.in-Present.is at c.in_ok-add.ensures.ok in
    let there : position_of (map (λ n. n.name) (take i own)) r.one.name ≡ Some c.in-Present.field-0 = ap (position_of (map (λ n. n.name) (take i own))) (sym name) ∙ ap (λ ns. position_of ns c.cut.result.0.now) (sym (known.known own keeps)) ∙ adds.0 in
    occurs_twice own i _ r c.in-Present.field-0 there

pub returns-clause-differ : goal.returns-clause-differ
returns-clause-differ c = λ own keeps.
    let many : length own ≤ c.loop-position.position = omega (arith, c.loop-position-test.false, c.len.ensures, ap length keeps.entries, length-map own entry_of) in
    let whole : take c.loop-position.position own ≡ own = grind (arith, common_steps) in
    let all : c.loop-position.table ≡ map (λ n. n.name) own = c.loop-position.invariant.known own keeps ∙ ap (map (λ n. n.name)) whole in
    differ_labelled own (subst (AllPairs (λ name later. name ≢ later)) all c.loop-position.invariant.differ)
