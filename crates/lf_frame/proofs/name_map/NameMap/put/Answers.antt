use Rattle.std.proofs.Common.{◌≡◌, [], ◌∷◌, ◌++◌, length, arith}
use Rattle.std.proofs.lemmas.List.{length_push, length-set}
use Rattle.lf_frame.proofs.MapLemmas.{new_there, new_others, old_there, old_others}
use Rattle.lf_frame.proofs.name_map.NameMap.put.Goals as goal

pub returns-in_ok-push-in-New : goal.returns-in_ok-push-in-New
returns-in_ok-push-in-New g c =
    let old = c.args.self.now in
    let adds = rw c.in-New.is at c.in_ok-add.ensures.ok in
    let names : c.add.new.self ≡ old.names ++ c.args.name.now ∷ [] = adds.2 in
    let values : c.push.new.self.items ≡ old.values.items ++ c.args.value ∷ [] = c.in_ok-push-in-New.ensures.items in
    let whole : length old.names ≡ length old.values.items = c.requires in
    record {
      whole = rw (names, values) (omega (arith, length_push old.names c.args.name.now, length_push old.values.items c.args.value));
      there = rw (names, values) (new_there old.names old.values.items c.args.name.now c.args.value whole adds.0);
      others = λ q apart. rw (names, values) (new_others old.names old.values.items c.args.name.now c.args.value whole q apart);
    }

pub returns-in-Present : goal.returns-in-Present
returns-in-Present g c =
    let old = c.args.self.now in
    let adds = rw c.in-Present.is at c.in_ok-add.ensures.ok in
    let names : c.add.new.self ≡ old.names = adds.1 in
    let whole : length old.names ≡ length old.values.items = c.requires in
    record {
      whole = rw names (omega (arith, length-set old.values.items c.in-Present.at c.args.value));
      there = rw names (old_there old.names old.values.items c.args.name.now c.in-Present.at c.args.value whole adds.0);
      others = λ q apart. rw names (old_others old.names old.values.items c.args.name.now c.in-Present.at c.args.value adds.0 q apart);
    }
