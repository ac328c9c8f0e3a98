use Rattle.std.proofs.Common.{◌≡◌, [], ◌∷◌, ◌++◌, arith}
use Rattle.std.proofs.lemmas.List.{length_push}
use Rattle.lf_wire_nets.proofs.FirstLemmas.{new_found, old_found}
use Rattle.lf_wire_nets.proofs.first_names.FirstNames.add.Goals as goal

pub returns-in_ok-push-in-New : goal.returns-in_ok-push-in-New
returns-in_ok-push-in-New c =
    let old = c.args.self.now in
    let adds = rw c.in-New.is at c.in_ok-add.ensures.ok in
    let names : c.add.new.self ≡ old.names ++ c.args.name.now ∷ [] = adds.2 in
    let positions : c.push.new.self.items ≡ old.positions.items ++ c.args.position ∷ [] = c.in_ok-push-in-New.ensures.items in
    record {
      whole = rw (names, positions) (omega (arith, c.requires, length_push old.names c.args.name.now, length_push old.positions.items c.args.position));
      positions = λ q. rw (names, positions) (new_found old.names old.positions.items c.args.name.now c.args.position c.requires q);
    }

pub returns-in-Present : goal.returns-in-Present
returns-in-Present c =
    let old = c.args.self.now in
    let adds = rw c.in-Present.is at c.in_ok-add.ensures.ok in
    let names : c.add.new.self ≡ old.names = adds.1 in
    record {
      whole = rw names c.requires;
      positions = λ q. rw names (old_found old.names old.positions.items c.args.name.now c.in-Present.field-0 c.args.position c.requires adds.0 q);
    }
