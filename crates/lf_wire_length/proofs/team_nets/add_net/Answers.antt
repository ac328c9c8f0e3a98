use Rattle.std.proofs.Common.{◌≡◌, ◌<◌, [], false, length, map, get_or, arith, ap, sym, ◌∙◌}
use Rattle.std.proofs.lemmas.List.{get_or-map, length-map, map-set}
use Rattle.lf_wire_length.proofs.TeamListLemmas.{ends_with, net_added}
use Rattle.lf_wire_length.proofs.team_nets.add_net.Goals as goal

pub returns-in_ok-push-clause-each : goal.returns-in_ok-push-clause-each
returns-in_ok-push-clause-each c = λ own inside.
    let lists = c.args.lists.now.items in
    let old = c.in-Some.list.now in
    let within : c.args.team < length lists = grind (arith, c.in-Some.ensures.variant) in
    let was : get_or (map (λ list. list.items) lists) c.args.team [] ≡ old.items =
    get_or-map (λ list. list.items) lists c.args.team old [] within ∙ ap (λ list. list.items) (sym c.in-Some.ensures.value) in
    let fresh : ends_with c.args.net old.items ≡ false = grind (arith, c.is_last.ensures, c.as_slice.ensures.value, c.if-not-is_last.true) in
    let many : length (map (λ list. list.items) lists) ≡ length lists = length-map lists (λ list. list.items) in
    ap (λ l. get_or l own []) (map-set (λ list. list.items) lists c.args.team c.push.new.self)
    ∙ net_added (map (λ list. list.items) lists) c.args.team own c.args.net old.items c.push.new.self.items (omega (arith, many, within)) was c.in_ok-push.ensures.items fresh (omega (arith, many, inside))
