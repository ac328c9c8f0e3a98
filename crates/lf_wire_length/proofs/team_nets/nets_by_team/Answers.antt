use Rattle.std.proofs.Common.{◌≡◌, [], length, map, filter, get_or, ap, arith, sym, ◌∙◌, zero-add}
use Rattle.std.specs.List.{range_with_len}
use Rattle.std.proofs.lemmas.List.{get_or_default, length-map, same_lists}
use Rattle.std.proofs.lemmas.List.FromFn.{get_or-map-range_with_len, length-map-range_with_len}
use Rattle.lf_wire_length.specs.Stored.{pin_stored, stored_nets}
use Rattle.lf_wire_length.specs.TeamNets.{has_pin_of, is_net_of, nets_of_team, nets_of_teams}
use Rattle.lf_wire_length.proofs.StoredLemmas.{net_mapped, nets_counted}
use Rattle.lf_wire_length.proofs.TeamListLemmas.{one_net_more}
use Rattle.lf_wire_length.proofs.team_nets.nets_by_team.Goals as goal

pub loop-net-preserved : goal.loop-net-preserved
loop-net-preserved c =
    let stored = c.args.stored.now in
    let owners = c.args.owners.now in
    let net = c.loop-net.net in
    let lists = map (λ list. list.items) c.loop-net.lists.items in
    let pins = c.pins_of-pins.result.now in
    let mapped = net_mapped (pin_stored stored.rows.now) stored.starts.now stored.pins.now net [] (omega (arith, c.loop-net-test.true)) in
    let same : get_or (stored_nets stored) net [] ≡ map (pin_stored stored.rows.now) pins = mapped ∙ ap (map (pin_stored stored.rows.now)) (sym c.pins_of-pins.ensures) in
    record {
      many = c.in_ok-add_pins.ensures.many ∙ c.loop-net.invariant.many;
      each = λ own inside.
          c.in_ok-add_pins.ensures.each own (omega (arith, inside, c.loop-net.invariant.many))
          ∙ one_net_more stored.rows.now owners own net (is_net_of owners (stored_nets stored) own) (get_or lists own []) pins (c.loop-net.invariant.each own inside)
          (ap (has_pin_of owners own) same);
    }

pub returns : goal.returns
returns c =
    let stored = c.args.stored.now in
    let owners = c.args.owners.now in
    let nets = stored_nets stored in
    let lists = map (λ list. list.items) c.loop-net.lists.items in
    let many : length lists ≡ c.args.teams = length-map c.loop-net.lists.items (λ list. list.items) ∙ c.loop-net.invariant.many in
    let long : length (nets_of_teams owners nets c.args.teams) ≡ c.args.teams = length-map-range_with_len (nets_of_team owners nets) 0 c.args.teams in
    let all : c.loop-net.net ≡ length nets = omega (arith, nets_counted stored.starts.now (map (pin_stored stored.rows.now) stored.pins.now), c.loop-net-test.false, c.loop-net.auto.net-end) in
    same_lists lists (nets_of_teams owners nets c.args.teams) (many ∙ sym long)
    (λ own other inside.
    get_or_default lists own other [] inside ∙ c.loop-net.invariant.each own (omega (arith, inside, many))
    ∙ ap (λ n. filter (is_net_of owners nets own) (range_with_len 0 n)) all
    ∙ sym (get_or-map-range_with_len (nets_of_team owners nets) 0 c.args.teams own own other (omega (arith, inside, many)) (zero-add own)))
