use Rattle.std.proofs.Common.{◌≡◌, ◌%◌, Some, refl, rules, slice_get, sym}
use Rattle.std.proofs.lemmas.List.{get_or_past}
use Rattle.std.proofs.lemmas.Option.{get_or_from_slice_get, slice_get_read}
use Rattle.lf_occupancy.proofs.build.id_waiting.Goals as goal

pub returns-in-Some : goal.returns-in-Some
returns-in-Some c =
    let ids = c.args.ids.now in
    let at : slice_get ids (c.args.waiting % 65536) ≡ Some c.in-Some.id.now =
    slice_get_read ids _ (c.args.waiting % 65536) c.in-Some.id.now refl (search rules) (search rules) in
    sym (get_or_from_slice_get ids (c.args.waiting % 65536) _ _ at)

pub returns-in-None : goal.returns-in-None
returns-in-None c = sym (get_or_past c.args.ids.now (c.args.waiting % 65536) _ (search rules))
