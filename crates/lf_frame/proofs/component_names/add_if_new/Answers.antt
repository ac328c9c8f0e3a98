use Rattle.std.proofs.lemmas.Option.{slice_get_within, get_or_from_slice_get}
use Rattle.lf_names.proofs.Positions.{is_found_there, has_no_place}
use Rattle.lf_frame.proofs.component_names.add_if_new.Goals as goal

pub returns-in-New-clause-new : goal.returns-in-New-clause-new
returns-in-New-clause-new c =
    let adds = rw c.in-New.is at c.in_ok-add.ensures.ok in
    λ t there. has_no_place c.args.names.now c.args.name.now adds.0 there

pub returns-in-Present-clause-present : goal.returns-in-Present-clause-present
returns-in-Present-clause-present c =
    let adds = rw c.in-Present.is at c.in_ok-add.ensures.ok in
    let there = is_found_there c.args.names.now c.args.name.now c.in-Present.field-0 adds.0 in
    λ t. (c.in-Present.field-0, slice_get_within c.args.names.now c.in-Present.field-0 c.args.name.now there, get_or_from_slice_get c.args.names.now c.in-Present.field-0 c.args.name.now c.args.name.now there)
