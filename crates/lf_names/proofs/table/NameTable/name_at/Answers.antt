use Rattle.std.proofs.Common.{◌≡◌, ◌≢◌, ◌∙◌, AllPairs, Some, length, slice_get, refl, sym, ap}
use Rattle.std.proofs.lemmas.Bool.{ltb-true}
use Rattle.std.proofs.lemmas.Option.{slice_get_read, slice_get-map}
use Rattle.std.specs.Option.{option_map}
use Rattle.lf_names.specs.Stored.{bytes_of}
use Rattle.lf_names.proofs.Keys.{names_differ}
use Rattle.lf_names.proofs.Positions.{found_there}
use Rattle.lf_names.proofs.table.NameTable.name_at.Goals as goal

pub returns-clause-found_there : goal.returns-clause-found_there
returns-clause-found_there g c =
    let key : slice_get c.as_slice.result.now c.args.position ≡ Some c.in_ok-get.field-0.now =
    slice_get_read c.as_slice.result.now (length c.as_slice.result.now) c.args.position c.in_ok-get.field-0.now refl (ltb-true _ _ (sym c.in_ok-get.ensures.lookup.0)) c.in_ok-get.ensures.lookup.1 in
    let name : slice_get c.args.self.now c.args.position ≡ Some c.as_slice-2.result.now =
    ap (λ names. slice_get names c.args.position) (sym c.self.view_is) ∙ slice_get-map bytes_of c.self.inside.names.keys c.args.position
    ∙ ap (option_map bytes_of) (ap (λ keys. slice_get keys c.args.position) (sym c.as_slice.ensures.keys) ∙ key) ∙ ap Some (sym c.as_slice-2.ensures) in
    let distinct : AllPairs (λ name later. name ≢ later) c.args.self.now =
    names_differ bytes_of c.self.inside.names.keys c.args.self.now c.self.view_is c.as_slice.ensures.unique in
    found_there c.args.self.now c.as_slice-2.result.now c.args.position distinct name
