use Rattle.std.proofs.Common.{◌≡◌, ◌∙◌, sym, ap, refl, length, None, rules}
use Rattle.std.proofs.lemmas.List.{length-map}
use Rattle.lf_names.specs.Names.{position_of}
use Rattle.lf_names.specs.Stored.{bytes_of}
use Rattle.lf_names.proofs.Keys.{position-keys, names-push}
use Rattle.lf_names.proofs.table.NameTable.add.Goals as goal

pub returns-in-Some-clause-ok : goal.returns-in-Some-clause-ok
returns-in-Some-clause-ok g c = (
  sym (position-keys bytes_of c.self.inside.names.keys c.args.self.now c.args.name.now c.self.view_is) ∙ sym c.in-Some.ensures.index,
  refl,
)

pub returns-in_err-copy-in-None-clause-only_new : goal.returns-in_err-copy-in-None-clause-only_new
returns-in_err-copy-in-None-clause-only_new g c =
    let absent : position_of c.args.self.now c.args.name.now ≡ None =
    sym (position-keys bytes_of c.self.inside.names.keys c.args.self.now c.args.name.now c.self.view_is) ∙ sym c.in-None.ensures.index
    in search rules

pub returns-in_err-insert-in-None-clause-only_new : goal.returns-in_err-insert-in-None-clause-only_new
returns-in_err-insert-in-None-clause-only_new g c =
    let absent : position_of c.args.self.now c.args.name.now ≡ None =
    sym (position-keys bytes_of c.self.inside.names.keys c.args.self.now c.args.name.now c.self.view_is) ∙ sym c.in-None.ensures.index
    in search rules

pub returns-in_ok-insert-in-None-clause-ok : goal.returns-in_ok-insert-in-None-clause-ok
returns-in_ok-insert-in-None-clause-ok g c = (
  sym (position-keys bytes_of c.self.inside.names.keys c.args.self.now c.args.name.now c.self.view_is) ∙ sym c.in-None.ensures.index,
  c.len-position.ensures.len ∙ sym (length-map c.self.inside.names.keys bytes_of) ∙ ap length c.self.view_is,
  names-push bytes_of c.self.inside.names.keys c.insert.new.self.keys c.in_ok-copy-in-None.copy c.args.self.now c.args.name.now
      c.self.view_is c.in_ok-copy-in-None.ensures c.in-None.ensures.found c.in_ok-insert-in-None.ensures.keys,
)
