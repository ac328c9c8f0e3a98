use Rattle.std.proofs.Common.{◌≡◌, ◌∙◌, rules}
use Rattle.lf_def.specs.Contents.{contents}
use Rattle.lf_write.specs.Export.{renewed}
use Rattle.lf_write.proofs.export_text.export.Goals as goal

pub write_export-requires : goal.write_export-requires
write_export-requires c =
    let d = c.args.document.now in
    rw c.in_ok-clauses.ensures (c.kept_clauses_suffice.ensures.ready d.text.now (contents d) c.args.places.now d.read c.requires.places)

pub returns-in-Ok-clause-bytes : goal.returns-in-Ok-clause-bytes
returns-in-Ok-clause-bytes c =
    let d = c.args.document.now in
    let written : c.write_export.new.out.items ≡ renewed d.text.now c.in_ok-clauses.clauses c.args.places.now = search rules in
    written
    ∙ rw c.in_ok-clauses.ensures
    (c.kept_clauses_suffice.ensures.same d.text.now d.components c.args.places.now
    (c.kept_clauses_suffice.ensures.ready d.text.now (contents d) c.args.places.now d.read c.requires.places))

pub returns-in-Ok-clause-again : goal.returns-in-Ok-clause-again
returns-in-Ok-clause-again c =
    let d = c.args.document.now in
    rw (returns-in-Ok-clause-bytes c)
    (c.exports_read_back.ensures d.text.now (contents d) c.args.places.now d.read c.requires.places.rise c.in-Ok.ensures.fit)
