use Rattle.std.proofs.lemmas.Bool.Decides.{Decides-eqb}
use Rattle.std.proofs.lemmas.Slice.Eq.{strip_prefix_is}
use Rattle.lf_write.proofs.Fronts.{leaves}
use Rattle.lf_write.proofs.compare.after_it.Goals as goal

pub returns : goal.returns
returns c =
    let bytes = c.args.bytes.now in
    let due = c.args.due.now in
    leaves bytes due c.strip_prefix.result (strip_prefix_is Decides-eqb bytes due c.strip_prefix.result c.strip_prefix.ensures.cases)
