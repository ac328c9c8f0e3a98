use Rattle.std.proofs.Common.{length}
use Rattle.lf_def.specs.Contents.{contents}
use Rattle.lf_write.proofs.Keeping.{all_in_text}
use Rattle.lf_write.proofs.kept_clauses.clauses_of.Goals as goal

pub kept_clauses_of-requires : goal.kept_clauses_of-requires
kept_clauses_of-requires c =
    let d = c.args.document.now in
    rw c.as_slice.ensures (all_in_text 0 (length d.text.now) d.components (c.components_rise.ensures d.text.now (contents d) d.read))
