use Rattle.std.proofs.Common.{◌∷◌, [], subst, append_assoc}
use Rattle.std.specs.Prelude.{codes}
use Rattle.std.specs.Fmt.{decimal}
use Rattle.lf_proto.specs.ReplyText.{spaced_line}
use Rattle.lf_state_text.specs.Saved.{title}
use Rattle.lf_state_text.proofs.write.put_opening.Goals as goal

pub returns : goal.returns
returns g c = λ start before had.
    subst (g.O.Output.took start c.put_line-2.new.out) (append_assoc before title (spaced_line (codes "teams" ∷ decimal c.args.count ∷ [])))
    (c.put_line-2.ensures start _ (c.put_line.ensures start before had))
