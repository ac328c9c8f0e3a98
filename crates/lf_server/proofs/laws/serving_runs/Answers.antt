use Rattle.lf_server.proofs.OwnReplies.{acts_at, run_of}
use Rattle.lf_server.proofs.laws.serving_runs.Goals as goal

pub returns : goal.returns
returns c = λ l ending old new before after done comes. run_of l old new done (acts_at ending l old new before after done comes)
