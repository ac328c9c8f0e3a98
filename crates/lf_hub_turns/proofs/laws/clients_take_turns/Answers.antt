use Rattle.lf_hub_turns.specs.Fairness.{run_turns, no_client}
use Rattle.lf_hub_turns.proofs.Clients.{clients_fair, fine_run, fine_start}
use Rattle.lf_hub_turns.proofs.laws.clients_take_turns.Goals as goal

pub returns : goal.returns
returns c = λ teams events. clients_fair (run_turns events (no_client teams)) (fine_run events (no_client teams) (fine_start teams))
