use Rattle.lf_hub.proofs.Answered.{query-keeps, query-is-no-change}
use Rattle.lf_hub.proofs.laws.queries_change_nothing.Goals as goal

pub returns-clause-floor : goal.returns-clause-floor
returns-clause-floor g c = λ old new turn only is. query-keeps g.F.Floor.answers g.F.Floor.shows old new turn only is

pub returns-clause-record : goal.returns-clause-record
returns-clause-record g c = λ old new turn only is. query-is-no-change g.F.Floor.answers g.F.Floor.shows old new turn only is
