use Rattle.std.proofs.Common.{◌≡◌, drop}
use Rattle.lf_hub.specs.Machine.{session_of}
use Rattle.lf_hub.proofs.open_sessions.session_of.Given as goal

-- none of the sessions so far is one of the client
abbrev pub invariant-loop-own : goal.invariant-loop-own
invariant-loop-own l = session_of l.slot l.sessions ≡ session_of l.slot (drop l.own-index l.sessions)
