use Rattle.std.proofs.Common.{◌≡◌, ◌++◌, drop, take}
use Rattle.lf_hub.specs.Machine.{without_session}
use Rattle.lf_hub.proofs.open_sessions.remove_session.Given as goal

-- the sessions so far stay
abbrev pub invariant-loop-i : goal.invariant-loop-i
invariant-loop-i l = record {
  same : l.sessions.items ≡ l.fn.sessions.items;
  rest : without_session l.team l.session l.fn.sessions.items ≡ take l.i l.fn.sessions.items ++ without_session l.team l.session (drop l.i l.fn.sessions.items);
}
