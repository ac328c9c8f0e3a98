use Rattle.std.proofs.Common.{◌∙◌, refl}
use Rattle.lf_server.proofs.Connecting.{serves_more, serves_none}
use Rattle.lf_server.proofs.Steps.{stays_join, stays_none}
use Rattle.lf_server.proofs.tcp.serve_connections.Goals as goal

pub loop-served-init : goal.loop-served-init
loop-served-init g c = record {
  served = serves_none c.args.limits.lines c.args.limits.reads (g.A.Acceptor.accepted c.args.acceptor.now) c.args.floor.now;
  offers = refl;
  failed = refl;
  stays = stays_none c.args.floor.now;
}

pub loop-served-preserved : goal.loop-served-preserved
loop-served-preserved g c = record {
  served = serves_more c.args.limits.lines c.args.limits.reads c.loop-served.served _ _ _ c.args.floor.now c.loop-served.floor c.serve_next.new.floor
      c.loop-served.invariant.served c.in-Ok.ensures.served;
  offers = c.serve_next.ensures.offers ∙ c.loop-served.invariant.offers;
  failed = c.in-Ok.ensures.failed ∙ c.loop-served.invariant.failed;
  stays = stays_join c.args.floor.now c.loop-served.floor c.serve_next.new.floor c.loop-served.invariant.stays c.serve_next.ensures.stays;
}
