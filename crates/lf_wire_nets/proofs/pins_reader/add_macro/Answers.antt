use Rattle.std.proofs.lemmas.List.Elements.{All-push}
use Rattle.lf_wire_nets.specs.MacroPins.{HasMacroPins}
use Rattle.lf_wire_nets.proofs.pins_reader.add_macro.Goals as goal

pub returns-clause-range : goal.returns-clause-range
returns-clause-range c = rw c.in_ok-push.ensures.ok (All-push HasMacroPins c.args.macros.now c.in_ok-found.found c.requires.range c.in_ok-found.ensures.range)
