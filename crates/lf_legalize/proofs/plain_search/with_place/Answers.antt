use Rattle.std.specs.Option.{option_map}
use Rattle.lf_rules.specs.Choice.{spot_of}
use Rattle.lf_rules.proofs.Looking.{skipped_place}
use Rattle.lf_legalize.proofs.Reaches.{better_looks}
use Rattle.lf_legalize.proofs.plain_search.with_place.Goals as goal

pub returns-then-not-is_allowed : goal.returns-then-not-is_allowed
returns-then-not-is_allowed c = skipped_place _ _ (option_map spot_of c.args.best) (spot_of c.args.place) (λ s. let t = c.is_allowed.ensures.1 s in cc)

pub returns : goal.returns
returns c =
    better_looks _ _ (option_map spot_of c.args.best) (option_map spot_of c.better.result) (spot_of c.args.place)
    (c.is_allowed.ensures.0 c.if-not-is_allowed.false) c.better.ensures
