use Rattle.std.proofs.Common.{refl}
use Rattle.lf_undo.proofs.Teams.{team_of, contains, value_newer, none_newer}
use Rattle.std.proofs.lemmas.Option.{slice_get_read}
use Rattle.lf_undo.proofs.stacks.Stacks.at.Goals as goal

pub index-requires-in-Some : goal.index-requires-in-Some
index-requires-in-Some g c =
    let t = team_of c.self.inside c.args.self.now c.args.team c.index.result.now c.self.invariant c.self.view_is c.requires c.index.ensures in
    let at = slice_get_read c.index.result.now.items c.index.result.now.len c.args.newer c.in-Some.key.now c.index.result.now.ok.0 (c.in-Some.ensures.variant.0 refl) c.in-Some.ensures.lookup in
    contains t c.args.newer c.in-Some.key.now at

pub returns-in-Some : goal.returns-in-Some
returns-in-Some g c =
    let t = team_of c.self.inside c.args.self.now c.args.team c.index.result.now c.self.invariant c.self.view_is c.requires c.index.ensures in
    let at = slice_get_read c.index.result.now.items c.index.result.now.len c.args.newer c.in-Some.key.now c.index.result.now.ok.0 (c.in-Some.ensures.variant.0 refl) c.in-Some.ensures.lookup in
    value_newer t c.args.newer c.in-Some.key.now c.index-in-Some.result.now at c.index-in-Some.ensures

pub returns-in-None : goal.returns-in-None
returns-in-None g c =
    let t = team_of c.self.inside c.args.self.now c.args.team c.index.result.now c.self.invariant c.self.view_is c.requires c.index.ensures in
    none_newer t c.args.newer c.in-None.ensures.item.3
