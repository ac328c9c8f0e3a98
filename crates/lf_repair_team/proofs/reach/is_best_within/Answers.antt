use Rattle.std.proofs.Common.{◌≡◌, ◌∙◌, Bool, Option, map, not, true, false, refl, subst, sym}
use Rattle.std.specs.Option.{option_map}
use Rattle.lf_floorplan.specs.declared.place.Place.{Place}
use Rattle.lf_rules.specs.Choice.{IsChoice, spot_of}
use Rattle.lf_rules.specs.Team.{query_from}
use Rattle.lf_legalize.specs.Members.{member_of}
use Rattle.lf_repair_team.proofs.Legal.{state_there}
use Rattle.lf_repair_team.proofs.ReachLemmas.{best_beyond, best_within, none_found}
use Rattle.lf_repair_team.proofs.reach.is_best_within.Goals as goal

not_both : (b : Bool) → not b ≡ true → b ≡ true → ⊥
not_both true is so = cc
not_both false is so = cc

so_if_not : (b : Bool) → not b ≡ false → b ≡ true
so_if_not true is = refl
so_if_not false is = absurd cc

pub returns-in-Some-2-clause-near : goal.returns-in-Some-2-clause-near
returns-in-Some-2-clause-near g c = λ yes.
    let floor = c.args.floor.now in
    let number = c.args.session.now.number in
    let target_is = sym c.target_place.ensures ∙ c.in-Some-target_place.is in
    best_within c.args.search.now.reach c.args.targets.now floor c.args.session.now.team.now number c.args.own c.requires.number c.in-Some-target_place.old target_is c.args.target.now
    (c.requires.target c.in-Some-target_place.old target_is) c.in-Some-2.best
    (λ s cell at is. subst (λ (o : Option Place). IsChoice (query_from floor.frame number s.padding (map member_of s.cells) c.args.own cell.mac) c.args.target.now (option_map spot_of o))
    c.in-Some-2.is (c.in_ok-best.ensures s cell at is))
    (λ beyond. not_both c.is_beyond.result yes (c.is_beyond.ensures.1 beyond))

pub returns-in-Some-2-clause-none : goal.returns-in-Some-2-clause-none
returns-in-Some-2-clause-none g c = λ s cell there is unplaced no.
    let floor = c.args.floor.now in
    let number = c.args.session.now.number in
    let target_is = sym c.target_place.ensures ∙ c.in-Some-target_place.is in
    best_beyond c.args.search.now.reach c.args.targets.now floor c.args.session.now.team.now number c.args.own c.requires.number c.in-Some-target_place.old target_is c.args.target.now
    (c.requires.target c.in-Some-target_place.old target_is) s cell there is unplaced c.in-Some-2.best
    (subst (λ (o : Option Place). IsChoice (query_from floor.frame number s.padding (map member_of s.cells) c.args.own cell.mac) c.args.target.now (option_map spot_of o))
    c.in-Some-2.is (c.in_ok-best.ensures s cell (state_there floor c.args.session.now.team.now number s c.requires.number there) is))
    (c.is_beyond.ensures.0 (so_if_not c.is_beyond.result no))

pub returns-in-None-2-clause-none : goal.returns-in-None-2-clause-none
returns-in-None-2-clause-none g c = λ s cell there is unplaced no.
    let floor = c.args.floor.now in
    let number = c.args.session.now.number in
    let target_is = sym c.target_place.ensures ∙ c.in-Some-target_place.is in
    none_found c.args.search.now.reach c.args.targets.now floor c.args.session.now.team.now number c.args.own c.requires.number c.in-Some-target_place.old target_is c.args.target.now
    (c.requires.target c.in-Some-target_place.old target_is) s cell there is unplaced
    (subst (λ (o : Option Place). IsChoice (query_from floor.frame number s.padding (map member_of s.cells) c.args.own cell.mac) c.args.target.now (option_map spot_of o))
    c.in-None-2.is (c.in_ok-best.ensures s cell (state_there floor c.args.session.now.team.now number s c.requires.number there) is))
