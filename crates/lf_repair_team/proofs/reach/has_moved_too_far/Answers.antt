use Rattle.std.proofs.Common.{◌≡◌, ◌∙◌, Option, true, false, subst, sym}
use Rattle.lf_floorplan.specs.declared.place.Place.{Place}
use Rattle.lf_rules.specs.Choice.{spot_of}
use Rattle.lf_floor_model.proofs.LegalPlaces.{none_some, some_one}
use Rattle.lf_repair_team.specs.TeamRepairs.{IsBeyond, way_to}
use Rattle.lf_repair_team.proofs.ReachLemmas.{not_beyond_itself}
use Rattle.lf_repair_team.proofs.reach.has_moved_too_far.Goals as goal

false_true : false ≡ true → ⊥
false_true e = cc

pub returns-in-Some-clause-moved : goal.returns-in-Some-clause-moved
returns-in-Some-clause-moved g c = λ yes same.
    not_beyond_itself c.args.search.now.reach c.target_place.result c.in-Some.place (c.target_place.ensures ∙ sym same ∙ (sym c.place_of.ensures ∙ c.in-Some.is)) (c.is_beyond.ensures.0 yes)

pub returns-in-Some-clause-within : goal.returns-in-Some-clause-within
returns-in-Some-clause-within g c = λ no p placed beyond.
    let reach = c.args.search.now.reach in
    let here : c.in-Some.place ≡ p = some_one (sym (sym c.place_of.ensures ∙ c.in-Some.is) ∙ placed) in
    false_true (sym no ∙ c.is_beyond.ensures.1
    (subst (λ (q : Place). IsBeyond reach (way_to c.target_place.result (spot_of q))) (sym here)
    (subst (λ (o : Option Place). IsBeyond reach (way_to o (spot_of p))) (sym c.target_place.ensures) beyond)))

pub returns-in-None-clause-within : goal.returns-in-None-clause-within
returns-in-None-clause-within g c = λ no p placed. absurd (none_some (sym (sym c.place_of.ensures ∙ c.in-None.is) ∙ placed))
