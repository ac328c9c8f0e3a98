-- An accepted revert moves each cell back to its committed place.
use Rattle.std.proofs.Common.{◌≡◌, ℕ, zero, suc, List, [], ◌∷◌, map, Bool, true, false, Option, Some, None, refl, ap, sym, ◌∙◌, subst}
use Rattle.std.specs.Prelude.{option_and_then}
use Rattle.std.specs.Option.{option_map}
use Rattle.lf_floorplan.specs.declared.place.Place.{Place}
use Rattle.lf_rules.specs.Legalizer.{Legalizer}
use Rattle.lf_proto.specs.declared.request.Command.TheVariants.{To}
use Rattle.lf_proto.specs.declared.request.TeamCommand.TheVariants.{Within}
use Rattle.lf_proto.specs.declared.verb.Action.TheVariants.{Change as Changing}
use Rattle.lf_proto.specs.declared.verb.Change.TheVariants.{Revert}
use Rattle.lf_proto.specs.declared.reply.Reply.{Reply}
use Rattle.lf_proto.specs.declared.reply.Reply.TheVariants.{Refused}
use Rattle.lf_proto.specs.declared.reply.Refusal.TheVariants.{NoTeam}
use Rattle.lf_cells.specs.declared.cell.Cell.{Cell}
use Rattle.lf_cells.specs.Cells.{working_at}
use Rattle.lf_floor_model.specs.States.{FloorState, TeamState}
use Rattle.lf_floor_model.specs.Teams.{state_of, team_rules}
use Rattle.lf_floor_model.specs.Outcomes.{is_short}
use Rattle.lf_floor_model.specs.Changes.{back_to_committed}
use Rattle.lf_floor_model.specs.Steps.{Answer, IsAnswerOf, Step}
use Rattle.lf_floor_model.specs.VerbLaws.{committed_places, is_ok, outcome_of_asking}
use Rattle.lf_floor_model.proofs.Answering.{own_answer}
use Rattle.lf_floor_model.proofs.Cases.{accepted_is}
use Rattle.lf_floor_model.proofs.Kept.{granted_plain}
use Rattle.lf_floor_model.proofs.Running.{plain_answers}
use Rattle.lf_repair_strategy.specs.Targets.{target_at}
use Rattle.lf_repair_team.specs.CellEdits.{AreBackAtCommitted}
use Rattle.lf_repair_team.specs.TeamRepairs.{committed_in, place_of_cell_in}
use Rattle.lf_repair_team.proofs.Settings.{no_team_answers, number_of_state}
use Rattle.lf_repair_team.proofs.Steps.{place_of_state}

back_at : (cells : List Cell) (own : ℕ) → working_at (map back_to_committed cells) own ≡ target_at (map (λ c. c.committed) cells) own
back_at [] own = refl
back_at (c ∷ cs) zero = refl
back_at (c ∷ cs) (suc own) = back_at cs own

pub revert_back : (l : Legalizer) (old new : FloorState) (team : List ℕ) (session : ℕ) (reply : Reply)
    → Step l old (To team (Within session (Changing Revert))) reply new → is_ok reply ≡ true → AreBackAtCommitted team old new
revert_back l old new team session reply step granted own = go (state_of old team) refl where
  answer : IsAnswerOf l old (To team (Within session (Changing Revert))) reply new
  answer = plain_answers l old new (To team (Within session (Changing Revert))) reply (is_short reply) (granted_plain reply granted) step

  refused : is_ok (Refused NoTeam) ≡ true → ⊥
  refused e = cc

  go : (o : Option TeamState) → state_of old team ≡ o
      → place_of_cell_in new team own ≡ option_and_then (λ (places : List (Option Place)). target_at places own) (committed_in old team)
  go None there =
      let none : reply ≡ Refused NoTeam =
      answer.reply_is ∙ ap (λ (a : Answer). a.reply) (no_team_answers l old team (Within session (Changing Revert)) there) in
      absurd (refused (ap is_ok (sym none) ∙ granted))
  go (Some s) there =
      let at = number_of_state old team s there in
      let t = team_rules l old.frame at.0 s.padding in
      let after = outcome_of_asking t session Revert s in
      let is = own_answer l old team at.0 (Within session (Changing Revert)) s at.1 there in
      let change = accepted_is t session Revert s (ap is_ok (sym (answer.reply_is ∙ is.0)) ∙ granted) in
      place_of_state new team own after.team (ap (λ (f : FloorState). state_of f team) answer.floor_is ∙ is.1)
      ∙ ap (λ (cells : List Cell). working_at cells own) change.cells
      ∙ back_at s.cells own
      ∙ sym (ap (λ (o : Option TeamState). option_and_then (λ (places : List (Option Place)). target_at places own) (option_map committed_places o)) there)
