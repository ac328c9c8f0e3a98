-- From a step of the floor to the answer of a line.
use Rattle.std.proofs.Common.{◌≡◌, ℕ, List, [], true, false, refl, ap, sym, ◌∙◌}
use Rattle.std.proofs.lemmas.Bool.{false≢true}
use Rattle.lf_floorplan.specs.declared.place.Place.{Place}
use Rattle.lf_rules.specs.Legalizer.{Legalizer}
use Rattle.lf_proto.specs.declared.request.Command.{Command}
use Rattle.lf_proto.specs.declared.reply.Reply.{Reply}
use Rattle.lf_proto.specs.declared.reply.Reply.TheVariants.{Report, Def, Refused}
use Rattle.lf_proto.specs.declared.reply.Refusal.TheVariants.{OutOfMemory}
use Rattle.lf_proto.specs.ReplyText.{reply_text}
use Rattle.lf_floor_model.specs.States.{FloorState}
use Rattle.lf_floor_model.specs.Steps.{Step}
use Rattle.lf_server.specs.Exchanges.{StepsOn, is_long, reply_text_of}
use Rattle.lf_hub_clients.specs.declared.floor.Outcome.{Outcome}
use Rattle.lf_hub_clients.specs.Turns.{is_change, refusal}
use Rattle.lf_hub_floor.specs.Answers.{outcome_of}
use Rattle.lf_hub_floor.proofs.LineCases.{change_is_lasting}
use Rattle.lf_hub_floor.proofs.LongReplies.{kept_unless_lasting, long_runs_out}

-- A long reply names no cell.
pub long_text : (floor : FloorState) (team : List ℕ) (reply : Reply) → is_long reply ≡ true → reply_text reply [] [] ≡ reply_text_of floor team reply
long_text floor team (Report text) long = refl
long_text floor team (Def text) long = refl
long_text floor team _ long = absurd (false≢true long)

-- A long reply without memory for its text.
pub short_steps : (l : Legalizer) (old new : FloorState) (command : Command (List ℕ) Place) (reply : Reply) (text : List ℕ) → Step l old command reply new
    → is_long reply ≡ true → text ≡ refusal → StepsOn l old command (Refused OutOfMemory) text new
short_steps l old new command reply text step long is = record { step = long_runs_out l old new command reply step long; text_is = is }

-- A line that is no change leaves the floor unchanged.
pub unchanged_keeps : (l : Legalizer) (old new : FloorState) (command : Command (List ℕ) Place) (reply : Reply) (outcome : Outcome) → Step l old command reply new
    → outcome ≡ outcome_of command reply → is_change outcome ≡ false → new ≡ old
unchanged_keeps l old new command reply outcome step is unchanged =
    kept_unless_lasting l old new command reply step (sym (change_is_lasting command reply) ∙ (sym (ap is_change is) ∙ unchanged))
