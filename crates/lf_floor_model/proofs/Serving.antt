-- The effect on the floor of an outcome of the team at one position.
use Rattle.std.proofs.Common.{◌≡◌, ℕ, false, List, Option, Some, Result, Ok, Err, ap, sym, ◌∙◌, subst}
use Rattle.std.specs.Prelude.{IfOk, OnErr, slice_get, slice_set}
use Rattle.std.specs.declared.alloc.AllocError.{AllocError}
use Rattle.std.proofs.lemmas.List.{set-get_or}
use Rattle.std.proofs.lemmas.Option.{get_or_from_slice_get}
use Rattle.lf_floorplan.specs.declared.frame.Frame.{Frame}
use Rattle.lf_floorplan.specs.declared.place.Place.{Place}
use Rattle.lf_rules.specs.Legalizer.{Legalizer}
use Rattle.lf_proto.specs.declared.request.TeamCommand.{TeamCommand}
use Rattle.lf_floor_model.specs.Outcomes.{Outcome, IsOutcome, IsOutOfMemory}
use Rattle.lf_proto.specs.declared.reply.Reply.{Reply}
use Rattle.lf_floor_model.specs.States.{TeamState}
use Rattle.lf_floor_model.specs.Verbs.{is_tested}
use Rattle.lf_floor_model.specs.Steps.{outcome_by_rules, IsGivenAnswer, IsOutOfMemoryAnswer, floor_of}
use Rattle.lf_floor_model.proofs.Forms.{answer_by}

-- a fact on the old team and on its outcome holds for the new team
pub kept_by : (P : TeamState → Type 0) (o : Outcome) (old new : TeamState) (result : Result Reply AllocError) → IfOk result (λ reply. IsOutcome o reply new)
    → OnErr result (IsOutOfMemory o old new) → P old → P o.team → P new
kept_by P o old new (Ok reply) ok err before after = subst P (sym ok.team_is) after
kept_by P o old new (Err e) ok err before after = subst P (sym err.kept) before

pub gives : (l : Legalizer) (f : Frame) (components : List (List ℕ)) (teams : List TeamState) (number : ℕ)
    (order : TeamCommand (List ℕ) Place) (s new : TeamState) (reply : Reply)
    → slice_get teams number ≡ Some s → IsOutcome (outcome_by_rules l f number order s) reply new
    → IsGivenAnswer (answer_by (slice_get teams number) l (floor_of f components teams) number order) reply (floor_of f components (slice_set teams number new))
gives l f components teams number order s new reply there reaches =
    let P : Option TeamState → Type 0 = λ o.
    IsGivenAnswer (answer_by o l (floor_of f components teams) number order) reply (floor_of f components (slice_set teams number new)) in
    subst P (sym there) record {
      reply_is = reaches.reply_is;
      floor_is = ap (λ (t : TeamState). floor_of f components (slice_set teams number t)) reaches.team_is;
    }

pub stays_short : (l : Legalizer) (f : Frame) (components : List (List ℕ)) (teams : List TeamState) (number : ℕ)
    (order : TeamCommand (List ℕ) Place) (s new : TeamState)
    → slice_get teams number ≡ Some s → IsOutOfMemory (outcome_by_rules l f number order s) s new
    → IsOutOfMemoryAnswer (answer_by (slice_get teams number) l (floor_of f components teams) number order) (floor_of f components teams)
    (floor_of f components (slice_set teams number new))
stays_short l f components teams number order s new there out =
    let P : Option TeamState → Type 0 = λ o.
    IsOutOfMemoryAnswer (answer_by o l (floor_of f components teams) number order) (floor_of f components teams)
    (floor_of f components (slice_set teams number new)) in
    subst P (sym there) record {
      kept =
          ap (λ (t : TeamState). floor_of f components (slice_set teams number t)) (out.kept ∙ sym (get_or_from_slice_get teams number s s there))
          ∙ ap (floor_of f components) (set-get_or teams number s);
      may = out.may;
    }

pub stays_untested : (l : Legalizer) (f : Frame) (components : List (List ℕ)) (teams : List TeamState) (number : ℕ)
    (order : TeamCommand (List ℕ) Place) (s : TeamState)
    → slice_get teams number ≡ Some s → is_tested order (outcome_by_rules l f number order s).reply ≡ false
    → is_tested order (answer_by (slice_get teams number) l (floor_of f components teams) number order).reply ≡ false
stays_untested l f components teams number order s there untested =
    let P : Option TeamState → Type 0 = λ o. is_tested order (answer_by o l (floor_of f components teams) number order).reply ≡ false in
    subst P (sym there) untested

-- two facts that each hold if an allocation fails hold together
pub on_err_both : {T E A B C : Type 0} (result : Result T E) → (A → B → C) → OnErr result A → OnErr result B → OnErr result C
on_err_both (Ok x) both a b = tt
on_err_both (Err e) both a b = both a b
