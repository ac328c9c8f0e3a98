-- The answer to a command: from the team's outcome to the step.
use Rattle.std.proofs.Common.{◌≡◌, ◌≢◌, ℕ, zero, suc, ◌<◌, List, [], ◌∷◌, Bool, true, false, set, length, get_or, Option, Some, None, refl, ap, sym, ◌∙◌, subst, arith}
use Rattle.std.specs.Prelude.{slice_get, bytes_eq, MatchBool}
use Rattle.std.proofs.lemmas.List.Quantifiers.{position-Some}
use Rattle.std.proofs.lemmas.Option.{slice_get_within}
use Rattle.std.proofs.lemmas.Slice.Eq.{bytes_eq-Decides}
use Rattle.lf_floorplan.specs.declared.frame.Frame.{Frame}
use Rattle.lf_floorplan.specs.declared.place.Place.{Place}
use Rattle.lf_rules.specs.Legalizer.{Legalizer}
use Rattle.lf_proto.specs.declared.request.Command.{Command}
use Rattle.lf_proto.specs.declared.request.Command.TheVariants.{Bye, To}
use Rattle.lf_proto.specs.declared.request.TeamCommand.{TeamCommand}
use Rattle.lf_proto.specs.declared.reply.Reply.{Reply}
use Rattle.lf_proto.specs.declared.reply.Reply.TheVariants.{Done, Refused}
use Rattle.lf_proto.specs.declared.reply.Refusal.TheVariants.{NoTeam}
use Rattle.lf_floor_model.specs.States.{TeamState, FloorState}
use Rattle.lf_floor_model.specs.Teams.{team_rules, team_names, team_number, state_of}
use Rattle.lf_floor_model.specs.Outcomes.{is_short}
use Rattle.lf_floor_model.specs.Verbs.{is_tested, takes_memory}
use Rattle.lf_floor_model.specs.Steps.{Answer, outcome_by_rules, no_team, answer_of_outcome, answer_at, answer_of, IsAnswerOf, IsGivenAnswer, MayRunOutOfMemory, IsOutOfMemoryAnswer, Step, IsTo}
use Rattle.lf_floor_model.proofs.Forms.{state_at, answer_by}
use Rattle.lf_floor_model.proofs.Kept.{never_short}

-- ---- the team of a command

answer_none : (l : Legalizer) (floor : FloorState) (name : List ℕ) (order : TeamCommand (List ℕ) Place) → None ≡ team_number floor.frame name
    → answer_of l floor (To name order) ≡ no_team floor
unfolding answer_of
answer_none l floor name order none = ap (λ (o : Option ℕ). answer_at o l floor order) (sym none)

answer_some : (l : Legalizer) (floor : FloorState) (name : List ℕ) (order : TeamCommand (List ℕ) Place) (number : ℕ) → Some number ≡ team_number floor.frame name
    → answer_of l floor (To name order) ≡ answer_at (Some number) l floor order
unfolding answer_of
answer_some l floor name order number some = ap (λ (o : Option ℕ). answer_at o l floor order) (sym some)

pub bye_answers : (l : Legalizer) (floor : FloorState) → IsAnswerOf l floor Bye Done floor
unfolding answer_of
bye_answers l floor = record { reply_is = refl; floor_is = refl }

pub none_answers : (l : Legalizer) (floor : FloorState) (name : List ℕ) (order : TeamCommand (List ℕ) Place) → None ≡ team_number floor.frame name
    → IsAnswerOf l floor (To name order) (Refused NoTeam) floor
none_answers l floor name order none =
    let e = answer_none l floor name order none in record { reply_is = sym (ap (λ (a : Answer). a.reply) e); floor_is = sym (ap (λ (a : Answer). a.floor) e) }

pub some_answers : (l : Legalizer) (old new : FloorState) (name : List ℕ) (order : TeamCommand (List ℕ) Place) (number : ℕ) (reply : Reply)
    → Some number ≡ team_number old.frame name
    → IsGivenAnswer (answer_at (Some number) l old order) reply new → IsAnswerOf l old (To name order) reply new
some_answers l old new name order number reply some given =
    let P : Answer → Type 0 = λ a. IsGivenAnswer a reply new in
    subst P (sym (answer_some l old name order number some)) given

-- ---- no answer is OutOfMemory, and only commands that allocate get that reply

by_plain : (l : Legalizer) (floor : FloorState) (number : ℕ) (order : TeamCommand (List ℕ) Place) (o : Option TeamState)
    → is_short (answer_by o l floor number order).reply ≡ false
by_plain l floor number order None = refl
by_plain l floor number order (Some s) = never_short (team_rules l floor.frame number s.padding) order s

at_plain : (l : Legalizer) (floor : FloorState) (order : TeamCommand (List ℕ) Place) (o : Option ℕ) → is_short (answer_at o l floor order).reply ≡ false
at_plain l floor order None = refl
at_plain l floor order (Some number) = by_plain l floor number order (slice_get floor.teams number)

pub answer_plain : (l : Legalizer) (floor : FloorState) (command : Command (List ℕ) Place) → is_short (answer_of l floor command).reply ≡ false
unfolding answer_of
answer_plain l floor Bye = refl
answer_plain l floor (To name order) = at_plain l floor order (team_number floor.frame name)

takes_some : (l : Legalizer) (old new : FloorState) (name : List ℕ) (order : TeamCommand (List ℕ) Place) → takes_memory order ≡ true
    → is_tested order (answer_of l old (To name order)).reply ≡ false → IsOutOfMemoryAnswer (answer_of l old (To name order)) old new
    → MayRunOutOfMemory l old (To name order) new
takes_some l old new name order takes untested short = record {
  short = short;
  takes = λ none. false_true (sym none ∙ takes);
  untested = λ tested. false_true (sym untested ∙ tested);
} where
  false_true : false ≡ true → ⊥
  false_true e = cc

pub some_short : (l : Legalizer) (old new : FloorState) (name : List ℕ) (order : TeamCommand (List ℕ) Place) (number : ℕ) → Some number ≡ team_number old.frame name
    → takes_memory order ≡ true → is_tested order (answer_at (Some number) l old order).reply ≡ false
    → IsOutOfMemoryAnswer (answer_at (Some number) l old order) old new → MayRunOutOfMemory l old (To name order) new
some_short l old new name order number some takes untested short =
    let P : Answer → Type 0 = λ a. IsOutOfMemoryAnswer a old new in
    let U : Answer → Type 0 = λ a. is_tested order a.reply ≡ false in
    let back = sym (answer_some l old name order number some) in
    takes_some l old new name order takes (subst U back untested) (subst P back short)

pub step_of_answer : (l : Legalizer) (old new : FloorState) (command : Command (List ℕ) Place) (reply : Reply) → IsAnswerOf l old command reply new
    → Step l old command reply new
step_of_answer l old new command reply answers =
    let plain : is_short reply ≡ false = ap is_short answers.reply_is ∙ answer_plain l old command in
    let P : Bool → Type 0 = λ b. MatchBool b (MayRunOutOfMemory l old command new) (IsAnswerOf l old command reply new) in
    subst P (sym plain) answers

-- ---- the other teams

-- a number has one name
pub one_name : (f : Frame) (a b : List ℕ) (number : ℕ) → team_number f a ≡ Some number → team_number f b ≡ Some number → a ≡ b
one_name f a b number ea eb =
    let fa = position-Some (λ n. bytes_eq n a) (team_names f) number [] ea in
    let fb = position-Some (λ n. bytes_eq n b) (team_names f) number [] eb in
    sym ((bytes_eq-Decides (get_or (team_names f) number []) a).0 fa.1) ∙ (bytes_eq-Decides (get_or (team_names f) number []) b).0 fb.1

get-set_same : {X : Type 0} (xs : List X) (i : ℕ) (x : X) → i < length xs → slice_get (set xs i x) i ≡ Some x
get-set_same [] i x l = absurd (omega arith)
get-set_same (y ∷ ys) zero x l = refl
get-set_same (y ∷ ys) (suc i) x l = get-set_same ys i x (omega arith)

pub get-set_other : {X : Type 0} (xs : List X) (i j : ℕ) (x : X) → i ≢ j → slice_get (set xs i x) j ≡ slice_get xs j
get-set_other [] i j x ne = refl
get-set_other (y ∷ ys) zero zero x ne = absurd (ne refl)
get-set_other (y ∷ ys) zero (suc j) x ne = refl
get-set_other (y ∷ ys) (suc i) zero x ne = refl
get-set_other (y ∷ ys) (suc i) (suc j) x ne = get-set_other ys i j x (omega arith)

other_at : (f : Frame) (teams : List TeamState) (a b : List ℕ) (number : ℕ) (s : TeamState) (o : Option ℕ) → team_number f a ≡ Some number
    → team_number f b ≡ o → a ≢ b → state_at (set teams number s) o ≡ state_at teams o
other_at f teams a b number s None ea eb ne = refl
other_at f teams a b number s (Some there) ea eb ne =
    get-set_other teams number there s (λ e. ne (one_name f a b number ea (eb ∙ ap (λ (k : ℕ). Some k) (sym e))))

others_by : (l : Legalizer) (floor : FloorState) (name team : List ℕ) (number : ℕ) (order : TeamCommand (List ℕ) Place) (o : Option TeamState)
    → team_number floor.frame name ≡ Some number → name ≢ team → state_of (answer_by o l floor number order).floor team ≡ state_of floor team
others_by l floor name team number order None named ne = refl
others_by l floor name team number order (Some s) named ne =
    other_at floor.frame floor.teams name team number (outcome_by_rules l floor.frame number order s).team (team_number floor.frame team) named refl ne

others_at : (l : Legalizer) (floor : FloorState) (name team : List ℕ) (order : TeamCommand (List ℕ) Place) (o : Option ℕ) → team_number floor.frame name ≡ o
    → name ≢ team → state_of (answer_at o l floor order).floor team ≡ state_of floor team
others_at l floor name team order None named ne = refl
others_at l floor name team order (Some number) named ne = others_by l floor name team number order (slice_get floor.teams number) named ne

-- an answer leaves the other teams unchanged
pub others_kept : (l : Legalizer) (floor : FloorState) (command : Command (List ℕ) Place) (team : List ℕ) → ¬ IsTo team command
    → state_of (answer_of l floor command).floor team ≡ state_of floor team
unfolding answer_of
others_kept l floor Bye team other = refl
others_kept l floor (To name order) team other = others_at l floor name team order (team_number floor.frame name) refl other

-- a part of the floor that does not depend on the teams is unchanged by each answer
module _ {Y : Type 0} (part : FloorState → Y) (apart : (floor : FloorState) (teams : List TeamState) → part (record floor { teams = teams }) ≡ part floor) where
  part_by : (l : Legalizer) (floor : FloorState) (number : ℕ) (order : TeamCommand (List ℕ) Place) (o : Option TeamState)
      → part (answer_by o l floor number order).floor ≡ part floor
  part_by l floor number order None = refl
  part_by l floor number order (Some s) = apart floor _

  part_at : (l : Legalizer) (floor : FloorState) (order : TeamCommand (List ℕ) Place) (o : Option ℕ) → part (answer_at o l floor order).floor ≡ part floor
  part_at l floor order None = refl
  part_at l floor order (Some number) = part_by l floor number order (slice_get floor.teams number)

  part_kept : (l : Legalizer) (floor : FloorState) (command : Command (List ℕ) Place) → part (answer_of l floor command).floor ≡ part floor
  unfolding answer_of
  part_kept l floor Bye = refl
  part_kept l floor (To name order) = part_at l floor order (team_number floor.frame name)

-- no answer changes the frame
pub frame_kept : (l : Legalizer) (floor : FloorState) (command : Command (List ℕ) Place) → (answer_of l floor command).floor.frame ≡ floor.frame
frame_kept = part_kept (λ (f : FloorState). f.frame) (λ floor teams. refl)

-- no answer changes the positions of entries
pub components_kept : (l : Legalizer) (floor : FloorState) (command : Command (List ℕ) Place) → (answer_of l floor command).floor.components ≡ floor.components
components_kept = part_kept (λ (f : FloorState). f.components) (λ floor teams. refl)

-- ---- the team's own answer

own_at : (l : Legalizer) (floor : FloorState) (team : List ℕ) (number : ℕ) (order : TeamCommand (List ℕ) Place) (s : TeamState)
    → team_number floor.frame team ≡ Some number → slice_get floor.teams number ≡ Some s
    → answer_of l floor (To team order) ≡ answer_of_outcome floor number (outcome_by_rules l floor.frame number order s)
own_at l floor team number order s named there =
    answer_some l floor team order number (sym named) ∙ ap (λ (o : Option TeamState). answer_by o l floor number order) there

-- the answer to a team's command is the team's outcome, whose state the team gets
pub own_answer : (l : Legalizer) (floor : FloorState) (team : List ℕ) (number : ℕ) (order : TeamCommand (List ℕ) Place) (s : TeamState)
    → team_number floor.frame team ≡ Some number → state_of floor team ≡ Some s
    → ((answer_of l floor (To team order)).reply ≡ (outcome_by_rules l floor.frame number order s).reply) × (state_of (answer_of l floor (To team order)).floor team ≡ Some (outcome_by_rules l floor.frame number order s).team)
own_answer l floor team number order s named has =
    let there : slice_get floor.teams number ≡ Some s = ap (state_at floor.teams) (sym named) ∙ has in
    let is = own_at l floor team number order s named there in
    let within : number < length floor.teams = slice_get_within floor.teams number s there in
    let after = (outcome_by_rules l floor.frame number order s).team in (
      ap (λ (a : Answer). a.reply) is,
      ap (λ (a : Answer). state_of a.floor team) is ∙ ap (state_at (set floor.teams number after)) named ∙ get-set_same floor.teams number after within,
    )
