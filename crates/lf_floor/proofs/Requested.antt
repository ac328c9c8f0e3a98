-- A command that requests a DEF text.
use Rattle.std.proofs.Common.{◌≡◌, ℕ, ◌<◌, List, length, Option, Some, None, refl, sym, ap, subst, ◌∙◌}
use Rattle.std.specs.Prelude.{IfNone, slice_set}
use Rattle.std.proofs.lemmas.Bool.{false≢true}
use Rattle.std.proofs.lemmas.List.{set-get_or}
use Rattle.std.proofs.lemmas.Option.{get_or_from_slice_get}
use Rattle.lf_floorplan.specs.declared.frame.Frame.{Frame}
use Rattle.lf_floorplan.specs.declared.place.Place.{Place}
use Rattle.lf_rules.specs.Legalizer.{Legalizer}
use Rattle.lf_proto.specs.declared.reply.Refusal.{Refusal}
use Rattle.lf_proto.specs.declared.reply.Refusal.TheVariants.{NoSession, NoTeam}
use Rattle.lf_proto.specs.declared.reply.Reply.TheVariants.{Def, Refused}
use Rattle.lf_proto.specs.declared.request.Command.TheVariants.{To}
use Rattle.lf_proto.specs.declared.request.TeamCommand.{TeamCommand}
use Rattle.lf_proto.specs.declared.request.TeamCommand.TheVariants.{Within}
use Rattle.lf_proto.specs.declared.verb.Action.TheVariants.{Def as RequestDef}
use Rattle.lf_team_def.specs.TeamText.{team_text}
use Rattle.lf_floor_model.specs.States.{FloorState, TeamState}
use Rattle.lf_floor_model.specs.Teams.{team_rules, team_number}
use Rattle.lf_floor_model.specs.VerbLaws.{is_ok}
use Rattle.lf_floor_model.specs.Queries.{written}
use Rattle.lf_floor_model.specs.Outcomes.{IsOutcome}
use Rattle.lf_floor_model.specs.Sessions.{seen_at}
use Rattle.lf_floor_model.specs.Steps.{IsAnswerOf, IsGivenAnswer, answer_at, answer_of, floor_of, outcome_by_rules}
use Rattle.lf_floor_model.specs.Verbs.{outcome_by_slot}
use Rattle.lf_floor_model.proofs.Forms.{answer_by}
use Rattle.lf_floor_model.proofs.Answering.{some_answers}
use Rattle.lf_floor_model.proofs.Serving.{gives}
use Rattle.lf_floor.specs.Responses.{def_text, text_at, text_by}
use Rattle.lf_floor_verbs.specs.Tables.{table_cells, floor_in, frame_of, own_team, teams_in}
use Rattle.lf_floor_verbs.specs.declared.tables.Tables.{Tables}
use Rattle.lf_floor.proofs.Rows.{team_there}

-- the command by which that session requests the DEF text
abbrev pub ask : ℕ → TeamCommand (List ℕ) Place
ask session = Within session RequestDef

-- the DEF text of the team is made from its cells in the table
pub text_there : (tables : Tables) (name : List ℕ) (number : ℕ) → Some number ≡ team_number (frame_of tables) name → number < length tables.revisions.items
    → def_text (floor_in tables) name ≡ team_text (frame_of tables) number (table_cells number tables)
text_there tables name number named within =
    ap (text_at (floor_in tables)) (sym named) ∙ ap (text_by (frame_of tables) number) (team_there tables number within)

-- an open session gets the text, and the team is unchanged
text_reached : (l : Legalizer) (f : Frame) (number session seen : ℕ) (s : TeamState) → Some seen ≡ seen_at s.slots session
    → IsOutcome (outcome_by_rules l f number (ask session) s) (Def (team_text f number s.cells)) s
unfolding written
text_reached l f number session seen s opened =
    subst (λ (o : Option ℕ). IsOutcome (outcome_by_slot o (team_rules l f number s.padding) session RequestDef s) (Def (team_text f number s.cells)) s) opened
    record { reply_is = refl; team_is = refl }

pub def_answers : (l : Legalizer) (tables : Tables) (name : List ℕ) (session seen number : ℕ) → Some number ≡ team_number (frame_of tables) name
    → number < length tables.revisions.items → Some seen ≡ seen_at (own_team number tables).slots session
    → IsAnswerOf l (floor_in tables) (To name (ask session)) (Def (def_text (floor_in tables) name)) (floor_in tables)
def_answers l tables name session seen number named within opened =
    let f = frame_of tables in
    let components = tables.placement.cells.components in
    let s = own_team number tables in
    let there = team_there tables number within in
    let text : List ℕ = team_text f number s.cells in
    let same : floor_of f components (slice_set (teams_in tables) number s) ≡ floor_in tables =
    ap (λ (t : TeamState). floor_of f components (slice_set (teams_in tables) number t)) (sym (get_or_from_slice_get (teams_in tables) number s s there))
    ∙ ap (floor_of f components) (set-get_or (teams_in tables) number s) in
    subst (λ (t : List ℕ). IsAnswerOf l (floor_in tables) (To name (ask session)) (Def t) (floor_in tables)) (sym (text_there tables name number named within))
    (some_answers l (floor_in tables) (floor_in tables) name (ask session) number (Def text) named
    (subst (λ (v : FloorState). IsGivenAnswer (answer_at (Some number) l (floor_in tables) (ask session)) (Def text) v) same
    (gives l f components (teams_in tables) number (ask session) s s (Def text) there (text_reached l f number session seen s opened))))

-- a fact holds if the option is None
pub given_none : {X : Type 0} (o : Option X) (P : Type 0) → P → IfNone o P
given_none None P p = p
given_none (Some x) P p = tt

-- a DEF text is not a refusal
no_refusal : (text : List ℕ) (refusal : Refusal) → Def text ≡ Refused refusal → ⊥
no_refusal text refusal same = false≢true (sym (ap is_ok same))

-- if there is no team of the name, the reply is not a DEF text
pub none_without_team : (l : Legalizer) (floor : FloorState) (name : List ℕ) (order : TeamCommand (List ℕ) Place) (text : List ℕ) → None ≡ team_number floor.frame name
    → IsAnswerOf l floor (To name order) (Def text) floor → ⊥
unfolding answer_of
none_without_team l floor name order text none answers =
    no_refusal text NoTeam (answers.reply_is ∙ ap (λ (n : Option ℕ). (answer_at n l floor order).reply) (sym none))

-- if the session is not open, the reply is not a DEF text
pub none_without_session : (l : Legalizer) (tables : Tables) (name : List ℕ) (session number : ℕ) (text : List ℕ)
    → Some number ≡ team_number (frame_of tables) name → number < length tables.revisions.items → None ≡ seen_at (own_team number tables).slots session
    → IsAnswerOf l (floor_in tables) (To name (ask session)) (Def text) (floor_in tables) → ⊥
unfolding answer_of
none_without_session l tables name session number text named within closed answers =
    let f = frame_of tables in
    let s = own_team number tables in
    let floor = floor_in tables in
    no_refusal text NoSession
    (answers.reply_is ∙ ap (λ (n : Option ℕ). (answer_at n l floor (ask session)).reply) (sym named)
    ∙ ap (λ (t : Option TeamState). (answer_by t l floor number (ask session)).reply) (team_there tables number within)
    ∙ ap (λ (o : Option ℕ). (outcome_by_slot o (team_rules l f number s.padding) session RequestDef s).reply) (sym closed))
