-- After a run the floor has the same design.
use Rattle.std.proofs.Common.{◌≡◌, ℕ, zero, suc, List, [], ◌∷◌, map, Bool, true, false, Option, Some, None, inl, inr, refl, ap, sym, ◌∙◌}
use Rattle.std.specs.Prelude.{slice_get, slice_set, MatchBool}
use Rattle.lf_floorplan.specs.declared.place.Place.{Place}
use Rattle.lf_rules.specs.Legalizer.{Legalizer}
use Rattle.lf_proto.specs.declared.request.Command.{Command}
use Rattle.lf_proto.specs.declared.request.Command.TheVariants.{Bye, To}
use Rattle.lf_proto.specs.declared.request.TeamCommand.{TeamCommand}
use Rattle.lf_proto.specs.declared.reply.Reply.{Reply}
use Rattle.lf_cells.specs.declared.cell.Cell.{Cell}
use Rattle.lf_cells.specs.Cells.{as_committed}
use Rattle.lf_floor_model.specs.States.{FloorState, TeamState}
use Rattle.lf_floor_model.specs.Teams.{TeamRules, team_rules, team_number}
use Rattle.lf_floor_model.specs.Outcomes.{Outcome, is_short}
use Rattle.lf_floor_model.specs.Verbs.{outcome_of}
use Rattle.lf_floor_model.specs.Steps.{IsAnswerOf, MayRunOutOfMemory, answer_at, answer_of, outcome_by_rules}
use Rattle.lf_floor_model.specs.Runs.{Run}
use Rattle.lf_floor_model.proofs.Forms.{answer_by}
use Rattle.lf_floor_model.proofs.Cases.{Facts, order_facts, part_stays}
use Rattle.lf_floor_model.proofs.LegalPlaces.{some_one}
use Rattle.lf_floor.specs.Saved.{ShareDesign, RunKeepsDesign, fixed_cells, fixed_part}

pub committed_fixed : (cells : List Cell) → map fixed_part (map as_committed cells) ≡ map fixed_part cells
committed_fixed [] = refl
committed_fixed (c ∷ cs) = ap (λ (xs : List (List ℕ × ℕ)). fixed_part c ∷ xs) (committed_fixed cs)

-- the team has the same cells after any command
order_fixed : (t : TeamRules) (order : TeamCommand (List ℕ) Place) (s : TeamState) → fixed_cells (outcome_of t order s).team ≡ fixed_cells s
order_fixed t order s = by (outcome_of t order s) (order_facts t order s) where
  by : (o : Outcome) → Facts t s order o → fixed_cells o.team ≡ fixed_cells s
  by o (inl r) = ap (λ (o : Outcome). fixed_cells o.team) r.is
  by o (inr (inl look)) = elim look.team [ inl same ↦ ap fixed_cells same | inr slot ↦ ap fixed_cells slot.is ]
  by o (inr (inr done)) = elim (part_stays fixed_part (λ c p. refl) t s done.session done.change o.team.cells done.is.cells) [
    | inl same ↦ same
    | inr commits ↦ ap (map fixed_part) commits.1.are ∙ committed_fixed s.cells
  ]

set_fixed : (teams : List TeamState) (k : ℕ) (old new : TeamState) → slice_get teams k ≡ Some old → fixed_cells new ≡ fixed_cells old
    → map fixed_cells (slice_set teams k new) ≡ map fixed_cells teams
set_fixed [] k old new there same = refl
set_fixed (s ∷ ss) zero old new there same =
    ap (λ (f : List (List ℕ × ℕ)). f ∷ map fixed_cells ss) (same ∙ sym (ap fixed_cells (some_one there)))
set_fixed (s ∷ ss) (suc k) old new there same = ap (λ (fs : List (List (List ℕ × ℕ))). fixed_cells s ∷ fs) (set_fixed ss k old new there same)

by_fixed : (l : Legalizer) (floor : FloorState) (number : ℕ) (order : TeamCommand (List ℕ) Place) (o : Option TeamState) → slice_get floor.teams number ≡ o
    → ShareDesign floor (answer_by o l floor number order).floor
by_fixed l floor number order None is = record { frame = refl; components = refl; cells = refl }
by_fixed l floor number order (Some s) is = record {
  frame = refl;
  components = refl;
  cells = set_fixed floor.teams number s (outcome_by_rules l floor.frame number order s).team is (order_fixed (team_rules l floor.frame number s.padding) order s);
}

at_fixed : (l : Legalizer) (floor : FloorState) (order : TeamCommand (List ℕ) Place) (o : Option ℕ) → ShareDesign floor (answer_at o l floor order).floor
at_fixed l floor order None = record { frame = refl; components = refl; cells = refl }
at_fixed l floor order (Some number) = by_fixed l floor number order (slice_get floor.teams number) refl

answer_fixed : (l : Legalizer) (floor : FloorState) (command : Command (List ℕ) Place) → ShareDesign floor (answer_of l floor command).floor
unfolding answer_of
answer_fixed l floor Bye = record { frame = refl; components = refl; cells = refl }
answer_fixed l floor (To name order) = at_fixed l floor order (team_number floor.frame name)

design_then : (a b c : FloorState) → ShareDesign a b → c ≡ b → ShareDesign a c
design_then a b c one is = record {
  frame = ap (λ (f : FloorState). f.frame) is ∙ one.frame;
  components = ap (λ (f : FloorState). f.components) is ∙ one.components;
  cells = ap (λ (f : FloorState). map fixed_cells f.teams) is ∙ one.cells;
}

step_fixed : (l : Legalizer) (old new : FloorState) (command : Command (List ℕ) Place) (reply : Reply) (short : Bool)
    → MatchBool short (MayRunOutOfMemory l old command new) (IsAnswerOf l old command reply new) → ShareDesign old new
step_fixed l old new command reply true step = design_then old old new (record { frame = refl; components = refl; cells = refl }) step.short.kept
step_fixed l old new command reply false step = design_then old (answer_of l old command).floor new (answer_fixed l old command) step.floor_is

-- sharing a design is transitive
pub of_one_design : (a b c : FloorState) → ShareDesign a b → ShareDesign b c → ShareDesign a c
of_one_design a b c first next =
    record { frame = next.frame ∙ first.frame; components = next.components ∙ first.components; cells = next.cells ∙ first.cells }

run_fixed : (l : Legalizer) (commands : List (Command (List ℕ) Place)) (replies : List Reply) (begin old new : FloorState) → ShareDesign begin old
    → Run l old commands replies new → ShareDesign begin new
run_fixed l [] [] begin old new one run = design_then begin old new one run
run_fixed l [] (r ∷ rs) begin old new one run = absurd run
run_fixed l (c ∷ cs) [] begin old new one run = absurd run
run_fixed l (c ∷ cs) (r ∷ rs) begin old new one run =
    run_fixed l cs rs begin run.0 new (of_one_design begin old run.0 one (step_fixed l old run.0 c r (is_short r) run.1)) run.2

pub keeps_design : RunKeepsDesign
keeps_design l begin old new commands replies one run = run_fixed l commands replies begin old new one run
