use Rattle.std.proofs.Common.{◌≡◌, ◌∙◌, List, None, Option, ap, false, is_some, subst, sym, true}
use Rattle.std.specs.Prelude.{◌≢◌, ℕ, All}
use Rattle.std.specs.Borrow.{Bor}
use Rattle.std.proofs.lemmas.List.{take_all}
use Rattle.std.proofs.lemmas.List.Elements.{All-map, All-more}
use Rattle.lf_floor_model.specs.Teams.{team_number}
use Rattle.lf_task_run.proofs.selected_teams.all_known.Goals as goal

some_there : (o : Option ℕ) → is_some o ≡ true → o ≢ None
some_there o is none = clash (sym is ∙ ap is_some none) where
  clash : true ≡ false → ⊥
  clash e = cc

pub loop-team-preserved : goal.loop-team-preserved
loop-team-preserved c =
    let frame = c.args.floor.now.frame in
    All-more (λ (t : Bor (List ℕ)). team_number frame t.now ≢ None) c.args.teams.now c.loop-team.team-index _ c.loop-team-test.true c.loop-team.invariant
    (subst (λ (name : List ℕ). team_number frame name ≢ None) c.as_bytes.ensures.value (some_there _ (sym c.is_known.ensures ∙ c.if-not-is_known.false)))

pub returns-clause-ok : goal.returns-clause-ok
returns-clause-ok c =
    let frame = c.args.floor.now.frame in
    All-map (λ (name : List ℕ). team_number frame name ≢ None) (λ (t : Bor (List ℕ)). t.now) c.args.teams.now
    (subst (λ (ts : List (Bor (List ℕ))). All (λ (t : Bor (List ℕ)). team_number frame t.now ≢ None) ts)
    (take_all c.loop-team.team-index c.args.teams.now c.loop-team-test.false) c.loop-team.invariant)
