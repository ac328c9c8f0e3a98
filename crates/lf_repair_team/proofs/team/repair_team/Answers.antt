use Rattle.std.proofs.Common.{◌≡◌, ◌∙◌, ℕ, ◌<◌, List, Vec, Global, Some, ap, subst, sym}
use Rattle.std.specs.Prelude.{All, AllPairs}
use Rattle.lf_floor_model.specs.Teams.{team_number}
use Rattle.lf_repair_team.specs.TeamRepairs.{AllListedMove, AreLegalExcept, HasNoPlaceOrIsListed, IsIllegalIn, OnlyListedMove, WasIllegal}
use Rattle.lf_repair_team.proofs.Finding.{all_move, only_move}
use Rattle.lf_repair_team.proofs.Legal.{none_left}
use Rattle.lf_repair_team.proofs.MeanLemmas.{team_means_of}
use Rattle.lf_repair_team.proofs.OffSoft.{flagged_at_start, locked_at_start, moved_off_soft, none_or_listed}
use Rattle.lf_repair_team.proofs.ReachLemmas.{stays_within}
use Rattle.lf_repair_team.proofs.Runs.{none_cut}
use Rattle.lf_repair_team.proofs.Settling.{were_not_legal}
use Rattle.lf_repair_team.proofs.StatsLemmas.{team_stats_of}
use Rattle.lf_repair_team.proofs.team.repair_team.Goals as goal

items_same : (v w : Vec ℕ Global) → v ≡ w → v.items ≡ w.items
items_same v w same = ap (λ (u : Vec ℕ Global). u.items) same

pub returns-in-Ok-repair_in_session-clause-kept : goal.returns-in-Ok-repair_in_session-clause-kept
returns-in-Ok-repair_in_session-clause-kept g c = λ keep own legal.
    let flags = c.in-Ok.ensures.marked c.args.team.now (sym c.team_number.ensures ∙ c.in-Some.is) in
    c.in-Ok-repair_in_session.ensures.marked (c.in-Ok.ensures.policy ∙ keep)
    (locked_at_start c.args.team.now c.args.floor.now c.in-Some.number c.in-Ok.input.pass.locked.items c.in-Ok.input.pass.targets.items (sym c.team_number.ensures ∙ c.in-Some.is)
    c.in-Ok.ensures.targets (λ k mark. flags.only legal.state legal.there k mark)) own (flags.legal own legal)

pub returns-clause-kept : goal.returns-clause-kept
returns-clause-kept g c = λ keep own legal.
    let flags = c.in-Ok.ensures.marked c.args.team.now (sym c.team_number.ensures ∙ c.in-Some.is) in
    c.in-Err.ensures.marked (c.in-Ok.ensures.policy ∙ keep)
    (locked_at_start c.args.team.now c.args.floor.now c.in-Some.number c.in-Ok.input.pass.locked.items c.in-Ok.input.pass.targets.items (sym c.team_number.ensures ∙ c.in-Some.is)
    c.in-Ok.ensures.targets (λ k mark. flags.only legal.state legal.there k mark)) own (flags.legal own legal)

pub returns-in-Ok-repair_in_session-clause-changed : goal.returns-in-Ok-repair_in_session-clause-changed
returns-in-Ok-repair_in_session-clause-changed g c =
    let team = c.args.team.now in
    let old = c.args.floor.now in
    let new = c.repair_in_session.new.floor in
    subst (λ (xs : List ℕ). OnlyListedMove team old new xs) (sym (items_same c.stats_of.result.changed c.in-Ok-repair_in_session.found.changed c.stats_of.ensures.changed))
    (only_move team old new c.in-Some.number c.in-Ok.input.pass.targets.items c.in-Ok-repair_in_session.found.changed.items (sym c.team_number.ensures ∙ c.in-Some.is) c.in-Ok.ensures.targets
    c.in-Ok-repair_in_session.ensures.only.names c.in-Ok-repair_in_session.ensures.changed)

pub returns-in-Ok-repair_in_session-clause-moved : goal.returns-in-Ok-repair_in_session-clause-moved
returns-in-Ok-repair_in_session-clause-moved g c =
    let team = c.args.team.now in
    let old = c.args.floor.now in
    let new = c.repair_in_session.new.floor in
    subst (λ (xs : List ℕ). AllListedMove team old new xs) (sym (items_same c.stats_of.result.changed c.in-Ok-repair_in_session.found.changed c.stats_of.ensures.changed))
    (all_move team old new c.in-Some.number c.in-Ok.input.pass.targets.items c.in-Ok-repair_in_session.found.changed.items (sym c.team_number.ensures ∙ c.in-Some.is) c.in-Ok.ensures.targets
    c.in-Ok-repair_in_session.ensures.only.names c.in-Ok-repair_in_session.ensures.moved)

pub returns-in-Ok-repair_in_session-clause-named : goal.returns-in-Ok-repair_in_session-clause-named
returns-in-Ok-repair_in_session-clause-named g c =
    subst (λ (xs : List ℕ). AreLegalExcept c.args.team.now c.repair_in_session.new.floor xs) (sym (items_same c.stats_of.result.unrepaired c.in-Ok-repair_in_session.found.left c.stats_of.ensures.left))
    c.in-Ok-repair_in_session.ensures.unrepaired.named

pub returns-in-Ok-repair_in_session-clause-complete : goal.returns-in-Ok-repair_in_session-clause-complete
returns-in-Ok-repair_in_session-clause-complete g c =
    subst (λ (xs : List ℕ). All (HasNoPlaceOrIsListed c.args.search.now.reach c.args.impossible.now c.args.floor.now c.repair_in_session.new.floor c.args.team.now) xs)
    (sym (items_same c.stats_of.result.unrepaired c.in-Ok-repair_in_session.found.left c.stats_of.ensures.left))
    (none_or_listed c.args.search.now.reach c.args.impossible.now c.args.floor.now c.repair_in_session.new.floor c.args.team.now c.in-Some.number c.in-Ok.input.pass.targets.items
    c.in-Ok.input.pass.impossible.items c.in-Ok-repair_in_session.found.left.items (sym c.team_number.ensures ∙ c.in-Some.is) c.in-Ok.ensures.targets c.in-Ok-repair_in_session.ensures.only c.in-Ok.ensures.flagged c.in-Ok-repair_in_session.ensures.unrepaired.without)

pub returns-in-Ok-repair_in_session-clause-illegal : goal.returns-in-Ok-repair_in_session-clause-illegal
returns-in-Ok-repair_in_session-clause-illegal g c =
    subst (λ (xs : List ℕ). All (λ own. IsIllegalIn c.repair_in_session.new.floor c.args.team.now own) xs) (sym (items_same c.stats_of.result.unrepaired c.in-Ok-repair_in_session.found.left c.stats_of.ensures.left))
    c.in-Ok-repair_in_session.ensures.unrepaired.illegal

pub returns-in-Ok-repair_in_session-clause-rise : goal.returns-in-Ok-repair_in_session-clause-rise
returns-in-Ok-repair_in_session-clause-rise g c =
    subst (λ (xs : List ℕ). AllPairs (λ own later. own < later) xs) (sym (items_same c.stats_of.result.unrepaired c.in-Ok-repair_in_session.found.left c.stats_of.ensures.left))
    c.in-Ok-repair_in_session.ensures.unrepaired.rise

pub returns-in-Ok-repair_in_session-clause-committed : goal.returns-in-Ok-repair_in_session-clause-committed
returns-in-Ok-repair_in_session-clause-committed g c = λ l.
    let is : c.stats_of.result.unrepaired.items ≡ c.in-Ok-repair_in_session.found.left.items = items_same c.stats_of.result.unrepaired c.in-Ok-repair_in_session.found.left c.stats_of.ensures.left in (
      λ none. c.in-Ok-repair_in_session.ensures.committed l (sym is ∙ none),
      λ all. is ∙ none_left l c.args.team.now c.repair_in_session.new.floor c.in-Ok-repair_in_session.found.left.items c.in-Ok-repair_in_session.ensures.unrepaired.illegal all,
    )

pub returns-in_default-clause-err : goal.returns-in_default-clause-err
returns-in_default-clause-err g c = λ l. none_cut l c.args.team.now c.args.floor.now (g.K.Sink.contents c.args.lines.now)

pub returns-in_default-team_input-clause-err : goal.returns-in_default-team_input-clause-err
returns-in_default-team_input-clause-err g c = λ l. none_cut l c.args.team.now c.args.floor.now (g.K.Sink.contents c.args.lines.now)

pub returns-in-Ok-repair_in_session-clause-reported : goal.returns-in-Ok-repair_in_session-clause-reported
returns-in-Ok-repair_in_session-clause-reported g c =
    let team = c.args.team.now in
    let named : team_number c.args.floor.now.frame team ≡ Some c.in-Some.number = sym c.team_number.ensures ∙ c.in-Some.is in
    team_stats_of team c.args.floor.now c.repair_in_session.new.floor c.in-Some.number c.in-Ok.input.pass.targets.items c.in-Ok.input.legal.items c.stats_of.result named
    c.in-Ok-repair_in_session.ensures.only c.in-Ok.ensures.targets (c.in-Ok.ensures.legal team named) c.stats_of.ensures.tally

pub returns-in-Ok-repair_in_session-clause-off_soft : goal.returns-in-Ok-repair_in_session-clause-off_soft
returns-in-Ok-repair_in_session-clause-off_soft g c =
    moved_off_soft c.args.team.now c.args.floor.now c.repair_in_session.new.floor c.in-Some.number c.in-Ok.input.pass.targets.items (sym c.team_number.ensures ∙ c.in-Some.is)
    c.in-Ok.ensures.targets c.in-Ok-repair_in_session.ensures.only.names c.in-Ok-repair_in_session.ensures.off_soft

pub returns-in-Ok-repair_in_session-clause-unmoved : goal.returns-in-Ok-repair_in_session-clause-unmoved
returns-in-Ok-repair_in_session-clause-unmoved g c = λ own is.
    let named : team_number c.args.floor.now.frame c.args.team.now ≡ Some c.in-Some.number = sym c.team_number.ensures ∙ c.in-Some.is in
    c.in-Ok-repair_in_session.ensures.unmoved
    (flagged_at_start c.args.team.now c.args.floor.now c.in-Some.number c.in-Ok.input.pass.impossible.items c.in-Ok.input.pass.targets.items is.state named is.there c.in-Ok.ensures.targets)
    own ((c.in-Ok.ensures.flagged own).1 is)

pub returns-clause-unmoved : goal.returns-clause-unmoved
returns-clause-unmoved g c = λ own is.
    let named : team_number c.args.floor.now.frame c.args.team.now ≡ Some c.in-Some.number = sym c.team_number.ensures ∙ c.in-Some.is in
    c.in-Err.ensures.unmoved
    (flagged_at_start c.args.team.now c.args.floor.now c.in-Some.number c.in-Ok.input.pass.impossible.items c.in-Ok.input.pass.targets.items is.state named is.there c.in-Ok.ensures.targets)
    own ((c.in-Ok.ensures.flagged own).1 is)

pub team_input-requires : goal.team_input-requires
team_input-requires g c = sym c.team_number.ensures ∙ c.in-Some.is

pub returns-in-Ok-repair_in_session-clause-within : goal.returns-in-Ok-repair_in_session-clause-within
returns-in-Ok-repair_in_session-clause-within g c =
    stays_within c.args.search.now.reach c.in-Ok.input.pass.targets.items c.args.team.now c.args.floor.now c.repair_in_session.new.floor c.in-Some.number
    (sym c.team_number.ensures ∙ c.in-Some.is) c.in-Ok.ensures.targets c.in-Ok-repair_in_session.ensures.only.names c.in-Ok-repair_in_session.ensures.within

pub returns-in-Ok-repair_in_session-clause-means : goal.returns-in-Ok-repair_in_session-clause-means
returns-in-Ok-repair_in_session-clause-means g c =
    team_means_of c.args.team.now c.args.floor.now c.repair_in_session.new.floor c.in-Some.number c.in-Ok.input.pass.targets.items c.stats_of.result.means
    (sym c.team_number.ensures ∙ c.in-Some.is) c.in-Ok-repair_in_session.ensures.only.frame c.in-Ok-repair_in_session.ensures.only.names c.in-Ok.ensures.targets c.stats_of.ensures.means

pub returns-in-Ok-repair_in_session-clause-were_illegal : goal.returns-in-Ok-repair_in_session-clause-were_illegal
returns-in-Ok-repair_in_session-clause-were_illegal g c =
    let team = c.args.team.now in
    let named : team_number c.args.floor.now.frame team ≡ Some c.in-Some.number = sym c.team_number.ensures ∙ c.in-Some.is in
    subst (λ (xs : List ℕ). All (λ own. WasIllegal c.args.floor.now team own) xs) (sym (items_same c.stats_of.result.unrepaired c.in-Ok-repair_in_session.found.left c.stats_of.ensures.left))
    (were_not_legal team c.args.floor.now c.in-Some.number c.in-Ok.input.pass.locked.items c.in-Ok.input.pass.targets.items c.in-Ok-repair_in_session.found.left.items named
    c.in-Ok.ensures.targets (c.in-Ok.ensures.marked team named) c.in-Ok-repair_in_session.ensures.free)
