use Rattle.std.proofs.Common.{◌∙◌, ℕ, List, Some, ap, inl, inr, sym}
use Rattle.std.proofs.lemmas.Result.{on_ok_weaker}
use Rattle.lf_repair_strategy.specs.Targets.{target_at}
use Rattle.lf_repair_team.specs.CellEdits.{KeepsWithin}
use Rattle.lf_repair_team.specs.Runs.{IsRunWithCutLine, IsWrittenRun}
use Rattle.lf_repair_team.proofs.LastPass.{another_cell, legal_unless, named_unplaced, none_affected, now_legal, placed_is_legal, state_named, unplaced_is_illegal}
use Rattle.lf_repair_team.proofs.OffSoft.{none_moves_onto_soft, one_moves_off_soft}
use Rattle.lf_repair_team.proofs.ReachLemmas.{best_is_within, one_moves_within}
use Rattle.lf_repair_team.proofs.Results.{err_from, ok_from, on_ok_from}
use Rattle.lf_repair_team.proofs.Runs.{none_cut, nothing, unchanged, uncut}
use Rattle.lf_repair_team.proofs.Steps.{place_of_state}
use Rattle.lf_repair_team.proofs.WithoutPlace.{named_cell, working_of}
use Rattle.lf_repair_team.proofs.last_pass.legalize_cell.Goals as goal

pub returns-in-Some-clause-run : goal.returns-in-Some-clause-run
returns-in-Some-clause-run g c = λ l. nothing l c.args.session.now.team.now c.args.floor.now (g.K.Sink.contents c.args.lines.now)

pub returns-in-Some-clause-done : goal.returns-in-Some-clause-done
returns-in-Some-clause-done g c = placed_is_legal c.args.search.now.reach c.args.targets.now c.args.session.now.team.now c.args.floor.now c.args.own _ (sym c.place_of.ensures ∙ c.in-Some.is)

pub returns-in-Ok-false-clause-err : goal.returns-in-Ok-false-clause-err
returns-in-Ok-false-clause-err g c = λ l. none_cut l c.args.session.now.team.now c.args.floor.now (g.K.Sink.contents c.args.lines.now)

pub returns-in-Err-clause-err : goal.returns-in-Err-clause-err
returns-in-Err-clause-err g c = λ l. none_cut l c.args.session.now.team.now c.args.floor.now (g.K.Sink.contents c.args.lines.now)

pub returns-in-Some-clause-only : goal.returns-in-Some-clause-only
returns-in-Some-clause-only g c = unchanged c.args.session.now.team.now c.args.floor.now

pub returns-in-Some-clause-legal : goal.returns-in-Some-clause-legal
returns-in-Some-clause-legal g c = none_affected c.args.session.now.team.now c.args.floor.now

pub returns-in-Some-clause-without : goal.returns-in-Some-clause-without
returns-in-Some-clause-without g c = λ ok other has differ. has

pub returns-in-Ok-false-clause-only : goal.returns-in-Ok-false-clause-only
returns-in-Ok-false-clause-only g c = unchanged c.args.session.now.team.now c.args.floor.now

pub returns-in-Ok-false-clause-legal : goal.returns-in-Ok-false-clause-legal
returns-in-Ok-false-clause-legal g c = none_affected c.args.session.now.team.now c.args.floor.now

pub returns-in-Ok-false-clause-without : goal.returns-in-Ok-false-clause-without
returns-in-Ok-false-clause-without g c = λ ok other has differ. has

pub returns-in-Err-clause-only : goal.returns-in-Err-clause-only
returns-in-Err-clause-only g c = unchanged c.args.session.now.team.now c.args.floor.now

pub returns-in-Err-clause-legal : goal.returns-in-Err-clause-legal
returns-in-Err-clause-legal g c = none_affected c.args.session.now.team.now c.args.floor.now

pub returns-in-Err-clause-without : goal.returns-in-Err-clause-without
returns-in-Err-clause-without g c = λ ok other has differ. has

pub returns-in-Err-legalize_named-clause-others : goal.returns-in-Err-legalize_named-clause-others
returns-in-Err-legalize_named-clause-others g c = λ other differ.
    c.in-Err-legalize_named.ensures.cells other (another_cell c.args.session.now.team.now c.as_slice.result.now c.args.floor.now c.args.own other c.teams_match_frame.ensures
    (λ s there. c.in-Ok-true.ensures.name s c.in-Ok-true.field-0-test there ∙ ap (λ (n : List ℕ). Some n) (sym c.as_slice.ensures.value)) differ)

pub returns-in-Err-legalize_named-clause-legal : goal.returns-in-Err-legalize_named-clause-legal
returns-in-Err-legalize_named-clause-legal g c =
    legal_unless c.args.session.now.team.now c.args.floor.now c.legalize_named.new.floor c.args.own (unplaced_is_illegal c.args.session.now.team.now c.args.floor.now c.args.own (sym c.place_of.ensures ∙ c.in-None.is))
    (λ other differ. c.in-Err-legalize_named.ensures.cells other (another_cell c.args.session.now.team.now c.as_slice.result.now c.args.floor.now c.args.own other c.teams_match_frame.ensures
    (λ s there. c.in-Ok-true.ensures.name s c.in-Ok-true.field-0-test there ∙ ap (λ (n : List ℕ). Some n) (sym c.as_slice.ensures.value)) differ))
    (λ other differ. c.in-Err-legalize_named.ensures.legal other (another_cell c.args.session.now.team.now c.as_slice.result.now c.args.floor.now c.args.own other c.teams_match_frame.ensures
    (λ s there. c.in-Ok-true.ensures.name s c.in-Ok-true.field-0-test there ∙ ap (λ (n : List ℕ). Some n) (sym c.as_slice.ensures.value)) differ))

pub returns-in-Err-legalize_named-clause-without : goal.returns-in-Err-legalize_named-clause-without
returns-in-Err-legalize_named-clause-without g c = λ ok other has differ.
    c.in-Err-legalize_named.ensures.without c.args.search.now.reach (target_at c.args.targets.now other) other (another_cell c.args.session.now.team.now c.as_slice.result.now c.args.floor.now c.args.own other c.teams_match_frame.ensures
    (λ s there. c.in-Ok-true.ensures.name s c.in-Ok-true.field-0-test there ∙ ap (λ (n : List ℕ). Some n) (sym c.as_slice.ensures.value)) differ)
    (named_unplaced c.args.session.now.team.now c.as_slice.result.now c.args.floor.now c.args.own c.teams_match_frame.ensures
    (λ s there. c.in-Ok-true.ensures.name s c.in-Ok-true.field-0-test there ∙ ap (λ (n : List ℕ). Some n) (sym c.as_slice.ensures.value)) (sym c.place_of.ensures ∙ c.in-None.is)) has

pub returns-then-is_cell_legal-clause-others : goal.returns-then-is_cell_legal-clause-others
returns-then-is_cell_legal-clause-others g c = λ other differ.
    c.in-Ok.ensures.cells other (another_cell c.args.session.now.team.now c.as_slice.result.now c.args.floor.now c.args.own other c.teams_match_frame.ensures
    (λ s there. c.in-Ok-true.ensures.name s c.in-Ok-true.field-0-test there ∙ ap (λ (n : List ℕ). Some n) (sym c.as_slice.ensures.value)) differ)

pub returns-then-is_cell_legal-clause-legal : goal.returns-then-is_cell_legal-clause-legal
returns-then-is_cell_legal-clause-legal g c =
    legal_unless c.args.session.now.team.now c.args.floor.now c.legalize_named.new.floor c.args.own (unplaced_is_illegal c.args.session.now.team.now c.args.floor.now c.args.own (sym c.place_of.ensures ∙ c.in-None.is))
    (λ other differ. c.in-Ok.ensures.cells other (another_cell c.args.session.now.team.now c.as_slice.result.now c.args.floor.now c.args.own other c.teams_match_frame.ensures
    (λ s there. c.in-Ok-true.ensures.name s c.in-Ok-true.field-0-test there ∙ ap (λ (n : List ℕ). Some n) (sym c.as_slice.ensures.value)) differ))
    (λ other differ. c.in-Ok.ensures.legal other (another_cell c.args.session.now.team.now c.as_slice.result.now c.args.floor.now c.args.own other c.teams_match_frame.ensures
    (λ s there. c.in-Ok-true.ensures.name s c.in-Ok-true.field-0-test there ∙ ap (λ (n : List ℕ). Some n) (sym c.as_slice.ensures.value)) differ))

pub returns-then-is_cell_legal-clause-without : goal.returns-then-is_cell_legal-clause-without
returns-then-is_cell_legal-clause-without g c = λ ok other has differ.
    c.in-Ok.ensures.without c.args.search.now.reach (target_at c.args.targets.now other) other (another_cell c.args.session.now.team.now c.as_slice.result.now c.args.floor.now c.args.own other c.teams_match_frame.ensures
    (λ s there. c.in-Ok-true.ensures.name s c.in-Ok-true.field-0-test there ∙ ap (λ (n : List ℕ). Some n) (sym c.as_slice.ensures.value)) differ)
    (named_unplaced c.args.session.now.team.now c.as_slice.result.now c.args.floor.now c.args.own c.teams_match_frame.ensures
    (λ s there. c.in-Ok-true.ensures.name s c.in-Ok-true.field-0-test there ∙ ap (λ (n : List ℕ). Some n) (sym c.as_slice.ensures.value)) (sym c.place_of.ensures ∙ c.in-None.is)) has

pub returns-clause-others : goal.returns-clause-others
returns-clause-others g c = λ other differ.
    c.in-Ok.ensures.cells other (another_cell c.args.session.now.team.now c.as_slice.result.now c.args.floor.now c.args.own other c.teams_match_frame.ensures
    (λ s there. c.in-Ok-true.ensures.name s c.in-Ok-true.field-0-test there ∙ ap (λ (n : List ℕ). Some n) (sym c.as_slice.ensures.value)) differ)

pub returns-clause-legal : goal.returns-clause-legal
returns-clause-legal g c =
    legal_unless c.args.session.now.team.now c.args.floor.now c.legalize_named.new.floor c.args.own (unplaced_is_illegal c.args.session.now.team.now c.args.floor.now c.args.own (sym c.place_of.ensures ∙ c.in-None.is))
    (λ other differ. c.in-Ok.ensures.cells other (another_cell c.args.session.now.team.now c.as_slice.result.now c.args.floor.now c.args.own other c.teams_match_frame.ensures
    (λ s there. c.in-Ok-true.ensures.name s c.in-Ok-true.field-0-test there ∙ ap (λ (n : List ℕ). Some n) (sym c.as_slice.ensures.value)) differ))
    (λ other differ. c.in-Ok.ensures.legal other (another_cell c.args.session.now.team.now c.as_slice.result.now c.args.floor.now c.args.own other c.teams_match_frame.ensures
    (λ s there. c.in-Ok-true.ensures.name s c.in-Ok-true.field-0-test there ∙ ap (λ (n : List ℕ). Some n) (sym c.as_slice.ensures.value)) differ))

pub returns-clause-without : goal.returns-clause-without
returns-clause-without g c = λ ok other has differ.
    c.in-Ok.ensures.without c.args.search.now.reach (target_at c.args.targets.now other) other (another_cell c.args.session.now.team.now c.as_slice.result.now c.args.floor.now c.args.own other c.teams_match_frame.ensures
    (λ s there. c.in-Ok-true.ensures.name s c.in-Ok-true.field-0-test there ∙ ap (λ (n : List ℕ). Some n) (sym c.as_slice.ensures.value)) differ)
    (named_unplaced c.args.session.now.team.now c.as_slice.result.now c.args.floor.now c.args.own c.teams_match_frame.ensures
    (λ s there. c.in-Ok-true.ensures.name s c.in-Ok-true.field-0-test there ∙ ap (λ (n : List ℕ). Some n) (sym c.as_slice.ensures.value)) (sym c.place_of.ensures ∙ c.in-None.is)) has

pub returns-then-is_cell_legal-clause-done : goal.returns-then-is_cell_legal-clause-done
returns-then-is_cell_legal-clause-done g c = λ ok.
    inl (now_legal c.args.session.now.team.now c.args.floor.now c.legalize_named.new.floor c.args.session.now.number c.args.own _ c.requires c.in-Ok.ensures.only.frame c.in-Ok.ensures.only.names
    (c.in-Ok-true.ensures.known c.in-Ok-true.field-0-test) (λ s at. c.is_cell_legal.ensures.legal s at c.if-is_cell_legal.true))

pub returns-clause-run : goal.returns-clause-run
returns-clause-run g c = λ l.
    ok_from c.stop_unless_no_place.result (IsWrittenRun l c.args.session.now.team.now c.args.floor.now (g.K.Sink.contents c.args.lines.now) (g.K.Sink.contents c.legalize_named.new.lines) c.legalize_named.new.floor) (c.in-Ok.ensures.run l)

pub returns-clause-err : goal.returns-clause-err
returns-clause-err g c = λ l.
    err_from c.stop_unless_no_place.result (IsRunWithCutLine l c.args.session.now.team.now c.args.floor.now (g.K.Sink.contents c.args.lines.now) (g.K.Sink.contents c.legalize_named.new.lines) c.legalize_named.new.floor)
    (uncut l c.args.session.now.team.now c.args.floor.now c.legalize_named.new.floor (g.K.Sink.contents c.args.lines.now) (g.K.Sink.contents c.legalize_named.new.lines) (c.in-Ok.ensures.run l))

pub returns-clause-done : goal.returns-clause-done
returns-clause-done g c = λ ok.
    let s = state_named c.args.session.now.team.now c.args.floor.now c.args.own _ (c.in-Ok-true.ensures.known c.in-Ok-true.field-0-test) in
    on_ok_weaker c.stop_unless_no_place.result
    (λ says. inr (c.in-Ok.ensures.refused c.args.search.now.reach (target_at c.args.targets.now c.args.own) s.0 c.args.own s.1 (s.2 ∙ ap (λ (n : List ℕ). Some n) (sym c.as_slice.ensures.value))
    (sym (place_of_state c.args.floor.now c.args.session.now.team.now c.args.own s.0 s.1) ∙ (sym c.place_of.ensures ∙ c.in-None.is)) says))
    c.stop_unless_no_place.ensures

pub returns-in-Some-clause-off_soft : goal.returns-in-Some-clause-off_soft
returns-in-Some-clause-off_soft g c = none_moves_onto_soft c.args.session.now.team.now c.args.floor.now

pub returns-in-Ok-false-clause-off_soft : goal.returns-in-Ok-false-clause-off_soft
returns-in-Ok-false-clause-off_soft g c = none_moves_onto_soft c.args.session.now.team.now c.args.floor.now

pub returns-in-Err-clause-off_soft : goal.returns-in-Err-clause-off_soft
returns-in-Err-clause-off_soft g c = none_moves_onto_soft c.args.session.now.team.now c.args.floor.now

pub returns-in-Err-legalize_named-clause-off_soft : goal.returns-in-Err-legalize_named-clause-off_soft
returns-in-Err-legalize_named-clause-off_soft g c =
    let s = state_named c.args.session.now.team.now c.args.floor.now c.args.own _ (c.in-Ok-true.ensures.known c.in-Ok-true.field-0-test) in
    one_moves_off_soft c.args.session.now.team.now c.args.floor.now c.legalize_named.new.floor c.args.own
    (λ other differ. c.in-Err-legalize_named.ensures.cells other (another_cell c.args.session.now.team.now c.as_slice.result.now c.args.floor.now c.args.own other c.teams_match_frame.ensures
    (λ s there. c.in-Ok-true.ensures.name s c.in-Ok-true.field-0-test there ∙ ap (λ (n : List ℕ). Some n) (sym c.as_slice.ensures.value)) differ))
    (c.in-Err-legalize_named.ensures.off_soft s.0 c.args.own s.1 (s.2 ∙ ap (λ (n : List ℕ). Some n) (sym c.as_slice.ensures.value))
    (sym (place_of_state c.args.floor.now c.args.session.now.team.now c.args.own s.0 s.1) ∙ (sym c.place_of.ensures ∙ c.in-None.is)))

pub returns-then-is_cell_legal-clause-off_soft : goal.returns-then-is_cell_legal-clause-off_soft
returns-then-is_cell_legal-clause-off_soft g c =
    let s = state_named c.args.session.now.team.now c.args.floor.now c.args.own _ (c.in-Ok-true.ensures.known c.in-Ok-true.field-0-test) in
    one_moves_off_soft c.args.session.now.team.now c.args.floor.now c.legalize_named.new.floor c.args.own
    (λ other differ. c.in-Ok.ensures.cells other (another_cell c.args.session.now.team.now c.as_slice.result.now c.args.floor.now c.args.own other c.teams_match_frame.ensures
    (λ s there. c.in-Ok-true.ensures.name s c.in-Ok-true.field-0-test there ∙ ap (λ (n : List ℕ). Some n) (sym c.as_slice.ensures.value)) differ))
    (c.in-Ok.ensures.off_soft s.0 c.args.own s.1 (s.2 ∙ ap (λ (n : List ℕ). Some n) (sym c.as_slice.ensures.value))
    (sym (place_of_state c.args.floor.now c.args.session.now.team.now c.args.own s.0 s.1) ∙ (sym c.place_of.ensures ∙ c.in-None.is)))

pub returns-clause-off_soft : goal.returns-clause-off_soft
returns-clause-off_soft g c =
    let s = state_named c.args.session.now.team.now c.args.floor.now c.args.own _ (c.in-Ok-true.ensures.known c.in-Ok-true.field-0-test) in
    one_moves_off_soft c.args.session.now.team.now c.args.floor.now c.legalize_named.new.floor c.args.own
    (λ other differ. c.in-Ok.ensures.cells other (another_cell c.args.session.now.team.now c.as_slice.result.now c.args.floor.now c.args.own other c.teams_match_frame.ensures
    (λ s there. c.in-Ok-true.ensures.name s c.in-Ok-true.field-0-test there ∙ ap (λ (n : List ℕ). Some n) (sym c.as_slice.ensures.value)) differ))
    (c.in-Ok.ensures.off_soft s.0 c.args.own s.1 (s.2 ∙ ap (λ (n : List ℕ). Some n) (sym c.as_slice.ensures.value))
    (sym (place_of_state c.args.floor.now c.args.session.now.team.now c.args.own s.0 s.1) ∙ (sym c.place_of.ensures ∙ c.in-None.is)))

pub returns-in-Ok-false-is_best_within-clause-run : goal.returns-in-Ok-false-is_best_within-clause-run
returns-in-Ok-false-is_best_within-clause-run g c = λ l. nothing l c.args.session.now.team.now c.args.floor.now (g.K.Sink.contents c.args.lines.now)

pub returns-in-Ok-false-is_best_within-clause-only : goal.returns-in-Ok-false-is_best_within-clause-only
returns-in-Ok-false-is_best_within-clause-only g c = unchanged c.args.session.now.team.now c.args.floor.now

pub returns-in-Ok-false-is_best_within-clause-legal : goal.returns-in-Ok-false-is_best_within-clause-legal
returns-in-Ok-false-is_best_within-clause-legal g c = none_affected c.args.session.now.team.now c.args.floor.now

pub returns-in-Ok-false-is_best_within-clause-without : goal.returns-in-Ok-false-is_best_within-clause-without
returns-in-Ok-false-is_best_within-clause-without g c = λ ok other has differ. has

pub returns-in-Ok-false-is_best_within-clause-off_soft : goal.returns-in-Ok-false-is_best_within-clause-off_soft
returns-in-Ok-false-is_best_within-clause-off_soft g c = none_moves_onto_soft c.args.session.now.team.now c.args.floor.now

pub returns-in-Ok-false-is_best_within-clause-within : goal.returns-in-Ok-false-is_best_within-clause-within
returns-in-Ok-false-is_best_within-clause-within g c = λ within. within

pub returns-in-Ok-false-is_best_within-clause-done : goal.returns-in-Ok-false-is_best_within-clause-done
returns-in-Ok-false-is_best_within-clause-done g c = λ ok.
    let s = state_named c.args.session.now.team.now c.args.floor.now c.args.own _ (c.in-Ok-true.ensures.known c.in-Ok-true.field-0-test) in
    let cell = named_cell s.0.cells c.args.own _ s.2 in
    inr (c.in-Ok-false-is_best_within.ensures.none s.0 cell.0 s.1 cell.1
    (sym (working_of s.0.cells c.args.own cell.0 cell.1) ∙ sym (place_of_state c.args.floor.now c.args.session.now.team.now c.args.own s.0 s.1) ∙ (sym c.place_of.ensures ∙ c.in-None.is))
    c.in-Ok-false-is_best_within.field-0-test)

pub returns-in-Err-is_best_within-clause-err : goal.returns-in-Err-is_best_within-clause-err
returns-in-Err-is_best_within-clause-err g c = λ l. none_cut l c.args.session.now.team.now c.args.floor.now (g.K.Sink.contents c.args.lines.now)

pub returns-in-Err-is_best_within-clause-only : goal.returns-in-Err-is_best_within-clause-only
returns-in-Err-is_best_within-clause-only g c = unchanged c.args.session.now.team.now c.args.floor.now

pub returns-in-Err-is_best_within-clause-legal : goal.returns-in-Err-is_best_within-clause-legal
returns-in-Err-is_best_within-clause-legal g c = none_affected c.args.session.now.team.now c.args.floor.now

pub returns-in-Err-is_best_within-clause-without : goal.returns-in-Err-is_best_within-clause-without
returns-in-Err-is_best_within-clause-without g c = λ ok other has differ. has

pub returns-in-Err-is_best_within-clause-off_soft : goal.returns-in-Err-is_best_within-clause-off_soft
returns-in-Err-is_best_within-clause-off_soft g c = none_moves_onto_soft c.args.session.now.team.now c.args.floor.now

pub returns-in-Some-clause-within : goal.returns-in-Some-clause-within
returns-in-Some-clause-within g c = λ within. within

pub returns-then-is_cell_legal-clause-within : goal.returns-then-is_cell_legal-clause-within
returns-then-is_cell_legal-clause-within g c =
    let s = state_named c.args.session.now.team.now c.args.floor.now c.args.own _ (c.in-Ok-true.ensures.known c.in-Ok-true.field-0-test) in
    one_moves_within c.args.search.now.reach c.args.targets.now c.args.session.now.team.now c.args.floor.now c.legalize_named.new.floor c.args.own
    (λ other differ. c.in-Ok.ensures.cells other (another_cell c.args.session.now.team.now c.as_slice.result.now c.args.floor.now c.args.own other c.teams_match_frame.ensures
    (λ s there. c.in-Ok-true.ensures.name s c.in-Ok-true.field-0-test there ∙ ap (λ (n : List ℕ). Some n) (sym c.as_slice.ensures.value)) differ))
    (best_is_within c.args.search.now.reach c.args.targets.now c.args.session.now.team.now c.args.floor.now c.legalize_named.new.floor c.args.own c.target_in_last_pass-target.result
    (c.in-Ok-true-is_best_within.ensures.near c.in-Ok-true-is_best_within.field-0-test)
    (c.in-Ok.ensures.best s.0 c.args.own s.1 (s.2 ∙ ap (λ (n : List ℕ). Some n) (sym c.as_slice.ensures.value))
    (sym (place_of_state c.args.floor.now c.args.session.now.team.now c.args.own s.0 s.1) ∙ (sym c.place_of.ensures ∙ c.in-None.is))))

pub returns-clause-within : goal.returns-clause-within
returns-clause-within g c =
    let s = state_named c.args.session.now.team.now c.args.floor.now c.args.own _ (c.in-Ok-true.ensures.known c.in-Ok-true.field-0-test) in
    on_ok_from c.stop_unless_no_place.result (KeepsWithin c.args.search.now.reach c.args.targets.now c.args.session.now.team.now c.args.floor.now c.legalize_named.new.floor)
    (one_moves_within c.args.search.now.reach c.args.targets.now c.args.session.now.team.now c.args.floor.now c.legalize_named.new.floor c.args.own
    (λ other differ. c.in-Ok.ensures.cells other (another_cell c.args.session.now.team.now c.as_slice.result.now c.args.floor.now c.args.own other c.teams_match_frame.ensures
    (λ s there. c.in-Ok-true.ensures.name s c.in-Ok-true.field-0-test there ∙ ap (λ (n : List ℕ). Some n) (sym c.as_slice.ensures.value)) differ))
    (best_is_within c.args.search.now.reach c.args.targets.now c.args.session.now.team.now c.args.floor.now c.legalize_named.new.floor c.args.own c.target_in_last_pass-target.result
    (c.in-Ok-true-is_best_within.ensures.near c.in-Ok-true-is_best_within.field-0-test)
    (c.in-Ok.ensures.best s.0 c.args.own s.1 (s.2 ∙ ap (λ (n : List ℕ). Some n) (sym c.as_slice.ensures.value))
    (sym (place_of_state c.args.floor.now c.args.session.now.team.now c.args.own s.0 s.1) ∙ (sym c.place_of.ensures ∙ c.in-None.is)))))
