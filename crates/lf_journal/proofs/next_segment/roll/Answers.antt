use Rattle.std.proofs.Common.{◌≡◌, ℕ, [], ◌∷◌, ◌++◌, List, drop, sym, ◌∙◌, ap, subst, inl, inr}
use Rattle.lf_journal_text.specs.Records.{beginning_text}
use Rattle.lf_journal.specs.Journals.{StandsFor}
use Rattle.lf_journal.proofs.Crash.{fresh}
use Rattle.lf_journal.proofs.next_segment.roll.Goals as goal

pub returns-in_err-beginning-clause-any_moment : goal.returns-in_err-beginning-clause-any_moment
returns-in_err-beginning-clause-any_moment g c clean f left =
    let s = c.requires.settled clean in
    let new = fresh c.args.next.now.end (g.D.Disk.seen c.args.next.now.disk) c.requires.first s.text s.zeros s.room in
    inl (subst (λ (d : List ℕ). StandsFor [] d) (sym (s.durable f left)) new.1)

pub returns-in_err-write_state-clause-any_moment : goal.returns-in_err-write_state-clause-any_moment
returns-in_err-write_state-clause-any_moment g c clean f left =
    let s = c.requires.settled clean in
    let new = fresh c.args.next.now.end (g.D.Disk.seen c.args.next.now.disk) c.requires.first s.text s.zeros s.room in
    inl (subst (λ (d : List ℕ). StandsFor [] d) (sym (s.durable f left)) new.1)

pub returns-in_err-put-clause-any_moment : goal.returns-in_err-put-clause-any_moment
returns-in_err-put-clause-any_moment g c clean f left =
    let s = c.requires.settled (c.put.ensures.clean clean) in
    let new = fresh c.args.next.now.end (g.D.Disk.seen c.args.next.now.disk) c.requires.first s.text s.zeros s.room in
    let text : c.deref.result.now ≡ beginning_text c.args.time c.args.design.now c.args.state.now = c.deref.ensures.value ∙ c.in_ok-beginning.ensures.text in
    elim (c.put.ensures.any_moment clean f left) [
      | inl before ↦ inl (subst (λ (l : List (List ℕ)). StandsFor l f) new.0 before)
      | inr after ↦ inr (
        c.in_ok-write_state.ensures,
        subst (λ (b : List ℕ). StandsFor (drop 1 b ∷ []) f) text (subst (λ (l : List (List ℕ)). StandsFor (l ++ drop 1 c.deref.result.now ∷ []) f) new.0 after),
      )
    ]

pub returns-clause-any_moment : goal.returns-clause-any_moment
returns-clause-any_moment g c clean f left =
    let s = c.requires.settled (c.put.ensures.clean clean) in
    let new = fresh c.args.next.now.end (g.D.Disk.seen c.args.next.now.disk) c.requires.first s.text s.zeros s.room in
    let text : c.deref.result.now ≡ beginning_text c.args.time c.args.design.now c.args.state.now = c.deref.ensures.value ∙ c.in_ok-beginning.ensures.text in
    elim (c.put.ensures.any_moment clean f left) [
      | inl before ↦ inl (subst (λ (l : List (List ℕ)). StandsFor l f) new.0 before)
      | inr after ↦ inr (
        c.in_ok-write_state.ensures,
        subst (λ (b : List ℕ). StandsFor (drop 1 b ∷ []) f) text (subst (λ (l : List (List ℕ)). StandsFor (l ++ drop 1 c.deref.result.now ∷ []) f) new.0 after),
      )
    ]

pub returns-clause-begun : goal.returns-clause-begun
returns-clause-begun g c clean =
    let s = c.requires.settled (c.put.ensures.clean clean) in
    let new = fresh c.args.next.now.end (g.D.Disk.seen c.args.next.now.disk) c.requires.first s.text s.zeros s.room in
    let text : c.deref.result.now ≡ beginning_text c.args.time c.args.design.now c.args.state.now = c.deref.ensures.value ∙ c.in_ok-beginning.ensures.text in
    let after = c.in_ok-put.ensures.acknowledged clean in
    (after.0, after.1 ∙ ap (λ (l : List (List ℕ)). l ++ drop 1 c.deref.result.now ∷ []) new.0 ∙ ap (λ (b : List ℕ). drop 1 b ∷ []) text)
