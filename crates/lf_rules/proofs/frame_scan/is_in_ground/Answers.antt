use Rattle.std.proofs.Common.{refl, sym, ◌∙◌, rules}
use Rattle.std.proofs.lemmas.Option.{slice_get_read, slice_get_past}
use Rattle.lf_rules.proofs.GroundLemmas.{no_ground, stays_in_open, open_of_stays}
use Rattle.lf_rules.proofs.frame_scan.is_in_ground.Goals as goal

pub returns-in-Some : goal.returns-in-Some
returns-in-Some c =
    let e = slice_get_read c.args.frame.now.teams _ c.args.team c.in-Some.fence.now refl (search rules) (search rules) in
    rw e (rw (← c.as_slice-in-Some.ensures) c.is_covered.ensures)

pub returns-then-team-len : goal.returns-then-team-len
returns-then-team-len c =
    let past = slice_get_past c.args.frame.now.teams c.args.team (search rules) in (
      λ t. cc,
      λ stays. absurd (c.if-team-len.true (no_ground c.args.frame.now c.args.team c.args.rect.now c.requires.wide c.requires.high past stays ∙ sym c.len.ensures)),
    )

pub returns-else-team-len : goal.returns-else-team-len
returns-else-team-len c =
    let past = slice_get_past c.args.frame.now.teams c.args.team (search rules) in (
      λ t. stays_in_open c.args.frame.now c.args.team c.args.rect.now past (c.if-team-len.false ∙ c.len.ensures) (rw (← c.as_slice-in-None.ensures) (c.is_in_open_ground.ensures.0 t)),
      λ stays. c.is_in_open_ground.ensures.1 (rw c.as_slice-in-None.ensures (open_of_stays c.args.frame.now c.args.team c.args.rect.now past stays)),
    )
