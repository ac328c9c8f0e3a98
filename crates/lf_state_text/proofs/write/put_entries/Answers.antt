use Rattle.std.proofs.Common.{◌++◌, ap, subst, sym, append-nil, arith}
use Rattle.std.specs.Prelude.{All}
use Rattle.std.specs.List.{flat_map}
use Rattle.std.proofs.lemmas.List.{take_all}
use Rattle.std.proofs.lemmas.List.Elements.{All-nil}
use Rattle.lf_state_text.specs.Saved.{IsSpottedEntry, entry_lines, saved_at}
use Rattle.lf_state_text.proofs.Lines.{entry_next, one_more_is}
use Rattle.lf_state_text.proofs.write.put_entries.Goals as goal

pub loop-newer-init : goal.loop-newer-init
loop-newer-init g c = record {
  text = λ start before had. subst (g.O.Output.took start c.args.out.now) (sym (append-nil before)) had;
  spotted = All-nil IsSpottedEntry;
}

pub loop-newer-preserved : goal.loop-newer-preserved
loop-newer-preserved g c =
    let entries = (saved_at (g.T.TeamViews.saved c.args.teams.now) c.args.team).entries in
    record {
      text = λ start before had.
          subst (g.O.Output.took start c.put_entry_at.new.out) (entry_next before entries c.loop-newer.newer)
          (c.put_entry_at.ensures.text start _ (c.loop-newer.invariant.text start before had));
      spotted = one_more_is IsSpottedEntry entries c.loop-newer.newer (omega (arith, c.loop-newer-test.true, c.entry_count-newer-end.ensures)) c.loop-newer.invariant.spotted c.put_entry_at.ensures.spotted;
    }

pub returns-clause-text : goal.returns-clause-text
returns-clause-text g c = λ start before had.
    let entries = (saved_at (g.T.TeamViews.saved c.args.teams.now) c.args.team).entries in
    subst (g.O.Output.took start c.loop-newer.out)
    (ap (λ es. before ++ flat_map entry_lines es) (take_all c.loop-newer.newer entries (omega (arith, c.loop-newer-test.false, c.entry_count-newer-end.ensures))))
    (c.loop-newer.invariant.text start before had)

pub returns-clause-spotted : goal.returns-clause-spotted
returns-clause-spotted g c =
    let entries = (saved_at (g.T.TeamViews.saved c.args.teams.now) c.args.team).entries in
    subst (λ es. All IsSpottedEntry es) (take_all c.loop-newer.newer entries (omega (arith, c.loop-newer-test.false, c.entry_count-newer-end.ensures))) c.loop-newer.invariant.spotted
