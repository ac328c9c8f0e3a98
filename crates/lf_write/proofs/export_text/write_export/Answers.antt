use Rattle.std.proofs.Common.{sym, ◌∙◌, arith}
use Rattle.lf_write.proofs.Writing.{all_looked, listed_next, none_looked, one_looked, ready, rest_within}
use Rattle.lf_write.proofs.Writing.{written_change, written_first, written_last, written_unchanged}
use Rattle.lf_write.proofs.export_text.write_export.Goals as goal
use Rattle.lf_write.proofs.export_text.write_export.Goals.{then-not-is_unchanged+in_ok-at, else-not-is_unchanged}

pub loop-number-init : goal.loop-number-init
loop-number-init g c = record {
  written =
      written_first c.args.text.now c.args.clauses.now (g.G.NewPlaces.places c.args.given.now) (g.W.Write.contents c.args.out.now) c.requires.rising;
  looked = none_looked (g.G.NewPlaces.places c.args.given.now);
}

pub put_change-requires-clause-order : goal.put_change-requires-clause-order
put_change-requires-clause-order g c =
    let k = listed_next c.requires.listed (sym c.in-Some.ensures) c.at-clause.ensures in
    (ready k (sym c.is_unchanged.ensures ∙ c.if-not-is_unchanged.true) c.loop-number.invariant.written).0

pub put_change-requires-clause-within : goal.put_change-requires-clause-within
put_change-requires-clause-within g c =
    let k = listed_next c.requires.listed (sym c.in-Some.ensures) c.at-clause.ensures in
    (ready k (sym c.is_unchanged.ensures ∙ c.if-not-is_unchanged.true) c.loop-number.invariant.written).1

pub loop-number-preserved : goal.loop-number-preserved
loop-number-preserved g c =
    let k = listed_next c.requires.listed (sym c.in-Some.ensures) c.at-clause.ensures in
    record {
      written = elim c.if-not-is_unchanged.branch [
        | then-not-is_unchanged+in_ok-at w ↦
            rw (w.out-is, w.at-is)
            (written_change k (sym c.is_unchanged.ensures ∙ w.if-not-is_unchanged.true) c.loop-number.invariant.written w.in_ok-at.ensures.bytes
            w.in_ok-at.ensures.after_it)
        | else-not-is_unchanged w ↦
            rw (w.out-is, w.at-is) (written_unchanged k (sym c.is_unchanged.ensures ∙ w.if-not-is_unchanged.false) c.loop-number.invariant.written)
      ];
      looked = one_looked (sym c.in-Some.ensures) c.fits_text.ensures c.loop-number.invariant.looked;
    }

pub put_rest-requires : goal.put_rest-requires
put_rest-requires g c = rest_within (omega arith) c.loop-number.invariant.written

pub returns-clause-bytes : goal.returns-clause-bytes
returns-clause-bytes g c = written_last _ (omega arith) c.loop-number.invariant.written c.in_ok-put_rest.ensures

pub returns-clause-fit : goal.returns-clause-fit
returns-clause-fit g c = all_looked (omega arith) c.loop-number.invariant.looked
