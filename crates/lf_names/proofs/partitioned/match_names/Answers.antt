use Rattle.std.proofs.Common.{◌∙◌, ◌+◌, ◌++◌, ap, arith, drop}
use Rattle.std.specs.Option.{option_map, option_to_list}
use Rattle.lf_names.specs.Labels.{label_in, labels_of, matches_of}
use Rattle.lf_names.specs.declared.entries.Entry.{Entry}
use Rattle.lf_names.proofs.LabelledLemmas.{read, cut_front, cut_back, matched_more}
use Rattle.lf_names.proofs.partitioned.match_names.Goals as goal

pub loop-position-preserved : goal.loop-position-preserved
loop-position-preserved c =
    let store = c.args.requested.now in
    let i = c.loop-position.position in
    let matches = c.loop-position.matches.items in
    let known = c.loop-position.invariant in
    record {
      left = λ questions keeps. c.cut.ensures.back ∙ cut_back questions i _ (read store questions i c.at-entry.result keeps (omega arith) c.at-entry.ensures) c.loop-position.remaining.now (known.left questions keeps);
      matched = λ own questions names table keeps.
          let r = read store questions i c.at-entry.result keeps (omega arith) c.at-entry.ensures in
          let name = c.cut.ensures.prefix ∙ cut_front questions i _ r c.loop-position.remaining.now (known.left questions keeps) in
          let label = c.label_of.ensures own names table ∙ ap (label_in own) name in
          ap (λ ms. ms ++ matches_of own (drop (i + 1) questions)) c.in_ok-add_match.ensures
          ∙ ap (λ (e : Entry). (matches ++ option_to_list (option_map (labels_of e.label) c.label_of.result)) ++ matches_of own (drop (i + 1) questions)) r.entry
          ∙ ap (λ o. (matches ++ option_to_list (option_map (labels_of r.one.label) o)) ++ matches_of own (drop (i + 1) questions)) label
          ∙ matched_more own questions i _ r matches ∙ known.matched own questions names table keeps;
    }
