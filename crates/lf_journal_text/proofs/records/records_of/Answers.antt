use Rattle.std.proofs.Common.{◌≡◌, ◌<◌, ◌++◌, [], ◌∷◌, List, length, map, sym, ◌∙◌, ap, subst, rules}
use Rattle.std.proofs.lemmas.List.{map-append}
use Rattle.lf_journal_text.specs.Records.{Entry}
use Rattle.lf_journal_text.specs.Views.{entry_of}
use Rattle.lf_journal_text.proofs.RecordLists.{ReadsOn, reads_all, reads_none, reads_more, reads_done}
use Rattle.lf_journal_text.proofs.records.records_of.Goals as goal

pub loop-rest-init : goal.loop-rest-init
loop-rest-init c = subst (λ (l : List Entry). ReadsOn l c.args.bytes.now c.args.bytes.now) (sym (ap (map entry_of) c.new-records.ensures.items)) (reads_all c.args.bytes.now)

pub returns-in_default : goal.returns-in_default
returns-in_default c =
    let some : 0 < length c.loop-rest.rest.now = search rules in
    reads_none (map entry_of c.loop-rest.records.items) c.loop-rest.rest.now c.args.bytes.now c.loop-rest.invariant some c.in_default.ensures.found

pub loop-rest-preserved : goal.loop-rest-preserved
loop-rest-preserved c =
    let some : 0 < length c.loop-rest.rest.now = search rules in
    let one : map entry_of c.loop-rest.records.items ++ entry_of c.in-Some.record ∷ [] ≡ map entry_of c.push.new.self.items = sym (map-append entry_of c.loop-rest.records.items (c.in-Some.record ∷ [])) ∙ ap (map entry_of) (sym c.in_ok-push.ensures.items) in
    subst (λ (l : List Entry). ReadsOn l c.in-Some.behind.now c.args.bytes.now) one
    (reads_more (map entry_of c.loop-rest.records.items) c.loop-rest.rest.now c.args.bytes.now (entry_of c.in-Some.record) c.in-Some.behind.now c.loop-rest.invariant some c.in-Some.ensures.found)

pub returns : goal.returns
returns c =
    let none : length c.loop-rest.rest.now ≡ 0 = search rules in
    reads_done (map entry_of c.loop-rest.records.items) c.loop-rest.rest.now c.args.bytes.now c.loop-rest.invariant none
