use Rattle.std.proofs.Common.{List, length, map, ap, arith}
use Rattle.lf_journal_text.specs.Records.{Entry, entries_text}
use Rattle.lf_journal_text.specs.Views.{entry_of}
use Rattle.lf_journal_run.proofs.Places.{first_records, front_is}
use Rattle.lf_journal_run.proofs.texts.size_in_front.Goals as goal

pub size_of_records-requires : goal.size_of_records-requires
size_of_records-requires c =
    let items = c.args.batch.now.records.items in
    let front = ap (λ (es : List Entry). length (entries_text es)) (front_is c.args.number c.deref.result.now items c.deref.ensures.value) in
    omega (arith, front, first_records c.args.number (map entry_of items), c.requires.small)

pub overflow_add-result : goal.overflow_add-result
overflow_add-result c =
    let items = c.args.batch.now.records.items in
    let front = ap (λ (es : List Entry). length (entries_text es)) (front_is c.args.number c.deref.result.now items c.deref.ensures.value) in
    omega (arith, c.size_of_records.ensures, front, first_records c.args.number (map entry_of items), c.requires.small)

pub returns-clause-size : goal.returns-clause-size
returns-clause-size c =
    let items = c.args.batch.now.records.items in
    let front = ap (λ (es : List Entry). length (entries_text es)) (front_is c.args.number c.deref.result.now items c.deref.ensures.value) in
    omega (arith, c.size_of_records.ensures, front)

pub returns-clause-within : goal.returns-clause-within
returns-clause-within c =
    let items = c.args.batch.now.records.items in
    let front = ap (λ (es : List Entry). length (entries_text es)) (front_is c.args.number c.deref.result.now items c.deref.ensures.value) in
    omega (arith, c.size_of_records.ensures, front, first_records c.args.number (map entry_of items))
