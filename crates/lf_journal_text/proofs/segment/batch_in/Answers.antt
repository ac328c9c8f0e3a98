use Rattle.std.proofs.Common.{◌≡◌, ◌-◌, ℕ, List, Option, Some, None, option_map, length, take, drop, map, sym, ◌∙◌, ap}
use Rattle.std.proofs.lemmas.List.{take_rest}
use Rattle.lf_journal_text.specs.Batches.{number_at}
use Rattle.lf_journal_text.specs.Records.{Entry, Log, entries_of, log_in}
use Rattle.lf_journal_text.specs.Views.{entry_of}
use Rattle.lf_journal_text.proofs.segment.batch_in.Goals as goal

pub returns-in_default : goal.returns-in_default
unfolding log_in
returns-in_default c =
    let b = c.args.batch.now in
    let whole : entries_of (take (length b - 37) (drop 37 b)) ≡ entries_of (drop 37 b) = ap entries_of (take_rest b 37) in
    let found : None ≡ entries_of (drop 37 b) = sym (ap (option_map (λ records. map entry_of records.items)) c.in_default.is) ∙ c.in_ok-records.ensures ∙ whole in
    ap (λ (o : Option (List Entry)). option_map (λ (entries : List Entry). record { time = number_at 13 12 b; entries = entries }) o) found

pub returns : goal.returns
unfolding log_in
returns c =
    let b = c.args.batch.now in
    let entries : List Entry = map entry_of c.in-Some.records.items in
    let whole : entries_of (take (length b - 37) (drop 37 b)) ≡ entries_of (drop 37 b) = ap entries_of (take_rest b 37) in
    let found : Some entries ≡ entries_of (drop 37 b) = sym (ap (option_map (λ records. map entry_of records.items)) c.in-Some.is) ∙ c.in_ok-records.ensures ∙ whole in
    let made : Log = record { time = number_at 13 12 b; entries = entries } in
    ap (λ (t : ℕ). Some (record { time = t; entries = entries })) c.number_at.ensures.value
    ∙ ap (λ (o : Option (List Entry)). option_map (λ (entries : List Entry). record { time = number_at 13 12 b; entries = entries }) o) found
