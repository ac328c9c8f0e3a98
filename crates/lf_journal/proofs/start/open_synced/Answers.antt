use Rattle.std.proofs.Common.{◌≡◌, ◌-◌, ℕ, List, true, false, length, take, drop, sym, ◌∙◌, ap, subst}
use Rattle.std.proofs.lemmas.List.{take_rest}
use Rattle.lf_journal_text.specs.Batches.{whole_end, is_torn, damage_kind, StopsAt}
use Rattle.lf_journal_text.proofs.Torn.{long_if_damaged, intact_at}
use Rattle.lf_journal.proofs.Crash.{damaged_file}
use Rattle.lf_journal.proofs.start.open_synced.Goals as goal

pub damage_kind-requires : goal.damage_kind-requires
damage_kind-requires g c =
    let e = c.whole_length-end.result in
    let same : c.deref-2.result.now ≡ c.deref-then-not-is_torn.result.now = c.deref-2.ensures.value ∙ sym c.deref-then-not-is_torn.ensures.value in
    let d = c.deref-then-not-is_torn.result.now in
    long_if_damaged (take (length d - e) (drop e d)) (subst (λ (l : List ℕ). is_torn (take (length l - e) (drop e l)) ≡ false) same (sym c.is_torn.ensures ∙ c.if-not-is_torn.true))

pub returns-then-not-is_torn-clause-refused : goal.returns-then-not-is_torn-clause-refused
returns-then-not-is_torn-clause-refused g c clean =
    let e = c.whole_length-end.result in
    let file = g.D.Disk.seen c.args.disk.now in
    let read : c.in_ok-bytes.bytes.items ≡ file = c.in_ok-bytes.ensures.bytes clean in
    let first : c.deref.result.now ≡ file = c.deref.ensures.value ∙ read in
    let second : c.deref-2.result.now ≡ file = c.deref-2.ensures.value ∙ read in
    let third : c.deref-then-not-is_torn.result.now ≡ file = c.deref-then-not-is_torn.ensures.value ∙ read in
    let stop : StopsAt e file = subst (λ (l : List ℕ). StopsAt e l) first c.whole_length-end.ensures.stops in
    let damaged : is_torn (drop e file) ≡ false = ap is_torn (sym (take_rest file e)) ∙ subst (λ (l : List ℕ). is_torn (take (length l - e) (drop e l)) ≡ false) second (sym c.is_torn.ensures ∙ c.if-not-is_torn.true) in
    let kind : c.damage_kind.result ≡ damage_kind (drop e file) = c.damage_kind.ensures ∙ ap (λ (l : List ℕ). damage_kind (take (length l - e) (drop e l))) third ∙ ap damage_kind (take_rest file e) in
    (c.read_all.ensures.seen, damaged_file e file stop damaged, record { at = c.whole_length-end.ensures.end ∙ ap whole_end first; kind = kind })

pub returns-clause-intact : goal.returns-clause-intact
returns-clause-intact g c clean =
    let e = c.whole_length-end.result in
    let file = g.D.Disk.seen c.args.disk.now in
    let read : c.in_ok-bytes.bytes.items ≡ file = c.in_ok-bytes.ensures.bytes (c.close_torn.ensures.clean clean) in
    let first : c.deref.result.now ≡ file = c.deref.ensures.value ∙ read in
    let second : c.deref-2.result.now ≡ file = c.deref-2.ensures.value ∙ read in
    let stop : StopsAt e file = subst (λ (l : List ℕ). StopsAt e l) first c.whole_length-end.ensures.stops in
    let torn : is_torn (drop e file) ≡ true = ap is_torn (sym (take_rest file e)) ∙ subst (λ (l : List ℕ). is_torn (take (length l - e) (drop e l)) ≡ true) second (sym c.is_torn.ensures ∙ c.if-not-is_torn.false) in
    intact_at e file stop torn
