-- A text that is written to a sink in chunks.
use Rattle.std.proofs.Common.{◌≡◌, ℕ, Bool, true, false, List, [], ◌++◌, Option, Some, None, sym, ap, ◌∙◌, subst, append_assoc, append-nil, Result, Ok, Err}
use Rattle.std.specs.Prelude.{OnErr, OnOk, is_err}
use Rattle.std.specs.Io.KnownBytes.{Appends}
use Rattle.lf_io.proofs.Known.{Appends-more}
use Rattle.lf_server.specs.Pieces.{IsUnderWay, has_failed_since}
use Rattle.lf_server.proofs.Parts.{Front, first_front, front_after, front_after_it}

-- The waiting bytes are sent last.
pub under_sent : {T E : Type 0} (r : Result T E) (failed : Bool) (a b c : Option (List ℕ)) (text waiting : List ℕ) → failed ≡ false
    → IsUnderWay failed a b text waiting → OnErr r (Front b c waiting) → OnErr r (Front a c text)
under_sent r failed a b c text waiting healthy under last =
    let way : IsUnderWay false a b text waiting = subst (λ f. IsUnderWay f a b text waiting) healthy under in
    subst (λ t. OnErr r (Front a c t)) (sym way.1) (front_after r a b c way.0 waiting way.2 last)

-- After a failure, more text may follow that is not written.
pub under_failed : (failed : Bool) (a b : Option (List ℕ)) (text more waiting : List ℕ) → failed ≡ true → IsUnderWay failed a b text waiting
    → IsUnderWay failed a b (text ++ more) waiting
under_failed failed a b text more waiting bad under =
    let front : Front a b text = subst (λ f. IsUnderWay f a b text waiting) bad under in
    subst (λ f. IsUnderWay f a b (text ++ more) waiting) (sym bad) (first_front a b text more front)

-- The waiting bytes are sent, and then more.
pub under_both : {T E : Type 0} (r : Result T E) (a b c : Option (List ℕ)) (text waiting more : List ℕ) → IsUnderWay false a b text waiting
    → OnOk r (Appends b c (waiting ++ more)) → OnErr r (Front b c (waiting ++ more)) → IsUnderWay (is_err r) a c (text ++ more) []
under_both (Ok t) a b c text waiting more way whole front =
    let all : way.0 ++ (waiting ++ more) ≡ text ++ more = sym (append_assoc way.0 waiting more) ∙ ap (λ (l : List ℕ). l ++ more) (sym way.1) in
    (text ++ more, sym (append-nil (text ++ more)), subst (Appends a c) all (Appends-more a b c way.0 (waiting ++ more) way.2 whole))
under_both (Err e) a b c text waiting more way whole front =
    let all : way.0 ++ (waiting ++ more) ≡ text ++ more = sym (append_assoc way.0 waiting more) ∙ ap (λ (l : List ℕ). l ++ more) (sym way.1) in
    subst (Front a c) all (front_after_it a b c way.0 (waiting ++ more) way.2 front)

-- Whether a call has failed after that.
pub failed_both : {T E : Type 0} (r : Result T E) (start old new : Bool) → old ≡ start → OnOk r (new ≡ old) → OnErr r (new ≡ true)
    → new ≡ has_failed_since (is_err r) start
failed_both (Ok t) start old new same healthy bad = healthy ∙ same
failed_both (Err e) start old new same healthy bad = bad

-- Nothing is written yet: the buffer's contents wait.
pub under_begun : (failed : Bool) (a : Option (List ℕ)) (waiting : List ℕ) → failed ≡ false → IsUnderWay failed a a (waiting ++ []) waiting
under_begun failed a waiting fresh =
    subst (λ f. IsUnderWay f a a (waiting ++ []) waiting) (sym fresh) ([], append-nil waiting, appends_none a)
  where
    appends_none : (a : Option (List ℕ)) → Appends a a []
    appends_none None = tt
    appends_none (Some xs) = sym (append-nil xs)

pub failed_begun : (failed has : Bool) → failed ≡ false → has ≡ has_failed_since failed has
failed_begun failed has fresh = ap (λ (f : Bool). has_failed_since f has) (sym fresh)
