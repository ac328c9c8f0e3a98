-- What holds for a result, from what holds in any case.
use Rattle.std.proofs.Common.{Result, Ok, Err, OnErr}
use Rattle.std.specs.Prelude.{IfOk}

pub ok_then : {T E : Type 0} (r : Result T E) (A B : Type 0) → (A → B) → IfOk r (λ x. A) → IfOk r (λ x. B)
ok_then (Ok x) A B f a = f a
ok_then (Err e) A B f a = tt

pub err_then : {T E : Type 0} (r : Result T E) (A B : Type 0) → (A → B) → OnErr r A → OnErr r B
err_then (Ok x) A B f a = tt
err_then (Err e) A B f a = f a

pub ok_weaker : {T E : Type 0} (r : Result T E) (P Q : T → Type 0) → ((x : T) → P x → Q x) → IfOk r P → IfOk r Q
ok_weaker (Ok x) P Q f p = f x p
ok_weaker (Err e) P Q f p = tt
