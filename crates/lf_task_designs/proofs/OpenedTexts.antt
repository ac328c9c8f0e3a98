-- What is kept of a text: two clauses of a result combined.
use Rattle.std.proofs.Common.{Err, Ok}
use Rattle.std.specs.Prelude.{IfOk, Result}

pub both_ok : {T E : Type 0} (r : Result T E) (P Q R : T → Type 0) → IfOk r P → IfOk r Q → ((x : T) → P x → Q x → R x) → IfOk r R
both_ok (Ok x) P Q R p q gives = gives x p q
both_ok (Err e) P Q R p q gives = p
