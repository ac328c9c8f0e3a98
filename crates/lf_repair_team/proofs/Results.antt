-- What holds for a result, from what holds in any case.
use Rattle.std.proofs.Common.{◌≡◌, ℕ, List, true, false, Option, None, Some, Result, Ok, Err, OnOk, OnErr, subst}
use Rattle.std.specs.Prelude.{All, IfOk, is_err}
use Rattle.std.proofs.lemmas.Option.{slice_get_within, get_or_from_slice_get}
use Rattle.lf_floor_model.specs.States.{FloorState, TeamState}
use Rattle.lf_floor_model.specs.Teams.{state_of, team_number}
use Rattle.lf_floor_model.proofs.Forms.{state_at}

pub ok_from : {T E : Type 0} (r : Result T E) (P : Type 0) → P → IfOk r (λ x. P)
ok_from (Ok x) P p = p
ok_from (Err e) P p = tt

pub ok_any : {T E : Type 0} (r : Result T E) (P : T → Type 0) → ((x : T) → P x) → IfOk r P
ok_any (Ok x) P p = p x
ok_any (Err e) P p = tt

pub on_ok_from : {T E : Type 0} (r : Result T E) (P : Type 0) → P → OnOk r P
on_ok_from (Ok x) P p = p
on_ok_from (Err e) P p = tt

pub err_from : {T E : Type 0} (r : Result T E) (P : Type 0) → P → OnErr r P
err_from (Ok x) P p = tt
err_from (Err e) P p = p

pub ok_then : {T E : Type 0} (r : Result T E) (A B : Type 0) → (A → B) → IfOk r (λ x. A) → IfOk r (λ x. B)
ok_then (Ok x) A B f a = f a
ok_then (Err e) A B f a = tt

pub ok_then_on : {T E : Type 0} (r : Result T E) (A B : Type 0) → (A → B) → IfOk r (λ x. A) → OnOk r B
ok_then_on (Ok x) A B f a = f a
ok_then_on (Err e) A B f a = tt

pub err_then : {T E : Type 0} (r : Result T E) (A B : Type 0) → (A → B) → OnErr r A → OnErr r B
err_then (Ok x) A B f a = tt
err_then (Err e) A B f a = f a

pub ok_weaker : {T E : Type 0} (r : Result T E) (P Q : T → Type 0) → ((x : T) → P x → Q x) → IfOk r P → IfOk r Q
ok_weaker (Ok x) P Q f p = f x p
ok_weaker (Err e) P Q f p = tt

-- what holds in any case, and what holds for the value
pub ok_with : {T E : Type 0} (r : Result T E) (P Q : T → Type 0) (A B : Type 0) → ((x : T) → P x → A → B → Q x) → IfOk r P → OnOk r A → OnOk r B → IfOk r Q
ok_with (Ok x) P Q A B f p a b = f x p a b
ok_with (Err e) P Q A B f p a b = tt

pub ok_is : {T E : Type 0} (r : Result T E) (P : Type 0) → is_err r ≡ false → OnOk r P → P
ok_is (Ok x) P e p = p
ok_is (Err e') P e p = absurd cc

pub err_is : {T E : Type 0} (r : Result T E) (P : Type 0) → is_err r ≡ true → OnErr r P → P
err_is (Ok x) P e p = absurd cc
err_is (Err e') P e p = p

-- what holds for each team holds for the one with this name
pub each_state : (P : TeamState → Type 0) (floor : FloorState) (team : List ℕ) (s : TeamState) → All P floor.teams → state_of floor team ≡ Some s → P s
each_state P floor team s all there = go (team_number floor.frame team) there where
  go : (o : Option ℕ) → state_at floor.teams o ≡ Some s → P s
  go None e = absurd cc
  go (Some number) e = subst P (get_or_from_slice_get floor.teams number s s e) (all number s (slice_get_within floor.teams number s e))
