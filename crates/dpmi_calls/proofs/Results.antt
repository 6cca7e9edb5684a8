-- What a result that is known says.
use Rattle.std.proofs.Common.{◌≡◌, subst}
use Rattle.std.specs.{Prelude.{Err, IfErr, IfOk, Ok, OnOk}, declared.result.Result.{Result}}

pub of_ok : {A E : Type 0} (r : Result A E) (P : A → Type 0) (a : A) → r ≡ Ok a → IfOk r P → P a
of_ok r P a is holds = subst (λ (x : Result _ _). IfOk x P) is holds

pub on_ok : {A E : Type 0} (r : Result A E) (P : Type 0) (a : A) → r ≡ Ok a → OnOk r P → P
on_ok r P a is holds = subst (λ (x : Result _ _). OnOk x P) is holds

pub of_err : {A E : Type 0} (r : Result A E) (P : E → Type 0) (e : E) → r ≡ Err e → IfErr r P → P e
of_err r P e is holds = subst (λ (x : Result _ _). IfErr x P) is holds
