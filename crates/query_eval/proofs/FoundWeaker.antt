-- What holds of what is found.
use Rattle.std.proofs.Common.{subst}
use Rattle.std.specs.Prelude.{◌≡◌, Option, None, Some, Result, IfOk, IfSome}
use Rattle.std.proofs.lemmas.Result.{IfOk-weaker}

pub some_weaker : {T : Type 0} (P Q : T → Type 0) → ((x : T) → P x → Q x) → (found : Option T) → IfSome found P → IfSome found Q
some_weaker P Q f None is = tt
some_weaker P Q f (Some x) is = f x is

pub found_weaker : {T E : Type 0} (P Q : T → Type 0) → ((x : T) → P x → Q x) → (result : Result (Option T) E) → IfOk result (λ found. IfSome found P) → IfOk result (λ found. IfSome found Q)
found_weaker P Q f result is = IfOk-weaker result (λ found. IfSome found P) (λ found. IfSome found Q) (λ found own. some_weaker P Q f found own) is

-- of three things that hold of it
pub some_with : {T : Type 0} (P Q R S : T → Type 0) (found : Option T) → IfSome found P → IfSome found Q → IfSome found R → ((x : T) → P x → Q x → R x → S x) → IfSome found S
some_with P Q R S None one two three f = tt
some_with P Q R S (Some x) one two three f = f x one two three

-- and of what was found
pub found_some : {T : Type 0} (P : T → Type 0) (found : Option T) (x : T) → found ≡ Some x → IfSome found P → P x
found_some {T} P found x is own = subst (λ (o : Option T). IfSome o P) is own
