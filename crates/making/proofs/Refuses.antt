-- What was made, or was not, where the answer is known.
use Rattle.std.proofs.Common.{◌≡◌, Some, None, Ok, Err, Option, refl}
use Rattle.numbers.specs.declared.refusal.Refusal.{Refusal}
use Rattle.making.specs.Refusing.{or_refused}

pub was_made : {A : Type 0} (o : Option A) (x : A) → or_refused o ≡ Ok x → o ≡ Some x
was_made (Some y) x e = cc
was_made None x e = cc

pub was_refused : {A : Type 0} (o : Option A) (r : Refusal) → or_refused o ≡ Err r → o ≡ None
was_refused (Some y) r e = cc
was_refused None r e = refl
