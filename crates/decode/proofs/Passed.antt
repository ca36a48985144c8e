-- What the steps of a reading answered that came out without a fault.
use Rattle.std.proofs.Common.{◌≡◌, ℕ, Bool, true, false, cond, eqb, Some, None, Ok, Err, Option, Result, sym, refl, ap, ◌∙◌, subst, inl, inr}
use Rattle.std.proofs.lemmas.Bool.Decides.{eqb_tells}
use Rattle.std.proofs.lemmas.Bool.{cond-true, cond-false}
use Rattle.isup.specs.declared.row.Row.{Row}
use Rattle.isup.specs.Rows.{has}
use Rattle.decode.specs.declared.fault.MessageFault.{MessageFault}
use Rattle.decode.specs.Faults.{then, or_value_fault}
use Rattle.decode.specs.Values.{and_then}

-- a value found behind a test, and one found after another
pub found_passed : {A : Type 0} (b : Bool) (o : Option A) (x : A) → cond b o None ≡ Some x → (b ≡ true) × (o ≡ Some x)
found_passed true o x e = (refl, e)
found_passed false o x e = cc

pub found_after : {A B : Type 0} (o : Option A) (f : A → Option B) (y : B) → and_then o f ≡ Some y → (x : A) × ((o ≡ Some x) × (f x ≡ Some y))
found_after (Some x) f y e = (x, (refl, e))
found_after None f y e = cc

pub value_found : {A : Type 0} (o : Option A) (place : ℕ) (x : A) → or_value_fault o place ≡ Ok x → o ≡ Some x
value_found (Some y) place x e = cc
value_found None place x e = cc

-- one reading after another
pub record Both {A B : Type 0} (r : Result A MessageFault) (f : A → Result B MessageFault) (y : B) : Type 0 where
  pub value : A
  pub first : r ≡ Ok value
  pub next : f value ≡ Ok y

pub both : {A B : Type 0} (r : Result A MessageFault) (f : A → Result B MessageFault) (y : B) → then r f ≡ Ok y → Both r f y
both (Ok x) f y e = record { value = x; first = refl; next = e }
both (Err g) f y e = cc

-- one of two readings, by a number
pub by_number : {A P : Type 0} (k n : ℕ) (r s : Result A MessageFault) (x : A) → (k ≡ n → r ≡ Ok x → P) → (s ≡ Ok x → P) → cond (eqb k n) r s ≡ Ok x → P
by_number k n r s x is not e =
    elim (eqb_tells k n) [ inl t ↦ is t.1 (sym (cond-true (eqb k n) _ _ t.0) ∙ e) | inr t ↦ not (sym (cond-false (eqb k n) _ _ t.0) ∙ e) ]

-- what holds of one name, and of every other, holds of each
pub by_name : (P : ℕ → Type 0) (n name : ℕ) → P name → ((n ≡ name → ⊥) → P n) → P n
by_name P n name here elsewhere = elim (eqb_tells n name) [ inl t ↦ subst P (sym t.1) here | inr t ↦ elsewhere t.1 ]

-- a name of a row is none that the row has not
pub other : (row : Row) (n m : ℕ) → has row n ≡ true → has row m ≡ false → eqb n m ≡ false
other row n m k f =
    elim (eqb_tells n m)
    [ inl t ↦ (let e = sym k ∙ ap (has row) t.1 ∙ f in cc) | inr t ↦ t.0 ]
