-- What follows the fixed octets of a message that is read: the variable field, if any, and the optional part.
use Rattle.std.proofs.Common.{◌≡◌, ℕ, zero, suc, ◌+◌, ◌-◌, ◌<◌, ◌≤◌, Bool, true, false, cond, eqb, ltb, leb, List, [], ◌∷◌, ◌++◌, length, get_or, take, drop, Some, None, Ok, Err, Option, Result, sym, refl, ap, ◌∙◌, subst, arith}
use Rattle.std.proofs.lemmas.List.{drop_all, drop_more, length-take-le, length-drop, take-append-drop, drop-drop}
use Rattle.std.proofs.lemmas.Bool.{eqb-true, ltb-false, leb-false}
use Rattle.numbers.proofs.Contents.{passed, passed_not}
use Rattle.isup.specs.declared.row.Row.{Row}
use Rattle.isup.specs.Rows.{has}
use Rattle.isup.specs.Coding.{Parameter, Named, contents, optional_octets, behind}
use Rattle.decode.specs.declared.fault.MessageFault.{MessageFault}
use Rattle.decode.specs.declared.fault.MessageFault.TheVariants as fault
use Rattle.decode.specs.declared.optional.Gathered.{Gathered}
use Rattle.decode.specs.Parameters.{parts_at}
use Rattle.decode.specs.Optional.{optional_from, nothing, repeated, collected, unless_repeated}
use Rattle.decode.specs.Messages.{variable_in, optional_in, tail_in}
use Rattle.decode.proofs.Parts.{without_places, parts_sound}
use Rattle.decode.proofs.Fields.{gathered_field}
use Rattle.decode.proofs.Passed.{Both, both, by_number}
use Rattle.decode.proofs.Gathers.{carried, nothing_unmet}

-- n octets from a place on, one by one
abbrev pub octets_from : ℕ → ℕ → List ℕ → List ℕ
octets_from zero at xs = []
octets_from (suc n) at xs = get_or xs at 0 ∷ octets_from n (at + 1) xs

pub one_by_one : (n at : ℕ) (xs : List ℕ) → at + n ≤ length xs → drop at xs ≡ octets_from n at xs ++ drop (at + n) xs
one_by_one zero at xs h = ap (λ (m : ℕ). drop m xs) (let z : at ≡ at + 0 = omega arith in z)
one_by_one (suc n) at xs h =
    drop_more xs at 0 (omega arith)
    ∙ ap (λ (l : List ℕ). get_or xs at 0 ∷ l)
    (one_by_one n (at + 1) xs (omega arith) ∙ ap (λ (m : ℕ). octets_from n (at + 1) xs ++ drop m xs) (let z : at + 1 + n ≡ at + suc n = omega arith in z))

-- an optional part, or none, that carries what was gathered
pub record Carrier (r : Row) (g : Gathered) : Type 0 where
  pub there : Bool
  pub parameters : List Parameter
  pub absent : there ≡ false → parameters ≡ []
  pub named : Named parameters
  pub carries : (n : ℕ) → has r n ≡ true → contents n parameters ≡ gathered_field g n

-- its pointer and its octets
record OptionalRead (r : Row) (xs : List ℕ) (at end : ℕ) (g : Gathered) : Type 0 where
  pub part : Carrier r g
  pub pointer : get_or xs at 0 ≡ cond part.there (end - at) 0
  pub octets : drop end xs ≡ optional_octets part.there part.parameters

none_read :
    (r : Row) (xs : List ℕ) (at end : ℕ) (g : Gathered) → get_or xs at 0 ≡ 0 → cond (ltb end (length xs)) (Err (fault.Pointer end)) (Ok nothing) ≡ Ok g →
    OptionalRead r xs at end g
none_read r xs at end g z e =
    let a = passed_not (ltb end (length xs)) g (fault.Pointer end) (Ok nothing) e in
    let is : nothing ≡ g = cc a.1 in
    record {
      part = record {
        there = false;
        parameters = [];
        absent = λ _. refl;
        named = tt;
        carries = λ n k. sym (nothing_unmet r n refl k) ∙ ap (λ (x : Gathered). gathered_field x n) is;
      };
      pointer = z;
      octets = drop_all end xs (ltb-false end (length xs) a.0);
    }

parts_read :
    {A B : Type 0} (r : Result A MessageFault) (f : A → Result B MessageFault) (y : B) → elim r as (λ _. Result B MessageFault) [ Ok x ↦ f x | Err g ↦ Err g ] ≡ Ok y → Both r f y
parts_read (Ok x) f y e = both (Ok x) f y e
parts_read (Err g) f y e = cc

some_read :
    (r : Row) (xs : List ℕ) (at end : ℕ) (g : Gathered) → cond (eqb (get_or xs at 0) (end - at)) (optional_from r xs end) (Err (fault.Pointer at)) ≡ Ok g →
    OptionalRead r xs at end g
some_read r xs at end g e =
    let a = passed (eqb (get_or xs at 0) (end - at)) g (fault.Pointer at) (optional_from r xs end) e in
    let p = parts_read (parts_at xs end) (λ ps. unless_repeated (repeated r [] ps) (collected r nothing ps)) g a.1 in
    let s = parts_sound (length xs + 1) xs end p.value p.first in
    record {
      part = record { there = true; parameters = without_places p.value; absent = λ e. cc; named = s.1; carries = carried r g p.value p.next };
      pointer = eqb-true (get_or xs at 0) (end - at) a.0;
      octets = s.0;
    }

optional_read : (r : Row) (xs : List ℕ) (at end : ℕ) (g : Gathered) → optional_in r xs at end ≡ Ok g → OptionalRead r xs at end g
optional_read r xs at end g e = by_number (get_or xs at 0) 0 _ _ g (none_read r xs at end g) (some_read r xs at end g) e

-- what follows the fixed octets, from the first pointer on
pub record BehindRead (r : Row) (xs : List ℕ) (at : ℕ) (v : Option (List ℕ)) (g : Gathered) : Type 0 where
  pub part : Carrier r g
  pub within : at < length xs
  pub octets : drop at xs ≡ behind v part.there part.parameters

pub tail_read : (r : Row) (xs : List ℕ) (at : ℕ) (g : Gathered) → tail_in r xs at ≡ Ok g → BehindRead r xs at None g
tail_read r xs at g e =
    let a = passed_not (leb (length xs) at) g (fault.Missing at) (optional_in r xs at (at + 1)) e in
    let o = optional_read r xs at (at + 1) g a.1 in
    let inside = leb-false (length xs) at a.0 in
    let all = drop_more xs at 0 inside in
    let pointer = o.pointer in
    let apart : at + 1 - at ≡ 1 = omega arith in
    let rest = o.octets in
    record { part = o.part; within = inside; octets = cc }

-- the variable field: the pointer to it, its length, its content and what follows
record VariableRead (xs : List ℕ) (at : ℕ) (v : List ℕ) : Type 0 where
  pub pointer : get_or xs at 0 ≡ 2
  pub within : at + 3 + length v ≤ length xs
  pub octets : drop (at + 2) xs ≡ length v ∷ (v ++ drop (at + 3 + length v) xs)

variable_read : (xs : List ℕ) (at : ℕ) (v : List ℕ) → variable_in xs at ≡ Ok v → VariableRead xs at v
variable_read xs at v e =
    let a = passed_not (leb (length xs) at) v (fault.Missing at) _ e in
    let b = passed (eqb (get_or xs at 0) 2) v (fault.Pointer at) _ a.1 in
    let c = passed_not (leb (length xs) (at + 2)) v (fault.Missing (at + 2)) _ b.1 in
    let d = passed_not (ltb (length xs) (at + 3 + get_or xs (at + 2) 0)) v (fault.Missing (at + 2)) _ c.1 in
    let is : take (get_or xs (at + 2) 0) (drop (at + 3) xs) ≡ v = cc d.1 in
    let fits = ltb-false (length xs) (at + 3 + get_or xs (at + 2) 0) d.0 in
    let left = length-drop (at + 3) xs in
    let long : length v ≡ get_or xs (at + 2) 0 = ap length (sym is) ∙ length-take-le (get_or xs (at + 2) 0) (drop (at + 3) xs) (omega arith) in
    let all = drop_more xs (at + 2) 0 (leb-false (length xs) (at + 2) c.0) in
    let next : at + 2 + 1 ≡ at + 3 = omega arith in
    let cut = take-append-drop (get_or xs (at + 2) 0) (drop (at + 3) xs) in
    let rest = drop-drop (get_or xs (at + 2) 0) (at + 3) xs in
    record { pointer = eqb-true (get_or xs at 0) 2 b.0; within = omega arith; octets = cc }

pub with_variable :
    (r : Row) (xs : List ℕ) (at : ℕ) (v w : List ℕ) (g : Gathered) → variable_in xs at ≡ Ok v → optional_in r xs (at + 1) (at + 3 + length v) ≡ Ok g → v ≡ w →
    BehindRead r xs at (Some w) g
with_variable r xs at v w g e f is =
    let t = variable_read xs at v e in
    let o = optional_read r xs (at + 1) (at + 3 + length v) g f in
    let inside = t.within in
    let all = one_by_one 2 at xs (omega arith) in
    let first = t.pointer in
    let second = o.pointer in
    let apart : at + 3 + length v - (at + 1) ≡ 2 + length v = omega arith in
    let field = t.octets in
    let rest = o.octets in
    subst (λ (l : List ℕ). BehindRead r xs at (Some l) g) is (record { part = o.part; within = omega arith; octets = cc })
