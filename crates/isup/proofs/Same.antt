-- Values of the types that have a range are equal where their numbers are.
use Rattle.std.proofs.Common.{◌≡◌, ℕ, ◌≤◌, ◌<◌, Some, None, ap, sym, ◌∙◌, subst, arith}
use Rattle.std.proofs.Math.Decide.{dec_le}
use Rattle.std.proofs.Math.Logic.{dite, dif_pos, dif_neg}
use native.Mathlib.Bridge.{le_prop}
use Rattle.std.proofs.lemmas.Bool.Decides.{nat_tests}
use Rattle.isup.specs.declared.message.Ranged.{Ranged}
use Rattle.isup.specs.declared.message.Circuit.{Circuit}
use Rattle.isup.specs.Ranges.{circuit_of, in_range, circuit_in}

circuit_same : (a b : Circuit) → a.call ≡ b.call → a.leg ≡ b.leg → a ≡ b
circuit_same a b e f =
    subst (λ (w : ℕ). (l : w ≤ 63) (h : b.leg ≤ 5) → a ≡ record { call = w; leg = b.leg; calls = l; legs = h }) e
    (subst (λ (v : ℕ). (l : a.call ≤ 63) (h : v ≤ 5) → a ≡ record { call = a.call; leg = v; calls = l; legs = h }) f
    (λ l h. λ i. record { call = a.call; leg = a.leg; calls = le_prop a.calls l i; legs = le_prop a.legs h i })) b.calls b.legs

pub ranged_made : {low high : ℕ} (x : Ranged low high) → Some x ≡ in_range low high x.value
ranged_made {low = low} {high = high} x =
    sym (dif_pos (dec_le low x.value) le_prop x.low _ _ ∙ dif_pos (dec_le x.value high) le_prop x.high _ _)

pub none_below : (low high n : ℕ) → n < low → None ≡ in_range low high n
none_below low high n b = sym (dif_neg (dec_le low n) (λ l. omega arith) _ _)

pub none_above : (low high n : ℕ) → high < n → None ≡ in_range low high n
none_above low high n b =
    dite (dec_le low n) (λ l. sym (dif_pos (dec_le low n) le_prop l _ _ ∙ dif_neg (dec_le n high) (λ h. omega arith) _ _))
    (λ not. sym (dif_neg (dec_le low n) not _ _))

circuit_some : (c l : ℕ) → c ≤ 63 → l ≤ 5 → Some (circuit_of c l) ≡ circuit_in c l
circuit_some c l h g = grind (arith, nat_tests)

pub circuit_made : (x : Circuit) → Some x ≡ circuit_in x.call x.leg
circuit_made x =
    let lo = x.calls in
    let hi = x.legs in
    ap (λ (y : Circuit). Some y) (circuit_same x (circuit_of x.call x.leg) (omega arith) (omega arith)) ∙ circuit_some x.call x.leg lo hi
