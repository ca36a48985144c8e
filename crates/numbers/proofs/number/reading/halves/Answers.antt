use Rattle.std.proofs.Common.{◌≡◌, ℕ, ◌+◌, ◌*◌, ◌<◌, ◌≤◌, ◌≢◌, ◌⊎◌, List, length, get_or, take, set, sym, ap, ◌∙◌, subst, inl, inr, arith}
use lib.Bits.{bit_and}
use Rattle.std.proofs.lemmas.List.{length-set, get_or-set_same, get_or-set_other, get_or-take, get_or_past, length-take-le, take_all}
use Rattle.std.proofs.lemmas.Nat.{and_mask}
use Rattle.std.proofs.lemmas.Bool.{cases_lt}
use Rattle.std.proofs.lemmas.Bool.Decides.{eqb_tells}
use Rattle.numbers.specs.Reading.{unpack}
use Rattle.numbers.proofs.Halves.{length-unpack, low_half, high_half}
use Rattle.numbers.proofs.number.reading.halves.Goals as goal

-- one more place is written
written_next :
    (h ds : List ℕ) (n v : ℕ) → n < length h → n < length ds → v ≡ get_or ds n 0 → ((j : ℕ) → get_or h j 0 ≡ get_or (take n ds) j 0) →
    (j : ℕ) → get_or (set h n v) j 0 ≡ get_or (take (n + 1) ds) j 0
written_next h ds n v a b e f j =
    elim (eqb_tells j n) [
      | inl p ↦
          subst (λ (m : ℕ). get_or (set h n v) m 0 ≡ get_or (take (n + 1) ds) m 0) (sym p.1)
          (get_or-set_same h n v 0 a ∙ e ∙ sym (get_or-take (n + 1) ds n 0 (omega arith)))
      | inr p ↦ (let ne : j ≢ n = p.1 in get_or-set_other h n j v 0 ne ∙ f j ∙ elsewhere ne (cases_lt j n))
    ]
  where
    elsewhere : (j ≢ n) → (j < n) ⊎ (n ≤ j) → get_or (take n ds) j 0 ≡ get_or (take (n + 1) ds) j 0
    elsewhere ne (inl l) = get_or-take n ds j 0 l ∙ sym (get_or-take (n + 1) ds j 0 (omega arith))
    elsewhere ne (inr g) =
        let p = length-take-le n ds (omega arith) in
        let q = length-take-le (n + 1) ds (omega arith) in
        get_or_past (take n ds) j 0 (omega arith) ∙ sym (get_or_past (take (n + 1) ds) j 0 (omega arith))

pub loop-k-preserved : goal.loop-k-preserved
loop-k-preserved c =
    let os = c.args.octets.now in
    let k = c.loop-k.k in
    let h = c.loop-k.halves in
    let u = length-unpack os in
    let len = c.loop-k.invariant.0 in
    let low = written_next h (unpack os) (2 * k) _ (omega arith) (omega arith) (and_mask (get_or os k 0) 4 ∙ sym (low_half os k)) c.loop-k.invariant.1 in
    let more = written_next _ (unpack os) (2 * k + 1) _ (let l = length-set h (2 * k) (bit_and (get_or os k 0) 15) in omega arith) (omega arith) (sym (high_half os k)) low in
    let e : 2 * k + 1 + 1 ≡ 2 * (k + 1) = omega arith in
    (length-set _ (2 * k + 1) _ ∙ length-set h (2 * k) _ ∙ len, rw e at more)

pub returns-clause-each : goal.returns-clause-each
returns-clause-each c = λ j.
    let os = c.args.octets.now in
    c.loop-k.invariant.1 j ∙ ap (λ (l : List ℕ). get_or l j 0) (take_all (2 * c.loop-k.k) (unpack os) (omega (arith, length-unpack os)))
