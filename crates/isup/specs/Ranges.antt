-- Values of the types that have a range: what lies outside is brought to the edge, or is none.
use Rattle.std.specs.Prelude.{ℕ, ◌+◌, ◌*◌, ◌/◌, ◌%◌, ◌≤◌, min, max, cond, List, [], ◌∷◌, Some, None, Option, nat_lt}
use Rattle.std.proofs.Common.{arith}
use Rattle.std.proofs.Math.Decide.{dec_le}
use Rattle.std.proofs.Math.Logic.{dite}
use Rattle.isup.specs.declared.message.Ranged.{Ranged}
use Rattle.isup.specs.declared.message.Circuit.{Circuit}

-- the number between low and high that is nearest to n
abbrev pub nearest : (low high : ℕ) → low ≤ high → ℕ → Ranged low high
nearest low high ordered n = record { value = max low (min n high); low = omega arith; high = omega arith }

-- the number n, if it is from low to high
abbrev pub in_range : (low high : ℕ) → ℕ → Option (Ranged low high)
in_range low high n = dite (dec_le low n) (λ l. dite (dec_le n high) (λ h. Some (record { value = n; low = l; high = h })) (λ _. None)) (λ _. None)

-- a cause is from 1 to 127
abbrev pub Cause : Type 0
Cause = Ranged 1 127

-- a count of diversions is from 1 to 5
abbrev pub Count : Type 0
Count = Ranged 1 5

-- an exchange is from 0 to 7
abbrev pub Exchange : Type 0
Exchange = Ranged 0 7

abbrev pub cause_of : ℕ → Cause
cause_of = nearest 1 127 (omega arith)

abbrev pub count_of : ℕ → Count
count_of = nearest 1 5 (omega arith)

abbrev pub exchange_of : ℕ → Exchange
exchange_of = nearest 0 7 (omega arith)

abbrev pub circuit_of : ℕ → ℕ → Circuit
circuit_of call leg = record { call = min call 63; leg = min leg 5; calls = omega arith; legs = omega arith }

abbrev pub cause_in : ℕ → Option Cause
cause_in = in_range 1 127

abbrev pub count_in : ℕ → Option Count
count_in = in_range 1 5

abbrev pub exchange_in : ℕ → Option Exchange
exchange_in = in_range 0 7

-- the circuit of a call from 0 to 63 and a leg from 0 to 5
abbrev pub circuit_in : ℕ → ℕ → Option Circuit
circuit_in call leg = cond (nat_lt 63 call) None (cond (nat_lt 5 leg) None (Some (circuit_of call leg)))

-- two octets, the low one first, worth 8 times the call and the leg
abbrev pub circuit_octets : Circuit → List ℕ
circuit_octets c = (8 * c.call + c.leg) % 256 ∷ (8 * c.call + c.leg) / 256 ∷ []

-- the circuit that two octets are worth
abbrev pub circuit_from : ℕ → ℕ → Option Circuit
circuit_from low high = circuit_in ((high * 256 + low) / 8) ((high * 256 + low) % 8)
