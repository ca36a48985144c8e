-- When octets are a coding of a message: said from the format, and not from a reader or a writer.
use Rattle.std.specs.Prelude.{◌≡◌, ℕ, ◌+◌, ◌*◌, ◌≤◌, Bool, true, false, cond, List, [], ◌∷◌, ◌++◌, length, Some, None, Option, ◌==◌, ◌≢◌}
use Rattle.numbers.specs.declared.number.Number.{Number}
use Rattle.numbers.specs.Digits.{content, plain}
use Rattle.isup.specs.declared.message.Circuit.{Circuit}
use Rattle.isup.specs.declared.message.RedirectionInformation.{RedirectionInformation}
use Rattle.isup.specs.declared.message.DiversionInformation.{DiversionInformation}
use Rattle.isup.specs.declared.message.Restriction.{Restriction}
use Rattle.isup.specs.declared.message.Redirection.{Redirection}
use Rattle.isup.specs.declared.message.Backward.{Backward}
use Rattle.isup.specs.declared.message.Message.{Message}
use Rattle.isup.specs.declared.message.Message.TheVariants.{InitialAddress, AddressComplete, CallProgress, Answer, Connect, Release}
use Rattle.isup.specs.declared.row.Row.{Row}
use Rattle.isup.specs.declared.row.Row.TheVariants as row
use Rattle.isup.specs.Rows.{has}
use Rattle.isup.specs.Ranges.{circuit_octets}
use Rattle.isup.specs.Codes.{service_code, reason_code, notification_code, indicator_code, restriction_code, status_code, event_code}

-- an optional parameter: its name and its content
abbrev pub Parameter : Type 0
Parameter = ℕ × List ℕ

-- each parameter as its name, its length and its content
abbrev pub encoded : List Parameter → List ℕ
encoded [] = []
encoded (p ∷ ps) = p.0 ∷ length p.1 ∷ (p.1 ++ encoded ps)

-- no parameter has the name 00, which closes the optional part
abbrev pub Named : List Parameter → Type 0
Named [] = Unit {0}
Named (p ∷ ps) = (p.0 ≢ 0) × Named ps

-- the contents that stand under a name
abbrev pub contents : ℕ → List Parameter → List (List ℕ)
contents n [] = []
contents n (p ∷ ps) = cond (n == p.0) (p.1 ∷ contents n ps) (contents n ps)

-- a part that may be absent, as the contents that it calls for: one or none
abbrev pub if_there : {X : Type 0} → (X → List ℕ) → Option X → List (List ℕ)
if_there f (Some x) = f x ∷ []
if_there f None = []

-- the indicator; then the count in the low three bits, a bit 0, and the reason in the high four
abbrev pub information_octets : RedirectionInformation → List ℕ
information_octets i = indicator_code i.indicator ∷ (reason_code i.reason * 16 + i.count.value) ∷ []

-- the notification option in the low three bits, the reason in the next four, and a bit 0
abbrev pub diversion_octets : DiversionInformation → List ℕ
diversion_octets d = (reason_code d.reason * 8 + notification_code d.notification) ∷ []

abbrev pub restriction_octets : Restriction → List ℕ
restriction_octets r = restriction_code r ∷ []

-- what stands under each name of an initial address
abbrev pub redirection_field : Option (Redirection Number) → ℕ → List (List ℕ)
redirection_field r n =
    cond (n == 0x0B) (if_there (λ x. content x.redirecting) r)
    (cond (n == 0x28) (if_there (λ x. content x.original) r)
    (if_there (λ x. information_octets x.information) r))

-- what stands under each name of an address complete or a call progress
abbrev pub backward_field : Backward Number → ℕ → List (List ℕ)
backward_field b n =
    cond (n == 0x29) (cond b.may_divert ((0x02 ∷ []) ∷ []) [])
    (cond (n == 0x2C) (if_there (λ x. 0xFB ∷ []) b.notice)
    (cond (n == 0x36) (if_there (λ x. diversion_octets x.information) b.notice)
    (cond (n == 0x0C) (if_there (λ x. plain x.number) b.notice)
    (if_there restriction_octets b.restriction))))

-- what stands under each name of a message's row
abbrev pub field_of : Message Number → ℕ → List (List ℕ)
field_of (InitialAddress s c r) n = redirection_field r n
field_of (AddressComplete l b) n = backward_field b n
field_of (CallProgress e b) n = backward_field b n
field_of (Answer r) n = if_there restriction_octets r
field_of (Connect r) n = if_there restriction_octets r
field_of (Release c) n = []

abbrev pub row_of : Message Number → Row
row_of (InitialAddress s c r) = row.Initial
row_of (AddressComplete l b) = row.Backward
row_of (CallProgress e b) = row.Backward
row_of (Answer r) = row.Connected
row_of (Connect r) = row.Connected
row_of (Release c) = row.Bare

-- the type octet and the fixed octets
abbrev pub head_of : Message Number → List ℕ
head_of (InitialAddress s c r) = 0x01 ∷ 0x00 ∷ 0x20 ∷ 0x01 ∷ 0x0A ∷ service_code s ∷ []
head_of (AddressComplete l b) = 0x06 ∷ status_code l ∷ 0x14 ∷ []
head_of (CallProgress e b) = 0x2C ∷ event_code e ∷ []
head_of (Answer r) = 0x09 ∷ []
head_of (Connect r) = 0x07 ∷ 0x04 ∷ 0x14 ∷ []
head_of (Release c) = 0x0C ∷ []

-- the content of the variable field, where the message has one
abbrev pub variable_of : Message Number → Option (List ℕ)
variable_of (InitialAddress s c r) = Some (plain c)
variable_of (AddressComplete l b) = None
variable_of (CallProgress e b) = None
variable_of (Answer r) = None
variable_of (Connect r) = None
variable_of (Release c) = Some (0x82 ∷ (0x80 + c.value) ∷ [])

-- the optional part: its parameters and the closing 00
abbrev pub optional_octets : Bool → List Parameter → List ℕ
optional_octets there ps = cond there (encoded ps ++ (0 ∷ [])) []

-- a pointer counts octets from itself: one to the variable field, if any, then one to the optional part, or 00 for none;
-- the variable field begins with its length
abbrev pub behind : Option (List ℕ) → Bool → List Parameter → List ℕ
behind None there ps = cond there 1 0 ∷ optional_octets there ps
behind (Some v) there ps = 2 ∷ cond there (2 + length v) 0 ∷ length v ∷ (v ++ optional_octets there ps)

-- the octets are a coding of the message on the circuit: some optional part, or none, in which each name of the message's row
-- stands with the content that the message calls for, or not at all, in any order and with foreign names in between
pub record Coded (c : Circuit) (m : Message Number) (octets : List ℕ) : Type 0 where
  pub short : length octets ≤ 255
  pub there : Bool
  pub parameters : List Parameter
  pub absent : there ≡ false → parameters ≡ []
  pub named : Named parameters
  pub carries : (n : ℕ) → has (row_of m) n ≡ true → contents n parameters ≡ field_of m n
  pub same : octets ≡ circuit_octets c ++ (head_of m ++ behind (variable_of m) there parameters)
