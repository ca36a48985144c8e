-- The optional parameters that are sent with a message, and their order.
-- Any order is a coding of the same message, so this one is left open by what is promised of writing.
use Rattle.std.specs.Prelude.{ℕ, Bool, true, false, List, [], ◌∷◌, ◌++◌, Some, None, Option}
use Rattle.numbers.specs.declared.number.Number.{Number}
use Rattle.numbers.specs.Digits.{content, plain}
use Rattle.isup.specs.declared.message.Restriction.{Restriction}
use Rattle.isup.specs.declared.message.Redirection.{Redirection}
use Rattle.isup.specs.declared.message.Notice.{Notice}
use Rattle.isup.specs.declared.message.Backward.{Backward}
use Rattle.isup.specs.declared.message.Message.{Message}
use Rattle.isup.specs.declared.message.Message.TheVariants.{InitialAddress, AddressComplete, CallProgress, Answer, Connect, Release}
use Rattle.isup.specs.Coding.{Parameter, information_octets, diversion_octets, restriction_octets}

-- the octets of a part that may be absent
abbrev pub octets_if : {A : Type 0} → (A → List ℕ) → Option A → List ℕ
octets_if octets (Some part) = octets part
octets_if octets None = []

-- whether there is any parameter, and so an optional part
abbrev pub any_sent : List Parameter → Bool
any_sent [] = false
any_sent (p ∷ ps) = true

abbrev pub redirection_sent : Option (Redirection Number) → List Parameter
redirection_sent (Some r) = (0x0B, content r.redirecting) ∷ (0x28, content r.original) ∷ (0x13, information_octets r.information) ∷ []
redirection_sent None = []

abbrev pub may_divert_sent : Bool → List Parameter
may_divert_sent true = (0x29, 0x02 ∷ []) ∷ []
may_divert_sent false = []

abbrev pub notice_sent : Option (Notice Number) → List Parameter
notice_sent (Some n) = (0x2C, 0xFB ∷ []) ∷ (0x36, diversion_octets n.information) ∷ (0x0C, plain n.number) ∷ []
notice_sent None = []

abbrev pub restriction_sent : Option Restriction → List Parameter
restriction_sent (Some r) = (0x40, restriction_octets r) ∷ []
restriction_sent None = []

abbrev pub backward_sent : Backward Number → List Parameter
backward_sent b = may_divert_sent b.may_divert ++ (notice_sent b.notice ++ restriction_sent b.restriction)

abbrev pub sent : Message Number → List Parameter
sent (InitialAddress s c r) = redirection_sent r
sent (AddressComplete l b) = backward_sent b
sent (CallProgress e b) = backward_sent b
sent (Answer r) = restriction_sent r
sent (Connect r) = restriction_sent r
sent (Release c) = []

-- the optional parts of a message that has no others than the restriction
abbrev pub only_restriction : Option Restriction → Backward Number
only_restriction r = record { may_divert = false; notice = None; restriction = r }
