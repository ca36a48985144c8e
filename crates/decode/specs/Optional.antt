-- What the optional part says: first its structure, then names met twice, then values.
use Rattle.std.specs.Prelude.{ℕ, Bool, true, false, cond, ◌||◌, List, [], ◌∷◌, Some, None, Ok, Err, Option, Result, ◌==◌, slice_index_or, slice_set}
use Rattle.numbers.specs.declared.number.Number.{Number}
use Rattle.numbers.specs.declared.number.Party.{Party}
use Rattle.numbers.specs.declared.number.NumberFault.{NumberFault}
use Rattle.numbers.specs.Reading.{read_number}
use Rattle.isup.specs.declared.message.RedirectionInformation.{RedirectionInformation}
use Rattle.isup.specs.declared.message.DiversionInformation.{DiversionInformation}
use Rattle.isup.specs.declared.message.Restriction.{Restriction}
use Rattle.isup.specs.declared.row.Row.{Row}
use Rattle.isup.specs.Rows.{has}
use Rattle.decode.specs.declared.fault.MessageFault.{MessageFault}
use Rattle.decode.specs.declared.fault.MessageFault.TheVariants as fault
use Rattle.decode.specs.declared.optional.Gathered.{Gathered}
use Rattle.decode.specs.declared.optional.Walk.{Walk}
use Rattle.decode.specs.Faults.{then, or_value_fault}
use Rattle.decode.specs.Values.{is_octet, information_in, diversion_in, restriction_in}
use Rattle.decode.specs.Parameters.{Part, parts_at}

abbrev pub member : ℕ → List ℕ → Bool
member n [] = false
member n (m ∷ ms) = n == m || member n ms

-- the place of the first name of the row that is met again
abbrev pub repeated : Row → List ℕ → List Part → Option ℕ
repeated row met [] = None
repeated row met (p ∷ ps) =
    cond (has row p.name) (cond (member p.name met) (Some p.place) (repeated row (p.name ∷ met) ps)) (repeated row met ps)

abbrev pub nothing : Gathered
nothing = record {
  redirecting = None;
  original = None;
  information = None;
  may_divert = false;
  announced = false;
  diversion = None;
  redirection = None;
  restriction = None;
}

-- a number's own fault stands inside the message's
abbrev pub number_at : ℕ → Result (Party Number × ℕ) NumberFault → Result (Party Number) MessageFault
number_at place (Ok p) = Ok p.0
number_at place (Err f) = Err (fault.Value place (Some f))

-- what is gathered, with one field set
abbrev pub with_redirecting : Gathered → Party Number → Gathered
with_redirecting g x = record { redirecting = Some x; original = g.original; information = g.information; may_divert = g.may_divert; announced = g.announced; diversion = g.diversion; redirection = g.redirection; restriction = g.restriction }

abbrev pub with_original : Gathered → Party Number → Gathered
with_original g x = record { redirecting = g.redirecting; original = Some x; information = g.information; may_divert = g.may_divert; announced = g.announced; diversion = g.diversion; redirection = g.redirection; restriction = g.restriction }

abbrev pub with_information : Gathered → RedirectionInformation → Gathered
with_information g x = record { redirecting = g.redirecting; original = g.original; information = Some x; may_divert = g.may_divert; announced = g.announced; diversion = g.diversion; redirection = g.redirection; restriction = g.restriction }

abbrev pub with_may_divert : Gathered → Gathered
with_may_divert g = record { redirecting = g.redirecting; original = g.original; information = g.information; may_divert = true; announced = g.announced; diversion = g.diversion; redirection = g.redirection; restriction = g.restriction }

abbrev pub with_announced : Gathered → Gathered
with_announced g = record { redirecting = g.redirecting; original = g.original; information = g.information; may_divert = g.may_divert; announced = true; diversion = g.diversion; redirection = g.redirection; restriction = g.restriction }

abbrev pub with_diversion : Gathered → DiversionInformation → Gathered
with_diversion g x = record { redirecting = g.redirecting; original = g.original; information = g.information; may_divert = g.may_divert; announced = g.announced; diversion = Some x; redirection = g.redirection; restriction = g.restriction }

abbrev pub with_redirection : Gathered → Party Number → Gathered
with_redirection g x = record { redirecting = g.redirecting; original = g.original; information = g.information; may_divert = g.may_divert; announced = g.announced; diversion = g.diversion; redirection = Some x.number; restriction = g.restriction }

abbrev pub with_restriction : Gathered → Restriction → Gathered
with_restriction g x = record { redirecting = g.redirecting; original = g.original; information = g.information; may_divert = g.may_divert; announced = g.announced; diversion = g.diversion; redirection = g.redirection; restriction = Some x }

-- a content that can be but one octet
abbrev pub octet_at : ℕ → List ℕ → ℕ → Gathered → Result Gathered MessageFault
octet_at place c n g = cond (is_octet c n) (Ok g) (Err (fault.Value place None))

-- the value of one parameter, beside those of others: only redirecting and original called numbers may be restricted
abbrev pub value_of : Gathered → Part → Result Gathered MessageFault
value_of g p =
    cond (p.name == 0x0B) (then (number_at p.place (read_number true p.content)) (λ x. Ok (with_redirecting g x)))
    (cond (p.name == 0x28) (then (number_at p.place (read_number true p.content)) (λ x. Ok (with_original g x)))
    (cond (p.name == 0x13) (then (or_value_fault (information_in p.content) p.place) (λ x. Ok (with_information g x)))
    (cond (p.name == 0x29) (octet_at p.place p.content 0x02 (with_may_divert g))
    (cond (p.name == 0x2C) (octet_at p.place p.content 0xFB (with_announced g))
    (cond (p.name == 0x36) (then (or_value_fault (diversion_in p.content) p.place) (λ x. Ok (with_diversion g x)))
    (cond (p.name == 0x0C) (then (number_at p.place (read_number false p.content)) (λ x. Ok (with_redirection g x)))
    (cond (p.name == 0x40) (then (or_value_fault (restriction_in p.content) p.place) (λ x. Ok (with_restriction g x)))
    (Ok g))))))))

-- the values of the row's parameters in their order, or the first fault; other names are passed over
abbrev pub collected : Row → Gathered → List Part → Result Gathered MessageFault
collected row g [] = Ok g
collected row g (p ∷ ps) = cond (has row p.name) (then (value_of g p) (λ h. collected row h ps)) (collected row g ps)

abbrev pub unless_repeated : Option ℕ → Result Gathered MessageFault → Result Gathered MessageFault
unless_repeated (Some place) r = Err (fault.Repeated place)
unless_repeated None r = r

abbrev pub optional_from : Row → List ℕ → ℕ → Result Gathered MessageFault
optional_from row octets at =
    elim (parts_at octets at) [
      | Ok ps ↦ unless_repeated (repeated row [] ps) (collected row nothing ps)
      | Err f ↦ Err f
    ]

-- The same by one walk: values up to the first fault among them, and the place of the first name met again.
abbrev pub start : Walk
start = record { gathered = nothing; fault = None; again = None }

abbrev pub keep_of : Walk → Result Gathered MessageFault → Walk
keep_of s (Ok g) = record { gathered = g; fault = s.fault; again = s.again }
keep_of s (Err f) = record { gathered = s.gathered; fault = Some f; again = s.again }

abbrev pub took_of : Walk → Part → Walk
took_of s p = elim s.fault [ Some f ↦ s | None ↦ keep_of s (value_of s.gathered p) ]

abbrev pub again_of : Walk → ℕ → Walk
again_of s place = elim s.again [ Some q ↦ s | None ↦ record { gathered = s.gathered; fault = s.fault; again = Some place } ]

abbrev pub add_of : Walk → Part → Bool → Walk
add_of s p met = cond met (again_of s p.place) (took_of s p)

abbrev pub walk_after : Row → List Bool → Walk → Part → Walk
walk_after row met s p = cond (has row p.name) (add_of s p (slice_index_or met p.name false)) s

abbrev pub met_after : Row → List Bool → Part → List Bool
met_after row met p = cond (has row p.name) (slice_set met p.name true) met

abbrev pub end_of : Walk → Result Gathered MessageFault
end_of s = elim s.again [ Some place ↦ Err (fault.Repeated place) | None ↦ elim s.fault [ Some f ↦ Err f | None ↦ Ok s.gathered ] ]
