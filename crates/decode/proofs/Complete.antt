-- Every coding of a message is read as that message.
use Rattle.std.proofs.Common.{◌≡◌, ℕ, ◌+◌, ◌-◌, ◌<◌, ◌≤◌, Bool, true, false, cond, ltb, leb, List, [], ◌∷◌, ◌++◌, length, get_or, take, drop, Some, None, Ok, Option, sym, refl, ap, ◌∙◌, subst, arith}
use Rattle.std.proofs.lemmas.Bool.{cond-false}
use Rattle.std.proofs.lemmas.Bool.Decides.{nat_tests}
use Rattle.std.proofs.lemmas.List.{length-append, take_at, drop_at, drop-drop}
use Rattle.std.specs.Option.{option_map}
use Rattle.numbers.specs.declared.number.Number.{Number}
use Rattle.numbers.specs.declared.number.Party.{Party}
use Rattle.numbers.specs.Digits.{plain}
use Rattle.numbers.specs.Reading.{read_number}
use Rattle.numbers.proofs.Contents.{complete}
use Rattle.isup.specs.declared.message.Service.{Service}
use Rattle.isup.specs.declared.message.LineStatus.{LineStatus}
use Rattle.isup.specs.declared.message.Event.{Event}
use Rattle.isup.specs.Ranges.{Cause}
use Rattle.isup.specs.declared.message.Circuit.{Circuit}
use Rattle.isup.specs.declared.message.Redirection.{Redirection}
use Rattle.isup.specs.declared.message.Notice.{Notice}
use Rattle.isup.specs.declared.message.Restriction.{Restriction}
use Rattle.isup.specs.declared.message.Backward.{Backward}
use Rattle.isup.specs.declared.message.Message.{Message}
use Rattle.isup.specs.declared.message.Message.TheVariants.{InitialAddress, AddressComplete, CallProgress, Answer, Connect, Release}
use Rattle.isup.specs.declared.row.Row.{Row}
use Rattle.isup.specs.declared.row.Row.TheVariants as row
use Rattle.isup.specs.Rows.{has}
use Rattle.isup.specs.Coding.{Parameter, Named, contents, if_there, restriction_octets, optional_octets, field_of, row_of, head_of, variable_of, behind, redirection_field, backward_field}
use Rattle.isup.specs.Ranges.{circuit_octets, circuit_from}
use Rattle.isup.specs.Codes.{status_code, status_of, event_code, event_of}
use Rattle.isup.proofs.Coded.{found_status, found_event}
use Rattle.decode.specs.declared.optional.Gathered.{Gathered}
use Rattle.decode.specs.Faults.{or_value_fault}
use Rattle.decode.specs.Values.{cause_from}
use Rattle.decode.specs.Optional.{number_at, nothing}
use Rattle.decode.specs.Messages.{octet_in, exact_in, variable_in, optional_in, tail_in, redirection_in, notice_in, service_in, backward_in, message_in, read_message}
use Rattle.decode.specs.Reading.{EveryCodingIsRead, OneMessageToACoding}
use Rattle.decode.proofs.Fields.{gathered_field}
use Rattle.decode.proofs.CompleteValues.{cause_read, circuit_read}
use Rattle.decode.proofs.CompleteOptional.{then_ok, Within, optional_read}

-- what is gathered of the optional parts of each message
abbrev redirection_gathered : Option (Redirection Number) → Gathered
redirection_gathered r = record {
  redirecting = option_map (λ x. x.redirecting) r;
  original = option_map (λ x. x.original) r;
  information = option_map (λ x. x.information) r;
  may_divert = false;
  announced = false;
  diversion = None;
  redirection = None;
  restriction = None;
}

abbrev backward_gathered : Bool → Option (Notice Number) → Option Restriction → Gathered
backward_gathered may n r = record {
  redirecting = None;
  original = None;
  information = None;
  may_divert = may;
  announced = elim n [ Some x ↦ true | None ↦ false ];
  diversion = option_map (λ x. x.information) n;
  redirection = option_map (λ x. x.number) n;
  restriction = r;
}

-- it stands under the names of the message's row, and nothing stands under the others
record Fits (row : Row) (t : Gathered) (field : ℕ → List (List ℕ)) : Type 0 where
  pub within : Within row t
  pub fields : (n : ℕ) → has row n ≡ true → gathered_field t n ≡ field n

initial_fits : (r : Option (Redirection Number)) → Fits row.Initial (redirection_gathered r) (redirection_field r)
initial_fits (Some x) = record { within = λ n k. grind (arith, nat_tests); fields = λ n k. grind (arith, nat_tests) }
initial_fits None = record { within = λ n k. grind (arith, nat_tests); fields = λ n k. grind (arith, nat_tests) }

backward_fits : (b : Backward Number) → Fits row.Backward (backward_gathered b.may_divert b.notice b.restriction) (backward_field b)
backward_fits b = at_notice b.notice refl
  where
    at_notice : (n : Option (Notice Number)) → b.notice ≡ n → Fits row.Backward (backward_gathered b.may_divert b.notice b.restriction) (backward_field b)
    at_notice (Some x) e = record { within = λ n k. grind (arith, nat_tests); fields = λ n k. grind (arith, nat_tests) }
    at_notice None e = record { within = λ n k. grind (arith, nat_tests); fields = λ n k. grind (arith, nat_tests) }

connected_fits : (r : Option Restriction) → Fits row.Connected (backward_gathered false None r) (λ n. if_there restriction_octets r)
connected_fits r = record { within = λ n k. grind (arith, nat_tests); fields = λ n k. grind (arith, nat_tests) }

bare_fits : Fits row.Bare nothing (λ n. [])
bare_fits = record { within = λ n k. grind (arith, nat_tests); fields = λ n k. grind (arith, nat_tests) }

redirection_whole : (r : Option (Redirection Number)) (n : ℕ) → redirection_in (redirection_gathered r) n ≡ Ok r
redirection_whole (Some x) n = refl
redirection_whole None n = refl

notice_whole : (may : Bool) (x : Option (Notice Number)) (r : Option Restriction) (n : ℕ) → notice_in (backward_gathered may x r) n ≡ Ok x
notice_whole may (Some x) r n = refl
notice_whole may None r n = refl

-- an optional part, or none, that carries the fields of a message
record Carried (row : Row) (field : ℕ → List (List ℕ)) (here : Bool) (qs : List Parameter) : Type 0 where
  pub absent : here ≡ false → qs ≡ []
  pub named : Named qs
  pub carries : (n : ℕ) → has row n ≡ true → contents n qs ≡ field n

carried_read :
    (row : Row) (t : Gathered) (field : ℕ → List (List ℕ)) (here : Bool) (qs : List Parameter) → Fits row t field → Carried row field here qs →
    (xs : List ℕ) (at end : ℕ) → at < end → get_or xs at 0 ≡ cond here (end - at) 0 → drop end xs ≡ optional_octets here qs → optional_in row xs at end ≡ Ok t
carried_read row t field here qs f c xs at end lt p e =
    optional_read row t xs at end here qs lt p e c.absent c.named f.within (λ n k. c.carries n k ∙ sym (f.fields n k))

tail_read :
    (row : Row) (t : Gathered) (field : ℕ → List (List ℕ)) (here : Bool) (qs : List Parameter) → Fits row t field → Carried row field here qs →
    (xs : List ℕ) (at : ℕ) → at < length xs → get_or xs at 0 ≡ cond here (at + 1 - at) 0 → drop (at + 1) xs ≡ optional_octets here qs → tail_in row xs at ≡ Ok t
tail_read row t field here qs f c xs at h p e =
    cond-false (leb (length xs) at) _ _ (grind (arith, nat_tests)) ∙ carried_read row t field here qs f c xs at (at + 1) (omega arith) p e

-- octets that are there
octet_read : (xs : List ℕ) (at : ℕ) → at < length xs → octet_in xs at ≡ Ok (get_or xs at 0)
octet_read xs at h = grind (arith, nat_tests)

exact_read : (xs : List ℕ) (at n : ℕ) → at < length xs → get_or xs at 0 ≡ n → exact_in xs at n ≡ Ok tt
exact_read xs at n h e = grind (arith, nat_tests)

variable_read :
    (xs v rest : List ℕ) (at : ℕ) → get_or xs at 0 ≡ 2 → get_or xs (at + 2) 0 ≡ length v → drop (at + 3) xs ≡ v ++ rest → at + 3 + length v ≤ length xs →
    variable_in xs at ≡ Ok v
variable_read xs v rest at p l e h =
    let cut : take (get_or xs (at + 2) 0) (drop (at + 3) xs) ≡ v = ap (take (get_or xs (at + 2) 0)) e ∙ take_at v rest (get_or xs (at + 2) 0) (sym l) in
    grind (arith, nat_tests)

-- behind a variable field
behind_variable : (xs v rest : List ℕ) (at : ℕ) → drop at xs ≡ v ++ rest → drop (at + length v) xs ≡ rest
behind_variable xs v rest at e = sym (drop-drop (length v) at xs) ∙ ap (drop (length v)) e ∙ drop_at v rest (length v) refl

-- the octets of a message on a circuit
abbrev octets_of : Circuit → Message Number → Bool → List Parameter → List ℕ
octets_of c m here qs = circuit_octets c ++ (head_of m ++ behind (variable_of m) here qs)

abbrev Read : Circuit → Bool → List Parameter → Message Number → Type 0
Read c here qs m = Carried (row_of m) (field_of m) here qs → message_in (octets_of c m here qs) ≡ Ok m

answer_read : (c : Circuit) (here : Bool) (qs : List Parameter) (r : Option Restriction) → Read c here qs (Answer r)
answer_read c here qs r k =
    then_ok (tail_in row.Connected (octets_of c (Answer r) here qs) 3) _ (backward_gathered false None r) _
    (tail_read row.Connected (backward_gathered false None r) _ here qs (connected_fits r) k (octets_of c (Answer r) here qs) 3 (omega arith) refl refl) refl

connect_read : (c : Circuit) (here : Bool) (qs : List Parameter) (r : Option Restriction) → Read c here qs (Connect r)
connect_read c here qs r k =
    let xs = octets_of c (Connect r) here qs in
    then_ok (exact_in xs 3 0x04) _ tt _ (exact_read xs 3 0x04 (omega arith) refl)
    (then_ok (exact_in xs 4 0x14) _ tt _ (exact_read xs 4 0x14 (omega arith) refl)
    (then_ok (tail_in row.Connected xs 5) _ (backward_gathered false None r) _
    (tail_read row.Connected (backward_gathered false None r) _ here qs (connected_fits r) k xs 5 (omega arith) refl refl) refl))

backward_read :
    (b : Backward Number) (here : Bool) (qs : List Parameter) → Carried row.Backward (backward_field b) here qs → (xs : List ℕ) (at : ℕ) → at < length xs →
    get_or xs at 0 ≡ cond here (at + 1 - at) 0 → drop (at + 1) xs ≡ optional_octets here qs → backward_in xs at ≡ Ok b
backward_read b here qs k xs at h p e =
    let t = backward_gathered b.may_divert b.notice b.restriction in
    then_ok (tail_in row.Backward xs at) _ t _ (tail_read row.Backward t _ here qs (backward_fits b) k xs at h p e)
    (then_ok (notice_in t (length xs)) _ b.notice _ (notice_whole b.may_divert b.notice b.restriction (length xs)) refl)

complete_read : (c : Circuit) (here : Bool) (qs : List Parameter) (l : LineStatus) (b : Backward Number) → Read c here qs (AddressComplete l b)
complete_read c here qs l b k =
    let xs = octets_of c (AddressComplete l b) here qs in
    then_ok (octet_in xs 3) _ (status_code l) _ (octet_read xs 3 (omega arith))
    (then_ok (or_value_fault (status_of (status_code l)) 3) _ l _ (ap (λ o. or_value_fault o 3) (found_status l))
    (then_ok (exact_in xs 4 0x14) _ tt _ (exact_read xs 4 0x14 (omega arith) refl)
    (then_ok (backward_in xs 5) _ b _ (backward_read b here qs k xs 5 (omega arith) refl refl) refl)))

progress_read : (c : Circuit) (here : Bool) (qs : List Parameter) (v : Event) (b : Backward Number) → Read c here qs (CallProgress v b)
progress_read c here qs v b k =
    let xs = octets_of c (CallProgress v b) here qs in
    then_ok (octet_in xs 3) _ (event_code v) _ (octet_read xs 3 (omega arith))
    (then_ok (or_value_fault (event_of (event_code v)) 3) _ v _ (ap (λ o. or_value_fault o 3) (found_event v))
    (then_ok (backward_in xs 4) _ b _ (backward_read b here qs k xs 4 (omega arith) refl refl) refl))

release_read : (c : Circuit) (here : Bool) (qs : List Parameter) (x : Cause) → Read c here qs (Release x)
release_read c here qs x k =
    let xs = octets_of c (Release x) here qs in
    let v = 0x82 ∷ (0x80 + x.value) ∷ [] in
    then_ok (variable_in xs 3) _ v _ (variable_read xs v (optional_octets here qs) 3 refl refl refl (omega arith))
    (then_ok (or_value_fault (cause_from v) 5) _ x _ (ap (λ o. or_value_fault o 5) (cause_read x))
    (then_ok (optional_in row.Bare xs 4 8) _ nothing _ (carried_read row.Bare nothing _ here qs bare_fits k xs 4 8 (omega arith) refl refl) refl))

service_read : (c : Circuit) (here : Bool) (qs : List Parameter) (s : Service) (n : Number) (r : Option (Redirection Number)) → service_in (octets_of c (InitialAddress s n r) here qs) ≡ Ok s
service_read c here qs s n r = grind (arith, nat_tests)

address_read : (c : Circuit) (here : Bool) (qs : List Parameter) (s : Service) (n : Number) (r : Option (Redirection Number)) → Read c here qs (InitialAddress s n r)
address_read c here qs s n r k =
    let xs = octets_of c (InitialAddress s n r) here qs in
    let v = plain n in
    let a = length-append v (optional_octets here qs) in
    let called : Party Number = record { number = n; restricted = false } in
    then_ok (service_in xs) _ s _ (service_read c here qs s n r)
    (then_ok (variable_in xs 8) _ v _ (variable_read xs v (optional_octets here qs) 8 refl refl refl (omega arith))
    (then_ok (number_at 10 (read_number false v)) _ called _ (ap (number_at 10) (complete false v called (record { marked = λ z. z; same = refl })))
    (then_ok (optional_in row.Initial xs 9 (11 + length v)) _ (redirection_gathered r) _
    (carried_read row.Initial (redirection_gathered r) _ here qs (initial_fits r) k xs 9 (11 + length v) (omega arith)
    (ap (λ (m : ℕ). cond here m 0) (let z : 2 + length v ≡ 11 + length v - 9 = omega arith in z)) (behind_variable xs v (optional_octets here qs) 11 refl))
    (then_ok (redirection_in (redirection_gathered r) (length xs)) _ r _ (redirection_whole r (length xs)) refl))))

message_read : (c : Circuit) (here : Bool) (qs : List Parameter) (m : Message Number) → Read c here qs m
message_read c here qs (InitialAddress s n r) k = address_read c here qs s n r k
message_read c here qs (AddressComplete l b) k = complete_read c here qs l b k
message_read c here qs (CallProgress v b) k = progress_read c here qs v b k
message_read c here qs (Answer r) k = answer_read c here qs r k
message_read c here qs (Connect r) k = connect_read c here qs r k
message_read c here qs (Release x) k = release_read c here qs x k

-- no message has fewer than three octets
long_enough : (c : Circuit) (m : Message Number) (here : Bool) (qs : List Parameter) → 3 ≤ length (octets_of c m here qs)
long_enough c (InitialAddress s n r) here qs = omega arith
long_enough c (AddressComplete l b) here qs = omega arith
long_enough c (CallProgress v b) here qs = omega arith
long_enough c (Answer r) here qs = omega arith
long_enough c (Connect r) here qs = omega arith
long_enough c (Release x) here qs = omega arith

octets_read :
    (c : Circuit) (m : Message Number) (here : Bool) (qs : List Parameter) → length (octets_of c m here qs) ≤ 255 → Carried (row_of m) (field_of m) here qs →
    read_message (octets_of c m here qs) ≡ Ok (c, m)
octets_read c m here qs h k =
    let xs = octets_of c m here qs in
    let l = long_enough c m here qs in
    cond-false (ltb (length xs) 3) _ _ (grind (arith, nat_tests)) ∙ cond-false (ltb 255 (length xs)) _ _ (grind (arith, nat_tests))
    ∙ then_ok (or_value_fault (circuit_from (get_or xs 0 0) (get_or xs 1 0)) 0) _ c _ (ap (λ o. or_value_fault o 0) (circuit_read c))
    (then_ok (message_in xs) _ m _ (message_read c here qs m k) refl)

pub every_coding_is_read : EveryCodingIsRead
every_coding_is_read octets c m k =
    subst (λ (xs : List ℕ). read_message xs ≡ Ok (c, m)) (sym k.same)
    (octets_read c m k.there k.parameters (subst (λ (xs : List ℕ). length xs ≤ 255) k.same k.short)
    (record { absent = k.absent; named = k.named; carries = k.carries }))

pub one_message : OneMessageToACoding
one_message octets c d m n k l =
    let e : Ok (c, m) ≡ Ok (d, n) = sym (every_coding_is_read octets c m k) ∙ every_coding_is_read octets d n l in
    let p : (c, m) ≡ (d, n) = cc e in
    (ap (λ (x : Circuit × Message Number). x.0) p, ap (λ (x : Circuit × Message Number). x.1) p)
