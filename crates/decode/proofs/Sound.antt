-- Octets that are read as a message are a coding of it.
use Rattle.std.proofs.Common.{◌≡◌, ℕ, ◌+◌, ◌≤◌, true, false, ltb, leb, List, [], ◌∷◌, length, get_or, Some, None, Ok, Err, Option, ap, ◌∙◌, subst, arith}
use Rattle.std.proofs.lemmas.Bool.Decides.{nat_tests}
use Rattle.std.proofs.lemmas.Bool.{eqb-true, ltb-false}
use Rattle.numbers.specs.declared.number.Number.{Number}
use Rattle.numbers.specs.Digits.{plain}
use Rattle.numbers.specs.Reading.{read_number}
use Rattle.numbers.proofs.Contents.{passed_not}
use Rattle.isup.specs.declared.message.Circuit.{Circuit}
use Rattle.isup.specs.declared.message.Service.{Service}
use Rattle.isup.specs.declared.message.Redirection.{Redirection}
use Rattle.isup.specs.declared.message.Notice.{Notice}
use Rattle.isup.specs.declared.message.Backward.{Backward}
use Rattle.isup.specs.declared.message.Message.{Message}
use Rattle.isup.specs.declared.message.Message.TheVariants.{InitialAddress, AddressComplete, CallProgress, Answer, Connect, Release}
use Rattle.isup.specs.declared.row.Row.TheVariants as row
use Rattle.isup.specs.Rows.{has}
use Rattle.isup.specs.Ranges.{circuit_from, circuit_octets}
use Rattle.isup.specs.Codes.{service_code, status_of, status_code, event_of, event_code}
use Rattle.isup.specs.Coding.{Coded, if_there, restriction_octets, redirection_field, backward_field, field_of, row_of, head_of, variable_of}
use Rattle.isup.proofs.Coded.{code_of_found}
use Rattle.decode.specs.declared.fault.MessageFault.TheVariants as fault
use Rattle.decode.specs.declared.optional.Gathered.{Gathered}
use Rattle.decode.specs.Faults.{or_value_fault}
use Rattle.decode.specs.Values.{cause_from}
use Rattle.decode.specs.Optional.{number_at}
use Rattle.decode.specs.Messages.{octet_in, exact_in, variable_in, optional_in, tail_in, redirection_in, notice_in, service_in, initial_address_in, backward_in, address_complete_in, call_progress_in, answer_in, connect_in, release_in, message_in}
use Rattle.decode.specs.Reading.{OnlyCodingsAreRead}
use Rattle.decode.proofs.ValuesRead.{cause_octets, plain_octets}
use Rattle.decode.proofs.Fields.{gathered_field}
use Rattle.decode.proofs.Passed.{value_found, both, by_number}
use Rattle.decode.proofs.Behind.{octets_from, BehindRead, tail_read, with_variable}

octet_read : (xs : List ℕ) (at n : ℕ) → octet_in xs at ≡ Ok n → get_or xs at 0 ≡ n
octet_read xs at n e = let a = passed_not (leb (length xs) at) n (fault.Missing at) (Ok (get_or xs at 0)) e in cc a.1

exact_read : (xs : List ℕ) (at n : ℕ) (u : Unit {0}) → exact_in xs at n ≡ Ok u → get_or xs at 0 ≡ n
exact_read xs at n u e = grind (arith, nat_tests)

-- what stands under the names of a row is what the message calls for
redirection_fields :
    (g : Gathered) (len : ℕ) (r : Option (Redirection Number)) → redirection_in g len ≡ Ok r →
    (n : ℕ) → has row.Initial n ≡ true → gathered_field g n ≡ redirection_field r n
redirection_fields g len r e n k = grind (arith, nat_tests)

backward_fields :
    (g : Gathered) (len : ℕ) (m : Option (Notice Number)) → notice_in g len ≡ Ok m → (n : ℕ) → has row.Backward n ≡ true →
    gathered_field g n ≡ backward_field (record { may_divert = g.may_divert; notice = m; restriction = g.restriction }) n
backward_fields g len m e n k = grind (arith, nat_tests)

connected_fields : (g : Gathered) (n : ℕ) → has row.Connected n ≡ true → gathered_field g n ≡ if_there restriction_octets g.restriction
connected_fields g n k = ap (gathered_field g) (eqb-true n 0x40 k)

-- a message that was read, without its circuit
record MessageRead (xs : List ℕ) (m : Message Number) : Type 0 where
  pub gathered : Gathered
  pub head : octets_from (length (head_of m)) 2 xs ≡ head_of m
  pub fields : (n : ℕ) → has (row_of m) n ≡ true → gathered_field gathered n ≡ field_of m n
  pub rest : BehindRead (row_of m) xs (2 + length (head_of m)) (variable_of m) gathered

service_read : (xs : List ℕ) (s : Service) → service_in xs ≡ Ok s → octets_from 5 3 xs ≡ 0x00 ∷ 0x20 ∷ 0x01 ∷ 0x0A ∷ service_code s ∷ []
service_read xs s e = grind (arith, nat_tests)

initial_address : (xs : List ℕ) (m : Message Number) → get_or xs 2 0 ≡ 0x01 → initial_address_in xs ≡ Ok m → MessageRead xs m
initial_address xs m kind e =
    let s = both (service_in xs) _ m e in
    let v = both (variable_in xs 8) _ m s.next in
    let c = both (number_at 10 (read_number false v.value)) _ m v.next in
    let o = both (optional_in row.Initial xs 9 (11 + length v.value)) _ m c.next in
    let r = both (redirection_in o.value (length xs)) (λ r. Ok (InitialAddress s.value c.value.number r)) m o.next in
    let is : InitialAddress s.value c.value.number r.value ≡ m = cc r.next in
    let fixed = service_read xs s.value s.first in
    subst (MessageRead xs) is
    (record {
      gathered = o.value;
      head = cc;
      fields = redirection_fields o.value (length xs) r.value r.first;
      rest = with_variable row.Initial xs 8 v.value (plain c.value.number) o.value v.first o.first (plain_octets v.value 10 c.value c.first);
    })

-- the optional part of an address complete or a call progress
record BackwardRead (xs : List ℕ) (at : ℕ) (b : Backward Number) : Type 0 where
  pub gathered : Gathered
  pub fields : (n : ℕ) → has row.Backward n ≡ true → gathered_field gathered n ≡ backward_field b n
  pub rest : BehindRead row.Backward xs at None gathered

backward_read : (xs : List ℕ) (at : ℕ) (b : Backward Number) → backward_in xs at ≡ Ok b → BackwardRead xs at b
backward_read xs at b e =
    let g = both (tail_in row.Backward xs at) _ b e in
    let n = both (notice_in g.value (length xs)) (λ n. Ok (record { may_divert = g.value.may_divert; notice = n; restriction = g.value.restriction })) b g.next in
    let is : record { may_divert = g.value.may_divert; notice = n.value; restriction = g.value.restriction } ≡ b = cc n.next in
    subst (BackwardRead xs at) is
    (record { gathered = g.value; fields = backward_fields g.value (length xs) n.value n.first; rest = tail_read row.Backward xs at g.value g.first })

address_complete : (xs : List ℕ) (m : Message Number) → get_or xs 2 0 ≡ 0x06 → address_complete_in xs ≡ Ok m → MessageRead xs m
address_complete xs m kind e =
    let a = both (octet_in xs 3) _ m e in
    let s = both (or_value_fault (status_of a.value) 3) _ m a.next in
    let c = both (exact_in xs 4 0x14) _ m s.next in
    let b = both (backward_in xs 5) (λ b. Ok (AddressComplete s.value b)) m c.next in
    let is : AddressComplete s.value b.value ≡ m = cc b.next in
    let x3 : get_or xs 3 0 ≡ status_code s.value = octet_read xs 3 a.value a.first ∙ search (code_of_found, value_found (status_of a.value) 3 s.value s.first) in
    let x4 = exact_read xs 4 0x14 c.value c.first in
    let t = backward_read xs 5 b.value b.first in
    subst (MessageRead xs) is (record { gathered = t.gathered; head = cc; fields = t.fields; rest = t.rest })

call_progress : (xs : List ℕ) (m : Message Number) → get_or xs 2 0 ≡ 0x2C → call_progress_in xs ≡ Ok m → MessageRead xs m
call_progress xs m kind e =
    let a = both (octet_in xs 3) _ m e in
    let s = both (or_value_fault (event_of a.value) 3) _ m a.next in
    let b = both (backward_in xs 4) (λ b. Ok (CallProgress s.value b)) m s.next in
    let is : CallProgress s.value b.value ≡ m = cc b.next in
    let x3 : get_or xs 3 0 ≡ event_code s.value = octet_read xs 3 a.value a.first ∙ search (code_of_found, value_found (event_of a.value) 3 s.value s.first) in
    let t = backward_read xs 4 b.value b.first in
    subst (MessageRead xs) is (record { gathered = t.gathered; head = cc; fields = t.fields; rest = t.rest })

answer : (xs : List ℕ) (m : Message Number) → get_or xs 2 0 ≡ 0x09 → answer_in xs ≡ Ok m → MessageRead xs m
answer xs m kind e =
    let g = both (tail_in row.Connected xs 3) (λ g. Ok (Answer g.restriction)) m e in
    let is : Answer g.value.restriction ≡ m = cc g.next in
    subst (MessageRead xs) is
    (record { gathered = g.value; head = cc; fields = connected_fields g.value; rest = tail_read row.Connected xs 3 g.value g.first })

connect : (xs : List ℕ) (m : Message Number) → get_or xs 2 0 ≡ 0x07 → connect_in xs ≡ Ok m → MessageRead xs m
connect xs m kind e =
    let a = both (exact_in xs 3 0x04) _ m e in
    let b = both (exact_in xs 4 0x14) _ m a.next in
    let g = both (tail_in row.Connected xs 5) (λ g. Ok (Connect g.restriction)) m b.next in
    let is : Connect g.value.restriction ≡ m = cc g.next in
    let x3 = exact_read xs 3 0x04 a.value a.first in
    let x4 = exact_read xs 4 0x14 b.value b.first in
    subst (MessageRead xs) is
    (record { gathered = g.value; head = cc; fields = connected_fields g.value; rest = tail_read row.Connected xs 5 g.value g.first })

release : (xs : List ℕ) (m : Message Number) → get_or xs 2 0 ≡ 0x0C → release_in xs ≡ Ok m → MessageRead xs m
release xs m kind e =
    let v = both (variable_in xs 3) _ m e in
    let c = both (or_value_fault (cause_from v.value) 5) _ m v.next in
    let o = both (optional_in row.Bare xs 4 (6 + length v.value)) (λ _. Ok (Release c.value)) m c.next in
    let is : Release c.value ≡ m = cc o.next in
    subst (MessageRead xs) is
    (record {
      gathered = o.value;
      head = cc;
      fields = λ n k. cc;
      rest = with_variable row.Bare xs 3 v.value _ o.value v.first o.first
          (cause_octets v.value c.value (value_found (cause_from v.value) 5 c.value c.first));
    })

message_read : (xs : List ℕ) (m : Message Number) → message_in xs ≡ Ok m → MessageRead xs m
message_read xs m =
    by_number (get_or xs 2 0) 0x01 (initial_address_in xs) _ m (initial_address xs m)
    (by_number (get_or xs 2 0) 0x06 (address_complete_in xs) _ m (address_complete xs m)
    (by_number (get_or xs 2 0) 0x2C (call_progress_in xs) _ m (call_progress xs m)
    (by_number (get_or xs 2 0) 0x09 (answer_in xs) _ m (answer xs m)
    (by_number (get_or xs 2 0) 0x07 (connect_in xs) _ m (connect xs m)
    (by_number (get_or xs 2 0) 0x0C (release_in xs) (Err fault.Kind) m (release xs m) (λ e. cc))))))

circuit_read : (low high : ℕ) (c : Circuit) → low ≤ 255 → circuit_from low high ≡ Some c → low ∷ high ∷ [] ≡ circuit_octets c
circuit_read low high c octet e = grind (arith, nat_tests)

coded : (xs : List ℕ) (c : Circuit) (m : Message Number) → 3 ≤ length xs → length xs ≤ 255 → octets_from 2 0 xs ≡ circuit_octets c → MessageRead xs m → Coded c m xs
coded xs c m long short circuit t = grind (arith, nat_tests)

pub only_codings_are_read : OnlyCodingsAreRead
only_codings_are_read xs c m octets e =
    let a = passed_not (ltb (length xs) 3) (c, m) fault.Length _ e in
    let b = passed_not (ltb 255 (length xs)) (c, m) fault.Length _ a.1 in
    let d = both (or_value_fault (circuit_from (get_or xs 0 0) (get_or xs 1 0)) 0) _ (c, m) b.1 in
    let f = both (message_in xs) (λ m. Ok (d.value, m)) (c, m) d.next in
    let is : (d.value, f.value) ≡ (c, m) = cc f.next in
    let circuit = circuit_read (get_or xs 0 0) (get_or xs 1 0) d.value (octets 0) (value_found _ 0 d.value d.first) in
    subst (λ (x : Circuit × Message Number). Coded x.0 x.1 xs) is
    (coded xs d.value f.value (ltb-false (length xs) 3 a.0) (ltb-false 255 (length xs) b.0) circuit (message_read xs f.value f.first))
