-- How many octets a message takes.
use Rattle.std.proofs.Common.{◌≡◌, ℕ, ◌+◌, ◌≤◌, Bool, true, false, List, [], ◌∷◌, ◌++◌, length, Some, None, Option, refl, arith}
use Rattle.std.proofs.lemmas.List.{length-append}
use Rattle.numbers.specs.declared.number.Number.{Number}
use Rattle.numbers.specs.Digits.{plain}
use Rattle.numbers.proofs.Contents.{content_short}
use Rattle.isup.specs.declared.message.Circuit.{Circuit}
use Rattle.isup.specs.declared.message.Restriction.{Restriction}
use Rattle.isup.specs.declared.message.Redirection.{Redirection}
use Rattle.isup.specs.declared.message.Notice.{Notice}
use Rattle.isup.specs.declared.message.Backward.{Backward}
use Rattle.isup.specs.declared.message.Message.{Message}
use Rattle.isup.specs.declared.message.Message.TheVariants.{InitialAddress, AddressComplete, CallProgress, Answer, Connect, Release}
use Rattle.isup.specs.Coding.{Parameter, encoded, optional_octets, behind}
use Rattle.encode.specs.Sending.{any_sent, redirection_sent, may_divert_sent, notice_sent, restriction_sent, backward_sent}
use Rattle.encode.specs.Writing.{written, parameters_size, optional_size, size_of}

length-encoded : (ps : List Parameter) → length (encoded ps) ≡ parameters_size ps
length-encoded [] = refl
length-encoded (p ∷ ps) =
    let a = length-append p.1 (encoded ps) in
    let b = length-encoded ps in
    omega arith

length_optional : (ps : List Parameter) → length (optional_octets (any_sent ps) ps) ≡ optional_size ps
length_optional [] = refl
length_optional (p ∷ ps) =
    let a = length-append (encoded (p ∷ ps)) (0 ∷ []) in
    let b = length-encoded (p ∷ ps) in
    omega arith

length_pointed : (v : List ℕ) (ps : List Parameter) → length (behind (Some v) (any_sent ps) ps) ≡ 3 + length v + optional_size ps
length_pointed v ps =
    let a = length-append v (optional_octets (any_sent ps) ps) in
    let b = length_optional ps in
    omega arith

-- the octets that are written are as many as the message takes
pub length-written : (c : Circuit) (m : Message Number) → length (written c m) ≡ size_of m
length-written c (InitialAddress s n r) = let a = length_pointed (plain n) (redirection_sent r) in omega arith
length-written c (AddressComplete l b) = let a = length_optional (backward_sent b) in omega arith
length-written c (CallProgress e b) = let a = length_optional (backward_sent b) in omega arith
length-written c (Answer r) = let a = length_optional (restriction_sent r) in omega arith
length-written c (Connect r) = let a = length_optional (restriction_sent r) in omega arith
length-written c (Release x) = refl

parameters_append : (ps qs : List Parameter) → parameters_size (ps ++ qs) ≡ parameters_size ps + parameters_size qs
parameters_append [] qs = omega arith
parameters_append (p ∷ ps) qs = let a = parameters_append ps qs in omega arith

optional_short : (ps : List Parameter) (n : ℕ) → parameters_size ps ≤ n → optional_size ps ≤ n + 1
optional_short [] n h = omega arith
optional_short (p ∷ ps) n h = omega arith

redirection_short : (r : Option (Redirection Number)) → parameters_size (redirection_sent r) ≤ 28
redirection_short (Some r) = omega (arith, content_short r.redirecting, content_short r.original)
redirection_short None = omega arith

may_divert_short : (b : Bool) → parameters_size (may_divert_sent b) ≤ 3
may_divert_short true = omega arith
may_divert_short false = omega arith

plain_short : (n : Number) → length (plain n) ≤ 10
plain_short n = content_short (record { number = n; restricted = false })

notice_short : (n : Option (Notice Number)) → parameters_size (notice_sent n) ≤ 18
notice_short (Some n) = omega (arith, plain_short n.number)
notice_short None = omega arith

restriction_short : (r : Option Restriction) → parameters_size (restriction_sent r) ≤ 3
restriction_short (Some r) = omega arith
restriction_short None = omega arith

backward_short : (b : Backward Number) → parameters_size (backward_sent b) ≤ 24
backward_short b =
    let m = may_divert_sent b.may_divert in
    let n = notice_sent b.notice in
    let r = restriction_sent b.restriction in
    omega
    (arith, parameters_append m (n ++ r), parameters_append n r, may_divert_short b.may_divert, notice_short b.notice, restriction_short b.restriction)

-- the longest message has 50 octets
pub message_short : (m : Message Number) → size_of m ≤ 50
message_short (InitialAddress s n r) = omega (arith, plain_short n, optional_short (redirection_sent r) 28 (redirection_short r))
message_short (AddressComplete l b) = omega (arith, optional_short (backward_sent b) 24 (backward_short b))
message_short (CallProgress e b) = omega (arith, optional_short (backward_sent b) 24 (backward_short b))
message_short (Answer r) = omega (arith, optional_short (restriction_sent r) 3 (restriction_short r))
message_short (Connect r) = omega (arith, optional_short (restriction_sent r) 3 (restriction_short r))
message_short (Release x) = omega arith
