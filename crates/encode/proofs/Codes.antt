-- The octets that are written are a coding of the message.
use Rattle.std.proofs.Common.{◌≡◌, ℕ, Bool, true, false, ◌||◌, eqb, List, [], ◌∷◌, ◌++◌, length, take, drop, Some, None, Ok, Err, Option, Result, sym, refl, ap, ◌∙◌, subst, inl, inr, arith}
use Rattle.std.proofs.lemmas.List.{length-append, length-drop, take_at, drop_at}
use Rattle.std.proofs.lemmas.Bool.{eqb-true, or_cases, false≢true}
use Rattle.numbers.specs.declared.number.Number.{Number}
use Rattle.numbers.specs.declared.refusal.Refusal.{Refusal}
use Rattle.numbers.specs.Drafts.{Written}
use Rattle.isup.specs.declared.message.Circuit.{Circuit}
use Rattle.isup.specs.declared.message.Restriction.{Restriction}
use Rattle.isup.specs.declared.message.Redirection.{Redirection}
use Rattle.isup.specs.declared.message.Notice.{Notice}
use Rattle.isup.specs.declared.message.Backward.{Backward}
use Rattle.isup.specs.declared.message.Message.{Message}
use Rattle.isup.specs.declared.message.Message.TheVariants.{InitialAddress, AddressComplete, CallProgress, Answer, Connect, Release}
use Rattle.isup.specs.Rows.{has}
use Rattle.isup.specs.Coding.{Parameter, Named, contents, if_there, restriction_octets, redirection_field, backward_field, field_of, row_of, Coded}
use Rattle.decode.proofs.Complete.{every_coding_is_read}
use Rattle.encode.specs.Sending.{any_sent, redirection_sent, may_divert_sent, notice_sent, restriction_sent, backward_sent, sent}
use Rattle.encode.specs.Writing.{written, MessageWritten}
use Rattle.encode.proofs.Sizes.{length-written, message_short}

-- a name is one of these
abbrev one_of : ℕ → ℕ → List ℕ → Bool
one_of n x [] = eqb n x
one_of n x (y ∷ ys) = eqb n x || one_of n y ys

abbrev Each : (ℕ → Type 0) → List ℕ → Type 0
Each P [] = Unit {0}
Each P (x ∷ xs) = P x × Each P xs

-- what holds of each name of a row holds of a name that the row has
of_row : (P : ℕ → Type 0) (x : ℕ) (xs : List ℕ) → P x → Each P xs → (n : ℕ) → one_of n x xs ≡ true → P n
of_row P x [] p q n h = subst P (sym (eqb-true n x h)) p
of_row P x (y ∷ ys) p q n h =
    elim (or_cases (eqb n x) (one_of n y ys) h) [ inl e ↦ subst P (sym (eqb-true n x e)) p | inr e ↦ of_row P y ys q.0 q.1 n e ]

redirection_carries : (r : Option (Redirection Number)) (n : ℕ) → one_of n 0x0B (0x28 ∷ 0x13 ∷ []) ≡ true → contents n (redirection_sent r) ≡ redirection_field r n
redirection_carries (Some r) =
    of_row (λ n. contents n (redirection_sent (Some r)) ≡ redirection_field (Some r) n) 0x0B (0x28 ∷ 0x13 ∷ []) refl (refl, (refl, tt))
redirection_carries None = of_row (λ n. contents n (redirection_sent None) ≡ redirection_field None n) 0x0B (0x28 ∷ 0x13 ∷ []) refl (refl, (refl, tt))

-- under a name of the row stands what the backward parts call for
abbrev At : Bool → Option (Notice Number) → Option Restriction → ℕ → Type 0
At m o r n =
    contents n (may_divert_sent m ++ (notice_sent o ++ restriction_sent r)) ≡ backward_field (record { may_divert = m; notice = o; restriction = r }) n

at_each : (m : Bool) (o : Option (Notice Number)) (r : Option Restriction) → Each (At m o r) (0x29 ∷ 0x2C ∷ 0x36 ∷ 0x0C ∷ 0x40 ∷ [])
at_each true (Some o) (Some r) = (refl, (refl, (refl, (refl, (refl, tt)))))
at_each true (Some o) None = (refl, (refl, (refl, (refl, (refl, tt)))))
at_each true None (Some r) = (refl, (refl, (refl, (refl, (refl, tt)))))
at_each true None None = (refl, (refl, (refl, (refl, (refl, tt)))))
at_each false (Some o) (Some r) = (refl, (refl, (refl, (refl, (refl, tt)))))
at_each false (Some o) None = (refl, (refl, (refl, (refl, (refl, tt)))))
at_each false None (Some r) = (refl, (refl, (refl, (refl, (refl, tt)))))
at_each false None None = (refl, (refl, (refl, (refl, (refl, tt)))))

backward_carries : (b : Backward Number) (n : ℕ) → one_of n 0x29 (0x2C ∷ 0x36 ∷ 0x0C ∷ 0x40 ∷ []) ≡ true → contents n (backward_sent b) ≡ backward_field b n
backward_carries b =
    let e = at_each b.may_divert b.notice b.restriction in
    of_row (At b.may_divert b.notice b.restriction) 0x29 (0x2C ∷ 0x36 ∷ 0x0C ∷ 0x40 ∷ []) e.0 e.1

restriction_carries : (r : Option Restriction) (n : ℕ) → eqb n 0x40 ≡ true → contents n (restriction_sent r) ≡ if_there restriction_octets r
restriction_carries (Some r) = of_row (λ n. contents n (restriction_sent (Some r)) ≡ if_there restriction_octets (Some r)) 0x40 [] refl tt
restriction_carries None = λ n h. refl

-- each name of the row stands with the content that the message calls for, or not at all
carries : (m : Message Number) (n : ℕ) → has (row_of m) n ≡ true → contents n (sent m) ≡ field_of m n
carries (InitialAddress s c r) = redirection_carries r
carries (AddressComplete l b) = backward_carries b
carries (CallProgress e b) = backward_carries b
carries (Answer r) = restriction_carries r
carries (Connect r) = restriction_carries r
carries (Release c) = λ n h. refl

named_append : (ps qs : List Parameter) → Named ps → Named qs → Named (ps ++ qs)
named_append [] qs a b = b
named_append (p ∷ ps) qs a b = (a.0, named_append ps qs a.1 b)

redirection_named : (r : Option (Redirection Number)) → Named (redirection_sent r)
redirection_named (Some r) = ((λ e. omega arith), ((λ e. omega arith), ((λ e. omega arith), tt)))
redirection_named None = tt

may_divert_named : (b : Bool) → Named (may_divert_sent b)
may_divert_named true = ((λ e. omega arith), tt)
may_divert_named false = tt

notice_named : (o : Option (Notice Number)) → Named (notice_sent o)
notice_named (Some o) = ((λ e. omega arith), ((λ e. omega arith), ((λ e. omega arith), tt)))
notice_named None = tt

restriction_named : (r : Option Restriction) → Named (restriction_sent r)
restriction_named (Some r) = ((λ e. omega arith), tt)
restriction_named None = tt

backward_named : (b : Backward Number) → Named (backward_sent b)
backward_named b =
    named_append (may_divert_sent b.may_divert) (notice_sent b.notice ++ restriction_sent b.restriction) (may_divert_named b.may_divert)
    (named_append (notice_sent b.notice) (restriction_sent b.restriction) (notice_named b.notice) (restriction_named b.restriction))

sent_named : (m : Message Number) → Named (sent m)
sent_named (InitialAddress s c r) = redirection_named r
sent_named (AddressComplete l b) = backward_named b
sent_named (CallProgress e b) = backward_named b
sent_named (Answer r) = restriction_named r
sent_named (Connect r) = restriction_named r
sent_named (Release c) = tt

none_sent : (ps : List Parameter) → any_sent ps ≡ false → ps ≡ []
none_sent [] e = refl
none_sent (p ∷ ps) e = absurd (false≢true (sym e))

-- what is written for a message codes it
pub written_is_coded : (c : Circuit) (m : Message Number) → Coded c m (written c m)
written_is_coded c m =
    record {
      short = omega (arith, length-written c m, message_short m);
      there = any_sent (sent m);
      parameters = sent m;
      absent = none_sent (sent m);
      named = sent_named m;
      carries = carries m;
      same = refl;
    }

-- what memory holds once the octets of a message are written at its front
pub message_written :
    (c : Circuit) (m : Message Number) (old new : List ℕ) (r : Result ℕ Refusal) → length new ≡ length old → Written (written c m) old new r → MessageWritten c m old new r
message_written c m old new (Ok n) l w =
    let t : take n new ≡ written c m = ap (take n) w.1 ∙ take_at (written c m) (drop n old) n (sym w.0) in
    let d = length-drop n old in
    let k = length-append (written c m) (drop n old) in
    let coding : Coded c m (take n new) = subst (λ (l : List ℕ). Coded c m l) (sym t) (written_is_coded c m) in
    record {
      coded = coding;
      read_back = every_coding_is_read (take n new) c m coding;
      size = w.0 ∙ length-written c m;
      room = omega (arith, w.0, ap length w.1);
      rest = ap (drop n) w.1 ∙ drop_at (written c m) (drop n old) n (sym w.0);
    }
message_written c m old new (Err e) l w = record { refusal = w.0; size = omega (arith, w.1, length-written c m); same = w.2 }
