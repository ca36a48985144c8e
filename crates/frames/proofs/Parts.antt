-- What octets are read as, by their parts.
use Rattle.std.proofs.Common.{◌≡◌, ℕ, ◌+◌, ◌-◌, ◌*◌, ◌/◌, ◌%◌, ◌<◌, ◌≤◌, true, cond, ltb, List, ◌∷◌, length, take, drop, is_some, is_ok, Some, None, Ok, Err, Option, Result, sym, refl, ap, ◌∙◌, subst, arith, slice_index}
use mathlib.Core.Bool.{false≢true}
use Rattle.std.specs.List.{slice_range}
use Rattle.std.specs.Result.{result_ok}
use Rattle.std.proofs.lemmas.List.{length-drop, length-take, take-take}
use Rattle.std.proofs.lemmas.Bool.Decides.{nat_tests}
use Rattle.numbers.specs.declared.number.Number.{Number}
use Rattle.numbers.specs.declared.refusal.Refusal.{Refusal}
use Rattle.isup.specs.declared.message.Circuit.{Circuit}
use Rattle.isup.specs.declared.message.Envelope.{Envelope}
use Rattle.isup.specs.declared.message.Message.{Message}
use Rattle.isup.specs.declared.message.Way.{Way}
use Rattle.isup.specs.Codes.{known, way_of, way_code}
use Rattle.isup.specs.Ranges.{Exchange, exchange_in}
use Rattle.isup.proofs.Coded.{found_ranged, found_way, number_of_ranged}
use Rattle.decode.specs.Messages.{read_message}
use Rattle.encode.specs.Writing.{AtFront, MessageWritten}
use Rattle.encode.proofs.Sizes.{message_short}
use Rattle.frames.specs.Framing.{end_in, message_octets, envelope_of_parts, envelope_in}
use Rattle.frames.specs.Frames.{the_some, envelope_of}
use Rattle.frames.specs.declared.frame.Frame.{Frame}

-- the parts of octets, whatever their length says
abbrev from_in : List ℕ → Option Exchange
from_in xs = exchange_in (slice_index xs 2)

abbrev to_in : List ℕ → Option Exchange
to_in xs = exchange_in (slice_index xs 3)

abbrev way_in : List ℕ → Option Way
way_in xs = way_of (slice_index xs 4)

abbrev message_in : List ℕ → Option (Circuit × Message Number)
message_in xs = result_ok (read_message (message_octets xs))

abbrev parts_in : List ℕ → Option (Envelope Number)
parts_in xs = envelope_of_parts (from_in xs) (to_in xs) (way_in xs) (message_in xs)

of_parts :
    (xs : List ℕ) (f t : Option Exchange) (w : Option Way) (q : Option (Circuit × Message Number)) →
    f ≡ from_in xs → t ≡ to_in xs → w ≡ way_in xs → q ≡ message_in xs → envelope_of_parts f t w q ≡ parts_in xs
of_parts xs f t w q a b c d = cc

-- the three tests of the length, over what is read behind them
abbrev guarded : {X : Type 0} → ℕ → ℕ → Option X → Option X
guarded n e r = cond (ltb n 5) None (cond (ltb e 5) None (cond (ltb n e) None r))

guarded_none : {X : Type 0} (n e : ℕ) (r : Option X) → None ≡ r → None ≡ guarded n e r
guarded_none n e r h = grind arith

missing : (xs : List ℕ) → None ≡ parts_in xs → None ≡ envelope_in xs
unfolding envelope_in
missing xs h = guarded_none (length xs) (end_in xs) (parts_in xs) h

guarded_out : {X : Type 0} (n e : ℕ) (r : Option X) → (5 ≤ n → 5 ≤ e → n < e) → None ≡ guarded n e r
guarded_out n e r h = grind (arith, nat_tests)

-- octets whose length is not as it must be
pub out_of_length : (xs : List ℕ) → (5 ≤ length xs → 5 ≤ end_in xs → length xs < end_in xs) → None ≡ envelope_in xs
unfolding envelope_in
out_of_length xs h = guarded_out (length xs) (end_in xs) (parts_in xs) h

guarded_in : {X : Type 0} (n e : ℕ) (r : Option X) → 5 ≤ n → 5 ≤ e → e ≤ n → r ≡ guarded n e r
guarded_in n e r a b c = grind (arith, nat_tests)

-- octets whose length is as it must be
of_length : (xs : List ℕ) → 5 ≤ length xs → 5 ≤ end_in xs → end_in xs ≤ length xs → parts_in xs ≡ envelope_in xs
unfolding envelope_in
of_length xs a b c = guarded_in (length xs) (end_in xs) (parts_in xs) a b c

guarded_some : {X : Type 0} (n e : ℕ) (r : Option X) (x : X) → guarded n e r ≡ Some x → r ≡ Some x
guarded_some n e r x h = grind arith

parts_read : (xs : List ℕ) (e : Envelope Number) → envelope_in xs ≡ Some e → parts_in xs ≡ Some e
unfolding envelope_in
parts_read xs e h = guarded_some (length xs) (end_in xs) (parts_in xs) e h

-- the two ends of an envelope of parts are among the parts
record Ends (f t : Option Exchange) (e : Envelope Number) : Type 0 where
  from : f ≡ Some e.from
  to : t ≡ Some e.to

ends : (f t : Option Exchange) (w : Option Way) (p : Option (Circuit × Message Number)) (e : Envelope Number) →
    envelope_of_parts f t w p ≡ Some e → Ends f t e
ends (Some f) (Some t) (Some w) (Some p) e h = record { from = cc; to = cc }
ends (Some f) (Some t) (Some w) None e h = cc
ends (Some f) (Some t) None p e h = cc
ends (Some f) None w p e h = cc
ends None t w p e h = cc

-- a part that is missing
pub no_from : (xs : List ℕ) → None ≡ from_in xs → None ≡ envelope_in xs
no_from xs e = missing xs (of_parts xs None _ _ _ e refl refl refl)

pub no_to : (xs : List ℕ) (f : Exchange) → Some f ≡ from_in xs → None ≡ to_in xs → None ≡ envelope_in xs
no_to xs f a e = missing xs (of_parts xs (Some f) None _ _ a e refl refl)

pub no_way : (xs : List ℕ) (f t : Exchange) → Some f ≡ from_in xs → Some t ≡ to_in xs → None ≡ way_in xs → None ≡ envelope_in xs
no_way xs f t a b e = missing xs (of_parts xs (Some f) (Some t) None _ a b e refl)

-- what stands behind the head
abbrev behind : List ℕ → List ℕ
behind xs = take (length xs - 5) (drop 5 xs)

-- fewer octets stand behind the head than the size says
pub cut_off :
    (xs : List ℕ) (s : ℕ) → slice_index xs 0 * 256 + slice_index xs 1 ≡ s + 3 → length (behind xs) < s → None ≡ envelope_in xs
cut_off xs s n h =
    out_of_length xs (λ a b. (let l = simp (length-take, length-drop) at h in omega arith))

-- octets of a size behind the head
pub record Sized (xs ys : List ℕ) (s : ℕ) : Type 0 where
  pub fits : s + 5 ≤ length xs
  pub are : ys ≡ take s (drop 5 xs)

pub sized :
    (xs ys : List ℕ) (s : ℕ) → 5 ≤ length xs → s ≤ length (behind xs) → ys ≡ slice_range (behind xs) 0 s → Sized xs ys s
sized xs ys s l h e =
    let n = simp (length-take, length-drop) at h in
    record {
      fits = omega arith;
      are = e ∙ ap (λ k. take k (behind xs)) (omega arith) ∙ take-take s (length xs - 5) (drop 5 xs) (omega arith);
    }

-- the parts where the length is as it must be
pub all_parts :
    (xs ys : List ℕ) (s : ℕ) (f t : Exchange) (w : Way) (q : Option (Circuit × Message Number)) →
    slice_index xs 0 * 256 + slice_index xs 1 ≡ s + 3 → Sized xs ys s → Some f ≡ from_in xs → Some t ≡ to_in xs → Some w ≡ way_in xs →
    q ≡ result_ok (read_message ys) → envelope_of_parts (Some f) (Some t) (Some w) q ≡ envelope_in xs
all_parts xs ys s f t w q n l a b c d =
    let fits = l.fits in
    let cut : s ≡ end_in xs - 5 = omega arith in
    of_parts xs (Some f) (Some t) (Some w) q a b c (d ∙ ap (λ k. result_ok (read_message k)) (l.are ∙ ap (λ k. take k (drop 5 xs)) cut))
    ∙ of_length xs (omega arith) (omega arith) (omega arith)

-- octets whose parts are those of an envelope
pub framed :
    (e : Envelope Number) (n h l f t w : ℕ) (ys : List ℕ) →
    h * 256 + l ≡ n + 3 → n ≤ length ys → f ≡ e.from.value → t ≡ e.to.value → w ≡ way_code e.way →
    read_message (take n ys) ≡ Ok (e.circuit, e.message) →
    envelope_in (h ∷ l ∷ f ∷ t ∷ w ∷ ys) ≡ Some e
framed e n h l f t w ys a b c d g r =
    sym (all_parts (h ∷ l ∷ f ∷ t ∷ w ∷ ys) (take n ys) n e.from e.to e.way (Some (e.circuit, e.message)) a (record { fits = omega arith; are = refl })
    (sym (found_ranged e.from) ∙ ap exchange_in (sym c)) (sym (found_ranged e.to) ∙ ap exchange_in (sym d)) (sym (found_way e.way) ∙ ap way_of (sym g))
    (ap result_ok (sym r)))

-- there is always room for a message behind the five octets
pub always_fits :
    (c : Circuit) (m : Message Number) (old new : List ℕ) (r : Result ℕ Refusal) → MessageWritten c m old new r → length old ≡ 59 → is_ok r ≡ true
always_fits c m old new (Ok n) h l = refl
always_fits c m old new (Err e) h l = absurd (let s = h.size in let k = message_short m in omega arith)

-- the five octets in front of a message that was written
pub written_framed :
    (e : Envelope Number) (n h l f t w : ℕ) (old new : List ℕ) (r : Result ℕ Refusal) → MessageWritten e.circuit e.message old new r → r ≡ Ok n →
    length new ≡ length old → length old ≡ 59 → h * 256 + l ≡ (3 + n) / 256 % 256 * 256 + (3 + n) % 256 → f ≡ e.from.value → t ≡ e.to.value → w ≡ way_code e.way →
    envelope_in (h ∷ l ∷ f ∷ t ∷ w ∷ new) ≡ Some e
written_framed e n h l f t w old new r m q same all z a b c =
    let front : AtFront e.circuit e.message old new n = subst (λ (v : Result ℕ Refusal). MessageWritten e.circuit e.message old new v) q m in
    let room = front.room in
    framed e n h l f t w new (omega arith) (omega arith) a b c front.read_back

the_some_is : {X : Type 0} (o : Option X) (h : is_some o ≡ true) → o ≡ Some (the_some o h)
the_some_is (Some y) h = refl
the_some_is None h = absurd (false≢true h)

-- what the octets of a frame are read as is what it holds
pub frame_reads : (f : Frame) → envelope_in f.octets ≡ Some (envelope_of f)
unfolding envelope_of
frame_reads f = the_some_is (envelope_in f.octets) f.coded

pub frame_holds : (f : Frame) (e : Envelope Number) → envelope_in f.octets ≡ Some e → envelope_of f ≡ e
frame_holds f e r = (let q = frame_reads f in cc)

-- the third and the fourth octet of a frame are the two ends of its envelope
pub frame_from : (f : Frame) → slice_index f.octets 2 ≡ (envelope_of f).from.value
frame_from f = number_of_ranged 0 7 _ _ (ends _ _ _ _ (envelope_of f) (parts_read f.octets (envelope_of f) (frame_reads f))).from

pub frame_to : (f : Frame) → slice_index f.octets 3 ≡ (envelope_of f).to.value
frame_to f = number_of_ranged 0 7 _ _ (ends _ _ _ _ (envelope_of f) (parts_read f.octets (envelope_of f) (frame_reads f))).to

-- what is known under a code is what is found under it
pub found_known : {A : Type 0} (n : ℕ) (o : Option A) → result_ok (known n o) ≡ o
found_known n None = refl
found_known n (Some x) = refl
