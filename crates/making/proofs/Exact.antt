-- Parts make a message exactly where they are the parts of that message.
use Rattle.std.proofs.Common.{◌≡◌, ℕ, Bool, true, false, cond, eqb, Some, None, Option, Result, sym, refl, ap, ◌∙◌, subst}
use Rattle.std.specs.Option.{option_map}
use Rattle.making.specs.Refusing.{or_refused}
use Rattle.std.proofs.lemmas.Bool.{eqb-true}
use Rattle.std.proofs.lemmas.Option.{none-some, same_Some}
use Rattle.numbers.specs.declared.number.Number.{Number}
use Rattle.numbers.specs.declared.number.Party.{Party}
use Rattle.numbers.specs.declared.refusal.Refusal.{Refusal}
use Rattle.isup.specs.declared.message.Circuit.{Circuit}
use Rattle.isup.specs.declared.message.Restriction.{Restriction}
use Rattle.isup.specs.declared.message.RedirectionInformation.{RedirectionInformation}
use Rattle.isup.specs.declared.message.DiversionInformation.{DiversionInformation}
use Rattle.isup.specs.declared.message.Redirection.{Redirection}
use Rattle.isup.specs.declared.message.Notice.{Notice}
use Rattle.isup.specs.declared.message.Backward.{Backward}
use Rattle.isup.specs.declared.message.Message.{Message}
use Rattle.isup.specs.declared.message.Message.TheVariants.{InitialAddress, AddressComplete, CallProgress, Answer, Connect, Release}
use Rattle.isup.specs.Codes.{service_of, reason_of, notification_of, indicator_of, restriction_of, status_of, event_of, restriction_code}
use Rattle.isup.specs.Ranges.{cause_in, count_in, circuit_in}
use Rattle.isup.proofs.Coded.{code_of_service, code_of_reason, code_of_notification, code_of_indicator, code_of_restriction, code_of_status, code_of_event, found_service, found_reason, found_notification, found_indicator, found_restriction, found_status, found_event, found_ranged, found_circuit, number_of_ranged, numbers_of_circuit}
use Rattle.making.specs.declared.parts.Mandatory.{Mandatory}
use Rattle.making.specs.declared.parts.RawInformation.{RawInformation}
use Rattle.making.specs.declared.parts.RawRedirection.{RawRedirection}
use Rattle.making.specs.declared.parts.RawDiversion.{RawDiversion}
use Rattle.making.specs.declared.parts.RawNotice.{RawNotice}
use Rattle.making.specs.declared.parts.Optional.{Optional}
use Rattle.making.specs.declared.parts.Parts.{Parts}
use Rattle.making.specs.Parts.{kind_of, mandatory_of, optional_of, raw_information, raw_diversion, raw_redirection, raw_notice, parts_of, Made}
use Rattle.making.specs.Making.{takes, lacks, information_in, redirection_from, redirection_in, diversion_in, notice_from, notice_in, restriction_in, optional_in, backward_in, restriction_alone, initial_in, complete_in, progress_in, connected_in, release_in, message_in, made_from}

takes_some : {A B : Type 0} (o : Option A) (f : A → Option B) (y : B) → takes o f ≡ Some y → (x : A) × (o ≡ Some x) × (f x ≡ Some y)
takes_some (Some x) f y e = (x, refl, e)
takes_some None f y e = absurd (none-some _ e)

takes_at : {A B : Type 0} {o : Option A} {x : A} (f : A → Option B) → o ≡ Some x → takes o f ≡ f x
takes_at f e = ap (λ o. takes o f) e

lacks_some : {A B : Type 0} (o : Option A) (r : Option B) (y : B) → lacks o r ≡ Some y → (o ≡ None) × (r ≡ Some y)
lacks_some None r y e = (refl, e)
lacks_some (Some x) r y e = absurd (none-some _ e)

unless_some : {B : Type 0} (b : Bool) (r : Option B) (y : B) → cond b None r ≡ Some y → (b ≡ false) × (r ≡ Some y)
unless_some false r y e = (refl, e)
unless_some true r y e = absurd (none-some _ e)

information_sound : (i : RawInformation) (x : RedirectionInformation) → information_in i ≡ Some x → i ≡ raw_information x
information_sound i x e =
    let a = takes_some (indicator_of i.indicator) _ x e in
    let b = takes_some (count_in i.count) _ x a.2 in
    let d = takes_some (reason_of i.reason) _ x b.2 in
    let ia = code_of_indicator _ _ a.1 in
    let ib = number_of_ranged _ _ _ _ b.1 in
    let id = code_of_reason _ _ d.1 in
    (λ k. record { indicator = ia k; count = ib k; reason = id k }) ∙ ap raw_information (same_Some _ _ d.2)

information_again : (x : RedirectionInformation) → information_in (raw_information x) ≡ Some x
information_again x = takes_at _ (found_indicator x.indicator) ∙ takes_at _ (found_ranged x.count) ∙ takes_at _ (found_reason x.reason)

redirection_sound :
    (a b : Option (Party Number)) (i : Option RawInformation) (r : Option (Redirection Number)) → redirection_from a b i ≡ Some r →
    ◌≡◌ {A = RawRedirection} (record { redirecting = a; original = b; information = i }) (raw_redirection r)
redirection_sound None None None r e = ap raw_redirection (same_Some _ _ e)
redirection_sound None None (Some i) r e = absurd (none-some _ e)
redirection_sound None (Some b) i r e = absurd (none-some _ e)
redirection_sound (Some a) None i r e = absurd (none-some _ e)
redirection_sound (Some a) (Some b) None r e = absurd (none-some _ e)
redirection_sound (Some a) (Some b) (Some i) r e =
    let x = takes_some (information_in i) _ r e in
    let s = information_sound i x.0 x.1 in
    (λ k. record { redirecting = Some a; original = Some b; information = Some (s k) }) ∙ ap raw_redirection (same_Some _ _ x.2)

redirection_again : (r : Option (Redirection Number)) → redirection_in (raw_redirection r) ≡ Some r
redirection_again None = refl
redirection_again (Some r) = takes_at _ (information_again r.information)

diversion_sound : (d : RawDiversion) (x : DiversionInformation) → diversion_in d ≡ Some x → d ≡ raw_diversion x
diversion_sound d x e =
    let a = takes_some (notification_of d.notification) _ x e in
    let b = takes_some (reason_of d.reason) _ x a.2 in
    let ia = code_of_notification _ _ a.1 in
    let ib = code_of_reason _ _ b.1 in
    (λ k. record { notification = ia k; reason = ib k }) ∙ ap raw_diversion (same_Some _ _ b.2)

diversion_again : (x : DiversionInformation) → diversion_in (raw_diversion x) ≡ Some x
diversion_again x = takes_at _ (found_notification x.notification) ∙ takes_at _ (found_reason x.reason)

notice_sound :
    (t : Bool) (d : Option RawDiversion) (n : Option Number) (r : Option (Notice Number)) → notice_from t d n ≡ Some r →
    ◌≡◌ {A = RawNotice} (record { announced = t; diversion = d; number = n }) (raw_notice r)
notice_sound false None None r e = ap raw_notice (same_Some _ _ e)
notice_sound false None (Some n) r e = absurd (none-some _ e)
notice_sound false (Some d) n r e = absurd (none-some _ e)
notice_sound true None n r e = absurd (none-some _ e)
notice_sound true (Some d) None r e = absurd (none-some _ e)
notice_sound true (Some d) (Some n) r e =
    let x = takes_some (diversion_in d) _ r e in
    let s = diversion_sound d x.0 x.1 in
    (λ k. record { announced = true; diversion = Some (s k); number = Some n }) ∙ ap raw_notice (same_Some _ _ x.2)

notice_again : (r : Option (Notice Number)) → notice_in (raw_notice r) ≡ Some r
notice_again None = refl
notice_again (Some r) = takes_at _ (diversion_again r.information)

restriction_sound : (o : Option ℕ) (r : Option Restriction) → restriction_in o ≡ Some r → o ≡ option_map restriction_code r
restriction_sound None r e = ap (option_map restriction_code) (same_Some _ _ e)
restriction_sound (Some n) r e =
    let x = takes_some (restriction_of n) _ r e in
    ap (λ (v : ℕ). Some v) (code_of_restriction n x.0 x.1) ∙ ap (option_map restriction_code) (same_Some _ _ x.2)

restriction_again : (r : Option Restriction) → restriction_in (option_map restriction_code r) ≡ Some r
restriction_again None = refl
restriction_again (Some r) = takes_at _ (found_restriction r)

-- the optional parts, and the raw ones that they stand for
record Optionals (p : Parts) (o : Optional) : Type 0 where
  redirections : p.redirection ≡ raw_redirection o.redirection
  diverts : p.may_divert ≡ o.may_divert
  notices : p.notice ≡ raw_notice o.notice
  restrictions : p.restriction ≡ option_map restriction_code o.restriction

optional_sound : (p : Parts) (o : Optional) → optional_in p ≡ Some o → Optionals p o
optional_sound p o e =
    let a = takes_some (redirection_in p.redirection) _ o e in
    let b = takes_some (notice_in p.notice) _ o a.2 in
    let d = takes_some (restriction_in p.restriction) _ o b.2 in
    subst (λ (x : Optional). Optionals p x) (same_Some _ _ d.2) (record {
      redirections = redirection_sound p.redirection.redirecting p.redirection.original p.redirection.information a.0 a.1;
      diverts = refl;
      notices = notice_sound p.notice.announced p.notice.diversion p.notice.number b.0 b.1;
      restrictions = restriction_sound p.restriction d.0 d.1;
    })

optional_again : (c : Circuit) (m : Message Number) → optional_in (parts_of c m) ≡ Some (optional_of m)
optional_again c m =
    takes_at _ (redirection_again (optional_of m).redirection) ∙ takes_at _ (notice_again (optional_of m).notice) ∙ takes_at _ (restriction_again (optional_of m).restriction)

-- the type octet, the mandatory parts and the optional parts are those of the message
record Row (k : ℕ) (n : Mandatory) (o : Optional) (m : Message Number) : Type 0 where
  kinds : k ≡ kind_of m
  mandatories : n ≡ mandatory_of m
  optionals : o ≡ optional_of m

initial_sound : (n : Mandatory) (o : Optional) (m : Message Number) → initial_in n o ≡ Some m → Row 0x01 n o m
initial_sound n o m e =
    let a = takes_some n.service _ m e in
    let b = takes_some n.called _ m a.2 in
    let s = lacks_some n.status _ m b.2 in
    let v = lacks_some n.event _ m s.1 in
    let u = lacks_some n.cause _ m v.1 in
    let d = unless_some o.may_divert _ m u.1 in
    let t = lacks_some o.notice _ m d.1 in
    let r = lacks_some o.restriction _ m t.1 in
    let x = takes_some (service_of a.0) _ m r.1 in
    let coded : n.service ≡ Some _ = a.1 ∙ ap (λ (z : ℕ). Some z) (code_of_service a.0 x.0 x.1) in
    subst (λ (y : Message Number). Row 0x01 n o y) (same_Some _ _ x.2) (record {
      kinds = refl;
      mandatories = λ i. record { service = coded i; called = b.1 i; status = s.0 i; event = v.0 i; cause = u.0 i };
      optionals = λ i. record { redirection = o.redirection; may_divert = d.0 i; notice = t.0 i; restriction = r.0 i };
    })

backward_sound : (o : Optional) (b : Backward Number) → backward_in o ≡ Some b → o ≡ record { redirection = None; may_divert = b.may_divert; notice = b.notice; restriction = b.restriction }
backward_sound o b e =
    let a = lacks_some o.redirection _ b e in
    let s = same_Some _ _ a.1 in
    λ i. record { redirection = a.0 i; may_divert = (s i).may_divert; notice = (s i).notice; restriction = (s i).restriction }

complete_sound : (n : Mandatory) (o : Optional) (m : Message Number) → complete_in n o ≡ Some m → Row 0x06 n o m
complete_sound n o m e =
    let a = lacks_some n.service _ m e in
    let b = lacks_some n.called _ m a.1 in
    let s = takes_some n.status _ m b.1 in
    let v = lacks_some n.event _ m s.2 in
    let u = lacks_some n.cause _ m v.1 in
    let x = takes_some (status_of s.0) _ m u.1 in
    let y = takes_some (backward_in o) _ m x.2 in
    let coded : n.status ≡ Some _ = s.1 ∙ ap (λ (z : ℕ). Some z) (code_of_status s.0 x.0 x.1) in
    subst (λ (y : Message Number). Row 0x06 n o y) (same_Some _ _ y.2) (record {
      kinds = refl;
      mandatories = λ i. record { service = a.0 i; called = b.0 i; status = coded i; event = v.0 i; cause = u.0 i };
      optionals = backward_sound o y.0 y.1;
    })

progress_sound : (n : Mandatory) (o : Optional) (m : Message Number) → progress_in n o ≡ Some m → Row 0x2C n o m
progress_sound n o m e =
    let a = lacks_some n.service _ m e in
    let b = lacks_some n.called _ m a.1 in
    let s = lacks_some n.status _ m b.1 in
    let v = takes_some n.event _ m s.1 in
    let u = lacks_some n.cause _ m v.2 in
    let x = takes_some (event_of v.0) _ m u.1 in
    let y = takes_some (backward_in o) _ m x.2 in
    let coded : n.event ≡ Some _ = v.1 ∙ ap (λ (z : ℕ). Some z) (code_of_event v.0 x.0 x.1) in
    subst (λ (y : Message Number). Row 0x2C n o y) (same_Some _ _ y.2) (record {
      kinds = refl;
      mandatories = λ i. record { service = a.0 i; called = b.0 i; status = s.0 i; event = coded i; cause = u.0 i };
      optionals = backward_sound o y.0 y.1;
    })

alone_sound : (o : Optional) (r : Option Restriction) → restriction_alone o ≡ Some r → o ≡ record { redirection = None; may_divert = false; notice = None; restriction = r }
alone_sound o r e =
    let a = lacks_some o.redirection _ r e in
    let d = unless_some o.may_divert _ r a.1 in
    let t = lacks_some o.notice _ r d.1 in
    let s = same_Some _ _ t.1 in
    λ i. record { redirection = a.0 i; may_divert = d.0 i; notice = t.0 i; restriction = s i }

connected_sound :
    (n : Mandatory) (o : Optional) (r : Option Restriction) → connected_in n o ≡ Some r →
    (n ≡ mandatory_of (Answer r)) × (o ≡ optional_of (Answer r))
connected_sound n o r e =
    let a = lacks_some n.service _ r e in
    let b = lacks_some n.called _ r a.1 in
    let s = lacks_some n.status _ r b.1 in
    let v = lacks_some n.event _ r s.1 in
    let u = lacks_some n.cause _ r v.1 in
    ((λ i. record { service = a.0 i; called = b.0 i; status = s.0 i; event = v.0 i; cause = u.0 i }), alone_sound o r u.1)

-- an answer or a connect
told_sound :
    (k : ℕ) (tell : Option Restriction → Message Number) →
    ((r : Option Restriction) → Row k (mandatory_of (Answer r)) (optional_of (Answer r)) (tell r)) →
    (n : Mandatory) (o : Optional) (m : Message Number) → takes (connected_in n o) (λ r. Some (tell r)) ≡ Some m → Row k n o m
told_sound k tell row n o m e =
    let x = takes_some (connected_in n o) _ m e in
    let s = connected_sound n o x.0 x.1 in
    subst (λ (y : Message Number). Row k n o y) (same_Some _ _ x.2) (subst (λ (w : Mandatory). Row k w o (tell x.0)) (sym s.0)
    (subst (λ (v : Optional). Row k (mandatory_of (Answer x.0)) v (tell x.0)) (sym s.1) (row x.0)))

answer_row : (r : Option Restriction) → Row 0x09 (mandatory_of (Answer r)) (optional_of (Answer r)) (Answer r)
answer_row r = record { kinds = refl; mandatories = refl; optionals = refl }

connect_row : (r : Option Restriction) → Row 0x07 (mandatory_of (Answer r)) (optional_of (Answer r)) (Connect r)
connect_row r = record { kinds = refl; mandatories = refl; optionals = refl }

release_sound : (n : Mandatory) (o : Optional) (m : Message Number) → release_in n o ≡ Some m → Row 0x0C n o m
release_sound n o m e =
    let a = lacks_some n.service _ m e in
    let b = lacks_some n.called _ m a.1 in
    let s = lacks_some n.status _ m b.1 in
    let v = lacks_some n.event _ m s.1 in
    let u = takes_some n.cause _ m v.1 in
    let r = takes_some (restriction_alone o) _ m u.2 in
    let w = lacks_some r.0 _ m r.2 in
    let x = takes_some (cause_in u.0) _ m w.1 in
    let coded : n.cause ≡ Some _ = u.1 ∙ ap (λ (z : ℕ). Some z) (number_of_ranged _ _ u.0 x.0 x.1) in
    subst (λ (y : Message Number). Row 0x0C n o y) (same_Some _ _ x.2) (record {
      kinds = refl;
      mandatories = λ i. record { service = a.0 i; called = b.0 i; status = s.0 i; event = v.0 i; cause = coded i };
      optionals = alone_sound o None (r.1 ∙ ap (λ (z : Option Restriction). Some z) w.0);
    })

-- one branch of the choice by the type octet
branch :
    (k t : ℕ) (n : Mandatory) (o : Optional) (m : Message Number) (x y : Option (Message Number)) →
    (x ≡ Some m → Row t n o m) → (y ≡ Some m → Row k n o m) → cond (eqb k t) x y ≡ Some m → Row k n o m
branch k t n o m x y f g e = by_test (eqb k t) refl e
  where
    by_test : (b : Bool) → eqb k t ≡ b → cond b x y ≡ Some m → Row k n o m
    by_test true h e = subst (λ (z : ℕ). Row z n o m) (sym (eqb-true k t h)) (f e)
    by_test false h e = g e

message_sound : (k : ℕ) (n : Mandatory) (o : Optional) (m : Message Number) → message_in k n o ≡ Some m → Row k n o m
message_sound k n o m =
    branch k 0x01 n o m _ _ (initial_sound n o m)
    (branch k 0x06 n o m _ _ (complete_sound n o m)
    (branch k 0x2C n o m _ _ (progress_sound n o m)
    (branch k 0x09 n o m _ _ (told_sound 0x09 (λ r. Answer r) answer_row n o m)
    (branch k 0x07 n o m _ _ (told_sound 0x07 (λ r. Connect r) connect_row n o m)
    (branch k 0x0C n o m _ _ (release_sound n o m) (λ e. absurd (none-some _ e)))))))

message_again : (m : Message Number) → message_in (kind_of m) (mandatory_of m) (optional_of m) ≡ Some m
message_again (InitialAddress s c r) = takes_at _ (found_service s)
message_again (AddressComplete l b) = takes_at _ (found_status l)
message_again (CallProgress e b) = takes_at _ (found_event e)
message_again (Answer r) = refl
message_again (Connect r) = refl
message_again (Release c) = takes_at _ (found_ranged c)

made_sound : (p : Parts) (r : Circuit × Message Number) → made_from p ≡ Some r → p ≡ parts_of r.0 r.1
made_sound p r e =
    let a = takes_some (circuit_in p.call p.leg) _ r e in
    let b = takes_some (optional_in p) _ r a.2 in
    let d = takes_some (message_in p.kind p.mandatory b.0) _ r b.2 in
    let ia = numbers_of_circuit p.call p.leg a.0 a.1 in
    let ib = optional_sound p b.0 b.1 in
    let id = message_sound p.kind p.mandatory b.0 d.0 d.1 in
    let o = id.optionals in
    let rs : p.redirection ≡ raw_redirection (optional_of d.0).redirection = ib.redirections ∙ ap (λ (x : Optional). raw_redirection x.redirection) o in
    let ds : p.may_divert ≡ (optional_of d.0).may_divert = ib.diverts ∙ ap (λ (x : Optional). x.may_divert) o in
    let ns : p.notice ≡ raw_notice (optional_of d.0).notice = ib.notices ∙ ap (λ (x : Optional). raw_notice x.notice) o in
    let xs : p.restriction ≡ option_map restriction_code (optional_of d.0).restriction = ib.restrictions ∙ ap (λ (x : Optional). option_map restriction_code x.restriction) o in
    subst (λ (q : Circuit × Message Number). p ≡ parts_of q.0 q.1) (same_Some _ _ d.2)
    (λ i. record {
      call = ia.0 i;
      leg = ia.1 i;
      kind = id.kinds i;
      mandatory = id.mandatories i;
      redirection = rs i;
      may_divert = ds i;
      notice = ns i;
      restriction = xs i;
    })

made_again : (c : Circuit) (m : Message Number) → made_from (parts_of c m) ≡ Some (c, m)
made_again c m = takes_at _ (found_circuit c) ∙ takes_at _ (optional_again c m) ∙ takes_at _ (message_again m)

-- what making answers is what it should
pub parts_make : (p : Parts) (r : Result (Circuit × Message Number) Refusal) → r ≡ or_refused (made_from p) → Made p r
parts_make p r e = subst (λ (x : Result (Circuit × Message Number) Refusal). Made p x) (sym e) (by_cases (made_from p) refl)
  where
    by_cases : (o : Option (Circuit × Message Number)) → o ≡ made_from p → Made p (or_refused o)
    by_cases (Some r) e = made_sound p r (sym e)
    by_cases None e = (refl, λ c m h. none-some _ (e ∙ ap made_from h ∙ made_again c m))
