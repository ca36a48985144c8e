-- What holds of each open call, and how a call of the network that touches one call leaves the others.
use Rattle.std.proofs.Common.{Ok, Err, ◌≡◌, ℕ, ◌<◌, true, false, cond, ◌&&◌, eqb, ltb, List, [], ◌∷◌, ◌++◌, length, set, Some, None, Option, sym, refl, ap, ◌∙◌, subst, subst₂, append-nil, ⊎_elim}
use Rattle.std.proofs.lemmas.List.{length-set, get_or-set_same, get_or-set_other}
use Rattle.std.proofs.lemmas.Bool.{eq-eqb, ne_eqb, cond-true, cond-false, cases_eq}
use Rattle.numbers.specs.declared.refusal.Refusal.{Refusal}
use Rattle.options.specs.declared.record.Kind.{Kind}
use Rattle.options.specs.declared.record.Record.{Record}
use Rattle.rules.specs.declared.note.Note.{Note}
use Rattle.rules.specs.declared.request.Request.{Request}
use Rattle.rules.specs.Effects.{usable_record, Usable, Effect, usable_to}
use Rattle.rules.specs.Laws.{Address, Shows, Addresses, Diverts, ShowsIn, Along, diverted_in, Each, ShowsBy, ShowsAt}
use Rattle.rules.specs.Ledger.{addition, with_addition, added_by, advance, Addition, written, extended_in, routed, Account, extended, keeps, Ledger, adds}
use Rattle.rules.specs.Parts.{Answer, Signal, at, Setup, Meaning, Call, State}
use Rattle.rules.specs.Requests.{Done, signals_for, Decision, decide}
use Rattle.rules.specs.Runs.{entry, is_refused, refusal, observed, taken_in, Outcome, settles, runs, Turn, Entry, perform}
use Rattle.rules.proofs.Basics.{at_below, AllOf, by_opt, of_call_other, of_call_mine, signals-++, by_bool}
use Rattle.rules.proofs.Decisions.{settled, Decides}
use Rattle.rules.specs.declared.request.Granted.TheVariants as granted

abbrev pub Pred : Type 0 → Type 1
Pred N = ℕ → Account N → Call N → List (Signal N) → Type 0

abbrev pub AtCall : {N : Type 0} → Pred N → ℕ → Option (Account N) → Option (Call N) → List (Signal N) → Type 0
AtCall P c None None ws = ws ≡ []
AtCall P c None (Some d) ws = ⊥
AtCall P c (Some a) None ws = ⊥
AtCall P c (Some a) (Some d) ws = P c a d ws

pub record Inv {N : Type 0} (P : Pred N) (L : Ledger N) (g : State N) : Type 0 where
  pub size : length g.calls ≡ 64
  pub each : (c : ℕ) → AtCall P c (L c) (at g.calls c) (signals_for c g.waiting)

pub frame : {N : Type 0} (P : Pred N) (L M : Ledger N) (g : State N) (c : ℕ) (v : Option (Call N)) (ws : List (Signal N)) →
    Inv P L g → c < 64 → ((j : ℕ) → (j ≡ c → ⊥) → M j ≡ L j) → ((j : ℕ) → (j ≡ c → ⊥) → signals_for j ws ≡ signals_for j g.waiting) →
    AtCall P c (M c) v (signals_for c ws) → Inv P M (record { calls = set g.calls c v; capacity = g.capacity; waiting = ws })
frame P L M g c v ws h lt ml mw here =
    record {
      size = length-set g.calls c v ∙ h.size;
      each = λ j. ⊎_elim
          (λ (e : j ≡ c). subst (λ k. AtCall P k (M k) (at (set g.calls c v) k) (signals_for k ws)) (sym e)
          (subst (λ o. AtCall P c (M c) o (signals_for c ws)) (sym (get_or-set_same g.calls c v None (subst (λ n. c < n) (sym h.size) lt))) here))
          (λ (n : j ≡ c → ⊥).
          subst (λ o. AtCall P j o (at (set g.calls c v) j) (signals_for j ws)) (sym (ml j n))
          (subst (λ o. AtCall P j (L j) o (signals_for j ws)) (sym (get_or-set_other g.calls c j v None n))
          (subst (λ xs. AtCall P j (L j) (at g.calls j) xs) (sym (mw j n)) (h.each j))))
          (cases_eq j c);
    }

-- what an accepted request owes
abbrev pub Owes : {N : Type 0} → Pred N → Setup N → Ledger N → Meaning N → State N → Request N → Done N → Type 0
Owes P s L m g q d =
    let e : Entry _ = record { request = q; meaning = m; answer = d.answer; taken = d.taken; sent = d.sent } in
    Diverts s L e × Shows s L e × Inv P (advance s L (observed e)) (record { calls = d.calls; capacity = g.capacity; waiting = d.left ++ d.sent })

-- what a decision owes
abbrev pub Holds : {N : Type 0} → Pred N → Setup N → Ledger N → Meaning N → State N → Request N → Decision N → Type 0
Holds P s L m g q d = Decides (Owes P s L m g q) d

pub record Stands {N : Type 0} (P : Pred N) (s : Setup N) (L : Ledger N) (t : Turn N) (o : Outcome N) : Type 0 where
  pub addresses : Diverts s L (entry t o)
  pub numbers : Shows s L (entry t o)
  pub inv : Inv P (advance s L (observed (entry t o))) o.after

stands_refused : {N : Type 0} (P : Pred N) (s : Setup N) (L : Ledger N) (t : Turn N) (g : State N) (r : Refusal) → Inv P L g → Stands P s L t (refusal g r)
unfolding advance
stands_refused P s L t g r h = record { addresses = refl; numbers = tt; inv = h }

stands : {N : Type 0} (P : Pred N) (s : Setup N) (L : Ledger N) (t : Turn N) (g : State N) (d : Decision N) → Inv P L g → Holds P s L t.meaning g t.request d → Stands P s L t (settles g d)
stands P s L t g d h k =
    settled (Owes P s L t.meaning g t.request) g (Stands P s L t) (λ r. stands_refused P s L t g r h) (λ _ o _. record { addresses = o.0; numbers = o.1; inv = o.2 }) d k

-- every run stands, if every decision does
module _ {N : Type 0} (P : Pred N) (s : Setup N) (all : (L : Ledger N) (m : Meaning N) (g : State N) (q : Request N) → Inv P L g → Holds P s L m g q (decide s m g q)) where
  stands_at : (L : Ledger N) (t : Turn N) (g : State N) → Inv P L g → Stands P s L t (settles g (decide s t.meaning g t.request))
  stands_at L t g h = stands P s L t g (decide s t.meaning g t.request) h (all L t.meaning g t.request h)

  pub run_addresses : (ts : List (Turn N)) (L : Ledger N) (g : State N) → Inv P L g → Each Diverts s L (runs s g ts)
  unfolding perform
  run_addresses [] L g h = tt
  run_addresses (t ∷ ts) L g h = let k = stands_at L t g h in (k.addresses, run_addresses ts _ _ k.inv)

  pub run_numbers : (ts : List (Turn N)) (L : Ledger N) (g : State N) → Inv P L g → Each Shows s L (runs s g ts)
  unfolding perform
  run_numbers [] L g h = tt
  run_numbers (t ∷ ts) L g h = let k = stands_at L t g h in (k.numbers, run_numbers ts _ _ k.inv)

  -- a law of what holds at each state that a run comes to
  pub run_along : (R : Setup N → State N → Entry N → State N → Type 0) → ((L : Ledger N) (g : State N) (t : Turn N) → Inv P L g → R s g (entry t (perform s t.meaning g t.request)) (perform s t.meaning g t.request).after) →
      (ts : List (Turn N)) (L : Ledger N) (g : State N) → Inv P L g → Along R s g ts
  unfolding perform
  run_along R f [] L g h = tt
  run_along R f (t ∷ ts) L g h = (f L g t h, run_along R f ts _ _ (stands_at L t g h).inv)

-- one call's part of a decision
abbrev pub grown_by : {N : Type 0} → Account N → Option (Addition N) → Account N
grown_by x None = x
grown_by x (Some a) = extended a x

abbrev pub Mine : {N : Type 0} → ℕ → Option (Addition N) → Type 0
Mine c None = Unit {0}
Mine c (Some a) = a.call ≡ c

abbrev pub Addressed : {N : Type 0} → Setup N → Account N → Option (Addition N) → List (Signal N) → Type 0
Addressed s x None sent = diverted_in sent ≡ []
Addressed s x (Some a) sent = Address s (Some x) a sent

-- a note of call c that shows only what is allowed
abbrev pub Noted : {N : Type 0} → ℕ → Account N → Option (Note N) → Type 0
Noted c x None = Unit {0}
Noted c x (Some n) = (n.call ≡ c) × ShowsAt (Some x) n.kind n.shown

pub record Local {N : Type 0} (P : Pred N) (s : Setup N) (c : ℕ) (x y : Account N) (add : Option (Addition N)) (rest : List (Signal N)) (f : Effect N) : Type 0 where
  pub mine : AllOf c f.sent
  pub keeps : P c y f.call (rest ++ f.sent)
  pub address : Addressed s y add f.sent
  pub shows : Noted c x f.note

write_same : {N : Type 0} (L : Ledger N) (c : ℕ) (a : Option (Account N)) → written L c a c ≡ a
write_same L c a = cond-true (eqb c c) a (L c) (eq-eqb c c refl)

write_other : {N : Type 0} (L : Ledger N) (c j : ℕ) (a : Option (Account N)) → (j ≡ c → ⊥) → written L c a j ≡ L j
write_other L c j a n = cond-false (eqb j c) a (L j) (ne_eqb j c n)

grows_same : {N : Type 0} (K : Ledger N) (c : ℕ) (x : Account N) (add : Option (Addition N)) → Mine c add → K c ≡ Some x → with_addition K add c ≡ Some (grown_by x add)
grows_same K c x None h e = e
grows_same K c x (Some a) h e =
    subst (λ k. written K k (extended_in a (K k)) c ≡ Some (grown_by x (Some a))) (sym h)
    (write_same K c (extended_in a (K c)) ∙ ap (extended_in a) e)

grows_other : {N : Type 0} (K : Ledger N) (c j : ℕ) (add : Option (Addition N)) → Mine c add → (j ≡ c → ⊥) → with_addition K add j ≡ K j
grows_other K c j None h n = refl
grows_other K c j (Some a) h n = write_other K a.call j (extended_in a (K a.call)) (λ e. n (e ∙ h))

addresses_from : {N : Type 0} (s : Setup N) (M : Ledger N) (c : ℕ) (y : Account N) (add : Option (Addition N)) (sent : List (Signal N)) →
    Mine c add → M c ≡ Some y → Addressed s y add sent → Addresses s M add sent
addresses_from s M c y None sent h e k = k
addresses_from s M c y (Some a) sent h e k = subst (λ o. Address s o a sent) (sym (ap M h ∙ e)) k

abbrev pub Replies : {N : Type 0} → ℕ → Option (Signal N) → Effect N → Answer N → Type 0
Replies c t f (Err r) = ⊥
Replies c t f (Ok (granted.Opened j)) = Unit {0}
Replies c None f (Ok (granted.Stepped n)) = ⊥
Replies c (Some t) f (Ok (granted.Stepped n)) = (t.call ≡ c) × (n ≡ f.note)
Replies c t f (Ok granted.Done) = Unit {0}

accepted : {N : Type 0} (c : ℕ) (t : Option (Signal N)) (f : Effect N) (a : Answer N) → Replies c t f a → is_refused a ≡ false
accepted c t f (Err r) h = absurd h
accepted c t f (Ok (granted.Opened j)) h = refl
accepted c t f (Ok (granted.Stepped n)) h = refl
accepted c t f (Ok granted.Done) h = refl

note_from : {N : Type 0} (L : Ledger N) (c : ℕ) (x : Account N) (t : Signal N) (o : Option (Note N)) → L c ≡ Some x → t.call ≡ c → Noted c x o → ShowsIn L (Some t) o
note_from L c x t None e h k = tt
note_from L c x t (Some n) e h k = (ap Some (h ∙ sym k.0), subst (λ o. ShowsAt o n.kind n.shown) (sym (ap L k.0 ∙ e)) k.1)

shows_from : {N : Type 0} (L : Ledger N) (c : ℕ) (x : Account N) (t : Option (Signal N)) (f : Effect N) (a : Answer N) → L c ≡ Some x → Noted c x f.note → Replies c t f a → ShowsBy L t a
shows_from L c x t f (Err r) e k h = tt
shows_from L c x t f (Ok (granted.Opened j)) e k h = tt
shows_from L c x None f (Ok (granted.Stepped n)) e k h = absurd h
shows_from L c x (Some t) f (Ok (granted.Stepped n)) e k h = subst (ShowsIn L (Some t)) (sym h.1) (note_from L c x t f.note e h.0 k)
shows_from L c x t f (Ok granted.Done) e k h = tt

pub holds : {N : Type 0} (P : Pred N) (s : Setup N) (L : Ledger N) (m : Meaning N) (g : State N) (q : Request N) (c : ℕ) (x y : Account N) (d : Call N)
    (taken : Option (Signal N)) (rest : List (Signal N)) (f : Effect N) (a : Answer N) (add : Option (Addition N)) → adds s L m (taken_in taken) q ≡ add →
    Inv P L g → at g.calls c ≡ Some d → L c ≡ Some x → keeps L m q c ≡ Some y → ((j : ℕ) → (j ≡ c → ⊥) → keeps L m q j ≡ L j) →
    Mine c add → ((j : ℕ) → (j ≡ c → ⊥) → signals_for j rest ≡ signals_for j g.waiting) → Replies c taken f a →
    Local P s c x (grown_by y add) add (signals_for c rest) f →
    Owes P s L m g q (record { calls = set g.calls c (Some f.call); taken = taken; left = rest; sent = f.sent; answer = a })
unfolding advance
holds {N} P s L m g q c x y d taken rest f a add eadd h ed ex ey oy mi or re lo =
    let e : Entry N = record { request = q; meaning = m; answer = a; taken = taken; sent = f.sent } in
    let af : is_refused a ≡ false = accepted c taken f a re in
    let ea : addition s L (observed e) ≡ add = cond-false (is_refused a) None (adds s L m (taken_in taken) q) af ∙ eadd in
    let em : advance s L (observed e) ≡ with_addition (keeps L m q) add = cond-false (is_refused a) L (with_addition (keeps L m q) (addition s L (observed e))) af ∙ ap (with_addition (keeps L m q)) ea in
    let mc : with_addition (keeps L m q) add c ≡ Some (grown_by y add) = grows_same (keeps L m q) c y add mi ey in
    let below : c < 64 = subst (λ n. c < n) h.size (at_below g.calls c d ed) in
    let ws : signals_for c (rest ++ f.sent) ≡ signals_for c rest ++ f.sent = signals-++ c rest f.sent ∙ ap (λ zs. signals_for c rest ++ zs) (of_call_mine c f.sent lo.mine) in (
      subst₂ (λ M o. Addresses s M o f.sent) (sym em) (sym ea) (addresses_from s (with_addition (keeps L m q) add) c (grown_by y add) add f.sent mi mc lo.address),
      shows_from L c x taken f a ex lo.shows re,
      subst (λ M. Inv P M (record { calls = set g.calls c (Some f.call); capacity = g.capacity; waiting = rest ++ f.sent })) (sym em)
          (frame P L (with_addition (keeps L m q) add) g c (Some f.call) (rest ++ f.sent) h below
          (λ j n. grows_other (keeps L m q) c j add mi n ∙ oy j n)
          (λ j n. signals-++ j rest f.sent ∙ ap (λ zs. signals_for j rest ++ zs) (of_call_other c j f.sent n lo.mine) ∙ append-nil (signals_for j rest) ∙ or j n)
          (subst₂ (λ o zs. AtCall P c o (Some f.call) zs) (sym mc) (sym ws) lo.keeps)),
    )

-- the addition that a diversion by a record makes
abbrev pub add_by : {N : Type 0} → Kind → ℕ → ℕ → Option (Usable N) → Option (Addition N)
add_by w c k None = None
add_by w c k (Some e) = Some (record { call = c; leg = k; kind = w; by = e.by; target = e.by.target })

-- the rules and the ledger ask the same of a record
pub serves : {N : Type 0} (s : Setup N) (w : Kind) (c k : ℕ) (o : Option (Record N)) → added_by s w c k o ≡ add_by w c k (usable_record s k o)
serves s w c k None = refl
serves {N} s w c k (Some r) =
    let add : Option (Addition N) = Some (record { call = c; leg = k; kind = w; by = r; target = r.target }) in
    by_opt (s.route r.target) (λ o. cond (ltb k s.limit && routed o) add None ≡ add_by w c k (usable_to s k r o))
    (λ _. by_bool (ltb k s.limit) (λ b. cond (b && false) add None ≡ None) (λ _. refl) (λ _. refl))
    (λ x _.
    let e : Option (Usable N) = Some (record { by = r; exchange = x }) in
    by_bool (ltb k s.limit) (λ b. cond (b && true) add None ≡ add_by w c k (cond b e None)) (λ _. refl) (λ _. refl))
