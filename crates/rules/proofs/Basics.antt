-- Lists with places, and the signals of a call.
use Rattle.std.proofs.Common.{◌≡◌, ℕ, zero, suc, ◌<◌, Bool, true, false, cond, eqb, List, [], ◌∷◌, ◌++◌, length, set, Some, None, Option, sym, refl, ap, ◌∙◌, subst, arith}
use Rattle.std.proofs.lemmas.Bool.{eqb-true, eq-eqb, ne_eqb, cond-true, cond-false, and_parts}
use Rattle.std.proofs.lemmas.Option.{none-some, same_Some}
use Rattle.waiting.specs.Items.{earliest, without_earliest}
use Rattle.rules.specs.Parts.{at, Signal}
use Rattle.rules.specs.Requests.{between, signals_for}

pub by_opt : {A : Type 0} (o : Option A) (P : Option A → Type 0) → (o ≡ None → P None) → ((a : A) → o ≡ Some a → P (Some a)) → P o
by_opt None P n s = n refl
by_opt (Some a) P n s = s a refl

pub by_bool : (b : Bool) (P : Bool → Type 0) → (b ≡ true → P true) → (b ≡ false → P false) → P b
by_bool true P t f = t refl
by_bool false P t f = f refl

pub at_below : {A : Type 0} (xs : List (Option A)) (k : ℕ) (a : A) → at xs k ≡ Some a → k < length xs
at_below [] k a e = absurd (none-some a e)
at_below (x ∷ xs) zero a e = omega arith
at_below (x ∷ xs) (suc k) a e = let r : k < length xs = at_below xs k a e in omega arith

-- the signals of a call
abbrev pub AllOf : {N : Type 0} → ℕ → List (Signal N) → Type 0
AllOf c [] = Unit {0}
AllOf c (e ∷ es) = (e.call ≡ c) × AllOf c es

pub of_call_mine : {N : Type 0} (c : ℕ) (es : List (Signal N)) → AllOf c es → signals_for c es ≡ es
of_call_mine c [] h = refl
of_call_mine c (e ∷ es) h = cond-true (eqb e.call c) _ _ (eq-eqb e.call c h.0) ∙ ap (λ xs. e ∷ xs) (of_call_mine c es h.1)

pub of_call_other : {N : Type 0} (c j : ℕ) (es : List (Signal N)) → (j ≡ c → ⊥) → AllOf c es → signals_for j es ≡ []
of_call_other c j [] n h = refl
of_call_other c j (e ∷ es) n h = cond-false (eqb e.call j) _ _ (ne_eqb e.call j (λ q. n (sym q ∙ h.0))) ∙ of_call_other c j es n h.1

pub signals-++ : {N : Type 0} (c : ℕ) (xs ys : List (Signal N)) → signals_for c (xs ++ ys) ≡ signals_for c xs ++ signals_for c ys
signals-++ c [] ys = refl
signals-++ c (e ∷ xs) ys =
    by_bool (eqb e.call c) (λ b. cond b (e ∷ signals_for c (xs ++ ys)) (signals_for c (xs ++ ys)) ≡ cond b (e ∷ signals_for c xs) (signals_for c xs) ++ signals_for c ys)
    (λ q. ap (λ zs. e ∷ zs) (signals-++ c xs ys)) (λ q. signals-++ c xs ys)

-- none of these goes from a to b
abbrev pub NonePasses : {N : Type 0} → ℕ → ℕ → List (Signal N) → Type 0
NonePasses a b [] = Unit {0}
NonePasses a b (e ∷ es) = (between a b e ≡ false) × NonePasses a b es

-- the earliest signal, with those before and behind it
pub record Splits {N : Type 0} (a b : ℕ) (ws : List (Signal N)) (e : Signal N) : Type 0 where
  pub before : List (Signal N)
  pub behind : List (Signal N)
  pub whole : ws ≡ before ++ (e ∷ behind)
  pub left : without_earliest (between a b) ws ≡ before ++ behind
  pub first : NonePasses a b before
  pub from : e.from ≡ a
  pub to : e.to ≡ b

splits_here : {N : Type 0} (a b : ℕ) (x : Signal N) (xs : List (Signal N)) (e : Signal N) → between a b x ≡ true → Some x ≡ Some e → Splits a b (x ∷ xs) e
splits_here a b x xs e t q =
    let h = and_parts (eqb x.from a) (eqb x.to b) t in
    subst (Splits a b (x ∷ xs)) (same_Some x e q) (record { before = []; behind = xs; whole = refl; left = cond-true (between a b x) xs _ t; first = tt; from = eqb-true x.from a h.0; to = eqb-true x.to b h.1 })

pub earliest_splits : {N : Type 0} (a b : ℕ) (ws : List (Signal N)) (e : Signal N) → earliest (between a b) ws ≡ Some e → Splits a b ws e
earliest_splits a b [] e q = absurd (none-some e q)
earliest_splits a b (x ∷ xs) e q =
    by_bool (between a b x) (λ t. between a b x ≡ t → cond t (Some x) (earliest (between a b) xs) ≡ Some e → Splits a b (x ∷ xs) e)
    (λ _ t. splits_here a b x xs e t)
    (λ _ t r.
    let h : Splits a b xs e = earliest_splits a b xs e r in
    record {
      before = x ∷ h.before;
      behind = h.behind;
      whole = ap (λ zs. x ∷ zs) h.whole;
      left = cond-false (between a b x) xs _ t ∙ ap (λ zs. x ∷ zs) h.left;
      first = (t, h.first);
      from = h.from;
      to = h.to;
    })
    refl q

pub at_set_is : {A : Type 0} (xs : List (Option A)) (k : ℕ) (v : Option A) (a : A) → at (set xs k v) k ≡ Some a → v ≡ Some a
at_set_is [] k v a e = absurd (none-some a e)
at_set_is (x ∷ xs) zero v a e = e
at_set_is (x ∷ xs) (suc k) v a e = at_set_is xs k v a e
