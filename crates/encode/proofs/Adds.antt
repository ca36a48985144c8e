-- Octets that are added to a draft in several goes.
use Rattle.std.proofs.Common.{◌≡◌, ℕ, ◌+◌, ◌<◌, List, [], ◌∷◌, ◌++◌, length, sym, refl, ap, ◌∙◌}
use lib.Bits.{bit_or}
use Rattle.std.proofs.lemmas.List.{append_assoc}
use Rattle.std.proofs.lemmas.Nat.{or_shifted}
use Rattle.numbers.specs.declared.draft.Draft.{Draft}
use Rattle.numbers.specs.Drafts.{drafted, cut, Adds}
use Rattle.numbers.proofs.Cuts.{cut_none, cut_more}
use Rattle.isup.specs.Coding.{Parameter, encoded}

-- the same octets in other words
pub added_same : (a b : Draft) (xs ys : List ℕ) → Adds a b xs → xs ≡ ys → Adds a b ys
added_same a b xs ys p e = p ∙ ap (λ (l : List ℕ). cut (drafted a ++ l)) e

-- octets that are added in two goes, and in three
pub added_two : (a b c : Draft) (xs ys all : List ℕ) → Adds a b xs → Adds b c ys → xs ++ ys ≡ all → Adds a c all
added_two a b c xs ys all p q e = added_same a c (xs ++ ys) all (cut_more (drafted a) (drafted b) (drafted c) xs ys p q) e

pub added_three : (a b c d : Draft) (xs ys zs all : List ℕ) → Adds a b xs → Adds b c ys → Adds c d zs → xs ++ (ys ++ zs) ≡ all → Adds a d all
added_three a b c d xs ys zs all p q r e = added_two a b d xs (ys ++ zs) all p (added_two b c d ys zs (ys ++ zs) q r refl) e

-- nothing is added
pub added_none : (d : Draft) (xs : List ℕ) → xs ≡ [] → Adds d d xs
added_none d xs e = added_same d d [] xs (cut_none d) (sym e)

-- the code of parameters one behind another
pub encoded-append : (ps qs : List Parameter) → encoded (ps ++ qs) ≡ encoded ps ++ encoded qs
encoded-append [] qs = refl
encoded-append (p ∷ ps) qs =
    ap (λ (l : List ℕ). p.0 ∷ length p.1 ∷ (p.1 ++ l)) (encoded-append ps qs)
    ∙ ap (λ (l : List ℕ). p.0 ∷ length p.1 ∷ l) (sym (append_assoc p.1 (encoded ps) (encoded qs)))

pub encoded_three :
    (ps qs rs : List Parameter) (zs : List ℕ) → encoded ps ++ (encoded qs ++ (encoded rs ++ zs)) ≡ encoded (ps ++ (qs ++ rs)) ++ zs
encoded_three ps qs rs zs =
    sym
    (ap (λ (l : List ℕ). l ++ zs) (encoded-append ps (qs ++ rs) ∙ ap (λ (l : List ℕ). encoded ps ++ l) (encoded-append qs rs))
    ∙ append_assoc (encoded ps) (encoded qs ++ encoded rs) zs
    ∙ ap (λ (l : List ℕ). encoded ps ++ l) (append_assoc (encoded qs) (encoded rs) zs))

-- the top bit above seven others
pub topped : (low : ℕ) → low < 128 → bit_or 128 low ≡ 128 + low
topped low l = or_shifted 1 7 low l
