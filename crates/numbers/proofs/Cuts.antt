-- Lists that are cut at the end of a draft.
use Rattle.std.proofs.Common.{◌≡◌, ℕ, zero, suc, ◌+◌, ◌<◌, ◌≤◌, List, [], ◌∷◌, ◌++◌, length, get_or, take, sym, refl, ap, ◌∙◌, arith}
use Rattle.std.proofs.lemmas.List.{append_assoc, append-nil, take_all, take_at, take_more, length-take-le}
use Rattle.numbers.specs.declared.draft.Draft.{Draft}
use Rattle.numbers.specs.Drafts.{drafted, cut}

-- a draft holds what it counts
pub length-drafted : (d : Draft) → length (drafted d) ≡ d.len
length-drafted d = length-take-le d.len d.octets (omega (arith, d.within, d.whole))

pub draft_short : (d : Draft) → length (drafted d) ≤ 64
draft_short d = let l = length-drafted d in omega (arith, d.within)

pub cut_short : (xs : List ℕ) → length xs ≤ 64 → cut xs ≡ xs
cut_short xs h = take_all 64 xs h

pub cut_none : (d : Draft) → drafted d ≡ cut (drafted d ++ [])
cut_none d = sym (ap cut (append-nil (drafted d)) ∙ cut_short (drafted d) (draft_short d))

pub cut_full : (xs ys : List ℕ) → length xs ≡ 64 → cut (xs ++ ys) ≡ xs
cut_full xs ys e = take_at xs ys 64 e

take_twice : (n : ℕ) (xs ys : List ℕ) → take n (take n xs ++ ys) ≡ take n (xs ++ ys)
take_twice zero xs ys = refl
take_twice (suc n) [] ys = refl
take_twice (suc n) (x ∷ xs) ys = ap (λ (l : List ℕ). x ∷ l) (take_twice n xs ys)

-- what is drafted in two goes is drafted in one
pub cut_more : (a b c xs ys : List ℕ) → b ≡ cut (a ++ xs) → c ≡ cut (b ++ ys) → c ≡ cut (a ++ (xs ++ ys))
cut_more a b c xs ys p q =
    q ∙ ap (λ (l : List ℕ). cut (l ++ ys)) p ∙ take_twice 64 (a ++ xs) ys ∙ ap cut (append_assoc a xs ys)

-- one more octet of a list
pub cut_next :
    (a b c xs : List ℕ) (k v : ℕ) → k < length xs → v ≡ get_or xs k 0 → b ≡ cut (a ++ take k xs) → c ≡ cut (b ++ v ∷ []) → c ≡ cut (a ++ take (k + 1) xs)
cut_next a b c xs k v h e p q =
    cut_more a b c (take k xs) (v ∷ []) p q ∙ ap (λ (l : List ℕ). cut (a ++ l)) (ap (λ (w : ℕ). take k xs ++ (w ∷ [])) e ∙ sym (take_more xs k 0 h))
