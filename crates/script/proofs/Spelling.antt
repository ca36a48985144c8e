-- Octets that are added pair by pair, and word by word.
use Rattle.std.proofs.Common.{◌≡◌, ℕ, ◌+◌, ◌<◌, ◌≤◌, min, List, [], ◌∷◌, ◌++◌, map, length, get_or, drop, Some, None, Ok, Err, Option, Result, sym, refl, ap, ◌∙◌, append_assoc, arith, Bor}
use Rattle.std.proofs.lemmas.List.{drop_more}
use Rattle.script.specs.declared.line.LineError.{LineError}
use Rattle.script.specs.declared.line.LineError.TheVariants.{UnknownWord, OctetsMissing, NotOctets, Memory}
use Rattle.std.specs.Option.{ok_or}
use Rattle.std.specs.Slice.Iter.{chunks_rest, chunks_size, chunks_steps}
use Rattle.std.specs.declared.slice.Chunks.{Chunks}
use Rattle.script.specs.Lines.{Mistake, wrong, Octets, Fails, octets, all_spelt, after, both, before, pairs, pairs_of, octet_of, spelt}

pub after_after : (xs ys : List ℕ) (o : Octets) → after xs (after ys o) ≡ after (xs ++ ys) o
after_after xs ys (Ok octets) = ap Ok (sym (append_assoc xs ys octets))
after_after xs ys (Err e) = refl

pub after_both : (xs : List ℕ) (front more : Octets) → after xs (both front more) ≡ both (after xs front) more
after_both xs (Ok octets) more = after_after xs octets more
after_both xs (Err e) more = refl

module _ (word items : List ℕ) where
  one_more : (o : ℕ) (more : Option (List ℕ)) → after items (ok_or (before (Some o) more) (wrong word)) ≡ after (items ++ (o ∷ [])) (ok_or more (wrong word))
  one_more o None = refl
  one_more o (Some xs) = ap Ok (sym (append_assoc items (o ∷ []) xs))

  adds : (pair more : List ℕ) (o : ℕ) → length pair ≤ 2 → octet_of pair ≡ Some o → after items (pairs_of word (pair ++ more)) ≡ after (items ++ (o ∷ [])) (pairs_of word more)
  adds [] more o few is = let no : ◌≡◌ {A = Option ℕ} None (Some o) = is in cc
  adds (c ∷ []) more o few is = let no : ◌≡◌ {A = Option ℕ} None (Some o) = is in cc
  adds (c ∷ d ∷ []) more o few is = rw is (one_more o (pairs more))
  adds (c ∷ d ∷ e ∷ pair) more o few is = absurd (omega arith)

  stops : (pair more : List ℕ) → length pair ≡ min 2 (length (pair ++ more)) → 0 < length (pair ++ more) → octet_of pair ≡ None → after items (pairs_of word (pair ++ more)) ≡ Err (wrong word)
  stops [] more long some is = absurd (omega arith)
  stops (c ∷ []) [] long some is = refl
  stops (c ∷ []) (d ∷ more) long some is = absurd (omega arith)
  stops (c ∷ d ∷ []) more long some is = rw is
  stops (c ∷ d ∷ e ∷ pair) more long some is = absurd (omega arith)

-- the octets added, and those of the digits left, are those of the word, added to what was there at the start
pub record Sofar (word start items : List ℕ) (left : Chunks ℕ) : Type 0 where
  pub two : chunks_size left ≡ 2
  pub sofar : after items (pairs_of word (chunks_rest left)) ≡ after start (spelt word)

module _ {word start items : List ℕ} {left : Chunks ℕ} (old : Sofar word start items left) (more : Chunks ℕ) where
  module _ (x : Bor (List ℕ)) (step : chunks_steps left (Some x) more) where
    long : length x.now ≡ min 2 (length (x.now ++ chunks_rest more))
    long = rw (old.two, step.1.0) at step.1.1

    pub next_octet : (o : ℕ) → octet_of x.now ≡ Some o → Sofar word start (items ++ (o ∷ [])) more
    next_octet o is = record {
      two = step.0 ∙ old.two;
      sofar = sym (adds word items x.now (chunks_rest more) o (omega (arith, long)) is) ∙ rw step.1.0 at old.sofar;
    }

    pub no_octet : octet_of x.now ≡ None → after start (spelt word) ≡ Err (wrong word)
    no_octet is = sym (rw step.1.0 at old.sofar) ∙ stops word items x.now (chunks_rest more) long (rw step.1.0 at step.1.2) is

-- ---- word by word

-- the same of words: those before the place i are done
pub record Words (words : List (Bor (List ℕ))) (items : List ℕ) (i : ℕ) : Type 0 where
  pub words_sofar : after items (all_spelt (map (λ w. w.now) (drop i words))) ≡ octets (map (λ w. w.now) words)

module _ (words : List (Bor (List ℕ))) where
  module _ (items : List ℕ) (i : ℕ) (d : Bor (List ℕ)) (old : Words words items i) where
    turn : i < length words → both (after items (spelt (get_or words i d).now)) (all_spelt (map (λ w. w.now) (drop (i + 1) words))) ≡ octets (map (λ w. w.now) words)
    turn inside = sym (after_both items (spelt (get_or words i d).now) _) ∙ rw (drop_more words i d inside) at old.words_sofar

    pub next_word : (more : List ℕ) → i < length words → after items (spelt (get_or words i d).now) ≡ Ok more → Words words more (i + 1)
    next_word more inside is = record { words_sofar = rw is at (turn inside) }

    pub wrong_word : (e : Mistake) → i < length words → after items (spelt (get_or words i d).now) ≡ Err e → octets (map (λ w. w.now) words) ≡ Err e
    wrong_word e inside is = sym (rw is at (turn inside))

-- a `?` hands on why the callee gave nothing
pub hands_on : {Y W : Type 0} (e : LineError) (m : Result Y Mistake) (n : Result W Mistake) → ((x : Mistake) → m ≡ Err x → n ≡ Err x) → Fails e m → Fails e n
hands_on (UnknownWord w) m n same is = same _ is
hands_on OctetsMissing m n same is = same _ is
hands_on (NotOctets w) m n same is = same _ is
hands_on Memory m n same is = tt
