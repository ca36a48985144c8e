-- How the meaning of the cells changes where some are emptied or one is filled.
use Rattle.std.proofs.Common.{◌≡◌, ℕ, ◌≤◌, Bool, true, false, cond, ◌&&◌, List, [], ◌∷◌, ◌++◌, is_some, is_err, Some, None, Ok, Err, count_by, Option, Result, MatchResult, sym, refl, ap, subst, ◌∙◌, arith}
use Rattle.std.specs.Option.{option_or}
use Rattle.std.proofs.lemmas.List.{length_push}
use Rattle.std.proofs.lemmas.List.Folds.{find-append}
use Rattle.isup.specs.declared.message.Service.{Service}
use Rattle.numbers.specs.declared.number.Number.{Number}
use Rattle.numbers.specs.declared.refusal.Refusal.{Refusal}
use Rattle.numbers.specs.Comparing.{same_number}
use Rattle.numbers.proofs.Compares.{same_decides}
use Rattle.waiting.specs.Items.{Waiting, holding, is_full, added, earliest, others}
use Rattle.options.specs.declared.question.Diversions.{Diversions}
use Rattle.options.specs.declared.record.Kind.{Kind}
use Rattle.options.specs.declared.cells.Cell.{Cell}
use Rattle.options.specs.declared.cells.Cell.TheVariants.{Diversion, Withheld}
use Rattle.options.specs.Records.{same_kind, same_service}
use Rattle.options.specs.Cells.{covers, is_diversion, for_one, is_withheld, record_in, withheld_in, Single, Diverted, Marked}
use Rattle.options.proofs.Lists.{earliest_without, count_without, length_without, count_push, count_none}

both : (a b : Bool) → (a && b) ≡ true → (a ≡ true) × (b ≡ true)
both true b e = (refl, e)
both false b e = cc

same_kind_lem : (a b : Kind) → same_kind a b ≡ true → a ≡ b
same_kind_lem a b t = grind arith

same_service_lem : (a b : Service) → same_service a b ≡ true → a ≡ b
same_service_lem a b t = grind arith

-- a cell that fits a question of one number, service and kind is meant by a change exactly where these are
pub fits_covers :
    (meant : Diversions) (n : Number) (s : Service) (k : Kind) (x : Cell) →
    is_diversion (for_one n s k) x ≡ true → is_diversion meant x ≡ covers meant n s k
fits_covers meant n s k (Diversion m t j r) e =
    let number = both (same_number n m) (same_service s t && same_kind k j) e in
    let others = both (same_service s t) (same_kind k j) number.1 in
    let en : n ≡ m = (same_decides n m).0 number.0 in
    let es : s ≡ t = same_service_lem s t others.0 in
    let ek : k ≡ j = same_kind_lem k j others.1 in
    cc
fits_covers meant n s k (Withheld m) e = cc

-- no cell is both
pub withheld_apart : (meant : Diversions) (n : Number) (x : Cell) → is_withheld n x ≡ true → is_diversion meant x ≡ false
withheld_apart meant n (Diversion m t j r) e = cc
withheld_apart meant n (Withheld m) e = refl

diversion_apart : (number : Number) (meant : Diversions) (x : Cell) → is_diversion meant x ≡ true → is_withheld number x ≡ false
diversion_apart number meant (Diversion m t j r) e = refl
diversion_apart number meant (Withheld m) e = cc

withheld_same : (number n : Number) (x : Cell) → is_withheld n x ≡ true → is_withheld number x ≡ same_number number n
withheld_same number n (Diversion m t j r) e = cc
withheld_same number n (Withheld m) e = ap (same_number number) (sym ((same_decides n m).0 e))

record_none : (b : Bool) (o : Option Cell) → record_in (cond b None o) ≡ cond b None (record_in o)
record_none b o = grind arith

some_none : (b : Bool) (o : Option Cell) → is_some (cond b None o) ≡ cond b false (is_some o)
some_none b o = grind arith

pub single_without : (p : Cell → Bool) (cells : List Cell) → Single cells → Single (others p cells)
single_without p cells σ = record {
  diversions = λ n s k. (let a = count_without p (is_diversion (for_one n s k)) cells in let b = σ.diversions n s k in omega arith);
  numbers = λ n. (let a = count_without p (is_withheld n) cells in let b = σ.numbers n in omega arith);
}

pub withheld_without :
    (cells : List Cell) (meant : Diversions) (n : Number) → withheld_in (others (is_diversion meant) cells) n ≡ withheld_in cells n
withheld_without cells meant n =
    ap is_some (earliest_without (is_diversion meant) (is_withheld n) false (withheld_apart meant n) cells)

-- the cells of a diversion emptied
pub diverted_without :
    (cells : Waiting Cell) (meant : Diversions) →
    Diverted cells (holding cells (others (is_diversion meant) cells.items)) meant None 0
diverted_without cells meant = record {
  held = λ n s k.
      ap record_in (earliest_without (is_diversion meant) (is_diversion (for_one n s k)) (covers meant n s k) (fits_covers meant n s k) cells.items)
      ∙ record_none (covers meant n s k) (earliest (is_diversion (for_one n s k)) cells.items);
  withheld = withheld_without cells.items meant;
  count = (let h = length_without (is_diversion meant) cells.items in omega arith);
  single = single_without (is_diversion meant) cells.items;
  room = refl;
}

-- the cells of a withheld number emptied
pub marked_without :
    (cells : Waiting Cell) (number : Number) →
    Marked cells (holding cells (others (is_withheld number) cells.items)) number false (count_by (is_withheld number) cells.items) 0
marked_without cells number = record {
  held = λ n s k.
      ap record_in (earliest_without (is_withheld number) (is_diversion (for_one n s k)) false (diversion_apart number (for_one n s k)) cells.items);
  withheld = λ n.
      ap is_some (earliest_without (is_withheld number) (is_withheld n) (same_number number n) (withheld_same number n) cells.items)
      ∙ some_none (same_number number n) (earliest (is_withheld n) cells.items);
  count = (let h = length_without (is_withheld number) cells.items in omega arith);
  single = single_without (is_withheld number) cells.items;
  room = refl;
}

pub both_ways : (u v : Bool) → (u ≡ true → v ≡ true) → (v ≡ true → u ≡ true) → u ≡ v
both_ways true v f g = sym (f refl)
both_ways false true f g = g refl
both_ways false false f g = refl

pub same_sym : (a b : Number) → same_number a b ≡ same_number b a
same_sym a b =
    both_ways (same_number a b) (same_number b a)
    (λ t. (same_decides b a).1 (sym ((same_decides a b).0 t)))
    (λ t. (same_decides a b).1 (sym ((same_decides b a).0 t)))

pub or_none : {X : Type 0} (o : Option X) → option_or o None ≡ o
or_none o = grind arith

some_or : {X : Type 0} (o : Option X) (x : X) (b : Bool) → is_some (option_or o (cond b (Some x) None)) ≡ cond b true (is_some o)
some_or o x b = grind arith

one_more :
    (cells : List Cell) (number n : Number) → withheld_in cells number ≡ false →
    count_by (is_withheld n) cells ≤ 1 → count_by (is_withheld n) (cells ++ (Withheld number ∷ [])) ≤ 1
one_more cells number n none few =
    let more = count_push (is_withheld n) cells (Withheld number) in
    let zero : same_number n number ≡ true → count_by (is_withheld n) cells ≡ 0 =
    λ t. ap (λ m. count_by (is_withheld m) cells) ((same_decides n number).0 t) ∙ count_none (is_withheld number) cells none in
    grind arith

-- a number that was not withheld is
pub marked_push :
    (cells : Waiting Cell) (number : Number) → withheld_in cells.items number ≡ false →
    Marked cells (holding cells (cells.items ++ (Withheld number ∷ []))) number true 0 (cond (withheld_in cells.items number) 0 1)
marked_push cells number none = record {
  held = λ n s k.
      ap record_in (find-append (is_diversion (for_one n s k)) cells.items (Withheld number ∷ []) ∙ or_none (earliest (is_diversion (for_one n s k)) cells.items));
  withheld = λ n.
      ap is_some (find-append (is_withheld n) cells.items (Withheld number ∷ []))
      ∙ some_or (earliest (is_withheld n) cells.items) (Withheld number) (same_number n number)
      ∙ ap (λ b. cond b true (withheld_in cells.items n)) (same_sym n number);
  count =
      (let l = length_push cells.items (Withheld number) in
      let f : ◌≡◌ {A = ℕ} (cond (withheld_in cells.items number) 0 1) 1 = ap (λ b. cond b 0 1) none in
      omega arith);
  single = λ σ. record {
    diversions = λ n s k.
        (let more = count_push (is_diversion (for_one n s k)) cells.items (Withheld number) in let few = σ.diversions n s k in omega arith);
    numbers = λ n. one_more cells.items number n none (σ.numbers n);
  };
  room = refl;
}

-- putting the mark of a number: a number that was not withheld is, or nothing has changed for want of a free cell
pub mark_put :
    (cells after : Waiting Cell) (number : Number) (r : Result (Unit {0}) Refusal) → withheld_in cells.items number ≡ false →
    is_err r ≡ is_full cells.places cells.items → after ≡ holding cells (added cells.places cells.items (Withheld number)) →
    MatchResult r (λ _. Marked cells after number true 0 (cond (withheld_in cells.items number) 0 1)) (λ _. after ≡ cells)
mark_put cells after number (Ok u) none e h =
    subst (λ l. Marked cells l number true 0 (cond (withheld_in cells.items number) 0 1))
    (sym (h ∙ ap (λ b. holding cells (cond b cells.items (cells.items ++ (Withheld number ∷ [])))) (sym e)))
    (marked_push cells number none)
mark_put cells after number (Err x) none e h = h ∙ ap (λ b. holding cells (cond b cells.items (cells.items ++ (Withheld number ∷ [])))) (sym e)
