-- One walk over the optional part finds what three passes would.
use Rattle.std.proofs.Common.{◌≡◌, ℕ, zero, suc, ◌+◌, ◌<◌, ◌≤◌, Bool, true, false, cond, ◌||◌, List, [], ◌∷◌, length, get_or, set, replicate, Some, None, Ok, Err, Option, Result, sym, refl, ap, ◌∙◌, subst, inl, inr, arith}
use Rattle.std.proofs.lemmas.List.{get_or-set_same, get_or-set_other, length-set, length-replicate}
use Rattle.std.proofs.lemmas.Bool.Decides.{nat_tests, eqb_tells}
use Rattle.std.proofs.lemmas.Bool.{cases_Bool}
use Rattle.decode.specs.declared.fault.MessageFault.{MessageFault}
use Rattle.decode.specs.declared.fault.MessageFault.TheVariants as fault
use Rattle.isup.specs.declared.row.Row.{Row}
use Rattle.isup.specs.declared.row.Row.TheVariants.{Initial, Backward, Connected, Bare}
use Rattle.isup.specs.Rows.{has}
use Rattle.decode.specs.declared.optional.Gathered.{Gathered}
use Rattle.decode.specs.declared.optional.Walk.{Walk}
use Rattle.decode.specs.Faults.{then}
use Rattle.decode.specs.Parameters.{Part, Step, closed, given, refused, step_at, after, parts_by}
use Rattle.decode.specs.Optional.{member, repeated, collected, unless_repeated, nothing, start, value_of, keep_of, add_of, walk_after, met_after, end_of, optional_from}

abbrev Out : Type 0
Out = Result Gathered MessageFault

abbrev pub run : Row → List Bool → Walk → List Part → Out
run row met s [] = end_of s
run row met s (p ∷ ps) = run row (met_after row met p) (walk_after row met s p) ps

-- the walk from a place on, at most k steps
abbrev pub run_by : ℕ → Row → List ℕ → ℕ → List Bool → Walk → Out
run_by zero row octets at met s = Err (fault.Optional at)
run_by (suc k) row octets at met s =
    elim (step_at octets at)
    [ closed ↦ end_of s | given p ↦ run_by k row octets (at + 2 + length p.content) (met_after row met p) (walk_after row met s p) | refused f ↦ Err f ]

abbrev over : Row → List Bool → Walk → Result (List Part) MessageFault → Out
over row met s (Ok ps) = run row met s ps
over row met s (Err f) = Err f

over_consed :
    (row : Row) (met : List Bool) (s : Walk) (p : Part) (r : Result (List Part) MessageFault) →
    over row (met_after row met p) (walk_after row met s p) r ≡ over row met s (elim r [ Ok ps ↦ Ok (p ∷ ps) | Err f ↦ Err f ])
over_consed row met s p (Ok ps) = refl
over_consed row met s p (Err f) = refl

at_step :
    (k : ℕ) (row : Row) (xs : List ℕ) (at : ℕ) (met : List Bool) (s : Walk) (t : Step) →
    ((p : Part) → run_by k row xs (at + 2 + length p.content) (met_after row met p) (walk_after row met s p)
    ≡ over row (met_after row met p) (walk_after row met s p) (parts_by k xs (at + 2 + length p.content))) →
    elim t as (λ _. Out)
    [ closed ↦ end_of s | given p ↦ run_by k row xs (at + 2 + length p.content) (met_after row met p) (walk_after row met s p) | refused f ↦ Err f ]
    ≡ over row met s (elim t as (λ _. Result (List Part) MessageFault)
    [ closed ↦ Ok [] | given p ↦ elim (parts_by k xs (at + 2 + length p.content)) [ Ok ps ↦ Ok (p ∷ ps) | Err f ↦ Err f ] | refused f ↦ Err f ])
at_step k row xs at met s closed ih = refl
at_step k row xs at met s (refused f) ih = refl
at_step k row xs at met s (given p) ih = ih p ∙ over_consed row met s p (parts_by k xs (at + 2 + length p.content))

by_parts :
    (k : ℕ) (row : Row) (xs : List ℕ) (at : ℕ) (met : List Bool) (s : Walk) → run_by k row xs at met s ≡ over row met s (parts_by k xs at)
by_parts zero row xs at met s = refl
by_parts (suc k) row xs at met s =
    at_step k row xs at met s (step_at xs at) (λ p. by_parts k row xs (at + 2 + length p.content) (met_after row met p) (walk_after row met s p))

-- once a name was met again, nothing else counts
abbrev found : Gathered → Option MessageFault → Option ℕ → Walk
found g f a = record { gathered = g; fault = f; again = a }

again_kept : (row : Row) (b m : Bool) (g : Gathered) (f : Option MessageFault) (place : ℕ) (p : Part) →
    (h : Gathered) × ((e : Option MessageFault) × (cond b (add_of (found g f (Some place)) p m) (found g f (Some place)) ≡ found h e (Some place)))
again_kept row false m g f place p = (g, (f, refl))
again_kept row true true g f place p = (g, (f, refl))
again_kept row true false g (Some f) place p = (g, (Some f, refl))
again_kept row true false g None place p = kept (value_of g p)
  where
    kept : (r : Out) → (h : Gathered) × ((e : Option MessageFault) × (keep_of (found g None (Some place)) r ≡ found h e (Some place)))
    kept (Ok h) = (h, (None, refl))
    kept (Err e) = (g, (Some e, refl))

run_again : (row : Row) (met : List Bool) (g : Gathered) (f : Option MessageFault) (place : ℕ) (ps : List Part) → run row met (found g f (Some place)) ps ≡ Err (fault.Repeated place)
run_again row met g f place [] = refl
run_again row met g f place (p ∷ ps) =
    let k = again_kept row (has row p.name) (get_or met p.name false) g f place p in
    ap (λ (s : Walk). run row (met_after row met p) s ps) k.1.1 ∙ run_again row (met_after row met p) k.0 k.1.0 place ps

-- the flags say which names of the row were met
abbrev Flags : Row → List Bool → List ℕ → Type 0
Flags row met names = (length met ≡ 256) × ((n : ℕ) → has row n ≡ true → get_or met n false ≡ member n names)

small : (row : Row) (n : ℕ) → has row n ≡ true → n < 256
small Initial n e = grind (arith, nat_tests)
small Backward n e = grind (arith, nat_tests)
small Connected n e = grind (arith, nat_tests)
small Bare n e = grind (arith, nat_tests)

flags_more : (row : Row) (met : List Bool) (names : List ℕ) (n : ℕ) → has row n ≡ true → Flags row met names → Flags row (set met n true) (n ∷ names)
flags_more row met names n e f = (
  length-set met n true ∙ f.0,
  λ m h. elim (eqb_tells m n) [
    | inl t ↦ (let s = small row n e in let l = f.0 in
        ap (λ (j : ℕ). get_or (set met n true) j false) t.1 ∙ get_or-set_same met n true false (omega arith) ∙ sym (ap (λ b. b || member m names) t.0))
    | inr t ↦ get_or-set_other met n m true false t.1 ∙ f.1 m h ∙ sym (ap (λ b. b || member m names) t.0)
  ],
)

-- a fault stays, and what is met again still counts
run_fault :
    (row : Row) (met : List Bool) (names : List ℕ) (g : Gathered) (f : MessageFault) (ps : List Part) → Flags row met names →
    run row met (found g (Some f) None) ps ≡ unless_repeated (repeated row names ps) (Err f)
run_fault row met names g f [] fl = refl
run_fault row met names g f (p ∷ ps) fl =
    elim (cases_Bool (has row p.name)) [
      | inl e ↦ elim (cases_Bool (member p.name names)) [
        | inl m ↦ rw (e, fl.1 p.name e ∙ m, m) (run_again row (set met p.name true) g (Some f) p.place ps)
        | inr m ↦ rw (e, fl.1 p.name e ∙ m, m) (run_fault row (set met p.name true) (p.name ∷ names) g f ps (flags_more row met names p.name e fl))
      ]
      | inr e ↦ rw e (run_fault row met names g f ps fl)
    ]

took :
    (row : Row) (met : List Bool) (names : List ℕ) (g : Gathered) (ps : List Part) (r : Out) → Flags row met names →
    ((h : Gathered) → run row met (found h None None) ps ≡ unless_repeated (repeated row names ps) (collected row h ps)) →
    run row met (keep_of (found g None None) r) ps ≡ unless_repeated (repeated row names ps) (then r (λ h. collected row h ps))
took row met names g ps (Ok h) fl ih = ih h
took row met names g ps (Err f) fl ih = run_fault row met names g f ps fl

run_is :
    (row : Row) (met : List Bool) (names : List ℕ) (g : Gathered) (ps : List Part) → Flags row met names →
    run row met (found g None None) ps ≡ unless_repeated (repeated row names ps) (collected row g ps)
run_is row met names g [] fl = refl
run_is row met names g (p ∷ ps) fl =
    elim (cases_Bool (has row p.name)) [
      | inl e ↦ elim (cases_Bool (member p.name names)) [
        | inl m ↦ rw (e, fl.1 p.name e ∙ m, m) (run_again row (set met p.name true) g None p.place ps)
        | inr m ↦ rw (e, fl.1 p.name e ∙ m, m)
            (took row (set met p.name true) (p.name ∷ names) g ps (value_of g p) (flags_more row met names p.name e fl)
            (λ h. run_is row (set met p.name true) (p.name ∷ names) h ps (flags_more row met names p.name e fl)))
      ]
      | inr e ↦ rw e (run_is row met names g ps fl)
    ]

nothing_met : (n k : ℕ) → get_or (replicate k false) n false ≡ false
nothing_met n zero = refl
nothing_met zero (suc k) = refl
nothing_met (suc n) (suc k) = nothing_met n k

over_is : (row : Row) (r : Result (List Part) MessageFault) →
    over row (replicate 256 false) start r ≡ elim r as (λ _. Out) [ Ok ps ↦ unless_repeated (repeated row [] ps) (collected row nothing ps) | Err f ↦ Err f ]
over_is row (Ok ps) = run_is row (replicate 256 false) [] nothing ps (length-replicate 256 false, λ n h. nothing_met n 256)
over_is row (Err f) = refl

pub walk_is : (row : Row) (xs : List ℕ) (at : ℕ) → run_by (length xs + 1) row xs at (replicate 256 false) start ≡ optional_from row xs at
walk_is row xs at = by_parts (length xs + 1) row xs at (replicate 256 false) start ∙ over_is row (parts_by (length xs + 1) xs at)

-- what the walk from a place on comes to, in some number of steps
pub record Comes (row : Row) (xs : List ℕ) (at : ℕ) (met : List Bool) (s : Walk) (out : Out) : Type 0 where
  pub steps : ℕ
  pub enough : length xs < steps + at
  pub is : run_by steps row xs at met s ≡ out

pub begins : (row : Row) (xs : List ℕ) (at : ℕ) → Comes row xs at (replicate 256 false) start (optional_from row xs at)
begins row xs at = record { steps = length xs + 1; enough = omega arith; is = walk_is row xs at }

-- what stands at the place decides how it goes on
abbrev cont : ℕ → Row → List ℕ → ℕ → List Bool → Walk → Step → Out
cont k row xs at met s t =
    elim t as (λ _. Out)
    [ closed ↦ end_of s | given p ↦ run_by k row xs (at + 2 + length p.content) (met_after row met p) (walk_after row met s p) | refused f ↦ Err f ]

one_step :
    (row : Row) (xs : List ℕ) (at : ℕ) (met : List Bool) (s : Walk) (out : Out) (t : Step) → Comes row xs at met s out → at ≤ length xs → t ≡ step_at xs at →
    (k : ℕ) × ((length xs < suc k + at) × (cont k row xs at met s t ≡ out))
one_step row xs at met s out t c b e = at_steps c.steps c.enough c.is
  where
    at_steps : (k : ℕ) → length xs < k + at → run_by k row xs at met s ≡ out → (j : ℕ) × ((length xs < suc j + at) × (cont j row xs at met s t ≡ out))
    at_steps zero h i = absurd (omega arith)
    at_steps (suc k) h i = (k, (h, ap (cont k row xs at met s) e ∙ i))

pub stops : (row : Row) (xs : List ℕ) (at : ℕ) (met : List Bool) (s : Walk) (out : Out) → Comes row xs at met s out → at ≤ length xs → closed ≡ step_at xs at → end_of s ≡ out
stops row xs at met s out c b e = (one_step row xs at met s out closed c b e).1.1

pub fails :
    (row : Row) (xs : List ℕ) (at : ℕ) (met : List Bool) (s : Walk) (out : Out) (f : MessageFault) → Comes row xs at met s out → at ≤ length xs → refused f ≡ step_at xs at → Err f ≡ out
fails row xs at met s out f c b e = (one_step row xs at met s out (refused f) c b e).1.1

pub ahead :
    (row : Row) (xs : List ℕ) (at to : ℕ) (met : List Bool) (s : Walk) (out : Out) (p : Part) → Comes row xs at met s out → at ≤ length xs →
    given p ≡ step_at xs at → to ≡ after (step_at xs at) at → Comes row xs to (met_after row met p) (walk_after row met s p) out
ahead row xs at to met s out p c b e t =
    let a = one_step row xs at met s out (given p) c b e in
    let t' : at + 2 + length p.content ≡ to = sym (t ∙ sym (ap (λ (q : Step). after q at) e)) in
    subst (λ (z : ℕ). Comes row xs z (met_after row met p) (walk_after row met s p) out) t' (record { steps = a.0; enough = omega arith; is = a.1.1 })

-- a parameter of the row is added, and another is passed over
pub ahead_then :
    (row : Row) (xs : List ℕ) (at to n : ℕ) (met : List Bool) (s s' : Walk) (out : Out) (p : Part) → Comes row xs at met s out → at ≤ length xs →
    given p ≡ step_at xs at → to ≡ after (step_at xs at) at → n ≡ p.name → true ≡ has row n → s' ≡ add_of s p (get_or met n false) → Comes row xs to (set met n true) s' out
ahead_then row xs at to n met s s' out p c b e t i q r =
    let a = ahead row xs at to met s out p c b e t in
    let q' : has row p.name ≡ true = sym (q ∙ ap (has row) i) in
    rw (r, i) (rw q' at a)

pub ahead_else :
    (row : Row) (xs : List ℕ) (at to n : ℕ) (met : List Bool) (s : Walk) (out : Out) (p : Part) → Comes row xs at met s out → at ≤ length xs →
    given p ≡ step_at xs at → to ≡ after (step_at xs at) at → n ≡ p.name → false ≡ has row n → Comes row xs to met s out
ahead_else row xs at to n met s out p c b e t i q =
    let a = ahead row xs at to met s out p c b e t in
    let q' : has row p.name ≡ false = sym (q ∙ ap (has row) i) in
    rw q' at a
