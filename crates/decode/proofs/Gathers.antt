-- What is gathered from the optional part is what its parameters carry.
use Rattle.std.proofs.Common.{◌≡◌, ℕ, Bool, true, false, cond, eqb, List, [], ◌∷◌, ◌++◌, Some, None, Ok, Option, Result, sym, refl, ap, ◌∙◌, subst, inl, inr, arith}
use Rattle.std.proofs.lemmas.Bool.Decides.{nat_tests}
use Rattle.std.proofs.lemmas.Bool.{or_parts, cases_Bool, cond-true, cond-false}
use Rattle.numbers.specs.Digits.{content, plain}
use Rattle.numbers.proofs.Contents.{passed}
use Rattle.isup.specs.declared.row.Row.{Row}
use Rattle.isup.specs.declared.row.Row.TheVariants.{Initial, Backward, Connected, Bare}
use Rattle.isup.specs.Rows.{has}
use Rattle.isup.specs.Coding.{contents, information_octets, diversion_octets, restriction_octets}
use Rattle.decode.specs.declared.fault.MessageFault.{MessageFault}
use Rattle.decode.specs.declared.fault.MessageFault.TheVariants as fault
use Rattle.decode.specs.declared.optional.Gathered.{Gathered}
use Rattle.decode.specs.Faults.{then}
use Rattle.decode.specs.Values.{is_octet}
use Rattle.decode.specs.Parameters.{Part, known}
use Rattle.decode.specs.Optional.{member, repeated, collected, nothing, octet_at, value_of, unless_repeated, with_redirecting, with_original, with_information, with_may_divert, with_announced, with_diversion, with_redirection, with_restriction}
use Rattle.decode.proofs.Passed.{other, value_found, both, by_name}
use Rattle.decode.proofs.ValuesRead.{content_octets, plain_octets, information_octets_lem, diversion_octets_lem, restriction_octets_lem, lone_octet}
use Rattle.decode.proofs.Parts.{without_places}
use Rattle.decode.proofs.Fields.{gathered_field}

-- a content stands under a name, and what stands under the others is as before
abbrev Placed : Gathered → ℕ → List ℕ → Gathered → Type 0
Placed g n c h = (m : ℕ) → gathered_field h m ≡ cond (eqb m n) (c ∷ []) (gathered_field g m)

-- a value that is read and kept
placed :
    {X : Type 0} (g h : Gathered) (n : ℕ) (c : List ℕ) (octets : X → List ℕ) (with : X → Gathered) (r : Result X MessageFault) →
    ((x : X) → r ≡ Ok x → c ≡ octets x) → ((x : X) → Placed g n (octets x) (with x)) → then r (λ x. Ok (with x)) ≡ Ok h → Placed g n c h
placed g h n c octets with r from puts e = grind (arith, nat_tests)

placed_octet :
    (g h k : Gathered) (n octet place : ℕ) (c : List ℕ) → Placed g n (octet ∷ []) k → octet_at place c octet k ≡ Ok h → Placed g n c h
placed_octet g h k n octet place c put e =
    let p = passed (is_octet c octet) h (fault.Value place None) (Ok k) e in
    let is : k ≡ h = cc p.1 in
    subst (Placed g n c) is (subst (λ (l : List ℕ). Placed g n l k) (sym (lone_octet c octet p.0)) put)

-- the value of a name is its content, placed under it
abbrev ValuePlaced : Gathered → Gathered → List ℕ → ℕ → ℕ → Type 0
ValuePlaced g h c place n = value_of g (record { name = n; content = c; place = place }) ≡ Ok h → Placed g n c h

value_placed : (g h : Gathered) (c : List ℕ) (place n : ℕ) → known n ≡ true → ValuePlaced g h c place n
value_placed g h c place n k =
    let P = ValuePlaced g h c place in
    by_name P n 0x0B (placed g h 0x0B c content (with_redirecting g) _ (content_octets c place) (λ x m. grind (arith, nat_tests))) (λ n0b.
    by_name P n 0x28 (placed g h 0x28 c content (with_original g) _ (content_octets c place) (λ x m. grind (arith, nat_tests))) (λ n28.
    by_name P n 0x13 (placed g h 0x13 c information_octets (with_information g) _ (λ x e. information_octets_lem c x (value_found _ place x e)) (λ x m. grind (arith, nat_tests))) (λ n13.
    by_name P n 0x29 (placed_octet g h (with_may_divert g) 0x29 0x02 place c (λ m. grind (arith, nat_tests))) (λ n29.
    by_name P n 0x2C (placed_octet g h (with_announced g) 0x2C 0xFB place c (λ m. grind (arith, nat_tests))) (λ n2c.
    by_name P n 0x36 (placed g h 0x36 c diversion_octets (with_diversion g) _ (λ x e. diversion_octets_lem c x (value_found _ place x e)) (λ x m. grind (arith, nat_tests))) (λ n36.
    by_name P n 0x0C (placed g h 0x0C c (λ x. plain x.number) (with_redirection g) _ (plain_octets c place) (λ x m. grind (arith, nat_tests))) (λ n0c.
    by_name P n 0x40 (placed g h 0x40 c restriction_octets (with_restriction g) _ (λ x e. restriction_octets_lem c x (value_found _ place x e)) (λ x m. grind (arith, nat_tests))) (λ n40.
    absurd (grind (arith, nat_tests))))))))))

row_known : (row : Row) (n : ℕ) → has row n ≡ true → known n ≡ true
row_known Initial n e = grind (arith, nat_tests)
row_known Backward n e = grind (arith, nat_tests)
row_known Connected n e = grind (arith, nat_tests)
row_known Bare n e = grind (arith, nat_tests)

unmet : (b : Bool) (place : ℕ) (o : Option ℕ) → cond b (Some place) o ≡ None → (b ≡ false) × (o ≡ None)
unmet false place o e = (refl, e)
unmet true place o e = cc

-- nothing stands under the names of the row that are not met yet
abbrev Unmet : Row → List ℕ → Gathered → Type 0
Unmet row met g = (n : ℕ) → member n met ≡ false → has row n ≡ true → gathered_field g n ≡ []

pub nothing_unmet : (row : Row) → Unmet row [] nothing
nothing_unmet row n m k = grind (arith, nat_tests)

one_more :
    (row : Row) (met : List ℕ) (g h : Gathered) (p : Part) (rest : List (List ℕ)) (n : ℕ) → Placed g p.name p.content h → member p.name met ≡ false → Unmet row met g →
    has row n ≡ true → gathered_field h n ++ rest ≡ gathered_field g n ++ cond (eqb n p.name) (p.content ∷ rest) rest
one_more row met g h p rest n put new empty k = grind (arith, nat_tests)

gathers :
    (row : Row) (met : List ℕ) (g h : Gathered) (ps : List Part) → repeated row met ps ≡ None → collected row g ps ≡ Ok h → Unmet row met g →
    (n : ℕ) → has row n ≡ true → gathered_field h n ≡ gathered_field g n ++ contents n (without_places ps)
gathers row met g h [] r e empty n k = grind (arith, nat_tests)
gathers row met g h (p ∷ ps) r e empty n k =
    elim (cases_Bool (has row p.name)) [
      | inl t ↦
          (let new = unmet (member p.name met) p.place (repeated row (p.name ∷ met) ps) (sym (cond-true (has row p.name) _ _ t) ∙ r) in
          let a = both (value_of g p) (λ x. collected row x ps) h (sym (cond-true (has row p.name) _ _ t) ∙ e) in
          let put = value_placed g a.value p.content p.place p.name (row_known row p.name t) a.first in
          let empty' : Unmet row (p.name ∷ met) a.value =
          λ m q s. (let o = or_parts (eqb m p.name) (member m met) q in put m ∙ cond-false (eqb m p.name) _ _ o.0 ∙ empty m o.1 s) in
          gathers row (p.name ∷ met) a.value h ps new.1 a.next empty' n k
          ∙ one_more row met g a.value p (contents n (without_places ps)) n put new.0 empty k)
      | inr f ↦
          gathers row met g h ps (sym (cond-false (has row p.name) _ _ f) ∙ r) (sym (cond-false (has row p.name) _ _ f) ∙ e) empty n k
          ∙ ap (λ (l : List (List ℕ)). gathered_field g n ++ l) (sym (cond-false (eqb n p.name) _ _ (other row n p.name k f)))
    ]

-- what was gathered without a name met again is what the parameters carry
pub carried :
    (row : Row) (h : Gathered) (ps : List Part) → unless_repeated (repeated row [] ps) (collected row nothing ps) ≡ Ok h →
    (n : ℕ) → has row n ≡ true → contents n (without_places ps) ≡ gathered_field h n
carried row h ps e n k =
    let u = once (repeated row [] ps) (collected row nothing ps) e in
    sym (gathers row [] nothing h ps u.0 u.1 (nothing_unmet row) n k
    ∙ ap (λ (l : List (List ℕ)). l ++ contents n (without_places ps)) (nothing_unmet row n refl k))
  where
    once : (o : Option ℕ) (r : Result Gathered MessageFault) → unless_repeated o r ≡ Ok h → (o ≡ None) × (r ≡ Ok h)
    once None r e = (refl, e)
    once (Some place) r e = cc
