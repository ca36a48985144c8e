-- The cells of a new record, and the meaning with them in place of the old ones.
use Rattle.std.proofs.Common.{◌≡◌, ◌+◌, ◌≤◌, Bool, true, false, cond, List, [], ◌∷◌, ◌++◌, length, map, is_some, Some, None, count_by, Option, refl, ap, ◌∙◌, arith}
use Rattle.std.specs.Option.{option_or}
use Rattle.std.proofs.lemmas.List.{length-append, length-map}
use Rattle.std.proofs.lemmas.List.Folds.{find-append}
use Rattle.std.proofs.lemmas.List.Sums.{sum_by-append}
use Rattle.isup.specs.declared.message.Service.{Service}
use Rattle.numbers.specs.declared.number.Number.{Number}
use Rattle.waiting.specs.Items.{Waiting, holding, earliest, others}
use Rattle.options.specs.declared.question.Diversions.{Diversions}
use Rattle.options.specs.declared.record.Kind.{Kind}
use Rattle.options.specs.declared.record.Record.{Record}
use Rattle.options.specs.declared.record.Services.{Services}
use Rattle.options.specs.declared.record.Services.TheVariants.{One, All}
use Rattle.options.specs.declared.cells.Cell.{Cell}
use Rattle.options.specs.declared.cells.Cell.TheVariants.{Diversion}
use Rattle.options.specs.Records.{services_in, service_count, same_kind, same_service}
use Rattle.options.specs.Cells.{covers, is_diversion, for_one, is_withheld, record_in, Diverted, new_cells}
use Rattle.options.proofs.Lists.{earliest_without, count_without, length_without, count_none}
use Rattle.options.proofs.Meaning.{fits_covers, same_sym, or_none, withheld_without}

same_service_sym : (a b : Service) → same_service a b ≡ same_service b a
same_service_sym a b = grind arith

same_kind_sym : (a b : Kind) → same_kind a b ≡ same_kind b a
same_kind_sym a b = grind arith

-- what the new cells hold
new_held :
    (number : Number) (services : Services) (kind : Kind) (r : Record Number) (n : Number) (s : Service) (k : Kind) →
    let meant : Diversions = record { number = number; services = services; kind = kind } in
    record_in (earliest (is_diversion (for_one n s k)) (new_cells meant r)) ≡ cond (covers meant n s k) (Some r) None
new_held number (One t) kind r n s k =
    let a = same_sym n number in
    let b = same_service_sym s t in
    let c = same_kind_sym k kind in
    grind arith
new_held number All kind r n s k =
    let a = same_sym n number in
    let c = same_kind_sym k kind in
    grind arith

-- at most one of the new cells fits a question
new_counted :
    (number : Number) (services : Services) (kind : Kind) (r : Record Number) (n : Number) (s : Service) (k : Kind) →
    let meant : Diversions = record { number = number; services = services; kind = kind } in
    count_by (is_diversion (for_one n s k)) (new_cells meant r) ≡ cond (covers meant n s k) 1 0
new_counted number (One t) kind r n s k =
    let a = same_sym n number in
    let b = same_service_sym s t in
    let c = same_kind_sym k kind in
    grind arith
new_counted number All kind r n s k =
    let a = same_sym n number in
    let c = same_kind_sym k kind in
    grind arith

services_counted : (services : Services) → length (services_in services) ≡ service_count services
services_counted (One t) = refl
services_counted All = refl

new_length : (meant : Diversions) (r : Record Number) → length (new_cells meant r) ≡ service_count meant.services
new_length meant r =
    length-map (services_in meant.services) (λ s. Diversion meant.number s meant.kind r) ∙ services_counted meant.services

-- no new cell holds that a number is withheld
new_withheld : (meant : Diversions) (services : List Service) (r : Record Number) (n : Number) →
    earliest (is_withheld n) (map (λ s. Diversion meant.number s meant.kind r) services) ≡ None
new_withheld meant [] r n = refl
new_withheld meant (s ∷ ss) r n = new_withheld meant ss r n

or_record :
    (b : Bool) (e f : Option Cell) (r : Record Number) → record_in f ≡ cond b (Some r) None →
    record_in (option_or (cond b None e) f) ≡ cond b (Some r) (record_in e)
or_record b e f r h = grind arith

one_fits :
    (cells new : List Cell) (q p : Cell → Bool) (b : Bool) → ((x : Cell) → q x ≡ true → p x ≡ b) →
    count_by q new ≡ cond b 1 0 → count_by q cells ≤ 1 → count_by q (others p cells ++ new) ≤ 1
one_fits cells new q p true h c few =
    let sum = sum_by-append (λ x. cond (q x) 1 0) (others p cells) new in
    let zero = count_none q (others p cells) (ap is_some (earliest_without p q true h cells)) in
    omega arith
one_fits cells new q p false h c few =
    let sum = sum_by-append (λ x. cond (q x) 1 0) (others p cells) new in
    let less = count_without p q cells in
    omega arith

-- the old cells emptied and the new ones filled
pub diverted_new :
    (cells : Waiting Cell) (meant : Diversions) (r : Record Number) →
    Diverted cells (holding cells (others (is_diversion meant) cells.items ++ new_cells meant r)) meant (Some r) (service_count meant.services)
diverted_new cells meant r =
    let p : Cell → Bool = is_diversion meant in
    let new : List Cell = new_cells meant r in
    let kept = others p cells.items in
    let apart = new_withheld meant (services_in meant.services) r in
    record {
      held = λ n s k.
          ap record_in (find-append (is_diversion (for_one n s k)) kept new)
          ∙ ap (λ e. record_in (option_or e (earliest (is_diversion (for_one n s k)) new)))
          (earliest_without p (is_diversion (for_one n s k)) (covers meant n s k) (fits_covers meant n s k) cells.items)
          ∙ or_record (covers meant n s k) (earliest (is_diversion (for_one n s k)) cells.items) (earliest (is_diversion (for_one n s k)) new) r
          (new_held meant.number meant.services meant.kind r n s k);
      withheld = λ n.
          ap is_some (find-append (is_withheld n) kept new)
          ∙ ap (λ e. is_some (option_or (earliest (is_withheld n) kept) e)) (apart n)
          ∙ ap is_some (or_none (earliest (is_withheld n) kept))
          ∙ withheld_without cells.items meant n;
      count =
          (let joined = length-append kept new in
          let l = new_length meant r in
          let h = length_without p cells.items in
          omega arith);
      single = λ σ. record {
        diversions = λ n s k.
            one_fits cells.items new (is_diversion (for_one n s k)) p (covers meant n s k) (fits_covers meant n s k)
            (new_counted meant.number meant.services meant.kind r n s k) (σ.diversions n s k);
        numbers = λ n.
            (let sum : count_by (is_withheld n) (kept ++ new) ≡ count_by (is_withheld n) kept + count_by (is_withheld n) new =
            sum_by-append (λ x. cond (is_withheld n x) 1 0) kept new in
            let zero = count_none (is_withheld n) new (ap is_some (apart n)) in
            let less = count_without p (is_withheld n) cells.items in
            let few = σ.numbers n in
            omega arith);
      };
      room = refl;
    }
