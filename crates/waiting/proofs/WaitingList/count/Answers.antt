use Rattle.std.proofs.Common.{◌+◌, ◌<◌, true, rules, arith}
use Rattle.std.proofs.lemmas.Iterator.{YieldsList-from_slice}
use Rattle.std.proofs.lemmas.Iterator.Adapters.{serves_from_total}
use Rattle.std.proofs.lemmas.List.Sums.{count_by-le-length}
use Rattle.waiting.proofs.WaitingList.count.Goals as goal

-- a turn adds 1 at most, and there are no more turns than elements
pub fold-requires-clause-callable : goal.fold-requires-clause-callable
fold-requires-clause-callable g c =
    serves_from_total (YieldsList-from_slice c.args.self.now.items cc) (λ _. 1) (λ n x q k. search rules)
    (λ n x e. let few : n + 1 < 18446744073709551616 = grind (arith, count_by-le-length (λ _. true) c.args.self.now.items) in search rules)
