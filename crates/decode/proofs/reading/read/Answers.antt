use Rattle.std.proofs.Common.{arith}
use Rattle.decode.proofs.Law.{read_as_coded}
use Rattle.decode.proofs.reading.read.Goals as goal

pub returns : goal.returns
returns c =
    record {
      answer = c.front_to_back.ensures;
      coded = read_as_coded c.args.octets.now c.front_to_back.result (λ k. (let t = c.type_inv.octets k in omega arith)) c.front_to_back.ensures;
    }
