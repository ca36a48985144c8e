use Rattle.std.proofs.Common.{◌≡◌, ◌-◌, ◌≤◌, length}
use Rattle.decode.specs.Optional.{optional_from}
use Rattle.decode.proofs.Walks.{Comes}
use Rattle.decode.proofs.optional.read_optional.Given as goal

abbrev pub invariant-loop-p : goal.invariant-loop-p
invariant-loop-p l =
    record {
      within : l.part.place ≤ length l.initial.part.octets.now;
      same : l.part.octets.now ≡ l.initial.part.octets.now;
      flags : length l.met ≡ 256;
      comes : Comes l.row l.initial.part.octets.now l.part.place l.met l.walk (optional_from l.row l.initial.part.octets.now l.initial.part.place);
    }

abbrev pub decreases-loop-p : goal.decreases-loop-p
decreases-loop-p l = length l.initial.part.octets.now - l.part.place
