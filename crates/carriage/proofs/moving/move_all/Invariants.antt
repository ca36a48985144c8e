use Rattle.std.proofs.Common.{◌≡◌, ◌+◌}
use Rattle.carriage.specs.Carried.{between}
use Rattle.carriage.specs.Moved.{free_of, left_behind, moved_onto}
use Rattle.carriage.proofs.moving.move_all.Given as goal

-- moving on from here gives what moving from the start gives
abbrev pub invariant-loop-moved : goal.invariant-loop-moved
invariant-loop-moved g l =
    let s = g.S.Carrier.waiting l.source in
    let t = g.T.Carrier.waiting l.target in
    let s0 = g.S.Carrier.waiting l.initial.source in
    let t0 = g.T.Carrier.waiting l.initial.target in
    record {
      left : left_behind (between l.ends) s t ≡ left_behind (between l.ends) s0 t0;
      moved : moved_onto (between l.ends) s t ≡ moved_onto (between l.ends) s0 t0;
      room : l._moved + free_of t ≡ l._moved-end;
    }
