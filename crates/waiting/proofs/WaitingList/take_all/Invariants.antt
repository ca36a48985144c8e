use Rattle.std.proofs.Common.{◌≡◌, ◌≤◌, length, take, drop}
use Rattle.waiting.specs.Items.{others}
use Rattle.waiting.proofs.WaitingList.take_all.Given as goal

-- the others of those asked are at the front, and those not asked yet are where they were
abbrev pub invariant-loop-i : goal.invariant-loop-i
invariant-loop-i g l = record {
  kept : take l.self-inside.held l.self-inside.slots.now ≡ others (g.Q.Question.fits l.question) (take l.i l.initial.self-inside.slots.now);
  rest : drop l.i l.self-inside.slots.now ≡ drop l.i l.initial.self-inside.slots.now;
  behind : l.self-inside.held ≤ l.i;
  asked : l.i ≤ l.held;
  room : length l.self-inside.slots.now ≡ length l.initial.self-inside.slots.now;
}
