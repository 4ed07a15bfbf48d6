-- The legs in front are those of the changes before the index, and no more than these.
use Rattle.std.proofs.Common.{◌≡◌, ◌≤◌, take}
use Rattle.replay.specs.Replay.{replayed}
use Rattle.replay.proofs.replay.Given as goal

abbrev pub invariant-loop-change : goal.invariant-loop-change
invariant-loop-change l = (l.count ≤ l.change-index) × (take l.count l.legs ≡ replayed (take l.change-index l.changes))
