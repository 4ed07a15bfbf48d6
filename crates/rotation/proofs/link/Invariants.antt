-- The ends before the index are linked, and the last of each station among them is known.
use Rattle.std.proofs.Common.{◌≡◌, length, None}
use Rattle.embedding.specs.Tables.{Holds}
use Rattle.rotation.specs.Chains.{last_end, end_before}
use Rattle.rotation.proofs.link.Given as goal

abbrev pub invariant-loop-e : goal.invariant-loop-e
invariant-loop-e l = record {
  long : length l.lasts ≡ length l.initial.lasts;
  room : length l.befores ≡ 512;
  lasts : Holds None (last_end l.cave.legs.now l.e) l.lasts 10000;
  befores : Holds None (end_before l.cave.legs.now) l.befores l.e;
}
