-- The count in use goes with the turns, and the places stay the lender's.
use Rattle.std.proofs.Common.{◌≡◌, length}
use Rattle.search.proofs.make_labels.Given as goal

abbrev pub invariant-loop : goal.invariant-loop
invariant-loop g l =
    (l.labels.used ≡ l.counter)
    × (length l.labels.places.now ≡ length l.initial.labels.places.now)
    × (l.labels.places.ghost_name ≡ l.initial.labels.places.ghost_name)
