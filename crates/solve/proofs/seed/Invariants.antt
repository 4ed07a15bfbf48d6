-- The nodes so far are seeded.
use Rattle.std.proofs.Common.{◌≡◌, ℕ, ◌<◌, cond, ltb, length}
use Rattle.search.specs.Demands.{gives_of}
use Rattle.search.specs.Labels.{label_at}
use Rattle.solve.proofs.seed.Given as goal

abbrev pub invariant-loop-node : goal.invariant-loop-node
invariant-loop-node g l =
    ((k : ℕ) → k < l.node → ((label_at g.P.Price.ops l.labels.places.now k).price ≡ g.P.Price.ops.zero) × ((label_at g.P.Price.ops l.labels.places.now k).end ≡ cond (ltb 0 (gives_of l.left k)) 65534 65535))
    × (l.labels.used ≡ l.initial.labels.used)
    × (length l.labels.places.now ≡ length l.initial.labels.places.now)
    × (l.labels.places.ghost_name ≡ l.initial.labels.places.ghost_name)
