-- One number more is tallied, or passed over.
use Rattle.std.proofs.Common.{ℕ, ◌+◌, ◌<◌, List, length, get_or, sym, ◌∙◌, subst, arith, rules}
use Rattle.embedding.specs.Tables.{Holds}
use Rattle.cycles.specs.Cycles.{tallied}
use Rattle.cycles.proofs.Tallying.{tally_yes, tally_no, tally_le}
use Rattle.cycles.proofs.tally.Goals as goal
use Rattle.cycles.proofs.tally.Goals.{then-chosen-k, else-chosen-k}

pub count_one-requires : goal.count_one-requires
count_one-requires c =
    let h = c.requires.inside c.loop-k.k (omega arith) in
    let b = tally_le c.args.keys.now c.args.chosen.now c.loop-k.tallies c.loop-k.k (length c.args.tallies.now) c.loop-k.invariant (get_or c.args.keys.now c.loop-k.k 0) h in
    record { inside = omega arith; small = search rules }

pub loop-k-preserved : goal.loop-k-preserved
loop-k-preserved c =
    let keys = c.args.keys.now in
    let chosen = c.args.chosen.now in
    let k = c.loop-k.k in
    let m = length c.args.tallies.now in
    let h : get_or keys k 0 < length c.loop-k.tallies = let i = c.requires.inside k (omega arith) in omega arith in
    elim c.if-chosen-k.branch [
      | then-chosen-k w ↦ subst (λ (xs : List ℕ). Holds 0 (tallied keys chosen (k + 1)) xs m) (sym (w.tallies-is ∙ w.count_one.ensures)) (tally_yes keys chosen c.loop-k.tallies k m c.loop-k.invariant w.if-chosen-k.true h)
      | else-chosen-k w ↦ subst (λ (xs : List ℕ). Holds 0 (tallied keys chosen (k + 1)) xs m) (sym w.tallies-is) (tally_no keys chosen c.loop-k.tallies k m c.loop-k.invariant w.if-chosen-k.false)
    ]
