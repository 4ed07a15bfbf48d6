-- One number more has its rank.
use Rattle.std.proofs.Common.{false, get_or, arith}
use Rattle.cycles.proofs.Tables.{holds_more, count_yes, count_no}
use Rattle.network.specs.Tables.{rank}
use Rattle.network.proofs.numbering.fill_ranks.Goals as goal
use Rattle.network.proofs.numbering.fill_ranks.Goals.{then-marks-k, else-marks-k}

pub loop-k-preserved : goal.loop-k-preserved
loop-k-preserved c =
    let marks = c.args.marks.now in
    let k = c.loop-k.k in
    let q = c.loop-k.invariant.1 in
    let b = c.loop-k.invariant.2 in
    let r = holds_more 0 (rank marks) c.loop-k.ranks k c.loop-k.total (omega arith) c.loop-k.invariant.0 q in
    elim c.if-marks-k.branch [
      | then-marks-k w ↦ (let y = count_yes (λ j. get_or marks j false) k w.if-marks-k.true in let z = w.total-is in (r, omega arith, omega arith))
      | else-marks-k w ↦ (let y = count_no (λ j. get_or marks j false) k w.if-marks-k.false in let z = w.total-is in (r, omega arith, omega arith))
    ]
