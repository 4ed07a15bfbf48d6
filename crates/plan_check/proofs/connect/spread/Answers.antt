-- One leg more: it has one station visited and gets both, or nothing changes.
use Rattle.std.proofs.Common.{sym, ◌∙◌, length, ◌<◌, ◌+◌, arith}
use Rattle.embedding.proofs.Distinct.{leg_stations}
use Rattle.plan_check.specs.Visits.{from_at, to_at}
use Rattle.plan_check.proofs.Spreading.{takes, keeps, as_is, differ, agree}
use Rattle.plan_check.proofs.connect.spread.Goals as goal
use Rattle.plan_check.proofs.connect.spread.Goals.{then-is_half_visited, else-is_half_visited}

pub is_half_visited-requires : goal.is_half_visited-requires
is_half_visited-requires c = let h = leg_stations c.args.legs.now c.loop-leg.leg-index c.requires.valid (omega arith) in let a = h.0 in let b = h.1 in let n = c.loop-leg.invariant.long in (omega arith, omega arith)

pub visit_both-requires : goal.visit_both-requires
visit_both-requires c = let h = leg_stations c.args.legs.now c.loop-leg.leg-index c.requires.valid (omega arith) in let a = h.0 in let b = h.1 in let n = c.loop-leg.invariant.long in (omega arith, omega arith)

pub loop-leg-preserved : goal.loop-leg-preserved
loop-leg-preserved c =
    let legs = c.args.legs.now in
    let i = c.loop-leg.leg-index in
    let h = leg_stations legs i c.requires.valid (omega arith) in
    let n = c.loop-leg.invariant.long in
    let la : from_at legs i < length c.loop-leg.visited = let a = h.0 in omega arith in
    let lb : to_at legs i < length c.loop-leg.visited = let a = h.1 in omega arith in
    elim c.if-is_half_visited.branch [
      | then-is_half_visited w ↦ as_is legs c.args.visited.now _ _ (i + 1) _ _ (w.visited-is ∙ w.visit_both.ensures) w.changed-is (takes legs c.args.visited.now c.loop-leg.visited i c.loop-leg.changed c.loop-leg.invariant (omega arith) la lb (differ _ _ (sym w.if-is_half_visited.ensures)))
      | else-is_half_visited w ↦ as_is legs c.args.visited.now _ _ (i + 1) _ _ w.visited-is w.changed-is (keeps legs c.args.visited.now c.loop-leg.visited i c.loop-leg.changed c.loop-leg.invariant (agree _ _ (sym w.if-is_half_visited.ensures)))
    ]
