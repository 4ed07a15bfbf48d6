-- The stations of leg 0 are visited at first.
use Rattle.std.proofs.Common.{◌≡◌, ℕ, ◌<◌, ◌≤◌, Bool, false, replicate, sym, subst, ⊎_elim, arith}
use Rattle.std.proofs.lemmas.List.{get_or_past, get_or-replicate, length-replicate}
use Rattle.std.proofs.lemmas.Bool.{cases_lt}
use Rattle.embedding.proofs.Distinct.{leg_stations}
use Rattle.plan_check.specs.Visits.{visited_at, Sound}
use Rattle.plan_check.proofs.Spreading.{sound_none}
use Rattle.plan_check.proofs.connect.visit_joined.Goals as goal

-- fresh places hold no visit
unvisited : (s : ℕ) → visited_at (replicate 10000 false) s ≡ false
unvisited s = ⊎_elim (λ (l : s < 10000). get_or-replicate 10000 s false false l) (λ (l : 10000 ≤ s). get_or_past (replicate 10000 false) s false (omega (arith, length-replicate {A = Bool}))) (cases_lt s 10000)

pub visit_both-requires : goal.visit_both-requires
visit_both-requires c = let h = leg_stations c.args.legs.now 0 c.requires.valid c.requires.some in let a = h.0 in let b = h.1 in (omega arith, omega arith)

pub loop-init : goal.loop-init
loop-init c =
    let legs = c.args.legs.now in
    let h = leg_stations legs 0 c.requires.valid c.requires.some in
    let a = h.0 in
    let b = h.1 in
    subst (Sound legs) (sym c.visit_both.ensures) (sound_none legs (replicate 10000 false) c.requires.some (omega (arith, length-replicate {A = Bool})) (omega (arith, length-replicate {A = Bool})) unvisited)
