-- There are at most as many stations and faces as ends.
use Rattle.std.proofs.Common.{ℕ, eqb, rules}
use Rattle.survey.specs.Ends.{ends, first_at_station}
use Rattle.embedding.specs.Rotation.{face}
use Rattle.embedding.proofs.Reached.{count_bound}
use Rattle.plan_check.proofs.check_planar.Goals as goal

pub overflow_add-count_stations : goal.overflow_add-count_stations
overflow_add-count_stations c =
    let legs = c.args.faces.now.rotation.cave.legs.now in
    let a = count_bound (first_at_station legs) (ends legs) in
    let b = count_bound (λ (e : ℕ). eqb (face legs e) e) (ends legs) in
    search rules
