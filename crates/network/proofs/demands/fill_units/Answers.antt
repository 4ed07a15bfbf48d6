-- There are at most as many faces as ends, and as many sources and sinks; the units of the faces are kept.
use Rattle.std.proofs.Common.{arith}
use Rattle.survey.specs.Ends.{ends}
use Rattle.embedding.proofs.Reached.{count_bound}
use Rattle.shape.specs.Nodes.{names_face, names_switch}
use Rattle.network.proofs.demands.fill_units.Goals as goal

pub fill_switch_units-requires : goal.fill_switch_units-requires
fill_switch_units-requires c =
    let nodes = c.args.nodes.now in
    let legs = nodes.faces.rotation.cave.legs.now in
    let a = count_bound (names_face legs) (ends legs) in
    let b = count_bound (names_switch legs) (ends legs) in
    let n = nodes.counted in
    record { order = omega arith; room = omega arith }
