-- A limit is at most 999.
use Rattle.std.proofs.Common.{◌/◌, arith, rules}
use Rattle.network.proofs.Ranges.{limit_le}
use Rattle.network.proofs.sides.make_leg_side.Goals as goal

pub overflow_cast-room : goal.overflow_cast-room
overflow_cast-room c = let cave = c.args.nodes.now.faces.rotation.cave in let h = limit_le cave.legs.now (c.args.e / 2) cave.valid (omega arith) in search rules
