-- What follows an end is an end.
use Rattle.std.proofs.Common.{arith}
use Rattle.embedding.proofs.Following.{next_follows}
use Rattle.rotation.proofs.rotations.Rotation.next.Goals as goal

pub returns-clause-within : goal.returns-clause-within
returns-clause-within c =
    let r = c.args.self.now in
    let f = r.follows c.args.e c.requires in
    let w = (next_follows r.cave.legs.now c.args.e c.requires).within in
    omega arith
