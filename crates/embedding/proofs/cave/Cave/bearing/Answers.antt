-- Bearings of a valid list are below 3,600.
use Rattle.std.proofs.Common.{arith}
use Rattle.embedding.proofs.Distinct.{distinct}
use Rattle.embedding.proofs.cave.Cave.bearing.Goals as goal

pub returns-clause-within : goal.returns-clause-within
returns-clause-within c = omega (arith, c.end_bearing.ensures, (distinct c.args.self.now.legs.now c.args.self.now.valid).below c.args.e)
