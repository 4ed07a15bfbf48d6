-- The certificate theorem, at the price kind of the function.
use Rattle.duality.proofs.Theorems.{least}
use Rattle.duality.proofs.least_stands.Goals as goal

pub returns : goal.returns
returns g c = least g.met.P.Price.laws
