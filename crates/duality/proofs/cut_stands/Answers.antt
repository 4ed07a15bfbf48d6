-- The cut theorem.
use Rattle.duality.proofs.Theorems.{impossible}
use Rattle.duality.proofs.cut_stands.Goals as goal

pub returns : goal.returns
returns c = impossible
