-- The exchange lemma, at the price kind of the function.
use Rattle.duality.proofs.Exchange.{exchange}
use Rattle.duality.proofs.Theorems.{prices}
use Rattle.duality.proofs.exchange_stands.Goals as goal

pub returns : goal.returns
returns g c = exchange (prices g.met.P.Price.laws)
