-- Stations of a valid list are below 10,000.
use Rattle.std.proofs.Common.{arith}
use Rattle.embedding.proofs.Distinct.{station_lt}
use Rattle.embedding.proofs.cave.Cave.station.Goals as goal

pub returns-clause-within : goal.returns-clause-within
returns-clause-within c = omega (arith, c.end_station.ensures, station_lt c.args.self.now.legs.now c.args.e c.args.self.now.valid c.requires)
