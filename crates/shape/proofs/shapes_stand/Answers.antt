-- Shapes are flows, at the price kind of the function.
use Rattle.shape.proofs.Places.{few_nodes}
use Rattle.shape.proofs.ProperSides.{proper}
use Rattle.shape.proofs.ToFlow.{to_flow}
use Rattle.shape.proofs.ToShape.{to_shape}
use Rattle.shape.proofs.shapes_stand.Goals as goal

pub returns : goal.returns
returns g c rate low legs outer sides p q valid planar small held demands = record {
  proper = proper legs valid sides held small;
  few = few_nodes legs planar;
  to_flow = to_flow g.met.P.Price.laws rate low legs outer sides p q valid held demands;
  to_shape = to_shape g.met.P.Price.laws rate legs outer sides p q valid held demands;
}
