-- The faces that ends before the index name have their units.
use Rattle.survey.specs.Counting.{count}
use Rattle.embedding.specs.Tables.{Holds}
use Rattle.search.specs.Demands.{no_demand}
use Rattle.shape.specs.Nodes.{names_face}
use Rattle.network.specs.Tables.{plan_demand}
use Rattle.network.proofs.demands.fill_face_units.Given as goal

abbrev pub invariant-loop-e : goal.invariant-loop-e
invariant-loop-e l = Holds no_demand (plan_demand l.nodes.faces.rotation.cave.legs.now l.outer) l.demands (count (names_face l.nodes.faces.rotation.cave.legs.now) l.e)
