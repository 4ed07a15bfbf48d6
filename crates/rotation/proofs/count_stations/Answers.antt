-- Fresh places hold none.
use Rattle.std.proofs.Common.{None}
use Rattle.std.proofs.lemmas.List.{get_or-replicate}
use Rattle.rotation.proofs.count_stations.Goals as goal

pub link-befores-requires-clause-blank : goal.link-befores-requires-clause-blank
link-befores-requires-clause-blank c e l = get_or-replicate 10000 e None None l
