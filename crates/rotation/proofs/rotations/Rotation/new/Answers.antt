-- Fresh places hold none, and the table holds what its closure says.
use Rattle.std.proofs.Common.{None, arith, rules}
use Rattle.std.proofs.lemmas.List.{get_or-replicate}
use Rattle.embedding.specs.Rotation.{next}
use Rattle.embedding.proofs.Telling.{holds_told}
use Rattle.rotation.proofs.rotations.Rotation.new.Goals as goal

pub link-befores-requires-clause-blank : goal.link-befores-requires-clause-blank
link-befores-requires-clause-blank c e l = get_or-replicate 10000 e None None l

pub invariant_of-result-clause-follows : goal.invariant_of-result-clause-follows
invariant_of-result-clause-follows c = holds_told 0 (next c.args.cave.legs.now) _ (omega arith) c.table-nexts.ensures.told (λ e v l p. search rules)
