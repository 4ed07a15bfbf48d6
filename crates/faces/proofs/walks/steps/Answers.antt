-- The table holds what its closure says.
use Rattle.std.proofs.Common.{arith, rules}
use Rattle.embedding.specs.Rotation.{face_step}
use Rattle.embedding.proofs.Telling.{holds_told}
use Rattle.faces.proofs.walks.steps.Goals as goal

pub returns : goal.returns
returns c = holds_told 0 (face_step c.args.rotation.now.cave.legs.now) _ (omega arith) c.table.ensures.told (λ e v l p. search rules)
