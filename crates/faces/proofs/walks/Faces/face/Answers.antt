-- A face is named by an end.
use Rattle.std.proofs.Common.{arith}
use Rattle.embedding.proofs.Distinct.{distinct}
use Rattle.embedding.proofs.Faces.{face_lt}
use Rattle.faces.proofs.walks.Faces.face.Goals as goal

pub returns-clause-within : goal.returns-clause-within
returns-clause-within c =
    let f = c.args.self.now in
    let legs = f.rotation.cave.legs.now in
    let n = f.named c.args.e c.requires in
    let b = face_lt legs (distinct legs f.rotation.cave.valid) c.args.e c.requires in
    omega arith
