-- The marked ends name the faces, and the rank of a face's name is its node.
use Rattle.std.proofs.Common.{◌≡◌, ℕ, ◌<◌, ◌≤◌, false, get_or, ◌∙◌, arith, rules}
use Rattle.std.proofs.iter.Serving.{serving}
use Rattle.embedding.specs.Rotation.{face}
use Rattle.embedding.proofs.Distinct.{distinct}
use Rattle.embedding.proofs.Faces.{face_lt}
use Rattle.embedding.proofs.Telling.{holds_told}
use Rattle.shape.specs.Nodes.{names_face, face_node}
use Rattle.network.proofs.Counts.{ranked, rank_le}
use Rattle.network.proofs.numbering.number_faces.Goals as goal

pub table-requires : goal.table-requires
table-requires c =
    let legs = c.args.faces.now.rotation.cave.legs.now in
    let m = holds_told false (names_face legs) c.ends-n.result (omega arith) c.table-marks.ensures.told (λ e v l p. search rules) in
    let small : (k : ℕ) → k < c.ends-n.result → get_or c.fill_ranks.new.ranks k 0 ≤ 512 = λ k l. let a = rank_le (names_face legs) _ c.ends-n.result m _ k c.fill_ranks.ensures.each l in omega arith in
    grind (serving, small)

pub returns : goal.returns
returns c =
    let cave = c.args.faces.now.rotation.cave in
    let legs = cave.legs.now in
    let m = holds_told false (names_face legs) c.ends-n.result (omega arith) c.table-marks.ensures.told (λ e v l p. search rules) in
    holds_told 0 (face_node legs) _ (omega arith) c.table.ensures.told (λ e v l p.
    let said : v ≡ get_or c.fill_ranks.new.ranks (face legs e) 0 = search rules in
    let b = face_lt legs (distinct legs cave.valid) e (omega arith) in
    said ∙ ranked (names_face legs) _ c.ends-n.result m _ (face legs e) c.fill_ranks.ensures.each (omega arith))
