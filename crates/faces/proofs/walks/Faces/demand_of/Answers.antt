-- The names of the two faces are ends, so their demands are in the table.
use Rattle.std.proofs.Common.{get_or, pos, ◌∙◌, w64, SFits, rules}
use Rattle.std.proofs.lemmas.Int.{to_z-of_z}
use Rattle.embedding.specs.Demands.{demand}
use Rattle.faces.proofs.walks.Faces.demand_of.Goals as goal

pub returns : goal.returns
returns c =
    let legs = c.args.self.now.rotation.cave.legs.now in
    let fits : SFits w64 (get_or c.demands-demands.result c.face-2.result (pos 0)) = search rules in
    to_z-of_z w64 _ fits ∙ c.demands-demands.ensures c.face-2.result c.face-2.ensures.within ∙ (λ t. demand legs (c.face.ensures.named t) (c.face-2.ensures.named t))
