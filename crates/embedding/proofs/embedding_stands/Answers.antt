-- The laws hold of every valid list.
use Rattle.embedding.proofs.Faces.{stands}
use Rattle.embedding.proofs.embedding_stands.Goals as goal

pub returns : goal.returns
returns c = stands
