-- The three views are views.
use Rattle.view_laws.proofs.Three.{three_laws}
use Rattle.view_laws.proofs.views_keep_surveys.Goals as goal

pub returns : goal.returns
returns c = three_laws
