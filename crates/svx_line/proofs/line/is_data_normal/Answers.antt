-- The seven tests one by one.
use Rattle.std.proofs.Common.{◌∙◌}
use Rattle.svx_line.proofs.Judging.{seven_words}
use Rattle.svx_line.proofs.line.is_data_normal.Goals as goal

pub returns : goal.returns
returns c = c.all_read.ensures ∙ seven_words c.args.fields.now _ _ _ _ _ _ _ c.requires
