-- The summary of a drawing.
use Rattle.std.specs.Prelude.{ℕ, List, length}
use Rattle.survey.specs.Ends.{stations}
use Rattle.embedding.specs.Rotation.{faces}
use Rattle.draw.specs.declared.drawings.Drawing.{Drawing}
use Rattle.draw.specs.Shapes.{bends}
use Rattle.draw.specs.Drawings.{drawing_legs, drawing_shape}
use Rattle.report.specs.Output.{summary_text}

-- its stations, legs, faces and bends
abbrev pub drawing_text : Drawing → List ℕ
drawing_text d = summary_text (stations (drawing_legs d)) (length (drawing_legs d)) (faces (drawing_legs d)) (bends (drawing_legs d) (drawing_shape d))
