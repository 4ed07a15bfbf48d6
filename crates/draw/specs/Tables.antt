-- The tables of a drawing as a shape.
use Rattle.std.specs.Prelude.{ℕ, ◌*◌, Bool, false, List, slice_index_or}
use Rattle.shape.specs.Shapes.{Shape}
use Rattle.draw.specs.declared.bends.Bends.{Bends}

-- a leg that does not bend
abbrev pub straight : Bends
straight = record { left = 0; right = 0 }

-- two bends for each unit
abbrev pub doubled : (left right : ℕ) → Bends
doubled left right = record { left = 2 * left; right = 2 * right }

-- large angles by end, left and right bends by leg; past the tables no angle is large and nothing bends
abbrev pub shape_of : List Bool → List Bends → Shape
shape_of large bends = record {
  large = λ e. slice_index_or large e false;
  left = λ i. (slice_index_or bends i straight).left;
  right = λ i. (slice_index_or bends i straight).right;
}
