-- The nodes of a plan's network: its faces by the ends that name them, then its sources and sinks by their lowest ends.
use Rattle.std.specs.Prelude.{ℕ, ◌+◌, Bool, ◌&&◌, List, ℤ, pos, negsuc, ◌==◌}
use Rattle.survey.specs.declared.leg.Leg.{Leg}
use Rattle.survey.specs.Counting.{count}
use Rattle.survey.specs.Ends.{ends, same_station, first_at_station}
use Rattle.embedding.specs.Walks.{seek}
use Rattle.embedding.specs.Rotation.{face, faces}
use Rattle.shape.specs.Shapes.{switch}

-- an end that names its face
abbrev pub names_face : List Leg → ℕ → Bool
names_face legs e = face legs e == e

-- the lowest end of a source or sink
abbrev pub names_switch : List Leg → ℕ → Bool
names_switch legs e = first_at_station legs e && switch legs e

-- the node of the face of an end
abbrev pub face_node : List Leg → ℕ → ℕ
face_node legs e = count (names_face legs) (face legs e)

-- the lowest end at the station of e
abbrev pub lowest_at : List Leg → ℕ → ℕ
lowest_at legs e = seek (λ k. same_station legs e k) 0 (ends legs)

-- the node of the source or sink at which an end stands
abbrev pub switch_node : List Leg → ℕ → ℕ
switch_node legs e = faces legs + count (names_switch legs) (lowest_at legs e)

-- the number of nodes
abbrev pub nodes : List Leg → ℕ
nodes legs = faces legs + count (names_switch legs) (ends legs)

-- the part of an integer above zero, and the part below
abbrev pub above : ℤ → ℕ
above (pos n) = n
above (negsuc n) = 0

abbrev pub beneath : ℤ → ℕ
beneath (pos n) = 0
beneath (negsuc n) = n + 1

-- the end that names the face with this node: the k-th that names a face
abbrev pub naming : List Leg → ℕ → ℕ
naming legs v = seek (λ e. (count (names_face legs) e == v) && names_face legs e) 0 (ends legs)
