-- A plan's network: units go from sources and sinks through their angles to faces, and across legs from face to face.
-- Sides are paired, 2k and 2k + 1, and a side leads from the node of its twin to its own. Leg i has sides 2i, from its right face to its
-- left, and 2i + 1 back. After the legs' sides come those of the angles: the angle of end e has sides 2m + 2e, to its face, and the next, back.
use Rattle.std.specs.Prelude.{ℕ, ◌+◌, ◌-◌, ◌*◌, ◌/◌, cond, List, Some, None, ◌==◌, nat_lt}
use Rattle.survey.specs.declared.leg.Leg.{Leg}
use Rattle.survey.specs.Ends.{ends, outgoing}
use Rattle.embedding.specs.Rotation.{face, faces, twin}
use Rattle.embedding.specs.Demands.{demand}
use Rattle.search.specs.declared.Side.{Side}
use Rattle.shape.specs.Shapes.{Shape, switch, leg_at}
use Rattle.shape.specs.Nodes.{face_node, switch_node, above, beneath, naming}

-- a leg with one face on both sides is never crossed
abbrev pub crossing_room : List Leg → ℕ → ℕ
crossing_room legs e = cond (face legs e == face legs (twin e)) 0 (leg_at legs (e / 2)).limit

-- the side of a leg with the number of its end e: it leads to the face of e
abbrev pub leg_side : List Leg → ℕ → Side
leg_side legs e = record {
  node = face_node legs e;
  end = e;
  room = crossing_room legs e;
  bend = Some (record { weight = (leg_at legs (e / 2)).weight; wet = (leg_at legs (e / 2)).wet });
}

-- the side through the angle of e to its face, which is that of the other end of the leg; it has room for one unit at a source or sink
abbrev pub angle_side : List Leg → ℕ → Side
angle_side legs e = record { node = face_node legs (twin e); end = e; room = cond (switch legs e) 1 0; bend = None }

-- its twin leads back to the source or sink; an angle elsewhere leads nowhere
abbrev pub back_side : List Leg → ℕ → Side
back_side legs e = record { node = cond (switch legs e) (switch_node legs e) (face_node legs (twin e)); end = e; room = 0; bend = None }

-- the number of sides
abbrev pub side_count : List Leg → ℕ
side_count legs = ends legs + 2 * ends legs

-- side s
abbrev pub plan_side : List Leg → ℕ → Side
plan_side legs s =
    cond (nat_lt s (ends legs)) (leg_side legs s)
    (cond (outgoing s) (angle_side legs ((s - ends legs) / 2)) (back_side legs ((s - ends legs) / 2)))

-- what a node wants and gives: a face its demand, a source or sink one unit
abbrev pub plan_wants : List Leg → (outer : ℕ) → ℕ → ℕ
plan_wants legs outer v = cond (nat_lt v (faces legs)) (above (demand legs outer (naming legs v))) 0

abbrev pub plan_gives : List Leg → (outer : ℕ) → ℕ → ℕ
plan_gives legs outer v = cond (nat_lt v (faces legs)) (beneath (demand legs outer (naming legs v))) 1

-- the units that a shape sends: two bends a unit; none across a leg with one face on both sides
abbrev pub shape_units : List Leg → Shape → ℕ → ℕ
shape_units legs z s =
    cond (nat_lt s (ends legs))
    (cond (face legs s == face legs (twin s)) 0 (cond (outgoing s) (z.right (s / 2) / 2) (z.left (s / 2) / 2)))
    (cond (outgoing s) (cond (z.large ((s - ends legs) / 2)) 1 0) 0)

-- the shape that units make
abbrev pub units_shape : List Leg → (ℕ → ℕ) → Shape
units_shape legs f = record {
  large = λ e. nat_lt 0 (f (ends legs + 2 * e));
  left = λ i. 2 * f (2 * i + 1);
  right = λ i. 2 * f (2 * i);
}
