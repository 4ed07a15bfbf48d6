-- The sides of a network that is given by numbers, seven for each pair: from, to, room, room back, weight, wet, free.
use Rattle.std.specs.Prelude.{ℕ, ◌+◌, ◌-◌, ◌*◌, ◌/◌, ◌%◌, min, cond, List, Some, None, ◌==◌, slice_index}
use Rattle.search.specs.declared.Side.{Side}

-- side s of the network, its numbers brought within the solver's bounds; its end is its own number
abbrev pub side_from_lem : List ℕ → (nodes s : ℕ) → Side
side_from_lem numbers nodes s = record {
  node = slice_index numbers (7 * (s / 2) + (1 - s % 2)) % nodes;
  end = s;
  room = min (slice_index numbers (7 * (s / 2) + (2 + s % 2))) 1000;
  bend = cond (slice_index numbers (7 * (s / 2) + 6) == 1) None (Some (record { weight = min (slice_index numbers (7 * (s / 2) + 4)) 1000; wet = slice_index numbers (7 * (s / 2) + 5) }));
}
