-- Moves, and what a round of tries does to the labels.
use Rattle.std.specs.Prelude.{ℕ, zero, suc, Bool, ◌||◌, List}
use Rattle.price.specs.Laws.{Ops}
use Rattle.search.specs.declared.Label.{Label}
use Rattle.search.specs.Labels.{label_at, improves, tried}

-- a step from one node to another, with its cost and the end by which it is known
pub record Move (P : Type 0) : Type 0 where
  pub origin : ℕ
  pub target : ℕ
  pub cost : P
  pub end : ℕ

abbrev pub better : {P : Type 0} → Ops P → List (Label P) → Move P → Bool
better ops labels m = improves ops (label_at ops labels m.origin) (label_at ops labels m.target) m.cost

abbrev pub moved : {P : Type 0} → Ops P → List (Label P) → Move P → List (Label P)
moved ops labels m = tried ops labels m.origin m.target m.cost m.end

-- the labels, and whether one has changed
pub record State (P : Type 0) : Type 0 where
  pub changed : Bool
  pub labels : List (Label P)

abbrev pub step : {P : Type 0} → Ops P → State P → Move P → State P
step ops s m = record { changed = s.changed || better ops s.labels m; labels = moved ops s.labels m }

-- the first so many moves, tried one after the other
abbrev pub swept : {P : Type 0} → Ops P → State P → (ℕ → Move P) → ℕ → State P
swept ops s moves zero = s
swept ops s moves (suc i) = step ops (swept ops s moves i) (moves i)
