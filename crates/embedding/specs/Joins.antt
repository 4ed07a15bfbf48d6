-- Connectedness: legs joined to leg 0 through shared stations.
use Rattle.std.specs.Prelude.{◌≡◌, ℕ, zero, suc, ◌<◌, Bool, true, ◌&&◌, ◌||◌, ◌↔◌, List, length, ◌==◌, slice_index_or}
use Rattle.survey.specs.declared.leg.Leg.{Leg}
use Rattle.survey.specs.Ends.{no_leg}
use Rattle.embedding.specs.Walks.{some}

-- two legs have a station in common
abbrev pub touch : Leg → Leg → Bool
touch a b = (a.from == b.from || a.from == b.to) || (a.to == b.from || a.to == b.to)

abbrev pub touch_at : List Leg → ℕ → ℕ → Bool
touch_at legs i j = touch (slice_index_or legs i no_leg) (slice_index_or legs j no_leg)

-- leg 0 is joined to itself, and with a leg each leg that touches it
pub data Joined (legs : List Leg) : ℕ → Type 0 where
  first : Joined legs 0
  along : (i j : ℕ) → Joined legs i → touch_at legs i j ≡ true → j < length legs → Joined legs j

-- a chain of at most k touching legs leads from leg 0 to leg i
abbrev pub reached : List Leg → ℕ → ℕ → Bool
reached legs zero i = i == 0
reached legs (suc k) i = reached legs k i || some (λ j. reached legs k j && touch_at legs j i) (length legs)

-- leg i is joined to leg 0, decided: a chain need be no longer than the number of legs
unfoldable pub joined : List Leg → ℕ → Bool
joined legs i = reached legs (length legs) i

-- what `joined` decides
abbrev pub DecidesJoined : List Leg → Type 0
DecidesJoined legs = (i : ℕ) → i < length legs → (joined legs i ≡ true) ↔ Joined legs i
