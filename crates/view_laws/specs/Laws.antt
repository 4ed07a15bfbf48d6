-- What every view owes, of legs alone: it is one-to-one on valid legs, and keeps refusals, clashes and attributes.
use Rattle.std.specs.Prelude.{◌≡◌, ℕ, true}
use Rattle.survey.specs.declared.leg.Leg.{Leg}
use Rattle.survey.specs.declared.leg.Attributes.{Attributes}
use Rattle.survey.specs.Model.{leg_answer, valid_leg, clash, attributes_of, with_attributes}
use Rattle.view_laws.specs.Views.{declination_shows, declination_sends, mirrored_shows, mirrored_sends, reversed_shows, reversed_sends}

pub record ViewLaws (shows sends : Leg → Leg) : Type 0 where
  -- the leg sent down meets the same cause of its own, with the same value
  pub refusal : (l : Leg) → leg_answer (sends l) ≡ leg_answer l
  -- the leg sent down is shown as the one given
  pub as_given : (l : Leg) → valid_leg l ≡ true → shows (sends l) ≡ l
  -- the leg shown, given again, is sent down as the one kept
  pub as_kept : (l : Leg) → valid_leg l ≡ true → sends (shows l) ≡ l
  pub valid : (l : Leg) → valid_leg l ≡ true → valid_leg (shows l) ≡ true
  pub clashes : (a b : Leg) → valid_leg a ≡ true → valid_leg b ≡ true → clash (shows a) (shows b) ≡ clash a b
  pub attributes : (l : Leg) → attributes_of (shows l) ≡ attributes_of l
  pub amends : (x : Attributes) (l : Leg) → shows (with_attributes x l) ≡ with_attributes x (shows l)

-- the three views meet the laws
pub record ThreeViews : Type 0 where
  pub declination : (d : ℕ) → ViewLaws (declination_shows d) (declination_sends d)
  pub mirror : ViewLaws mirrored_shows mirrored_sends
  pub reversal : ViewLaws reversed_shows reversed_sends
