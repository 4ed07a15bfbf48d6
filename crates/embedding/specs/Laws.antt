-- What is proved of every list that a survey can hold: its rotations and faces are what the words say.
use Rattle.std.specs.Prelude.{◌≡◌, ℕ, ◌<◌, ◌≤◌, true, ◌↔◌, List}
use Rattle.survey.specs.declared.leg.Leg.{Leg}
use Rattle.survey.specs.Ends.{ends, station, bearing}
use Rattle.survey.specs.Model.{valid_legs}
use Rattle.embedding.specs.Walks.{iter}
use Rattle.embedding.specs.Rotation.{twin, gap, next, face_step, face, angle_face}
use Rattle.embedding.specs.Joins.{DecidesJoined}

-- bearings are below 3600, and no two ends of one station have equal ones
pub record Distinct (legs : List Leg) : Type 0 where
  pub below : (e : ℕ) → bearing legs e < 3600
  pub apart : (d e : ℕ) → d < ends legs → e < ends legs → station legs d ≡ station legs e → bearing legs d ≡ bearing legs e → d ≡ e

-- f takes the numbers below n one-to-one to numbers below n
pub record Permutes (f : ℕ → ℕ) (n : ℕ) : Type 0 where
  pub stays : (e : ℕ) → e < n → f e < n
  pub one : (d e : ℕ) → d < n → e < n → f d ≡ f e → d ≡ e

-- r follows e in the rotation of its station
pub record Follows (legs : List Leg) (e r : ℕ) : Type 0 where
  pub within : r < ends legs
  pub stays : station legs r ≡ station legs e
  pub nearest : (i : ℕ) → i < ends legs → station legs i ≡ station legs e → gap (bearing legs e) (bearing legs r) ≤ gap (bearing legs e) (bearing legs i)

-- the walk from d comes to e
abbrev pub OnWalk : (ℕ → ℕ) → ℕ → ℕ → Type 0
OnWalk f d e = (i : ℕ) × (iter f i d ≡ e)

-- ends d and e are on one face
abbrev pub OneFace : List Leg → ℕ → ℕ → Type 0
OneFace legs d e = OnWalk (face_step legs) d e

-- the angle of e lies in the face that f names: the walk of the end after e is that of f
pub record LiesIn (legs : List Leg) (e f : ℕ) : Type 0 where
  pub within : f < ends legs
  pub names : face legs f ≡ f
  pub walk : OneFace legs (next legs e) f

pub record EmbeddingLaws (legs : List Leg) : Type 0 where
  pub distinct : Distinct legs
  pub rotation : Permutes (next legs) (ends legs)
  pub follows : (e : ℕ) → e < ends legs → Follows legs e (next legs e)
  pub walk : Permutes (face_step legs) (ends legs)
  pub closes : (e : ℕ) → e < ends legs → (p : ℕ) × (0 < p) × (p ≤ ends legs) × (iter (face_step legs) p e ≡ e)
  pub reflexive : (e : ℕ) → e < ends legs → OneFace legs e e
  pub symmetric : (d e : ℕ) → d < ends legs → OneFace legs d e → OneFace legs e d
  pub transitive : (c d e : ℕ) → OneFace legs c d → OneFace legs d e → OneFace legs c e
  pub named : (d e : ℕ) → d < ends legs → e < ends legs → (face legs d ≡ face legs e) ↔ OneFace legs d e
  pub angle : (e : ℕ) → e < ends legs → angle_face legs e ≡ face legs (twin e)
  pub lies : (e : ℕ) → e < ends legs → LiesIn legs e (angle_face legs e)
  pub only : (e f : ℕ) → e < ends legs → LiesIn legs e f → f ≡ angle_face legs e
  pub connected : DecidesJoined legs

abbrev pub EmbeddingStands : Type 0
EmbeddingStands = (legs : List Leg) → valid_legs legs ≡ true → EmbeddingLaws legs
