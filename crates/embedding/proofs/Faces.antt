-- The laws of rotations and faces.
use Rattle.std.proofs.Common.{◌≡◌, ℕ, ◌+◌, ◌-◌, ◌*◌, ◌%◌, ◌<◌, true, false, ◌⊎◌, List, length, sym, refl, ap, ◌∙◌, inl, inr, ⊎_elim, arith}
use Rattle.std.proofs.lemmas.Bool.{cases_Bool, cond-true, cond-false, eqb-true, eqb-false, eq-eqb, ne_eqb}
use Rattle.survey.specs.declared.leg.Leg.{Leg}
use Rattle.survey.specs.Ends.{ends, outgoing}
use Rattle.embedding.specs.Rotation.{twin, next, face_step, face, angle_face}
use Rattle.embedding.specs.Laws.{Distinct, Permutes, OneFace, LiesIn, EmbeddingLaws, EmbeddingStands}
use Rattle.embedding.proofs.Orbit.{back, same_low, low_meets, low_on, low_lt, low_low, on_walk_sym, on_walk_trans}
use Rattle.embedding.proofs.Distinct.{distinct}
use Rattle.embedding.proofs.Following.{next_follows, next_one}
use Rattle.embedding.proofs.Reached.{decides_joined}

twin_even : (e : ℕ) → e % 2 ≡ 0 → twin e ≡ e + 1
twin_even e h = cond-true _ (e + 1) (e - 1) (eq-eqb _ _ h)

twin_odd : (e : ℕ) → (e % 2 ≡ 0 → ⊥) → twin e ≡ e - 1
twin_odd e h = cond-false _ (e + 1) (e - 1) (ne_eqb _ _ h)

twin_is : (e : ℕ) → ((e % 2 ≡ 0) × (twin e ≡ e + 1)) ⊎ ((e % 2 ≡ 1) × (twin e ≡ e - 1))
twin_is e = ⊎_elim
    (λ (t : outgoing e ≡ true). inl (eqb-true _ _ t, twin_even e (eqb-true _ _ t)))
    (λ (t : outgoing e ≡ false). let n = eqb-false _ _ t in inr (omega arith, twin_odd e n))
    (cases_Bool (outgoing e))

pub twin_lt : (m e : ℕ) → e < 2 * m → twin e < 2 * m
twin_lt m e l = let t = twin_is e in omega arith

pub twin_twin : (e : ℕ) → twin (twin e) ≡ e
twin_twin e = let t = twin_is e in let u = twin_is (twin e) in omega arith

twin_one : (d e : ℕ) → twin d ≡ twin e → d ≡ e
twin_one d e q = sym (twin_twin d) ∙ ap twin q ∙ twin_twin e

module _ (legs : List Leg) (ok : Distinct legs) where
  rotates : Permutes (next legs) (ends legs)
  rotates = record { stays = λ e l. (next_follows legs e l).within; one = next_one legs ok }

  pub walks : Permutes (face_step legs) (ends legs)
  walks = record {
    stays = λ e l. rotates.stays (twin e) (twin_lt (length legs) e l);
    one = λ d e ld le q. twin_one d e (rotates.one (twin d) (twin e) (twin_lt (length legs) d ld) (twin_lt (length legs) e le) q);
  }

  pub face_lt : (e : ℕ) → e < ends legs → face legs e < ends legs
  unfolding face
  face_lt e l = low_lt (ends legs) (face_step legs) walks e l

  angle : (e : ℕ) → e < ends legs → angle_face legs e ≡ face legs (twin e)
  unfolding face
  angle e l = sym (same_low (ends legs) (face_step legs) walks (twin e) (next legs e) (twin_lt (length legs) e l) (rotates.stays e l) (1, ap (next legs) (twin_twin e)))

  named : (d e : ℕ) → d < ends legs → e < ends legs → face legs d ≡ face legs e → OneFace legs d e
  unfolding face
  named d e ld le q = low_meets (ends legs) (face_step legs) walks d e ld le q

  one_name : (d e : ℕ) → d < ends legs → e < ends legs → OneFace legs d e → face legs d ≡ face legs e
  unfolding face
  one_name d e ld le m = same_low (ends legs) (face_step legs) walks d e ld le m

  lies : (e : ℕ) → e < ends legs → LiesIn legs e (angle_face legs e)
  unfolding face
  lies e l =
      let n = rotates.stays e l in
      record {
        within = low_lt (ends legs) (face_step legs) walks (next legs e) n;
        names = low_low (ends legs) (face_step legs) walks (next legs e) n;
        walk = low_on (ends legs) (face_step legs) walks (next legs e) (ends legs);
      }

  only : (e f : ℕ) → e < ends legs → LiesIn legs e f → f ≡ angle_face legs e
  only e f l i = sym i.names ∙ sym (one_name (next legs e) f (rotates.stays e l) i.within i.walk)

  laws : EmbeddingLaws legs
  laws = record {
    distinct = ok;
    rotation = rotates;
    follows = next_follows legs;
    walk = walks;
    closes = back (ends legs) (face_step legs) walks;
    reflexive = λ e l. (0, refl);
    symmetric = on_walk_sym (ends legs) (face_step legs) walks;
    transitive = on_walk_trans (ends legs) (face_step legs) walks;
    named = λ d e ld le. (named d e ld le, one_name d e ld le);
    angle = angle;
    lies = lies;
    only = only;
    connected = decides_joined legs;
  }

pub stands : EmbeddingStands
stands legs valid = laws legs (distinct legs valid)
