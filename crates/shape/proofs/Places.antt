-- The nodes of faces and of sources and sinks: each has its own, and every node is one of these.
use Rattle.std.proofs.Common.{◌≡◌, ℕ, ◌+◌, ◌-◌, ◌<◌, ◌≤◌, true, not, ◌||◌, eqb, List, length, sym, refl, ap, ◌∙◌, ⊎_elim, arith}
use Rattle.std.proofs.lemmas.Bool.{cases_lt, eq-eqb, eqb-true, and_from, and_parts, both_ways, not-true, not_from_false}
use Rattle.std.proofs.lemmas.Bool.Decides.{same_from_decides, Decides-like, Decides-eqb}
use Rattle.survey.specs.declared.leg.Leg.{Leg}
use Rattle.survey.specs.Counting.{count, every}
use Rattle.survey.specs.Ends.{ends, outgoing, station, same_station, first_at_station, stations}
use Rattle.survey.specs.Model.{valid_legs}
use Rattle.embedding.specs.Walks.{seek}
use Rattle.embedding.specs.Rotation.{face_step, face, faces}
use Rattle.embedding.specs.Demands.{planar}
use Rattle.embedding.proofs.Distinct.{distinct}
use Rattle.embedding.proofs.Faces.{face_lt, walks}
use Rattle.embedding.proofs.Orbit.{low_low}
use Rattle.embedding.proofs.Reached.{count_le}
use Rattle.shape.specs.Shapes.{switch}
use Rattle.shape.specs.Nodes.{names_face, names_switch, face_node, lowest_at, switch_node, nodes, naming}
use Rattle.shape.proofs.Ranks.{every_is, rank_lt, rank_one, ranked, Sought, sought, seek_rank}

pub eqb_same : (a b c d : ℕ) → (a ≡ b → c ≡ d) → (c ≡ d → a ≡ b) → eqb a b ≡ eqb c d
eqb_same a b c d f g = same_from_decides (eqb a b) (eqb c d) (Decides-like (eqb a b) f g (Decides-eqb a b)) (Decides-eqb c d)

-- what only depends on the station of an end

pub switch_same : (legs : List Leg) (d e : ℕ) → station legs d ≡ station legs e → switch legs d ≡ switch legs e
switch_same legs d e h = ap (λ (s : ℕ). every (λ k. not (eqb (station legs k) s) || outgoing k) (ends legs) || every (λ k. not (eqb (station legs k) s) || not (outgoing k)) (ends legs)) h

pub lowest_same : (legs : List Leg) (d e : ℕ) → station legs d ≡ station legs e → lowest_at legs d ≡ lowest_at legs e
lowest_same legs d e h = ap (λ (s : ℕ). seek (λ k. eqb (station legs k) s) 0 (ends legs)) h

-- sources and sinks are stations
pub few_nodes : (legs : List Leg) → planar legs ≡ true → nodes legs ≤ length legs + 2
few_nodes legs h =
    let e = eqb-true (stations legs + faces legs) (length legs + 2) h in
    let l = count_le (names_switch legs) (first_at_station legs) (λ i t. (and_parts (first_at_station legs i) (switch legs i) t).0) (ends legs) in
    omega arith

module _ (legs : List Leg) (valid : valid_legs legs ≡ true) where
  face_inside : (e : ℕ) → e < ends legs → face legs e < ends legs
  face_inside e l = face_lt legs (distinct legs valid) e l

  face_face : (e : ℕ) → e < ends legs → face legs (face legs e) ≡ face legs e
  unfolding face
  face_face e l = low_low (ends legs) (face_step legs) (walks legs (distinct legs valid)) e l

  names : (e : ℕ) → e < ends legs → names_face legs (face legs e) ≡ true
  names e l = eq-eqb _ _ (face_face e l)

  pub face_node_lt : (e : ℕ) → e < ends legs → face_node legs e < faces legs
  face_node_lt e l = rank_lt (names_face legs) (face legs e) (ends legs) (names e l) (face_inside e l)

  pub face_node_one : (d e : ℕ) → d < ends legs → e < ends legs → face_node legs d ≡ face_node legs e → face legs d ≡ face legs e
  face_node_one d e ld le h = rank_one (names_face legs) (face legs d) (face legs e) (names d ld) (names e le) h

  -- the node of an end's face is that of the face f just where its face is f
  pub at_face : (e f : ℕ) → e < ends legs → face legs f ≡ f → eqb (face_node legs e) (count (names_face legs) f) ≡ eqb (face legs e) f
  at_face e f l h = eqb_same _ _ _ _ (rank_one (names_face legs) (face legs e) f (names e l) (eq-eqb _ _ h)) (ap (count (names_face legs)))

  pub face_rank_lt : (f : ℕ) → f < ends legs → face legs f ≡ f → count (names_face legs) f < faces legs
  face_rank_lt f l h = rank_lt (names_face legs) f (ends legs) (eq-eqb _ _ h) l

  pub naming_of : (f : ℕ) → f < ends legs → face legs f ≡ f → naming legs (count (names_face legs) f) ≡ f
  naming_of f l h = seek_rank (names_face legs) (ends legs) f _ l (eq-eqb _ _ h) refl

  -- each of the first nodes is a face
  pub face_of : (v : ℕ) → v < faces legs → (f : ℕ) × (f < ends legs) × (face legs f ≡ f) × (count (names_face legs) f ≡ v)
  face_of v l = let w = ranked (names_face legs) (ends legs) v l in (w.0, w.1, eqb-true _ _ w.2, w.3)

  lowest : (e : ℕ) → e < ends legs → Sought (same_station legs e) 0 e (lowest_at legs e)
  lowest e l = sought (same_station legs e) (ends legs) 0 e (omega arith) (omega arith) (eq-eqb _ _ refl)

  lowest_station : (e : ℕ) → e < ends legs → station legs (lowest_at legs e) ≡ station legs e
  lowest_station e l = eqb-true _ _ (lowest e l).passes

  lowest_names : (e : ℕ) → e < ends legs → switch legs e ≡ true → names_switch legs (lowest_at legs e) ≡ true
  lowest_names e l t =
      let s = lowest_station e l in
      and_from _ _
      ((every_is (λ k. not (same_station legs (lowest_at legs e) k)) (lowest_at legs e)).1 (λ j m. not_from_false _ (ap (eqb (station legs j)) s ∙ (lowest e l).first j (omega arith) m)))
      (switch_same legs (lowest_at legs e) e s ∙ t)

  pub switch_node_lt : (e : ℕ) → e < ends legs → switch legs e ≡ true → switch_node legs e < nodes legs
  switch_node_lt e l t =
      let b = (lowest e l).within in
      let r = rank_lt (names_switch legs) (lowest_at legs e) (ends legs) (lowest_names e l t) (omega arith) in
      omega arith

  pub switch_node_one : (d e : ℕ) → d < ends legs → e < ends legs → switch legs d ≡ true → switch legs e ≡ true → switch_node legs d ≡ switch_node legs e → station legs d ≡ station legs e
  switch_node_one d e ld le td te h =
      let s = rank_one (names_switch legs) (lowest_at legs d) (lowest_at legs e) (lowest_names d ld td) (lowest_names e le te) (omega arith) in
      sym (lowest_station d ld) ∙ ap (station legs) s ∙ lowest_station e le

  -- the lowest end of a station is the lowest there
  lowest_first : (e : ℕ) → e < ends legs → first_at_station legs e ≡ true → lowest_at legs e ≡ e
  lowest_first e l t =
      let b = (lowest e l).within in
      ⊎_elim
      (λ (m : lowest_at legs e < e). absurd (both_ways (same_station legs e (lowest_at legs e)) (not-true _ ((every_is (λ k. not (same_station legs e k)) e).0 t (lowest_at legs e) m)) (lowest e l).passes))
      (λ (m : e ≤ lowest_at legs e). omega arith)
      (cases_lt (lowest_at legs e) e)

  -- each of the other nodes is a source or sink
  pub switch_of : (v : ℕ) → faces legs ≤ v → v < nodes legs → (e : ℕ) × (e < ends legs) × (switch legs e ≡ true) × (switch_node legs e ≡ v)
  switch_of v h l =
      let w = ranked (names_switch legs) (ends legs) (v - faces legs) (omega arith) in
      let t = and_parts (first_at_station legs w.0) (switch legs w.0) w.2 in
      let s = ap (count (names_switch legs)) (lowest_first w.0 w.1 t.0) ∙ w.3 in
      (w.0, w.1, t.1, omega arith)
