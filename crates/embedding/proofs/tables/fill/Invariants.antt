-- The places before the index are written, and the others are as they were.
use Rattle.std.proofs.Common.{◌≡◌, ℕ, ◌≤◌, length, get_or}
use Rattle.embedding.specs.Tables.{Tells}
use Rattle.embedding.proofs.tables.fill.Given as goal

abbrev pub invariant-loop-e : goal.invariant-loop-e
invariant-loop-e g l =
    record {
      long : length l.table ≡ length l.initial.table;
      told : Tells (goal.F-post g l.f) l.table l.e;
      rest : (d : g.row.T.Denot) (k : ℕ) → l.e ≤ k → get_or l.table k d ≡ get_or l.initial.table k d;
    }
