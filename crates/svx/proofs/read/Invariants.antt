-- The reader holds the text, and what it has left makes a reading of the whole.
use Rattle.std.proofs.Common.{◌≡◌, ◌+◌, ◌-◌, ◌≤◌, length}
use Rattle.svx.specs.Reading.{means}
use Rattle.svx.proofs.Runs.{Onward}
use Rattle.svx.proofs.read.Given as goal

abbrev pub invariant-loop-part : goal.invariant-loop-part
invariant-loop-part g l =
    (l.reader.text.now ≡ l.text) × (l.reader.line ≤ l.reader.place)
    × Onward (means g.S.Survey.legs g.S.Survey.enters g.S.Survey.amends g.S.Survey.leads) l.text l.reader.place l.reader.line l.initial.survey l.survey

abbrev pub decreases-loop-part : goal.decreases-loop-part
decreases-loop-part g l = (length l.text + 1) - l.reader.place
