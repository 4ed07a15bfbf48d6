-- What the code's answers tell.
use Rattle.std.specs.Prelude.{Ok, Err, Result}
use Rattle.refusal.specs.Answers.{number_of, value_of}
use Rattle.svx.specs.declared.fault.Fault.{Fault}
use Rattle.svx.specs.Reading.{Outcome, through, stopped}

abbrev pub fault_told : Fault → Outcome
fault_told f = stopped (number_of f.cause) (value_of f.cause) f.line f.place f.layer

abbrev pub outcome : Result (Unit {0}) Fault → Outcome
outcome (Ok u) = through
outcome (Err f) = fault_told f
