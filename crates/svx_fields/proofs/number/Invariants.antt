-- n is the number of the digits so far.
use Rattle.std.proofs.Common.{◌≡◌, ◌^◌, ◌<◌, take}
use Rattle.svx_fields.specs.Fields.{number}
use Rattle.svx_fields.proofs.number.Given as goal

abbrev pub invariant-loop-b : goal.invariant-loop-b
invariant-loop-b l = record { is : l.n ≡ number (take l.b-index l.s); small : l.n < 10 ^ l.b-index }
