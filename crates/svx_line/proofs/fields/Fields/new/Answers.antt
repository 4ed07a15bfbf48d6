-- A line has no more fields than bytes.
use Rattle.std.proofs.Common.{length, ap, arith, length-append}
use Rattle.std.proofs.lemmas.List.{length-map}
use Rattle.svx_line.specs.Spans.{Span}
use Rattle.svx_line.specs.Parts.{span_of}
use Rattle.svx_line.proofs.Splitting.{length-fields}
use Rattle.svx_line.proofs.fields.Fields.new.Goals as goal

pub overflow_add-count : goal.overflow_add-count
overflow_add-count c =
    let n = length-fields (span_of c.args.line) in
    let m = length-map c.loop-field.yielded span_of in
    let a = length-append {A = Span} in
    let s = ap length c.in-Some.ensures.steps in
    let w = ap length c.loop-field.invariant.whole in
    omega (arith, a, c.args.line.fits)
