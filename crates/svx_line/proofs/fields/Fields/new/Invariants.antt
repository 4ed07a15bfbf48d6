-- The fields so far are counted and kept, and the rest of the line gives the others.
use Rattle.std.proofs.Common.{◌≡◌, ◌++◌, map, length, take}
use Rattle.svx_line.specs.Spans.{fields}
use Rattle.svx_line.specs.Parts.{span_of}
use Rattle.svx_line.proofs.fields.Fields.new.Given as goal

abbrev pub invariant-loop-field : goal.invariant-loop-field
invariant-loop-field l = record {
  can : (goal.iterator-loop-field).can_next l.field-iterator;
  ends : (goal.iterator-loop-field).is_finite l.field-iterator;
  whole : fields (span_of l.line) ≡ map span_of l.yielded ++ fields (span_of l.field-iterator.rest);
  counted : l.count ≡ length l.yielded;
  kept : l.first.items ≡ take 7 l.yielded;
}
