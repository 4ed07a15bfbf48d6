-- The run that ends at a fault or at the end of the text, and what a whole run tells.
use Rattle.std.proofs.Common.{◌≡◌, ℕ, List, ◌∷◌, length, Err, sym, refl, ap, subst, rules, arith}
use Rattle.svx_line.specs.Spans.{Span}
use Rattle.svx_line.specs.Parts.{span_of}
use Rattle.svx.specs.Lines.{lines_left}
use Rattle.svx.specs.Reading.{means, Outcome, Reads, through}
use Rattle.svx.specs.Script.{script}
use Rattle.svx.specs.Told.{fault_told, outcome}
use Rattle.svx.proofs.Lefts.{left_none}
use Rattle.svx.proofs.Runs.{onward_stop, onward_end, short, exactly, not_through}
use Rattle.svx.proofs.read.Goals as goal

-- the lines left before this one, in the text itself
moved : (text held : List ℕ) (p q : ℕ) (x : Span) → held ≡ text → lines_left p held ≡ x ∷ lines_left q held → lines_left p text ≡ x ∷ lines_left q text
moved text held p q x e h = subst (λ (xs : List ℕ). lines_left p xs ≡ x ∷ lines_left q xs) e h

pub returns-in_err-read_line-clause-run : goal.returns-in_err-read_line-clause-run
returns-in_err-read_line-clause-run g c =
    let m = means g.S.Survey.legs g.S.Survey.enters g.S.Survey.amends g.S.Survey.leads in
    let x = span_of c.in-Some.part in
    let r = c.loop-part.reader in
    let n = c.next_line.new.self in
    let f = c.in_err-read_line.field-0.0 in
    let e : c.from_residual.result ≡ Err f = search rules in
    let z = moved c.args.text.now _ r.place n.place x c.loop-part.invariant.0 c.in-Some.ensures.lines in
    let run = short m c.args.text.now c.args.survey.now (fault_told f) c.read_line.new.survey (omega arith)
    (onward_stop m c.args.text.now r.place r.line n.place n.line c.args.survey.now c.loop-part.survey c.read_line.new.survey x z c.in-Some.ensures.line c.loop-part.invariant.2 (fault_told f) (not_through f) c.in_err-read_line.ensures) in
    subst (λ (o : Outcome). Reads m (script c.args.text.now) c.args.survey.now o c.read_line.new.survey) (sym (ap outcome e)) run

pub returns-in_err-read_line-clause-exactly : goal.returns-in_err-read_line-clause-exactly
returns-in_err-read_line-clause-exactly g c = exactly _ _ _ _ _ (returns-in_err-read_line-clause-run g c)

pub returns-clause-run : goal.returns-clause-run
returns-clause-run g c =
    let m = means g.S.Survey.legs g.S.Survey.enters g.S.Survey.amends g.S.Survey.leads in
    let n = c.in_default.ensures.last refl in
    let k = ap length c.loop-part.invariant.0 in
    short m c.args.text.now c.args.survey.now through c.loop-part.survey (omega arith)
    (onward_end m c.args.text.now c.loop-part.reader.place c.loop-part.reader.line c.args.survey.now c.loop-part.survey (left_none c.args.text.now c.loop-part.reader.place (omega arith)) c.loop-part.invariant.2)

pub returns-clause-exactly : goal.returns-clause-exactly
returns-clause-exactly g c = exactly _ _ _ _ _ (returns-clause-run g c)
