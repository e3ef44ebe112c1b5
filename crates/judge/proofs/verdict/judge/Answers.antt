use Rattle.judge.proofs.Verdicts.{accepted_unfaulted}
use Rattle.judge.proofs.verdict.judge.Goals as goal

pub returns-in_err-first_fault-clause-accepted : goal.returns-in_err-first_fault-clause-accepted
returns-in_err-first_fault-clause-accepted g c enough a =
    let s = c.args.sheet.now in
    absurd (accepted_unfaulted _ _ s.sound (g.met.C.Counting.lawful s.counting) _ enough a c.in_err-first_fault.field-0.0 c.in_err-first_fault.ensures.first.0)
