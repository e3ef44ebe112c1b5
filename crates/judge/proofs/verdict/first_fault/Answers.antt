use Rattle.std.proofs.Common.{refl}
use Rattle.sheet.specs.Opening.{fault_of}
use Rattle.judge.proofs.Verdicts.{few_first, types_first, effects_first, passed_accepted}
use Rattle.judge.proofs.verdict.first_fault.Goals as goal

pub returns-then-rows-lt-ENOUGH-clause-first : goal.returns-then-rows-lt-ENOUGH-clause-first
returns-then-rows-lt-ENOUGH-clause-first g c = few_first _ _ _ c.if-rows-lt-ENOUGH.true

pub returns-in-Err-clause-first : goal.returns-in-Err-clause-first
returns-in-Err-clause-first g c = types_first _ _ _ c.in-Err.fault c.if-rows-lt-ENOUGH.false (c.in-Err.ensures.first _)

pub returns-clause-first : goal.returns-clause-first
returns-clause-first g c =
    let s = c.args.sheet.now in
    let K = g.C.Counting.operations s.counting in
    effects_first K s.tables _ (fault_of c.judge_effects.result) (c.in_default.ensures.first _) c.judge_effects.ensures.first

pub returns-clause-accepted : goal.returns-clause-accepted
returns-clause-accepted g c =
    let s = c.args.sheet.now in
    let K = g.C.Counting.operations s.counting in
    let told = effects_first K s.tables _ (fault_of c.judge_effects.result) (c.in_default.ensures.first _) c.judge_effects.ensures.first in
    passed_accepted K s.tables s.sound (g.met.C.Counting.lawful s.counting) _ c.judge_effects.result (c.in_default.ensures.typed refl) told
