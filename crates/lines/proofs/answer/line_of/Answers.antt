use Rattle.std.proofs.Common.{subst, arith}
use Rattle.lines.specs.Answer.{By, basis}
use Rattle.lines.specs.Lines.{text}
use Rattle.lines.proofs.answer.line_of.Goals as goal

pub returns-in-Parts : goal.returns-in-Parts
returns-in-Parts c = record {
  too_long = λ l. absurd (omega (arith, c.if-bytes-gt-LIMIT.false));
  read = λ l. subst (λ k. By (basis k) c.args.bytes.now (text c.line_by.result)) c.in-Parts.ensures c.line_by.ensures;
}

pub returns-in-Once : goal.returns-in-Once
returns-in-Once c = record {
  too_long = λ l. absurd (omega (arith, c.if-bytes-gt-LIMIT.false));
  read = λ l. subst (λ k. By (basis k) c.args.bytes.now (text c.line_by-in-Once.result)) c.in-Once.ensures c.line_by-in-Once.ensures;
}
