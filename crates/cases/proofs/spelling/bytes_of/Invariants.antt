use Rattle.std.proofs.Common.{◌≤◌, vec_len}
use Rattle.cases.proofs.Tokens.{SpelledSoFar}
use Rattle.cases.proofs.spelling.bytes_of.Given as goal

abbrev pub invariant-loop-token : goal.invariant-loop-token
invariant-loop-token l = (vec_len l.bytes ≤ 1200000) × SpelledSoFar l.text l.bytes.items l.token-iterator
