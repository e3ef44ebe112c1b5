-- What typing_agrees promises is two theorems: the rules and the checks agree on processes, and on whole ones.
use Rattle.calculus.proofs.Typing.{typing_agrees, acceptance_agrees}
use Rattle.calculus.proofs.typing_agrees.Goals as goal

pub returns : goal.returns
returns c = record { processes = typing_agrees; whole = acceptance_agrees }
