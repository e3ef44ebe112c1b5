use Rattle.std.proofs.Common.{◌≡◌, ℕ, ◌<◌, false, ◌||◌, length, get_or}
use Rattle.sheet.specs.Scope.{member}
use Rattle.names.proofs.scopes.mark.Given as goal

abbrev pub invariant-loop-name : goal.invariant-loop-name
invariant-loop-name l =
    (y : ℕ) → y < length l.marks → get_or l.marks y false ≡ (member y l.yielded || get_or l.initial.marks y false)
