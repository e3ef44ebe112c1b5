-- Safety: where a run starts, and when a configuration is safe.
use Rattle.std.specs.Prelude.{◌≡◌, ◌<◌, ◌≤◌, true, List, [], ◌∷◌, length, ◌≢◌}
use Rattle.std.specs.List.{AllByRecursion}
use Rattle.calculus.specs.Countings.{Operations}
use Rattle.calculus.specs.Lists.{◌∈◌, Removal}
use Rattle.calculus.specs.Joins.{rights}
use Rattle.calculus.specs.Labels.{Label, map_label}
use Rattle.calculus.specs.Types.{Name, Value, public, Assignment}
use Rattle.calculus.specs.Scopes.{Scope, in_scope}
use Rattle.calculus.specs.Processes.{Process, send, receive, end}
use Rattle.calculus.specs.Reduction.{Valuation, Thread, thread, Configuration, Covered}

-- where a run of p may start: one thread, at p. The free names have values, the outsider knows only values that there are,
-- values were made for free names only, and nothing has begun or ended
pub record Start (free : Scope) (p : Process) (c : Configuration) : Type 0 where
  pub valuation : Valuation
  pub alone : c.threads ≡ thread p valuation ∷ []
  pub values : (x : Name) → in_scope free x ≡ true → valuation x < c.next
  pub known : (v : Value) → c.known v ≡ true → v < c.next
  pub made : AllByRecursion (λ m. (m.0 < c.next) × (in_scope free m.1 ≡ true)) c.made
  pub no_begin : (M : Label Value) → c.begins M ≡ 0
  pub no_end : (M : Label Value) → c.ends M ≡ 0

-- a configuration is safe
pub record Safe (K : Operations) (types : Assignment) (c : Configuration) : Type 0 where
  -- for every label, the full rights of its ends so far, joined, are at most those of its begins so far, joined
  pub ends_begun : (M : Label Value) → rights K (c.ends M) ≤ rights K (c.begins M)
  -- an end that is about to be made is covered
  pub next_end_covered : (l : Label Name) (p : Process) (ρ : Valuation) (r : List Thread) →
      Removal (thread (end l p) ρ) c.threads r → Covered K c (map_label ρ l)
  -- the outsider knows no value made for a name that is not public
  pub secret : (v : Value) (x : Name) → c.known v ≡ true → (v, x) ∈ c.made → types x ≡ public
  -- a sender and a receiver that wait on one value made for such a name have equal counts
  pub counts_agree : (v : Value) (n : Name) → (v, n) ∈ c.made → (types n ≢ public) →
      (x w : Name) (ys zs : List Name) (p : Process) (σ ρ : Valuation) (s r : List Thread) →
      Removal (thread (send x ys) σ) c.threads s → Removal (thread (receive w zs p) ρ) c.threads r → σ x ≡ v → ρ w ≡ v → length ys ≡ length zs
