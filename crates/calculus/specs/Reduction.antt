-- The reduction: what a running process may do next, beside an outsider who may use what it knows.
use Rattle.std.specs.Prelude.{◌≡◌, ℕ, suc, ◌+◌, ◌≤◌, Bool, true, cond, List, [], ◌∷◌, map, length, ◌==◌, ◌≢◌}
use Rattle.std.specs.List.{AllByRecursion}
use Rattle.calculus.specs.Countings.{Operations}
use Rattle.calculus.specs.Lists.{extend, Removal}
use Rattle.calculus.specs.Joins.{amount_if, rights}
use Rattle.calculus.specs.Labels.{Label, map_label}
use Rattle.calculus.specs.Types.{Name, Value}
use Rattle.calculus.specs.Processes.{Process, stop, send, receive, both, copy, new, test, begin, end}
use Rattle.calculus.specs.Effects.{◌≟◌}

-- the values that names have
abbrev pub Valuation : Type 0
Valuation = Name → Value

-- the valuation with values for further names
abbrev pub bind : List Name → List Value → Valuation → Valuation
bind [] vs ρ x = ρ x
bind (z ∷ zs) [] ρ x = ρ x
bind (z ∷ zs) (v ∷ vs) ρ x = cond (z == x) v (bind zs vs ρ x)

-- a process that runs, and the values of its names
pub record Thread : Type 0 where
  pub process : Process
  pub valuation : Valuation

-- the thread of a process and a valuation
abbrev pub thread : Process → Valuation → Thread
thread p ρ = record { process = p; valuation = ρ }

-- how often each label of values has occurred
abbrev pub Tally : Type 0
Tally = Label Value → ℕ

-- one occurrence more
abbrev pub note : Label Value → Tally → Tally
note L tally M = amount_if (L ≟ M) 1 + tally M

-- a running process: its threads, and what has happened so far
pub record Configuration : Type 0 where
  -- the threads, in no order
  pub threads : List Thread
  -- the next unused value
  pub next : Value
  -- the values that the outsider knows
  pub known : Value → Bool
  -- the values made for names so far
  pub made : List (Value × Name)
  -- the begins and the ends so far
  pub begins : Tally
  pub ends : Tally

-- the configuration with other threads
abbrev pub with_threads : Configuration → List Thread → Configuration
with_threads c ts = record { threads = ts; next = c.next; known = c.known; made = c.made; begins = c.begins; ends = c.ends }

-- one more end of the label is covered: the full rights of its ends, this one counted, join to no more than those of its begins
abbrev pub Covered : Operations → Configuration → Label Value → Type 0
Covered K c M = rights K (suc (c.ends M)) ≤ rights K (c.begins M)

-- what may come of the configuration c. Threads are taken out of the bag c.threads, which leaves r (or first s, then r),
-- and others are put in, which makes t (or first s, then t)
pub data Reduction (K : Operations) (c : Configuration) : Configuration → Type 0 where
  step_stop : {ρ : Valuation} {r : List Thread} → Removal (thread stop ρ) c.threads r → Reduction K c (with_threads c r)
  step_both : {p q : Process} {ρ : Valuation} {r s t : List Thread} →
      Removal (thread (both p q) ρ) c.threads r → Removal (thread p ρ) s r → Removal (thread q ρ) t s → Reduction K c (with_threads c t)
  -- the copy stays
  step_copy : {p : Process} {ρ : Valuation} {r t : List Thread} →
      Removal (thread (copy p) ρ) c.threads r → Removal (thread p ρ) t c.threads → Reduction K c (with_threads c t)
  step_new : {x : Name} {p : Process} {ρ : Valuation} {r t : List Thread} →
      Removal (thread (new x p) ρ) c.threads r → Removal (thread p (bind (x ∷ []) (c.next ∷ []) ρ)) t r →
      Reduction K c (record { threads = t; next = suc c.next; known = c.known; made = (c.next, x) ∷ c.made; begins = c.begins; ends = c.ends })
  step_equal : {x y : Name} {p q : Process} {ρ : Valuation} {r t : List Thread} →
      Removal (thread (test x y p q) ρ) c.threads r → ρ x ≡ ρ y → Removal (thread p ρ) t r → Reduction K c (with_threads c t)
  step_different : {x y : Name} {p q : Process} {ρ : Valuation} {r t : List Thread} →
      Removal (thread (test x y p q) ρ) c.threads r → (ρ x ≢ ρ y) → Removal (thread q ρ) t r → Reduction K c (with_threads c t)
  step_begin : {l : Label Name} {p : Process} {ρ : Valuation} {r t : List Thread} →
      Removal (thread (begin l p) ρ) c.threads r → Removal (thread p ρ) t r →
      Reduction K c (record { threads = t; next = c.next; known = c.known; made = c.made; begins = note (map_label ρ l) c.begins; ends = c.ends })
  step_end : {l : Label Name} {p : Process} {ρ : Valuation} {r t : List Thread} →
      Removal (thread (end l p) ρ) c.threads r → Covered K c (map_label ρ l) → Removal (thread p ρ) t r →
      Reduction K c (record { threads = t; next = c.next; known = c.known; made = c.made; begins = c.begins; ends = note (map_label ρ l) c.ends })
  -- a sender and a receiver on one value, with equal counts
  meet : {x w : Name} {ys zs : List Name} {p : Process} {σ ρ : Valuation} {r s t : List Thread} →
      Removal (thread (send x ys) σ) c.threads s → Removal (thread (receive w zs p) ρ) s r → σ x ≡ ρ w → length ys ≡ length zs →
      Removal (thread p (bind zs (map σ ys) ρ)) t r → Reduction K c (with_threads c t)
  -- the outsider hears what is sent on a value that it knows
  hear : {x : Name} {ys : List Name} {σ : Valuation} {r : List Thread} →
      Removal (thread (send x ys) σ) c.threads r → c.known (σ x) ≡ true →
      Reduction K c (record { threads = r; next = c.next; known = extend (map σ ys) c.known; made = c.made; begins = c.begins; ends = c.ends })
  -- the outsider feeds values that it knows to a receiver on a value that it knows
  feed : {w : Name} {zs : List Name} (vs : List Value) {p : Process} {ρ : Valuation} {r t : List Thread} →
      Removal (thread (receive w zs p) ρ) c.threads r → c.known (ρ w) ≡ true → length vs ≡ length zs → AllByRecursion (λ v. c.known v ≡ true) vs →
      Removal (thread p (bind zs vs ρ)) t r → Reduction K c (with_threads c t)
  -- the outsider invents a value
  invent : Reduction K c (record { threads = c.threads; next = suc c.next; known = extend (c.next ∷ []) c.known; made = c.made; begins = c.begins; ends = c.ends })

-- d comes of c by any number of reductions
pub data Reachable (K : Operations) (c : Configuration) : Configuration → Type 0 where
  at_once : Reachable K c c
  after : {d e : Configuration} → Reachable K c d → Reduction K d e → Reachable K c e

-- an error: a thread at an end that is not covered
pub record Error (K : Operations) (c : Configuration) : Type 0 where
  pub label : Label Name
  pub rest : Process
  pub valuation : Valuation
  pub others : List Thread
  pub stands : Removal (thread (end label rest) valuation) c.threads others
  pub uncovered : Covered K c (map_label valuation label) → ⊥
