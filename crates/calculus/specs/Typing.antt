-- The typing rules, one constructor a rule, and the judgement that they define.
use Rattle.std.specs.Prelude.{◌≡◌, ℕ, zero, suc, ◌<◌, true, List, [], ◌∷◌, length, take, slice_index}
use Rattle.std.specs.List.{AllByRecursion}
use Rattle.calculus.specs.Countings.{Operations}
use Rattle.calculus.specs.Lists.{◌∈◌, extend}
use Rattle.calculus.specs.Labels.{Label, items}
use Rattle.calculus.specs.Types.{Name, NameType, pure, public, channel, Assignment, required, SameType}
use Rattle.calculus.specs.Scopes.{Scope, in_scope, label_in_scope, Fresh, WellFormed}
use Rattle.calculus.specs.Processes.{Process, stop, send, receive, both, copy, new, test, begin, end, size}
use Rattle.calculus.specs.Effects.{Effect, empty, ◌⊑◌, Within, join_effects, larger, full_right, latent}

-- a name of this type is a channel for so many arguments; a public channel takes any count, a pure name is no channel
abbrev pub Takes : NameType → ℕ → Type 0
Takes pure k = ⊥
Takes public k = Unit {0}
Takes (channel n components entries) k = n ≡ k

-- channel x is used with the names ys, sent or received: the count is right, and each name has the required type
pub record ChannelUse (K : Operations) (types : Assignment) (x : Name) (ys : List Name) : Type 0 where
  pub count : Takes (types x) (length ys)
  pub arguments : (i : ℕ) → i < length ys → SameType K (types (slice_index ys i)) (required (types x) ys i)

-- the types of received names are well formed, each after the names before it
abbrev pub WellFormedInTurn : Assignment → Scope → List Name → Type 0
WellFormedInTurn types Γ zs = (i : ℕ) → i < length zs → WellFormed (extend (take i zs) Γ) (types (slice_index zs i))

-- the rules. `Part` is the judgement on the parts of a process: the rule for copy speaks of all effects that its part has, so the rules
-- cannot speak of themselves there
pub data Rule (K : Operations) (types : Assignment) (Part : Scope → Process → Effect → Type 0) : Scope → Process → Effect → Type 0 where
  subsumption : {Γ : Scope} {p : Process} {e f : Effect} → Rule K types Part Γ p e → e ⊑ f → Within Γ f → Rule K types Part Γ p f
  stop_rule : {Γ : Scope} → Rule K types Part Γ stop empty
  send_rule : {Γ : Scope} {x : Name} {ys : List Name} → in_scope Γ x ≡ true → AllByRecursion (λ y. in_scope Γ y ≡ true) ys → ChannelUse K types x ys →
      Rule K types Part Γ (send x ys) (latent K (types x) ys)
  receive_rule : {Γ : Scope} {x : Name} {zs : List Name} {p : Process} {e f : Effect} → in_scope Γ x ≡ true → Fresh zs Γ → ChannelUse K types x zs →
      WellFormedInTurn types Γ zs → Part (extend zs Γ) p f → f ⊑ join_effects K (latent K (types x) zs) e → Within Γ e →
      Rule K types Part Γ (receive x zs p) e
  both_rule : {Γ : Scope} {p q : Process} {e f : Effect} → Part Γ p e → Part Γ q f → Rule K types Part Γ (both p q) (join_effects K e f)
  -- by the least effect of what is copied, which joined with itself must be itself
  copy_rule : {Γ : Scope} {p : Process} {e : Effect} → Part Γ p e → ((f : Effect) → Part Γ p f → e ⊑ f) →
      ((L : Label Name) → K.join (e L) (e L) ≡ e L) → Rule K types Part Γ (copy p) e
  new_rule : {Γ : Scope} {x : Name} {p : Process} {e : Effect} → Fresh (x ∷ []) Γ → WellFormed Γ (types x) → Part (extend (x ∷ []) Γ) p e →
      ((L : Label Name) → x ∈ items L → e L ≡ 0) → Rule K types Part Γ (new x p) e
  -- a test teaches its branches nothing
  test_rule : {Γ : Scope} {x y : Name} {p q : Process} {e f : Effect} → in_scope Γ x ≡ true → in_scope Γ y ≡ true → Part Γ p e → Part Γ q f →
      Rule K types Part Γ (test x y p q) (larger e f)
  begin_rule : {Γ : Scope} {l : Label Name} {p : Process} {e : Effect} → label_in_scope Γ l ≡ true → Part Γ p (join_effects K e (full_right K l)) →
      Rule K types Part Γ (begin l p) e
  end_rule : {Γ : Scope} {l : Label Name} {p : Process} {e : Effect} → label_in_scope Γ l ≡ true → Part Γ p e →
      Rule K types Part Γ (end l p) (join_effects K e (full_right K l))

-- the judgement on processes of at most n nodes: by the rules, over the judgement on those of at most n - 1
abbrev pub DerivesWithin : Operations → Assignment → ℕ → Scope → Process → Effect → Type 0
DerivesWithin K types zero Γ p e = ⊥
DerivesWithin K types (suc n) Γ p e = Rule K types (DerivesWithin K types n) Γ p e

-- in the scope Γ, the process p has the effect e
abbrev pub Derives : Operations → Assignment → Scope → Process → Effect → Type 0
Derives K types Γ p e = DerivesWithin K types (size p) Γ p e

-- a whole process is accepted: its free names are public, and the rules give it the empty effect
pub record Accepted (K : Operations) (types : Assignment) (free : Scope) (p : Process) : Type 0 where
  pub free_public : (x : Name) → in_scope free x ≡ true → types x ≡ public
  pub derives_empty : Derives K types free p empty
