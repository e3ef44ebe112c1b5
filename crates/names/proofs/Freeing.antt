-- Free names by the chart, and the public type.
use Rattle.std.proofs.Common.{◌≡◌, ℕ, ◌<◌, Bool, true, false, not, ◌&&◌, ltb, length, is_some, Decides, Option, sym, refl, ap, ◌∙◌, arith}
use Rattle.std.proofs.lemmas.Bool.{lt-ltb}
use Rattle.calculus.specs.Types as calculus
use Rattle.tables.specs.Elements.{elements}
use Rattle.tables.specs.declared.tables.SheetType.{SheetType}
use Rattle.tables.specs.declared.tables.SheetType.TheVariants.{Pure, Public, Channel}
use Rattle.tables.specs.declared.tables.Tables.{Tables}
use Rattle.meaning.specs.Scopes.{bound, free, binder_of}
use Rattle.meaning.specs.Types.{form}
use Rattle.names.proofs.Charting.{binder_bound}

not_twice : (r : Bool) → not (not r) ≡ r
not_twice true = refl
not_twice false = refl

-- a name that there is is free where it has no binder; one that there is not is not free
pub free_then : (t : Tables) (x n : ℕ) (o : Option ℕ) (r : Bool) → n ≡ length (elements t.names) → x < n → o ≡ binder_of (elements t.nodes) x → is_some o ≡ not r → r ≡ free t x
free_then t x n o r e l b s =
    sym (not_twice r)
    ∙ ap not (sym s ∙ ap is_some b ∙ binder_bound (elements t.nodes) x)
    ∙ ap (λ k. k && not (bound (elements t.nodes) x)) (sym (sym (ap (ltb x) e) ∙ lt-ltb x n l))

-- the public type means the public one, and no other does
pub public_form : (f : ℕ → calculus.NameType) (x : SheetType) (r : Bool) → Decides r (x ≡ Public) → Decides r (form f x ≡ calculus.public)
public_form f x r d = (λ h. ap (form f) (d.0 h), λ e. d.1 (back x e))
  where
    back : (y : SheetType) → form f y ≡ calculus.public → y ≡ Public
    back Pure e = let z : ◌≡◌ {A = ℕ} 0 1 = cc in absurd (omega arith)
    back Public e = refl
    back (Channel c) e = let z : ◌≡◌ {A = ℕ} 0 1 = cc in absurd (omega arith)
