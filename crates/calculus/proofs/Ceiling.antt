-- The ceiling: the amount of a process is at most a join of eight entries a node, so law five covers 1,024 nodes.
use Rattle.std.proofs.Common.{ℕ, zero, suc, ◌+◌, ◌*◌, ◌≤◌, max, List, [], ◌∷◌, ◌++◌, length, sym, subst, le_trans, le_refl, arith, length-append}
use Rattle.std.specs.List.{AllByRecursion}
use Rattle.calculus.specs.Countings.{Operations, Laws, Each≤}
use Rattle.calculus.specs.Joins.{amount_if, join_over}
use Rattle.calculus.specs.Labels.{Label, map_label}
use Rattle.calculus.specs.Types.{Name, Entry, NameType, pure, public, channel, Assignment}
use Rattle.calculus.specs.Processes.{Process, stop, send, receive, both, copy, new, test, begin, end, size}
use Rattle.calculus.specs.Effects.{◌≟◌, named, latent, amount}
use Rattle.calculus.specs.Ceiling.{EntriesSmall, Few}
use Rattle.calculus.specs.Theorems.{AmountsFit}
use Rattle.calculus.proofs.Joins.{if_at_most, join_monotone, left_below, right_below, lack_at_most, joined_append}

each_append : (b : ℕ) (l m : List ℕ) → Each≤ b l → Each≤ b m → Each≤ b (l ++ m)
each_append b [] m h k = k
each_append b (x ∷ l) m h k = (h.0, each_append b l m h.1 k)

module _ (K : Operations) (W : Laws K) where
  -- 0 is a join of no amounts
  few_none : (n : ℕ) → Few K n 0
  few_none n = record { amounts = []; few = omega arith; each = tt; bound = le_refl 0 }

  -- an amount up to the largest entry is a join of one
  few_one : (a : ℕ) → a ≤ K.largest → Few K 1 a
  few_one a h = record { amounts = a ∷ []; few = omega arith; each = (h, tt); bound = left_below K W a 0 }

  -- fewer, and less
  few_less : {n m a b : ℕ} → n ≤ m → a ≤ b → Few K n b → Few K m a
  few_less h k f = record { amounts = f.amounts; few = le_trans f.few h; each = f.each; bound = le_trans k f.bound }

  -- a join of two joins
  few_join : {n m a b : ℕ} → Few K n a → Few K m b → Few K (n + m) (K.join a b)
  few_join {a = a} {b = b} f g = record {
    amounts = f.amounts ++ g.amounts;
    few = (let h = f.few in let k = g.few in let l = length-append f.amounts g.amounts in omega arith);
    each = each_append K.largest f.amounts g.amounts f.each g.each;
    bound = subst (λ (x : ℕ). K.join a b ≤ x) (sym (joined_append K W f.amounts g.amounts)) (join_monotone K W f.bound g.bound);
  }

  -- the entries of a type, with arguments put in
  few_entries : (ys : List Name) (L : Label Name) (n : ℕ) (entries : List Entry) → length entries ≤ n → AllByRecursion (λ e. e.amount ≤ K.largest) entries →
      Few K n (join_over K entries (λ e. amount_if (map_label (named ys) e.label ≟ L) e.amount))
  few_entries ys L n [] h a = few_none n
  few_entries ys L zero (e ∷ entries) h a = absurd (omega arith)
  few_entries ys L (suc n) (e ∷ entries) h a =
      few_less (omega arith) (le_refl _)
      (few_join (few_one _ (if_at_most (map_label (named ys) e.label ≟ L) e.amount K.largest a.0)) (few_entries ys L n entries (omega arith) a.1))

  -- what a channel carries
  few_latent : (t : NameType) (ys : List Name) (L : Label Name) → EntriesSmall K t → Few K 8 (latent K t ys L)
  few_latent pure ys L s = few_none 8
  few_latent public ys L s = few_none 8
  few_latent (channel n components entries) ys L s = few_entries ys L 8 entries s.0 s.1

  max_below : (a b : ℕ) → max a b ≤ K.join a b
  max_below a b = let h = left_below K W a b in let k = right_below K W a b in omega arith

  module _ (types : Assignment) (small : (x : Name) → EntriesSmall K (types x)) (L : Label Name) where
    -- node by node
    few_amount : (p : Process) → Few K (8 * size p) (amount K types p L)
    few_amount stop = few_none _
    few_amount (send x ys) = few_latent (types x) ys L (small x)
    few_amount (receive x zs p) = few_less (omega arith) (lack_at_most K W _ _) (few_amount p)
    few_amount (both p q) = few_less (omega arith) (le_refl _) (few_join (few_amount p) (few_amount q))
    few_amount (copy p) = few_less (omega arith) (le_refl _) (few_amount p)
    few_amount (new x p) = few_less (omega arith) (le_refl _) (few_amount p)
    few_amount (test x y p q) = few_less (omega arith) (max_below _ _) (few_join (few_amount p) (few_amount q))
    few_amount (begin l p) = few_less (omega arith) (lack_at_most K W _ _) (few_amount p)
    few_amount (end l p) = few_less (omega arith) (le_refl _) (few_join (few_amount p) (few_one _ (if_at_most (l ≟ L) K.full K.largest W.full_entry)))

    fits_ceiling : (p : Process) → 8 * size p ≤ 8192 → amount K types p L ≤ K.ceiling
    fits_ceiling p h = let f = few_amount p in le_trans f.bound (W.bounded f.amounts (let k = f.few in omega arith) f.each)

-- the theorem
pub amounts_fit : AmountsFit
amounts_fit K W types small p L =
    record {
      few = few_amount K W types small L p;
      fits = λ h. fits_ceiling K W types small L p (omega arith);
      copy_decided = λ h l e. let k = fits_ceiling K W types small L p (omega arith) in omega arith;
    }
