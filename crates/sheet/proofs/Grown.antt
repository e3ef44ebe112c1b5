-- Children as they are counted, for the tree.
use Rattle.std.proofs.Common.{◌≡◌, ℕ, ◌+◌, ◌<◌, ◌≤◌, true, false, cond, not, ◌&&◌, ◌||◌, eqb, ltb, List, [], ◌∷◌, ◌++◌, length, take, Option, sym, ap, ◌∙◌, arith}
use Rattle.std.proofs.lemmas.List.Sums.{sum_by_more, sum_by-append, count_by-le-length}
use Rattle.std.proofs.lemmas.Bool.{both_ways}
use Rattle.fault.specs.Items.{things}
use Rattle.fault.specs.declared.items.Items.{Items}
use Rattle.tables.specs.Range.{all}
use Rattle.tables.proofs.Iterated.{few}
use Rattle.sheet.specs.Tree.{children, node_at, times, named, misgrown}
use Rattle.tables.specs.declared.tables.Node.{Node}
use Rattle.tables.specs.declared.tables.Node.TheVariants.{Stop}

pub times_one : (k c : ℕ) → times k (c ∷ []) ≤ 1
times_one k c = count_by-le-length (λ y. eqb y k) (c ∷ [])

-- a tuple has a number at most four times
pub times_few : (k : ℕ) (o : Option (Items ℕ)) → times k (things o) ≤ 4
times_few k o = omega (arith, few o, count_by-le-length (λ y. eqb y k) (things o))

-- one child more
pub times_more : (k c : ℕ) (xs : List ℕ) → times k (xs ++ c ∷ []) ≡ times k xs + times k (c ∷ [])
times_more k c xs = sum_by-append (λ x. cond (eqb x k) 1 0) xs (c ∷ [])

-- the children of one node more
pub named_more : (nodes : List Node) (i k : ℕ) (cs : List ℕ) → i < length nodes → cs ≡ children (node_at nodes i)
    → named (take (i + 1) nodes) k ≡ named (take i nodes) k + times k cs
named_more nodes i k cs l e =
    let m = sum_by_more (λ x. times k (children x)) nodes i Stop l in
    omega (arith, m, ap (times k) e)

-- what the test of a node says of it
pub grown : (nodes : List Node) (n count : ℕ) → count ≡ named nodes n
    → false ≡ (not (all (λ c. ltb n c) (children (node_at nodes n))) || (ltb 0 n && not (eqb count 1))) → misgrown nodes n ≡ true → ⊥
grown nodes n count e f t =
    let g = ap (λ k. not (all (λ c. ltb n c) (children (node_at nodes n))) || (ltb 0 n && not (eqb k 1))) e in
    both_ways (misgrown nodes n) (sym g ∙ sym f) t
