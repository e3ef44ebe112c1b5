-- Bytes have one reading: two records in front of the same bytes are one record.
use Rattle.std.proofs.Common.{◌≡◌, ℕ, suc, ◌+◌, ◌*◌, ◌/◌, ◌%◌, cond, eqb, List, ◌++◌, get_or, drop, sym, refl, ap, ◌∙◌, ap₂, arith}
use Rattle.records.specs.Records.{codes}
use Rattle.records.specs.declared.record.Quad.{Quad}
use Rattle.records.specs.declared.record.Record.{Record}
use Rattle.records.specs.declared.record.Record.TheVariants.{Head, Name, Pure, Public, Channel, Entry, Stop, Send, Receive, Both, Copy, New, Test, Begin, End}

abbrev at : ℕ → List ℕ → ℕ
at i bs = get_or bs i 0

abbrev two_at : ℕ → List ℕ → ℕ
two_at i bs = at i bs + at (suc i) bs * 256

abbrev four_at : ℕ → List ℕ → ℕ
four_at i bs = at i bs + (at (suc i) bs + (at (suc (suc i)) bs + at (suc (suc (suc i))) bs * 256) * 256) * 256

abbrev quad_at : ℕ → List ℕ → Quad
quad_at i bs = record { 0 = at i bs; 1 = at (suc i) bs; 2 = at (suc (suc i)) bs; 3 = at (suc (suc (suc i))) bs }

-- the record that bytes of a kind spell, and how long it is
abbrev decode : List ℕ → Record
decode bs =
    cond (eqb (at 0 bs) 1) (Head (at 1 bs) (at 2 bs) (four_at 3 bs)) (
    cond (eqb (at 0 bs) 2) (Name (at 1 bs)) (
    cond (eqb (at 0 bs) 3) (Pure) (
    cond (eqb (at 0 bs) 4) (Public) (
    cond (eqb (at 0 bs) 5) (Channel (at 1 bs) (quad_at 2 bs)) (
    cond (eqb (at 0 bs) 6) (Entry (four_at 1 bs) (quad_at 5 bs)) (
    cond (eqb (at 0 bs) 16) (Stop) (
    cond (eqb (at 0 bs) 17) (Send (at 1 bs) (at 2 bs) (quad_at 3 bs)) (
    cond (eqb (at 0 bs) 18) (Receive (at 1 bs) (at 2 bs) (quad_at 3 bs) (two_at 7 bs)) (
    cond (eqb (at 0 bs) 19) (Both (two_at 1 bs) (two_at 3 bs)) (
    cond (eqb (at 0 bs) 20) (Copy (two_at 1 bs)) (
    cond (eqb (at 0 bs) 21) (New (at 1 bs) (two_at 2 bs)) (
    cond (eqb (at 0 bs) 22) (Test (at 1 bs) (at 2 bs) (two_at 3 bs) (two_at 5 bs)) (
    cond (eqb (at 0 bs) 23) (Begin (quad_at 1 bs) (two_at 5 bs)) (
    End (quad_at 1 bs) (two_at 5 bs)))))))))))))))

abbrev long : List ℕ → ℕ
long bs =
    cond (eqb (at 0 bs) 1) 7 (
    cond (eqb (at 0 bs) 2) 2 (
    cond (eqb (at 0 bs) 3) 1 (
    cond (eqb (at 0 bs) 4) 1 (
    cond (eqb (at 0 bs) 5) 6 (
    cond (eqb (at 0 bs) 6) 9 (
    cond (eqb (at 0 bs) 16) 1 (
    cond (eqb (at 0 bs) 17) 7 (
    cond (eqb (at 0 bs) 18) 9 (
    cond (eqb (at 0 bs) 19) 5 (
    cond (eqb (at 0 bs) 20) 3 (
    cond (eqb (at 0 bs) 21) 4 (
    cond (eqb (at 0 bs) 22) 7 (
    cond (eqb (at 0 bs) 23) 7 (
    7))))))))))))))

two_back : (n : ℕ) → n % 256 + n / 256 * 256 ≡ n
two_back n = omega arith

four_back : (n : ℕ) → n % 256 + (n / 256 % 256 + (n / 256 / 256 % 256 + n / 256 / 256 / 256 * 256) * 256) * 256 ≡ n
four_back n = let a = two_back n in let b = two_back (n / 256) in let c = two_back (n / 256 / 256) in omega arith

decoded : (r : Record) (rest : List ℕ) → decode (codes r ++ rest) ≡ r
decoded (Head edition code full) rest = ap (λ n. Head edition code n) (four_back full)
decoded (Name sort) rest = refl
decoded Pure rest = refl
decoded Public rest = refl
decoded (Channel count components) rest = refl
decoded (Entry amount items) rest = ap (λ n. Entry n items) (four_back amount)
decoded Stop rest = refl
decoded (Send channel count names) rest = refl
decoded (Receive channel count names next) rest = ap (λ n. Receive channel count names n) (two_back next)
decoded (Both first second) rest = ap₂ Both (two_back first) (two_back second)
decoded (Copy next) rest = ap Copy (two_back next)
decoded (New name next) rest = ap (λ n. New name n) (two_back next)
decoded (Test left right same other) rest = ap₂ (λ m n. Test left right m n) (two_back same) (two_back other)
decoded (Begin names next) rest = ap (λ n. Begin names n) (two_back next)
decoded (End names next) rest = ap (λ n. End names n) (two_back next)

behind : (r : Record) (rest : List ℕ) → drop (long (codes r ++ rest)) (codes r ++ rest) ≡ rest
behind (Head edition code full) rest = refl
behind (Name sort) rest = refl
behind Pure rest = refl
behind Public rest = refl
behind (Channel count components) rest = refl
behind (Entry amount items) rest = refl
behind Stop rest = refl
behind (Send channel count names) rest = refl
behind (Receive channel count names next) rest = refl
behind (Both first second) rest = refl
behind (Copy next) rest = refl
behind (New name next) rest = refl
behind (Test left right same other) rest = refl
behind (Begin names next) rest = refl
behind (End names next) rest = refl

-- two records in front of the same bytes are one, with one rest
pub one_reading : (r s : Record) (x y : List ℕ) → codes r ++ x ≡ codes s ++ y → (r ≡ s) × (x ≡ y)
one_reading r s x y e = (
  sym (decoded r x) ∙ ap decode e ∙ decoded s y,
  sym (behind r x) ∙ ap (λ bs. drop (long bs) bs) e ∙ behind s y,
)
