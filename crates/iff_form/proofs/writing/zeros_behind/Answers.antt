use Rattle.std.proofs.Common.{◌≡◌, ℕ, zero, suc, ◌≤◌, [], ◌∷◌, take, refl, arith}
use Rattle.std.specs.Prelude.{replicate}
use Rattle.iff_form.proofs.writing.zeros_behind.Goals as goal

few_zeros : (n : ℕ) → n ≤ 3 → take {A = ℕ} n (0 ∷ 0 ∷ 0 ∷ []) ≡ replicate n 0
few_zeros zero le = refl
few_zeros (suc zero) le = refl
few_zeros (suc (suc zero)) le = refl
few_zeros (suc (suc (suc zero))) le = refl
few_zeros (suc (suc (suc (suc n)))) le = absurd (omega arith)

pub returns : goal.returns
returns c = rw c.padding.ensures (few_zeros _ (omega arith))
