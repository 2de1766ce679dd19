-- What changes of lists of kinds do to the registers that they stand for.
use Rattle.std.proofs.Common.{◌≡◌, ℕ, zero, suc, ◌<◌, List, [], ◌∷◌, ◌++◌, length, take, set, replicate, refl, arith}
use Rattle.std.proofs.lemmas.Bool.Decides.{nat_tests}
use Rattle.reg_state.specs.declared.kind.Kind.{Kind}
use Rattle.reg_state.specs.declared.kind.Kind.TheVariants.{Term, Unset}
use Rattle.reg_state.specs.States.{x_of}
use Rattle.action_rules.specs.Effects.{put_x, first_kept, arrived}
use Rattle.action_rules.specs.KindDomain.{kinds}

-- an unset register at the end changes nothing
pub pushed_at : (ks : List Kind) (i : ℕ) → x_of (ks ++ Unset ∷ []) i ≡ x_of ks i
pushed_at [] zero = refl
pushed_at [] (suc i) = refl
pushed_at (k ∷ ks) zero = refl
pushed_at (k ∷ ks) (suc i) = pushed_at ks i

pub pushed : (ks : List Kind) → x_of (ks ++ Unset ∷ []) ≡ x_of ks
pushed ks = λ j i. pushed_at ks i j

cut_at : (n : ℕ) (ks : List Kind) (i : ℕ) → x_of (take n ks) i ≡ first_kept kinds n (x_of ks) i
cut_at zero ks i = grind (arith, nat_tests)
cut_at (suc n) [] i = grind (arith, nat_tests)
cut_at (suc n) (k ∷ ks) zero = grind (arith, nat_tests)
cut_at (suc n) (k ∷ ks) (suc i) = let rest = cut_at n ks i in grind (arith, nat_tests, rest)

pub cut : (n : ℕ) (ks : List Kind) → x_of (take n ks) ≡ first_kept kinds n (x_of ks)
cut n ks = λ j i. cut_at n ks i j

placed_at : (n : ℕ) (ks : List Kind) (k : Kind) (i : ℕ) → n < length ks → x_of (set ks n k) i ≡ put_x (x_of ks) n k i
placed_at n [] k i inside = absurd (omega arith)
placed_at zero (first ∷ ks) k zero inside = refl
placed_at zero (first ∷ ks) k (suc i) inside = grind (arith, nat_tests)
placed_at (suc n) (first ∷ ks) k zero inside = grind (arith, nat_tests)
placed_at (suc n) (first ∷ ks) k (suc i) inside = let rest = placed_at n ks k i (omega arith) in grind (arith, nat_tests, rest)

pub placed : (n : ℕ) (ks : List Kind) (k : Kind) → n < length ks → x_of (set ks n k) ≡ put_x (x_of ks) n k
placed n ks k inside = λ j i. placed_at n ks k i inside j

terms_at : (n i : ℕ) → x_of (replicate n Term) i ≡ arrived kinds n [] i
terms_at zero i = grind (arith, nat_tests)
terms_at (suc n) zero = grind (arith, nat_tests)
terms_at (suc n) (suc i) = let rest = terms_at n i in grind (arith, nat_tests, rest)

pub terms : (n : ℕ) → x_of (replicate n Term) ≡ arrived kinds n []
terms n = λ j i. terms_at n i j
