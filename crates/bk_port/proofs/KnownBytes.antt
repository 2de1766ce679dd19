use Rattle.std.specs.Prelude.{◌≡◌, List, ℕ, ◌++◌, Option, Some, None}
use Rattle.std.proofs.Common.{refl, ap, sym, append_assoc}
use Rattle.bk_port.specs.Known.{before_known, after_known}

-- one part before another, both before what is known
pub before_known-append : (front back : List ℕ) (known : Option (List ℕ)) → before_known front (before_known back known) ≡ before_known (front ++ back) known
before_known-append front back None = refl
before_known-append front back (Some rest) = ap (λ (l : List ℕ). Some l) (sym (append_assoc front back rest))

-- one part after another, both after what is known
pub after_known-append : (known : Option (List ℕ)) (front back : List ℕ) → after_known (after_known known front) back ≡ after_known known (front ++ back)
after_known-append None front back = refl
after_known-append (Some known) front back = ap (λ (l : List ℕ). Some l) (append_assoc known front back)
