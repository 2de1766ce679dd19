-- Numbers of bytes that were taken from the front.
use Rattle.std.proofs.Common.{◌≡◌, ℕ, ◌≤◌, ◌+◌, ◌/◌, ◌%◌, false, ltb, ℤ, to_z, of_z, SFits, List, length, take, drop, refl, arith}
use Rattle.std.proofs.lemmas.Bool.{le-ltb, ne_eqb}
use Rattle.std.proofs.lemmas.Int.{to_z-of_z}
use Rattle.std.specs.Int.{Width}
use Rattle.byteorder.specs.Endian.{big_number, twos_complement}
use Rattle.byteorder.specs.Numbers.{big_from-take}
use Rattle.bk_codec.specs.Reading.{giving, made_of, number_at}
use Rattle.compact_term.specs.declared.refusal.OperandRefusal.TheVariants.{Cut}
use Rattle.compact_term.specs.Reading.{short_at}

pub number_taken : {E : Type 0} (cut : E) (w : Width) (n : ℕ) (rest after : List ℕ) (z : ℤ) → n ≤ length rest → SFits w z
    → z ≡ twos_complement n (big_number n (take n rest)) → after ≡ drop n rest
    → made_of (twos_complement n) (number_at cut n rest) ≡ giving (to_z w (of_z w z)) after
number_taken cut w n rest after z long fits is left =
    let enough : ltb (length rest) n ≡ false = le-ltb _ _ long in
    rw (enough, to_z-of_z w z fits, is, left, big_from-take 0 n n rest (omega arith)) refl

pub in_few_bytes : (first n : ℕ) (rest : List ℕ) → (first / 8 % 2 ≡ 0 → ⊥) → (first / 16 % 2 ≡ 0 → ⊥) → n ≡ first / 32 + 2
    → short_at first rest ≡ made_of (twos_complement n) (number_at Cut n rest)
unfolding short_at
in_few_bytes first n rest many more count = rw (ne_eqb _ _ many, ne_eqb _ _ more, count) refl
