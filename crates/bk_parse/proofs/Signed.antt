-- Numbers with their sign are read back.
use Rattle.std.proofs.Common.{◌≡◌, ℕ, zero, suc, ◌+◌, ◌^◌, ◌<◌, false, eqb, List, [], ◌∷◌, ℤ, pos, negsuc, Some, option_map, option_and_then, decimal, FitsSigned, ap, ◌∙◌, arith, inl, inr}
use Rattle.std.specs.Fmt.{signed_decimal}
use Rattle.std.specs.Int.{w128}
use Rattle.std.proofs.lemmas.Bool.{eqb-true, ne_eqb, cond-false}
use Rattle.std.proofs.lemmas.Bool.Decides.{nat_tests}
use Rattle.std.proofs.lemmas.Option.{same_Some}
use Rattle.bk_codec.proofs.Steps.{chosen}
use Rattle.bk_parse.specs.Inverse.{Inverts}
use Rattle.bk_parse.specs.Numbers.{number_of, below_zero, signed_of}
use Rattle.bk_parse.proofs.Options.{map_some, then_some}
use Rattle.bk_parse.proofs.Numerals.{number_inverts, first_digit}

plain : Inverts (number_of (2 ^ 127)) (λ n. n < 2 ^ 127) decimal
plain = number_inverts (2 ^ 127) (omega arith)

minus : Inverts (number_of (2 ^ 127 + 1)) (λ n. n < 2 ^ 127 + 1) decimal
minus = number_inverts (2 ^ 127 + 1) (omega arith)

below_found : (n : ℕ) (z : ℤ) (t : List ℕ) → n < 2 ^ 127 + 1 → decimal n ≡ t → below_zero n ≡ Some z → FitsSigned w128 z × (signed_decimal z ≡ 45 ∷ t)
below_found zero z t small is e = absurd cc
below_found (suc n) z t small is e =
    let same : negsuc n ≡ z = same_Some (negsuc n) z e in
    rw (← same) (record { sfits = omega arith }, ap (λ (ds : List ℕ). 45 ∷ ds) is)

signed_found : (t : List ℕ) (z : ℤ) → signed_of t ≡ Some z → FitsSigned w128 z × (signed_decimal z ≡ t)
signed_found [] z e = absurd cc
signed_found (c ∷ t) z e =
    elim (chosen (eqb c 45) (option_and_then below_zero (number_of (2 ^ 127 + 1) t)) (option_map pos (number_of (2 ^ 127) (c ∷ t))) (Some z) e) [
      | inl marked ↦
          let n = then_some below_zero (number_of (2 ^ 127 + 1) t) z marked.1 in
          let read = minus.found t n.0 n.1 in
          let mark : c ≡ 45 = eqb-true c 45 marked.0 in
          rw mark (below_found n.0 z t read.0 read.1 n.2)
      | inr other ↦
          let n = map_some pos (number_of (2 ^ 127) (c ∷ t)) z other.1 in
          let read = plain.found (c ∷ t) n.0 n.1 in
          let small = read.0 in
          rw (← n.2) (record { sfits = omega arith }, read.1)
    ]

-- a numeral does not begin with a minus
no_minus : (t : List ℕ) (n : ℕ) → number_of (2 ^ 127) t ≡ Some n → signed_of t ≡ Some (pos n)
no_minus [] n e = absurd cc
no_minus (c ∷ t) n e =
    let digit = first_digit (2 ^ 127) n (c ∷ t) e in
    let other : eqb c 45 ≡ false = ne_eqb c 45 (λ is. grind (arith, nat_tests)) in
    cond-false (eqb c 45) (option_and_then below_zero (number_of (2 ^ 127 + 1) t)) (option_map pos (number_of (2 ^ 127) (c ∷ t))) other ∙ ap (option_map pos) e

signed_back : (z : ℤ) → FitsSigned w128 z → signed_of (signed_decimal z) ≡ Some z
signed_back (pos n) fits =
    let small : n < 2 ^ 127 = omega (arith, fits.sfits) in
    no_minus (decimal n) n (plain.only n small)
signed_back (negsuc n) fits =
    let small : suc n < 2 ^ 127 + 1 = omega (arith, fits.sfits) in
    ap (option_and_then below_zero) (minus.only (suc n) small)

pub signed_inverts : Inverts signed_of (FitsSigned w128) signed_decimal
signed_inverts = record { found = signed_found; only = signed_back }
