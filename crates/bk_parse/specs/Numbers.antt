-- Numbers in decimal, without leading zeros.
use Rattle.std.specs.Prelude.{ℕ, zero, suc, ◌+◌, ◌^◌, ◌==◌, ◌&&◌, nat_lt, ℤ, pos, negsuc, Bool, false, if◌then◌else◌, List, [], ◌∷◌, Option, Some, None}
use Rattle.std.specs.Char.{is_ascii_digit}
use Rattle.std.specs.List.{list_all}
use Rattle.std.specs.Option.{option_map, option_and_then}
use Rattle.std.specs.Str.Parse.{digits_value}

-- one digit or more, of which the first is zero only where it is alone
abbrev pub is_numeral : List ℕ → Bool
is_numeral [] = false
is_numeral (c ∷ []) = is_ascii_digit c
is_numeral (c ∷ d ∷ ds) = if c == 48 then false else list_all is_ascii_digit (c ∷ d ∷ ds)

-- a number below the limit
abbrev pub number_of : ℕ → List ℕ → Option ℕ
number_of limit text = if is_numeral text && nat_lt (digits_value 10 text) limit then Some (digits_value 10 text) else None

-- a number below zero; there is no minus before zero
abbrev pub below_zero : ℕ → Option ℤ
below_zero zero = None
below_zero (suc n) = Some (negsuc n)

-- a number of 128 bits with its sign: a minus stands before one below zero
abbrev pub signed_of : List ℕ → Option ℤ
signed_of [] = None
signed_of (c ∷ text) = if c == 45 then option_and_then below_zero (number_of (2 ^ 127 + 1) text) else option_map pos (number_of (2 ^ 127) (c ∷ text))
