-- Integers of terms: which term a number with a sign is, and which one a sign and a magnitude are.
use Rattle.std.specs.Prelude.{ℕ, suc, ℤ, pos, negsuc, List, length, Bool, true, false, not, ◌&&◌, ◌==◌, nat_lt, if◌then◌else◌}
use Rattle.byteorder.specs.Endian.{little_number}
use Rattle.ext_term.specs.declared.term.Term.{Term}
use Rattle.ext_term.specs.declared.term.Term.TheVariants as terms

-- a number with a sign
abbrev pub int_of : ℤ → Term
int_of (pos n) = terms.Int false n
int_of (negsuc n) = terms.Int true (suc n)

-- whether a sign byte says that a number is below zero
abbrev pub is_minus : ℕ → Bool
is_minus sign = not (sign == 0)

-- a magnitude of at most 16 bytes; zero has no sign
abbrev pub short_big : Bool → ℕ → Term
short_big neg mag = terms.Int (neg && not (mag == 0)) mag

-- a sign byte, and a magnitude whose lowest byte is first
unfoldable pub big_of : ℕ → List ℕ → Term
big_of sign mag = if nat_lt 16 (length mag) then terms.Wide (is_minus sign) mag else short_big (is_minus sign) (little_number (length mag) mag)
