-- The canonical spelling of operands: the first form that holds the number, and bytes are the fewest that hold it, two at least.
use Rattle.std.specs.Prelude.{ℕ, zero, suc, ◌+◌, ◌-◌, ◌*◌, ◌/◌, ◌%◌, ◌^◌, ℤ, pos, negsuc, Bool, false, nat_lt, nat_le, if◌then◌else◌, List, [], ◌∷◌, ◌++◌, length}
use Rattle.std.specs.List.{flat_map}
use Rattle.byteorder.specs.Endian.{big_bytes}
use Rattle.compact_term.specs.declared.operand.Reg.{Reg}
use Rattle.compact_term.specs.declared.operand.Reg.TheVariants as regs
use Rattle.compact_term.specs.declared.operand.Plain.{Plain}
use Rattle.compact_term.specs.declared.operand.Plain.TheVariants as plains
use Rattle.compact_term.specs.declared.operand.Operand.{Operand}
use Rattle.compact_term.specs.declared.operand.Operand.TheVariants as operands

-- ---- numbers in two's complement

-- how far a number is from 0, and one below zero from -1: n bytes hold it where this is below 2 ^ (8 * n - 1)
abbrev pub magnitude : ℤ → ℕ
magnitude (pos m) = m
magnitude (negsuc m) = m

-- the fewest bytes that hold a number of this magnitude, of n to n + k bytes
unfoldable pub fewest_from : ℕ → ℕ → ℕ → ℕ
fewest_from zero n m = n
fewest_from (suc k) n m = if nat_lt m (2 ^ (8 * n - 1)) then n else fewest_from k (suc n) m

-- two bytes at least, and sixteen at most
abbrev pub fewest : ℤ → ℕ
fewest z = fewest_from 14 2 (magnitude z)

-- the number without sign that stands for it in n bytes
abbrev pub without_sign : ℕ → ℤ → ℕ
without_sign n (pos m) = m
without_sign n (negsuc m) = 2 ^ (8 * n) - suc m

-- in the fewest bytes, the highest first
abbrev pub bytes_of : ℤ → List ℕ
bytes_of z = big_bytes (fewest z) (without_sign (fewest z) z)

-- ---- the forms of numbers, with their tags

abbrev pub is_natural_below : ℕ → ℤ → Bool
is_natural_below limit (pos m) = nat_lt m limit
is_natural_below limit (negsuc m) = false

-- two to eight bytes
abbrev pub in_few_bytes : ℕ → List ℕ → List ℕ
in_few_bytes tag number = (32 * (length number - 2) + 24 + tag) ∷ number

-- the first of the forms of up to eight bytes that holds it
unfoldable pub canonical_short : ℕ → ℤ → List ℕ
canonical_short tag z =
    if is_natural_below 16 z then (16 * magnitude z + tag) ∷ []
    else if is_natural_below 2048 z then (32 * (magnitude z / 256) + 8 + tag) ∷ (magnitude z % 256) ∷ []
    else in_few_bytes tag (bytes_of z)

-- nine bytes and more, with their number, less nine, before them
abbrev pub in_many_bytes : ℕ → List ℕ → List ℕ
in_many_bytes tag number = (248 + tag) ∷ (canonical_short 0 (pos (length number - 9)) ++ number)

unfoldable pub canonical_number : ℕ → ℤ → List ℕ
canonical_number tag z = if nat_le (fewest z) 8 then canonical_short tag z else in_many_bytes tag (bytes_of z)

-- ---- operands, by their tags

abbrev pub canonical_u : ℕ → List ℕ
canonical_u n = canonical_number 0 (pos n)

-- tag z with its number, before what follows it
abbrev pub canonical_z : ℕ → List ℕ
canonical_z n = canonical_number 7 (pos n)

abbrev pub canonical_reg : Reg → List ℕ
canonical_reg (regs.X n) = canonical_number 3 (pos n)
canonical_reg (regs.Y n) = canonical_number 4 (pos n)

abbrev pub canonical_plain : Plain → List ℕ
canonical_plain (plains.U n) = canonical_u n
canonical_plain (plains.I z) = canonical_number 1 z
canonical_plain (plains.Wide w) = in_many_bytes 1 w
canonical_plain (plains.A n) = canonical_number 2 (pos n)
canonical_plain (plains.X n) = canonical_number 3 (pos n)
canonical_plain (plains.Y n) = canonical_number 4 (pos n)
canonical_plain (plains.F n) = canonical_number 5 (pos n)
canonical_plain (plains.H n) = canonical_number 6 (pos n)
canonical_plain (plains.Fr n) = canonical_z 2 ++ canonical_u n
canonical_plain (plains.Lit n) = canonical_z 4 ++ canonical_u n
canonical_plain (plains.Typed r n) = canonical_z 5 ++ (canonical_reg r ++ canonical_u n)

-- a kind and an amount
abbrev pub canonical_pair : ℕ × ℕ → List ℕ
canonical_pair p = canonical_u p.0 ++ canonical_u p.1

abbrev pub canonical : Operand → List ℕ
canonical (operands.One p) = canonical_plain p
canonical (operands.List ps) = canonical_z 1 ++ (canonical_u (length ps) ++ flat_map canonical_plain ps)
canonical (operands.Alloc ps) = canonical_z 3 ++ (canonical_u (length ps) ++ flat_map canonical_pair ps)
