-- The one spelling of a term that is written, and the terms that have one.
use Rattle.std.specs.Prelude.{◌≡◌, ℕ, zero, suc, ◌-◌, ◌/◌, ◌%◌, ◌^◌, ◌<◌, ◌≤◌, ◌⊎◌, Bool, true, false, not, ◌&&◌, ◌==◌, nat_lt, nat_le, if◌then◌else◌, List, [], ◌∷◌, ◌++◌, length, Option, Some, None, is_some, All, IsUtf8}
use Rattle.std.specs.List.{flat_map, list_all}
use Rattle.byteorder.specs.Endian.{big_bytes}
use Rattle.bk_codec.specs.Spelling.{IsBytes}
use Rattle.ext_term.specs.Spelling.{byte_term}
use Rattle.ext_term.specs.declared.term.Term.{Term, fold-Term, out-Term, every-Term}
use Rattle.ext_term.specs.declared.term.Term.TheOpen.{Term-F}
use Rattle.ext_term.specs.declared.term.Term.TheVariants as terms

-- what is written of a term; its number where it is an integer of one byte; and whether it is the empty list
pub record Written : Type 0 where
  pub bytes : List ℕ
  pub byte : Option ℕ
  pub is_nil : Bool

abbrev pub written : List ℕ → Written
written bytes = record { bytes = bytes; byte = None; is_nil = false }

-- ---- integers

-- the bytes of a number up to its highest that isn't 0, the lowest first; it has at most n of them
unfoldable pub significant : ℕ → ℕ → List ℕ
significant zero number = []
significant (suc n) number = if number == 0 then [] else (number % 256) ∷ significant n (number / 256)

abbrev pub sign_byte : Bool → ℕ
sign_byte neg = if neg then 1 else 0

-- the number of the magnitude's bytes in one byte where that holds it, and else in four
abbrev pub big_bytes_of : Bool → List ℕ → List ℕ
big_bytes_of neg mag =
    if nat_lt (length mag) 256 then 110 ∷ length mag ∷ sign_byte neg ∷ mag
    else 111 ∷ (big_bytes 4 (length mag) ++ (sign_byte neg ∷ mag))

-- whether a number with its sign has 32 bits in two's complement
abbrev pub has_32_bits : Bool → ℕ → Bool
has_32_bits neg mag = if neg then nat_le mag (2 ^ 31) else nat_lt mag (2 ^ 31)

-- two's complement of 32 bits
abbrev pub bits_32 : Bool → ℕ → ℕ
bits_32 neg mag = if neg then 2 ^ 32 - mag else mag

unfoldable pub integer_written : Bool → ℕ → Written
integer_written neg mag =
    if not neg && nat_lt mag 256 then record { bytes = 97 ∷ mag ∷ []; byte = Some mag; is_nil = false }
    else if has_32_bits neg mag then written (98 ∷ big_bytes 4 (bits_32 neg mag))
    else written (big_bytes_of neg (significant 16 mag))

-- ---- atoms

unfoldable pub atom_bytes : List ℕ → List ℕ
atom_bytes name =
    if nat_lt (length name) 256 then 119 ∷ length name ∷ name
    else 118 ∷ (big_bytes 2 (length name) ++ name)

-- ---- lists

-- whether a list is written as bytes: 1 to 65,535 integers of one byte, and nothing behind them
abbrev pub is_string : List Written → Written → Bool
is_string items tail = tail.is_nil && nat_le 1 (length items) && nat_lt (length items) 65536 && list_all (λ item. is_some item.byte) items

-- the byte of an integer of one byte
abbrev pub byte_list : Option ℕ → List ℕ
byte_list (Some b) = b ∷ []
byte_list None = []

abbrev pub string_bytes : List Written → List ℕ
string_bytes items = 107 ∷ (big_bytes 2 (length items) ++ flat_map (λ item. byte_list item.byte) items)

abbrev pub list_bytes : List Written → Written → List ℕ
list_bytes items tail =
    if is_string items tail then string_bytes items
    else 108 ∷ (big_bytes 4 (length items) ++ (flat_map (λ item. item.bytes) items ++ tail.bytes))

-- ---- terms

abbrev pub tuple_head : ℕ → List ℕ
tuple_head n = if nat_lt n 256 then 104 ∷ n ∷ [] else 105 ∷ big_bytes 4 n

abbrev pub tuple_bytes : List Written → List ℕ
tuple_bytes items = tuple_head (length items) ++ flat_map (λ item. item.bytes) items

abbrev pub binary_bytes : List ℕ → List ℕ
binary_bytes s = 109 ∷ (big_bytes 4 (length s) ++ s)

abbrev pub bits_bytes : List ℕ → ℕ → List ℕ
bits_bytes s last = 77 ∷ (big_bytes 4 (length s) ++ (last ∷ s))

abbrev pub export_bytes : List ℕ → List ℕ → ℕ → List ℕ
export_bytes m f arity = 113 ∷ (atom_bytes m ++ (atom_bytes f ++ (97 ∷ arity ∷ [])))

abbrev pub map_bytes : List (Written × Written) → List ℕ
map_bytes pairs = 116 ∷ (big_bytes 4 (length pairs) ++ flat_map (λ pair. pair.0.bytes ++ pair.1.bytes) pairs)

abbrev pub written_by : Term-F Written → Written
written_by (Term-F.Int neg mag) = integer_written neg mag
written_by (Term-F.Wide neg mag) = written (big_bytes_of neg mag)
written_by (Term-F.Atom name) = written (atom_bytes name)
written_by (Term-F.Tuple items) = written (tuple_bytes items)
written_by Term-F.Nil = record { bytes = 106 ∷ []; byte = None; is_nil = true }
written_by (Term-F.List items tail) = written (list_bytes items tail)
written_by (Term-F.Binary s) = written (binary_bytes s)
written_by (Term-F.Bits s last) = written (bits_bytes s last)
written_by (Term-F.Map pairs) = written (map_bytes pairs)
written_by (Term-F.Export m f arity) = written (export_bytes m f arity)

unfoldable pub term_written : Term → Written
term_written t = fold-Term Written written_by t

-- the spelling of a term, without the version
unfoldable pub spelling : Term → List ℕ
spelling t = (term_written t).bytes

-- the spellings of a key and of its value
abbrev pub pair_bytes : Term × Term → List ℕ
pair_bytes pair = spelling pair.0 ++ spelling pair.1

-- the spelling of a term as a file
abbrev pub file_spelling : Term → List ℕ
file_spelling t = 131 ∷ spelling t

-- ---- terms that can be written

abbrev pub IsByteTerm : Term → Type 0
IsByteTerm t = (b : ℕ) × (b < 256) × (t ≡ byte_term b)

-- a list that is written as bytes
abbrev pub IsString : List Term → Term → Type 0
IsString items tail = (1 ≤ length items) × (length items < 65536) × All IsByteTerm items × (tail ≡ terms.Nil)

abbrev pub FitsName : List ℕ → Type 0
FitsName name = length name < 65536

-- zero isn't negative, wide integers and bit strings have the bytes that they need, and each length fits its field; `Fits` says so of the terms inside, and `levels` more of them may stand in one another there
abbrev pub FitsBy : ℕ → (Term → Type 0) → Term-F Term → Type 0
FitsBy levels Fits (Term-F.Int neg mag) = mag ≡ 0 → neg ≡ false
FitsBy levels Fits (Term-F.Wide neg mag) = (17 ≤ length mag) × (length mag < 2 ^ 32)
FitsBy levels Fits (Term-F.Atom name) = FitsName name
FitsBy levels Fits (Term-F.Tuple items) = (length items < 2 ^ 32) × All Fits items
FitsBy levels Fits Term-F.Nil = Unit {0}
FitsBy levels Fits (Term-F.List items tail) = IsString items tail ⊎ ((length items < 2 ^ 32) × All Fits items × Fits tail)
FitsBy levels Fits (Term-F.Binary s) = length s < 2 ^ 32
FitsBy levels Fits (Term-F.Bits s last) = (1 ≤ length s) × (length s < 2 ^ 32) × (1 ≤ last) × (last ≤ 8)
FitsBy levels Fits (Term-F.Map pairs) = (length pairs < 2 ^ 32) × All (λ pair. Fits pair.0 × Fits pair.1) pairs
FitsBy levels Fits (Term-F.Export m f arity) = FitsName m × FitsName f × (1 ≤ levels)

-- a term that can be written, in which at most so many terms stand in one another, itself among them
unfoldable pub IsWritable : ℕ → Term → Type 0
IsWritable zero t = ⊥
IsWritable (suc levels) t = FitsBy levels (IsWritable levels) (out-Term t)

-- the same, however many terms stand in one another
pub record CanBeWritten (t : Term) : Type 0 where
  pub levels : ℕ
  pub is : IsWritable levels t

-- ---- terms as their type has them

-- each number is in the range of its type, names are UTF-8, and bytes are bytes
abbrev pub LayerMeetsType : Term-F Term → Type 0
LayerMeetsType (Term-F.Int neg mag) = mag < 2 ^ 128
LayerMeetsType (Term-F.Wide neg mag) = IsBytes mag
LayerMeetsType (Term-F.Atom name) = IsUtf8 name
LayerMeetsType (Term-F.Tuple items) = Unit {0}
LayerMeetsType Term-F.Nil = Unit {0}
LayerMeetsType (Term-F.List items tail) = Unit {0}
LayerMeetsType (Term-F.Binary s) = IsBytes s
LayerMeetsType (Term-F.Bits s last) = IsBytes s × (last < 256)
LayerMeetsType (Term-F.Map pairs) = Unit {0}
LayerMeetsType (Term-F.Export m f arity) = IsUtf8 m × IsUtf8 f × (arity < 256)

-- the same of a term and of every term in it
abbrev pub MeetsType : Term → Type 0
MeetsType = every-Term LayerMeetsType
