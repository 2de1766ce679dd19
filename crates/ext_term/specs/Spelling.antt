-- How terms are spelled as bytes: every tag that a reader takes, and not only those that are written.
use Rattle.std.specs.Prelude.{◌≡◌, ℕ, zero, suc, ◌≤◌, List, [], ◌∷◌, length, map, false, IsUtf8}
use Rattle.std.specs.Str.{encode_utf8_all}
use Rattle.byteorder.specs.Endian.{twos_complement}
use Rattle.bk_codec.specs.Spelling.{Then, SpellsMany, SpellsNumber, SpellsBytes, SpellsCountedIn}
use Rattle.ext_term.specs.Integer.{int_of, big_of}
use Rattle.ext_term.specs.declared.term.Term.{Term}
use Rattle.ext_term.specs.declared.term.Term.TheVariants as terms

-- a number of k bytes with the count of a magnitude's bytes, then a sign byte, and then the magnitude
abbrev pub SpellsBig : ℕ → ℕ → List ℕ → List ℕ → Type 0
SpellsBig k sign mag = Then (SpellsNumber k (length mag)) (λ text. text ≡ sign ∷ mag)

-- an atom by its name: in Latin-1, where each byte is a character, or in UTF-8
pub data SpellsAtom : List ℕ → List ℕ → Type 0 where
  latin_100 : (s bytes : List ℕ) → SpellsBytes 2 s bytes → SpellsAtom (encode_utf8_all s) (100 ∷ bytes)
  latin_115 : (s bytes : List ℕ) → SpellsBytes 1 s bytes → SpellsAtom (encode_utf8_all s) (115 ∷ bytes)
  utf8_118 : (s bytes : List ℕ) → IsUtf8 s → SpellsBytes 2 s bytes → SpellsAtom s (118 ∷ bytes)
  utf8_119 : (s bytes : List ℕ) → IsUtf8 s → SpellsBytes 1 s bytes → SpellsAtom s (119 ∷ bytes)

-- a key, and then its value
abbrev pub SpellsPair : (Term → List ℕ → Type 0) → Term × Term → List ℕ → Type 0
SpellsPair R p = Then (R p.0) (R p.1)

-- an integer of one byte
abbrev pub byte_term : ℕ → Term
byte_term b = terms.Int false b

-- a term by its tag and what follows it. `Inner` spells the terms in it, and `levels` more of them may stand in one another there.
pub data SpellsTagged (levels : ℕ) (Inner : Term → List ℕ → Type 0) : Term → List ℕ → Type 0 where
  small_97 : (n : ℕ) (bytes : List ℕ) → SpellsNumber 1 n bytes → SpellsTagged levels Inner (byte_term n) (97 ∷ bytes)
  signed_98 : (n : ℕ) (bytes : List ℕ) → SpellsNumber 4 n bytes → SpellsTagged levels Inner (int_of (twos_complement 4 n)) (98 ∷ bytes)
  big_110 : (sign : ℕ) (mag bytes : List ℕ) → SpellsBig 1 sign mag bytes → SpellsTagged levels Inner (big_of sign mag) (110 ∷ bytes)
  big_111 : (sign : ℕ) (mag bytes : List ℕ) → SpellsBig 4 sign mag bytes → SpellsTagged levels Inner (big_of sign mag) (111 ∷ bytes)
  atom : (name bytes : List ℕ) → SpellsAtom name bytes → SpellsTagged levels Inner (terms.Atom name) bytes
  tuple_104 : (items : List Term) (bytes : List ℕ) → SpellsCountedIn 1 Inner items bytes → SpellsTagged levels Inner (terms.Tuple items) (104 ∷ bytes)
  tuple_105 : (items : List Term) (bytes : List ℕ) → SpellsCountedIn 4 Inner items bytes → SpellsTagged levels Inner (terms.Tuple items) (105 ∷ bytes)
  nil_106 : SpellsTagged levels Inner terms.Nil (106 ∷ [])
  string_107 : (s bytes : List ℕ) → SpellsBytes 2 s bytes → SpellsTagged levels Inner (terms.List (map byte_term s) terms.Nil) (107 ∷ bytes)
  list_108 : (items : List Term) (tail : Term) (bytes : List ℕ) → Then (SpellsNumber 4 (length items)) (Then (SpellsMany Inner items) (Inner tail)) bytes → SpellsTagged levels Inner (terms.List items tail) (108 ∷ bytes)
  binary_109 : (s bytes : List ℕ) → SpellsBytes 4 s bytes → SpellsTagged levels Inner (terms.Binary s) (109 ∷ bytes)
  bits_77 : (s bytes : List ℕ) (last : ℕ) → 1 ≤ length s → 1 ≤ last → last ≤ 8 → Then (SpellsNumber 4 (length s)) (λ text. text ≡ last ∷ s) bytes → SpellsTagged levels Inner (terms.Bits s last) (77 ∷ bytes)
  export_113 : (m f bytes : List ℕ) (arity : ℕ) → 1 ≤ levels → Then (SpellsAtom m) (Then (SpellsAtom f) (λ text. text ≡ 97 ∷ arity ∷ [])) bytes → SpellsTagged levels Inner (terms.Export m f arity) (113 ∷ bytes)
  map_116 : (pairs : List (Term × Term)) (bytes : List ℕ) → SpellsCountedIn 4 (SpellsPair Inner) pairs bytes → SpellsTagged levels Inner (terms.Map pairs) (116 ∷ bytes)

-- a term in which at most so many terms stand in one another, itself among them
unfoldable pub SpellsTerm : ℕ → Term → List ℕ → Type 0
SpellsTerm zero t bytes = ⊥
SpellsTerm (suc levels) t bytes = SpellsTagged levels (SpellsTerm levels) t bytes

-- the version, and one term
abbrev pub SpellsTermFile : Term → List ℕ → Type 0
SpellsTermFile t = Then (λ text. text ≡ 131 ∷ []) (SpellsTerm 256 t)
