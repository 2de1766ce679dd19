-- How a term is read from the left, and which refusal comes first.
use Rattle.std.specs.Prelude.{ℕ, zero, suc, ◌-◌, List, length, map, Bool, ◌==◌, ◌&&◌, ◌||◌, nat_le, if◌then◌else◌, Result, Err}
use Rattle.std.specs.Str.{encode_utf8_all}
use Rattle.byteorder.specs.Endian.{twos_complement}
use Rattle.bk_codec.specs.Reading.{◌>>=◌, giving, made_of, byte_at, bytes_at, number_at, utf8_or, many_at, alone}
use Rattle.ext_term.specs.Integer.{int_of, big_of}
use Rattle.ext_term.specs.Spelling.{byte_term}
use Rattle.ext_term.specs.declared.term.Term.{Term}
use Rattle.ext_term.specs.declared.term.Term.TheVariants as terms
use Rattle.ext_term.specs.declared.refusal.TermRefusal.{TermRefusal}
use Rattle.ext_term.specs.declared.refusal.TermRefusal.TheVariants.{Cut, Tag, Depth, AtomText, BitTail, Rest}

-- bytes, as many as a number of k bytes says
abbrev pub sized_at : ℕ → List ℕ → Result (List ℕ × List ℕ) TermRefusal
sized_at k bytes = number_at Cut k bytes >>= λ n. bytes_at Cut n.0 n.1

-- ---- behind a tag

abbrev pub big_at : ℕ → List ℕ → Result (Term × List ℕ) TermRefusal
big_at k bytes = number_at Cut k bytes >>= λ n. byte_at Cut n.1 >>= λ sign. made_of (big_of sign.0) (bytes_at Cut n.0 sign.1)

unfoldable pub integer_at : ℕ → List ℕ → Result (Term × List ℕ) TermRefusal
integer_at tag bytes =
    if tag == 97 then made_of byte_term (number_at Cut 1 bytes)
    else if tag == 98 then made_of (λ n. int_of (twos_complement 4 n)) (number_at Cut 4 bytes)
    else if tag == 110 then big_at 1 bytes
    else big_at 4 bytes

abbrev pub latin_at : ℕ → List ℕ → Result (List ℕ × List ℕ) TermRefusal
latin_at k bytes = made_of encode_utf8_all (sized_at k bytes)

-- the name of the atom whose tag is at this offset; its bytes are there before they are looked at
abbrev pub utf8_at : ℕ → ℕ → List ℕ → Result (List ℕ × List ℕ) TermRefusal
utf8_at offset k bytes = sized_at k bytes >>= λ s. utf8_or (AtomText offset) s.0 >>= λ text. giving text s.1

unfoldable pub atom_at : ℕ → ℕ → List ℕ → Result (List ℕ × List ℕ) TermRefusal
atom_at offset tag bytes =
    if tag == 100 then latin_at 2 bytes
    else if tag == 115 then latin_at 1 bytes
    else if tag == 118 then utf8_at offset 2 bytes
    else utf8_at offset 1 bytes

abbrev pub string_at : List ℕ → Result (Term × List ℕ) TermRefusal
string_at bytes = made_of (λ s. terms.List (map byte_term s) terms.Nil) (sized_at 2 bytes)

-- a bit string has a byte, and 1 to 8 bits in its last one
abbrev pub has_bits : List ℕ → ℕ → Bool
has_bits s last = nat_le 1 (length s) && nat_le 1 last && nat_le last 8

unfoldable pub bits_at : ℕ → List ℕ → Result (Term × List ℕ) TermRefusal
bits_at offset bytes =
    number_at Cut 4 bytes >>= λ n. byte_at Cut n.1 >>= λ last. bytes_at Cut n.0 last.1 >>= λ s.
    if has_bits s.0 last.0 then giving (terms.Bits s.0 last.0) s.1 else Err (BitTail offset)

-- the empty list, a list of bytes, a binary or a bit string, whose tag is at this offset
unfoldable pub flat_at : ℕ → ℕ → List ℕ → Result (Term × List ℕ) TermRefusal
flat_at offset tag bytes =
    if tag == 106 then giving terms.Nil bytes
    else if tag == 107 then string_at bytes
    else if tag == 109 then made_of terms.Binary (sized_at 4 bytes)
    else bits_at offset bytes

-- ---- external functions; the bytes end at this offset

-- the tag of a term; `Depth` where no more terms may stand in one another
unfoldable pub tag_at : ℕ → ℕ → List ℕ → Result (ℕ × List ℕ) TermRefusal
tag_at end levels bytes = byte_at Cut bytes >>= λ tag. if levels == 0 then Err (Depth (end - length bytes)) else giving tag.0 tag.1

abbrev pub is_atom_tag : ℕ → Bool
is_atom_tag tag = tag == 100 || tag == 115 || tag == 118 || tag == 119

unfoldable pub name_at : ℕ → ℕ → List ℕ → Result (List ℕ × List ℕ) TermRefusal
name_at end levels bytes =
    tag_at end levels bytes >>= λ tag.
    if is_atom_tag tag.0 then atom_at (end - length bytes) tag.0 tag.1 else Err (Tag tag.0 (end - length bytes))

unfoldable pub arity_at : ℕ → ℕ → List ℕ → Result (ℕ × List ℕ) TermRefusal
arity_at end levels bytes =
    tag_at end levels bytes >>= λ tag. if tag.0 == 97 then byte_at Cut tag.1 else Err (Tag tag.0 (end - length bytes))

unfoldable pub export_at : ℕ → ℕ → List ℕ → Result (Term × List ℕ) TermRefusal
export_at end levels bytes =
    name_at end levels bytes >>= λ m. name_at end levels m.1 >>= λ f. made_of (λ a. terms.Export m.0 f.0 a) (arity_at end levels f.1)

-- ---- terms with terms in them, which `inner` reads

abbrev pub tuple_at : (List ℕ → Result (Term × List ℕ) TermRefusal) → ℕ → List ℕ → Result (Term × List ℕ) TermRefusal
tuple_at inner k bytes = number_at Cut k bytes >>= λ n. made_of terms.Tuple (many_at inner n.0 n.1)

abbrev pub list_at : (List ℕ → Result (Term × List ℕ) TermRefusal) → List ℕ → Result (Term × List ℕ) TermRefusal
list_at inner bytes = number_at Cut 4 bytes >>= λ n. many_at inner n.0 n.1 >>= λ items. made_of (λ tail. terms.List items.0 tail) (inner items.1)

abbrev pub pair_at : (List ℕ → Result (Term × List ℕ) TermRefusal) → List ℕ → Result ((Term × Term) × List ℕ) TermRefusal
pair_at inner bytes = inner bytes >>= λ key. made_of (λ value. (key.0, value)) (inner key.1)

abbrev pub map_at : (List ℕ → Result (Term × List ℕ) TermRefusal) → List ℕ → Result (Term × List ℕ) TermRefusal
map_at inner bytes = number_at Cut 4 bytes >>= λ n. made_of terms.Map (many_at (pair_at inner) n.0 n.1)

unfoldable pub nested_at : ℕ → ℕ → (List ℕ → Result (Term × List ℕ) TermRefusal) → ℕ → List ℕ → Result (Term × List ℕ) TermRefusal
nested_at end levels inner tag bytes =
    if tag == 104 then tuple_at inner 1 bytes
    else if tag == 105 then tuple_at inner 4 bytes
    else if tag == 108 then list_at inner bytes
    else if tag == 113 then export_at end levels bytes
    else map_at inner bytes

-- ---- terms

abbrev pub is_integer_tag : ℕ → Bool
is_integer_tag tag = tag == 97 || tag == 98 || tag == 110 || tag == 111

abbrev pub is_flat_tag : ℕ → Bool
is_flat_tag tag = tag == 106 || tag == 107 || tag == 109 || tag == 77

abbrev pub is_nested_tag : ℕ → Bool
is_nested_tag tag = tag == 104 || tag == 105 || tag == 108 || tag == 113 || tag == 116

-- behind a tag at this offset. `inner` reads the terms in it, and `levels` more of them may stand in one another there.
unfoldable pub tagged_at : ℕ → ℕ → (List ℕ → Result (Term × List ℕ) TermRefusal) → ℕ → ℕ → List ℕ → Result (Term × List ℕ) TermRefusal
tagged_at end levels inner offset tag bytes =
    if is_integer_tag tag then integer_at tag bytes
    else if is_atom_tag tag then made_of terms.Atom (atom_at offset tag bytes)
    else if is_flat_tag tag then flat_at offset tag bytes
    else if is_nested_tag tag then nested_at end levels inner tag bytes
    else Err (Tag tag offset)

-- a term; at most `levels` terms may stand in one another, itself among them
unfoldable pub term_at : ℕ → ℕ → List ℕ → Result (Term × List ℕ) TermRefusal
term_at end zero bytes = byte_at Cut bytes >>= λ tag. Err (Depth (end - length bytes))
term_at end (suc levels) bytes = byte_at Cut bytes >>= λ tag. tagged_at end levels (term_at end levels) (end - length bytes) tag.0 tag.1

-- the version, and the term that is all of the bytes behind it
unfoldable pub file_at : ℕ → List ℕ → Result Term TermRefusal
file_at end bytes = do
  version ← byte_at Cut bytes
  t ← if version.0 == 131 then term_at end 256 version.1 else Err (Tag version.0 0)
  alone (Rest (end - length t.1)) t.0 t.1

abbrev pub term_of : List ℕ → Result Term TermRefusal
term_of bytes = file_at (length bytes) bytes
