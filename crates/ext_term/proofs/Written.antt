-- What is written of a term, by what is written of the terms in it.
use Rattle.std.proofs.Common.{◌≡◌, ℕ, Bool, true, false, ◌&&◌, nat_le, nat_lt, List, [], ◌∷◌, ◌++◌, length, map, is_some, refl, sym, ap, ◌∙◌}
use Rattle.std.specs.List.{flat_map, list_all}
use Rattle.std.proofs.lemmas.List.{length-map}
use Rattle.std.proofs.lemmas.List.Folds.{list_all-map, flat_map-map}
use Rattle.byteorder.specs.Endian.{big_bytes}
use Rattle.ext_term.specs.declared.term.Term.{Term, roll-Term, map-Term, fold-Term, fold-roll-Term}
use Rattle.ext_term.specs.declared.term.Term.TheOpen.{Term-F}
use Rattle.ext_term.specs.declared.term.Term.TheVariants as terms
use Rattle.ext_term.specs.Writing.{Written, written_by, term_written, spelling, integer_written, big_bytes_of, atom_bytes, binary_bytes, bits_bytes, export_bytes, tuple_head, is_string, string_bytes, byte_list, list_bytes, pair_bytes}

-- ---- lists of what is written

pub ruleset mapped = (length-map, list_all-map, flat_map-map)

pub is_string_here : (items : List Term) (tail : Term)
    → is_string (map term_written items) (term_written tail) ≡ ((term_written tail).is_nil && nat_le 1 (length items) && nat_lt (length items) 65536 && list_all (λ t. is_some (term_written t).byte) items)
is_string_here items tail = rw (length-map items term_written, list_all-map (λ item. is_some item.byte) term_written items) refl

pub string_bytes_here : (items : List Term) → string_bytes (map term_written items) ≡ 107 ∷ (big_bytes 2 (length items) ++ flat_map (λ t. byte_list (term_written t).byte) items)
string_bytes_here items = rw (length-map items term_written) (ap (λ (t : List ℕ). 107 ∷ (big_bytes 2 (length items) ++ t)) (flat_map-map (λ item. byte_list item.byte) term_written items))

-- ---- terms

-- one layer of a term, by what is written of the terms in it
abbrev pub layer : Term-F Term → Written
layer f = written_by (map-Term Term Written term_written f)

pub layer_written : (t : Term) (f : Term-F Term) → roll-Term f ≡ t → term_written t ≡ layer f
unfolding term_written
layer_written t f is = ap (fold-Term Written written_by) (sym is) ∙ fold-roll-Term Written written_by f

layer_spelling : (t : Term) (f : Term-F Term) → roll-Term f ≡ t → spelling t ≡ (layer f).bytes
unfolding spelling
layer_spelling t f is = ap (λ (w : Written). w.bytes) (layer_written t f is)

pub int_spelling : (neg : Bool) (mag : ℕ) → spelling (terms.Int neg mag) ≡ (integer_written neg mag).bytes
int_spelling neg mag = layer_spelling _ (Term-F.Int neg mag) (terms.rolls-Int neg mag)

pub wide_spelling : (neg : Bool) (mag : List ℕ) → spelling (terms.Wide neg mag) ≡ big_bytes_of neg mag
wide_spelling neg mag = layer_spelling _ (Term-F.Wide neg mag) (terms.rolls-Wide neg mag)

pub atom_spelling : (name : List ℕ) → spelling (terms.Atom name) ≡ atom_bytes name
atom_spelling name = layer_spelling _ (Term-F.Atom name) (terms.rolls-Atom name)

pub tuple_spelling : (items : List Term) → spelling (terms.Tuple items) ≡ tuple_head (length items) ++ flat_map spelling items
unfolding spelling
tuple_spelling items =
    layer_spelling _ (Term-F.Tuple items) (terms.rolls-Tuple items)
    ∙ ap (λ (n : ℕ). tuple_head n ++ flat_map (λ item. item.bytes) (map term_written items)) (length-map items term_written)
    ∙ ap (λ (t : List ℕ). tuple_head (length items) ++ t) (flat_map-map (λ item. item.bytes) term_written items)

pub nil_spelling : spelling terms.Nil ≡ 106 ∷ []
nil_spelling = layer_spelling _ Term-F.Nil terms.rolls-Nil

list_spelling : (items : List Term) (tail : Term) → spelling (terms.List items tail) ≡ list_bytes (map term_written items) (term_written tail)
list_spelling items tail = layer_spelling _ (Term-F.List items tail) (terms.rolls-List items tail)

pub string_spelling : (items : List Term) (tail : Term) → is_string (map term_written items) (term_written tail) ≡ true → spelling (terms.List items tail) ≡ string_bytes (map term_written items)
string_spelling items tail string = list_spelling items tail ∙ rw string refl

pub general_spelling : (items : List Term) (tail : Term) → is_string (map term_written items) (term_written tail) ≡ false
    → spelling (terms.List items tail) ≡ 108 ∷ (big_bytes 4 (length items) ++ (flat_map spelling items ++ spelling tail))
unfolding spelling
general_spelling items tail general =
    list_spelling items tail
    ∙ rw general (ap (λ (n : ℕ). 108 ∷ (big_bytes 4 n ++ (flat_map (λ item. item.bytes) (map term_written items) ++ (term_written tail).bytes))) (length-map items term_written))
    ∙ ap (λ (t : List ℕ). 108 ∷ (big_bytes 4 (length items) ++ (t ++ (term_written tail).bytes))) (flat_map-map (λ item. item.bytes) term_written items)

pub binary_spelling : (bytes : List ℕ) → spelling (terms.Binary bytes) ≡ binary_bytes bytes
binary_spelling bytes = layer_spelling _ (Term-F.Binary bytes) (terms.rolls-Binary bytes)

pub bits_spelling : (bytes : List ℕ) (last : ℕ) → spelling (terms.Bits bytes last) ≡ bits_bytes bytes last
bits_spelling bytes last = layer_spelling _ (Term-F.Bits bytes last) (terms.rolls-Bits bytes last)

pub map_spelling : (pairs : List (Term × Term)) → spelling (terms.Map pairs) ≡ 116 ∷ (big_bytes 4 (length pairs) ++ flat_map pair_bytes pairs)
unfolding spelling
map_spelling pairs =
    let both : Term × Term → Written × Written = λ pair. (term_written pair.0, term_written pair.1) in
    layer_spelling _ (Term-F.Map pairs) (terms.rolls-Map pairs)
    ∙ ap (λ (n : ℕ). 116 ∷ (big_bytes 4 n ++ flat_map (λ pair. pair.0.bytes ++ pair.1.bytes) (map both pairs))) (length-map pairs both)
    ∙ ap (λ (t : List ℕ). 116 ∷ (big_bytes 4 (length pairs) ++ t)) (flat_map-map (λ pair. pair.0.bytes ++ pair.1.bytes) both pairs)

pub export_spelling : (m f : List ℕ) (arity : ℕ) → spelling (terms.Export m f arity) ≡ export_bytes m f arity
export_spelling m f arity = layer_spelling _ (Term-F.Export m f arity) (terms.rolls-Export m f arity)

pub ruleset spellings = (
  int_spelling,
  wide_spelling,
  atom_spelling,
  tuple_spelling,
  nil_spelling,
  string_spelling,
  general_spelling,
  binary_spelling,
  bits_spelling,
  map_spelling,
  export_spelling,
)
