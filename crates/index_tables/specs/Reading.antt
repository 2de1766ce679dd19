-- How the tables are read: what stands in a payload, or the first refusal from the left.
use Rattle.std.specs.Prelude.{ℕ, nat_le, Bool, ◌&&◌, if◌then◌else◌, List, length, Result, Err}
use Rattle.std.specs.List.{list_all}
use Rattle.bk_codec.specs.Reading.{◌>>=◌, giving, made_of, byte_at, bytes_at, number_at, utf8_or, many_at, counted_at, ended}
use Rattle.index_tables.specs.Shape.{Shape}
use Rattle.index_tables.specs.declared.refusal.TableRefusal.{TableRefusal}
use Rattle.index_tables.specs.declared.refusal.TableRefusal.TheVariants.{Cut, AtomUtf8, AtomIndex, Rest}

-- ---- atoms

-- atom n: the length of its name, the name, and only then whether that is UTF-8
unfoldable pub atom_at : ℕ → List ℕ → Result (List ℕ × List ℕ) TableRefusal
atom_at n bytes =
    byte_at Cut bytes >>= λ len. bytes_at Cut len.0 len.1 >>= λ name. utf8_or (AtomUtf8 n) name.0 >>= λ text. giving text name.1

-- the atoms, counted from 1
abbrev pub atoms_at : List ℕ → Result (List (List ℕ) × List ℕ) TableRefusal
atoms_at = counted_at Cut atom_at 1

abbrev pub all_atoms : List ℕ → Result (List (List ℕ)) TableRefusal
all_atoms bytes = ended Rest (atoms_at bytes)

-- ---- tables of words

abbrev pub word_at : List ℕ → Result (ℕ × List ℕ) TableRefusal
word_at = number_at Cut 4

-- a record of n words
abbrev pub record_at : {A : Type 0} → (List ℕ → A) → ℕ → List ℕ → Result (A × List ℕ) TableRefusal
record_at of_words n bytes = made_of of_words (many_at word_at n bytes)

-- whether a number is that of one of the atoms
abbrev pub is_atom : List (List ℕ) → ℕ → Bool
is_atom names n = nat_le 1 n && nat_le n (length names)

-- entry i: all of its words, and only then its atom numbers
abbrev pub entry_at : {A : Type 0} → Shape A → List (List ℕ) → ℕ → List ℕ → Result (A × List ℕ) TableRefusal
entry_at shape names i bytes =
    record_at shape.of_words shape.width bytes >>= λ x. if list_all (is_atom names) (shape.atoms x.0) then giving x.0 x.1 else Err (AtomIndex i)

-- the entries, counted from 0
abbrev pub entries_at : {A : Type 0} → Shape A → List (List ℕ) → List ℕ → Result (List A × List ℕ) TableRefusal
entries_at shape names = counted_at Cut (entry_at shape names) 0

abbrev pub all_entries : {A : Type 0} → Shape A → List (List ℕ) → List ℕ → Result (List A) TableRefusal
all_entries shape names bytes = ended Rest (entries_at shape names bytes)
