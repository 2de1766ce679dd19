-- Comments: what the atoms and imports in an instruction's operands are called, behind its line.
use Rattle.std.specs.Prelude.{ℕ, ◌+◌, Bool, true, false, nat_lt, if◌then◌else◌, List, [], ◌∷◌, ◌++◌, length, take, map, codes, slice_get, Option, Some, None, Result, Ok, Err, bytes_eq}
use Rattle.std.specs.List.{flat_map}
use Rattle.ext_term.specs.Name.{name_text}
use Rattle.compact_term.specs.declared.operand.Plain.{Plain}
use Rattle.compact_term.specs.declared.operand.Plain.TheVariants as plains
use Rattle.compact_term.specs.declared.operand.Operand.{Operand}
use Rattle.compact_term.specs.declared.operand.Operand.TheVariants as operands
use Rattle.iff_form.specs.Text.{id_text}
use Rattle.index_tables.specs.Atoms.{atom_called}
use Rattle.index_tables.specs.Reading.{all_atoms, all_entries}
use Rattle.index_tables.specs.Shape.{import_shape}
use Rattle.index_tables.specs.Text.{import_text}
use Rattle.op_table.specs.Instruction.{Instruction}
use Rattle.op_table.specs.Table.{roles_of}
use Rattle.op_table.specs.declared.role.Role.{Role}
use Rattle.op_table.specs.declared.role.Role.TheVariants.{M}
use Rattle.beam_module.specs.File.{FileChunk}
use Rattle.beam_module.specs.declared.chunk_value.ChunkVal.TheVariants.{Code, Raw}
use Rattle.listing_out.specs.declared.names.Names.{Names}
use Rattle.listing_out.specs.Lines.{code_line, instruction_line, payload_lines, text_of}

-- ---- what a file calls its atoms and imports

-- the payload of the chunk with this id, unless it is code
abbrev pub payload_in : List ℕ → List FileChunk → Option (List ℕ)
payload_in id [] = None
payload_in id ((other, Raw payload) ∷ chunks) = if bytes_eq other.0 id then Some payload else payload_in id chunks
payload_in id ((other, Code c) ∷ chunks) = payload_in id chunks

-- what was read, or nothing where it was refused
abbrev pub read_or_none : {A E : Type 0} → Result (List A) E → List A
read_or_none (Ok xs) = xs
read_or_none (Err e) = []

-- the records of a table, and none where the chunk is missing or is not its table
abbrev pub records_in : {A E : Type 0} → (List ℕ → Result (List A) E) → Option (List ℕ) → List A
records_in read None = []
records_in read (Some payload) = read_or_none (read payload)

-- at most forty bytes of a text, and a mark where more are cut off
abbrev pub shortened : List ℕ → List ℕ
shortened text = if nat_lt 40 (length text) then take 40 text ++ codes "~" else text

-- what atoms and imports are called, by the payloads of their tables
abbrev pub names_with : List (List ℕ) → Option (List ℕ) → Names
names_with atoms imports = record {
  atoms = map (λ name. shortened (name_text name)) atoms;
  imports = map (λ x. shortened (import_text atoms x)) (records_in (all_entries import_shape atoms) imports);
}

abbrev pub names_of : Option (List ℕ) → Option (List ℕ) → Names
names_of atoms imports = names_with (records_in all_atoms atoms) imports

abbrev pub names_in : List FileChunk → Names
names_in v = names_of (payload_in (codes "AtU8") v) (payload_in (codes "ImpT") v)

-- ---- the items of a comment, in the order of the operands

-- an atom wherever it stands, and an import where its number is expected
abbrev pub called : Names → Bool → Plain → Option (List ℕ)
called names is_import (plains.A n) = atom_called names.atoms n
called names is_import (plains.U n) = if is_import then slice_get names.imports n else None
called names is_import plain = None

abbrev pub item_of : Option (List ℕ) → List (List ℕ)
item_of None = []
item_of (Some name) = name ∷ []

-- the members of a list in their places; no import stands among them
abbrev pub operand_items : Names → Bool → Operand → List (List ℕ)
operand_items names is_import (operands.One plain) = item_of (called names is_import plain)
operand_items names is_import (operands.List members) = flat_map (λ plain. item_of (called names false plain)) members
operand_items names is_import (operands.Alloc pairs) = []

abbrev pub is_import : Option Role → Bool
is_import (Some M) = true
is_import _ = false

-- whether the operand at this place, counted from 0, is the number of an import by its role
abbrev pub is_import_place : ℕ → ℕ → Bool
is_import_place op place = is_import (slice_get (roles_of op) place)

abbrev pub items_from : Names → ℕ → ℕ → List Operand → List (List ℕ)
items_from names op place [] = []
items_from names op place (o ∷ os) = operand_items names (is_import_place op place) o ++ items_from names op (place + 1) os

abbrev pub instruction_items : Names → Instruction → List (List ℕ)
instruction_items names i = items_from names i.op 0 i.operands

-- ---- lines with comments

-- what stands before an item: the mark of a comment, or a space behind another item
abbrev pub lead : Bool → List ℕ
lead any = if any then codes " " else codes "  ; "

-- the items, where some stand before or none
abbrev pub items_text : Bool → List (List ℕ) → List ℕ
items_text any [] = []
items_text any (item ∷ items) = lead any ++ (item ++ items_text true items)

-- whether any item stands there behind these
abbrev pub any_behind : Bool → List (List ℕ) → Bool
any_behind any [] = any
any_behind any (item ∷ items) = true

abbrev pub commented_instruction : Names → Instruction → List ℕ
commented_instruction names i = instruction_line i ++ items_text false (instruction_items names i)

abbrev pub commented_chunk : Names → FileChunk → List (List ℕ)
commented_chunk names (id, Code c) = code_line c ∷ map (commented_instruction names) c.instrs
commented_chunk names (id, Raw payload) = (codes "chunk " ++ id_text id) ∷ payload_lines payload

-- the lines of a file, with the comments beside them
abbrev pub commented_lines : List FileChunk → List (List ℕ)
commented_lines v = codes "beam 1" ∷ flat_map (commented_chunk (names_in v)) v

abbrev pub commented_listing : List FileChunk → List ℕ
commented_listing v = text_of (commented_lines v)
