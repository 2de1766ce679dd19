-- No newline stands in a comment.
use Rattle.std.proofs.Common.{◌≡◌, ℕ, zero, suc, ◌+◌, ◌<◌, ◌==◌, Bool, true, false, not, List, [], ◌∷◌, ◌++◌, length, take, refl, arith}
use Rattle.std.proofs.lemmas.Bool.{and_from, and_parts, cond_both, not_from_false}
use Rattle.std.proofs.lemmas.Bool.Decides.{nat_tests}
use Rattle.std.specs.Prelude.{◌-◌, codes, decimal, nat_lt, slice_get}
use Rattle.std.specs.Char.{is_ascii_control, is_ascii_lowercase}
use Rattle.std.specs.List.{flat_map, list_all}
use Rattle.hex.specs.Hex.{encode_lower}
use Rattle.bk_codec.specs.Spelling.{IsBytes}
use Rattle.bk_parse.proofs.Passing.{passes_append, passes_weaker}
use Rattle.ext_term.specs.Name.{escaped, is_bare, is_name_byte, name_text}
use Rattle.compact_term.specs.declared.operand.Plain.{Plain}
use Rattle.compact_term.specs.declared.operand.Plain.TheVariants as plains
use Rattle.compact_term.specs.declared.operand.Operand.{Operand}
use Rattle.compact_term.specs.declared.operand.Operand.TheVariants as operands
use Rattle.index_tables.specs.Atoms.{atom_name}
use Rattle.index_tables.specs.Reading.{all_atoms, all_entries}
use Rattle.index_tables.specs.Shape.{import_shape}
use Rattle.index_tables.specs.Text.{function_text, import_text}
use Rattle.index_tables.specs.declared.entry.Import.{Import}
use Rattle.operand_text.specs.Words.{is_word_byte}
use Rattle.beam_module.specs.File.{FileChunk}
use Rattle.listing_out.specs.declared.names.Names.{Names}
use Rattle.listing_out.specs.Comments.{called, is_import_place, item_of, items_from, items_text, lead, names_in, operand_items, payload_in, records_in, shortened}
use Rattle.listing_out.proofs.Clean.{decimal_word, hex_word, is_inline, no_newline, passes_flat, passes_front, passes_map}

-- ---- names

word_inline : (text : List ℕ) → list_all is_word_byte text ≡ true → list_all is_inline text ≡ true
word_inline text h = passes_weaker is_word_byte is_inline (no_newline is_word_byte refl) text h

bare_inline : (name : List ℕ) → is_bare name ≡ true → list_all is_inline name ≡ true
bare_inline [] h = refl
bare_inline (b ∷ bytes) h =
    let parts = and_parts (is_ascii_lowercase b) (list_all is_name_byte bytes) h in
    and_from (is_inline b) (list_all is_inline bytes) (no_newline is_ascii_lowercase refl b parts.0) (passes_weaker is_name_byte is_inline (no_newline is_name_byte refl) bytes parts.1)

control_is_byte : (b : ℕ) → is_ascii_control b ≡ true → b < 256
control_is_byte b h = grind (arith, nat_tests)

one_byte : (b : ℕ) → b < 256 → IsBytes (b ∷ [])
one_byte b fits zero = fits
one_byte b fits (suc i) = omega arith

escaped_inline : (b : ℕ) → list_all is_inline (escaped b) ≡ true
escaped_inline b =
    let Inline = λ (t : List ℕ). list_all is_inline t ≡ true in
    let digits = encode_lower (b ∷ []) in
    cond_both (b == 39) (codes "\\'") _ Inline (λ quote. refl) (λ q.
    cond_both (b == 92) (codes "\\\\") _ Inline (λ backslash. refl) (λ s.
    cond_both (is_ascii_control b) (codes "\\x" ++ digits) (b ∷ []) Inline
    (λ control. passes_append is_inline (codes "\\x") digits refl (word_inline digits (hex_word (b ∷ []) (one_byte b (control_is_byte b control)))))
    (λ plain. and_from (is_inline b) true (no_newline (λ c. not (is_ascii_control c)) refl b (not_from_false (is_ascii_control b) plain)) refl)))

name_inline : (name : List ℕ) → list_all is_inline (name_text name) ≡ true
name_inline name =
    let quoted = codes "'" ++ flat_map escaped name in
    cond_both (is_bare name) name (quoted ++ codes "'") (λ t. list_all is_inline t ≡ true) (bare_inline name)
    (λ other. passes_append is_inline quoted (codes "'") (passes_append is_inline (codes "'") (flat_map escaped name) refl (passes_flat is_inline escaped escaped_inline name)) refl)

import_inline : (names : List (List ℕ)) (x : Import) → list_all is_inline (import_text names x) ≡ true
import_inline names x =
    let other = name_text (atom_name names x.module) in
    let function = name_text (atom_name names x.name) in
    passes_append is_inline (other ++ codes ":") (function_text names x.name x.arity) (passes_append is_inline other (codes ":") (name_inline (atom_name names x.module)) refl)
    (passes_append is_inline (function ++ codes "/") (decimal x.arity) (passes_append is_inline function (codes "/") (name_inline (atom_name names x.name)) refl) (word_inline (decimal x.arity) (decimal_word x.arity)))

shortened_inline : (text : List ℕ) → list_all is_inline text ≡ true → list_all is_inline (shortened text) ≡ true
shortened_inline text h =
    cond_both (nat_lt 40 (length text)) (take 40 text ++ codes "~") text (λ t. list_all is_inline t ≡ true)
    (λ long. passes_append is_inline (take 40 text) (codes "~") (passes_front is_inline 40 text h) refl) (λ short. h)

-- no name holds a newline
pub record AreInline (names : Names) : Type 0 where
  pub atoms : list_all (list_all is_inline) names.atoms ≡ true
  pub imports : list_all (list_all is_inline) names.imports ≡ true

pub names_inline : (v : List FileChunk) → AreInline (names_in v)
names_inline v =
    let atoms = records_in all_atoms (payload_in (codes "AtU8") v) in
    record {
      atoms = passes_map (list_all is_inline) (λ name. shortened (name_text name)) (λ name. shortened_inline (name_text name) (name_inline name)) atoms;
      imports = passes_map (list_all is_inline) (λ x. shortened (import_text atoms x)) (λ x. shortened_inline (import_text atoms x) (import_inline atoms x)) (records_in (all_entries import_shape atoms) (payload_in (codes "ImpT") v));
    }

-- ---- items

got_inline : (names : List (List ℕ)) (i : ℕ) → list_all (list_all is_inline) names ≡ true → list_all (list_all is_inline) (item_of (slice_get names i)) ≡ true
got_inline [] i h = refl
got_inline (name ∷ names) zero h = and_from (list_all is_inline name) true (and_parts (list_all is_inline name) (list_all (list_all is_inline) names) h).0 refl
got_inline (name ∷ names) (suc i) h = got_inline names i (and_parts (list_all is_inline name) (list_all (list_all is_inline) names) h).1

module _ (names : Names) (are : AreInline names) where
  called_inline : (is_import : Bool) (plain : Plain) → list_all (list_all is_inline) (item_of (called names is_import plain)) ≡ true
  called_inline is_import (plains.A zero) = refl
  called_inline is_import (plains.A (suc n)) = got_inline names.atoms n are.atoms
  called_inline true (plains.U n) = got_inline names.imports n are.imports
  called_inline false (plains.U n) = refl
  called_inline is_import (plains.I z) = refl
  called_inline is_import (plains.Wide bytes) = refl
  called_inline is_import (plains.X n) = refl
  called_inline is_import (plains.Y n) = refl
  called_inline is_import (plains.F n) = refl
  called_inline is_import (plains.H n) = refl
  called_inline is_import (plains.Fr n) = refl
  called_inline is_import (plains.Lit n) = refl
  called_inline is_import (plains.Typed r n) = refl

  operand_inline : (is_import : Bool) (o : Operand) → list_all (list_all is_inline) (operand_items names is_import o) ≡ true
  operand_inline is_import (operands.One plain) = called_inline is_import plain
  operand_inline is_import (operands.List members) = passes_flat (list_all is_inline) (λ plain. item_of (called names false plain)) (called_inline false) members
  operand_inline is_import (operands.Alloc pairs) = refl

  pub items_inline : (op place : ℕ) (os : List Operand) → list_all (list_all is_inline) (items_from names op place os) ≡ true
  items_inline op place [] = refl
  items_inline op place (o ∷ os) =
      passes_append (list_all is_inline) (operand_items names (is_import_place op place) o) (items_from names op (place + 1) os) (operand_inline (is_import_place op place) o) (items_inline op (place + 1) os)

lead_inline : (any : Bool) → list_all is_inline (lead any) ≡ true
lead_inline true = refl
lead_inline false = refl

pub comment_inline : (any : Bool) (items : List (List ℕ)) → list_all (list_all is_inline) items ≡ true → list_all is_inline (items_text any items) ≡ true
comment_inline any [] h = refl
comment_inline any (item ∷ items) h =
    let parts = and_parts (list_all is_inline item) (list_all (list_all is_inline) items) h in
    passes_append is_inline (lead any) (item ++ items_text true items) (lead_inline any) (passes_append is_inline item (items_text true items) parts.0 (comment_inline true items parts.1))
