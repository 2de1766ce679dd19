-- How a table of lines is read from the left, and which refusal comes first.
use Rattle.std.specs.Prelude.{ℕ, zero, suc, ◌+◌, ℤ, pos, List, [], ◌∷◌, length, ◌==◌, nat_le, if◌then◌else◌, Result, Ok, Err}
use Rattle.bk_codec.specs.Reading.{◌>>=◌, giving, made_of, refused_as, bytes_at, number_at, many_at, ended}
use Rattle.compact_term.specs.declared.operand.Plain.TheVariants.{I, A}
use Rattle.compact_term.specs.declared.operand.Operand.{Operand}
use Rattle.compact_term.specs.declared.operand.Operand.TheVariants.{One}
use Rattle.compact_term.specs.declared.refusal.OperandRefusal.{OperandRefusal}
use Rattle.compact_term.specs.declared.refusal.OperandRefusal.TheVariants as operand_refusals
use Rattle.compact_term.specs.Reading.{operand_at}
use Rattle.side_tables.specs.declared.line_item.Item.{Item}
use Rattle.side_tables.specs.declared.line_item.Item.TheVariants as items
use Rattle.side_tables.specs.declared.lines.Lines.{Lines}
use Rattle.side_tables.specs.declared.line_reading.Header.{Header}
use Rattle.side_tables.specs.declared.refusal.SideRefusal.{SideRefusal}
use Rattle.side_tables.specs.declared.refusal.SideRefusal.TheVariants.{Version, ItemTag, FileIndex, Cut, Rest}
use Rattle.side_tables.specs.Words.{word_at}

-- ---- items, counted from 0

-- where a reader of items stands: the bytes that are left, and the number of the next item
pub record ItemPlace : Type 0 where
  pub rest : List ℕ
  pub item : ℕ

-- why item `item` is no operand: missing bytes are that, and everything else, which is never want of memory, is a wrong tag
abbrev pub why_no_item : ℕ → OperandRefusal → SideRefusal
why_no_item item operand_refusals.Cut = Cut
why_no_item item why = ItemTag item

abbrev pub operand_in : ℕ → List ℕ → Result (Operand × List ℕ) SideRefusal
operand_in item bytes = refused_as (why_no_item item) (operand_at bytes)

-- what an operand is as item `item`: a line from 0 up, or a switch to a file that is at most the number of file names
abbrev pub item_of : ℕ → ℕ → Operand → Result Item SideRefusal
item_of files item (One (I (pos n))) = Ok (items.Line (pos n))
item_of files item (One (A n)) = if nat_le n files then Ok (items.File n) else Err (FileIndex item)
item_of files item o = Err (ItemTag item)

-- item `item`
unfoldable pub item_at : ℕ → ℕ → List ℕ → Result (Item × List ℕ) SideRefusal
item_at files item bytes = operand_in item bytes >>= λ o. item_of files item o.0 >>= λ x. giving x o.1

-- ---- places

-- a place that was read, and the number of the item behind it
pub record Placed : Type 0 where
  pub place : ℕ × ℤ
  pub next : ℕ

abbrev pub placed : ℕ → ℕ × ℤ → Placed
placed next place = record { place = place; next = next }

-- behind an item: a line ends the place, in the current file, and a switch has the others behind it
abbrev pub place_by : (ℕ → ℕ → List ℕ → Result (Placed × List ℕ) SideRefusal) → ℕ → ℕ → Item → List ℕ → Result (Placed × List ℕ) SideRefusal
place_by others file next (items.Line line) bytes = giving (placed next (file, line)) bytes
place_by others file next (items.File n) bytes = others n next bytes

-- the next place, where there are at most so many items; `file` is the current file, and `item` the number of the next item
abbrev pub place_at : ℕ → ℕ → ℕ → ℕ → List ℕ → Result (Placed × List ℕ) SideRefusal
place_at files zero file item bytes = Err Cut
place_at files (suc most) file item bytes = item_at files item bytes >>= λ x. place_by (place_at files most) file (item + 1) x.0 x.1

-- so many places; there are no more items than bytes, since each has one or more
abbrev pub places_at : ℕ → ℕ → ℕ → ℕ → List ℕ → Result (List (ℕ × ℤ) × List ℕ) SideRefusal
places_at files zero file item bytes = giving [] bytes
places_at files (suc count) file item bytes =
    place_at files (length bytes) file item bytes >>= λ p. made_of (λ ps. p.0.place ∷ ps) (places_at files count p.0.place.0 p.0.next p.1)

-- ---- the table

-- the version, which is looked at before the other words
abbrev pub version_at : List ℕ → Result (ℕ × List ℕ) SideRefusal
version_at bytes = word_at bytes >>= λ version. if version.0 == 0 then giving version.0 version.1 else Err Version

-- the words
unfoldable pub header_at : List ℕ → Result (Header × List ℕ) SideRefusal
header_at bytes = do
  version ← version_at bytes
  flags ← word_at version.1
  instructions ← word_at flags.1
  lines ← word_at instructions.1
  files ← word_at lines.1
  giving (record { flags = flags.0; instructions = instructions.0; lines = lines.0; files = files.0 }) files.1

-- a file name: its length in 16 bits, and so many bytes
abbrev pub file_at : List ℕ → Result (List ℕ × List ℕ) SideRefusal
file_at bytes = number_at Cut 2 bytes >>= λ len. bytes_at Cut len.0 len.1

-- the words, the places and the file names
unfoldable pub lines_at : List ℕ → Result (Lines × List ℕ) SideRefusal
lines_at bytes = do
  header ← header_at bytes
  places ← places_at header.0.files header.0.lines 0 0 header.1
  names ← many_at file_at header.0.files places.1
  giving (record { flags = header.0.flags; instructions = header.0.instructions; lines = places.0; files = names.0 }) names.1

-- the table that all of the bytes are, or the first refusal
abbrev pub lines_of : List ℕ → Result Lines SideRefusal
lines_of bytes = ended Rest (lines_at bytes)
