-- How a table of lines is spelled as bytes.
use Rattle.std.specs.Prelude.{◌≡◌, ℕ, ◌≤◌, ℤ, pos, ◌≤ℤ◌, List, [], ◌∷◌, length}
use Rattle.bk_codec.specs.Spelling.{Then, SpellsMany, SpellsNumber, SpellsWord}
use Rattle.compact_term.specs.declared.operand.Plain.TheVariants.{I, A}
use Rattle.compact_term.specs.declared.operand.Operand.TheVariants.{One}
use Rattle.compact_term.specs.Spelling.{Spells}
use Rattle.side_tables.specs.declared.line_item.Item.{Item}
use Rattle.side_tables.specs.declared.line_item.Item.TheVariants as items
use Rattle.side_tables.specs.declared.line_reading.Header.{Header}
use Rattle.side_tables.specs.declared.lines.Lines.{Lines}

-- ---- items, in a table with so many file names

-- a switch to a file, which is 0 or that of a file name
pub record SpellsSwitch (files n : ℕ) (bytes : List ℕ) : Type 0 where
  pub known : n ≤ files
  pub spelled : Spells (One (A n)) bytes

-- a line, from 0 up
pub record SpellsLine (line : ℤ) (bytes : List ℕ) : Type 0 where
  pub from_0 : pos 0 ≤ℤ line
  pub spelled : Spells (One (I line)) bytes

-- an item of either kind
abbrev pub SpellsItem : ℕ → Item → List ℕ → Type 0
SpellsItem files (items.Line line) bytes = SpellsLine line bytes
SpellsItem files (items.File n) bytes = SpellsSwitch files n bytes

-- the file that is current behind switches
abbrev pub file_behind : ℕ → List ℕ → ℕ
file_behind file [] = file
file_behind file (n ∷ switches) = file_behind n switches

-- ---- places, each the number of a file and a line in it

-- switches, behind which the place's file is current, and then the place's line
pub record SpellsPlace (files file : ℕ) (p : ℕ × ℤ) (bytes : List ℕ) : Type 0 where
  pub switches : List ℕ
  pub current : file_behind file switches ≡ p.0
  pub spelled : Then (SpellsMany (SpellsSwitch files) switches) (SpellsLine p.1) bytes

-- places one after another; the file of each is current at the next
abbrev pub SpellsPlaces : ℕ → ℕ → List (ℕ × ℤ) → List ℕ → Type 0
SpellsPlaces files file [] bytes = bytes ≡ []
SpellsPlaces files file (p ∷ ps) bytes = Then (SpellsPlace files file p) (SpellsPlaces files p.0 ps) bytes

-- ---- the table

-- the name of a file: its length in 16 bits, and its bytes
abbrev pub SpellsFileName : List ℕ → List ℕ → Type 0
SpellsFileName name = Then (SpellsNumber 2 (length name)) (λ bytes. bytes ≡ name)

-- the words: version 0, flags, the number of line instructions, and the numbers of lines and of file names
abbrev pub SpellsHeader : Header → List ℕ → Type 0
SpellsHeader h = Then (SpellsWord 0) (Then (SpellsWord h.flags) (Then (SpellsWord h.instructions) (Then (SpellsWord h.lines) (SpellsWord h.files))))

-- what the words of a table say
abbrev pub header_of : Lines → Header
header_of l = record { flags = l.flags; instructions = l.instructions; lines = length l.lines; files = length l.files }

-- the words; the places, with file 0 current at first; and the file names
abbrev pub SpellsLines : Lines → List ℕ → Type 0
SpellsLines l = Then (SpellsHeader (header_of l)) (Then (SpellsPlaces (length l.files) 0 l.lines) (SpellsMany SpellsFileName l.files))
