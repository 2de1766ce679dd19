-- Why a payload is no table of lines.
use Rattle.std.specs.Prelude.{◌≡◌, ◌≢◌, ℕ, suc, ◌<◌, pos, List, [], ◌∷◌, ◌++◌, length, Err}
use Rattle.bk_codec.specs.Spelling.{SpellsMany}
use Rattle.bk_codec.specs.Exact.{Begins}
use Rattle.compact_term.specs.declared.operand.Plain.TheVariants.{I, A}
use Rattle.compact_term.specs.declared.operand.Operand.{Operand}
use Rattle.compact_term.specs.declared.operand.Operand.TheVariants.{One}
use Rattle.compact_term.specs.declared.refusal.OperandRefusal.{OperandRefusal}
use Rattle.compact_term.specs.declared.refusal.OperandRefusal.TheVariants as operand_refusals
use Rattle.compact_term.specs.Spelling.{Spells}
use Rattle.compact_term.specs.Reading.{operand_at}
use Rattle.side_tables.specs.declared.line_item.Item.{Item}
use Rattle.side_tables.specs.declared.line_item.Item.TheVariants as items
use Rattle.side_tables.specs.declared.line_reading.Header.{Header}
use Rattle.side_tables.specs.declared.lines.Lines.{Lines}
use Rattle.side_tables.specs.LineSpelling.{SpellsItem, SpellsHeader, SpellsLines}

-- how many of the items are lines
abbrev pub lines_in : List Item → ℕ
lines_in [] = 0
lines_in (items.Line line ∷ xs) = suc (lines_in xs)
lines_in (items.File n ∷ xs) = lines_in xs

-- the words, then so many items, of which fewer are lines than the words state, and then bytes that are wrong in a table with so many file names
pub record LinesStopAt (wrong : ℕ → List ℕ → Type 0) (item : ℕ) (bytes : List ℕ) : Type 0 where
  pub header : Header
  pub before : List Item
  pub words : List ℕ
  pub front : List ℕ
  pub rest : List ℕ
  pub joined : bytes ≡ words ++ (front ++ rest)
  pub words_are : SpellsHeader header words
  pub before_are : SpellsMany (SpellsItem header.files) before front
  pub number : length before ≡ item
  pub fewer : lines_in before < header.lines
  pub why : wrong header.files rest

-- an operand that is neither a line from 0 up nor a switch
abbrev pub IsNoItem : Operand → Type 0
IsNoItem (One (I (pos n))) = ⊥
IsNoItem (One (A n)) = ⊥
IsNoItem o = Unit {0}

-- another operand stands in front, or one is refused there, and not for missing bytes
pub data BeginsNoItem (bytes : List ℕ) : Type 0 where
  other_operand : (o : Operand) (rest : List ℕ) → IsNoItem o → Begins (Spells o) bytes rest → BeginsNoItem bytes
  refused_operand : (why : OperandRefusal) → why ≢ operand_refusals.Cut → operand_at bytes ≡ Err why → BeginsNoItem bytes

-- a switch stands in front, to a file above the number of file names
pub record BeginsFarSwitch (files : ℕ) (bytes : List ℕ) : Type 0 where
  pub file : ℕ
  pub rest : List ℕ
  pub above : files < file
  pub begins : Begins (Spells (One (A file))) bytes rest

-- a whole table, and bytes behind it
pub record LinesGoOn (bytes : List ℕ) : Type 0 where
  pub lines : Lines
  pub rest : List ℕ
  pub begins : Begins (SpellsLines lines) bytes rest
  pub more : 0 < length rest
