-- The command grammar: which words ask for something, and for what.
use Rattle.std.specs.Prelude.{ℕ, ◌^◌, ◌≤◌, nat_le, ⊤, Bool, false, not, ◌==◌, ◌&&◌, ◌||◌, List, [], ◌∷◌, length, codes, bytes_eq, Option, Some, None, option_map, if◌then◌else◌}
use Rattle.std.specs.List.{list_all}
use Rattle.std.specs.Option.{option_and_then}
use Rattle.bk_parse.specs.Numbers.{number_of}
use Rattle.module_gen.specs.Generated.{most_functions}
use Rattle.beam_cli.specs.declared.command.Command.{Command}
use Rattle.beam_cli.specs.declared.command.Command.TheVariants.{Info, Show, Disasm, Asm, Strip, Canon, Cmp, Validate, Gen}
use Rattle.beam_cli.specs.declared.shown.Shown.{Shown}
use Rattle.beam_cli.specs.declared.shown.Shown.TheVariants.{Atoms, Imports, Exports, Locals, Funs, Literals, Lines, Attributes, Compile}

-- what words ask for: a command, on the files with these names in the order of the words
pub record Asked : Type 0 where
  pub command : Command
  pub names : List (List ℕ)

-- a word that names a file: `-`, or a word that is not empty and does not begin with `-`
abbrev pub is_name : List ℕ → Bool
is_name [] = false
is_name (c ∷ rest) = not (c == 45) || length rest == 0

-- the table of names that a word names
unfoldable pub names_by : List ℕ → Option Shown
names_by word =
    if bytes_eq word (codes "atoms") then Some Atoms
    else if bytes_eq word (codes "imports") then Some Imports
    else if bytes_eq word (codes "exports") then Some Exports
    else if bytes_eq word (codes "locals") then Some Locals
    else if bytes_eq word (codes "funs") then Some Funs
    else None

-- the table that a word names
unfoldable pub shown_by : List ℕ → Option Shown
shown_by word =
    if bytes_eq word (codes "literals") then Some Literals
    else if bytes_eq word (codes "lines") then Some Lines
    else if bytes_eq word (codes "attributes") then Some Attributes
    else if bytes_eq word (codes "compile") then Some Compile
    else names_by word

-- a command on one file and nothing else
unfoldable pub command_by : List ℕ → Option Command
command_by word =
    if bytes_eq word (codes "info") then Some Info
    else if bytes_eq word (codes "disasm") then Some Disasm
    else if bytes_eq word (codes "asm") then Some Asm
    else if bytes_eq word (codes "strip") then Some Strip
    else if bytes_eq word (codes "canon") then Some Canon
    else if bytes_eq word (codes "validate") then Some Validate
    else None

-- a command on files, where each of the words names one
abbrev pub on_files : List (List ℕ) → Option Command → Option Asked
on_files names command = if list_all is_name names then option_map (λ c. record { command = c; names = names }) command else None

-- a number of functions that a module can be made of
abbrev pub in_range : ℕ → Option ℕ
in_range n = if nat_le 1 n && nat_le n most_functions then Some n else None

-- the number of functions that a word tells, in decimal without leading zeros
unfoldable pub count_by : List ℕ → Option ℕ
count_by word = option_and_then in_range (number_of (2 ^ 32) word)

-- `gen` with a number, which reads no file
unfoldable pub asked_to_generate : List ℕ → List ℕ → Option Asked
asked_to_generate word count = if bytes_eq word (codes "gen") then option_map (λ n. record { command = Gen n; names = [] }) (count_by count) else None

-- a command of two words, the first of which names this command on a file or none
abbrev pub asked_by_two : Option Command → List ℕ → List ℕ → Option Asked
asked_by_two (Some command) word second = on_files (second ∷ []) (Some command)
asked_by_two None word second = asked_to_generate word second

-- the word that names standard input
abbrev pub is_input : List ℕ → Bool
is_input word = bytes_eq word (codes "-")

-- a command of three words; standard input can't be read twice
unfoldable pub asked_by_three : List ℕ → List ℕ → List ℕ → Option Asked
asked_by_three word first second =
    if bytes_eq word (codes "show") then on_files (second ∷ []) (option_map Show (shown_by first))
    else if bytes_eq word (codes "cmp") && not (is_input first && is_input second) then on_files (first ∷ second ∷ []) (Some Cmp)
    else None

-- what the words ask for; none where they are not in the grammar
abbrev pub asked_by : List (List ℕ) → Option Asked
asked_by (word ∷ second ∷ []) = asked_by_two (command_by word) word second
asked_by (word ∷ first ∷ second ∷ []) = asked_by_three word first second
asked_by words = None

-- how many files a command reads
abbrev pub file_count : Command → ℕ
file_count Cmp = 2
file_count (Gen n) = 0
file_count command = 1

-- a module can be made of as many functions as the command says
abbrev pub IsInRange : Command → Type 0
IsInRange (Gen n) = (1 ≤ n) × (n ≤ most_functions)
IsInRange command = ⊤

-- the names of the files, in the order of the words
abbrev pub named : Option Asked → List (List ℕ)
named None = []
named (Some asked) = asked.names
