-- What a host and a sink over the system are seen as.
use Rattle.std.specs.Prelude.{ℕ, List, Option, None}
use Rattle.bk_port.specs.declared.file_host.Source.{Source}
use Rattle.bk_port.specs.declared.file_host.Source.TheVariants.{Nothing, Input, File}

-- the reader of standard input, and what is started; how many bytes were read since the last start
-- that did not fail, and how often a call failed
pub record StdFiles (F I : Type 0) : Type 0 where
  pub input : I
  pub source : Source F
  pub count : ℕ
  pub faults : ℕ

-- something is started
abbrev pub IsOpen : {F : Type 0} → Source F → Type 0
IsOpen Nothing = ⊥
IsOpen Input = Unit {0}
IsOpen (File file) = Unit {0}

-- what is started is a file
abbrev pub ReadsFile : {F : Type 0} → Source F → Type 0
ReadsFile Nothing = ⊥
ReadsFile Input = ⊥
ReadsFile (File file) = Unit {0}

-- what is left of standard input or of the file, whichever is started, where its reader tells that
abbrev pub left_of : {F I : Type 0} → (I → Option (List ℕ)) → (F → Option (List ℕ)) → I → Source F → Option (List ℕ)
left_of of_input of_file input Nothing = None
left_of of_input of_file input Input = of_input input
left_of of_input of_file input (File file) = of_file file

-- the writer, and how often a write of bytes failed
pub record StdStore (W : Type 0) : Type 0 where
  pub writer : W
  pub faults : ℕ
