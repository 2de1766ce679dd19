-- The messages: one line for each status from 2 on, which says the cause.
use Rattle.std.specs.Prelude.{ℕ, List, ◌++◌, codes, decimal}
use Rattle.bk_port.specs.declared.reading.TheConstants.{MOST_BYTES}
use Rattle.iff_form.specs.declared.refusal.FormRefusal.{FormRefusal}
use Rattle.iff_form.specs.declared.refusal.FormRefusal.TheVariants.{Gzip, NotBeam, Size, ChunkCut, Twice, NoMemory as FormMemory}
use Rattle.compact_term.specs.declared.refusal.OperandRefusal.{OperandRefusal}
use Rattle.compact_term.specs.declared.refusal.OperandRefusal.TheVariants as operand_refusals
use Rattle.code_chunk.specs.declared.refusal.CodeRefusal.{CodeRefusal}
use Rattle.code_chunk.specs.declared.refusal.CodeRefusal.TheVariants as code_refusals
use Rattle.index_tables.specs.declared.refusal.TableRefusal.{TableRefusal}
use Rattle.index_tables.specs.declared.refusal.TableRefusal.TheVariants.{Cut, AtomUtf8, AtomIndex, Rest, NoMemory as TableMemory}
use Rattle.side_tables.specs.declared.refusal.SideRefusal.{SideRefusal}
use Rattle.side_tables.specs.declared.refusal.SideRefusal.TheVariants as side_refusals
use Rattle.ext_term.specs.declared.refusal.TermRefusal.{TermRefusal}
use Rattle.ext_term.specs.declared.refusal.TermRefusal.TheVariants as term_refusals
use Rattle.func_split.specs.declared.refusal.FunctionWhy.{FunctionWhy}
use Rattle.func_split.specs.declared.refusal.FunctionWhy.TheVariants as faults
use Rattle.listing_in.specs.declared.refusal.ListingRefusal.{ListingRefusal}
use Rattle.listing_in.specs.declared.refusal.ListingRefusal.TheVariants as listing_refusals
use Rattle.listing_in.specs.declared.refusal.ListingWhy.{ListingWhy}
use Rattle.listing_in.specs.declared.refusal.ListingWhy.TheVariants as whys
use Rattle.beam_cli.specs.declared.refusal.Refusal.{Refusal}
use Rattle.beam_cli.specs.declared.refusal.Refusal.TheVariants.{Form, Missing, Table, Side, Term, Code, Functions, Listing, NoMemory}
use Rattle.iff_form.specs.Text.{id_text}

-- a message of this text
abbrev pub line : List ℕ → List ℕ
line text = codes "beamkit: " ++ (text ++ codes "\n")

-- a message about the file with this name
abbrev pub line_about : List ℕ → List ℕ → List ℕ
line_about name text = line (name ++ (codes ": " ++ text))

abbrev pub usage_line : List ℕ
usage_line = line (codes "usage: info F, show WHAT F, disasm F, asm F, strip F, canon F, cmp F G, validate F, gen N")

abbrev pub read_fault_line : List ℕ → List ℕ
read_fault_line name = line_about name (codes "read fault")

abbrev pub too_large_line : List ℕ → List ℕ
too_large_line name = line_about name (codes "more than " ++ (decimal MOST_BYTES ++ codes " bytes"))

abbrev pub write_fault_line : List ℕ
write_fault_line = line (codes "write fault")

abbrev pub no_memory_line : List ℕ
no_memory_line = line (codes "out of memory")

-- why a file is no form; want of memory is no reason of that kind
abbrev pub form_refusal_text : FormRefusal → List ℕ
form_refusal_text Gzip = codes "gzip file"
form_refusal_text NotBeam = codes "not a BEAM file"
form_refusal_text (Size stated found) = codes "size " ++ (decimal stated ++ (codes ", found " ++ decimal found))
form_refusal_text (ChunkCut at) = codes "chunk cut at " ++ decimal at
form_refusal_text (Twice id at) = codes "chunk " ++ (id_text id ++ (codes " twice at " ++ decimal at))
form_refusal_text FormMemory = codes "out of memory"

-- why a payload is no table of names
abbrev pub table_refusal_text : TableRefusal → List ℕ
table_refusal_text Cut = codes "cut"
table_refusal_text Rest = codes "rest"
table_refusal_text (AtomUtf8 n) = codes "atom " ++ (decimal n ++ codes " is not UTF-8")
table_refusal_text (AtomIndex entry) = codes "atom number in entry " ++ decimal entry
table_refusal_text TableMemory = codes "out of memory"

-- why a payload is no table of literals or lines
abbrev pub side_refusal_text : SideRefusal → List ℕ
side_refusal_text side_refusals.Version = codes "version"
side_refusal_text (side_refusals.ItemTag item) = codes "item " ++ decimal item
side_refusal_text (side_refusals.FileIndex item) = codes "file in item " ++ decimal item
side_refusal_text side_refusals.Cut = codes "cut"
side_refusal_text side_refusals.Rest = codes "rest"
side_refusal_text side_refusals.NoMemory = codes "out of memory"

-- why a payload is no term
abbrev pub term_refusal_text : TermRefusal → List ℕ
term_refusal_text term_refusals.Cut = codes "cut"
term_refusal_text (term_refusals.Tag tag at) = codes "tag " ++ (decimal tag ++ (codes " at " ++ decimal at))
term_refusal_text (term_refusals.Depth at) = codes "depth at " ++ decimal at
term_refusal_text (term_refusals.AtomText at) = codes "atom text at " ++ decimal at
term_refusal_text (term_refusals.BitTail at) = codes "bit tail at " ++ decimal at
term_refusal_text (term_refusals.Rest at) = codes "rest at " ++ decimal at
term_refusal_text term_refusals.NoMemory = codes "out of memory"

-- why bytes are no operand
abbrev pub operand_refusal_text : OperandRefusal → List ℕ
operand_refusal_text operand_refusals.Cut = codes "cut"
operand_refusal_text operand_refusals.Inner = codes "inner"
operand_refusal_text (operand_refusals.Wide tag) = codes "too wide, tag " ++ decimal tag
operand_refusal_text (operand_refusals.Negative tag) = codes "negative, tag " ++ decimal tag
operand_refusal_text (operand_refusals.Extended value) = codes "extended " ++ decimal value
operand_refusal_text operand_refusals.Nested = codes "nested"
operand_refusal_text operand_refusals.NoMemory = codes "out of memory"

-- why a payload is no code
abbrev pub code_refusal_text : CodeRefusal → List ℕ
code_refusal_text code_refusals.Header = codes "header"
code_refusal_text (code_refusals.Opcode at op) = codes "opcode " ++ (decimal op ++ (codes " at " ++ decimal at))
code_refusal_text (code_refusals.Operand at why) = codes "operand at " ++ (decimal at ++ (codes ": " ++ operand_refusal_text why))
code_refusal_text code_refusals.NoMemory = codes "out of memory"

-- what is wrong with code at one of its instructions
abbrev pub function_why_text : FunctionWhy → List ℕ
function_why_text faults.Start = codes "start"
function_why_text faults.NoLabel = codes "no label"
function_why_text faults.NoEntry = codes "no entry"
function_why_text faults.Shape = codes "shape"
function_why_text faults.LabelTwice = codes "label twice"
function_why_text faults.LabelRange = codes "label range"
function_why_text faults.End = codes "end"
function_why_text faults.Long = codes "long"
function_why_text faults.Count = codes "count"

-- what is wrong with a line
abbrev pub why_text : ListingWhy → List ℕ
why_text whys.Head = codes "head"
why_text whys.Keyword = codes "keyword"
why_text whys.Id = codes "id"
why_text whys.Number = codes "number"
why_text whys.Hex = codes "hex"
why_text whys.Short = codes "short"
why_text whys.Op = codes "op"
why_text whys.Operands = codes "operands"

-- why a text is no listing
abbrev pub listing_refusal_text : ListingRefusal → List ℕ
listing_refusal_text (listing_refusals.Line number why) = codes "line " ++ (decimal number ++ (codes ": " ++ why_text why))
listing_refusal_text (listing_refusals.Twice number id) = codes "line " ++ (decimal number ++ (codes ": chunk " ++ (id_text id ++ codes " twice")))
listing_refusal_text listing_refusals.NoMemory = codes "out of memory"

-- why a file is not what a command needs
abbrev pub refusal_text : Refusal → List ℕ
refusal_text (Form e) = form_refusal_text e
refusal_text (Missing id) = codes "no chunk " ++ id_text id
refusal_text (Table id e) = id_text id ++ (codes ": " ++ table_refusal_text e)
refusal_text (Side id e) = id_text id ++ (codes ": " ++ side_refusal_text e)
refusal_text (Term id e) = id_text id ++ (codes ": " ++ term_refusal_text e)
refusal_text (Code e) = codes "Code: " ++ code_refusal_text e
refusal_text (Functions at why) = codes "functions: " ++ (function_why_text why ++ (codes " at " ++ decimal at))
refusal_text (Listing e) = listing_refusal_text e
refusal_text NoMemory = codes "out of memory"
