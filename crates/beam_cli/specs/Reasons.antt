-- Reasons to refuse a file: want of memory is none of them, of whatever part of the file.
use Rattle.std.specs.Prelude.{◌≡◌, ◌⊎◌, ⊤}
use Rattle.iff_form.specs.declared.id.Id.{Id}
use Rattle.iff_form.specs.declared.refusal.FormRefusal.{FormRefusal}
use Rattle.iff_form.specs.declared.refusal.FormRefusal.TheVariants as forms
use Rattle.code_chunk.specs.declared.refusal.CodeRefusal.{CodeRefusal}
use Rattle.code_chunk.specs.declared.refusal.CodeRefusal.TheVariants as codes_of
use Rattle.compact_term.specs.declared.refusal.OperandRefusal.TheVariants as operands
use Rattle.index_tables.specs.declared.refusal.TableRefusal.{TableRefusal}
use Rattle.index_tables.specs.declared.refusal.TableRefusal.TheVariants as tables
use Rattle.side_tables.specs.declared.refusal.SideRefusal.{SideRefusal}
use Rattle.side_tables.specs.declared.refusal.SideRefusal.TheVariants as sides
use Rattle.ext_term.specs.declared.refusal.TermRefusal.{TermRefusal}
use Rattle.ext_term.specs.declared.refusal.TermRefusal.TheVariants as terms
use Rattle.beam_module.specs.declared.refusal.ModuleRefusal.{ModuleRefusal}
use Rattle.beam_module.specs.declared.refusal.ModuleRefusal.TheVariants as modules
use Rattle.beam_module.specs.declared.refusal.TableWhy.TheVariants as whys
use Rattle.listing_in.specs.declared.refusal.ListingRefusal.{ListingRefusal}
use Rattle.listing_in.specs.declared.refusal.ListingRefusal.TheVariants as listings
use Rattle.beam_cli.specs.declared.refusal.Refusal.{Refusal}
use Rattle.beam_cli.specs.declared.refusal.Refusal.TheVariants.{Form, Missing, Table, Side, Term, Code, Functions, Listing, NoMemory}

abbrev pub IsReason : Refusal → Type 0
IsReason (Form forms.NoMemory) = ⊥
IsReason (Table id tables.NoMemory) = ⊥
IsReason (Side id sides.NoMemory) = ⊥
IsReason (Term id terms.NoMemory) = ⊥
IsReason (Code codes_of.NoMemory) = ⊥
IsReason (Code (codes_of.Operand at operands.NoMemory)) = ⊥
IsReason (Listing listings.NoMemory) = ⊥
IsReason NoMemory = ⊥
IsReason e = ⊤

-- a reason, or want of memory, which is then said of no part of the file
abbrev pub IsRefusal : Refusal → Type 0
IsRefusal e = (e ≡ NoMemory) ⊎ IsReason e

-- ---- a refusal of a part as one of the file: want of memory is the file's own

abbrev pub form_refusal : FormRefusal → Refusal
form_refusal forms.NoMemory = NoMemory
form_refusal e = Form e

abbrev pub code_refusal : CodeRefusal → Refusal
code_refusal codes_of.NoMemory = NoMemory
code_refusal (codes_of.Operand at operands.NoMemory) = NoMemory
code_refusal e = Code e

abbrev pub table_refusal : Id → TableRefusal → Refusal
table_refusal id tables.NoMemory = NoMemory
table_refusal id e = Table id e

abbrev pub side_refusal : Id → SideRefusal → Refusal
side_refusal id sides.NoMemory = NoMemory
side_refusal id e = Side id e

abbrev pub term_refusal : Id → TermRefusal → Refusal
term_refusal id terms.NoMemory = NoMemory
term_refusal id e = Term id e

abbrev pub listing_refusal : ListingRefusal → Refusal
listing_refusal listings.NoMemory = NoMemory
listing_refusal e = Listing e

abbrev pub module_refusal : ModuleRefusal → Refusal
module_refusal (modules.Form e) = form_refusal e
module_refusal (modules.Missing id) = Missing id
module_refusal (modules.Table id (whys.Index e)) = table_refusal id e
module_refusal (modules.Table id (whys.Side e)) = side_refusal id e
module_refusal (modules.Code e) = code_refusal e
module_refusal (modules.Functions at why) = Functions at why
module_refusal modules.NoMemory = NoMemory
