-- How the fields of a line of code are read: the highest opcode, the counts of labels and functions, and the extra bytes.
use Rattle.std.specs.Prelude.{ℕ, ◌^◌, if◌then◌else◌, List, [], ◌∷◌, codes, decimal, bytes_eq, Option, Some, None}
use Rattle.std.specs.Option.{option_map, option_and_then}
use Rattle.bk_parse.specs.HexBytes.{bytes_of}
use Rattle.bk_parse.specs.Numbers.{number_of}
use Rattle.code_chunk.specs.declared.code.CodeVal.{CodeVal}
use Rattle.listing_out.specs.Lines.{extra_text}

abbrev pub some_bytes : List ℕ → Option (List ℕ)
some_bytes [] = None
some_bytes (b ∷ bytes) = Some (b ∷ bytes)

-- one byte or more, or a dash for none
abbrev pub extra_of : List ℕ → Option (List ℕ)
extra_of text = if bytes_eq text (codes "-") then Some [] else option_and_then some_bytes (bytes_of text)

abbrev pub word_of : List ℕ → Option ℕ
word_of text = number_of (2 ^ 32) text

-- code without instructions
abbrev pub begun_with : ℕ → ℕ → ℕ → List ℕ → CodeVal
begun_with max_op labels functions extra = record { extra = extra; max_op = max_op; labels = labels; functions = functions; instrs = [] }

abbrev pub header_of : List (List ℕ) → Option CodeVal
header_of (max_op ∷ labels ∷ functions ∷ extra ∷ []) =
    option_and_then (λ m. option_and_then (λ l. option_and_then (λ f. option_map (begun_with m l f) (extra_of extra)) (word_of functions)) (word_of labels)) (word_of max_op)
header_of _ = None

-- the fields of its line
abbrev pub header_fields : CodeVal → List (List ℕ)
header_fields c = decimal c.max_op ∷ decimal c.labels ∷ decimal c.functions ∷ extra_text c.extra ∷ []
