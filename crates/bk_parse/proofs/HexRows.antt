-- Digits are read a row at a time.
use Rattle.std.proofs.Common.{◌≡◌, ℕ, false, ◌+◌, ◌*◌, ◌/◌, ◌%◌, ◌⊎◌, List, [], ◌∷◌, ◌++◌, length, min, Option, Some, None, option_map, option_and_then, Result, Ok, Err, refl, sym, ap, ◌∙◌, arith, append-nil, append_assoc, inl, inr}
use Rattle.std.proofs.lemmas.Bool.{cases_eq, cases_lt, cond-false}
use Rattle.std.proofs.lemmas.List.{nil_from_length, length-append}
use Rattle.std.proofs.lemmas.Option.{same_Some}
use Rattle.std.specs.Char.{is_ascii_uppercase}
use Rattle.std.specs.List.{list_any}
use Rattle.std.specs.Result.{result_ok}
use Rattle.hex.specs.Hex.{decode_of, decode_pairs, decode_sized, digit_or_error, hex_digit_value, ◌>>=◌}
use Rattle.hex.specs.declared.error.FromHexError.{FromHexError}
use Rattle.hex.proofs.HexLemmas.{decode_of-even, decode_of-odd, decode_sized-odd, decode_sized-twice}
use Rattle.bk_parse.specs.Answer.{Appends}
use Rattle.bk_parse.specs.HexBytes.{bytes_of}
use Rattle.bk_parse.specs.declared.refusal.TextRefusal.{TextRefusal}
use Rattle.bk_parse.specs.declared.refusal.TextRefusal.TheVariants as refusals
use Rattle.bk_parse.proofs.Options.{map_some}

-- the bytes of pairs of digits, in either case
abbrev bytes_in : List ℕ → Option (List ℕ)
bytes_in [] = Some []
bytes_in (digit ∷ []) = None
bytes_in (high ∷ low ∷ rest) = option_and_then (λ h. option_and_then (λ l. option_map (λ bytes. (h * 16 + l) ∷ bytes) (bytes_in rest)) (hex_digit_value low)) (hex_digit_value high)

pair_read : (a b i : ℕ) (high low : Option ℕ) (others : Result (List ℕ) FromHexError)
    → result_ok (((digit_or_error a i high >>= λ h. digit_or_error b (i + 1) low >>= λ l. Ok (h * 16 + l))) >>= λ byte. (others >>= λ bytes. Ok (byte ∷ bytes)))
    ≡ option_and_then (λ h. option_and_then (λ l. option_map (λ bytes. (h * 16 + l) ∷ bytes) (result_ok others)) low) high
pair_read a b i (Some h) (Some l) (Ok bytes) = refl
pair_read a b i (Some h) (Some l) (Err e) = refl
pair_read a b i (Some h) None others = refl
pair_read a b i None low others = refl

pairs_are : (i : ℕ) (t : List ℕ) → result_ok (decode_pairs i t) ≡ bytes_in t
unfolding decode_pairs
pairs_are i [] = refl
pairs_are i (a ∷ []) = refl
pairs_are i (a ∷ b ∷ rest) =
    pair_read a b i (hex_digit_value a) (hex_digit_value b) (decode_pairs (i + 2) rest)
    ∙ ap (λ (others : Option (List ℕ)). option_and_then (λ h. option_and_then (λ l. option_map (λ bytes. (h * 16 + l) ∷ bytes) others) (hex_digit_value b)) (hex_digit_value a)) (pairs_are (i + 2) rest)

odd_are : (t : List ℕ) → length t % 2 ≡ 1 → bytes_in t ≡ None
odd_are [] odd = absurd (omega arith)
odd_are (a ∷ []) odd = refl
odd_are (a ∷ b ∷ rest) odd =
    rw (odd_are rest (omega arith)) (none_behind (hex_digit_value a) (hex_digit_value b))
  where
    none_behind : (high low : Option ℕ) → option_and_then (λ h. option_and_then (λ l. option_map (λ bytes. (h * 16 + l) ∷ bytes) None) low) high ≡ None
    none_behind (Some h) (Some l) = refl
    none_behind (Some h) None = refl
    none_behind None low = refl

decoded_are : (t : List ℕ) → result_ok (decode_of t) ≡ bytes_in t
decoded_are t =
    elim (cases_eq (length t % 2) 1) [
      | inl odd ↦ ap result_ok (decode_of-odd t odd) ∙ sym (odd_are t odd)
      | inr even ↦ ap result_ok (decode_of-even t (omega arith)) ∙ pairs_are 0 t
    ]

-- ---- a row, and the digits behind it

-- the bytes of pairs, where those behind are known
abbrev before : Option ℕ → Option ℕ → Option (List ℕ) → Option (List ℕ)
before high low others = option_and_then (λ h. option_and_then (λ l. option_map (λ bytes. (h * 16 + l) ∷ bytes) others) low) high

in_front : (o : Option (List ℕ)) (b : ℕ) (bs : List ℕ) → option_map (λ bytes. b ∷ bytes) (option_map (λ more. bs ++ more) o) ≡ option_map (λ more. b ∷ bs ++ more) o
in_front (Some x) b bs = refl
in_front None b bs = refl

-- more behind where there were some
before_more : (high low : Option ℕ) (others more o : Option (List ℕ)) (bytes : List ℕ) → ((bs : List ℕ) → others ≡ Some bs → more ≡ option_map (λ m. bs ++ m) o)
    → before high low others ≡ Some bytes → before high low more ≡ option_map (λ m. bytes ++ m) o
before_more (Some h) (Some l) (Some bs) more o bytes behind e =
    ap (option_map (λ x. (h * 16 + l) ∷ x)) (behind bs refl) ∙ in_front o (h * 16 + l) bs
    ∙ ap (λ (front : List ℕ). option_map (λ m. front ++ m) o) (same_Some ((h * 16 + l) ∷ bs) bytes e)
before_more (Some h) (Some l) None more o bytes behind e = absurd cc
before_more (Some h) None others more o bytes behind e = absurd cc
before_more None low others more o bytes behind e = absurd cc

-- none behind where there was none
before_none : (high low : Option ℕ) (others more : Option (List ℕ)) → (others ≡ None → more ≡ None) → before high low others ≡ None → before high low more ≡ None
before_none (Some h) (Some l) (Some bs) more same e = absurd cc
before_none (Some h) (Some l) None more same e = rw (same refl) refl
before_none (Some h) None others more same e = refl
before_none None low others more same e = refl

bytes_more : (row rest bytes : List ℕ) → bytes_in row ≡ Some bytes → bytes_in (row ++ rest) ≡ option_map (λ more. bytes ++ more) (bytes_in rest)
bytes_more [] rest bytes e = nothing (bytes_in rest) ∙ ap (λ (front : List ℕ). option_map (λ m. front ++ m) (bytes_in rest)) (same_Some [] bytes e)
  where
    nothing : (o : Option (List ℕ)) → o ≡ option_map (λ m. [] ++ m) o
    nothing (Some x) = refl
    nothing None = refl
bytes_more (a ∷ []) rest bytes e = absurd cc
bytes_more (a ∷ b ∷ row) rest bytes e =
    before_more (hex_digit_value a) (hex_digit_value b) (bytes_in row) (bytes_in (row ++ rest)) (bytes_in rest) bytes (λ bs. bytes_more row rest bs) e

bytes_stop : (row rest : List ℕ) → length row % 2 ≡ 0 → bytes_in row ≡ None → bytes_in (row ++ rest) ≡ None
bytes_stop [] rest even e = absurd cc
bytes_stop (a ∷ []) rest even e = absurd (omega arith)
bytes_stop (a ∷ b ∷ row) rest even e =
    before_none (hex_digit_value a) (hex_digit_value b) (bytes_in row) (bytes_in (row ++ rest)) (bytes_stop row rest (omega arith)) e

-- ---- the steps of reading

-- digits decode into room for half as many bytes
pub decode_half : (t : List ℕ) → decode_sized t (length t / 2) ≡ decode_of t
decode_half t =
    elim (cases_eq (length t % 2) 1) [
      | inl odd ↦ decode_sized-odd t (length t / 2) odd ∙ sym (decode_of-odd t odd)
      | inr even ↦ decode_sized-twice t (length t / 2) (omega arith)
    ]

-- the bytes of a row stand behind the old ones, and the others are left
pub row_put : (old new row rest all : List ℕ) (whole : Option (List ℕ)) → option_map (λ bytes. old ++ bytes) (result_ok (decode_of row)) ≡ Some new → all ≡ row ++ rest
    → option_map (λ bytes. old ++ bytes) (result_ok (decode_of all)) ≡ whole → option_map (λ bytes. new ++ bytes) (result_ok (decode_of rest)) ≡ whole
row_put old new row rest all whole put parts kept =
    let read = map_some (λ bytes. old ++ bytes) (result_ok (decode_of row)) new put in
    let bytes : List ℕ = read.0 in
    let here : bytes_in row ≡ Some bytes = sym (decoded_are row) ∙ read.1 in
    let joined : result_ok (decode_of all) ≡ option_map (λ more. bytes ++ more) (result_ok (decode_of rest)) =
    ap (λ (t : List ℕ). result_ok (decode_of t)) parts ∙ decoded_are (row ++ rest) ∙ bytes_more row rest bytes here ∙ ap (option_map (λ more. bytes ++ more)) (sym (decoded_are rest)) in
    regroup (result_ok (decode_of rest)) bytes read.2 ∙ ap (option_map (λ bs. old ++ bs)) (sym joined) ∙ kept
  where
    regroup : (o : Option (List ℕ)) (bytes : List ℕ) → old ++ bytes ≡ new → option_map (λ bs. new ++ bs) o ≡ option_map (λ bs. old ++ bs) (option_map (λ more. bytes ++ more) o)
    regroup (Some x) bytes same = rw (← same) (ap (λ (t : List ℕ). Some t) (append_assoc old bytes x))
    regroup None bytes same = refl

map_none : {A B : Type 0} (f : A → B) (o : Option A) → None ≡ option_map f o → o ≡ None
map_none f (Some x) e = absurd cc
map_none f None e = refl

stopped : (row rest all : List ℕ) → bytes_in row ≡ None → all ≡ row ++ rest → (length row % 2 ≡ 0) ⊎ (length rest ≡ 0) → bytes_in all ≡ None
stopped row rest all none parts (inl even) = ap bytes_in parts ∙ bytes_stop row rest even none
stopped row rest all none parts (inr end) = ap bytes_in (parts ∙ ap (λ (t : List ℕ). row ++ t) (nil_from_length rest end) ∙ append-nil row) ∙ none

-- a row that is not read is in no text that is; the last one alone may have an odd digit
row_refused : (out row rest all old : List ℕ) (whole : Option (List ℕ)) → result_ok (decode_of row) ≡ None → all ≡ row ++ rest → (length row % 2 ≡ 0) ⊎ (length rest ≡ 0)
    → option_map (λ bytes. out ++ bytes) (result_ok (decode_of all)) ≡ option_map (λ bytes. old ++ bytes) whole → whole ≡ None
row_refused out row rest all old whole none parts even kept =
    let here : result_ok (decode_of all) ≡ None = decoded_are all ∙ stopped row rest all (sym (decoded_are row) ∙ none) parts even in
    map_none (λ bytes. old ++ bytes) whole (sym (ap (option_map (λ bytes. out ++ bytes)) here) ∙ kept)

-- a row is short, or odd, only where nothing is left behind it
row_even : (row rest all : List ℕ) → all ≡ row ++ rest → length row ≡ min 64 (length all) → (length row % 2 ≡ 0) ⊎ (length rest ≡ 0)
row_even row rest all parts len =
    let sum : length all ≡ length row + length rest = ap length parts ∙ length-append row rest in
    elim (cases_lt (length all) 64) [
      | inl short ↦ inr (omega arith)
      | inr long ↦ inl (omega arith)
    ]

-- a refusal at a row is one of the whole
pub row_answers : (e : TextRefusal) (out later row rest all old new : List ℕ) (whole : Option (List ℕ)) → Appends (Err e) (result_ok (decode_of row)) out later
    → all ≡ row ++ rest → length row ≡ min 64 (length all)
    → option_map (λ bytes. out ++ bytes) (result_ok (decode_of all)) ≡ option_map (λ bytes. old ++ bytes) whole → Appends (Err e) whole old new
row_answers refusals.Wrong out later row rest all old new whole none parts len kept = row_refused out row rest all old whole none parts (row_even row rest all parts len) kept
row_answers refusals.NoMemory out later row rest all old new whole none parts len kept = tt

-- without upper case, what decodes is what is read
pub no_upper : (digits : List ℕ) → list_any is_ascii_uppercase digits ≡ false → bytes_of digits ≡ result_ok (decode_of digits)
no_upper digits none = cond-false (list_any is_ascii_uppercase digits) None (result_ok (decode_of digits)) none

-- nothing is left
pub rows_end : (new : List ℕ) (old : List ℕ) (whole : Option (List ℕ)) → option_map (λ bytes. new ++ bytes) (result_ok (decode_of [])) ≡ option_map (λ bytes. old ++ bytes) whole → option_map (λ bytes. old ++ bytes) whole ≡ Some new
unfolding decode_pairs
rows_end new old whole kept = sym kept ∙ ap (λ (t : List ℕ). Some t) (append-nil new)
