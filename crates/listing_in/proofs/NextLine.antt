-- Each line that is read adds itself, and none is refused for want of memory.
use Rattle.std.proofs.Common.{◌≡◌, ◌⊎◌, ℕ, ◌%◌, ◌==◌, ◌&&◌, Bool, true, false, cond, List, [], ◌∷◌, ◌++◌, length, Option, Some, None, Result, Ok, Err, refl, sym, ap, subst, ◌∙◌, inl, inr, eqb-true}
use Rattle.std.specs.Prelude.{codes, bytes_eq}
use Rattle.std.proofs.lemmas.Bool.{and_parts}
use Rattle.std.proofs.lemmas.Option.{cond_some, none-some, same_Some}
use Rattle.std.proofs.lemmas.Slice.Eq.{bytes_eq-Decides}
use Rattle.bk_codec.specs.Reading.{◌>>=◌, refused_as}
use Rattle.bk_codec.proofs.Steps.{chosen, ok_is}
use Rattle.bk_parse.specs.Parts.{parts_at}
use Rattle.iff_form.specs.declared.id.Id.{Id}
use Rattle.op_table.specs.Instruction.{Instruction}
use Rattle.code_chunk.specs.declared.code.CodeVal.{CodeVal}
use Rattle.beam_module.specs.File.{FileChunk, code_id}
use Rattle.listing_in.specs.declared.refusal.ListingWhy.{ListingWhy}
use Rattle.listing_in.specs.declared.refusal.ListingWhy.TheVariants as whys
use Rattle.listing_in.specs.declared.stop.LineStop.{LineStop}
use Rattle.listing_in.specs.declared.stop.LineStop.TheVariants as stops
use Rattle.listing_in.specs.Header.{header_of}
use Rattle.listing_in.specs.Ids.{id_of}
use Rattle.listing_in.specs.Instruction.{instruction_of}
use Rattle.listing_in.specs.State.{State, Start, Begun, Filling, Coding, chunks_of, lines_of, value_of}
use Rattle.listing_in.specs.Step.{begun_as, chunk_begins, code_begins, coded, filled, indented_of, is_seen, keyword_begins, line_within, next_line, payload_begins, row_of, within}
use Rattle.listing_in.proofs.FileLines.{none_listable}
use Rattle.listing_in.proofs.KeywordLines.{keyword_adds}
use Rattle.listing_in.proofs.LineStep.{Adds, IsRead, answer, not_answer, within_adds}
use Rattle.listing_in.proofs.LineTexts.{LineTexts}

-- ---- lines behind the first

-- with the head read, a line that is not indented begins a chunk
pub unindented : (s : State) (closed : List FileChunk) (line : List ℕ) → value_of s ≡ Some closed → indented_of line ≡ None → next_line s line ≡ keyword_begins closed (parts_at 32 line)
unindented Start closed line value none = absurd (none-some closed value)
unindented Begun closed line value none = rw none (ap (λ (v : List FileChunk). keyword_begins v (parts_at 32 line)) (same_Some [] closed value))
unindented (Filling others id payload) closed line value none = rw none (ap (λ (v : List FileChunk). keyword_begins v (parts_at 32 line)) (same_Some (chunks_of (Filling others id payload)) closed value))
unindented (Coding others code) closed line value none = rw none (ap (λ (v : List FileChunk). keyword_begins v (parts_at 32 line)) (same_Some (chunks_of (Coding others code)) closed value))

-- and one that is goes on in a chunk
indented : (s : State) (closed : List FileChunk) (line text : List ℕ) → value_of s ≡ Some closed → indented_of line ≡ Some text → next_line s line ≡ within s text
indented Start closed line text value some = absurd (none-some closed value)
indented Begun closed line text value some = rw some refl
indented (Filling others id payload) closed line text value some = rw some refl
indented (Coding others code) closed line text value some = rw some refl

two_spaces : (a b : ℕ) (text rest : List ℕ) → indented_of (a ∷ b ∷ rest) ≡ Some text → a ∷ b ∷ rest ≡ codes "  " ++ text
two_spaces a b text rest e =
    let passed = cond_some ((a == 32) && (b == 32)) rest text e in
    let both = and_parts (a == 32) (b == 32) passed.0 in
    let first : a ≡ 32 = eqb-true a 32 both.0 in
    let second : b ≡ 32 = eqb-true b 32 both.1 in
    rw (first, second, passed.1) refl

-- what stands behind two spaces, where there are any
which_indent : (line : List ℕ) → (indented_of line ≡ None) ⊎ ((text : List ℕ) × (indented_of line ≡ Some text) × (line ≡ codes "  " ++ text))
which_indent [] = inl refl
which_indent (a ∷ []) = inl refl
which_indent (a ∷ b ∷ rest) = elim (chosen ((a == 32) && (b == 32)) (Some rest) None (indented_of (a ∷ b ∷ rest)) refl) [
  | inl h ↦ inr (rest, sym h.1, two_spaces a b rest rest (sym h.1))
  | inr h ↦ inl (sym h.1)
]

module _ (texts : LineTexts) where
  adds_behind : (s : State) (closed : List FileChunk) (line : List ℕ) (t : State) → value_of s ≡ Some closed → IsRead (value_of s) → next_line s line ≡ answer t → Adds t (lines_of (value_of s)) line
  adds_behind s closed line t value is e =
      elim (which_indent line) [
        | inl none ↦
            rw (ap lines_of value) (keyword_adds texts closed line t (subst IsRead value is) (sym (unindented s closed line value none) ∙ e))
        | inr some ↦
            subst (λ (l : List ℕ). Adds t (lines_of (value_of s)) l) (sym some.2) (within_adds texts s some.0 t is (sym (indented s closed line some.0 value some.1) ∙ e))
      ]

  -- a line that is read adds itself
  pub line_adds : (s : State) (line : List ℕ) (t : State) → IsRead (value_of s) → next_line s line ≡ answer t → Adds t (lines_of (value_of s)) line
  line_adds Start line t is e =
      elim (chosen (bytes_eq line (codes "beam 1")) (answer Begun) (Err (stops.Wrong whys.Head)) (answer t) e) [
        | inl h ↦
            let first : Adds Begun [] line = (none_listable, ap (λ (l : List ℕ). l ∷ []) (sym ((bytes_eq-Decides line (codes "beam 1")).0 h.0))) in
            subst (λ (s : State). Adds s [] line) (ok_is {E = LineStop} Begun t h.1) first
        | inr h ↦ absurd (not_answer (stops.Wrong whys.Head) t h.1)
      ]
  line_adds Begun line t is e = adds_behind Begun [] line t refl is e
  line_adds (Filling closed id payload) line t is e = adds_behind (Filling closed id payload) (chunks_of (Filling closed id payload)) line t refl is e
  line_adds (Coding closed code) line t is e = adds_behind (Coding closed code) (chunks_of (Coding closed code)) line t refl is e

-- ---- want of memory

-- the answer is not want of memory
abbrev Tells : Result State LineStop → Type 0
Tells r = r ≡ Err stops.NoMemory → ⊥

told : (t : State) → Tells (Ok t)
told t e = cc

told_wrong : (why : ListingWhy) → Tells (Err (stops.Wrong why))
told_wrong why e = cc

told_twice : (id : Id) → Tells (Err (stops.Twice id))
told_twice id e = cc

told_if : (b : Bool) (x y : Result State LineStop) → Tells x → Tells y → Tells (cond b x y)
told_if true x y one other = one
told_if false x y one other = other

told_begun : (chunks : List FileChunk) (id : Id) (s : State) → Tells (begun_as chunks id s)
told_begun chunks id s = told_if (is_seen id chunks) (Err (stops.Twice id)) (Ok s) (told_twice id) (told s)

told_payload : (chunks : List FileChunk) (o : Option Id) → Tells (payload_begins chunks o)
told_payload chunks None = told_wrong whys.Id
told_payload chunks (Some id) = told_if (bytes_eq id.0 code_id.0) (Err (stops.Wrong whys.Id)) (begun_as chunks id (Filling chunks id [])) (told_wrong whys.Id) (told_begun chunks id (Filling chunks id []))

told_chunk : (chunks : List FileChunk) (fields : List (List ℕ)) → Tells (chunk_begins chunks fields)
told_chunk chunks [] = told_wrong whys.Id
told_chunk chunks (text ∷ []) = told_payload chunks (id_of text)
told_chunk chunks (text ∷ other ∷ fields) = told_wrong whys.Id

told_code : (chunks : List FileChunk) (o : Option CodeVal) → Tells (code_begins chunks o)
told_code chunks None = told_wrong whys.Number
told_code chunks (Some c) = told_begun chunks code_id (Coding chunks c)

told_keyword : (chunks : List FileChunk) (parts : List (List ℕ)) → Tells (keyword_begins chunks parts)
told_keyword chunks [] = told_wrong whys.Keyword
told_keyword chunks (word ∷ fields) =
    let code : Result State LineStop = cond (bytes_eq word (codes "code")) (code_begins chunks (header_of fields)) (Err (stops.Wrong whys.Keyword)) in
    told_if (bytes_eq word (codes "chunk")) (chunk_begins chunks fields) code (told_chunk chunks fields)
    (told_if (bytes_eq word (codes "code")) (code_begins chunks (header_of fields)) (Err (stops.Wrong whys.Keyword)) (told_code chunks (header_of fields)) (told_wrong whys.Keyword))

told_filled : (closed : List FileChunk) (id : Id) (payload : List ℕ) (o : Option (List ℕ)) → Tells (filled closed id payload o)
told_filled closed id payload None = told_wrong whys.Hex
told_filled closed id payload (Some row) = told (Filling closed id (payload ++ row))

told_instruction : (closed : List FileChunk) (c : CodeVal) (r : Result Instruction ListingWhy) → Tells (refused_as stops.Wrong r >>= λ i. Ok (Coding closed (coded c i)))
told_instruction closed c (Ok i) = told (Coding closed (coded c i))
told_instruction closed c (Err why) = told_wrong why

told_within : (s : State) (text : List ℕ) → Tells (within s text)
told_within Start text = told_wrong whys.Keyword
told_within Begun text = told_wrong whys.Keyword
told_within (Filling closed id payload) text =
    told_if (length payload % 32 == 0) (filled closed id payload (row_of text)) (Err (stops.Wrong whys.Short)) (told_filled closed id payload (row_of text)) (told_wrong whys.Short)
told_within (Coding closed c) text = told_instruction closed c (instruction_of text)

told_line : (s : State) (line : List ℕ) (o : Option (List ℕ)) → Tells (line_within s line o)
told_line s line None = told_keyword (chunks_of s) (parts_at 32 line)
told_line s line (Some text) = told_within s text

pub never_for_memory : (s : State) (line : List ℕ) → next_line s line ≡ Err stops.NoMemory → ⊥
never_for_memory Start line = told_if (bytes_eq line (codes "beam 1")) (Ok Begun) (Err (stops.Wrong whys.Head)) (told Begun) (told_wrong whys.Head)
never_for_memory Begun line = told_line Begun line (indented_of line)
never_for_memory (Filling closed id payload) line = told_line (Filling closed id payload) line (indented_of line)
never_for_memory (Coding closed c) line = told_line (Coding closed c) line (indented_of line)
