-- Raw lines that are read as lines: what is kept of them without comments, where none of them holds a newline.
use Rattle.std.proofs.Common.{◌≡◌, ℕ, ◌==◌, true, false, cond, List, [], ◌∷◌, ◌++◌, map, All, refl, sym, ap, ◌∙◌, append_assoc}
use Rattle.std.proofs.lemmas.Bool.{and_from, and_parts, cond-true, cond-false, not-true}
use Rattle.std.proofs.lemmas.List.{append-nil, map-append}
use Rattle.std.proofs.lemmas.List.Elements.{All-cons, All-nil, filter-append}
use Rattle.std.proofs.lemmas.List.Splits.{slice_split_at}
use Rattle.std.specs.Prelude.{codes}
use Rattle.std.specs.List.{AllByRecursion, filter, flat_map, list_all}
use Rattle.bk_parse.proofs.Passing.{passes_append}
use Rattle.listing_out.specs.Lines.{text_of}
use Rattle.listing_out.specs.Listing.{bare, before_line, has_text, kept, raw_lines, trimmed, uncommented}
use Rattle.listing_out.proofs.Clean.{IsClean, ends, is_inline, is_line_byte}

-- ---- a line without its comment

uncommented_front : (line comment : List ℕ) → list_all is_line_byte line ≡ true → uncommented (line ++ comment) ≡ line ++ uncommented comment
uncommented_front [] comment h = refl
uncommented_front (b ∷ line) comment h =
    let parts = and_parts (is_line_byte b) (list_all is_line_byte line) h in
    let other : (b == 59) ≡ false = not-true (b == 59) (and_parts _ _ parts.0).1 in
    cond-false (b == 59) [] (b ∷ uncommented (line ++ comment)) other ∙ ap (λ (t : List ℕ). b ∷ t) (uncommented_front line comment parts.1)

trimmed_front : (line spaces : List ℕ) → ends line ≡ true → trimmed spaces ≡ [] → trimmed (line ++ spaces) ≡ line
trimmed_front [] spaces h none = none
trimmed_front (b ∷ []) spaces h none = ap (before_line b) none ∙ cond-false (b == 32) [] (b ∷ []) (not-true (b == 32) h)
trimmed_front (b ∷ c ∷ line) spaces h none = ap (before_line b) (trimmed_front (c ∷ line) spaces h none)

-- a clean line, behind which stands nothing but spaces and a comment
pub bare_front : (line comment : List ℕ) → IsClean line → trimmed (uncommented comment) ≡ [] → bare (line ++ comment) ≡ line
bare_front line comment clean none = ap trimmed (uncommented_front line comment clean.bytes) ∙ trimmed_front line (uncommented comment) clean.ended none

pub bare_clean : (line : List ℕ) → IsClean line → bare line ≡ line
bare_clean line clean = ap bare (sym (append-nil line)) ∙ bare_front line [] clean refl

-- ---- what is kept of raw lines

-- the raw lines are read as these lines
pub record IsReadAs (raw ls : List (List ℕ)) : Type 0 where
  pub kept_are : kept raw ≡ ls
  pub inline : list_all (list_all is_inline) raw ≡ true

pub none_read : IsReadAs [] []
none_read = record { kept_are = refl; inline = refl }

pub line_read : (raw line : List ℕ) (raws ls : List (List ℕ)) → bare raw ≡ line → has_text line ≡ true → list_all is_inline raw ≡ true → IsReadAs raws ls → IsReadAs (raw ∷ raws) (line ∷ ls)
line_read raw line raws ls is some inline others = record {
  kept_are =
      ap (λ (t : List ℕ). cond (has_text t) (t ∷ kept raws) (kept raws)) is ∙ cond-true (has_text line) (line ∷ kept raws) (kept raws) some
      ∙ ap (λ (t : List (List ℕ)). line ∷ t) others.kept_are;
  inline = and_from (list_all is_inline raw) (list_all (list_all is_inline) raws) inline others.inline;
}

kept-append : (a b : List (List ℕ)) → kept (a ++ b) ≡ kept a ++ kept b
kept-append a b = ap (filter has_text) (map-append bare a b) ∙ filter-append has_text (map bare a) (map bare b)

pub read_joined : (a b x y : List (List ℕ)) → IsReadAs a x → IsReadAs b y → IsReadAs (a ++ b) (x ++ y)
read_joined a b x y front back = record {
  kept_are = kept-append a b ∙ ap (λ (t : List (List ℕ)). t ++ kept b) front.kept_are ∙ ap (λ (t : List (List ℕ)). x ++ t) back.kept_are;
  inline = passes_append (list_all is_inline) a b front.inline back.inline;
}

-- a list of things, of which each has its raw lines
pub all_read : {A : Type 0} (raw ls : A → List (List ℕ)) (Is : A → Type 0) → ((x : A) → Is x → IsReadAs (raw x) (ls x))
    → (xs : List A) → AllByRecursion Is xs → IsReadAs (flat_map raw xs) (flat_map ls xs)
all_read raw ls Is each [] are = none_read
all_read raw ls Is each (x ∷ xs) are = read_joined (raw x) (flat_map raw xs) (ls x) (flat_map ls xs) (each x are.0) (all_read raw ls Is each xs are.1)

-- ---- the text of raw lines

inline_all : (line : List ℕ) → list_all is_inline line ≡ true → All (λ b. (b == 10) ≡ false) line
inline_all [] h = All-nil (λ (b : ℕ). (b == 10) ≡ false)
inline_all (b ∷ line) h =
    let parts = and_parts (is_inline b) (list_all is_inline line) h in
    All-cons (λ (b : ℕ). (b == 10) ≡ false) b line (not-true (b == 10) parts.0) (inline_all line parts.1)

raw_lines_of_text : (raw : List (List ℕ)) → list_all (list_all is_inline) raw ≡ true → raw_lines (text_of raw) ≡ raw ++ [] ∷ []
raw_lines_of_text [] h = refl
raw_lines_of_text (line ∷ raw) h =
    let parts = and_parts (list_all is_inline line) (list_all (list_all is_inline) raw) h in
    ap raw_lines (append_assoc line (codes "\n") (text_of raw)) ∙ slice_split_at (λ b. b == 10) line 10 (text_of raw) (inline_all line parts.0) refl
    ∙ ap (λ (t : List (List ℕ)). line ∷ t) (raw_lines_of_text raw parts.1)

-- what is kept of the text's lines
pub text_read : (raw ls : List (List ℕ)) → IsReadAs raw ls → kept (raw_lines (text_of raw)) ≡ ls
text_read raw ls is = ap kept (raw_lines_of_text raw is.inline) ∙ kept-append raw ([] ∷ []) ∙ append-nil (kept raw) ∙ is.kept_are
