-- The fields of a line of code are read back.
use Rattle.std.proofs.Common.{◌≡◌, ℕ, ◌^◌, ◌<◌, ◌≤◌, Bool, false, cond, List, [], ◌∷◌, length, Some, refl, sym, ap, subst, ◌∙◌, arith, inl, inr}
use Rattle.std.specs.Prelude.{◌==◌, codes, decimal, bytes_eq}
use Rattle.std.specs.List.{AllByRecursion}
use Rattle.std.specs.Option.{option_map, option_and_then}
use Rattle.std.proofs.lemmas.Bool.{false_from_ne_true}
use Rattle.std.proofs.lemmas.List.Elements.{All-nil}
use Rattle.std.proofs.lemmas.Option.{none-some, same_Some}
use Rattle.std.proofs.lemmas.Slice.Eq.{bytes_eq-Decides}
use Rattle.hex.specs.Hex.{encode_lower, encode_with}
use Rattle.bk_codec.specs.Spelling.{IsBytes}
use Rattle.bk_codec.proofs.Steps.{chosen}
use Rattle.bk_parse.specs.HexBytes.{bytes_of}
use Rattle.bk_parse.specs.Inverse.{Inverts}
use Rattle.bk_parse.specs.Numbers.{number_of}
use Rattle.bk_parse.specs.Parts.{Lacks}
use Rattle.bk_parse.proofs.Options.{map_some, then_some}
use Rattle.bk_parse.proofs.Passing.{lacks_from}
use Rattle.code_chunk.specs.declared.code.CodeVal.{CodeVal}
use Rattle.listing_out.specs.Lines.{extra_text}
use Rattle.listing_out.specs.Listable.{CodeIsListed, InstrIsListed}
use Rattle.listing_in.specs.Header.{begun_with, extra_of, header_fields, header_of, some_bytes, word_of}
use Rattle.listing_in.proofs.TextBytes.{decimal_lacks, hex_lacks, no_bytes}

four_same : {X : Type 0} (a b c d e f g h : X) → e ≡ a → f ≡ b → g ≡ c → h ≡ d → a ∷ b ∷ c ∷ d ∷ [] ≡ e ∷ f ∷ g ∷ h ∷ []
four_same a b c d e f g h p q r s = cc

-- ---- the extra bytes

some_found : (bytes extra : List ℕ) → some_bytes bytes ≡ Some extra → (extra ≡ bytes) × (extra_text extra ≡ encode_lower bytes)
some_found [] extra e = absurd (none-some extra e)
some_found (b ∷ bytes) extra e = let same : b ∷ bytes ≡ extra = same_Some (b ∷ bytes) extra e in (sym same, ap extra_text (sym same))

-- digits of a byte are no dash
no_dash : (b : ℕ) (bytes : List ℕ) → IsBytes (b ∷ bytes) → bytes_eq (encode_lower (b ∷ bytes)) (codes "-") ≡ false
unfolding encode_with
no_dash b bytes fit =
    false_from_ne_true (bytes_eq (encode_lower (b ∷ bytes)) (codes "-")) (λ is.
    let same = (bytes_eq-Decides (encode_lower (b ∷ bytes)) (codes "-")).0 is in
    let size = ap length same in
    omega (arith, size))

module _ (hex : Inverts bytes_of IsBytes encode_lower) where
  extra_found : (t extra : List ℕ) → extra_of t ≡ Some extra → IsBytes extra × (extra_text extra ≡ t)
  extra_found t extra e =
      elim (chosen (bytes_eq t (codes "-")) (Some []) (option_and_then some_bytes (bytes_of t)) (Some extra) e) [
        | inl h ↦
            let none : [] ≡ extra = same_Some [] extra h.1 in
            (subst IsBytes none no_bytes, ap extra_text (sym none) ∙ sym ((bytes_eq-Decides t (codes "-")).0 h.0))
        | inr h ↦
            let read = then_some some_bytes (bytes_of t) extra h.1 in
            let bytes = hex.found t read.0 read.1 in
            let some = some_found read.0 extra read.2 in
            (subst IsBytes (sym some.0) bytes.0, some.1 ∙ bytes.1)
      ]

  extra_only : (extra : List ℕ) → IsBytes extra → extra_of (extra_text extra) ≡ Some extra
  extra_only [] fit = refl
  extra_only (b ∷ bytes) fit =
      ap (λ (t : Bool). cond t (Some []) (option_and_then some_bytes (bytes_of (encode_lower (b ∷ bytes))))) (no_dash b bytes fit)
      ∙ ap (option_and_then some_bytes) (hex.only (b ∷ bytes) fit)

  -- ---- all fields

  module _ (numbers : (limit : ℕ) → limit ≤ 10 ^ 64 → Inverts (number_of limit) (λ n. n < limit) decimal) where
    words : Inverts word_of (λ n. n < 2 ^ 32) decimal
    words = numbers (2 ^ 32) (omega arith)

    fields_found : (a b c d : List ℕ) (code : CodeVal) → header_of (a ∷ b ∷ c ∷ d ∷ []) ≡ Some code → CodeIsListed code × (code.instrs ≡ []) × (a ∷ b ∷ c ∷ d ∷ [] ≡ header_fields code)
    fields_found a b c d code e =
        let max_op = then_some (λ m. option_and_then (λ l. option_and_then (λ f. option_map (begun_with m l f) (extra_of d)) (word_of c)) (word_of b)) (word_of a) code e in
        let labels = then_some (λ l. option_and_then (λ f. option_map (begun_with max_op.0 l f) (extra_of d)) (word_of c)) (word_of b) code max_op.2 in
        let functions = then_some (λ f. option_map (begun_with max_op.0 labels.0 f) (extra_of d)) (word_of c) code labels.2 in
        let extra = map_some (begun_with max_op.0 labels.0 functions.0) (extra_of d) code functions.2 in
        let first = words.found a max_op.0 max_op.1 in
        let second = words.found b labels.0 labels.1 in
        let third = words.found c functions.0 functions.1 in
        let last = extra_found d extra.0 extra.1 in
        let fields : a ∷ b ∷ c ∷ d ∷ [] ≡ header_fields (begun_with max_op.0 labels.0 functions.0 extra.0) =
        four_same a b c d (decimal max_op.0) (decimal labels.0) (decimal functions.0) (extra_text extra.0) first.1 second.1 third.1 last.1 in
        let listed : CodeIsListed (begun_with max_op.0 labels.0 functions.0 extra.0) = record { extra = last.0; max_op = first.0; labels = second.0; functions = third.0; instrs = All-nil InstrIsListed } in
        subst (λ (x : CodeVal). CodeIsListed x × (x.instrs ≡ []) × (a ∷ b ∷ c ∷ d ∷ [] ≡ header_fields x)) extra.2 (listed, refl, fields)

    pub header_found : (fields : List (List ℕ)) (c : CodeVal) → header_of fields ≡ Some c → CodeIsListed c × (c.instrs ≡ []) × (fields ≡ header_fields c)
    header_found [] c e = absurd (none-some c e)
    header_found (a ∷ []) c e = absurd (none-some c e)
    header_found (a ∷ b ∷ []) c e = absurd (none-some c e)
    header_found (a ∷ b ∷ d ∷ []) c e = absurd (none-some c e)
    header_found (x ∷ y ∷ z ∷ w ∷ []) c e = fields_found x y z w c e
    header_found (x ∷ y ∷ z ∷ w ∷ v ∷ more) c e = absurd (none-some c e)

    pub header_only : (c : CodeVal) → CodeIsListed c → header_of (header_fields c) ≡ Some (begun_with c.max_op c.labels c.functions c.extra)
    header_only c is =
        ap (option_and_then (λ m. option_and_then (λ l. option_and_then (λ f. option_map (begun_with m l f) (extra_of (extra_text c.extra))) (word_of (decimal c.functions))) (word_of (decimal c.labels)))) (words.only c.max_op is.max_op)
        ∙ ap (option_and_then (λ l. option_and_then (λ f. option_map (begun_with c.max_op l f) (extra_of (extra_text c.extra))) (word_of (decimal c.functions)))) (words.only c.labels is.labels)
        ∙ ap (option_and_then (λ f. option_map (begun_with c.max_op c.labels f) (extra_of (extra_text c.extra)))) (words.only c.functions is.functions)
        ∙ ap (option_map (begun_with c.max_op c.labels c.functions)) (extra_only c.extra is.extra)

-- ---- no space stands in their texts

extra_lacks : (extra : List ℕ) → IsBytes extra → Lacks 32 (extra_text extra)
extra_lacks [] fit = lacks_from (λ b. b == 45) 32 (codes "-") refl refl
extra_lacks (b ∷ bytes) fit = hex_lacks (b ∷ bytes) fit

pub header_lacks : (c : CodeVal) → CodeIsListed c → AllByRecursion (Lacks 32) (header_fields c)
header_lacks c is = (decimal_lacks c.max_op, (decimal_lacks c.labels, (decimal_lacks c.functions, (extra_lacks c.extra is.extra, tt))))
