-- The lines of a payload grow by a row, and are read row by row.
use Rattle.std.proofs.Common.{◌≡◌, ◌⊎◌, ℕ, zero, suc, ◌+◌, ◌-◌, ◌*◌, ◌/◌, ◌%◌, ◌<◌, ◌≤◌, min, cond, List, [], ◌∷◌, ◌++◌, length, take, drop, Some, None, Ok, Err, refl, sym, ap, subst, ◌∙◌, inl, inr, arith, append_assoc, append-nil, length-append, take-append-drop, length-take, length-drop, lt-ltb, le-leb, eq-eqb}
use Rattle.std.specs.Prelude.{codes, nat_le, ◌&&◌, Bool, Option}
use Rattle.std.specs.Option.{option_and_then}
use Rattle.std.proofs.lemmas.Bool.Decides.{leb_tells}
use Rattle.std.proofs.lemmas.List.{nil_from_length}
use Rattle.hex.specs.Hex.{encode_lower}
use Rattle.bk_codec.specs.Spelling.{IsBytes}
use Rattle.bk_codec.proofs.Agreement.{IsBytes-drop, IsBytes-front}
use Rattle.bk_codec.proofs.Steps.{bind_at_ok}
use Rattle.bk_parse.specs.HexBytes.{bytes_of}
use Rattle.bk_parse.specs.Inverse.{Inverts}
use Rattle.iff_form.specs.declared.id.Id.{Id}
use Rattle.beam_module.specs.File.{FileChunk}
use Rattle.listing_out.specs.Lines.{payload_lines}
use Rattle.listing_in.specs.declared.stop.LineStop.TheVariants as stops
use Rattle.listing_in.specs.declared.refusal.ListingWhy.TheVariants as whys
use Rattle.listing_in.specs.State.{Filling}
use Rattle.listing_in.specs.Step.{filled, next_line, row_of, row_with}
use Rattle.listing_in.proofs.Growth.{through}

abbrev pub row_line : List ℕ → List ℕ
row_line row = codes "  " ++ encode_lower row

-- the line of the first row, and then those of the bytes behind it
abbrev pub RowsGrow : Type 0
RowsGrow = (all row rest : List ℕ) → all ≡ row ++ rest → length row ≡ min 32 (length all) → 0 < length all → payload_lines all ≡ (codes "  " ++ encode_lower row) ∷ payload_lines rest

pub IsBytes-append : (front back : List ℕ) → IsBytes front → IsBytes back → IsBytes (front ++ back)
IsBytes-append [] back first second i = second i
IsBytes-append (b ∷ front) back first second zero = first zero
IsBytes-append (b ∷ front) back first second (suc i) = IsBytes-append front back (λ j. first (suc j)) second i

-- ---- the lines of one row more

module _ (rows : RowsGrow) where
  row_alone : (row : List ℕ) → 0 < length row → length row ≤ 32 → payload_lines row ≡ row_line row ∷ []
  row_alone row some few = rows row row [] (sym (append-nil row)) (omega arith) some

  rows_added : (k : ℕ) (p d : List ℕ) → length p ≡ 32 * k → 0 < length d → length d ≤ 32 → payload_lines (p ++ d) ≡ payload_lines p ++ row_line d ∷ []
  rows_added zero p d full some few =
      let none : p ≡ [] = nil_from_length p (omega arith) in
      ap (λ (bytes : List ℕ). payload_lines (bytes ++ d)) none ∙ row_alone d some few ∙ ap (λ (bytes : List ℕ). payload_lines bytes ++ row_line d ∷ []) (sym none)
  rows_added (suc k) p d full some few =
      let parts : p ≡ take 32 p ++ drop 32 p = sym (take-append-drop 32 p) in
      let size : length (take 32 p) ≡ 32 = omega (arith, length-take 32 p) in
      let left : length (drop 32 p) ≡ 32 * k = omega (arith, length-drop 32 p) in
      let both = length-append p d in
      rows (p ++ d) (take 32 p) (drop 32 p ++ d) (ap (λ (bytes : List ℕ). bytes ++ d) parts ∙ append_assoc (take 32 p) (drop 32 p) d) (omega arith) (omega arith)
      ∙ ap (λ (ls : List (List ℕ)). row_line (take 32 p) ∷ ls) (rows_added k (drop 32 p) d left some few)
      ∙ ap (λ (ls : List (List ℕ)). ls ++ row_line d ∷ []) (sym (rows p (take 32 p) (drop 32 p) parts (omega arith) (omega arith)))

  pub row_added : (p d : List ℕ) → length p % 32 ≡ 0 → 0 < length d → length d ≤ 32 → payload_lines (p ++ d) ≡ payload_lines p ++ row_line d ∷ []
  row_added p d full some few = rows_added (length p / 32) p d (omega arith) some few

-- ---- rows that are read

row_passes : (row : List ℕ) → 0 < length row → length row ≤ 32 → row_with row ≡ Some row
row_passes row some few =
    ap (λ (b : Bool). cond (b && nat_le (length row) 32) (Some row) None) (lt-ltb 0 (length row) some) ∙ ap (λ (b : Bool). cond b (Some row) None) (le-leb (length row) 32 few)

pub row_read : (closed : List FileChunk) (id : Id) (q row text : List ℕ) → bytes_of text ≡ Some row → length q % 32 ≡ 0 → 0 < length row → length row ≤ 32
    → next_line (Filling closed id q) (codes "  " ++ text) ≡ Ok (Filling closed id (q ++ row))
row_read closed id q row text read full some few =
    ap (λ (b : Bool). cond b (filled closed id q (row_of text)) (Err (stops.Wrong whys.Short))) (eq-eqb (length q % 32) 0 full)
    ∙ ap (λ (o : Option (List ℕ)). filled closed id q (option_and_then row_with o)) read
    ∙ ap (filled closed id q) (row_passes row some few)

-- none are left, or the row was full
next_full : (all before row rest now : ℕ) → row ≡ min 32 all → rest ≡ all - 32 → before % 32 ≡ 0 → now ≡ before + row → (rest ≡ 0) ⊎ (now % 32 ≡ 0)
next_full all before row rest now size left full joined =
    elim (leb_tells all 32) [
      | inl few ↦ inl (let h : all ≤ 32 = few.1 in omega arith)
      | inr more ↦ inr (let h : 32 < all = more.1 in omega arith)
    ]

module _ (rows : RowsGrow) (hex : Inverts bytes_of IsBytes encode_lower) where
  rows_read : (k : ℕ) (closed : List FileChunk) (id : Id) (q r : List ℕ) → length r ≤ 32 * k → IsBytes r → (length r ≡ 0) ⊎ (length q % 32 ≡ 0)
      → through next_line (Filling closed id q) (payload_lines r) ≡ Ok (Filling closed id (q ++ r))
  rows_read k closed id q [] few fit full = ap (λ (bytes : List ℕ). Ok (Filling closed id bytes)) (sym (append-nil q))
  rows_read zero closed id q (b ∷ bytes) few fit full = absurd (omega arith)
  rows_read (suc k) closed id q (b ∷ bytes) few fit full =
      let r : List ℕ = b ∷ bytes in
      let row : List ℕ = take 32 r in
      let rest : List ℕ = drop 32 r in
      let parts : r ≡ row ++ rest = sym (take-append-drop 32 r) in
      let long : 0 < length r = omega arith in
      let size : length row ≡ min 32 (length r) = length-take 32 r in
      let left : length rest ≡ length r - 32 = length-drop 32 r in
      let whole : length q % 32 ≡ 0 = elim full [ inl none ↦ absurd (omega arith) | inr h ↦ h ] in
      let first : next_line (Filling closed id q) (row_line row) ≡ Ok (Filling closed id (q ++ row)) =
      row_read closed id q row (encode_lower row) (hex.only row (IsBytes-front row rest (subst IsBytes parts fit))) whole (omega arith) (omega arith) in
      let joined = length-append q row in
      let next : (length rest ≡ 0) ⊎ (length (q ++ row) % 32 ≡ 0) = next_full (length r) (length q) (length row) (length rest) (length (q ++ row)) size left whole joined in
      ap (through next_line (Filling closed id q)) (rows r row rest parts size long)
      ∙ bind_at_ok (next_line (Filling closed id q) (row_line row)) (λ s. through next_line s (payload_lines rest)) (Filling closed id (q ++ row)) first
      ∙ rows_read k closed id (q ++ row) rest (omega arith) (IsBytes-drop 32 r fit) next
      ∙ ap (λ (bytes : List ℕ). Ok (Filling closed id bytes)) (append_assoc q row rest ∙ ap (λ (bytes : List ℕ). q ++ bytes) (sym parts))

  pub payload_read : (closed : List FileChunk) (id : Id) (p : List ℕ) → IsBytes p → through next_line (Filling closed id []) (payload_lines p) ≡ Ok (Filling closed id p)
  payload_read closed id p fit = rows_read (length p) closed id [] p (omega arith) fit (inr refl)
