-- Operands that hold no others are read back.
use Rattle.std.proofs.Common.{◌≡◌, ℕ, ◌^◌, ◌<◌, ◌≤◌, Bool, true, false, ◌||◌, nat_le, eqb, cond, List, [], ◌∷◌, ◌++◌, length, drop, get_or, Option, Some, None, option_map, option_and_then, codes, decimal, refl, sym, ap, ◌∙◌, arith, append_assoc, inl, inr}
use Rattle.std.proofs.lemmas.Bool.{eqb-true, ne_eqb, cond-true, cond-false, leb-true, le-leb, or_right}
use Rattle.std.proofs.lemmas.Bool.Decides.{nat_tests}
use Rattle.std.proofs.lemmas.Option.{same_Some}
use Rattle.std.specs.Char.{is_ascii_digit}
use Rattle.std.specs.Int.{is_in_range}
use Rattle.std.specs.List.{list_all, join_with_byte}
use Rattle.hex.specs.Hex.{encode_lower}
use Rattle.bk_codec.proofs.Steps.{chosen}
use Rattle.bk_codec.specs.Spelling.{IsBytes}
use Rattle.bk_parse.specs.Inverse.{Inverts}
use Rattle.bk_parse.specs.Parts.{Lacks, parts_at}
use Rattle.bk_parse.specs.Numbers.{number_of, signed_of}
use Rattle.bk_parse.specs.HexBytes.{bytes_of}
use Rattle.bk_parse.proofs.Options.{map_some, then_some}
use Rattle.bk_parse.proofs.Numerals.{number_inverts, first_digit}
use Rattle.bk_parse.proofs.Signed.{signed_inverts}
use Rattle.bk_parse.proofs.HexPairs.{bytes_invert}
use Rattle.bk_parse.proofs.Splitting.{one_part, first_part, joined_parts}
use Rattle.bk_parse.proofs.Passing.{lacks_from, passes_weaker, decimal_passes}
use Rattle.compact_term.specs.Operand.{RegMeetsType}
use Rattle.compact_term.specs.declared.operand.Reg.{Reg}
use Rattle.compact_term.specs.declared.operand.Reg.TheVariants as regs
use Rattle.compact_term.specs.declared.operand.Plain.{Plain}
use Rattle.compact_term.specs.declared.operand.Plain.TheVariants as plains
use Rattle.operand_text.specs.Listed.{PlainIsListed}
use Rattle.operand_text.specs.Operand.{register_text, plain_text}
use Rattle.operand_text.specs.Reading.{register_of, plain_register, register_in, label_or_float, wide_of, plain_of}

-- ---- behind a mark

word : Inverts (number_of (2 ^ 32)) (λ n. n < 2 ^ 32) decimal
word = number_inverts (2 ^ 32) (omega arith)

long : Inverts (number_of (2 ^ 64)) (λ n. n < 2 ^ 64) decimal
long = number_inverts (2 ^ 64) (omega arith)

-- what is read behind a mark has the mark before its text
marked : {A B : Type 0} {read : List ℕ → Option A} {Is : A → Type 0} {text : A → List ℕ} → Inverts read Is text → (make : A → B) (IsMade : B → Type 0) (made_text : B → List ℕ) (m : ℕ)
    → ((x : A) → Is x → IsMade (make x)) → ((x : A) → made_text (make x) ≡ m ∷ text x)
    → (mark : ℕ) (t : List ℕ) (y : B) → eqb mark m ≡ true → option_map make (read t) ≡ Some y → IsMade y × (made_text y ≡ mark ∷ t)
marked {read = read} inverse make IsMade made_text m is_made text_is mark t y test e =
    let x = map_some make (read t) y e in
    let facts = inverse.found t x.0 x.1 in
    let same : m ≡ mark = sym (eqb-true mark m test) in
    rw (← x.2) (is_made x.0 facts.0, text_is x.0 ∙ ap (λ (rest : List ℕ). m ∷ rest) facts.1 ∙ ap (λ (b : ℕ). b ∷ t) same)

-- ---- registers

register_found : (t : List ℕ) (r : Reg) → register_of t ≡ Some r → RegMeetsType r × (register_text r ≡ t)
register_found [] r e = absurd cc
register_found (mark ∷ t) r e =
    elim (chosen (eqb mark 120) (option_map regs.X (number_of (2 ^ 32) t)) (cond (eqb mark 121) (option_map regs.Y (number_of (2 ^ 32) t)) None) (Some r) e) [
      | inl x ↦ marked word regs.X RegMeetsType register_text 120 (λ n h. h) (λ n. refl) mark t r x.0 x.1
      | inr other ↦
          elim (chosen (eqb mark 121) (option_map regs.Y (number_of (2 ^ 32) t)) None (Some r) other.1) [
            | inl y ↦ marked word regs.Y RegMeetsType register_text 121 (λ n h. h) (λ n. refl) mark t r y.0 y.1
            | inr none ↦ absurd (let h = none.1 in cc)
          ]
    ]

register_back : (r : Reg) → RegMeetsType r → register_of (register_text r) ≡ Some r
register_back (regs.X n) h = ap (option_map regs.X) (word.only n h)
register_back (regs.Y n) h = ap (option_map regs.Y) (word.only n h)

-- no text of a register or a number holds a slash

pub decimal_lacks : (c n : ℕ) → is_ascii_digit c ≡ false → Lacks c (decimal n)
decimal_lacks c n fails = lacks_from is_ascii_digit c (decimal n) fails (decimal_passes n)

abbrev is_register_byte : ℕ → Bool
is_register_byte b = is_in_range 120 121 b || is_ascii_digit b

decimal_in_register : (n : ℕ) → list_all is_register_byte (decimal n) ≡ true
decimal_in_register n = passes_weaker is_ascii_digit is_register_byte (λ b digit. or_right (is_in_range 120 121 b) (is_ascii_digit b) digit) (decimal n) (decimal_passes n)

register_lacks : (r : Reg) → Lacks 47 (register_text r)
register_lacks (regs.X n) = lacks_from is_register_byte 47 (120 ∷ decimal n) refl (decimal_in_register n)
register_lacks (regs.Y n) = lacks_from is_register_byte 47 (121 ∷ decimal n) refl (decimal_in_register n)

plain_register_found : (r : Reg) → RegMeetsType r → PlainIsListed (plain_register r) × (plain_text (plain_register r) ≡ register_text r)
plain_register_found (regs.X n) h = ((h, tt), refl)
plain_register_found (regs.Y n) h = ((h, tt), refl)

parts_found : (parts : List (List ℕ)) (p : Plain) → register_in parts ≡ Some p → PlainIsListed p × (plain_text p ≡ join_with_byte 47 parts)
parts_found [] p e = absurd cc
parts_found (register ∷ []) p e =
    let r = map_some plain_register (register_of register) p e in
    let facts = register_found register r.0 r.1 in
    let made = plain_register_found r.0 facts.0 in
    rw (← r.2) (made.0, made.1 ∙ facts.1)
parts_found (register ∷ type ∷ []) p e =
    let r = then_some (λ r. option_map (plains.Typed r) (number_of (2 ^ 64) type)) (register_of register) p e in
    let n = map_some (plains.Typed r.0) (number_of (2 ^ 64) type) p r.2 in
    let facts = register_found register r.0 r.1 in
    let number = long.found type n.0 n.1 in
    rw (← n.2) (
      ((facts.0, number.0), tt),
      append_assoc (register_text r.0) (codes "/") (decimal n.0) ∙ ap (λ (t : List ℕ). t ++ (47 ∷ decimal n.0)) facts.1 ∙ ap (λ (t : List ℕ). register ++ (47 ∷ t)) number.1,
    )
parts_found (register ∷ type ∷ more ∷ parts) p e = absurd cc

register_in_found : (t : List ℕ) (p : Plain) → register_in (parts_at 47 t) ≡ Some p → PlainIsListed p × (plain_text p ≡ t)
register_in_found t p e =
    let facts = parts_found (parts_at 47 t) p e in
    (facts.0, facts.1 ∙ joined_parts 47 t)

register_alone : (r : Reg) → RegMeetsType r → register_in (parts_at 47 (register_text r)) ≡ Some (plain_register r)
register_alone r h = ap register_in (one_part 47 (register_text r) (register_lacks r)) ∙ ap (option_map plain_register) (register_back r h)

typed_back : (r : Reg) (n : ℕ) → RegMeetsType r → n < 2 ^ 64 → register_in (parts_at 47 (register_text r ++ codes "/" ++ decimal n)) ≡ Some (plains.Typed r n)
typed_back r n h small =
    ap (λ (t : List ℕ). register_in (parts_at 47 t)) (append_assoc (register_text r) (codes "/") (decimal n))
    ∙ ap register_in (first_part 47 (register_text r) (decimal n) (register_lacks r) ∙ ap (λ (ps : List (List ℕ)). register_text r ∷ ps) (one_part 47 (decimal n) (decimal_lacks 47 n refl)))
    ∙ ap (option_and_then (λ r. option_map (plains.Typed r) (number_of (2 ^ 64) (decimal n)))) (register_back r h)
    ∙ ap (option_map (plains.Typed r)) (long.only n small)

-- ---- labels and float registers

begins_with : (m : ℕ) (t : List ℕ) → 0 < m → get_or t 0 0 ≡ m → t ≡ m ∷ drop 1 t
begins_with m [] some e = absurd (omega arith)
begins_with m (c ∷ t) some e = ap (λ (b : ℕ). b ∷ t) e

float_found : (t : List ℕ) (p : Plain) → eqb (get_or t 0 0) 114 ≡ true → option_map plains.Fr (number_of (2 ^ 64) (drop 1 t)) ≡ Some p → PlainIsListed p × (plain_text p ≡ 102 ∷ t)
float_found t p test e =
    let n = map_some plains.Fr (number_of (2 ^ 64) (drop 1 t)) p e in
    let facts = long.found (drop 1 t) n.0 n.1 in
    let whole : 114 ∷ drop 1 t ≡ t = sym (begins_with 114 t (omega arith) (eqb-true (get_or t 0 0) 114 test)) in
    rw (← n.2) ((facts.0, tt), ap (λ (rest : List ℕ). 102 ∷ 114 ∷ rest) facts.1 ∙ ap (λ (rest : List ℕ). 102 ∷ rest) whole)

label_or_float_found : (mark : ℕ) (t : List ℕ) (p : Plain) → eqb mark 102 ≡ true → label_or_float t ≡ Some p → PlainIsListed p × (plain_text p ≡ mark ∷ t)
label_or_float_found mark t p test e =
    elim (chosen (eqb (get_or t 0 0) 114) (option_map plains.Fr (number_of (2 ^ 64) (drop 1 t))) (option_map plains.F (number_of (2 ^ 32) t)) (Some p) e) [
      | inl float ↦ let facts = float_found t p float.0 float.1 in (facts.0, facts.1 ∙ ap (λ (b : ℕ). b ∷ t) (sym (eqb-true mark 102 test)))
      | inr label ↦ marked word plains.F PlainIsListed plain_text 102 (λ n h. (h, tt)) (λ n. refl) mark t p test label.1
    ]

label_back : (n : ℕ) → n < 2 ^ 32 → label_or_float (decimal n) ≡ Some (plains.F n)
label_back n small =
    let read = word.only n small in
    let digit = first_digit (2 ^ 32) n (decimal n) read in
    let other : eqb (get_or (decimal n) 0 0) 114 ≡ false = ne_eqb (get_or (decimal n) 0 0) 114 (λ is. grind (arith, nat_tests)) in
    cond-false (eqb (get_or (decimal n) 0 0) 114) (option_map plains.Fr (number_of (2 ^ 64) (drop 1 (decimal n)))) (option_map plains.F (number_of (2 ^ 32) (decimal n))) other
    ∙ ap (option_map plains.F) read

-- ---- wide integers

wide_is : (bytes : List ℕ) (p : Plain) → IsBytes bytes → wide_of bytes ≡ Some p → PlainIsListed p × (plain_text p ≡ 119 ∷ encode_lower bytes)
wide_is bytes p h e =
    elim (chosen (nat_le 17 (length bytes)) (Some (plains.Wide bytes)) None (Some p) e) [
      | inl wide ↦
          let same : plains.Wide bytes ≡ p = same_Some (plains.Wide bytes) p wide.1 in
          let length : 17 ≤ length bytes = leb-true 17 (length bytes) wide.0 in
          rw (← same) ((h, length), refl)
      | inr none ↦ absurd (let h = none.1 in cc)
    ]

wide_found : (mark : ℕ) (t : List ℕ) (p : Plain) → eqb mark 119 ≡ true → option_and_then wide_of (bytes_of t) ≡ Some p → PlainIsListed p × (plain_text p ≡ mark ∷ t)
wide_found mark t p test e =
    let bytes = then_some wide_of (bytes_of t) p e in
    let read = bytes_invert.found t bytes.0 bytes.1 in
    let facts = wide_is bytes.0 p read.0 bytes.2 in
    (facts.0, facts.1 ∙ ap (λ (rest : List ℕ). 119 ∷ rest) read.1 ∙ ap (λ (b : ℕ). b ∷ t) (sym (eqb-true mark 119 test)))

wide_back : (bytes : List ℕ) → IsBytes bytes → 17 ≤ length bytes → option_and_then wide_of (bytes_of (encode_lower bytes)) ≡ Some (plains.Wide bytes)
wide_back bytes h long = ap (option_and_then wide_of) (bytes_invert.only bytes h) ∙ cond-true (nat_le 17 (length bytes)) (Some (plains.Wide bytes)) None (le-leb 17 (length bytes) long)

-- ---- all of them

-- what the marks give from the later ones on
abbrev from_l : ℕ → List ℕ → Option Plain
from_l mark t = cond (eqb mark 108) (option_map plains.Lit (number_of (2 ^ 64) t)) (register_in (parts_at 47 (mark ∷ t)))

abbrev from_h : ℕ → List ℕ → Option Plain
from_h mark t = cond (eqb mark 104) (option_map plains.H (number_of (2 ^ 32) t)) (from_l mark t)

abbrev from_f : ℕ → List ℕ → Option Plain
from_f mark t = cond (eqb mark 102) (label_or_float t) (from_h mark t)

abbrev from_a : ℕ → List ℕ → Option Plain
from_a mark t = cond (eqb mark 97) (option_map plains.A (number_of (2 ^ 32) t)) (from_f mark t)

abbrev from_w : ℕ → List ℕ → Option Plain
from_w mark t = cond (eqb mark 119) (option_and_then wide_of (bytes_of t)) (from_a mark t)

abbrev from_i : ℕ → List ℕ → Option Plain
from_i mark t = cond (eqb mark 105) (option_map plains.I (signed_of t)) (from_w mark t)

abbrev Found : List ℕ → Plain → Type 0
Found t p = PlainIsListed p × (plain_text p ≡ t)

found_l : (mark : ℕ) (t : List ℕ) (p : Plain) → from_l mark t ≡ Some p → Found (mark ∷ t) p
found_l mark t p e =
    elim (chosen (eqb mark 108) (option_map plains.Lit (number_of (2 ^ 64) t)) (register_in (parts_at 47 (mark ∷ t))) (Some p) e) [
      | inl here ↦ marked long plains.Lit PlainIsListed plain_text 108 (λ n h. (h, tt)) (λ n. refl) mark t p here.0 here.1
      | inr other ↦ register_in_found (mark ∷ t) p other.1
    ]

found_h : (mark : ℕ) (t : List ℕ) (p : Plain) → from_h mark t ≡ Some p → Found (mark ∷ t) p
found_h mark t p e =
    elim (chosen (eqb mark 104) (option_map plains.H (number_of (2 ^ 32) t)) (from_l mark t) (Some p) e) [
      | inl here ↦ marked word plains.H PlainIsListed plain_text 104 (λ n h. (h, tt)) (λ n. refl) mark t p here.0 here.1
      | inr other ↦ found_l mark t p other.1
    ]

found_f : (mark : ℕ) (t : List ℕ) (p : Plain) → from_f mark t ≡ Some p → Found (mark ∷ t) p
found_f mark t p e =
    elim (chosen (eqb mark 102) (label_or_float t) (from_h mark t) (Some p) e) [
      | inl here ↦ label_or_float_found mark t p here.0 here.1
      | inr other ↦ found_h mark t p other.1
    ]

found_a : (mark : ℕ) (t : List ℕ) (p : Plain) → from_a mark t ≡ Some p → Found (mark ∷ t) p
found_a mark t p e =
    elim (chosen (eqb mark 97) (option_map plains.A (number_of (2 ^ 32) t)) (from_f mark t) (Some p) e) [
      | inl here ↦ marked word plains.A PlainIsListed plain_text 97 (λ n h. (h, tt)) (λ n. refl) mark t p here.0 here.1
      | inr other ↦ found_f mark t p other.1
    ]

found_w : (mark : ℕ) (t : List ℕ) (p : Plain) → from_w mark t ≡ Some p → Found (mark ∷ t) p
found_w mark t p e =
    elim (chosen (eqb mark 119) (option_and_then wide_of (bytes_of t)) (from_a mark t) (Some p) e) [
      | inl here ↦ wide_found mark t p here.0 here.1
      | inr other ↦ found_a mark t p other.1
    ]

found_i : (mark : ℕ) (t : List ℕ) (p : Plain) → from_i mark t ≡ Some p → Found (mark ∷ t) p
found_i mark t p e =
    elim (chosen (eqb mark 105) (option_map plains.I (signed_of t)) (from_w mark t) (Some p) e) [
      | inl here ↦ marked signed_inverts plains.I PlainIsListed plain_text 105 (λ n h. (h, tt)) (λ n. refl) mark t p here.0 here.1
      | inr other ↦ found_w mark t p other.1
    ]

plain_found : (t : List ℕ) (p : Plain) → plain_of t ≡ Some p → Found t p
plain_found [] p e = absurd cc
plain_found (mark ∷ t) p e =
    elim (chosen (eqb mark 117) (option_map plains.U (number_of (2 ^ 64) t)) (from_i mark t) (Some p) e) [
      | inl here ↦ marked long plains.U PlainIsListed plain_text 117 (λ n h. (h, tt)) (λ n. refl) mark t p here.0 here.1
      | inr other ↦ found_i mark t p other.1
    ]

plain_back : (p : Plain) → PlainIsListed p → plain_of (plain_text p) ≡ Some p
plain_back (plains.U n) h = ap (option_map plains.U) (long.only n h.0)
plain_back (plains.I z) h = ap (option_map plains.I) (signed_inverts.only z h.0)
plain_back (plains.Wide bytes) h = wide_back bytes h.0 h.1
plain_back (plains.A n) h = ap (option_map plains.A) (word.only n h.0)
plain_back (plains.X n) h = register_alone (regs.X n) h.0
plain_back (plains.Y n) h = register_alone (regs.Y n) h.0
plain_back (plains.F n) h = label_back n h.0
plain_back (plains.H n) h = ap (option_map plains.H) (word.only n h.0)
plain_back (plains.Fr n) h = ap (option_map plains.Fr) (long.only n h.0)
plain_back (plains.Lit n) h = ap (option_map plains.Lit) (long.only n h.0)
plain_back (plains.Typed (regs.X m) n) h = typed_back (regs.X m) n h.0.0 h.0.1
plain_back (plains.Typed (regs.Y m) n) h = typed_back (regs.Y m) n h.0.0 h.0.1

pub plain_inverts : Inverts plain_of PlainIsListed plain_text
plain_inverts = record { found = plain_found; only = plain_back }
