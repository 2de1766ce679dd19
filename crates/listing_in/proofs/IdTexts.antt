-- Ids are read back from their texts.
use Rattle.std.proofs.Common.{◌≡◌, ◌≢◌, ℕ, ◌==◌, Bool, true, false, not, cond, ◌&&◌, List, [], ◌∷◌, ◌++◌, length, Some, None, refl, sym, ap, subst, ◌∙◌, arith, inl, inr, eqb-true, eq-eqb, ne_eqb}
use Rattle.std.specs.Prelude.{codes}
use Rattle.std.specs.Char.{is_ascii_alphanumeric}
use Rattle.std.specs.List.{list_all}
use Rattle.std.specs.Option.{option_and_then}
use Rattle.std.proofs.lemmas.Bool.{and_parts, and_from, cases_Bool, cond_both, false≢true}
use Rattle.std.proofs.lemmas.List.Elements.{All-cons}
use Rattle.std.proofs.lemmas.Option.{cond_some, none-some}
use Rattle.hex.specs.Hex.{encode_lower}
use Rattle.bk_codec.specs.Spelling.{IsBytes}
use Rattle.bk_codec.proofs.Steps.{chosen}
use Rattle.bk_parse.specs.HexBytes.{bytes_of}
use Rattle.bk_parse.specs.Inverse.{Inverts}
use Rattle.bk_parse.specs.Parts.{Lacks}
use Rattle.bk_parse.proofs.Options.{then_some}
use Rattle.bk_parse.proofs.Passing.{lacks_from}
use Rattle.iff_form.specs.declared.id.Id.{Id}
use Rattle.iff_form.specs.Text.{id_text, is_plain_id}
use Rattle.listing_in.specs.Ids.{IsFourBytes, id_of, id_with, other_id, plain_id}
use Rattle.listing_in.proofs.TextBytes.{alphanumeric_small, bytes_from, hex_lacks}

-- ---- what is read

not_true : (b : Bool) → not b ≡ true → b ≡ false
not_true true e = absurd (false≢true e)
not_true false e = refl

plain_found : (t : List ℕ) (x : Id) → plain_id t ≡ Some x → IsFourBytes x × (id_text x ≡ t)
plain_found t x e =
    let read = cond_some ((length t == 4) && is_plain_id (id_with t)) (id_with t) x e in
    let tests = and_parts (length t == 4) (is_plain_id (id_with t)) read.0 in
    subst (λ (y : Id). IsFourBytes y × (id_text y ≡ t)) read.1
    ((eqb-true (length t) 4 tests.0, bytes_from is_ascii_alphanumeric alphanumeric_small t tests.1), ap (λ (b : Bool). cond b t (codes "#" ++ encode_lower t)) tests.1)

other_found : (bytes : List ℕ) (x : Id) → IsBytes bytes → other_id bytes ≡ Some x → IsFourBytes x × (id_text x ≡ codes "#" ++ encode_lower bytes)
other_found bytes x fit e =
    let read = cond_some ((length bytes == 4) && not (is_plain_id (id_with bytes))) (id_with bytes) x e in
    let tests = and_parts (length bytes == 4) (not (is_plain_id (id_with bytes))) read.0 in
    let other : is_plain_id (id_with bytes) ≡ false = not_true (is_plain_id (id_with bytes)) tests.1 in
    subst (λ (y : Id). IsFourBytes y × (id_text y ≡ codes "#" ++ encode_lower bytes)) read.1
    ((eqb-true (length bytes) 4 tests.0, fit), ap (λ (b : Bool). cond b bytes (codes "#" ++ encode_lower bytes)) other)

module _ (hex : Inverts bytes_of IsBytes encode_lower) where
  found : (t : List ℕ) (x : Id) → id_of t ≡ Some x → IsFourBytes x × (id_text x ≡ t)
  found [] x e = absurd (none-some x e)
  found (mark ∷ text) x e =
      elim (chosen (mark == 35) (option_and_then other_id (bytes_of text)) (plain_id (mark ∷ text)) (Some x) e) [
        | inl h ↦
            let read = then_some other_id (bytes_of text) x h.1 in
            let bytes = hex.found text read.0 read.1 in
            let is = other_found read.0 x bytes.0 read.2 in
            let first : 35 ≡ mark = sym (eqb-true mark 35 h.0) in
            (is.0, is.1 ∙ ap (λ (digits : List ℕ). 35 ∷ digits) bytes.1 ∙ ap (λ (b : ℕ). b ∷ text) first)
        | inr h ↦ plain_found (mark ∷ text) x h.1
      ]

  -- ---- what is written

  plain_read : (t : List ℕ) → length t ≡ 4 → is_plain_id (id_with t) ≡ true → id_of t ≡ Some (id_with t)
  plain_read [] four plain = absurd (omega arith)
  plain_read (mark ∷ text) four plain =
      let first = and_parts (is_ascii_alphanumeric mark) (list_all is_ascii_alphanumeric text) plain in
      let letter : (mark == 35) ≡ false = ne_eqb mark 35 (λ is. false≢true (sym (ap is_ascii_alphanumeric is) ∙ first.0)) in
      let tests : ((length (mark ∷ text) == 4) && is_plain_id (id_with (mark ∷ text))) ≡ true = and_from (length (mark ∷ text) == 4) (is_plain_id (id_with (mark ∷ text))) (eq-eqb (length (mark ∷ text)) 4 four) plain in
      ap (λ (b : Bool). cond b (option_and_then other_id (bytes_of text)) (plain_id (mark ∷ text))) letter
      ∙ ap (λ (b : Bool). cond b (Some (id_with (mark ∷ text))) None) tests

  other_read : (x : Id) → IsFourBytes x → is_plain_id x ≡ false → id_of (codes "#" ++ encode_lower x.0) ≡ Some x
  other_read x is other =
      let tests : ((length x.0 == 4) && not (is_plain_id x)) ≡ true = and_from (length x.0 == 4) (not (is_plain_id x)) (eq-eqb (length x.0) 4 is.0) (ap not other) in
      ap (option_and_then other_id) (hex.only x.0 is.1) ∙ ap (λ (b : Bool). cond b (Some x) None) tests

  only : (x : Id) → IsFourBytes x → id_of (id_text x) ≡ Some x
  only x is =
      elim (cases_Bool (is_plain_id x)) [
        | inl plain ↦ ap (λ (b : Bool). id_of (cond b x.0 (codes "#" ++ encode_lower x.0))) plain ∙ plain_read x.0 is.0 plain
        | inr other ↦ ap (λ (b : Bool). id_of (cond b x.0 (codes "#" ++ encode_lower x.0))) other ∙ other_read x is other
      ]

  pub ids_invert : Inverts id_of IsFourBytes id_text
  ids_invert = record { found = found; only = only }

-- ---- no space stands in their texts

pub id_lacks : (x : Id) → IsFourBytes x → Lacks 32 (id_text x)
id_lacks x is =
    let digits = encode_lower x.0 in
    cond_both (is_plain_id x) x.0 (codes "#" ++ digits) (Lacks 32) (λ plain. lacks_from is_ascii_alphanumeric 32 x.0 refl plain)
    (λ other. All-cons (λ b. b ≢ 32) 35 digits (λ same. omega (arith, same)) (hex_lacks x.0 is.1))
