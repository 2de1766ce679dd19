-- A reading whose refusals show the number of their line.
use Rattle.std.proofs.Common.{◌≡◌, ℕ, suc, ◌+◌, List, [], ◌∷◌, ◌++◌, length, Result, Ok, Err, refl, ap, ◌∙◌, inl, inr, arith}
use Rattle.bk_codec.specs.Reading.{refused_as}
use Rattle.bk_codec.proofs.Steps.{bind_ok, bind_err, bind_at_ok, err_is, refused_as_ok}
use Rattle.listing_in.specs.Reading.{after_lines}
use Rattle.listing_in.proofs.Growth.{through}

refused_as_err : {A D E : Type 0} (why : D → E) (r : Result A D) (e : E) → refused_as why r ≡ Err e → (d : D) × (r ≡ Err d) × (why d ≡ e)
refused_as_err why (Ok x) e h = absurd cc
refused_as_err {A} why (Err d) e h = (d, refl, err_is {A = A} (why d) e h)

-- where a reading was refused: at this line, behind those that were read
pub record StopsIn {S L E F : Type 0} (next : S → L → Result S E) (numbered : ℕ → E → F) (n : ℕ) (s : S) (ls : List L) (f : F) : Type 0 where
  pub before : List L
  pub line : L
  pub after : List L
  pub state : S
  pub why : E
  pub parts : ls ≡ before ++ line ∷ after
  pub read : through next s before ≡ Ok state
  pub refused : next state line ≡ Err why
  pub shown : numbered (n + length before) why ≡ f

module _ {S L E F : Type 0} (next : S → L → Result S E) (numbered : ℕ → E → F) where
  pub unnumbered : (n : ℕ) (s t : S) (ls : List L) → after_lines next numbered n s ls ≡ Ok t → through next s ls ≡ Ok t
  unnumbered n s t [] e = let same : s ≡ t = cc in ap (λ (u : S). Ok u) same
  unnumbered n s t (line ∷ ls) e =
      let first = bind_ok (refused_as (numbered n) (next s line)) (λ u. after_lines next numbered (suc n) u ls) t e in
      bind_at_ok (next s line) (λ u. through next u ls) first.0 (refused_as_ok (numbered n) (next s line) first.0 first.1) ∙ unnumbered (suc n) first.0 t ls first.2

  pub with_numbers : (n : ℕ) (s t : S) (ls : List L) → through next s ls ≡ Ok t → after_lines next numbered n s ls ≡ Ok t
  with_numbers n s t [] e = let same : s ≡ t = cc in ap (λ (u : S). Ok u) same
  with_numbers n s t (line ∷ ls) e =
      let first = bind_ok (next s line) (λ u. through next u ls) t e in
      bind_at_ok (refused_as (numbered n) (next s line)) (λ u. after_lines next numbered (suc n) u ls) first.0 (ap (refused_as (numbered n)) first.1)
      ∙ with_numbers (suc n) first.0 t ls first.2

  pub stops_in : (n : ℕ) (s : S) (ls : List L) (f : F) → after_lines next numbered n s ls ≡ Err f → StopsIn next numbered n s ls f
  stops_in n s [] f e = absurd cc
  stops_in n s (line ∷ ls) f e =
      elim (bind_err (refused_as (numbered n) (next s line)) (λ u. after_lines next numbered (suc n) u ls) f e) [
        | inl h ↦
            let here = refused_as_err (numbered n) (next s line) f h in
            let first : n + 0 ≡ n = omega arith in
            record { before = []; line = line; after = ls; state = s; why = here.0; parts = refl; read = refl; refused = here.1; shown = ap (λ (k : ℕ). numbered k here.0) first ∙ here.2 }
        | inr h ↦
            let later = stops_in (suc n) h.0 ls f h.2 in
            let first = refused_as_ok (numbered n) (next s line) h.0 h.1 in
            let place : n + length (line ∷ later.before) ≡ suc n + length later.before = omega arith in
            record {
              before = line ∷ later.before;
              line = later.line;
              after = later.after;
              state = later.state;
              why = later.why;
              parts = ap (λ (xs : List L). line ∷ xs) later.parts;
              read = bind_at_ok (next s line) (λ u. through next u later.before) h.0 first ∙ later.read;
              refused = later.refused;
              shown = ap (λ (k : ℕ). numbered k later.why) place ∙ later.shown;
            }
      ]
