-- A text grows by a line at a time.
use Rattle.std.proofs.Common.{◌≡◌, ℕ, zero, suc, ◌+◌, ◌<◌, List, [], ◌∷◌, ◌++◌, length, get_or, take, refl, sym, ap, subst, ◌∙◌, append_assoc, arith}
use Rattle.std.proofs.lemmas.List.{append-nil}
use Rattle.std.specs.List.{flat_map}
use Rattle.bk_text.specs.Lines.{numbered_lines}

pub lines_more : {A : Type 0} (first : ℕ) (line : ℕ → A → List ℕ) (xs : List A) (i : ℕ) (d : A) → i < length xs
    → numbered_lines first line (take (i + 1) xs) ≡ numbered_lines first line (take i xs) ++ line (first + i) (get_or xs i d)
lines_more first line [] i d lt = absurd (omega arith)
lines_more first line (x ∷ xs) zero d lt =
    let number : first ≡ first + 0 = omega arith in
    append-nil (line first x) ∙ ap (λ (n : ℕ). line n x) number
lines_more first line (x ∷ xs) (suc i) d lt =
    let next : suc i + 1 ≡ suc (i + 1) = omega arith in
    let number : first + 1 + i ≡ first + suc i = omega arith in
    ap (λ (n : ℕ). numbered_lines first line (take n (x ∷ xs))) next
    ∙ ap (λ (t : List ℕ). line first x ++ t) (lines_more (first + 1) line xs i d (omega arith))
    ∙ sym (append_assoc (line first x) (numbered_lines (first + 1) line (take i xs)) (line (first + 1 + i) (get_or xs i d)))
    ∙ ap (λ (n : ℕ). line first x ++ numbered_lines (first + 1) line (take i xs) ++ line n (get_or xs i d)) number

-- one line more was written behind the old text: that of item i, whose number is k
pub line_written : {A : Type 0} (first : ℕ) (line : ℕ → A → List ℕ) (xs items : List A) (i k : ℕ) (x d : A) (text old new : List ℕ)
    → i < length items → items ≡ xs → x ≡ get_or items i d → k ≡ first + i → old ≡ text ++ numbered_lines first line (take i xs) → new ≡ old ++ line k x
    → new ≡ text ++ numbered_lines first line (take (i + 1) xs)
line_written first line xs items i k x d text old new lt same item number before written =
    let item_is : x ≡ get_or xs i d = item ∙ ap (λ (ys : List _). get_or ys i d) same in
    let inside : i < length xs = subst (λ (ys : List _). i < length ys) same lt in
    written
    ∙ ap (λ (t : List ℕ). t ++ line k x) before
    ∙ append_assoc text (numbered_lines first line (take i xs)) (line k x)
    ∙ ap (λ (y : _). text ++ (numbered_lines first line (take i xs) ++ line k y)) item_is
    ∙ ap (λ (n : ℕ). text ++ (numbered_lines first line (take i xs) ++ line n (get_or xs i d))) number
    ∙ ap (λ (t : List ℕ). text ++ t) (sym (lines_more first line xs i d inside))

-- lines that show no number
pub lines-plain : {A : Type 0} (first : ℕ) (line : A → List ℕ) (xs : List A) → numbered_lines first (λ _ x. line x) xs ≡ flat_map line xs
lines-plain first line [] = refl
lines-plain first line (x ∷ xs) = ap (λ (t : List ℕ). line x ++ t) (lines-plain (first + 1) line xs)
