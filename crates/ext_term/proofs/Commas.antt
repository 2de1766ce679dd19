-- Texts with commas between them, and how they grow by one.
use Rattle.std.proofs.Common.{◌≡◌, ℕ, zero, suc, ◌+◌, ◌<◌, ◌==◌, if◌then◌else◌, false, List, [], ◌∷◌, ◌++◌, length, get_or, take, map, refl, sym, ap, ◌∙◌, append_assoc, arith, rules}
use Rattle.std.specs.Prelude.{codes}
use Rattle.std.specs.List.{flat_map}
use Rattle.std.proofs.lemmas.List.{append-nil, take_more, flat_map_more}
use Rattle.std.proofs.lemmas.List.Folds.{flat_map-map}
use Rattle.ext_term.specs.Text.{TermTexts, layer_texts, commas, term_texts, term_text, pair_text}
use Rattle.ext_term.specs.declared.term.Term.{Term}
use Rattle.ext_term.specs.declared.term.Term.TheFolds.{fold-roll-Term}
use Rattle.ext_term.specs.declared.term.Term.TheOpen.{Term-F}
use Rattle.ext_term.specs.declared.term.Term.TheVariants as terms
use Rattle.ext_term.specs.declared.term.Term.TheVariants.{rolls-Tuple, rolls-List, rolls-Map}

-- the texts of what a function makes of values
commas-map : {A B : Type 0} (text : B → List ℕ) (f : A → B) (xs : List A) → commas text (map f xs) ≡ commas (λ x. text (f x)) xs
commas-map text f [] = refl
commas-map text f (x ∷ xs) = ap (λ (t : List ℕ). text (f x) ++ t) (flat_map-map (λ y. codes "," ++ text y) f xs)

-- ---- the texts of terms with terms in them

pub tuple_text : (items : List Term) → term_text (terms.Tuple items) ≡ codes "{" ++ commas term_text items ++ codes "}"
unfolding term_text term_texts
tuple_text items =
    ap term_text (sym (rolls-Tuple items)) ∙ ap (λ (x : TermTexts). x.alone) (fold-roll-Term TermTexts layer_texts (Term-F.Tuple items))
    ∙ ap (λ (t : List ℕ). codes "{" ++ t ++ codes "}") (commas-map (λ x. x.alone) term_texts items)

pub list_text : (items : List Term) (tail : Term) → term_text (terms.List items tail) ≡ codes "[" ++ commas term_text items ++ (term_texts tail).as_tail ++ codes "]"
unfolding term_text term_texts
list_text items tail =
    ap term_text (sym (rolls-List items tail)) ∙ ap (λ (x : TermTexts). x.alone) (fold-roll-Term TermTexts layer_texts (Term-F.List items tail))
    ∙ ap (λ (t : List ℕ). codes "[" ++ t ++ (term_texts tail).as_tail ++ codes "]") (commas-map (λ x. x.alone) term_texts items)

pub map_text : (pairs : List (Term × Term)) → term_text (terms.Map pairs) ≡ codes "#{" ++ commas pair_text pairs ++ codes "}"
unfolding term_text term_texts
map_text pairs =
    ap term_text (sym (rolls-Map pairs)) ∙ ap (λ (x : TermTexts). x.alone) (fold-roll-Term TermTexts layer_texts (Term-F.Map pairs))
    ∙ ap (λ (t : List ℕ). codes "#{" ++ t ++ codes "}") (commas-map (λ p. p.0.alone ++ codes "=>" ++ p.1.alone) (λ p. (term_texts p.0, term_texts p.1)) pairs)

-- ---- commas

-- what stands before value i
abbrev comma : ℕ → List ℕ
comma i = if i == 0 then [] else codes ","

-- value i is put behind those before it
commas-more : {A : Type 0} (text : A → List ℕ) (xs : List A) (i : ℕ) (d : A) → i < length xs
    → commas text (take (i + 1) xs) ≡ commas text (take i xs) ++ comma i ++ text (get_or xs i d)
commas-more text [] i d lt = absurd (omega arith)
commas-more text (x ∷ xs) zero d lt = append-nil (text x)
commas-more text (x ∷ xs) (suc i) d lt =
    let other : (suc i == 0) ≡ false = search rules in
    let next : suc i + 1 ≡ suc (i + 1) = omega arith in
    let put = λ (y : _). codes "," ++ text y in
    ap (λ (n : ℕ). commas text (take n (x ∷ xs))) next
    ∙ ap (λ (ys : List _). text x ++ flat_map put ys) (take_more xs i d (omega arith))
    ∙ sym (flat_map_more put (text x) (take i xs) (get_or xs i d))
    ∙ rw other (sym (append_assoc (text x ++ flat_map put (take i xs)) (codes ",") (text (get_or xs i d))))

-- after the texts before it, value i was put with what stands before it
pub commas_put : {A : Type 0} (text : A → List ℕ) (xs : List A) (i : ℕ) (x : A) (start old more new : List ℕ)
    → i < length xs → x ≡ get_or xs i x → old ≡ start ++ commas text (take i xs) → more ≡ old ++ comma i → new ≡ more ++ text x
    → new ≡ start ++ commas text (take (i + 1) xs)
commas_put text xs i x start old more new lt item before behind written =
    written
    ∙ ap (λ (t : List ℕ). t ++ text x) (behind ∙ ap (λ (t : List ℕ). t ++ comma i) before)
    ∙ ap (λ (y : _). start ++ commas text (take i xs) ++ comma i ++ text y) item
    ∙ ap (λ (t : List ℕ). t ++ text (get_or xs i x)) (append_assoc start (commas text (take i xs)) (comma i))
    ∙ append_assoc start (commas text (take i xs) ++ comma i) (text (get_or xs i x))
    ∙ ap (λ (t : List ℕ). start ++ t) (sym (commas-more text xs i x lt))
