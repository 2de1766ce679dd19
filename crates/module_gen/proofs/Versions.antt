-- The attributes of a generated module can be written.
use Rattle.std.proofs.Common.{◌≡◌, ℕ, suc, false, List, [], ◌∷◌, All, codes, refl, sym, subst, arith, inr}
use Rattle.std.proofs.lemmas.List.Elements.{All-nil, All-cons}
use Rattle.ext_term.specs.declared.term.Term.{Term, out-Term}
use Rattle.ext_term.specs.declared.term.Term.TheOpen.{Term-F}
use Rattle.ext_term.specs.declared.term.Term.TheVariants as terms
use Rattle.ext_term.specs.Writing.{FitsBy, IsWritable}
use Rattle.module_gen.specs.Generated.{versions}

by_parts : (n : ℕ) (t : Term) (f : Term-F Term) → out-Term t ≡ f → FitsBy n (IsWritable n) f → IsWritable (suc n) t
unfolding IsWritable
by_parts n t f is fits = subst (λ (g : Term-F Term). FitsBy n (IsWritable n) g) (sym is) fits

one : (P : Term → Type 0) (t : Term) → P t → All P (t ∷ [])
one P t is = All-cons P t [] is (All-nil P)

-- the list of one term
list_writable : (n : ℕ) (t : Term) → IsWritable (suc n) t → IsWritable (suc (suc n)) (terms.List (t ∷ []) terms.Nil)
list_writable n t is =
    by_parts (suc n) _ (Term-F.List (t ∷ []) terms.Nil) (terms.outs-List (t ∷ []) terms.Nil) (inr (omega arith, one (IsWritable (suc n)) t is, by_parts n _ Term-F.Nil terms.outs-Nil tt))

pub versions_writable : (n : ℕ) → IsWritable 256 (versions n)
versions_writable n =
    let number : IsWritable 253 (terms.Int false n) = by_parts 252 _ (Term-F.Int false n) (terms.outs-Int false n) (λ e. refl) in
    let name : IsWritable 254 (terms.Atom (codes "vsn")) = by_parts 253 _ (Term-F.Atom (codes "vsn")) (terms.outs-Atom (codes "vsn")) (omega arith) in
    let pair : List Term = terms.Atom (codes "vsn") ∷ terms.List (terms.Int false n ∷ []) terms.Nil ∷ [] in
    let parts : All (IsWritable 254) pair = All-cons (IsWritable 254) (terms.Atom (codes "vsn")) (terms.List (terms.Int false n ∷ []) terms.Nil ∷ []) name (one (IsWritable 254) (terms.List (terms.Int false n ∷ []) terms.Nil) (list_writable 252 (terms.Int false n) number)) in
    list_writable 254 (terms.Tuple pair) (by_parts 254 (terms.Tuple pair) (Term-F.Tuple pair) (terms.outs-Tuple pair) (omega arith, parts))
