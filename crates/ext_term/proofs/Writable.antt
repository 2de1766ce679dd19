-- Which terms can be written, by their parts; and what a term that can be written says of its parts.
use Rattle.std.proofs.Common.{◌≡◌, ℕ, zero, suc, ◌^◌, ◌<◌, ◌≤◌, Bool, false, List, length, map, All, sym, subst, ◌∙◌, inl, inr}
use Rattle.std.proofs.lemmas.Bool.{false≢true}
use Rattle.ext_term.specs.declared.term.Term.{Term, out-Term}
use Rattle.ext_term.specs.declared.term.Term.TheOpen.{Term-F}
use Rattle.ext_term.specs.declared.term.Term.TheVariants as terms
use Rattle.ext_term.specs.Writing.{term_written, is_string, FitsName, IsString, FitsBy, IsWritable, CanBeWritten}
use Rattle.ext_term.proofs.Strings.{string_is}

-- ---- by the parts

by_layer : (n : ℕ) (t : Term) (f : Term-F Term) → out-Term t ≡ f → FitsBy n (IsWritable n) f → IsWritable (suc n) t
unfolding IsWritable
by_layer n t f is fits = subst (λ (g : Term-F Term). FitsBy n (IsWritable n) g) (sym is) fits

pub writable_int : (n : ℕ) (neg : Bool) (mag : ℕ) → (mag ≡ 0 → neg ≡ false) → IsWritable (suc n) (terms.Int neg mag)
writable_int n neg mag sign = by_layer n _ (Term-F.Int neg mag) (terms.outs-Int neg mag) sign

pub writable_wide : (n : ℕ) (neg : Bool) (mag : List ℕ) → 17 ≤ length mag → length mag < 2 ^ 32 → IsWritable (suc n) (terms.Wide neg mag)
writable_wide n neg mag long short = by_layer n _ (Term-F.Wide neg mag) (terms.outs-Wide neg mag) (long, short)

pub writable_atom : (n : ℕ) (name : List ℕ) → FitsName name → IsWritable (suc n) (terms.Atom name)
writable_atom n name short = by_layer n _ (Term-F.Atom name) (terms.outs-Atom name) short

pub writable_tuple : (n : ℕ) (items : List Term) → length items < 2 ^ 32 → All (IsWritable n) items → IsWritable (suc n) (terms.Tuple items)
writable_tuple n items few each = by_layer n _ (Term-F.Tuple items) (terms.outs-Tuple items) (few, each)

pub writable_nil : (n : ℕ) → IsWritable (suc n) terms.Nil
writable_nil n = by_layer n _ Term-F.Nil terms.outs-Nil tt

pub writable_list : (n : ℕ) (items : List Term) (tail : Term) → length items < 2 ^ 32 → All (IsWritable n) items → IsWritable n tail → IsWritable (suc n) (terms.List items tail)
writable_list n items tail few each last = by_layer n _ (Term-F.List items tail) (terms.outs-List items tail) (inr (few, each, last))

pub writable_string : (n : ℕ) (items : List Term) (tail : Term) → IsString items tail → IsWritable (suc n) (terms.List items tail)
writable_string n items tail string = by_layer n _ (Term-F.List items tail) (terms.outs-List items tail) (inl string)

pub writable_binary : (n : ℕ) (bytes : List ℕ) → length bytes < 2 ^ 32 → IsWritable (suc n) (terms.Binary bytes)
writable_binary n bytes short = by_layer n _ (Term-F.Binary bytes) (terms.outs-Binary bytes) short

pub writable_bits : (n : ℕ) (bytes : List ℕ) (last : ℕ) → 1 ≤ length bytes → length bytes < 2 ^ 32 → 1 ≤ last → last ≤ 8 → IsWritable (suc n) (terms.Bits bytes last)
writable_bits n bytes last some few low high = by_layer n _ (Term-F.Bits bytes last) (terms.outs-Bits bytes last) (some, few, low, high)

pub writable_map : (n : ℕ) (pairs : List (Term × Term)) → length pairs < 2 ^ 32 → All (λ pair. IsWritable n pair.0 × IsWritable n pair.1) pairs → IsWritable (suc n) (terms.Map pairs)
writable_map n pairs few each = by_layer n _ (Term-F.Map pairs) (terms.outs-Map pairs) (few, each)

pub writable_export : (n : ℕ) (m f : List ℕ) (arity : ℕ) → FitsName m → FitsName f → 1 ≤ n → IsWritable (suc n) (terms.Export m f arity)
writable_export n m f arity owner name deep = by_layer n _ (Term-F.Export m f arity) (terms.outs-Export m f arity) (owner, name, deep)

-- ---- what it says of the parts

opened : (levels : ℕ) (t : Term) → IsWritable levels t → (n : ℕ) × FitsBy n (IsWritable n) (out-Term t)
unfolding IsWritable
opened zero t is = absurd is
opened (suc n) t is = (n, is)

parts : (t u : Term) (f : Term-F Term) → t ≡ u → out-Term u ≡ f → CanBeWritten t → (n : ℕ) × FitsBy n (IsWritable n) f
parts t u f is out can =
    let v = subst CanBeWritten is can in
    let o = opened v.levels u v.is in
    (o.0, subst (λ (g : Term-F Term). FitsBy o.0 (IsWritable o.0) g) out o.1)

each : (n : ℕ) (items : List Term) → All (IsWritable n) items → All CanBeWritten items
each n items are k d lt = record { levels = n; is = are k d lt }

pub can_wide : (t : Term) (neg : Bool) (mag s : List ℕ) → t ≡ terms.Wide neg mag → s ≡ mag → CanBeWritten t → length s < 2 ^ 32
can_wide t neg mag s is same can = rw same (parts t _ (Term-F.Wide neg mag) is (terms.outs-Wide neg mag) can).1.1

pub can_atom : (t : Term) (name s : List ℕ) → t ≡ terms.Atom name → s ≡ name → CanBeWritten t → length s < 65536
can_atom t name s is same can = rw same (parts t _ (Term-F.Atom name) is (terms.outs-Atom name) can).1

pub can_binary : (t : Term) (bytes s : List ℕ) → t ≡ terms.Binary bytes → s ≡ bytes → CanBeWritten t → length s < 2 ^ 32
can_binary t bytes s is same can = rw same (parts t _ (Term-F.Binary bytes) is (terms.outs-Binary bytes) can).1

pub can_bits : (t : Term) (bytes : List ℕ) (last : ℕ) (s : List ℕ) → t ≡ terms.Bits bytes last → s ≡ bytes → CanBeWritten t → length s < 2 ^ 32
can_bits t bytes last s is same can = rw same (parts t _ (Term-F.Bits bytes last) is (terms.outs-Bits bytes last) can).1.1

pub can_export : (t : Term) (m f : List ℕ) (arity : ℕ) → t ≡ terms.Export m f arity → CanBeWritten t → (length m < 65536) × (length f < 65536)
can_export t m f arity is can = let p = parts t _ (Term-F.Export m f arity) is (terms.outs-Export m f arity) can in (p.1.0, p.1.1)

pub can_tuple : (t : Term) (items : List Term) → t ≡ terms.Tuple items → CanBeWritten t → (length items < 2 ^ 32) × All CanBeWritten items
can_tuple t items is can = let p = parts t _ (Term-F.Tuple items) is (terms.outs-Tuple items) can in (p.1.0, each p.0 items p.1.1)

pub can_map : (t : Term) (pairs : List (Term × Term)) → t ≡ terms.Map pairs → CanBeWritten t → (length pairs < 2 ^ 32) × All (λ pair. CanBeWritten pair.0 × CanBeWritten pair.1) pairs
can_map t pairs is can =
    let p = parts t _ (Term-F.Map pairs) is (terms.outs-Map pairs) can in
    (p.1.0, λ k d lt. (record { levels = p.0; is = (p.1.1 k d lt).0 }, record { levels = p.0; is = (p.1.1 k d lt).1 }))

-- a list that isn't written as bytes
pub can_list : (t : Term) (items : List Term) (tail : Term) → t ≡ terms.List items tail → is_string (map term_written items) (term_written tail) ≡ false → CanBeWritten t
    → (length items < 2 ^ 32) × All CanBeWritten items × CanBeWritten tail
can_list t items tail is general can =
    let p = parts t _ (Term-F.List items tail) is (terms.outs-List items tail) can in
    elim p.1 [
      | inl string ↦ absurd (false≢true (sym general ∙ string_is items tail string))
      | inr fits ↦ (fits.0, each p.0 items fits.1, record { levels = p.0; is = fits.2 })
    ]
