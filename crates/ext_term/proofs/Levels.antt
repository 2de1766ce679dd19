-- A reading by levels, in one equation.
use Rattle.std.proofs.Common.{◌≡◌, ℕ, zero, suc, ◌-◌, ◌==◌, false, List, [], ◌∷◌, length, Result, refl, arith}
use Rattle.std.proofs.lemmas.Bool.{ne_eqb}
use Rattle.bk_codec.specs.Reading.{◌>>=◌}
use Rattle.ext_term.specs.declared.term.Term.{Term}
use Rattle.ext_term.specs.declared.refusal.TermRefusal.{TermRefusal}
use Rattle.ext_term.specs.Reading.{tag_at, tagged_at, term_at}

abbrev pub term_by : ℕ → ℕ → List ℕ → Result (Term × List ℕ) TermRefusal
term_by end levels bytes = tag_at end levels bytes >>= λ tag. tagged_at end (levels - 1) (term_at end (levels - 1)) (end - length bytes) tag.0 tag.1

pub term_at-is : (end levels : ℕ) (bytes : List ℕ) → term_at end levels bytes ≡ term_by end levels bytes
unfolding term_at tag_at
term_at-is end zero [] = refl
term_at-is end zero (b ∷ bytes) = refl
term_at-is end (suc levels) [] = refl
term_at-is end (suc levels) (b ∷ bytes) =
    let more : (suc levels == 0) ≡ false = ne_eqb (suc levels) 0 (λ e. omega (arith, e)) in
    let less : suc levels - 1 ≡ levels = omega arith in
    rw (more, less) refl
