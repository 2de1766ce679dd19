-- A literal as contracts see it: its bytes without where they lie, and the term that they are.
use Rattle.std.specs.Prelude.{ℕ, List, Option, refl}
use Rattle.std.specs.Coded.{Coded, code_by, coded×, coded_list, coded_option, coded_ℕ}
use Rattle.ext_term.specs.contracts.term.Term.{the_row}
use Rattle.ext_term.specs.declared.term.Term.{Term}

-- a literal without where its bytes lie
pub record PlainLiteral : Type 0 where
  pub bytes : List ℕ
  pub term : Option Term

-- a literal is stored as the pair of its bytes and its term
abbrev pub literal_code : Coded PlainLiteral
literal_code =
    code_by (List ℕ × Option Term) (coded× (coded_list coded_ℕ) (coded_option the_row.coded)) (λ l. (l.bytes, l.term)) (λ p. record { bytes = p.0; term = p.1 }) (λ _. refl)
