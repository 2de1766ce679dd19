-- The text of a term.
use Rattle.std.specs.Prelude.{ℕ, ◌+◌, ◌*◌, ◌-◌, List, [], ◌++◌, length, reverse, Bool, if◌then◌else◌, codes, decimal}
use Rattle.std.specs.List.{join_by}
use Rattle.hex.specs.Hex.{encode_lower}
use Rattle.ext_term.specs.Name.{name_text}
use Rattle.ext_term.specs.declared.term.Term.{Term, fold-Term}
use Rattle.ext_term.specs.declared.term.Term.TheOpen.{Term-F}

-- the texts of a term: alone, and as the tail behind the items of a list
pub record TermTexts : Type 0 where
  pub alone : List ℕ
  pub as_tail : List ℕ

-- the texts of values, with a comma between each two
abbrev pub commas : {A : Type 0} → (A → List ℕ) → List A → List ℕ
commas text xs = join_by text (codes ",") xs

abbrev pub sign : Bool → List ℕ
sign neg = if neg then codes "-" else []

-- as an item, or behind other items
abbrev pub texts : List ℕ → TermTexts
texts text = record { alone = text; as_tail = codes "|" ++ text }

abbrev pub layer_texts : Term-F TermTexts → TermTexts
layer_texts (Term-F.Int neg mag) = texts (sign neg ++ decimal mag)
layer_texts (Term-F.Wide neg mag) = texts (sign neg ++ codes "16#" ++ encode_lower (reverse mag))
layer_texts (Term-F.Atom name) = texts (name_text name)
layer_texts (Term-F.Tuple items) = texts (codes "{" ++ commas (λ x. x.alone) items ++ codes "}")
layer_texts Term-F.Nil = record { alone = codes "[]"; as_tail = [] }
layer_texts (Term-F.List items tail) = texts (codes "[" ++ commas (λ x. x.alone) items ++ tail.as_tail ++ codes "]")
layer_texts (Term-F.Binary bytes) = texts (codes "<<" ++ encode_lower bytes ++ codes ">>")
layer_texts (Term-F.Bits bytes last) = texts (codes "<<" ++ encode_lower bytes ++ codes "/" ++ decimal (8 * length bytes + last - 8) ++ codes ">>")
layer_texts (Term-F.Map pairs) = texts (codes "#{" ++ commas (λ p. p.0.alone ++ codes "=>" ++ p.1.alone) pairs ++ codes "}")
layer_texts (Term-F.Export m name arity) = texts (codes "fun " ++ name_text m ++ codes ":" ++ name_text name ++ codes "/" ++ decimal arity)

unfoldable pub term_texts : Term → TermTexts
term_texts t = fold-Term TermTexts layer_texts t

-- the text of a term
unfoldable pub term_text : Term → List ℕ
term_text t = (term_texts t).alone

-- the text of a key and its value
abbrev pub pair_text : Term × Term → List ℕ
pair_text p = term_text p.0 ++ codes "=>" ++ term_text p.1
