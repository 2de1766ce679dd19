-- What was read from the front of bytes.
use Rattle.std.proofs.Common.{◌≡◌, ℕ, ◌-◌, ◌≤◌, List, ◌++◌, length, drop, Ok, sym, ap, subst, ◌∙◌, arith, length-append, ◌+◌, inl, inr}
use Rattle.std.proofs.lemmas.List.{append_cancel_right, drop_at}
use Rattle.bk_codec.specs.Exact.{Begins}
use Rattle.bk_codec.specs.Reading.{Fails}
use Rattle.bk_codec.specs.Spelling.{IsBytes}
use Rattle.bk_codec.proofs.Agreement.{IsBytes-front, one_form}
use Rattle.compact_term.specs.declared.refusal.OperandRefusal.{OperandRefusal}
use Rattle.compact_term.specs.declared.refusal.OperandRefusal.TheVariants.{NoMemory}
use Rattle.compact_term.specs.declared.operand.Operand.{Operand}
use Rattle.compact_term.specs.Spelling.{Spells}
use Rattle.compact_term.specs.Operand.{MeetsType, IsProper}
use Rattle.compact_term.specs.Reading.{operand_at}
use Rattle.compact_term.proofs.Operands.{operand_agrees}
use Rattle.compact_term.proofs.Proper.{operand_meets_type, operand_proper}

-- an operand was read, and this is left
pub record WasRead (o : Operand) (bytes rest : List ℕ) : Type 0 where
  pub begins : Begins (Spells o) bytes rest
  pub proper : IsProper o
  pub meets_type : MeetsType o
  pub shorter : length rest ≤ length bytes
  pub left : rest ≡ drop (length bytes - length rest) bytes

pub was_read : (bytes : List ℕ) (o : Operand) (rest : List ℕ) → IsBytes bytes → operand_at bytes ≡ Ok (o, rest) → WasRead o bytes rest
was_read bytes o rest fits e =
    let took = operand_agrees.takes bytes o rest fits e in
    let lengths : length bytes ≡ length took.text + length rest = ap length took.joined ∙ length-append took.text rest in
    record {
      begins = record { text = took.text; is = took.is; joined = took.joined };
      proper = operand_proper o took.text took.is;
      meets_type = operand_meets_type o took.text (IsBytes-front took.text rest (subst IsBytes took.joined fits)) took.is;
      shorter = omega arith;
      left = sym (ap (drop (length bytes - length rest)) took.joined ∙ drop_at took.text rest (length bytes - length rest) (omega arith));
    }

-- a front that is spelled is the one that was read
pub same_operand : (o p : Operand) (text more bytes rest : List ℕ) → Begins (Spells p) bytes rest → Spells o text → bytes ≡ text ++ more → p ≡ o
same_operand o p text more bytes rest begins spelt is = (one_form operand_agrees p o begins.text text rest more begins.is spelt (sym begins.joined ∙ is)).0

-- where a front is spelled, only memory is wanting
pub only_memory : (o : Operand) (text more bytes : List ℕ) (e : OperandRefusal) → Fails NoMemory e (operand_at bytes) → Spells o text → bytes ≡ text ++ more → e ≡ NoMemory
only_memory o text more bytes e (inl none) spelt is = none
only_memory o text more bytes e (inr refused) spelt is =
    let read : operand_at bytes ≡ Ok (o, more) = ap operand_at is ∙ operand_agrees.again o text more spelt in
    absurd cc

-- no spelling begins another
pub one_operand : (a b x y : List ℕ) (o p : Operand) → Spells o a → Spells p b → a ++ x ≡ b ++ y → (a ≡ b) × (o ≡ p)
one_operand a b x y o p is_o is_p same =
    let f = one_form operand_agrees o p a b x y is_o is_p same in
    (append_cancel_right a b y (ap (λ (z : List ℕ). a ++ z) (sym f.1) ∙ same), f.0)
