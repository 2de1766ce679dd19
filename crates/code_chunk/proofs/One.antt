-- Each spelling has one value, and what an answer says of a payload.
use Rattle.std.proofs.Common.{◌≡◌, ◌⊎◌, ℕ, ◌≤◌, List, ◌++◌, Result, Ok, Err, IfOk, IfErr, sym, ap, ◌∙◌, arith, inl, inr}
use Rattle.std.proofs.lemmas.List.{append_cancel_right}
use Rattle.bk_codec.specs.Reading.{Fails, GivesAll}
use Rattle.bk_codec.specs.Exact.{IsExact}
use Rattle.bk_codec.specs.Spelling.{IsBytes}
use Rattle.bk_codec.proofs.Exact.{exact_from}
use Rattle.bk_codec.proofs.Steps.{ok_is}
use Rattle.bk_codec.proofs.Agreement.{one_form}
use Rattle.op_table.specs.Instruction.{Instruction}
use Rattle.code_chunk.specs.declared.code.CodeVal.{CodeVal}
use Rattle.code_chunk.specs.declared.refusal.CodeRefusal.{CodeRefusal}
use Rattle.code_chunk.specs.declared.refusal.CodeRefusal.TheVariants.{NoMemory}
use Rattle.code_chunk.specs.Spelling.{SpellsInstr, SpellsCode}
use Rattle.code_chunk.specs.Stop.{IsStop, IsWrong}
use Rattle.code_chunk.specs.Code.{CodeMeetsType, IsProperCode}
use Rattle.code_chunk.specs.Reading.{code_at}
use Rattle.code_chunk.proofs.Instrs.{instr_agrees}
use Rattle.code_chunk.proofs.Codes.{code_takes, code_again, code_meets_type, code_proper}
use Rattle.code_chunk.proofs.Wrong.{code_wrong}

pub one_instr : (a b x y : List ℕ) (i j : Instruction) → SpellsInstr i a → SpellsInstr j b → a ++ x ≡ b ++ y → (a ≡ b) × (i ≡ j)
one_instr a b x y i j is_i is_j same =
    let f = one_form (instr_agrees 0) i j a b x y is_i is_j same in
    (append_cancel_right a b y (ap (λ (z : List ℕ). a ++ z) (sym f.1) ∙ same), f.0)

pub one_value : (payload : List ℕ) (c d : CodeVal) → SpellsCode c payload → SpellsCode d payload → c ≡ d
one_value payload c d is_c is_d = ok_is {E = CodeRefusal} c d (sym (code_again c payload is_c) ∙ code_again d payload is_d)

pub one_length : (bytes : List ℕ) (m n : ℕ) → IsStop m bytes → IsStop n bytes → m ≡ n
one_length bytes m n is_m is_n =
    let up : m ≤ n = is_n.longest m is_m.within is_m.whole in
    let down : n ≤ m = is_m.longest n is_n.within is_n.whole in
    omega arith

pub code_is_exact : IsExact code_at SpellsCode
code_is_exact = exact_from code_takes (λ payload c. code_again c payload)

-- where a payload is spelled, only memory is wanting
pub only_memory : (payload : List ℕ) (c : CodeVal) (e : CodeRefusal) → SpellsCode c payload → Fails NoMemory e (code_at payload) → e ≡ NoMemory
only_memory payload c e is (inl none) = none
only_memory payload c e is (inr refused) = let read = code_again c payload is in absurd cc

-- ---- what an answer says

pub answer_found : (payload : List ℕ) (r : Result CodeVal CodeRefusal) → IsBytes payload → GivesAll NoMemory (λ c. c) r (code_at payload) → IfOk r (λ c. SpellsCode c payload)
answer_found payload (Ok c) fits read = code_takes payload c fits read
answer_found payload (Err e) fits read = tt

pub answer_proper : (payload : List ℕ) (r : Result CodeVal CodeRefusal) → IsBytes payload → GivesAll NoMemory (λ c. c) r (code_at payload) → IfOk r IsProperCode
answer_proper payload (Ok c) fits read = code_proper c payload fits (code_takes payload c fits read)
answer_proper payload (Err e) fits read = tt

pub answer_meets_type : (payload : List ℕ) (r : Result CodeVal CodeRefusal) → IsBytes payload → GivesAll NoMemory (λ c. c) r (code_at payload) → IfOk r CodeMeetsType
answer_meets_type payload (Ok c) fits read = code_meets_type c payload fits (code_takes payload c fits read)
answer_meets_type payload (Err e) fits read = tt

pub answer_only : (payload : List ℕ) (r : Result CodeVal CodeRefusal) → GivesAll NoMemory (λ c. c) r (code_at payload) → (c : CodeVal) → SpellsCode c payload → (r ≡ Ok c) ⊎ (r ≡ Err NoMemory)
answer_only payload (Ok d) read c is = inl (sym read ∙ code_again c payload is)
answer_only payload (Err e) read c is = inr (ap (λ (d : CodeRefusal). Err d) (only_memory payload c e is read))

pub answer_wrong : (payload : List ℕ) (r : Result CodeVal CodeRefusal) → IsBytes payload → GivesAll NoMemory (λ c. c) r (code_at payload)
    → IfErr r (λ e. (e ≡ NoMemory) ⊎ IsWrong e payload)
answer_wrong payload (Ok c) fits read = tt
answer_wrong payload (Err e) fits (inl memory) = inl memory
answer_wrong payload (Err e) fits (inr refused) = inr (code_wrong payload e fits refused)
