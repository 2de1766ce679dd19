-- Operands are read where they are spelled, and nowhere else.
use Rattle.std.proofs.Common.{◌≡◌, ℕ, List, ◌++◌, length, Result, Ok, refl, sym, ap, subst, ◌∙◌, append_assoc}
use Rattle.bk_codec.specs.Reading.{◌>>=◌, made_of, many_at}
use Rattle.bk_codec.specs.Spelling.{IsBytes, Then, SpellsMany}
use Rattle.bk_codec.proofs.Steps.{bind_ok, made_ok, ok_is}
use Rattle.bk_codec.proofs.Agreement.{Agrees, AgreesOnMany, Takes, Takes-then, Takes-weaker, many_agree}
use Rattle.compact_term.specs.declared.refusal.OperandRefusal.{OperandRefusal}
use Rattle.compact_term.specs.declared.operand.Plain.{Plain}
use Rattle.compact_term.specs.declared.operand.Operand.{Operand}
use Rattle.compact_term.specs.declared.operand.Operand.TheVariants as operands
use Rattle.compact_term.specs.declared.reader.Head.{Head}
use Rattle.compact_term.specs.declared.reader.Head.TheVariants as heads
use Rattle.compact_term.specs.Spelling.{IsU, SpellsPlain, SpellsPair, Spells}
use Rattle.compact_term.specs.Reading.{u_at, head_at, member_of, member_at, pair_at, operand_of, operand_at}
use Rattle.compact_term.proofs.Numbers.{u_agrees}
use Rattle.compact_term.proofs.Heads.{SpellsHead, head_agrees}

-- ---- members

member_of_takes : (head : Head) (bytes rest : List ℕ) (p : Plain) (after : List ℕ) → Takes (SpellsHead head) bytes rest → member_of head rest ≡ Ok (p, after) → Takes (SpellsPlain p) bytes after
member_of_takes (heads.Plain q) bytes rest p after took e =
    subst (λ (r : Plain × List ℕ). Takes (SpellsPlain r.0) bytes r.1) (ok_is {E = OperandRefusal} (q, rest) (p, after) e) took
member_of_takes heads.List bytes rest p after took e = absurd cc
member_of_takes heads.Alloc bytes rest p after took e = absurd cc

member_takes : (bytes : List ℕ) (p : Plain) (rest : List ℕ) → IsBytes bytes → member_at bytes ≡ Ok (p, rest) → Takes (SpellsPlain p) bytes rest
unfolding member_at
member_takes bytes p rest fits e =
    let head = bind_ok (head_at bytes) (λ (head : Head × List ℕ). member_of head.0 head.1) (p, rest) e in
    member_of_takes head.0.0 bytes head.0.1 p rest (head_agrees.takes bytes head.0.0 head.0.1 fits head.1) head.2

member_again : (p : Plain) (text rest : List ℕ) → SpellsPlain p text → member_at (text ++ rest) ≡ Ok (p, rest)
unfolding member_at
member_again p text rest is = rw (head_agrees.again (heads.Plain p) text rest is) refl

pub member_agrees : Agrees member_at SpellsPlain
member_agrees = record { takes = member_takes; again = member_again }

-- ---- pairs

pair_takes : (bytes : List ℕ) (p : ℕ × ℕ) (rest : List ℕ) → IsBytes bytes → pair_at bytes ≡ Ok (p, rest) → Takes (SpellsPair p) bytes rest
unfolding pair_at
pair_takes bytes p rest fits e =
    let kind = bind_ok (u_at bytes) (λ (kind : ℕ × List ℕ). made_of (λ amount. (kind.0, amount)) (u_at kind.1)) (p, rest) e in
    let amount = made_ok (λ (amount : ℕ). (kind.0.0, amount)) (u_at kind.0.1) p rest kind.2 in
    let first = u_agrees.takes bytes kind.0.0 kind.0.1 fits kind.1 in
    subst (λ (q : ℕ × ℕ). Takes (SpellsPair q) bytes rest) amount.2 (Takes-then first (u_agrees.takes kind.0.1 amount.0 rest first.fits amount.1))

pair_again : (p : ℕ × ℕ) (text rest : List ℕ) → SpellsPair p text → pair_at (text ++ rest) ≡ Ok (p, rest)
unfolding pair_at
pair_again p text rest is =
    let grouped : text ++ rest ≡ is.front ++ (is.back ++ rest) = ap (λ (t : List ℕ). t ++ rest) is.joined ∙ append_assoc is.front is.back rest in
    rw (grouped, u_agrees.again p.0 is.front (is.back ++ rest) is.front_is, u_agrees.again p.1 is.back rest is.back_is) refl

pub pair_agrees : Agrees pair_at SpellsPair
pair_agrees = record { takes = pair_takes; again = pair_again }

-- ---- operands

-- a count, and as many values
counted_takes : {A : Type 0} (p : List ℕ → Result (A × List ℕ) OperandRefusal) (R : A → List ℕ → Type 0) (f : List A → Operand) (bytes : List ℕ) (o : Operand) (rest : List ℕ) → AgreesOnMany p R → IsBytes bytes
    → (u_at bytes >>= λ n. made_of f (many_at p n.0 n.1)) ≡ Ok (o, rest) → (xs : List A) × (f xs ≡ o) × Takes (Then (IsU (length xs)) (SpellsMany R xs)) bytes rest
counted_takes p R f bytes o rest agrees fits e =
    let n = bind_ok (u_at bytes) (λ (n : ℕ × List ℕ). made_of f (many_at p n.0 n.1)) (o, rest) e in
    let m = made_ok f (many_at p n.0.0 n.0.1) o rest n.2 in
    let count = u_agrees.takes bytes n.0.0 n.0.1 fits n.1 in
    let many = agrees.takes n.0.0 n.0.1 m.0 rest count.fits m.1 in
    (m.0, m.2, Takes-then (Takes-weaker (λ text is. subst (λ (k : ℕ). IsU k text) (sym many.0) is) count) many.1)

counted_again : {A : Type 0} (p : List ℕ → Result (A × List ℕ) OperandRefusal) (R : A → List ℕ → Type 0) (f : List A → Operand) (xs : List A) (text rest : List ℕ) → AgreesOnMany p R
    → Then (IsU (length xs)) (SpellsMany R xs) text → (u_at (text ++ rest) >>= λ n. made_of f (many_at p n.0 n.1)) ≡ Ok (f xs, rest)
counted_again p R f xs text rest agrees is =
    let grouped : text ++ rest ≡ is.front ++ (is.back ++ rest) = ap (λ (t : List ℕ). t ++ rest) is.joined ∙ append_assoc is.front is.back rest in
    rw (grouped, u_agrees.again (length xs) is.front (is.back ++ rest) is.front_is, agrees.again xs is.back rest is.back_is) refl

operand_of_takes : (head : Head) (bytes rest : List ℕ) (o : Operand) (after : List ℕ) → Takes (SpellsHead head) bytes rest → operand_of head rest ≡ Ok (o, after) → Takes (Spells o) bytes after
operand_of_takes (heads.Plain p) bytes rest o after took e =
    subst (λ (r : Operand × List ℕ). Takes (Spells r.0) bytes r.1) (ok_is {E = OperandRefusal} (operands.One p, rest) (o, after) e) took
operand_of_takes heads.List bytes rest o after took e =
    let c = counted_takes member_at SpellsPlain operands.List rest o after (many_agree member_agrees) took.fits e in
    subst (λ (q : Operand). Takes (Spells q) bytes after) c.1 (Takes-then took c.2)
operand_of_takes heads.Alloc bytes rest o after took e =
    let c = counted_takes pair_at SpellsPair operands.Alloc rest o after (many_agree pair_agrees) took.fits e in
    subst (λ (q : Operand). Takes (Spells q) bytes after) c.1 (Takes-then took c.2)

operand_takes : (bytes : List ℕ) (o : Operand) (rest : List ℕ) → IsBytes bytes → operand_at bytes ≡ Ok (o, rest) → Takes (Spells o) bytes rest
unfolding operand_at
operand_takes bytes o rest fits e =
    let head = bind_ok (head_at bytes) (λ (head : Head × List ℕ). operand_of head.0 head.1) (o, rest) e in
    operand_of_takes head.0.0 bytes head.0.1 o rest (head_agrees.takes bytes head.0.0 head.0.1 fits head.1) head.2

operand_again : (o : Operand) (text rest : List ℕ) → Spells o text → operand_at (text ++ rest) ≡ Ok (o, rest)
unfolding operand_at
operand_again (operands.One p) text rest is = rw (head_agrees.again (heads.Plain p) text rest is) refl
operand_again (operands.List ps) text rest is =
    let grouped : text ++ rest ≡ is.front ++ (is.back ++ rest) = ap (λ (t : List ℕ). t ++ rest) is.joined ∙ append_assoc is.front is.back rest in
    rw (grouped, head_agrees.again heads.List is.front (is.back ++ rest) is.front_is) (counted_again member_at SpellsPlain operands.List ps is.back rest (many_agree member_agrees) is.back_is)
operand_again (operands.Alloc ps) text rest is =
    let grouped : text ++ rest ≡ is.front ++ (is.back ++ rest) = ap (λ (t : List ℕ). t ++ rest) is.joined ∙ append_assoc is.front is.back rest in
    rw (grouped, head_agrees.again heads.Alloc is.front (is.back ++ rest) is.front_is) (counted_again pair_at SpellsPair operands.Alloc ps is.back rest (many_agree pair_agrees) is.back_is)

pub operand_agrees : Agrees operand_at Spells
operand_agrees = record { takes = operand_takes; again = operand_again }
