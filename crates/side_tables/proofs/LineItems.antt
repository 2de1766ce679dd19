-- Items are read where they are spelled.
use Rattle.std.proofs.Common.{◌≡◌, ℕ, ◌<◌, Bool, true, false, cond, leb, ℤ, pos, negsuc, ◌≤ℤ◌, List, [], ◌∷◌, ◌++◌, length, Result, Ok, Err, refl, ap, subst, arith}
use Rattle.std.proofs.lemmas.Bool.{leb-true, le-leb}
use Rattle.std.proofs.lemmas.Int.{ints}
use Rattle.bk_codec.specs.Reading.{◌>>=◌, giving, refused_as}
use Rattle.bk_codec.specs.Spelling.{IsBytes}
use Rattle.bk_codec.proofs.Steps.{bind_ok, ok_is, err_is}
use Rattle.bk_codec.proofs.Agreement.{Agrees, Takes, Takes-weaker}
use Rattle.compact_term.specs.declared.operand.Plain.TheVariants.{I, A}
use Rattle.compact_term.specs.declared.operand.Operand.{Operand}
use Rattle.compact_term.specs.declared.operand.Operand.TheVariants.{One}
use Rattle.compact_term.specs.declared.refusal.OperandRefusal.{OperandRefusal}
use Rattle.compact_term.specs.Spelling.{Spells}
use Rattle.compact_term.specs.Reading.{head_at, operand_at}
use Rattle.compact_term.proofs.Operands.{operand_agrees}
use Rattle.side_tables.specs.declared.line_item.Item.{Item}
use Rattle.side_tables.specs.declared.line_item.Item.TheVariants as items
use Rattle.side_tables.specs.declared.refusal.SideRefusal.{SideRefusal}
use Rattle.side_tables.specs.declared.refusal.SideRefusal.TheVariants.{FileIndex, Cut}
use Rattle.side_tables.specs.LineSpelling.{SpellsSwitch, SpellsLine, SpellsItem}
use Rattle.side_tables.specs.LineReading.{why_no_item, operand_in, item_of, item_at}

-- ---- operands

no_operand : (o : Operand) (rest : List ℕ) → operand_at [] ≡ Ok (o, rest) → ⊥
unfolding operand_at head_at
no_operand o rest e = cc

-- an operand has at least one byte
pub operand_some : (o : Operand) (text : List ℕ) → Spells o text → 0 < length text
operand_some o [] is = absurd (no_operand o [] (operand_agrees.again o [] [] is))
operand_some o (b ∷ text) is = omega arith

pub no_item : (files item : ℕ) → item_at files item [] ≡ Err Cut
unfolding item_at operand_at head_at
no_item files item = refl

-- an operand that is read or refused as an item
pub refused_ok : {X : Type 0} (item : ℕ) (r : Result X OperandRefusal) (x : X) → refused_as (why_no_item item) r ≡ Ok x → r ≡ Ok x
refused_ok item (Ok y) x e = let same : y ≡ x = ok_is {E = SideRefusal} y x e in ap (λ (z : _). Ok z) same
refused_ok item (Err why) x e = absurd cc

pub refused_err : {X : Type 0} (item : ℕ) (r : Result X OperandRefusal) (e : SideRefusal) → refused_as (why_no_item item) r ≡ Err e → (why : OperandRefusal) × (r ≡ Err why) × (why_no_item item why ≡ e)
refused_err item (Ok x) e h = absurd cc
refused_err {X} item (Err why) e h = (why, refl, err_is {A = X} (why_no_item item why) e h)

-- ---- items

-- a switch to a file that is there
known_ok : (b : Bool) (item n : ℕ) (x : Item) → cond b (Ok (items.File n)) (Err (FileIndex item)) ≡ Ok x → (b ≡ true) × (items.File n ≡ x)
known_ok true item n x e = (refl, ok_is {E = SideRefusal} (items.File n) x e)
known_ok false item n x e = absurd cc

item_of_takes : (files item : ℕ) (o : Operand) (bytes rest : List ℕ) (x : Item) → Takes (Spells o) bytes rest → item_of files item o ≡ Ok x → Takes (SpellsItem files x) bytes rest
item_of_takes files item (One (I (pos n))) bytes rest x took e =
    let from_0 : pos 0 ≤ℤ pos n = omega (arith, ints) in
    subst (λ (y : Item). Takes (SpellsItem files y) bytes rest) (ok_is {E = SideRefusal} (items.Line (pos n)) x e)
    (Takes-weaker (λ text is. record { from_0 = from_0; spelled = is }) took)
item_of_takes files item (One (A n)) bytes rest x took e =
    let k = known_ok (leb n files) item n x e in
    subst (λ (y : Item). Takes (SpellsItem files y) bytes rest) k.1
    (Takes-weaker (λ text is. record { known = leb-true n files k.0; spelled = is }) took)
item_of_takes files item o bytes rest x took e = absurd cc

item_takes : (files item : ℕ) (bytes : List ℕ) (x : Item) (rest : List ℕ) → IsBytes bytes → item_at files item bytes ≡ Ok (x, rest) → Takes (SpellsItem files x) bytes rest
unfolding item_at
item_takes files item bytes x rest fits e =
    let o = bind_ok (operand_in item bytes) (λ (o : Operand × List ℕ). item_of files item o.0 >>= λ y. giving y o.1) (x, rest) e in
    let y = bind_ok (item_of files item o.0.0) (λ (y : Item). giving y o.0.1) (x, rest) o.2 in
    let took = operand_agrees.takes bytes o.0.0 o.0.1 fits (refused_ok item (operand_at bytes) o.0 o.1) in
    subst (λ (q : Item × List ℕ). Takes (SpellsItem files q.0) bytes q.1) (ok_is {E = SideRefusal} (y.0, o.0.1) (x, rest) y.2)
    (item_of_takes files item o.0.0 bytes o.0.1 y.0 took y.1)

line_again : (files item : ℕ) (line : ℤ) (text rest : List ℕ) → SpellsLine line text → item_at files item (text ++ rest) ≡ Ok (items.Line line, rest)
unfolding item_at
line_again files item (pos n) text rest is = rw (operand_agrees.again (One (I (pos n))) text rest is.spelled) refl
line_again files item (negsuc n) text rest is = absurd (let from_0 = is.from_0 in omega (arith, ints))

switch_again : (files item n : ℕ) (text rest : List ℕ) → SpellsSwitch files n text → item_at files item (text ++ rest) ≡ Ok (items.File n, rest)
unfolding item_at
switch_again files item n text rest is = rw (operand_agrees.again (One (A n)) text rest is.spelled, le-leb n files is.known) refl

item_again : (files item : ℕ) (x : Item) (text rest : List ℕ) → SpellsItem files x text → item_at files item (text ++ rest) ≡ Ok (x, rest)
item_again files item (items.Line line) text rest is = line_again files item line text rest is
item_again files item (items.File n) text rest is = switch_again files item n text rest is

pub item_agrees : (files item : ℕ) → Agrees (item_at files item) (SpellsItem files)
item_agrees files item = record { takes = item_takes files item; again = item_again files item }

-- an item has at least one byte
pub item_some : (files : ℕ) (x : Item) (text : List ℕ) → SpellsItem files x text → 0 < length text
item_some files (items.Line line) text is = operand_some (One (I line)) text is.spelled
item_some files (items.File n) text is = operand_some (One (A n)) text is.spelled
