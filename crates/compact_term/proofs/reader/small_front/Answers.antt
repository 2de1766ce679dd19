use Rattle.std.proofs.Common.{arith, ◌≡◌, ◌+◌, ◌-◌, drop, length, Ok}
use Rattle.std.proofs.lemmas.List.{length-drop, take_all}
use Rattle.compact_term.specs.declared.operand.Operand.TheVariants.{One}
use Rattle.compact_term.specs.Reading.{operand_at}
use Rattle.compact_term.proofs.Fronts.{WasRead, was_read}
use Rattle.compact_term.proofs.Small.{small_read}
use Rattle.compact_term.proofs.reader.small_front.Goals as goal

read : (c : goal.In_ok-plain) → WasRead (One c.in_ok-plain.plain) c.args.bytes.now (drop (1 + c.in_ok-n.more) c.args.bytes.now)
read c =
    let is : operand_at c.args.bytes.now ≡ Ok (One c.in_ok-plain.plain, drop (1 + c.in_ok-n.more) c.args.bytes.now) =
    small_read c.args.bytes.now _ c.in_ok-n.n c.in_ok-n.more c.in_ok-plain.plain c.in-len1-up.len_at_least (take_all (length c.args.bytes.now - 1) (drop 1 c.args.bytes.now) (omega (arith, length-drop 1 c.args.bytes.now))) c.in_ok-n.ensures.read c.in_ok-plain.ensures in
    was_read c.args.bytes.now (One c.in_ok-plain.plain) (drop (1 + c.in_ok-n.more) c.args.bytes.now) (λ i. omega (arith, c.type_inv.bytes i)) is

pub returns-clause-found : goal.returns-clause-found
returns-clause-found c = (read c).begins

pub returns-clause-proper : goal.returns-clause-proper
returns-clause-proper c = (read c).proper

pub returns-clause-meets_type : goal.returns-clause-meets_type
returns-clause-meets_type c = (read c).meets_type
