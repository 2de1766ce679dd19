use Rattle.std.proofs.Common.{◌≡◌, ℕ, ◌+◌, ◌<◌, List, ◌++◌, length, get_or, drop, arith}
use Rattle.std.proofs.lemmas.List.{at_drop_more}
use Rattle.std.specs.Borrow.{Bor}
use Rattle.bk_port.specs.Writing.{joined}
use Rattle.bk_port.proofs.Sent.{sent_more, sent_some}
use Rattle.bk_port.proofs.writing.emit_all.Goals as goal

-- the pieces from i on are piece i and those after it
joined_next : (pieces : List (Bor (List ℕ))) (i : ℕ) (d : Bor (List ℕ)) → i < length pieces → joined (drop i pieces) ≡ (get_or pieces i d).now ++ joined (drop (i + 1) pieces)
joined_next pieces i d below = at_drop_more joined pieces i d below

pub loop-piece-preserved : goal.loop-piece-preserved
loop-piece-preserved g c = record {
  sent = sent_more _ _ _ _ _ _ _ c.loop-piece.invariant.sent c.in-Ok.ensures.ok (joined_next _ _ _ c.loop-piece-test.true);
  later = omega arith;
}

pub returns-in-Err-clause-err : goal.returns-in-Err-clause-err
returns-in-Err-clause-err g c = sent_some _ _ _ _ _ _ _ c.loop-piece.invariant.sent c.in-Err.ensures.err (joined_next _ _ _ c.loop-piece-test.true)
