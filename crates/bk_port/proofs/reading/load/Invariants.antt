use Rattle.std.proofs.Common.{ℕ, ◌≡◌, ◌≤◌, List, length, ◌+◌, ◌-◌}
use Rattle.bk_port.specs.declared.reading.TheConstants.{MOST_BYTES}
use Rattle.bk_port.specs.Known.{before_known}
use Rattle.bk_port.proofs.reading.load.Given as goal

abbrev pub invariant-pieces : goal.invariant-pieces
invariant-pieces g l = record {
  started : g.H.Host.is_started l.host l.name;
  bytes : g.H.Host.holds l.fn.host l.name ≡ before_known l.bytes.items (g.H.Host.left l.host);
  count : g.H.Host.count l.host ≡ length l.bytes.items;
  size : length l.bytes.items ≤ MOST_BYTES;
  holds : (n : List ℕ) → g.H.Host.holds l.host n ≡ g.H.Host.holds l.fn.host n;
  later : (n : List ℕ) → g.H.Host.faults l.fn.host n ≤ g.H.Host.faults l.host n;
}

abbrev pub decreases-pieces : goal.decreases-pieces
decreases-pieces g l = MOST_BYTES + 1 - length l.bytes.items
