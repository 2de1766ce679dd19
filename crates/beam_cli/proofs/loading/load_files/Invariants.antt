use Rattle.std.proofs.Common.{◌≡◌, ℕ, ◌≤◌, List, take}
use Rattle.std.specs.List.{AllZip}
use Rattle.bk_port.specs.Reading.{HasReadAtMost}
use Rattle.bk_port.specs.declared.reading.TheConstants.{MOST_BYTES}
use Rattle.beam_cli.specs.Files.{IsLoaded}
use Rattle.beam_cli.specs.Outcome.{SomeLeft}
use Rattle.beam_cli.proofs.loading.load_files.Given as goal

abbrev pub invariant-names : goal.invariant-names
invariant-names g l = record {
  loaded : AllZip (IsLoaded (g.H.Host.holds l.fn.host)) (take l.name-index l.names) l.files.items;
  holds : (n : List ℕ) → g.H.Host.holds l.host n ≡ g.H.Host.holds l.fn.host n;
  later : (n : List ℕ) → g.H.Host.faults l.fn.host n ≤ g.H.Host.faults l.host n;
  count : HasReadAtMost MOST_BYTES (g.H.Host.count l.fn.host) (g.H.Host.count l.host);
  left : SomeLeft (g.H.Host.holds l.fn.host) (g.H.Host.left l.fn.host) (g.H.Host.left l.host) (take l.name-index l.names);
}
