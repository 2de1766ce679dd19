use Rattle.std.proofs.Common.{◌≡◌, map, take}
use Rattle.index_tables.specs.Text.{import_text}
use Rattle.listing_out.specs.Comments.{shortened}
use Rattle.listing_out.proofs.names.import_names.Given as goal

abbrev pub invariant-loop-import : goal.invariant-loop-import
invariant-loop-import l = l.names ≡ map (λ x. shortened (import_text l.atoms x)) (take l.import-index l.import-items)
