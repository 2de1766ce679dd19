use Rattle.beam_cli.proofs.Printed.{asm_of_listing, disasm_of_file}
use Rattle.beam_cli.proofs.laws.listings_are_assembled.Goals as goal

pub returns-clause-asm : goal.returns-clause-asm
returns-clause-asm c = asm_of_listing c.reading_is_exact.ensures.accepted

pub returns-clause-output : goal.returns-clause-output
returns-clause-output c = disasm_of_file c.reading_is_exact-2.ensures

pub returns-clause-listable : goal.returns-clause-listable
returns-clause-listable c = λ bytes v. c.a_file_is_listable.ensures v bytes

pub returns-clause-listing : goal.returns-clause-listing
returns-clause-listing c = λ bytes v. c.listing_is_of_its_file.ensures v bytes
