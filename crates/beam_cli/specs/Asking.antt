-- What a request of the code asks for.
use Rattle.beam_cli.specs.declared.command.Request.{Request}
use Rattle.beam_cli.specs.Words.{Asked}

abbrev pub asked : Request → Asked
asked request = record { command = request.command; names = request.names.now }
