use Rattle.beam_module.proofs.ChunkLemmas.{chunks_push}
use Rattle.beam_module.proofs.file_value.FileVal.push.Goals as goal

pub invariant_of-self-2 : goal.invariant_of-self-2
invariant_of-self-2 c = rw c.in_ok-push.ensures.items (chunks_push c.self.inside.chunks.items (c.args.id, c.args.c) c.self.invariant (rw c.self.view_is c.requires.new) c.requires.kind)
