use Rattle.iff_form.proofs.Owned.{owned_push}
use Rattle.iff_form.proofs.chunk_list.ChunkList.push.Goals as goal

pub invariant_of-self-2 : goal.invariant_of-self-2
invariant_of-self-2 c =
    rw c.in_ok-push.ensures.items (owned_push c.self.inside.chunks.items (record { id = c.args.id; payload = c.from-payload.result }) c.self.invariant (rw c.self.view_is c.requires))
