use Rattle.beam_module.proofs.module.Module.entry_of.Goals as goal

pub returns : goal.returns
returns c = rw (← c.self.view_is) c.entry_of.ensures
