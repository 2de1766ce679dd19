use Rattle.beam_module.proofs.stripping.is_kept.Goals as goal

pub returns : goal.returns
returns c = c.contains.ensures.value
