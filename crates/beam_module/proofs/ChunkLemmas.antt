-- What holds of the chunks of a file goes on to hold where one more is put.
use Rattle.std.proofs.Common.{List, [], ◌∷◌, ◌++◌}
use Rattle.std.specs.Cmp.{IsEquivalence}
use Rattle.std.specs.List.{IsDistinct, AllByRecursion}
use Rattle.std.proofs.lemmas.Cmp.{on_equiv, nat_list_eq_equiv}
use Rattle.std.proofs.lemmas.Map.Keys.{IsDistinct-push}
use Rattle.beam_module.specs.File.{AreChunks, FileChunk, HoldsItsKind, IsNew, is_same_id}

pub same_id : IsEquivalence is_same_id
same_id = on_equiv (λ c. c.0.0) nat_list_eq_equiv

kinds_push : (chunks : List FileChunk) (c : FileChunk) → AllByRecursion HoldsItsKind chunks → HoldsItsKind c → AllByRecursion HoldsItsKind (chunks ++ c ∷ [])
kinds_push [] c all one = (one, tt)
kinds_push (x ∷ chunks) c all one = (all.0, kinds_push chunks c all.1 one)

pub chunks_none : AreChunks []
unfolding IsDistinct
chunks_none = record { distinct = tt; kinds = tt }

pub chunks_push : (chunks : List FileChunk) (c : FileChunk) → AreChunks chunks → IsNew c.0 chunks → HoldsItsKind c → AreChunks (chunks ++ c ∷ [])
chunks_push chunks c are new kind = record { distinct = IsDistinct-push same_id chunks c are.distinct new; kinds = kinds_push chunks c are.kinds kind }
