-- What the walks of counts stand on: the names that they cite, and a step that makes a struct without fields.
pub use Rattle.std.proofs.Common.{◌+◌, [], ◌∷◌, refl}
pub use Rattle.std.proofs.raw_atomic.Walks.{proved}
pub use base.Fml.{ftrue}
pub use denote.RattleType.{owns}
pub use types.Kit.{‵, raw, ◌⊛◌, ◌$◌, ◌∵◌, !, qed, move, keep, drop, split, join, fjoin, suffices, done}
pub use types.Part.{agg}
pub use types.Run.{enter, no_more, returns}
pub use types.ByLocal.{alloc_all, pass_all, free_all, look_at, sets}
pub use denote.Exit.{yes}
pub use denote.Ref.{shr_vals, shr_Tells}
pub use denote.Signature.{plain, types_at}
pub use denote.Builtin.{RefOf}
pub use denote.Steps.{nothing}
pub use denote.Triple.Entry.{alive, on_entry}
pub use denote.Triple.Walked.{Stays, walk_of, says, stay_dropped, Goes-dropped, ends_at}
use Rattle.std.proofs.Common.{List}
use seplogic.Ra.Ura.{Ura}
use mir.Val.{Val, vstruct, vnil}
use types.Logic.{Logic}
use types.Kit.{Goal, Step, step, Item, fpack, feq_i}
use denote.RattleType.{RattleType, Valss}
use denote.Struct.Struct.{Shape, Struct, within}

abbrev pub empty_val : Val
empty_val = vstruct vnil

abbrev empty_shape : Shape
empty_shape = record { name = []; args = []; types = []; fields = [] }

abbrev pub Fieldless : RattleType
Fieldless = Struct empty_shape

pub made : {M : Type 1} {𝓤 : Ura M} {𝓛 : Logic 𝓤} {K : Type 0} {Γ : List (Item 𝓤)} {G : Goal 𝓤 𝓛.H} → K → Step K 𝓛 (‵ (Fieldless.own_val tt (empty_val ∷ [])) ∷ Γ) G Γ G
made t = step (λ s. nothing t $ feq_i t (List Val) (empty_val ∷ []) (empty_val ∷ []) refl $ fjoin t $ fpack t (Valss []) (within empty_shape tt (empty_val ∷ [])) tt $ s)
