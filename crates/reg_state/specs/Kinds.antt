-- The order of kinds, and the least kind above two.
use Rattle.std.specs.Prelude.{Bool, true, false, T}
use Rattle.reg_state.specs.declared.kind.Kind.{Kind}
use Rattle.reg_state.specs.declared.kind.Kind.TheVariants.{Context, Term, Caught, Loose, Unset}

abbrev pub kind_below : Kind → Kind → Bool
kind_below _ Unset = true
kind_below Unset Loose = false
kind_below _ Loose = true
kind_below Context Term = true
kind_below Context Context = true
kind_below Term Term = true
kind_below Caught Caught = true
kind_below _ _ = false

abbrev pub KindBelow : Kind → Kind → Type 0
KindBelow a b = T (kind_below a b)

abbrev pub joined_kind : Kind → Kind → Kind
joined_kind Unset _ = Unset
joined_kind _ Unset = Unset
joined_kind Context Context = Context
joined_kind Context Term = Term
joined_kind Term Context = Term
joined_kind Term Term = Term
joined_kind Caught Caught = Caught
joined_kind _ _ = Loose
