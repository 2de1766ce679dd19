-- What is known of registers and slots, as the contents that actions work on.
use Rattle.std.specs.Prelude.{Bool, true, false}
use Rattle.reg_state.specs.declared.kind.Kind.{Kind}
use Rattle.reg_state.specs.declared.kind.Kind.TheVariants.{Context, Term, Caught, Loose, Unset}
use Rattle.reg_state.specs.Store.FrameOf.{Unknown}
use Rattle.action_rules.specs.Domain.{Domain}

abbrev pub is_term : Kind → Bool
is_term Context = true
is_term Term = true
is_term Caught = false
is_term Loose = false
is_term Unset = false

abbrev pub is_mark : Kind → Bool
is_mark Context = false
is_mark Term = false
is_mark Caught = true
is_mark Loose = false
is_mark Unset = false

abbrev pub is_set : Kind → Bool
is_set Context = true
is_set Term = true
is_set Caught = true
is_set Loose = true
is_set Unset = false

-- what is no term leaves nothing known
abbrev pub copied_kind : Kind → Kind
copied_kind Context = Context
copied_kind Term = Term
copied_kind Caught = Unset
copied_kind Loose = Unset
copied_kind Unset = Unset

abbrev pub kinds : Domain Kind (Unit {0})
kinds = record {
  unset = Unset;
  term = λ number. Term;
  copied = copied_kind;
  untrimmed = Unknown tt;
  has_term = is_term;
  has_mark = is_mark;
  has_value = is_set;
}
