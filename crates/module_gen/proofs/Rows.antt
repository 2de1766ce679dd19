-- Facts in a row, each of one item of a list.

infixr 5 ◌&◌
abbrev pub ◌&◌ : {A B : Type 0} → A → B → A × B
first & others = (first, others)
