-- Each row is found by its name as by its number.
use Rattle.std.proofs.Common.{◌≡◌, ◌↔◌, map, ℕ, ◌<◌, Bool, true, false, eqb, ltb, ◌&&◌, List, [], ◌∷◌, length, Option, Some, None, refl, sym, ap, ◌∙◌, inl, inr}
use Rattle.std.specs.Bool.{Decides}
use Rattle.std.specs.List.{find, list_all, position_or_len, AllByRecursion}
use Rattle.std.specs.Option.{IfSome, IsNone, option_copied, option_map}
use Rattle.std.specs.Str.{bytes_eq}
use Rattle.std.proofs.lemmas.Bool.{and_parts, cases_Bool, eqb-true, ltb-true, false_from_ne_true}
use Rattle.std.proofs.lemmas.List.{nil_from_length}
use Rattle.std.proofs.lemmas.List.Folds.{find_at}
use Rattle.std.proofs.lemmas.Slice.Eq.{bytes_eq-Decides}
use Rattle.std.specs.Borrow.{Bor}
use Rattle.op_table.specs.declared.row.OpRow.{OpRow}
use Rattle.op_table.specs.declared.role.Role.{Role}
use Rattle.op_table.specs.declared.row.Profile.{Profile}
use Rattle.op_table.specs.declared.row.Profile.TheVariants.{Typed, Later, Out}
use Rattle.op_table.specs.Table.{Row, arity_of, table, is_name_byte, row_of, row_with, row_named}
use Rattle.op_table.proofs.Numbered.{row_with-own}

-- what is found passes the test
found_passes : {X : Type 0} (test : X → Bool) (xs : List X) (x : X) → find test xs ≡ Some x → test x ≡ true
found_passes test [] x found = absurd cc
found_passes test (y ∷ ys) x found =
    elim (cases_Bool (test y)) [
      | inl is ↦ let same : Some y ≡ Some x = rw is at found in cc
      | inr not ↦ let later : find test ys ≡ Some x = rw not at found in found_passes test ys x later
    ]

-- and any other that all items pass
found_all : {X : Type 0} (test other : X → Bool) (xs : List X) (x : X) → list_all other xs ≡ true → find test xs ≡ Some x → other x ≡ true
found_all test other [] x all found = absurd cc
found_all test other (y ∷ ys) x all found =
    let parts = and_parts (other y) (list_all other ys) all in
    elim (cases_Bool (test y)) [
      | inl is ↦ let same : Some y ≡ Some x = rw is at found in let passes = parts.0 in cc
      | inr not ↦ let later : find test ys ≡ Some x = rw not at found in found_all test other ys x parts.1 later
    ]

-- what all rows of the table pass
pub row_all : (test : Row → Bool) → list_all test table ≡ true → (op : ℕ) (r : Row) → row_with op ≡ Some r → test r ≡ true
row_all test all op r found = found_all (λ q. eqb q.op op) test table r all found

-- a row with the number of another
has_number : ℕ → Option Row → Bool
has_number op None = false
has_number op (Some r) = eqb r.op op

found_by_name : list_all (λ r. has_number r.op (row_named r.name)) table ≡ true
unfolding has_number table
found_by_name = refl

pub named_row : (op : ℕ) (r : Row) → row_with op ≡ Some r → row_named r.name ≡ Some r
unfolding has_number
named_row op r found = named (row_named r.name) refl (found_all (λ q. eqb q.op op) (λ q. has_number q.op (row_named q.name)) table r found_by_name found) where
  by_name : (name : List ℕ) (q : Row) → row_named name ≡ Some q → row_with q.op ≡ Some q
  by_name name q is = row_with-own (position_or_len (λ x. bytes_eq x.name name) table) q (sym (find_at (λ x. bytes_eq x.name name) table) ∙ is)

  named : (o : Option Row) → row_named r.name ≡ o → has_number r.op o ≡ true → row_named r.name ≡ Some r
  named None is has = absurd cc
  named (Some q) is has =
      let one : row_with q.op ≡ Some q = by_name r.name q is in
      let own : row_with r.op ≡ Some r = row_with-own (position_or_len (λ x. eqb x.op op) table) r (sym (find_at (λ x. eqb x.op op) table) ∙ found) in
      let op_is : q.op ≡ r.op = eqb-true q.op r.op has in
      let same : Some q ≡ Some r = sym one ∙ ap row_with op_is ∙ own in
      is ∙ same

pub numbered_row : (name : List ℕ) (r : Row) → row_named name ≡ Some r → row_with r.op ≡ Some r
numbered_row name r found = row_with-own (position_or_len (λ x. bytes_eq x.name name) table) r (sym (find_at (λ x. bytes_eq x.name name) table) ∙ found)

pub own_number : (op : ℕ) (r : Row) → row_with op ≡ Some r → r.op ≡ op
own_number op r found = eqb-true r.op op (found_passes (λ q. eqb q.op op) table r found)

-- the number of operands of the row with a name
pub named_arity : (name : List ℕ) (r : Option (Bor OpRow)) → option_map row_of (option_copied r) ≡ row_named name → IfSome r (λ x. arity_of x.now.op ≡ Some x.now.arity)
named_arity name None row = tt
named_arity name (Some x) row = ap (option_map (λ (q : Row). q.arity)) (numbered_row name (row_of x.now) (sym row))

pub name_is : (name : List ℕ) (r : Row) → row_named name ≡ Some r → r.name ≡ name
name_is name r found = (bytes_eq-Decides r.name name).0 (found_passes (λ x. bytes_eq x.name name) table r found)

find-map : {X Y : Type 0} (f : X → Y) (test : Y → Bool) (xs : List X) → find test (map f xs) ≡ option_map f (find (λ x. test (f x)) xs)
find-map f test [] = refl
find-map f test (x ∷ xs) =
    elim (cases_Bool (test (f x))) [
      | inl is ↦ rw (is) refl
      | inr not ↦ rw (not) (find-map f test xs)
    ]

-- the data are the table
pub found_row : (name : List ℕ) (rows : List OpRow) (r : Option OpRow) → map row_of rows ≡ table → r ≡ find (λ x. bytes_eq x.name.now name) rows → option_map row_of r ≡ row_named name
found_row name rows r same found =
    ap (option_map row_of) found ∙ sym (find-map row_of (λ q. bytes_eq q.name name) rows) ∙ ap (find (λ (q : Row). bytes_eq q.name name)) same

-- none is found exactly where no item has what is tested
none_has : {X : Type 0} {P : X → Type 0} (test : X → Bool) → ((x : X) → Decides (test x) (P x)) → (xs : List X) → find test xs ≡ None → AllByRecursion (λ x. P x → ⊥) xs
none_has test tells [] none = tt
none_has test tells (x ∷ xs) none =
    elim (cases_Bool (test x)) [
      | inl is ↦ let found : Some x ≡ None = rw is at none in absurd cc
      | inr not ↦ let later : find test xs ≡ None = rw not at none in ((λ p. let is = (tells x).1 p in absurd cc), none_has test tells xs later)
    ]

finds_none : {X : Type 0} {P : X → Type 0} (test : X → Bool) → ((x : X) → Decides (test x) (P x)) → (xs : List X) → AllByRecursion (λ x. P x → ⊥) xs → find test xs ≡ None
finds_none test tells [] none = refl
finds_none test tells (x ∷ xs) none = let not = false_from_ne_true (test x) (λ is. none.0 ((tells x).0 is)) in rw not (finds_none test tells xs none.1)

is_none : (r : Option (Bor OpRow)) → IsNone r → option_map row_of (option_copied r) ≡ None
is_none None none = refl
is_none (Some x) none = absurd cc

none_is : (r : Option (Bor OpRow)) → option_map row_of (option_copied r) ≡ None → IsNone r
none_is None none = refl
none_is (Some x) none = absurd cc

pub none_named : (name : List ℕ) (r : Option (Bor OpRow)) → option_map row_of (option_copied r) ≡ row_named name → IsNone r ↔ AllByRecursion (λ q. q.name ≡ name → ⊥) table
none_named name r row =
    let tells : (q : Row) → Decides (bytes_eq q.name name) (q.name ≡ name) = λ q. bytes_eq-Decides q.name name in
    ((λ none. none_has (λ q. bytes_eq q.name name) tells table (sym row ∙ is_none r none)), (λ none. none_is r (row ∙ finds_none (λ q. bytes_eq q.name name) tells table none)))

-- ---- names

is_word : List ℕ → Bool
is_word name = ltb 0 (length name) && list_all is_name_byte name

are_words : list_all (λ r. is_word r.name) table ≡ true
unfolding is_word table
are_words = refl

pub name_word : (op : ℕ) (r : Row) → row_with op ≡ Some r → (0 < length r.name) × (list_all is_name_byte r.name ≡ true)
unfolding is_word
name_word op r found =
    let word = found_all (λ q. eqb q.op op) (λ q. is_word q.name) table r are_words found in
    let parts = and_parts (ltb 0 (length r.name)) (list_all is_name_byte r.name) word in
    (ltb-true 0 (length r.name) parts.0, parts.1)

-- ---- roles

-- a role for each operand, or none
has_roles : Profile → List Role → ℕ → Bool
has_roles Typed roles arity = eqb (length roles) arity
has_roles _ roles arity = eqb (length roles) 0

have_roles : list_all (λ r. has_roles r.profile r.roles r.arity) table ≡ true
unfolding has_roles table
have_roles = refl

role_each : (profile : Profile) (roles : List Role) (arity : ℕ) → has_roles profile roles arity ≡ true → profile ≡ Typed → length roles ≡ arity
unfolding has_roles
role_each Typed roles arity has typed = eqb-true (length roles) arity has
role_each Later roles arity has typed = absurd cc
role_each Out roles arity has typed = absurd cc

role_none : (profile : Profile) (roles : List Role) (arity : ℕ) → has_roles profile roles arity ≡ true → (profile ≡ Typed → ⊥) → roles ≡ []
unfolding has_roles
role_none Typed roles arity has other = absurd (other refl)
role_none Later roles arity has other = nil_from_length roles (eqb-true (length roles) 0 has)
role_none Out roles arity has other = nil_from_length roles (eqb-true (length roles) 0 has)

row_roles : (op : ℕ) (r : Row) → row_with op ≡ Some r → has_roles r.profile r.roles r.arity ≡ true
row_roles op r found = found_all (λ q. eqb q.op op) (λ q. has_roles q.profile q.roles q.arity) table r have_roles found

pub typed_roles : (op : ℕ) (r : Row) → row_with op ≡ Some r → r.profile ≡ Typed → length r.roles ≡ r.arity
typed_roles op r found = role_each r.profile r.roles r.arity (row_roles op r found)

pub other_roles : (op : ℕ) (r : Row) → row_with op ≡ Some r → (r.profile ≡ Typed → ⊥) → r.roles ≡ []
other_roles op r found = role_none r.profile r.roles r.arity (row_roles op r found)
