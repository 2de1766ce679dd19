-- Files that are loaded one after another: what is left of the host, and what the answer then is.
use Rattle.std.proofs.Common.{◌≡◌, ℕ, zero, suc, ◌+◌, ◌<◌, ◌≤◌, List, [], ◌∷◌, ◌++◌, length, map, get_or, Option, Some, None, inl, inr, refl, sym, ap, subst, ◌∙◌, take, drop, take-append-drop, append_assoc, arith}
use Rattle.std.specs.Prelude.{All, Any, IfSome, option_map, option_and_then}
use Rattle.std.specs.List.{AllZip}
use Rattle.std.proofs.lemmas.Bool.{le-ltb, lt-ltb}
use Rattle.std.proofs.lemmas.List.{take_more}
use Rattle.std.proofs.lemmas.List.Elements.{All-nil, All-cons}
use Rattle.bk_port.specs.Causes.{Rose}
use Rattle.bk_port.specs.Reading.{IsLeftAfter}
use Rattle.bk_port.specs.declared.reading.TheConstants.{MOST_BYTES}
use Rattle.beam_cli.specs.declared.loading.LoadedFile.{LoadedFile}
use Rattle.beam_cli.specs.Files.{NamedFile, named_file, file_at, told, too_large, IsLoaded, IsFirst, IsFirstTooLarge}
use Rattle.beam_cli.specs.Outcome.{SomeLeft}
use Rattle.beam_cli.specs.declared.stop.Stop.{Stop}
use Rattle.beam_cli.specs.declared.stop.Stop.TheVariants.{Grammar, ReadFault, TooLarge, NoMemory}
use Rattle.beam_cli.specs.Stopping.{HasLoadReason, HasLoadReasons}

-- ---- what is left of the host

left_same : (holds : List ℕ → Option (List ℕ)) (names : List (List ℕ)) (old new : Option (List ℕ)) → new ≡ old → SomeLeft holds old new names
left_same holds [] old new same = same
left_same holds (name ∷ names) old new same = inr (left_same holds names old new same)

pub left_more : (holds : List ℕ → Option (List ℕ)) (names more : List (List ℕ)) (old new : Option (List ℕ)) → SomeLeft holds old new names → SomeLeft holds old new (names ++ more)
left_more holds [] more old new same = left_same holds more old new same
left_more holds (name ∷ names) more old new (inl here) = inl here
left_more holds (name ∷ names) more old new (inr there) = inr (left_more holds names more old new there)

left_last : (holds : List ℕ → Option (List ℕ)) (names : List (List ℕ)) (name : List ℕ) (old new : Option (List ℕ)) → IsLeftAfter (MOST_BYTES + 1) (holds name) old new → SomeLeft holds old new (names ++ name ∷ [])
left_last holds [] name old new left = inl left
left_last holds (other ∷ names) name old new left = inr (left_last holds names name old new left)

-- one more name, which what is left before does not change what is left after
pub left_next : (holds : List ℕ → Option (List ℕ)) (names : List (List ℕ)) (name : List ℕ) (old between new : Option (List ℕ)) → SomeLeft holds old between names → IsLeftAfter (MOST_BYTES + 1) (holds name) between new
    → SomeLeft holds old new (names ++ name ∷ [])
left_next holds names name old between new left (inl same) = subst (λ (o : Option (List ℕ)). SomeLeft holds old o (names ++ name ∷ [])) (sym same) (left_more holds names (name ∷ []) old between left)
left_next holds names name old between new left (inr part) = left_last holds names name old new (inr part)

-- ---- the first file that is too large

pub loaded_are_sized : (holds : List ℕ → Option (List ℕ)) (names : List (List ℕ)) (files : List LoadedFile) → AllZip (IsLoaded holds) names files → All (λ (f : LoadedFile). length f.bytes.items ≤ MOST_BYTES) files
loaded_are_sized holds [] [] loaded = All-nil (λ (f : LoadedFile). length f.bytes.items ≤ MOST_BYTES)
loaded_are_sized holds [] (file ∷ files) loaded = absurd loaded
loaded_are_sized holds (name ∷ names) [] loaded = absurd loaded
loaded_are_sized holds (name ∷ names) (file ∷ files) loaded =
    All-cons (λ (f : LoadedFile). length f.bytes.items ≤ MOST_BYTES) file files loaded.0.size (loaded_are_sized holds names files loaded.1)

small_held : (held : Option (List ℕ)) (bytes : List ℕ) → IfSome held (λ all. bytes ≡ all) → length bytes ≤ MOST_BYTES → IfSome held (λ all. length all ≤ MOST_BYTES)
small_held None bytes same few = tt
small_held (Some all) bytes same few = subst (λ (b : List ℕ). length b ≤ MOST_BYTES) same few

first_of : (holds : List ℕ → Option (List ℕ)) (P : List ℕ → Type 0) (front : List (List ℕ)) (files : List LoadedFile) (name : List ℕ) (back : List (List ℕ)) → AllZip (IsLoaded holds) front files → P name
    → IsFirst holds P (front ++ name ∷ back)
first_of holds P [] [] name back loaded is = inl is
first_of holds P [] (file ∷ files) name back loaded is = absurd loaded
first_of holds P (other ∷ front) [] name back loaded is = absurd loaded
first_of holds P (other ∷ front) (file ∷ files) name back loaded is =
    inr (small_held (holds other) file.bytes.items loaded.0.whole loaded.0.size, first_of holds P front files name back loaded.1 is)

pub first_as : (holds : List ℕ → Option (List ℕ)) (P Q : List ℕ → Type 0) (names : List (List ℕ)) → ((n : List ℕ) → P n → Q n) → IsFirst holds P names → IsFirst holds Q names
first_as holds P Q [] change is = absurd is
first_as holds P Q (name ∷ names) change (inl here) = inl (change name here)
first_as holds P Q (name ∷ names) change (inr there) = inr (there.0, first_as holds P Q names change there.1)

any_there : {A : Type 0} (P : A → Type 0) (x : A) (xs : List A) → Any P xs → Any P (x ∷ xs)
any_there P x xs some = (suc some.0, some.1, omega (arith, some.2), some.3, some.4)

any_here : {A : Type 0} (P : A → Type 0) (x : A) (xs : List A) → P x → Any P (x ∷ xs)
any_here P x xs is = (0, x, omega arith, refl, is)

pub first_is_named : (holds : List ℕ → Option (List ℕ)) (P : List ℕ → Type 0) (names : List (List ℕ)) → IsFirst holds P names → Any P names
first_is_named holds P [] is = absurd is
first_is_named holds P (name ∷ names) (inl here) = any_here P name names here
first_is_named holds P (name ∷ names) (inr there) = any_there P name names (first_is_named holds P names there.1)

large_here : (held : Option (List ℕ)) (others : Option (List NamedFile)) (name large : List ℕ) → name ≡ large → IfSome held (λ all. MOST_BYTES < length all)
    → IfSome (option_and_then (λ bytes. option_map (λ files. record { name = name; bytes = bytes } ∷ files) others) held) (λ files. too_large files ≡ Some large)
large_here None others name large same is = tt
large_here (Some all) None name large same is = tt
large_here (Some all) (Some files) name large same is = rw (lt-ltb MOST_BYTES (length all) is, same) refl

large_behind : (held : Option (List ℕ)) (others : Option (List NamedFile)) (name large : List ℕ) → IfSome held (λ all. length all ≤ MOST_BYTES) → IfSome others (λ files. too_large files ≡ Some large)
    → IfSome (option_and_then (λ bytes. option_map (λ files. record { name = name; bytes = bytes } ∷ files) others) held) (λ files. too_large files ≡ Some large)
large_behind None others name large few rest = tt
large_behind (Some all) None name large few rest = tt
large_behind (Some all) (Some files) name large few rest = rw (le-ltb MOST_BYTES (length all) few) rest

pub large_is_told : (holds : List ℕ → Option (List ℕ)) (names : List (List ℕ)) (large : List ℕ) → IsFirstTooLarge holds names large → IfSome (told holds names) (λ files. too_large files ≡ Some large)
large_is_told holds [] large is = absurd is
large_is_told holds (name ∷ names) large (inl here) = large_here (holds name) (told holds names) name large here.0 here.1
large_is_told holds (name ∷ names) large (inr there) = large_behind (holds name) (told holds names) name large there.0 (large_is_told holds names large there.1)

-- ---- files that were all loaded

told_next : (held : Option (List ℕ)) (others : Option (List NamedFile)) (name : List ℕ) (file : LoadedFile) (rest : List NamedFile) → file.name.now ≡ name → IfSome held (λ all. file.bytes.items ≡ all)
    → IfSome others (λ files. files ≡ rest) → IfSome (option_and_then (λ bytes. option_map (λ files. record { name = name; bytes = bytes } ∷ files) others) held) (λ files. files ≡ named_file file ∷ rest)
told_next None others name file rest named whole same = tt
told_next (Some all) None name file rest named whole same = tt
told_next (Some all) (Some files) name file rest named whole same = rw (named, whole, same) refl

pub loaded_are_told : (holds : List ℕ → Option (List ℕ)) (names : List (List ℕ)) (files : List LoadedFile) → AllZip (IsLoaded holds) names files → IfSome (told holds names) (λ all. all ≡ map named_file files)
loaded_are_told holds [] [] loaded = refl
loaded_are_told holds [] (file ∷ files) loaded = absurd loaded
loaded_are_told holds (name ∷ names) [] loaded = absurd loaded
loaded_are_told holds (name ∷ names) (file ∷ files) loaded =
    told_next (holds name) (told holds names) name file (map named_file files) loaded.0.name_is loaded.0.whole (loaded_are_told holds names files loaded.1)

pub loaded_are_small : (holds : List ℕ → Option (List ℕ)) (names : List (List ℕ)) (files : List LoadedFile) → AllZip (IsLoaded holds) names files → too_large (map named_file files) ≡ None
loaded_are_small holds [] [] loaded = refl
loaded_are_small holds [] (file ∷ files) loaded = absurd loaded
loaded_are_small holds (name ∷ names) [] loaded = absurd loaded
loaded_are_small holds (name ∷ names) (file ∷ files) loaded = rw (le-ltb MOST_BYTES (length file.bytes.items) loaded.0.size) (loaded_are_small holds names files loaded.1)

pub loaded_as_long : (holds : List ℕ → Option (List ℕ)) (names : List (List ℕ)) (files : List LoadedFile) → AllZip (IsLoaded holds) names files → length files ≡ length names
loaded_as_long holds [] [] loaded = refl
loaded_as_long holds [] (file ∷ files) loaded = absurd loaded
loaded_as_long holds (name ∷ names) [] loaded = absurd loaded
loaded_as_long holds (name ∷ names) (file ∷ files) loaded = ap suc (loaded_as_long holds names files loaded.1)

-- the file at a place has one of the names
pub named_at : (holds : List ℕ → Option (List ℕ)) (names : List (List ℕ)) (files : List LoadedFile) (i : ℕ) → AllZip (IsLoaded holds) names files → i < length names
    → Any (λ n. n ≡ (file_at (map named_file files) i).name) names
named_at holds [] files i loaded below = let none : ⊥ = omega (arith, below) in absurd none
named_at holds (name ∷ names) [] i loaded below = absurd loaded
named_at holds (name ∷ names) (file ∷ files) zero loaded below = any_here (λ n. n ≡ file.name.now) name names (sym loaded.0.name_is)
named_at holds (name ∷ names) (file ∷ files) (suc i) loaded below =
    any_there (λ n. n ≡ (file_at (map named_file files) i).name) name names (named_at holds names files i loaded.1 (omega (arith, below)))

-- ---- one file more

-- the names up to one are those before it, and it
front_is : (names : List (List ℕ)) (i : ℕ) (name : List ℕ) → i < length names → name ≡ get_or names i name → take i names ++ name ∷ [] ≡ take (i + 1) names
front_is names i name below is = ap (λ (n : List ℕ). take i names ++ n ∷ []) is ∙ sym (take_more names i name below)

whole_is : (names : List (List ℕ)) (i : ℕ) (name : List ℕ) → i < length names → name ≡ get_or names i name → take i names ++ name ∷ drop (i + 1) names ≡ names
whole_is names i name below is =
    sym (append_assoc (take i names) (name ∷ []) (drop (i + 1) names)) ∙ ap (λ (front : List (List ℕ)). front ++ drop (i + 1) names) (front_is names i name below is) ∙ take-append-drop (i + 1) names

pub left_step : (holds : List ℕ → Option (List ℕ)) (names : List (List ℕ)) (i : ℕ) (name : List ℕ) (old between new : Option (List ℕ)) → i < length names → name ≡ get_or names i name
    → SomeLeft holds old between (take i names) → IsLeftAfter (MOST_BYTES + 1) (holds name) between new → SomeLeft holds old new (take (i + 1) names)
left_step holds names i name old between new below is before left =
    subst (SomeLeft holds old new) (front_is names i name below is) (left_next holds (take i names) name old between new before left)

pub left_of_all : (holds : List ℕ → Option (List ℕ)) (names : List (List ℕ)) (n : ℕ) (old new : Option (List ℕ)) → SomeLeft holds old new (take n names) → SomeLeft holds old new names
left_of_all holds names n old new left = subst (SomeLeft holds old new) (take-append-drop n names) (left_more holds (take n names) (drop n names) old new left)

zip_push : {A B : Type 0} (R : A → B → Type 0) (xs : List A) (ys : List B) (x : A) (y : B) → AllZip R xs ys → R x y → AllZip R (xs ++ x ∷ []) (ys ++ y ∷ [])
zip_push R [] [] x y all is = (is, tt)
zip_push R [] (b ∷ ys) x y all is = absurd all
zip_push R (a ∷ xs) [] x y all is = absurd all
zip_push R (a ∷ xs) (b ∷ ys) x y all is = (all.0, zip_push R xs ys x y all.1 is)

pub loaded_step : (holds : List ℕ → Option (List ℕ)) (names : List (List ℕ)) (files : List LoadedFile) (i : ℕ) (name : List ℕ) (file : LoadedFile) → i < length names → name ≡ get_or names i name
    → AllZip (IsLoaded holds) (take i names) files → IsLoaded holds name file → AllZip (IsLoaded holds) (take (i + 1) names) (files ++ file ∷ [])
loaded_step holds names files i name file below is before loaded =
    subst (λ (front : List (List ℕ)). AllZip (IsLoaded holds) front (files ++ file ∷ [])) (front_is names i name below is) (zip_push (IsLoaded holds) (take i names) files name file before loaded)

-- a fault since a later moment is one since an earlier one
pub rose_since : (first before now : ℕ) → first ≤ before → Rose before now → Rose first now
rose_since first before now later rose = omega (arith, later, rose)

pub reason_since : (held same : Option (List ℕ)) (Late Early : Type 0) (name : List ℕ) (stop : Stop) → held ≡ same → (Late → Early) → HasLoadReason held Late name stop → HasLoadReason same Early name stop
reason_since held same Late Early name (Grammar other e) is earlier reason = reason
reason_since held same Late Early name (ReadFault other) is earlier reason = (reason.0, earlier reason.1)
reason_since held same Late Early name (TooLarge other) is earlier reason = (reason.0, subst (λ (o : Option (List ℕ)). IfSome o (λ all. MOST_BYTES < length all)) is reason.1)
reason_since held same Late Early name NoMemory is earlier reason = reason

-- what stops the load of one of the files stops that of all
pub stops_all : (holds : List ℕ → Option (List ℕ)) (Faulty : List ℕ → Type 0) (names : List (List ℕ)) (files : List LoadedFile) (i : ℕ) (name : List ℕ) (stop : Stop) → i < length names → name ≡ get_or names i name
    → AllZip (IsLoaded holds) (take i names) files → HasLoadReason (holds name) (Faulty name) name stop → HasLoadReasons holds Faulty names stop
stops_all holds Faulty names files i name (Grammar other e) below is before reason = absurd reason
stops_all holds Faulty names files i name (ReadFault other) below is before reason =
    subst (IsFirst holds (λ n. (n ≡ other.now) × Faulty n)) (whole_is names i name below is)
    (first_of holds (λ n. (n ≡ other.now) × Faulty n) (take i names) files name (drop (i + 1) names) before (sym reason.0, reason.1))
stops_all holds Faulty names files i name (TooLarge other) below is before reason =
    subst (IsFirst holds (λ n. (n ≡ other.now) × IfSome (holds n) (λ all. MOST_BYTES < length all))) (whole_is names i name below is)
    (first_of holds (λ n. (n ≡ other.now) × IfSome (holds n) (λ all. MOST_BYTES < length all)) (take i names) files name (drop (i + 1) names) before (sym reason.0, reason.1))
stops_all holds Faulty names files i name NoMemory below is before reason = tt
