-- What split code and refusals are, by what the pass found.
use Rattle.std.proofs.Common.{◌≡◌, ◌≢◌, ◌⊎◌, ◌↔◌, ℕ, Bool, true, false, ◌==◌, if◌then◌else◌, List, [], ◌∷◌, length, Option, Some, None, Result, Ok, Err, refl, sym, ap, ◌∙◌, subst, inl, inr, eq-eqb, ne_eqb}
use Rattle.std.specs.BTreeMap.{BTreeMap}
use Rattle.std.proofs.lemmas.Bool.{false≢true}
use Rattle.op_table.specs.Instruction.{Instruction}
use Rattle.bk_codec.specs.Reading.{Fails}
use Rattle.func_split.specs.declared.refusal.FunctionWhy.{FunctionWhy}
use Rattle.func_split.specs.declared.refusal.FunctionWhy.TheVariants as whys
use Rattle.func_split.specs.declared.refusal.SplitRefusal.{SplitRefusal}
use Rattle.func_split.specs.declared.refusal.SplitRefusal.TheVariants as refusals
use Rattle.func_split.specs.declared.splitting.Extent.{Extent}
use Rattle.func_split.specs.Marks.{marks_of}
use Rattle.func_split.specs.Functions.{IsSplit, IsSplitCode, Piece, SplitValue}
use Rattle.func_split.specs.Fronts.{ArePieces, TellsFirst}
use Rattle.func_split.specs.Reading.{counted, first_fault, or_split, pieces_of, split_of, split_value}
use Rattle.func_split.specs.Refused.{IsRefused, IsTold}
use Rattle.func_split.proofs.Standing.{length-pieces_of}

-- ---- the reading

-- an answer, with its type
abbrev split_as : SplitValue → Result SplitValue SplitRefusal
split_as s = Ok s

abbrev refused_as : SplitRefusal → Result SplitValue SplitRefusal
refused_as e = Err e

pub reads_empty : (labels count : ℕ) (code : List Instruction) → code ≡ [] → split_of labels count code ≡ Err (refusals.Functions 0 whys.Start)
unfolding split_of
reads_empty labels count [] e = refl
reads_empty labels count (i ∷ code) e = absurd cc

pub reads_told : (labels count : ℕ) (code : List Instruction) (told : ℕ × FunctionWhy) → first_fault labels [] (marks_of code) ≡ Some told → split_of labels count code ≡ Err (refusals.Functions told.0 told.1)
unfolding split_of
reads_told labels count [] told e = absurd cc
reads_told labels count (i ∷ code) told e = ap (λ (o : Option (ℕ × FunctionWhy)). or_split o (counted count (split_value labels (i ∷ code)))) e

reads_sound : (labels count : ℕ) (code : List Instruction) → code ≢ [] → first_fault labels [] (marks_of code) ≡ None → split_of labels count code ≡ counted count (split_value labels code)
unfolding split_of
reads_sound labels count [] some e = absurd (some refl)
reads_sound labels count (i ∷ code) some e = ap (λ (o : Option (ℕ × FunctionWhy)). or_split o (counted count (split_value labels (i ∷ code)))) e

reads_found : (labels count : ℕ) (code : List Instruction) (found : List Extent) (places : BTreeMap ℕ ℕ) → code ≢ [] → ArePieces labels (marks_of code) found places → split_of labels count code ≡ counted count (record { instrs = code; labels = labels; functions = pieces_of code found })
reads_found labels count code found places some is =
    reads_sound labels count code some is.sound
    ∙ ap (λ (es : List Extent). counted count (record { instrs = code; labels = labels; functions = pieces_of code es })) (sym is.extents_are)

-- what the pass found in a list that is the code, of which there is some
pub record Found (labels : ℕ) (code : List Instruction) (found : List Extent) (places : BTreeMap ℕ ℕ) : Type 0 where
  pub some : code ≢ []
  pub pieces : ArePieces labels (marks_of code) found places

pub found_in : (labels : ℕ) (code given : List Instruction) (found : List Extent) (places : BTreeMap ℕ ℕ) (empty : Bool) → (code ≡ [] → empty ≡ true) → empty ≡ false → given ≡ code → ArePieces labels (marks_of given) found places → Found labels code found places
found_in labels code given found places empty tells not_empty same pieces = record {
  some = λ e. false≢true (sym not_empty ∙ tells e);
  pieces = subst (λ (instrs : List Instruction). ArePieces labels (marks_of instrs) found places) same pieces;
}

pub reads_split : (labels count : ℕ) (code : List Instruction) (found : List Extent) (places : BTreeMap ℕ ℕ) → Found labels code found places → length found ≡ count → split_of labels count code ≡ Ok (record { instrs = code; labels = labels; functions = pieces_of code found })
reads_split labels count code found places is e =
    let s : SplitValue = record { instrs = code; labels = labels; functions = pieces_of code found } in
    let test : (length s.functions == count) ≡ true = eq-eqb (length s.functions) count (length-pieces_of code found ∙ e) in
    reads_found labels count code found places is.some is.pieces
    ∙ ap (λ (b : Bool). if b then split_as s else refused_as (refusals.Functions 0 whys.Count)) test

pub reads_miscounted : (labels count : ℕ) (code : List Instruction) (found : List Extent) (places : BTreeMap ℕ ℕ) → Found labels code found places → length found ≢ count → split_of labels count code ≡ Err (refusals.Functions 0 whys.Count)
reads_miscounted labels count code found places is differs =
    let s : SplitValue = record { instrs = code; labels = labels; functions = pieces_of code found } in
    let test : (length s.functions == count) ≡ false = ne_eqb (length s.functions) count (λ e. differs (sym (length-pieces_of code found) ∙ e)) in
    reads_found labels count code found places is.some is.pieces
    ∙ ap (λ (b : Bool). if b then split_as s else refused_as (refusals.Functions 0 whys.Count)) test

-- ---- the clauses, by the laws

abbrev pub Accepts : Type 0
Accepts = (labels count : ℕ) (code : List Instruction) (s : SplitValue) → (split_of labels count code ≡ Ok s) ↔ IsSplitCode labels count code s

abbrev pub Refuses : Type 0
Refuses = (labels count : ℕ) (code : List Instruction) (place : ℕ) (why : FunctionWhy) → (split_of labels count code ≡ Err (refusals.Functions place why)) ↔ IsRefused labels count code place why

-- what is refused is not split
pub only_of : (labels count : ℕ) (code : List Instruction) (e : SplitRefusal) → Accepts → Fails refusals.NoMemory e (split_of labels count code) → (functions : List Piece) → IsSplit labels code functions → length functions ≡ count → e ≡ refusals.NoMemory
only_of labels count code e accepts (inl memory) functions split counts = memory
only_of labels count code e accepts (inr read) functions split counts =
    let s : SplitValue = record { instrs = code; labels = labels; functions = functions } in
    let ok : split_of labels count code ≡ split_as s = (accepts labels count code s).1 (record { instrs_are = refl; labels_are = refl; split = split; count_is = counts }) in
    let both : split_as s ≡ refused_as e = sym ok ∙ read in
    absurd cc

pub told_of : (labels count : ℕ) (code : List Instruction) (e : SplitRefusal) → Refuses → Fails refusals.NoMemory e (split_of labels count code) → (e ≡ refusals.NoMemory) ⊎ IsTold labels count code e
told_of labels count code e refuses (inl memory) = inl memory
told_of labels count code refusals.NoMemory refuses (inr read) = inl refl
told_of labels count code (refusals.Functions place why) refuses (inr read) = inr ((refuses labels count code place why).0 read)

-- a refusal of the pass is that of the reading
pub fails_of : (labels count : ℕ) (code : List Instruction) (e : SplitRefusal) → (e ≡ refusals.NoMemory) ⊎ TellsFirst labels (marks_of code) e → Fails refusals.NoMemory e (split_of labels count code)
fails_of labels count code e (inl memory) = inl memory
fails_of labels count code e (inr tells) = inr (reads_told labels count code tells.0 tells.1 ∙ ap (λ (f : SplitRefusal). refused_as f) (sym tells.2))
