-- Files that are read in batches.
use Rattle.std.proofs.Common.{◌≡◌, ◌∙◌, ℕ, List, [], ◌∷◌, ◌++◌, All, flat_map, length, sym, ap, ap₂, subst, arith, append_assoc}
use Rattle.std.proofs.lemmas.List.{append-nil, map-append}
use Rattle.std.proofs.lemmas.List.Concat.{flat_map-append}
use Rattle.std.proofs.lemmas.List.Elements.{All-append, All-cons, All-head, All-nil, All-tail}
use Rattle.std.specs.Prelude.{string_bytes}
use Rattle.std.specs.declared.alloc.Global.{Global}
use Rattle.std.specs.declared.string.String.{String}
use Rattle.go_graph_core.specs.Sources.{IsRead, SourceModel}
use Rattle.go_graph_core.specs.Workspaces.{given_files, texts_of_files}
use Rattle.govisd_disk.specs.declared.at_once.reading.Batch.{Batch}
use Rattle.govisd_disk.specs.at_once.Batches.{IsSound, batch_of}
use Rattle.govisd_disk.specs.at_once.Reading.{AreReadOf}

-- a name with a text
abbrev pub GivenFile : Type 0
GivenFile = String Global × String Global

abbrev pair_of : GivenFile → List ℕ × List ℕ
pair_of f = (string_bytes f.0, string_bytes f.1)

given_more : (fs gs : List GivenFile) → given_files (fs ++ gs) ≡ given_files fs ++ given_files gs
given_more fs gs = map-append pair_of fs gs

texts_more : (fs gs : List SourceModel) → texts_of_files (fs ++ gs) ≡ texts_of_files fs ++ texts_of_files gs
texts_more fs gs = map-append (λ (s : SourceModel). (s.name, s.text)) fs gs

-- one more batch
batches_more : (bs : List Batch) (b : Batch) → flat_map batch_of (bs ++ b ∷ []) ≡ flat_map batch_of bs ++ batch_of b
batches_more bs b = flat_map-append batch_of bs (b ∷ []) ∙ ap (λ l. flat_map batch_of bs ++ l) (append-nil (batch_of b))

-- of some files those of these batches are given away, these are for the next batch, and these are left
pub record AreCut (bs : List Batch) (next left all : List GivenFile) : Type 0 where
  pub files : flat_map batch_of bs ++ (given_files next ++ given_files left) ≡ given_files all
  pub sound : All IsSound bs

pub cut_none : (bs : List Batch) (next left all : List GivenFile) → bs ≡ [] → next ≡ [] → left ≡ all → AreCut bs next left all
cut_none bs next left all none empty same = record {
  files = ap₂ (λ (cs : List Batch) (l : List GivenFile). flat_map batch_of cs ++ (given_files l ++ given_files left)) none empty ∙ ap given_files same;
  sound = subst (All IsSound) (sym none) (All-nil IsSound);
}

-- one more file for the next batch
pub cut_more : (bs : List Batch) (next new left rest all : List GivenFile) (f : GivenFile) → AreCut bs next left all → left ≡ f ∷ rest → new ≡ next ++ f ∷ [] → AreCut bs new rest all
cut_more bs next new left rest all f is same more = record {
  files =
      ap (λ l. flat_map batch_of bs ++ l) (
      ap (λ (l : List GivenFile). given_files l ++ given_files rest) more
      ∙ (ap (λ l. l ++ given_files rest) (given_more next (f ∷ [])) ∙ append_assoc (given_files next) (given_files (f ∷ [])) (given_files rest))
      ∙ ap (λ (l : List GivenFile). given_files next ++ given_files l) (sym same)
      )
      ∙ is.files;
  sound = is.sound;
}

-- the next batch is given away
pub cut_batch : (bs new : List Batch) (next empty left all : List GivenFile) (b : Batch) → AreCut bs next left all → new ≡ bs ++ b ∷ [] → batch_of b ≡ given_files next → IsSound b → empty ≡ [] → AreCut new empty left all
cut_batch bs new next empty left all b is more same sound none = record {
  files =
      ap₂ (λ (cs : List Batch) (l : List GivenFile). flat_map batch_of cs ++ (given_files l ++ given_files left)) more none
      ∙ (ap (λ l. l ++ given_files left) (batches_more bs b ∙ ap (λ l. flat_map batch_of bs ++ l) same) ∙ append_assoc (flat_map batch_of bs) (given_files next) (given_files left))
      ∙ is.files;
  sound = subst (All IsSound) (sym more) (All-append IsSound bs (b ∷ []) is.sound (All-cons IsSound b [] sound (All-nil IsSound)));
}

-- all files are given away
pub cut_all : (bs : List Batch) (next left all : List GivenFile) → AreCut bs next left all → next ≡ [] → length left ≡ 0 → (flat_map batch_of bs ≡ given_files all) × All IsSound bs
cut_all bs next [] all is none done = (sym (append-nil (flat_map batch_of bs)) ∙ (ap (λ (l : List GivenFile). flat_map batch_of bs ++ (given_files l ++ [])) (sym none) ∙ is.files), is.sound)
cut_all bs next (f ∷ left) all is none done = absurd (omega (arith, done))

-- of the files of batches these are there, and those of these batches are to come
pub record AreEnded (got : List SourceModel) (left all : List Batch) : Type 0 where
  pub files : texts_of_files got ++ flat_map batch_of left ≡ flat_map batch_of all
  pub read : All IsRead got
  pub sound : All IsSound left

pub ended_none : (got : List SourceModel) (left all : List Batch) → got ≡ [] → left ≡ all → All IsSound all → AreEnded got left all
ended_none got left all none same sound = record {
  files = ap (λ (l : List SourceModel). texts_of_files l ++ flat_map batch_of left) none ∙ ap (flat_map batch_of) same;
  read = subst (All IsRead) (sym none) (All-nil IsRead);
  sound = subst (All IsSound) (sym same) sound;
}

-- the next batch is sound
pub next_sound : (got : List SourceModel) (left rest all : List Batch) (b : Batch) → AreEnded got left all → left ≡ b ∷ rest → IsSound b
next_sound got left rest all b is same = All-head IsSound b rest (subst (All IsSound) same is.sound)

-- its files are there
pub ended_more : (got new more : List SourceModel) (left rest all : List Batch) (b : Batch) → AreEnded got left all → left ≡ b ∷ rest → AreReadOf (batch_of b) more → new ≡ got ++ more → AreEnded new rest all
ended_more got new more left rest all b is same came grown = record {
  files =
      ap (λ (l : List SourceModel). texts_of_files l ++ flat_map batch_of rest) grown
      ∙ (ap (λ l. l ++ flat_map batch_of rest) (texts_more got more ∙ ap (λ l. texts_of_files got ++ l) came.0) ∙ append_assoc (texts_of_files got) (batch_of b) (flat_map batch_of rest))
      ∙ ap (λ (l : List Batch). texts_of_files got ++ flat_map batch_of l) (sym same)
      ∙ is.files;
  read = subst (All IsRead) (sym grown) (All-append IsRead got more is.read came.1);
  sound = All-tail IsSound b rest (subst (All IsSound) same is.sound);
}

-- all files are there
pub ended_all : (got : List SourceModel) (left all : List Batch) → AreEnded got left all → length left ≡ 0 → AreReadOf (flat_map batch_of all) got
ended_all got [] all is done = (sym (append-nil (texts_of_files got)) ∙ is.files, is.read)
ended_all got (b ∷ left) all is done = absurd (omega (arith, done))
