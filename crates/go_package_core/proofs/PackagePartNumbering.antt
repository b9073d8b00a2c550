-- What stands in the files of a package, one more.
use Rattle.std.proofs.Common.{◌≡◌, ℕ, zero, suc, ◌+◌, ◌<◌, ◌≤◌, List, [], ◌∷◌, ◌++◌, length, map, take, drop, Some, refl, sym, ap, subst, ◌∙◌, arith}
use Rattle.std.specs.Prelude.{Vec, vec_len, slice_get, option_map}
use Rattle.std.specs.Global.{Global}
use Rattle.std.proofs.lemmas.List.{length-map, map-append, take_all}
use Rattle.go_tree_nodes.specs.Trees.{FileTree}
use Rattle.go_package_core.proofs.Steps.{trees_within}
use Rattle.go_block_core.specs.graph_core.Lists.{AllNumbered}
use Rattle.go_block_core.specs.graph_core.Packages.{trees_of, tree_shown}
use Rattle.go_block_core.specs.graph_core.Workspaces.{PackageModel}
use Rattle.go_block_core.specs.Blocks.{BlocksModel}
use Rattle.go_block_core.proofs.GivenSteps.{numbered_next}
use Rattle.go_package_core.specs.prepare.Packages.{trees_in}
use Rattle.go_package_core.specs.Checked.{AnswersOf, answers_shown}
use Rattle.go_package_core.specs.declared.checked.FileAnswers.{FileAnswers}
use Rattle.go_package_core.specs.declared.package_part.files.PartFile.{PartFile}
use Rattle.go_package_core.specs.package_part.Parts.{AreFilesMade, FileOf, IsFileMade, IsFileMadeIn, file_shown}

-- the item where a list is cut
pub at_cut : {A : Type 0} (xs : List A) (n : ℕ) (x : A) (rest : List A) → drop n xs ≡ x ∷ rest → slice_get xs n ≡ Some x
at_cut [] zero x rest e = cc
at_cut [] (suc n) x rest e = cc
at_cut (y ∷ ys) zero x rest e = (let same : y ≡ x = cc in ap Some same)
at_cut (y ∷ ys) (suc n) x rest e = at_cut ys n x rest e

pub behind_cut : {A : Type 0} (xs : List A) (n : ℕ) (x : A) (rest : List A) → drop n xs ≡ x ∷ rest → drop (n + 1) xs ≡ rest
behind_cut xs n x rest e = (let next : suc n ≡ n + 1 = omega arith in subst (λ (m : ℕ). drop m xs ≡ rest) next (by xs n e))
  where
    by : {A : Type 0} {x : A} {rest : List A} (xs : List A) (n : ℕ) → drop n xs ≡ x ∷ rest → drop (suc n) xs ≡ rest
    by [] zero e = cc
    by [] (suc n) e = cc
    by (y ∷ ys) zero e = cc
    by (y ∷ ys) (suc n) e = by ys n e

-- what is made of the first files, with what is left of the check
pub record SoFar (b : BlocksModel) (trees : List FileTree) (all left : List AnswersOf) (made : List FileOf) : Type 0 where
  pub files : AllNumbered (IsFileMadeIn b all) 0 (take (length made) trees) made
  pub rest : drop (length made) all ≡ left

below : {A : Type 0} {x : A} (xs : List A) (n : ℕ) → slice_get xs n ≡ Some x → n < length xs
below [] n e = cc
below (y ∷ ys) zero e = omega arith
below (y ∷ ys) (suc n) e = (let rest = below ys n e in omega (arith, rest))

length_push : {A : Type 0} (xs : List A) (x : A) → length (xs ++ x ∷ []) ≡ length xs + 1
length_push [] x = refl
length_push (y ∷ ys) x = (let rest = length_push ys x in omega (arith, rest))

pub file_more : (b : BlocksModel) (trees : List FileTree) (all left : List AnswersOf) (a : AnswersOf) (made : List FileOf) (m : FileOf) (f : FileTree) → length all ≡ length trees
    → slice_get trees (length made) ≡ Some f → SoFar b trees all (a ∷ left) made → IsFileMade b (length made) f a m → SoFar b trees all left (made ++ m ∷ [])
file_more b trees all left a made m f many tree before h =
    let n = length made in
    let next : length (made ++ m ∷ []) ≡ n + 1 = length_push made m in
    let within : n < length trees = below trees n tree in
    let there = at_cut all n a left before.rest in
    record {
      files =
          subst (λ (k : ℕ). AllNumbered (IsFileMadeIn b all) 0 (take k trees) (made ++ m ∷ [])) (sym next)
          (numbered_next (IsFileMadeIn b all) trees made (made ++ m ∷ []) n m within before.files (λ x e. (let same : f ≡ x = cc in record { checked = a; there = there; made_of = subst (λ t. IsFileMade b n t a m) same h })) refl);
      rest = ap (λ (k : ℕ). drop k all) next ∙ behind_cut all n a left before.rest;
    }

-- all of them
pub files_all : (b : BlocksModel) (trees : List FileTree) (all : List AnswersOf) (made : List FileOf) → length all ≡ length trees → SoFar b trees all [] made → AreFilesMade b trees all made
files_all b trees all made many h =
    let end : length all ≤ length made = none_left all (length made) h.rest in
    subst (λ l. AllNumbered (IsFileMadeIn b all) 0 l made) (take_all (length made) trees (omega (arith, end, many))) h.files
  where
    none_left : {A : Type 0} (xs : List A) (n : ℕ) → drop n xs ≡ [] → length xs ≤ n
    none_left [] n e = omega arith
    none_left (x ∷ xs) zero e = cc
    none_left (x ∷ xs) (suc n) e = (let rest = none_left xs n e in omega (arith, rest))

-- the same over what the code holds

-- what is left of the check, as contracts see it
abbrev Making : BlocksModel → PackageModel → List FileAnswers → List FileAnswers → List PartFile → Type 0
Making b p checked left files = SoFar b (trees_in p) (map answers_shown checked) (map answers_shown left) (map file_shown files)

take_none : {A : Type 0} (xs : List A) → take 0 xs ≡ []
take_none [] = refl
take_none (x ∷ xs) = refl

drop_none : {A : Type 0} (xs : List A) → drop 0 xs ≡ xs
drop_none [] = refl
drop_none (x ∷ xs) = refl

pub at_start : (b : BlocksModel) (p : PackageModel) (checked left : List FileAnswers) (files : List PartFile) → files ≡ [] → left ≡ checked
    → SoFar b (trees_in p) (map answers_shown checked) (map answers_shown left) (map file_shown files)
at_start b p checked left files none all =
    subst (λ l. Making b p checked left l) (sym none) (subst (λ l. Making b p checked l []) (sym all)
    (let before : Making b p checked checked [] = record { files = subst (λ l. AllNumbered (IsFileMadeIn b (map answers_shown checked)) 0 l []) (sym (take_none (trees_in p))) tt; rest = drop_none (map answers_shown checked) } in before))

shown_there : (ts : List (List ℕ × FileTree)) (n : ℕ) → slice_get (map tree_shown ts) n ≡ option_map tree_shown (slice_get ts n)
shown_there [] n = refl
shown_there (t ∷ ts) zero = refl
shown_there (t ∷ ts) (suc n) = shown_there ts n

pub one_more : (b : BlocksModel) (p : PackageModel) (checked left next : List FileAnswers) (a : FileAnswers) (files new : List PartFile) (file : ℕ) (f : FileTree) (m : PartFile)
    → length checked ≡ length (trees_in p) → file ≡ length files → option_map tree_shown (slice_get (trees_of p.1) file) ≡ Some f → left ≡ a ∷ next → new ≡ files ++ m ∷ []
    → IsFileMade b file f (answers_shown a) (file_shown m) → SoFar b (trees_in p) (map answers_shown checked) (map answers_shown left) (map file_shown files)
    → SoFar b (trees_in p) (map answers_shown checked) (map answers_shown next) (map file_shown new)
one_more b p checked left next a files new file f m many count tree first added here before =
    let number : length (map file_shown files) ≡ file = length-map files file_shown ∙ sym count in
    let at : slice_get (trees_in p) file ≡ Some f = shown_there (trees_of p.1) file ∙ tree in
    let all : length (map answers_shown checked) ≡ length (trees_in p) = length-map checked answers_shown ∙ many in
    let made =
    file_more b (trees_in p) (map answers_shown checked) (map answers_shown next) (answers_shown a) (map file_shown files) (file_shown m) f all (subst (λ (k : ℕ). slice_get (trees_in p) k ≡ Some f) (sym number) at)
    (subst (λ l. Making b p checked l files) first before) (subst (λ (k : ℕ). IsFileMade b k f (answers_shown a) (file_shown m)) (sym number) here) in
    subst (λ l. SoFar b (trees_in p) (map answers_shown checked) (map answers_shown next) l) (sym (ap (map file_shown) added ∙ map-append file_shown files (m ∷ []))) made

-- as many as the code counts
pub counted : (files : Vec PartFile Global) (n : ℕ) → n ≡ vec_len files → n ≡ length files.items
counted files n is = (let held = files.ok.0 in omega (arith, is, held))

-- there is a file of this number
pub file_within : (b : BlocksModel) (p : PackageModel) (checked left next : List FileAnswers) (a : FileAnswers) (files : List PartFile) (file : ℕ)
    → length checked ≡ length (trees_in p) → file ≡ length files → left ≡ a ∷ next → SoFar b (trees_in p) (map answers_shown checked) (map answers_shown left) (map file_shown files) → file < length p.1
file_within b p checked left next a files file many count first before =
    let number = length-map files file_shown in
    let cut = at_cut (map answers_shown checked) (length (map file_shown files)) (answers_shown a) (map answers_shown next) (before.rest ∙ ap (map answers_shown) first) in
    let within = below (map answers_shown checked) (length (map file_shown files)) cut in
    let all = length-map checked answers_shown in
    let trees = length-map (trees_of p.1) tree_shown in
    let sources = trees_within p.1 in
    omega (arith, number, count, within, all, many, trees, sources)

pub at_end : (b : BlocksModel) (p : PackageModel) (checked left : List FileAnswers) (files : List PartFile) → length checked ≡ length (trees_in p) → left ≡ []
    → SoFar b (trees_in p) (map answers_shown checked) (map answers_shown left) (map file_shown files) → AreFilesMade b (trees_in p) (map answers_shown checked) (map file_shown files)
at_end b p checked left files many none before = files_all b (trees_in p) (map answers_shown checked) (map file_shown files) (length-map checked answers_shown ∙ many) (subst (λ l. Making b p checked l files) none before)
