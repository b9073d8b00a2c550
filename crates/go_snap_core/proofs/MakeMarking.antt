-- What earlier parts tell, and marks of what they tell.
use Rattle.std.proofs.Common.{◌≡◌, ◌≢◌, ℕ, zero, suc, ◌+◌, ◌<◌, ◌⊎◌, inl, inr, Bool, true, false, List, [], ◌∷◌, All, length, map, take, get_or, Option, Some, None, refl, sym, ap, ap₂, subst, ◌∙◌, arith}
use Rattle.std.specs.Prelude.{◌↔◌, IsTrue, MatchOption, slice_get, slice_set, replicate}
use Rattle.std.specs.Borrow.{Bor}
use Rattle.std.specs.List.{AllZip}
use Rattle.std.proofs.lemmas.Bool.{cases_eq}
use Rattle.std.proofs.lemmas.List.{length-set, length-replicate, get_or-set_same, get_or-set_other, take_more}
use Rattle.std.proofs.lemmas.List.Elements.{All-cons, All-head, All-nil, All-push, All-tail}
use Rattle.std.proofs.lemmas.Option.{slice_get_within, slice_get-get_or, get_or_from_slice_get}
use Rattle.go_graph_core.proofs.OutcomeLaws.{all_at_place}
use Rattle.go_graph_core.specs.Workspaces.{PackageModel, AreAllRead, IsWorkspace}
use Rattle.go_digraph_core.specs.reach.Numbers.{Numbers}
use Rattle.go_report_core.specs.summary_core.Summaries.{SummaryModel, path_of}
use Rattle.go_emit_core.specs.package_core.PackagePartInputs.{InputModel, input_with, path_in}
use Rattle.go_emit_core.specs.package_core.PackagePartParts.{IsPart, PartModel}
use Rattle.go_snap_core.specs.whole_workspace.Inputs.{AreParts, Tells}
use Rattle.go_snap_core.specs.whole_workspace.mirrors.Steps.{AreRight, AreToldBySet}
use Rattle.go_snap_core.proofs.WholeWorkspaceLists.{all_from_among, one_at, zip_of, zip_weaker}
use Rattle.go_snap_core.proofs.WholeWorkspaceParts.{path_told, told_apart, told_once}
use Rattle.go_snap_core.proofs.WholeWorkspacePartsWhole.{all_right}
use Rattle.go_snap_core.specs.make.Finding.{IsPartAt}
use Rattle.go_snap_core.specs.make.Keeping.{AreMarked, AreMarkedFor, IsMarked, WasThere, WasTold}
use Rattle.go_snap_core.specs.make.mirrors.Marking.{AllMarked, LookAlike}
use Rattle.go_snap_core.proofs.MakeFinding.{one_part_at}
use Rattle.go_snap_core.proofs.MakeTelling.{nothing_at}

-- a list with one item set
module _ {A : Type 0} (xs : List A) (n : ℕ) (x : A) (lt : n < length xs) where
  pub set_at : slice_get (slice_set xs n x) n ≡ Some x
  set_at = slice_get-get_or (slice_set xs n x) n x (omega (arith, length-set xs n x, lt)) ∙ ap Some (get_or-set_same xs n x x lt)

  pub set_beside : (k : ℕ) (y : A) → k ≢ n → slice_get xs k ≡ Some y → slice_get (slice_set xs n x) k ≡ Some y
  set_beside k y ne at = slice_get-get_or (slice_set xs n x) k y (omega (arith, length-set xs n x, slice_get_within xs k y at)) ∙ ap Some (get_or-set_other xs n k x y ne ∙ get_or_from_slice_get xs k y y at)

  pub was_beside : (k : ℕ) (y : A) → k ≢ n → slice_get (slice_set xs n x) k ≡ Some y → slice_get xs k ≡ Some y
  was_beside k y ne at =
      slice_get-get_or xs k y (omega (arith, length-set xs n x, slice_get_within (slice_set xs n x) k y at))
      ∙ ap Some (sym (get_or-set_other xs n k x y ne) ∙ get_or_from_slice_get (slice_set xs n x) k y y at)

-- numbers that are marked

pub marked_none : (marks : List Bool) → AllMarked marks []
marked_none marks = All-nil (λ n. slice_get marks n ≡ Some true)

-- one number more
pub marked_more : (marks : List Bool) (numbers : List ℕ) (i n : ℕ) → i < length numbers → n ≡ get_or numbers i n → slice_get marks n ≡ Some true → AllMarked marks (take i numbers) → AllMarked marks (take (i + 1) numbers)
marked_more marks numbers i n lt is mark before =
    subst (AllMarked marks) (sym (take_more numbers i n lt)) (All-push (λ m. slice_get marks m ≡ Some true) (take i numbers) (get_or numbers i n) before (subst (λ m. slice_get marks m ≡ Some true) is mark))

-- one that is not
pub not_marked : (marks : List Bool) (numbers : List ℕ) (i n : ℕ) → i < length numbers → n ≡ get_or numbers i n → slice_get marks n ≡ Some false → AllMarked marks numbers → ⊥
not_marked marks numbers i n lt is mark all =
    let at : slice_get marks (get_or numbers i n) ≡ Some true = all i n lt in
    let same : Some false ≡ Some true = sym mark ∙ (ap (slice_get marks) is ∙ at) in
    cc

-- marks of summaries
module _ (before : List (Option PartModel)) (marks : List Bool) where
  -- where what a list of packages tells was told, all are marked
  pub all_marked : (numbers : List ℕ) (ss : List SummaryModel) → AllZip (IsMarked before marks) numbers ss → All (WasTold before) ss → AllMarked marks numbers
  all_marked [] [] z was = marked_none marks
  all_marked [] (s ∷ ss) z was = absurd z
  all_marked (n ∷ numbers) [] z was = absurd z
  all_marked (n ∷ numbers) (s ∷ ss) z was =
      let mark : z.0.mark ≡ true = z.0.says.1 (All-head (WasTold before) s ss was) in
      All-cons (λ m. slice_get marks m ≡ Some true) n numbers (z.0.at ∙ ap Some mark) (all_marked numbers ss z.1 (All-tail (WasTold before) s ss was))

  -- each number lies within the marks
  pub marks_within : (numbers : List ℕ) (ss : List SummaryModel) → AllZip (IsMarked before marks) numbers ss → All (λ (n : ℕ). n < length marks) numbers
  marks_within [] [] z = All-nil (λ (n : ℕ). n < length marks)
  marks_within [] (s ∷ ss) z = absurd z
  marks_within (n ∷ numbers) [] z = absurd z
  marks_within (n ∷ numbers) (s ∷ ss) z = All-cons (λ (m : ℕ). m < length marks) n numbers (slice_get_within marks n z.0.mark z.0.at) (marks_within numbers ss z.1)

  -- what the packages of a set tell is marked
  pub marked_for : (parts : List (Option PartModel)) (sets : List Numbers) (n : ℕ) (ss : List SummaryModel) → AreMarked before parts marks → AreToldBySet sets parts n ss → AreMarkedFor sets before marks n ss
  marked_for parts sets n ss are by = record {
    set = by.set;
    there = by.there;
    all = zip_weaker (Tells parts) (IsMarked before marks) by.set.members ss (λ m s at t. subst (IsMarked before marks m) (sym t.is) (are.each m t.of_part t.there)) by.told;
  }

-- marks of parts
module _ (before : List (Option PartModel)) where
  pub marks_none : (count : ℕ) (parts : List (Option PartModel)) (marks : List Bool) → parts ≡ replicate count None → length marks ≡ count → AreMarked before parts marks
  marks_none count parts marks is many = record {
    many = many ∙ sym (ap length is ∙ length-replicate {A = Option PartModel} count None);
    each = λ n part there. absurd (nothing_at count parts n part is there);
  }

  -- one mark more
  module _ (parts : List (Option PartModel)) (marks : List Bool) (are : AreMarked before parts marks) (n : ℕ) (part : PartModel) (lt : n < length parts) (mark : Bool) (says : IsTrue mark ↔ WasTold before part.content.summary) where
    below : n < length marks
    below = omega (arith, lt, are.many)

    mark_put : (k : ℕ) (q : PartModel) → slice_get (slice_set parts n (Some part)) k ≡ Some (Some q) → (k ≡ n) ⊎ (k ≢ n) → IsMarked before (slice_set marks n mark) k q.content.summary
    mark_put k q at (inl e) =
        let there : slice_get (slice_set parts n (Some part)) n ≡ Some (Some q) = subst (λ (m : ℕ). slice_get (slice_set parts n (Some part)) m ≡ Some (Some q)) e at in
        let same : part ≡ q = (let f : Some part ≡ Some q = one_at (slice_set parts n (Some part)) n (Some part) (Some q) (set_at parts n (Some part) lt) there in cc) in
        record {
          mark = mark;
          at = ap (slice_get (slice_set marks n mark)) e ∙ set_at marks n mark below;
          says = subst (λ (r : PartModel). IsTrue mark ↔ WasTold before r.content.summary) same says;
        }
    mark_put k q at (inr ne) =
        let m = are.each k q (was_beside parts n (Some part) lt k (Some q) ne at) in
        record { mark = m.mark; at = set_beside marks n mark below k m.mark ne m.at; says = m.says }

    pub marks_put : (marks' : List Bool) → marks' ≡ slice_set marks n mark → AreMarked before (slice_set parts n (Some part)) marks'
    marks_put marks' set =
        subst (AreMarked before (slice_set parts n (Some part))) (sym set)
        (record { many = length-set marks n mark ∙ (are.many ∙ sym (length-set parts n (Some part))); each = λ k q at. mark_put k q at (cases_eq k n) })

-- two lists that are alike up to a place, and at it
alike_next : {A : Type 0} (xs ys : List A) (i : ℕ) → take i xs ≡ take i ys → slice_get xs i ≡ slice_get ys i → take (suc i) xs ≡ take (suc i) ys
alike_next [] [] i front at = refl
alike_next [] (y ∷ ys) zero front at = absurd (let no : None ≡ Some y = at in cc)
alike_next [] (y ∷ ys) (suc i) front at = absurd cc
alike_next (x ∷ xs) [] zero front at = absurd (let no : Some x ≡ None = at in cc)
alike_next (x ∷ xs) [] (suc i) front at = absurd cc
alike_next (x ∷ xs) (y ∷ ys) zero front at = (let same : x ≡ y = (let e : Some x ≡ Some y = at in cc) in ap (λ z. z ∷ []) same)
alike_next (x ∷ xs) (y ∷ ys) (suc i) front at =
    let same : x ≡ y = cc in
    let rest : take i xs ≡ take i ys = cc in
    ap₂ (λ z l. z ∷ l) same (alike_next xs ys i rest at)

pub alike_more : {A : Type 0} (xs ys : List A) (i : ℕ) → take i xs ≡ take i ys → slice_get xs i ≡ slice_get ys i → take (i + 1) xs ≡ take (i + 1) ys
alike_more xs ys i front at = (let e : i + 1 ≡ suc i = omega arith in ap (λ (n : ℕ). take n xs) e ∙ (alike_next xs ys i front at ∙ sym (ap (λ (n : ℕ). take n ys) e)))

-- the part of an earlier workspace is right by itself
module _ (ps : List PackageModel) (parts : List (Option PartModel)) (are : AreParts ps parts) (k : ℕ) (part : PartModel) (there : slice_get parts k ≡ Some (Some part)) where
  pub made_alone : IsPart part.input part.content
  made_alone = (all_right ps parts are k part there).made

  -- its types are of its package
  pub types_own : part.content.summary.types.path ≡ path_in part.input
  types_own = ap (λ (s : SummaryModel). s.types.path) made_alone.summary

  -- its files are read, where all are
  pub part_read : All AreAllRead ps → AreAllRead part.input.source
  part_read read = all_at_place AreAllRead ps k part.input.source read (all_right ps parts are k part there).numbered

-- parts of an earlier workspace
module _ (ps : List PackageModel) (parts : List (Option PartModel)) (well : IsWorkspace ps) (are : AreParts ps parts) where
  right : AreRight ps parts
  right = all_right ps parts are

  -- what is told of one path is one
  pub one_told_at : (j k : ℕ) (s t : SummaryModel) → Tells parts j s → Tells parts k t → path_of s ≡ path_of t → s ≡ t
  one_told_at j k s t x y same =
      let number : j ≡ k = told_apart ps parts well right j k s t x y same in
      told_once ps parts well right k s t (subst (λ (m : ℕ). Tells parts m s) number x) y

  -- what the input of a part has of other packages was told
  pub reached_told : (k : ℕ) (part : PartModel) → slice_get parts k ≡ Some (Some part) → All (WasTold parts) part.input.reached
  reached_told k part there =
      let input = (right k part there).input in
      all_from_among (WasTold parts) part.input.reached (λ s at. (let z = zip_of (Tells parts) input.reached.numbers part.input.reached s input.reached.told at in (z.0, z.2)))

  -- a part stands at its path
  pub part_stands : (k : ℕ) (part : PartModel) (path : List ℕ) → slice_get parts k ≡ Some (Some part) → path_in part.input ≡ path → IsPartAt ps parts path part
  part_stands k part path there is = record {
    number = k;
    files = part.input.source.1;
    numbered = (right k part there).numbered ∙ ap (λ (q : List ℕ). Some (q, part.input.source.1)) is;
    there = there;
  }

  -- the path at which it stands is its own
  pub own_path : (path : List ℕ) (part : PartModel) (at : IsPartAt ps parts path part) → path_in part.input ≡ path
  own_path path part at =
      let same : part.input.source ≡ (path, at.files) = one_at ps at.number part.input.source (path, at.files) (right at.number part at.there).numbered at.numbered in
      ap (λ (p : PackageModel). p.0) same

  -- a summary was told

  pub told_at : (path : List ℕ) (part : PartModel) (at : IsPartAt ps parts path part) (s : SummaryModel) → s ≡ part.content.summary → WasTold parts s
  told_at path part at s is = (at.number, record { of_part = part; there = at.there; is = is })

  pub told_is : (s : SummaryModel) (part : PartModel) → IsPartAt ps parts (path_of s) part → WasTold parts s → s ≡ part.content.summary
  told_is s part at was =
      let tells : Tells parts at.number part.content.summary = record { of_part = part; there = at.there; is = refl } in
      let path : path_of s ≡ path_of part.content.summary = sym (path_told ps parts well right at.number part.content.summary tells ∙ own_path (path_of s) part at) in
      one_told_at was.0 at.number s part.content.summary was.1 tells path

  pub told_nowhere : (s : SummaryModel) → ((part : PartModel) → IsPartAt ps parts (path_of s) part → ⊥) → WasTold parts s → ⊥
  told_nowhere s none was = none was.1.of_part (part_stands was.0 was.1.of_part (path_of s) was.1.there (sym (path_told ps parts well right was.0 s was.1)))

  -- where all are marked that packages of the same paths tell, they tell the same
  same_reached : (marks : List Bool) (numbers : List ℕ) (ss ts : List SummaryModel) → AllZip (IsMarked parts marks) numbers ss → AllMarked marks numbers → All (WasTold parts) ts → map path_of ss ≡ map path_of ts → ss ≡ ts
  same_reached marks [] [] [] z all was paths = refl
  same_reached marks [] [] (t ∷ ts) z all was paths = absurd cc
  same_reached marks [] (s ∷ ss) ts z all was paths = absurd z
  same_reached marks (n ∷ numbers) [] ts z all was paths = absurd z
  same_reached marks (n ∷ numbers) (s ∷ ss) [] z all was paths = absurd cc
  same_reached marks (n ∷ numbers) (s ∷ ss) (t ∷ ts) z all was paths =
      let mark : z.0.mark ≡ true = one_at marks n z.0.mark true z.0.at (All-head (λ m. slice_get marks m ≡ Some true) n numbers all) in
      let one = z.0.says.0 mark in
      let other = All-head (WasTold parts) t ts was in
      let path : path_of s ≡ path_of t = cc in
      let rest : map path_of ss ≡ map path_of ts = cc in
      ap₂ (λ (x : SummaryModel) (l : List SummaryModel). x ∷ l) (one_told_at one.0 other.0 s t one.1 other.1 path)
      (same_reached marks numbers ss ts z.1 (All-tail (λ m. slice_get marks m ≡ Some true) n numbers all) (All-tail (WasTold parts) t ts was) rest)

  -- the input of a part and another that looks like it
  module _ (path : List ℕ) (part : PartModel) (at : IsPartAt ps parts path part) (sets : List Numbers) (marks : List Bool) (n : ℕ) (i : InputModel) (own : path_in i ≡ path) (for : AreMarkedFor sets parts marks n i.reached) where
    pub alike_same : LookAlike marks for.set.members i part.input → part.input ≡ i
    alike_same alike =
        let j = part.input in
        let reached : i.reached ≡ j.reached = same_reached marks for.set.members i.reached j.reached for.all alike.marked (reached_told at.number part at.there) alike.paths in
        sym (ap (λ (s : PackageModel). input_with s i.imports i.reached) alike.source ∙ (ap (λ l. input_with j.source l i.reached) alike.imports ∙ ap (λ (l : List SummaryModel). input_with j.source j.imports l) reached))

    pub same_alike : part.input ≡ i → LookAlike marks for.set.members i part.input
    same_alike same = record {
      source = ap (λ (k : InputModel). k.source) (sym same);
      imports = ap (λ (k : InputModel). k.imports) (sym same);
      paths = ap (λ (k : InputModel). map path_of k.reached) (sym same);
      marked = all_marked parts marks for.set.members i.reached for.all (subst (λ (k : InputModel). All (WasTold parts) k.reached) same (reached_told at.number part at.there));
    }

    -- an earlier part of this input is this part
    pub only_part : (p : PartModel) → WasThere parts p → p.input ≡ i → part.input ≡ i
    only_part p was same =
        let stands : IsPartAt ps parts path p = part_stands was.0 p path was.1 (ap path_in same ∙ own) in
        let one : p ≡ part = one_part_at ps well parts path p part stands at in
        subst (λ (q : PartModel). q.input ≡ i) one same

  -- where nothing stands at its path, no earlier part has an input
  pub no_part : (i : InputModel) → ((part : PartModel) → IsPartAt ps parts (path_in i) part → ⊥) → (p : PartModel) → WasThere parts p → p.input ≡ i → ⊥
  no_part i none p was same = none p (part_stands was.0 p (path_in i) was.1 (ap path_in same))

-- what is found of an input among earlier parts
abbrev pub IsFound : List (Option PartModel) → InputModel → Option (Bor PartModel) → Type 0
IsFound earlier i o = MatchOption o ((p : PartModel) → WasThere earlier p → p.input ≡ i → ⊥) (λ p. WasThere earlier p.now × (p.now.input ≡ i))

pub one_found : (earlier : List (Option PartModel)) (i : InputModel) (o : Option (Bor PartModel)) (part : Bor PartModel) → o ≡ Some part → IsFound earlier i o → WasThere earlier part.now × (part.now.input ≡ i)
one_found earlier i o part is found = subst (IsFound earlier i) is found

pub none_found : (earlier : List (Option PartModel)) (i : InputModel) (o : Option (Bor PartModel)) → o ≡ None → IsFound earlier i o → (p : PartModel) → WasThere earlier p → p.input ≡ i → ⊥
none_found earlier i o is found = subst (IsFound earlier i) is found
