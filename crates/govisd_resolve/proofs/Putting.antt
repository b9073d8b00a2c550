-- The one package of a run: how it is put into a workspace, and what its imports come to.
use Rattle.std.proofs.Common.{◌≡◌, ◌<◌, ℕ, zero, suc, Vec, List, [], ◌∷◌, length, map, get_or, inl, Option, Some, None, Ok, refl, sym, ap, subst, ◌∙◌, arith}
use Rattle.std.specs.Global.{Global}
use Rattle.std.specs.Prelude.{MatchOption, slice_get, slice_index_or, Contains}
use Rattle.std.specs.List.{IsDistinct}
use Rattle.std.proofs.lemmas.List.Elements.{All-cons}
use Rattle.std.proofs.lemmas.List.{length-map}
use Rattle.std.proofs.lemmas.List.Sorted.{length_permutation, Contains-permutation}
use Rattle.go_path_core.specs.text_core.declared.rule.Rule.{Rule}
use Rattle.go_tree_nodes.specs.Terminals.{value_of}
use Rattle.go_tree_nodes.specs.Trees.{FileTree, ImportSpecTree}
use Rattle.go_block_core.specs.graph_core.declared.imports.ImportAt.{ImportAt}
use Rattle.go_block_core.specs.graph_core.declared.imports.ImportOutcome.{ImportOutcome}
use Rattle.go_block_core.specs.graph_core.declared.imports.ImportOutcome.TheVariants as outcomes
use Rattle.go_block_core.specs.graph_core.Imports.{IsEdge, IsImport, IsNoImport, IsOutcome, content_texts, edge, texts_of}
use Rattle.go_block_core.specs.graph_core.Lists.{AllNumbered}
use Rattle.go_block_core.specs.graph_core.Plans.{IsPlan, PlanModel, outcome_at}
use Rattle.go_block_core.specs.graph_core.Packages.{trees_of, tree_shown}
use Rattle.go_block_core.specs.graph_core.Sources.{SourceModel, IsRead, source}
use Rattle.go_block_core.specs.graph_core.Workspaces.{PackageModel, AreReadFrom, HaveDistinctNames, Puts, put_package}
use Rattle.go_block_core.specs.graph_core.Zips.{numbered_length}
use Rattle.go_block_core.specs.declared.imports.Imported.{Imported}
use Rattle.go_block_core.specs.declared.imports.Imported.TheVariants as given
use Rattle.go_block_core.specs.Naming.{AreInFile, HaveOneEach, file_specs, import_at, imported_in}
use Rattle.go_block_core.proofs.NamingLemmas.{same_texts}
use Rattle.go_package_core.specs.prepare.Packages.{trees_in}
use Rattle.go_package_core.specs.summary_core.Summaries.{SummaryModel}
use Rattle.go_package_core.specs.declared.package_part.files.PartFile.{PartFile}
use Rattle.go_package_core.specs.package_part.Inputs.{AreOfOthers, InputModel, input_with}
use Rattle.go_package_core.specs.package_part.Parts.{ContentOf, FileOf, IsPart, file_shown}
use Rattle.govisd_resolve.specs.Alone.{ImportIsRefused, package_alone, the_name, the_path, workspace_alone}
use Rattle.govisd_resolve.specs.mirrors.Making.{AreRefusedAlone, AreRefusedIn, HasOneFile, HasText, IsAlone, IsGivenIn, IsInputIn, IsOwn}

-- the one file that is read

pub record OneRead (bytes : List ℕ) (fs : List SourceModel) : Type 0 where
  pub file : SourceModel
  pub files : fs ≡ file ∷ []
  pub name : file.name ≡ the_name
  pub text : file.text ≡ bytes
  pub read : IsRead file

one_read : (bytes : List ℕ) (gs : List (List ℕ × List ℕ)) (fs : List SourceModel) → gs ≡ (the_name, bytes) ∷ [] → AreReadFrom gs fs → OneRead bytes fs
one_read bytes gs [] is read = (let many = length_permutation gs [] read.same in absurd (omega (arith, many, ap length is)))
one_read bytes gs (s ∷ []) is read =
    let whole : List ℕ × List ℕ = (the_name, bytes) in
    let among : Contains gs whole = subst (λ l. Contains l whole) (sym is) (0, omega arith, refl) in
    let there = Contains-permutation gs ((s.name, s.text) ∷ []) whole read.same among in
    let same : (s.name, s.text) ≡ whole = only (s.name, s.text) whole there.0 there.1 there.2 in
    record { file = s; files = refl; name = ap (λ (p : List ℕ × List ℕ). p.0) same; text = ap (λ (p : List ℕ × List ℕ). p.1) same; read = read.contents 0 s (omega arith) }
  where
    only : {A : Type 0} (x y : A) (k : ℕ) → k < 1 → slice_index_or (x ∷ []) k y ≡ y → x ≡ y
    only x y zero lt e = e
    only x y (suc k) lt e = absurd (omega (arith, lt))
one_read bytes gs (s ∷ (t ∷ more)) is read =
    let many = length_permutation gs (map (λ (f : SourceModel). (f.name, f.text)) (s ∷ (t ∷ more))) read.same in
    absurd (omega (arith, many, ap length is))

-- one file has no name twice
pub one_distinct : (x : List ℕ × List ℕ) → HaveDistinctNames (x ∷ [])
unfolding IsDistinct
one_distinct x = (tt, tt)

-- a workspace without packages has the one package from then on
pub put_alone : (bytes path : List ℕ) (gs : List (List ℕ × List ℕ)) (ps : List PackageModel) → path ≡ the_path → gs ≡ (the_name, bytes) ∷ [] → Puts [] path gs ps → HasText bytes ps
put_alone bytes path gs ps here is puts =
    let one = one_read bytes gs puts.files is puts.read in
    record {
      file = one.file;
      text = one.text;
      alone = record {
        name = one.name;
        read = one.read;
        is = puts.packages ∙ (ap (λ fs. put_package [] path fs) one.files ∙ ap (λ p. (p, one.file ∷ []) ∷ []) here);
      };
    }

-- imports

at_place : {A : Type 0} (xs : List A) (n : ℕ) → n < length xs → (x : A) × (slice_get xs n ≡ Some x)
at_place [] n lt = absurd (omega (arith, lt))
at_place (x ∷ xs) zero lt = (x, refl)
at_place (x ∷ xs) (suc n) lt = at_place xs n (omega (arith, lt))

-- an import of the one file, by its number
there_is : (s : SourceModel) (f : FileTree) (n : ℕ) → s.content ≡ Ok f → n < length (file_specs f) → (text : List ℕ) × IsImport (workspace_alone s) (import_at 0 0 n) the_path text
there_is s f n tree lt =
    let many : length (texts_of f.imports) ≡ length (file_specs f) = ap length (same_texts f.imports) ∙ length-map (file_specs f) (λ (i : ImportSpecTree). value_of i.path) in
    let text = at_place (texts_of f.imports) n (omega (arith, lt, many)) in (
      text.0,
      record {
        files = s ∷ [];
        file = s;
        numbered = refl;
        in_files = refl;
        in_file = ap (λ c. slice_get (content_texts c) n) tree ∙ text.1;
      },
    )

-- no import of the one package comes to a package: that could be its own alone, and then it lies on a cycle
no_package : (s : SourceModel) (n i : ℕ) → IsOutcome (workspace_alone s) (import_at 0 0 n) (outcomes.«Package» i) → ⊥
no_package s n zero h =
    h.judged.1 (edge 0 0 ∷ [], All-cons (IsEdge (workspace_alone s)) (edge 0 0) [] (record { at = import_at 0 0 n; q = h.q; text = h.text; there = h.there; from = refl; target = h.judged.0 }) (λ k d lt. absurd (omega (arith, lt))), inl refl)
no_package s n (suc i) h = beyond s i h.judged.0.numbered
  where
    beyond : {p : PackageModel} (s : SourceModel) (i : ℕ) → slice_get (workspace_alone s) (suc i) ≡ Some p → ⊥
    beyond s i e = cc

-- what a plan has for it
planned : (s : SourceModel) (n : ℕ) (text : List ℕ) (o : Option ImportOutcome) → IsImport (workspace_alone s) (import_at 0 0 n) the_path text
    → MatchOption o (IsNoImport (workspace_alone s) (import_at 0 0 n)) (IsOutcome (workspace_alone s) (import_at 0 0 n)) → (rule : Rule) × (o ≡ Some (outcomes.Refused rule))
planned s n text None there h = absurd (h the_path text there)
planned s n text (Some (outcomes.Refused rule)) there h = (rule, refl)
planned s n text (Some (outcomes.«Package» i)) there h = absurd (no_package s n i h)

-- each import of the one file is refused
pub are_refused : (ps : List PackageModel) (p : PackageModel) (f : FileTree) (plan : PlanModel) → IsOwn ps p f → IsPlan ps plan → AreRefusedIn plan.outcomes f
are_refused ps p f plan own planned_so n lt =
    let there = there_is own.file f n own.tree lt in
    let found = planned own.file n there.0 (outcome_at plan.outcomes (import_at 0 0 n)) there.1
    (subst (λ ws. MatchOption (outcome_at plan.outcomes (import_at 0 0 n)) (IsNoImport ws (import_at 0 0 n)) (IsOutcome ws (import_at 0 0 n))) own.alone.is (planned_so.outcomes (import_at 0 0 n))) in
    record { rule = found.0; is = found.1 }

-- what is given for an import by a plan is what it comes to
given_is : (ps : List PackageModel) (plan : PlanModel) (at : ImportAt) (i : Imported) → IsPlan ps plan → IsGivenIn plan.outcomes at i → ImportIsRefused ps at i
given_is ps plan at (given.Refused rule) planned_so h = subst (λ o. MatchOption o (IsNoImport ps at) (IsOutcome ps at)) h (planned_so.outcomes at)
given_is ps plan at (given.«Package» e) planned_so h = absurd h

numbered_weaker : {A B : Type 0} (R S : ℕ → A → B → Type 0) → ((n : ℕ) (x : A) (y : B) → R n x y → S n x y) → (k : ℕ) (xs : List A) (ys : List B) → AllNumbered R k xs ys → AllNumbered S k xs ys
numbered_weaker R S f k [] [] h = tt
numbered_weaker R S f k [] (y ∷ ys) h = absurd h
numbered_weaker R S f k (x ∷ xs) [] h = absurd h
numbered_weaker R S f k (x ∷ xs) (y ∷ ys) h = (f k x y h.0, numbered_weaker R S f (suc k) xs ys h.1)

pub come_to : (ps : List PackageModel) (plan : PlanModel) (f : FileTree) (is : List Imported) → IsPlan ps plan → AreInFile (IsGivenIn plan.outcomes) 0 0 f is → AreInFile (ImportIsRefused ps) 0 0 f is
come_to ps plan f is planned_so h =
    numbered_weaker (λ n (spec : ImportSpecTree) i. IsGivenIn plan.outcomes (import_at 0 0 n) i) (λ n (spec : ImportSpecTree) i. ImportIsRefused ps (import_at 0 0 n) i) (λ n spec i. given_is ps plan (import_at 0 0 n) i planned_so) 0 (file_specs f) is h

pub refused_alone : (ps : List PackageModel) (plan : PlanModel) (f : FileTree) (files : List (Vec Imported Global)) (of_file : Vec Imported Global) → IsPlan ps plan → files ≡ of_file ∷ [] → AreInFile (IsGivenIn plan.outcomes) 0 0 f of_file.items → AreRefusedAlone ps f (map imported_in files)
refused_alone ps plan f files of_file planned_so are h = record { imports = of_file.items; refused = come_to ps plan f of_file.items planned_so h; are = ap (map imported_in) are }

as_many_imports : (ps : List PackageModel) (f : FileTree) (is : List Imported) → AreInFile (ImportIsRefused ps) 0 0 f is → length (file_specs f) ≡ length is
as_many_imports ps f is h = numbered_length (λ n (spec : ImportSpecTree) i. ImportIsRefused ps (import_at 0 0 n) i) 0 (file_specs f) is h

-- the input of the package

trees_are : (s : SourceModel) (f : FileTree) → s.content ≡ Ok f → trees_of (s ∷ []) ≡ (s.name, f) ∷ []
trees_are s f tree = ap (λ c. trees_of (source s.name s.text c ∷ [])) tree

own_trees : (ps : List PackageModel) (p : PackageModel) (f : FileTree) (own : IsOwn ps p f) → trees_of p.1 ≡ (own.file.name, f) ∷ []
own_trees ps p f own = ap (λ (q : PackageModel). trees_of q.1) own.is ∙ trees_are own.file f own.tree

-- one file, with as many as it imports
pub one_each : (ps : List PackageModel) (p : PackageModel) (f : FileTree) (files : List (List Imported)) → IsOwn ps p f → AreRefusedAlone ps f files → HaveOneEach (trees_of p.1) files
one_each ps p f files own h =
    subst (λ ts. HaveOneEach ts files) (sym (own_trees ps p f own)) (subst (λ l. HaveOneEach ((own.file.name, f) ∷ []) l) (sym h.are) (as_many_imports ps f h.imports h.refused, tt))

pub none_reached : (path : List ℕ) (reached : List SummaryModel) → reached ≡ [] → AreOfOthers path reached
none_reached path reached none = subst (AreOfOthers path) (sym none) (record { apart = λ i j d lt l. absurd (omega (arith, l)); others = λ k d lt. absurd (omega (arith, lt)) })

pub input_is : (ps : List PackageModel) (p : PackageModel) (f : FileTree) (files : List (List Imported)) (i : InputModel) → AreRefusedAlone ps f files → i ≡ input_with p files [] → IsInputIn ps p f i
input_is ps p f files i h made = record { imports = h.imports; refused = h.refused; is = made ∙ ap (λ l. input_with p l []) h.are }

-- the one file that the part has
pub one_made : (i : InputModel) (c : ContentOf) → HasOneFile i → IsPart i c → (x : FileOf) × (c.files ≡ x ∷ [])
one_made i c one h = only c.files (sym (numbered_length _ 0 (trees_in i.source) c.files h.files) ∙ ap length one.trees)
  where
    only : (fs : List FileOf) → length fs ≡ 1 → (x : FileOf) × (fs ≡ x ∷ [])
    only [] e = absurd (omega (arith, e))
    only (x ∷ []) e = (x, refl)
    only (x ∷ (y ∷ fs)) e = absurd (omega (arith, e))

pub has_one_file : (ps : List PackageModel) (p : PackageModel) (f : FileTree) (i : InputModel) → IsOwn ps p f → IsInputIn ps p f i → HasOneFile i
has_one_file ps p f i own input = record {
  tree = f;
  trees = ap (λ (j : InputModel). trees_in j.source) input.is ∙ ap (map tree_shown) (own_trees ps p f own);
}

-- reading what there is one of

pub first_is : (ps : List PackageModel) (s : SourceModel) (p d : PackageModel) → ps ≡ workspace_alone s → p ≡ get_or ps 0 d → p ≡ package_alone s
first_is ps s p d one is = is ∙ ap (λ l. get_or l 0 d) one

-- the package of a workspace is its own
pub is_own : (s : SourceModel) (f : FileTree) (ps : List PackageModel) (p : PackageModel) → IsAlone s ps → s.content ≡ Ok f → p ≡ package_alone s → IsOwn ps p f
is_own s f ps p alone tree is = record { file = s; alone = alone; is = is; tree = tree }

pub first_file : (fs : List SourceModel) (s x d : SourceModel) → fs ≡ s ∷ [] → x ≡ get_or fs 0 d → x ≡ s
first_file fs s x d one is = is ∙ ap (λ l. get_or l 0 d) one

pub shown_first : (fs : List PartFile) (x : FileOf) (y d : PartFile) → map file_shown fs ≡ x ∷ [] → y ≡ get_or fs 0 d → file_shown y ≡ x
shown_first [] x y d one is = cc
shown_first (f ∷ fs) x y d one is = (let here : file_shown f ≡ x = cc in ap file_shown is ∙ here)

pub some_shown : (fs : List PartFile) (x : FileOf) → map file_shown fs ≡ x ∷ [] → 0 < length fs
some_shown [] x one = cc
some_shown (f ∷ fs) x one = omega arith

-- the one file of the one package of a workspace, by what is read of it
pub alone_at : (bytes : List ℕ) (ps l : List PackageModel) (p d : PackageModel) (fs : List SourceModel) (s e : SourceModel)
    → HasText bytes ps → l ≡ ps → p ≡ get_or l 0 d → fs ≡ p.1 → s ≡ get_or fs 0 e → IsAlone s ps × (s.text ≡ bytes)
alone_at bytes ps l p d fs s e h all is files at =
    let own : p ≡ package_alone h.file = first_is l h.file p d (all ∙ h.alone.is) is in
    let same : s ≡ h.file = first_file fs h.file s e (files ∙ ap (λ (q : PackageModel). q.1) own) at in
    (subst (λ x. IsAlone x ps) (sym same) h.alone, ap (λ (x : SourceModel). x.text) same ∙ h.text)
