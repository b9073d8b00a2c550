-- The workspace in which a name stands in place of an identifier.
use Rattle.std.proofs.Common.{◌≡◌, ℕ, zero, suc, All, List, [], ◌∷◌, ◌++◌, length, map, Option, Some, Result, Ok, refl, sym, ap, subst, ◌∙◌, arith}
use Rattle.std.specs.Prelude.{slice_get, slice_set}
use Rattle.std.specs.List.Sorted.{IsStrictlySortedBy}
use Rattle.std.proofs.lemmas.List.{length-set}
use Rattle.std.proofs.lemmas.List.Elements.{All-cons, All-head, All-tail}
use Rattle.std.proofs.lemmas.Option.{get_or_from_slice_get, slice_get_within}
use Rattle.go_tree_nodes.specs.Spelling.{IsPlaced}
use Rattle.go_tree_nodes.specs.Trees.{FileTree}
use Rattle.go_tree_core.specs.declared.occurrence.Occ.{Occ}
use Rattle.go_tree_core.proofs.Respelling.{placed_anew}
use Rattle.go_block_core.specs.Naming.{file_specs, specs_of}
use Rattle.go_parse_core.specs.declared.error.SynFault.{SynFault}
use Rattle.go_graph_core.specs.Imports.{content_texts}
use Rattle.go_graph_core.specs.Packages.{HasNoClause, IsAssembled, Trees, trees_of}
use Rattle.go_graph_core.specs.Sources.{IsContent, IsPlacedSource, SourceModel, clause_in, source}
use Rattle.go_graph_core.specs.Workspaces.{IsPackage, IsReadWorkspace, IsWorkspace, PackageModel, by_bytes}
use Rattle.go_graph_core.proofs.Assemblies.{one_more, tree_of}
use Rattle.go_graph_core.proofs.Contents.{placed_content}
use Rattle.go_import_core.specs.head.Heads.{HaveSameHeads, head_of, head_of_file, name_in}
use Rattle.go_import_core.proofs.HeadAlike.{assembled_stays}
use Rattle.go_snap_core.proofs.Faulty.{read_there}
use Rattle.go_snap_core.proofs.Reporting.{read_at}
use Rattle.go_snap_core.proofs.WholeWorkspaceLists.{none_is_some}
use Rattle.go_answer_laws.specs.completions.Laws.{IdentifiersCanBeRespelled}
use Rattle.go_answer_laws.specs.completions.Respelled.{HaveOtherTree, IsPutInPlace, MayBePut, put_in_place}
use Rattle.go_completion_laws.specs.Completing.{PutsName}
use Rattle.go_completion_laws.proofs.Agreed.{specs_of_trees}

-- an item that is set

pub set_same : {A : Type 0} (xs : List A) (n : ℕ) (x y : A) → slice_get xs n ≡ Some x → slice_get (slice_set xs n y) n ≡ Some y
set_same [] n x y at = absurd (none_is_some at)
set_same (z ∷ xs) zero x y at = refl
set_same (z ∷ xs) (suc n) x y at = set_same xs n x y at

pub set_other : {A : Type 0} (xs : List A) (n i : ℕ) (y : A) → (i ≡ n → ⊥) → slice_get (slice_set xs n y) i ≡ slice_get xs i
set_other [] n i y ne = refl
set_other (z ∷ xs) zero zero y ne = absurd (ne refl)
set_other (z ∷ xs) zero (suc i) y ne = refl
set_other (z ∷ xs) (suc n) zero y ne = refl
set_other (z ∷ xs) (suc n) (suc i) y ne = set_other xs n i y (λ e. ne (ap suc e))

set_alike : {A B : Type 0} (v : A → B) (xs : List A) (n : ℕ) (x y : A) → slice_get xs n ≡ Some x → v y ≡ v x → map v (slice_set xs n y) ≡ map v xs
set_alike v [] n x y at e = refl
set_alike v (z ∷ xs) zero x y at e =
    let same : z ≡ x = (let o : Some z ≡ Some x = at in cc) in
    ap (λ b. b ∷ map v xs) (e ∙ ap v (sym same))
set_alike v (z ∷ xs) (suc n) x y at e = ap (λ l. v z ∷ l) (set_alike v xs n x y at e)

set_all : {A : Type 0} (P : A → Type 0) (xs : List A) (n : ℕ) (y : A) → All P xs → P y → All P (slice_set xs n y)
set_all P [] n y all p = all
set_all P (x ∷ xs) zero y all p = All-cons P y xs p (All-tail P x xs all)
set_all P (x ∷ xs) (suc n) y all p = All-cons P x (slice_set xs n y) (All-head P x xs all) (set_all P xs n y (All-tail P x xs all) p)

-- a file of assembled files that has another tree

other_tree : (files : List SourceModel) (k : ℕ) (s t : SourceModel) (f g : FileTree) → All (λ x. HasNoClause x → ⊥) files → slice_get files k ≡ Some s → s.content ≡ Ok f → t.content ≡ Ok g → t.name ≡ s.name → HaveOtherTree k f g files (slice_set files k t)
other_tree [] k s t f g all at c d e = absurd (none_is_some at)
other_tree (x ∷ xs) zero s t f g all at c d e =
    let same : x ≡ s = (let o : Some x ≡ Some s = at in cc) in
    let none : Trees = [] in
    record {
      front = none;
      back = trees_of xs;
      file = s.name;
      number = refl;
      old = one_more x xs f (ap (λ (y : SourceModel). y.content) same ∙ c) ∙ (λ i. ((same i).name, f) ∷ trees_of xs);
      new = one_more t xs g d ∙ (λ i. (e i, g) ∷ trees_of xs);
    }
other_tree (x ∷ xs) (suc k) s t f g all at c d e =
    let rest = other_tree xs k s t f g (All-tail (λ x. HasNoClause x → ⊥) x xs all) at c d e in
    let has = tree_of x (All-head (λ x. HasNoClause x → ⊥) x xs all) in
    record {
      front = (x.name, has.0) ∷ rest.front;
      back = rest.back;
      file = rest.file;
      number = ap suc rest.number;
      old = one_more x xs has.0 has.1 ∙ (λ i. (x.name, has.0) ∷ rest.old i);
      new = one_more x (slice_set xs k t) has.0 has.1 ∙ (λ i. (x.name, has.0) ∷ rest.new i);
    }

specs_other : (front back : Trees) (name : List ℕ) (f g : FileTree) → file_specs f ≡ file_specs g → specs_of_trees (front ++ (name, f) ∷ back) ≡ specs_of_trees (front ++ (name, g) ∷ back)
specs_other [] back name f g e = ap (λ l. l ∷ specs_of_trees back) e
specs_other (t ∷ front) back name f g e = ap (λ l. file_specs t.1 ∷ l) (specs_other front back name f g e)

-- the head of a file, by its content
abbrev head_of_content : Result FileTree SynFault → Option (List ℕ) × List (List ℕ)
head_of_content c = (name_in (clause_in c), content_texts c)

-- a name that is put

module _ (respelled : IdentifiersCanBeRespelled) (ps : List PackageModel) (as_read : IsReadWorkspace ps) (path name : List ℕ) (n : ℕ) (o : Occ) (m : List ℕ) (more : List PackageModel) (h : PutsName ps path name n o m more) where
  abbrev pub old_tree : FileTree
  old_tree = h.at.tree

  abbrev pub new_tree : FileTree
  new_tree = put_in_place m o h.at.tree

  abbrev pub new_source : SourceModel
  new_source = source name h.at.source.text (Ok (put_in_place m o h.at.tree))

  abbrev pub new_files : List SourceModel
  new_files = slice_set h.at.files h.at.file (source name h.at.source.text (Ok (put_in_place m o h.at.tree)))

  abbrev old_package : PackageModel
  old_package = (path, h.at.files)

  abbrev pub new_package : PackageModel
  new_package = (path, slice_set h.at.files h.at.file (source name h.at.source.text (Ok (put_in_place m o h.at.tree))))

  old_is : IsPackage old_package
  old_is = subst IsPackage (get_or_from_slice_get ps h.at.number old_package old_package h.at.numbered) (as_read.well.packages h.at.number old_package (slice_get_within ps h.at.number old_package h.at.numbered))

  source_read : IsContent h.at.source.text (Ok h.at.tree)
  source_read = subst (IsContent h.at.source.text) h.at.content (read_at h.at.files h.at.file h.at.source (read_there ps h.at.number old_package as_read.read h.at.numbered) h.at.in_package)

  old_placed : IsPlaced h.at.tree
  old_placed = placed_content h.at.source.text (Ok h.at.tree) source_read

  pub may : MayBePut m h.at.tree n o
  may = record { well = source_read.found.tree.wf; follows = old_placed; there = h.at.there; identifier = h.identifier; plain = h.plain }

  it : IsPutInPlace m o h.at.tree (put_in_place m o h.at.tree)
  it = respelled m h.at.tree n o may

  -- its head is as it was
  same_head : head_of_file new_source ≡ head_of_file h.at.source
  same_head =
      ap (λ (t : FileTree). head_of_content (Ok t)) it.rest ∙ sym (ap head_of_content h.at.content)

  same_heads : map head_of_file new_files ≡ map head_of_file h.at.files
  same_heads = set_alike head_of_file h.at.files h.at.file h.at.source new_source h.at.in_package same_head

  pub heads : HaveSameHeads ps more
  heads =
      let one : head_of new_package ≡ head_of old_package = λ i. (path, same_heads i) in
      sym (ap (map head_of) h.is ∙ set_alike head_of ps h.at.number old_package new_package h.at.numbered one)

  pub assembled : IsAssembled new_files
  assembled = assembled_stays h.at.files new_files (sym same_heads) h.at.assembled

  -- it is a workspace
  new_is : IsPackage new_package
  new_is = record {
    path = old_is.path;
    some = (let some = old_is.some in let many = length-set h.at.files h.at.file new_source in omega (arith, some, many));
    order = subst (IsStrictlySortedBy by_bytes) (sym (set_alike (λ (s : SourceModel). s.name) h.at.files h.at.file h.at.source new_source h.at.in_package (sym h.at.named))) old_is.order;
    contents = set_all IsPlacedSource h.at.files h.at.file new_source old_is.contents (placed_anew o.span.start m h.at.tree old_placed);
  }

  pub well : IsWorkspace more
  well =
      subst IsWorkspace (sym h.is)
      (record {
        order = subst (IsStrictlySortedBy by_bytes) (sym (set_alike (λ (p : PackageModel). p.0) ps h.at.number old_package new_package h.at.numbered refl)) as_read.well.order;
        packages = set_all IsPackage ps h.at.number new_package as_read.well.packages new_is;
      })

  pub here : slice_get more h.at.number ≡ Some new_package
  here = ap (λ (l : List PackageModel). slice_get l h.at.number) h.is ∙ set_same ps h.at.number old_package new_package h.at.numbered

  pub others : (i : ℕ) → (i ≡ h.at.number → ⊥) → slice_get ps i ≡ slice_get more i
  others i ne = sym (ap (λ (l : List PackageModel). slice_get l i) h.is ∙ set_other ps h.at.number i new_package ne)

  pub source_here : slice_get new_files h.at.file ≡ Some new_source
  source_here = set_same h.at.files h.at.file h.at.source new_source h.at.in_package

  pub old_order : IsStrictlySortedBy by_bytes (map (λ (s : SourceModel). s.name) h.at.files)
  old_order = old_is.order

  pub new_order : IsStrictlySortedBy by_bytes (map (λ (s : SourceModel). s.name) new_files)
  new_order = new_is.order

  pub changed : HaveOtherTree h.at.file h.at.tree (put_in_place m o h.at.tree) h.at.files new_files
  changed = other_tree h.at.files h.at.file h.at.source new_source h.at.tree (put_in_place m o h.at.tree) h.at.assembled.trees h.at.in_package h.at.content refl (sym h.at.named)

  pub same_specs : specs_of_trees (trees_of h.at.files) ≡ specs_of_trees (trees_of new_files)
  same_specs =
      let specs : file_specs h.at.tree ≡ file_specs (put_in_place m o h.at.tree) = sym (ap (λ (t : FileTree). specs_of t.imports) it.rest) in
      ap specs_of_trees changed.old ∙ (specs_other changed.front changed.back changed.file h.at.tree (put_in_place m o h.at.tree) specs ∙ sym (ap specs_of_trees changed.new))
