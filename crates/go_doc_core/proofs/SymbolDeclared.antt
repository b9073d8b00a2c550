-- The names of a package block are declared in their files.
use Rattle.std.proofs.Common.{◌≡◌, ℕ, suc, ◌+◌, Bool, true, false, List, [], ◌∷◌, ◌++◌, get_or, Ok, Some, slice_get, refl, sym, subst, arith}
use Rattle.std.specs.Prelude.{All, if◌then◌else◌}
use Rattle.std.specs.List.{flat_map}
use Rattle.std.proofs.lemmas.List.Elements.{All-append, All-cons, All-filter, All-head, All-push, All-tail}
use Rattle.std.proofs.lemmas.Option.{slice_get-get_or}
use Rattle.go_tree_nodes.specs.Trees.{FileTree}
use Rattle.go_block_core.specs.decl_core.declared.keys.DeclRef.{DeclRef}
use Rattle.go_block_core.specs.decl_core.TopDecls.{TopDeclTree, kind_of_form, top_decls}
use Rattle.go_block_core.specs.graph_core.Packages.{AllHaveTrees, HasNoClause, Trees, trees_of}
use Rattle.go_block_core.specs.graph_core.Sources.{SourceModel}
use Rattle.go_block_core.specs.graph_core.Assemblies.{one_more, tree_of}
use Rattle.go_block_core.specs.Declarations.{PackageDeclaration, decl_ref, declaration, file_declared, files_declared, is_bindable, is_method_form, package_declared, top_declared, unless_method}
use Rattle.go_block_core.specs.Exports.{exported_names}
use Rattle.go_block_core.specs.Holding.{declared_block, package_block, with_declared}
use Rattle.go_block_core.specs.Tables.{has, with_first}
use Rattle.go_doc_core.specs.symbol.mirrors.Docs.{AreDeclaredIn, IsDeclaredIn}

module _ (P : List ℕ × DeclRef → Type 0) where
  abbrev Holds : PackageDeclaration → Type 0
  Holds d = P (d.name, d.decl)

  in_first : (ns : List (List ℕ × DeclRef)) (name : List ℕ) (d : DeclRef) → P (name, d) → All P ns → All P (with_first ns name d)
  in_first ns name d here h = by (has ns name)
    where
      by : (b : Bool) → All P (if b then ns else ns ++ (name, d) ∷ [])
      by true = h
      by false = All-push P ns (name, d) h here

  in_block_of : (ns : List (List ℕ × DeclRef)) (ds : List PackageDeclaration) → All P ns → All Holds ds → All P (declared_block ns ds)
  in_block_of ns [] h k = h
  in_block_of ns (d ∷ ds) h k = in_block_of (with_declared ns d) ds (by (is_bindable d.name)) (All-tail Holds d ds k)
    where
      by : (b : Bool) → All P (if b then with_first ns d.name d.decl else ns)
      by true = in_first ns d.name d.decl (All-head Holds d ds k) h
      by false = h

  unless_all : (b : Bool) (x : PackageDeclaration) → Holds x → All Holds (unless_method b x)
  unless_all true x h = λ k d lt. absurd (omega (arith, lt))
  unless_all false x h = All-cons Holds x [] h (λ k d lt. absurd (omega (arith, lt)))

  file_all : (file : ℕ) (ds : List TopDeclTree) → All (λ (d : TopDeclTree). Holds (declaration file d)) ds → All Holds (flat_map (top_declared file) ds)
  file_all file [] h = λ k d lt. absurd (omega (arith, lt))
  file_all file (d ∷ ds) h =
      All-append Holds (top_declared file d) (flat_map (top_declared file) ds)
      (unless_all (is_method_form d.form) (declaration file d) (All-head (λ (x : TopDeclTree). Holds (declaration file x)) d ds h))
      (file_all file ds (All-tail (λ (x : TopDeclTree). Holds (declaration file x)) d ds h))

module _ (files : List SourceModel) where
  file_declares : (number : ℕ) (s : SourceModel) (f : FileTree) → slice_get files number ≡ Some s → s.content ≡ Ok f → All (λ (d : TopDeclTree). IsDeclaredIn files (d.ident.name, decl_ref number d.number (kind_of_form d.form))) (top_decls f)
  file_declares number s f at content = λ k d lt. record {
    source = s;
    in_files = at;
    tree = f;
    content = content;
    place = k;
    decl = get_or (top_decls f) k d;
    there = slice_get-get_or (top_decls f) k d lt;
    numbered = refl;
    named = refl;
  }

  files_declare : (number : ℕ) (rest : List SourceModel) → ((i : ℕ) (s : SourceModel) → slice_get rest i ≡ Some s → slice_get files (number + i) ≡ Some s) → AllHaveTrees rest
      → All (λ (d : PackageDeclaration). IsDeclaredIn files (d.name, d.decl)) (files_declared number (trees_of rest))
  files_declare number [] at have = λ k d lt. absurd (omega (arith, lt))
  files_declare number (s ∷ ss) at have =
      let tree = tree_of s (All-head (λ x. HasNoClause x → ⊥) s ss have) in
      let here : slice_get files number ≡ Some s = subst (λ (n : ℕ). slice_get files n ≡ Some s) (let e : number + 0 ≡ number = omega arith in e) (at 0 s refl) in
      let later : (i : ℕ) (x : SourceModel) → slice_get ss i ≡ Some x → slice_get files (number + 1 + i) ≡ Some x =
      λ i x h. subst (λ (n : ℕ). slice_get files n ≡ Some x) (let e : number + suc i ≡ number + 1 + i = omega arith in e) (at (suc i) x h) in
      let all : All (λ (d : PackageDeclaration). IsDeclaredIn files (d.name, d.decl)) (file_declared number tree.0 ++ files_declared (number + 1) (trees_of ss)) =
      All-append (λ (d : PackageDeclaration). IsDeclaredIn files (d.name, d.decl)) (file_declared number tree.0) (files_declared (number + 1) (trees_of ss))
      (file_all (IsDeclaredIn files) number (top_decls tree.0) (file_declares number s tree.0 here tree.1))
      (files_declare (number + 1) ss later (All-tail (λ x. HasNoClause x → ⊥) s ss have)) in
      subst (λ (ts : Trees). All (λ (d : PackageDeclaration). IsDeclaredIn files (d.name, d.decl)) (files_declared number ts)) (sym (one_more s ss tree.0 tree.1)) all

  pub block_declared : AllHaveTrees files → AreDeclaredIn files (package_block (trees_of files))
  block_declared have =
      in_block_of (IsDeclaredIn files) [] (package_declared (trees_of files)) (λ k d lt. absurd (omega (arith, lt)))
      (files_declare 0 files (λ i s h. subst (λ (n : ℕ). slice_get files n ≡ Some s) (let e : i ≡ 0 + i = omega arith in e) h) have)

  pub exported_declared : (ns : List (List ℕ × DeclRef)) → AreDeclaredIn files ns → AreDeclaredIn files (exported_names ns)
  exported_declared ns h = All-filter _ (IsDeclaredIn files) ns h
