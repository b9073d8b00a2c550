-- What a look-up of a file in a snapshot finds.
use Rattle.std.proofs.Common.{◌≡◌, ◌<◌, ℕ, List, length, get_or, All, Option, Some, None, Ok, slice_get, sym, ap, subst, ◌∙◌, arith}
use Rattle.std.specs.Prelude.{MatchOption}
use Rattle.std.specs.Option.{option_map}
use Rattle.std.proofs.lemmas.Option.{slice_get-map, slice_get-get_or, slice_get_within}
use Rattle.go_tree_nodes.specs.Trees.{FileTree}
use Rattle.go_graph_core.specs.Packages.{IsTreeAt, tree_shown, trees_of}
use Rattle.go_graph_core.specs.Sources.{SourceModel}
use Rattle.go_graph_core.specs.Workspaces.{PackageModel, IsWorkspace}
use Rattle.go_graph_core.proofs.Zips.{numbered_length}
use Rattle.go_emit_core.specs.package_core.PackagePartParts.{FileOf, IsFileMadeIn, IsPart, PartModel}
use Rattle.go_snap_core.proofs.WholeWorkspaceLists.{one_at}
use Rattle.go_snap_core.specs.declared.found.FileIn.{FileIn}
use Rattle.go_emit_core.specs.package_core.PreparePackages.{trees_in}
use Rattle.go_snap_core.specs.Snapshots.{FoundFile, HasNoFile, IsFileAt, IsPartAt, file_in_shown}
use Rattle.go_snap_core.proofs.Finding.{one_part_at}

abbrev pub found_with : PartModel → ℕ → SourceModel → FileTree → FileOf → FoundFile
found_with p n s t m = record { of_part = p; number = n; source = s; tree = t; made = m }

-- what is found
pub file_is : (ps : List PackageModel) (parts : List (Option PartModel)) (path name : List ℕ) (p : PartModel) → IsPartAt ps parts path p → (q : PackageModel) → q ≡ p.input.source → (files : List SourceModel) → files ≡ q.1 → (k : ℕ) (f s : SourceModel) → slice_get files k ≡ Some f → f.name ≡ name
    → s ≡ get_or files k s → (t : FileTree) → IsTreeAt q.1 k t → (xs : List FileOf) → xs ≡ p.content.files → (m : FileOf) → slice_get xs k ≡ Some m → IsFileAt ps parts path name (found_with p k s t m)
file_is ps parts path name p there q same files are k f s at named is t tree xs made m found =
    let source : slice_get files k ≡ Some s = slice_get-get_or files k s (slice_get_within files k f at) ∙ ap Some (sym is) in
    let inside : slice_get q.1 k ≡ Some s = subst (λ (l : List SourceModel). slice_get l k ≡ Some s) are source in
    let one : f ≡ s = one_at files k f s at source in
    let other : tree.0 ≡ s = one_at q.1 k tree.0 s tree.1 inside in
    record {
      in_workspace = there;
      in_package = subst (λ (r : PackageModel). slice_get r.1 k ≡ Some s) same inside;
      named = ap (λ (x : SourceModel). x.name) (sym one) ∙ named;
      tree = subst (λ (x : SourceModel). x.content ≡ Ok t) other tree.2;
      made = subst (λ l. slice_get l k ≡ Some m) made found;
    }

-- what a part has of a file with a tree
pub file_made : (p : PartModel) → IsPart p.input p.content → (q : PackageModel) → q ≡ p.input.source → (k : ℕ) (t : FileTree) → option_map tree_shown (slice_get (trees_of q.1) k) ≡ Some t → k < length p.content.files
file_made p made q same k t tree =
    let there : slice_get (trees_in q) k ≡ Some t = slice_get-map tree_shown (trees_of q.1) k ∙ tree in
    let here : slice_get (trees_in p.input.source) k ≡ Some t = subst (λ (r : PackageModel). slice_get (trees_in r) k ≡ Some t) same there in
    let many : length (trees_in p.input.source) ≡ length p.content.files = numbered_length (IsFileMadeIn p.content.blocks made.checked.files) 0 (trees_in p.input.source) p.content.files made.files in
    omega (arith, slice_get_within (trees_in p.input.source) k t here, many)

abbrev pub IsFileFound : List PackageModel → List (Option PartModel) → List ℕ → List ℕ → Option FileIn → Type 0
IsFileFound ps parts path name r = MatchOption r (HasNoFile ps parts path name) (λ f. IsFileAt ps parts path name (file_in_shown f))

pub none_found : (ps : List PackageModel) (parts : List (Option PartModel)) (path name : List ℕ) (r : Option FileIn) → r ≡ None → HasNoFile ps parts path name → IsFileFound ps parts path name r
none_found ps parts path name r is none = subst (IsFileFound ps parts path name) (sym is) none

-- where the part of the path has no such file
pub no_such_file : (ps : List PackageModel) → IsWorkspace ps → (parts : List (Option PartModel)) (path name : List ℕ) (p : PartModel) → IsPartAt ps parts path p → All (λ f. f.name ≡ name → ⊥) p.input.source.1 → HasNoFile ps parts path name
no_such_file ps well parts path name p there none = λ q at. subst (λ (r : PartModel). All (λ f. f.name ≡ name → ⊥) r.input.source.1) (sym (one_part_at ps well parts path q p at there)) none
