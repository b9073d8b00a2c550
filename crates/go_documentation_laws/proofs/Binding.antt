-- What the one import of an added file binds, where it is written with a name.
use Rattle.std.proofs.Common.{◌≡◌, ℕ, zero, suc, Bool, true, false, List, [], ◌∷◌, ◌++◌, Option, Some, None, slice_get, is_some, refl, ap, ◌∙◌, subst, if◌then◌else◌, arith, ◌+◌}
use Rattle.std.specs.Prelude.{option_map}
use Rattle.std.specs.Str.{bytes_eq}
use Rattle.std.proofs.lemmas.Option.{slice_get-map}
use Rattle.std.proofs.lemmas.Slice.Eq.{bytes_eq-Decides}
use Rattle.go_path_core.specs.text_core.Text.{is_blank}
use Rattle.go_tree_nodes.specs.declared.files.ImportName.{ImportName}
use Rattle.go_tree_nodes.specs.declared.files.ImportName.TheVariants as written
use Rattle.go_tree_nodes.specs.declared.names.Ident.{Ident}
use Rattle.go_tree_nodes.specs.Terminals.{value_of}
use Rattle.go_tree_nodes.specs.Trees.{FileTree, ImportSpecTree}
use Rattle.go_graph_core.specs.declared.imports.ImportAt.{ImportAt}
use Rattle.go_graph_core.specs.Lists.{AllNumbered}
use Rattle.go_graph_core.specs.Packages.{Trees}
use Rattle.go_graph_core.proofs.Zips.{numbered_at}
use Rattle.go_block_core.specs.declared.binding.Binding.{Binding}
use Rattle.go_block_core.specs.declared.binding.Target.{Target}
use Rattle.go_block_core.specs.declared.imports.Imported.{Imported}
use Rattle.go_block_core.specs.Bindings.{Bound, bound_as, form_bound, import_target}
use Rattle.go_block_core.specs.Blocks.{AreBlocks, BlocksModel, file_binding, file_has, in_some}
use Rattle.go_block_core.specs.Holding.{bound_block, file_block}
use Rattle.go_block_core.specs.Naming.{AreInFile, AreInPackage, file_named, file_specs, form_named, import_at, package_named, specs_named}
use Rattle.go_block_core.specs.Tables.{in_block}
use Rattle.go_term_core.specs.decl_core.declared.keys.DeclRef.{DeclRef}
use Rattle.go_snap_core.proofs.WholeWorkspaceLists.{none_is_some}

-- the imports of a file among those of all
named_at : (ts : Trees) (files : List (List Imported)) (n : ℕ) (t : List ℕ × FileTree) (is : List Imported) → slice_get ts n ≡ Some t → slice_get files n ≡ Some is → slice_get (package_named ts files) n ≡ Some (file_named t.1 is)
named_at [] files n t is at here = absurd (none_is_some at)
named_at (u ∷ ts) [] n t is at here = absurd (none_is_some here)
named_at (u ∷ ts) (js ∷ files) zero t is at here =
    let tree : u ≡ t = (let o : Some u ≡ Some t = at in cc) in
    let same : js ≡ is = (let o : Some js ≡ Some is = here in cc) in
    λ k. Some (file_named (tree k).1 (same k))
named_at (u ∷ ts) (js ∷ files) (suc n) t is at here = named_at ts files n t is at here

-- of one import what it comes to
one_imported : (R : ℕ → ImportSpecTree → Imported → Type 0) (spec : ImportSpecTree) (is : List Imported) → AllNumbered R 0 (spec ∷ []) is → (i : Imported) × (is ≡ i ∷ []) × R 0 spec i
one_imported R spec [] h = absurd h
one_imported R spec (i ∷ []) h = (i, refl, h.0)
one_imported R spec (i ∷ j ∷ is) h = absurd h.1

-- what it binds
abbrev binding_of : ImportSpecTree → Imported → Binding
binding_of spec i = record { at = spec.path.span.start; target = import_target i }

abbrev bound_unless : Bool → ℕ → List ℕ → Target → List Bound
bound_unless blank at name target = if blank then [] else bound_as at name target ∷ []

in_one : (blank : Bool) (at : ℕ) (name : List ℕ) (target : Target) → bytes_eq name name ≡ true → blank ≡ false → in_block (bound_block [] (bound_unless blank at name target ++ [])) name ≡ Some (record { at = at; target = target })
in_one true at name target same plain = absurd (let no : true ≡ false = plain in cc)
in_one false at name target same plain = ap (λ (y : Bool). if y then Some (bound_as at name target).binding else None) same

bound_one : (spec : ImportSpecTree) (i : Imported) (id : Ident) → spec.name ≡ written.Named id → is_blank id.name ≡ false → in_block (file_block (specs_named (spec ∷ []) (i ∷ []))) id.name ≡ Some (binding_of spec i)
bound_one spec i id is plain =
    let same : bytes_eq id.name id.name ≡ true = (bytes_eq-Decides id.name id.name).1 refl in
    ap (λ (n : ImportName). in_block (bound_block [] (form_bound spec.path.span.start i (form_named (value_of spec.path) n i) ++ [])) id.name) is
    ∙ in_one (is_blank id.name) spec.path.span.start id.name (import_target i) same plain

-- the import of a package of these trees, at the place of an import that comes to what each P holds of
module _ (P : ImportAt → Imported → Type 0) (number : ℕ) (ts : Trees) (imports : List (List Imported)) (b : BlocksModel) (blocks : AreBlocks ts (package_named ts imports) b) (are : AreInPackage P number ts imports)
    (file : ℕ) (name : List ℕ) (tree : FileTree) (at : slice_get ts file ≡ Some (name, tree)) (spec : ImportSpecTree) (specs : file_specs tree ≡ spec ∷ []) (id : Ident) (is : spec.name ≡ written.Named id) (plain : is_blank id.name ≡ false)
    (free : in_block b.names id.name ≡ None)
  where
    pub record Binds : Type 0 where
      pub imported : Imported
      pub holds : P (import_at number file 0) imported
      pub binding : Binding
      pub target : binding.target ≡ import_target imported
      pub bound : file_binding b file id.name ≡ Some binding

    pub binds : Binds
    binds =
        let x = numbered_at (λ n t l. AreInFile P number n t.1 l) 0 ts imports file (name, tree) are at in
        let e : 0 + file ≡ file = omega arith in
        let in_file : AreInFile P number file tree x.0 = subst (λ (k : ℕ). AreInFile P number k tree x.0) e x.2 in
        let one = one_imported (λ n s i. P (import_at number file n) i) spec x.0 (subst (λ (ss : List ImportSpecTree). AllNumbered (λ n s i. P (import_at number file n) i) 0 ss x.0) specs in_file) in
        let named : slice_get (package_named ts imports) file ≡ Some (specs_named (spec ∷ []) (one.0 ∷ [])) =
        named_at ts imports file (name, tree) x.0 at x.1 ∙ (λ k. Some (specs_named (specs k) (one.1 k))) in
        let block : slice_get b.files file ≡ Some (file_block (specs_named (spec ∷ []) (one.0 ∷ []))) =
        ap (λ (l : List (List (List ℕ × Binding))). slice_get l file) blocks.file_names ∙ (slice_get-map file_block (package_named ts imports) file ∙ ap (option_map file_block) named) in
        let has : file_has b file id.name ≡ Some (binding_of spec one.0) = ap (λ o. in_some o id.name) block ∙ bound_one spec one.0 id is plain in
        record {
          imported = one.0;
          holds = one.2;
          binding = binding_of spec one.0;
          target = refl;
          bound = ap (λ (o : Option DeclRef). if is_some o then None else file_has b file id.name) free ∙ has;
        }
