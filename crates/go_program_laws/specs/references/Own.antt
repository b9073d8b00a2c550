-- The functions that a package declares itself.
--
-- docs/RULES.md, "Faces of declarations", "Files and packages". The Go specification, "Function declarations", "Declarations and scope".
use Rattle.std.specs.Prelude.{◌≡◌, All, Some, Contains, slice_get}
use Rattle.go_tree_nodes.specs.Spelling.{IsPlaced}
use Rattle.go_tree_nodes.specs.Trees.{FileTree, FuncTree}
use Rattle.go_term_core.specs.decl_core.TopDecls.{FuncForm, TopDeclTree, top_decls}
use Rattle.go_term_core.specs.decl_core.declared.keys.DeclRef.{DeclRef}
use Rattle.go_term_core.specs.Terms.{Sign}
use Rattle.go_emit_core.specs.declared_core.declared.face.Face.TheVariants as faces
use Rattle.go_body_core.specs.env_core.Found.{own_face}
use Rattle.go_emit_core.specs.package_core.PreparePackages.{scene_in, trees_in}
use Rattle.go_emit_core.specs.package_core.PackagePartInputs.{InputModel}
use Rattle.go_emit_core.specs.package_core.PackagePartParts.{ContentOf, IsPart, package_seen, seen_by}
use Rattle.go_program_laws.specs.types.Functions.{known_types}
use Rattle.go_program_laws.specs.references.Headers.{signature_in}

-- the file of a number of a package declares a function by the identifier of a number, and this is the signature that is written there
pub record IsDeclaredFunction (i : InputModel) (c : ContentOf) (d : DeclRef) (s : Sign) : Type 0 where
  pub tree : FileTree
  pub in_package : slice_get (trees_in i.source) d.file ≡ Some tree
  pub decl : TopDeclTree
  pub among : Contains (top_decls tree) decl
  pub number : decl.number ≡ d.number
  pub func : FuncTree
  pub form : decl.form ≡ FuncForm func
  pub is : s ≡ signature_in i c d.file tree func

-- what a package has for a function among its own declarations is one that it declares, and its signature is the one that is written there
abbrev pub OwnFunctionsAreDeclared : Type 0
OwnFunctionsAreDeclared =
    (i : InputModel) (c : ContentOf) → IsPart i c → All IsPlaced (trees_in i.source)
    → (d : DeclRef) (s : Sign) → own_face (scene_in (package_seen i c.blocks (seen_by i)) (known_types i c)) c.declared d ≡ Some (faces.Func s) → IsDeclaredFunction i c d s

-- and what it declares as a function, or as a method, it has for one
abbrev pub DeclaredFunctionsAreOwn : Type 0
DeclaredFunctionsAreOwn =
    (i : InputModel) (c : ContentOf) → IsPart i c → All IsPlaced (trees_in i.source)
    → (d : DeclRef) (s : Sign) → IsDeclaredFunction i c d s → own_face (scene_in (package_seen i c.blocks (seen_by i)) (known_types i c)) c.declared d ≡ Some (faces.Func s)
