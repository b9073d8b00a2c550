-- Types that are written are over what code takes them for.
--
-- docs/RULES.md, "Types inside functions", "Stack code". The Go specification, "Types", "Function types", "Declarations and scope".
use Rattle.std.specs.Prelude.{◌≡◌, ℕ, true, List, [], Option, Some, Contains}
use Rattle.go_term_core.specs.decl_core.declared.keys.DeclKey.{DeclKey}
use Rattle.go_term_core.specs.decl_core.declared.keys.DeclRef.{DeclRef}
use Rattle.go_names_core.specs.block_core.declared.binding.Binding.{Binding}
use Rattle.go_names_core.specs.block_core.declared.binding.Target.TheVariants as targets
use Rattle.go_names_core.specs.block_core.Bindings.{key_of}
use Rattle.go_names_core.specs.block_core.Blocks.{file_binding}
use Rattle.go_names_core.specs.block_core.Tables.{in_block}
use Rattle.go_tree_nodes.specs.declared.files.Receiver.{Receiver}
use Rattle.go_tree_nodes.specs.Trees.{FileTree, FuncTree, TypeTree}
use Rattle.go_tree_nodes.specs.WrittenTypes.{signature_types, some_type}
use Rattle.go_names_core.specs.local_core.Binding.{Local}
use Rattle.go_names_core.specs.local_core.Steps.{Piece, Header, Spec, Act, Condition, Given}
use Rattle.go_term_core.specs.Terms.{Term}
use Rattle.go_term_core.specs.settling.Settled.{settled}
use Rattle.go_body_core.specs.table_core.Entries.{Entry, find_entry, kinds_in}
use Rattle.go_meaning_laws.specs.handle_core.DecidingRules.{typed}
use Rattle.go_body_core.specs.typexpr_core.EntryMeanings.{shown_type, through, type_of_key}
use Rattle.go_body_core.specs.typexpr_core.EntryShowing.{shown_in}
use Rattle.go_report_core.specs.expr_core.Denoting.{named_type, written_type}
use Rattle.go_body_core.specs.stmt_core.PieceHeaders.{returned_types}
use Rattle.go_emit_core.specs.declared_core.declared.face.Face.TheVariants as faces
use Rattle.go_emit_core.specs.declared_core.declared.shown.ShownFace.TheVariants as shown_faces
use Rattle.go_emit_core.specs.declared_core.Packages.{exported_in, face_in}
use Rattle.go_body_core.specs.env_core.declared.meaning.Meaning.{Meaning as NameMeaning}
use Rattle.go_body_core.specs.env_core.Found.{own_face}
use Rattle.go_object_core.specs.declared.instructions.letters.Word.{Word}
use Rattle.go_code_core.specs.declared.fragments.names.Gives.TheVariants as gives
use Rattle.go_code_core.specs.fragments.Fragment.{type_name_word, type_word}
use Rattle.go_code_core.specs.fragments.Inside.{signature_inside}
use Rattle.go_workspace_laws.specs.folding.Reading.{IsOneOver, IsOver}
use Rattle.go_meaning_laws.specs.fitting_sources.Fitting.{signature_gives}
use Rattle.go_body_core.specs.function.Stands.{outer_looks}
use Rattle.go_emit_core.specs.package_core.PreparePackages.{PackageIn, scene_in, shows_in}
use Rattle.go_report_core.specs.summary_core.Views.{exports_told, faces_told}
use Rattle.go_emit_core.specs.package_core.PackagePartInputs.{InputModel, path_in}
use Rattle.go_emit_core.specs.package_core.PackagePartParts.{ContentOf, FileOf, package_seen, seen_by}
use Rattle.go_workspace_laws.specs.ConstantLaws.{code_names_of}
use Rattle.go_workspace_laws.specs.Standing.{pieces_of, stand_in_part}
use Rattle.go_program_laws.specs.types.Functions.{IsFunction, function_looks, known_types}

-- what a term is among the types of a table, where it is a type
abbrev pub typed_in : List Entry → Term → Option Term
typed_in es u = typed (find_entry es) (settled (kinds_in es) u)

-- a package, as its check sees it
abbrev pub seen_in : InputModel → ContentOf → PackageIn
seen_in i c = package_seen i c.blocks (seen_by i)

-- what a name that denotes a type means among the types that the package knows: an alias its target
abbrev pub meant_in : InputModel → ContentOf → Term → Option Term
meant_in i c u = typed_in (known_types i c) (through (shows_in (seen_in i c)).target u)

-- what is known as a type is what its name means where a type is written: a declaration of the package itself, and what the packages show that are reached,
-- behind a dot, and by itself, where an import binds it
pub record ShowTheirTypes (i : InputModel) (c : ContentOf) : Type 0 where
  pub own : (name : List ℕ) (d : DeclRef) (t : Option Term) → in_block c.blocks.names name ≡ Some d → own_face (scene_in (seen_in i c) (known_types i c)) c.declared d ≡ Some (faces.«Type» t)
      → meant_in i c (type_of_key (key_of (path_in i) d)) ≡ t
  pub named : (file : ℕ) (name : List ℕ) (b : Binding) (k : DeclKey) (t : Option Term) → file_binding c.blocks file name ≡ Some b → b.target ≡ targets.Exported k
      → face_in (faces_told i.reached) k.path k.decl ≡ Some (faces.«Type» t) → meant_in i c (type_of_key k) ≡ t
  pub shown : (path name : List ℕ) (d : DeclRef) (t : Option Term) → exported_in (faces_told i.reached) path name ≡ shown_faces.Shown d (Some (faces.«Type» t))
      → meant_in i c (shown_type path (shown_in (exports_told i.reached) path name)) ≡ t

-- the types of a header, and that of a specification
abbrev pub own_types : Piece → List TypeTree
own_types (Header r s) = signature_types s
own_types (Spec kind v) = some_type v.type_expr
own_types (Act s) = []
own_types (Condition e) = []
own_types (Given place es) = []

-- a type that is written in a header or a specification is over what code takes it for, and so are the type of a receiver and the result of a function
pub record TypesAreOver : Type 0 where
  pub written : (i : InputModel) (c : ContentOf) (n : ℕ) (t : FileTree) (f : FileOf) (g : FuncTree) (all : List (Local NameMeaning)) → IsFunction i c n t f g all → ShowTheirTypes i c
      → (p : Piece) → Contains (pieces_of g) p → (u : TypeTree) → Contains (own_types p) u → (w : Word) → type_word (code_names_of i c n f g) u ≡ Some w
      → IsOver (function_looks i c n t all).types w (written_type (function_looks i c n t all) u)
  pub received : (i : InputModel) (c : ContentOf) (n : ℕ) (t : FileTree) (f : FileOf) (g : FuncTree) (all : List (Local NameMeaning)) → IsFunction i c n t f g all → ShowTheirTypes i c
      → (r : Receiver) → g.receiver ≡ Some r → (w : Word) → type_name_word (code_names_of i c n f g) r.base ≡ Some w
      → IsOver (function_looks i c n t all).types w (named_type (function_looks i c n t all) r.base)
  pub returned : (i : InputModel) (c : ContentOf) (n : ℕ) (t : FileTree) (f : FileOf) (g : FuncTree) (all : List (Local NameMeaning)) → IsFunction i c n t f g all → ShowTheirTypes i c
      → signature_inside (code_names_of i c n f g) g.signature ≡ true → (w : Word) → signature_gives (code_names_of i c n f g) g.signature ≡ gives.One w
      → IsOneOver (function_looks i c n t all).types w (returned_types (outer_looks (stand_in_part i c n t)) g.signature)
