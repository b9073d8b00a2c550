-- What holds where one identifier is spelled anew.
--
-- docs/RULES.md, "Constants and variables of a package", "Expressions: roles, order, faults of parts". The Go specification, "Selectors", "Package
-- initialization".
use Rattle.std.specs.Prelude.{◌≡◌, ◌↔◌, ℕ, List, Option, map}
use Rattle.go_tree_nodes.specs.declared.names.Ident.{Ident}
use Rattle.go_tree_nodes.specs.declared.types.TypeName.{TypeName}
use Rattle.go_tree_nodes.specs.declared.usage.Usage.{Usage}
use Rattle.go_tree_nodes.specs.Trees.{TypeTree, SignatureTree, ValueSpecTree}
use Rattle.go_candidate_core.specs.handle_core.Declarations.{Declaration}
use Rattle.go_cursor_core.specs.denote_core.declared.things.Found.{Found}
use Rattle.go_cursor_core.specs.denote_core.declared.things.Dot.{Dot}
use Rattle.go_cursor_core.specs.denote_core.CompositeKeys.{KeyContext}
use Rattle.go_term_core.specs.Terms.{Term, Sign}
use Rattle.go_stmt_core.specs.expr_core.Looks.{Looks, WrittenRules}
use Rattle.go_stmt_core.specs.expr_core.Laws.{finding}
use Rattle.go_stmt_core.specs.expr_core.Respelling.{RespellsName, RespellsType, RespellsSignature}
use Rattle.go_stmt_core.specs.expr_core.TypeUses.{type_uses, signature_uses}
use Rattle.go_stmt_core.specs.expr_core.Uses.{SelectorBehind, KeyAmong, rule, type_name_spots, type_name_uses, type_spots, signature_spots}
use Rattle.go_candidate_core.specs.declared_core.Faces.{TheFace}
use Rattle.go_package_core.specs.env_core.Scenes.{SceneModel}
use Rattle.go_snap_core.specs.value_core.Package.{PlacedOf}
use Rattle.go_snap_core.specs.value_core.Laws.{AreFaces}
use Rattle.go_stmt_core.specs.piece.Specifications.{spec_uses}
use Rattle.go_complete_core.specs.spelling.Contexts.{ContextStays}
use Rattle.go_complete_core.specs.spelling.Package.{FileForm, AreFixed, AllFixed, AreFacesOf, AreWrittenAnew, file_looks, placed_form}
use Rattle.go_complete_core.specs.spelling.PieceSpots.{spec_spots}
use Rattle.go_complete_core.specs.spelling.Trees.{RespellsValues}

-- One identifier of one initialiser of a package is spelled anew. Then what the package's declarations are may differ, before and after; but the
-- identifier stands in the context in which it stood, and has what this context's rule gives for the new spelling. So what stands in front of a dot
-- denotes what it denoted, through chains of declarations too: what it needs cannot need the declaration of this initialiser, or neither is anything.
abbrev pub InitialContextsStay : Type 0
InitialContextsStay =
    (s : SceneModel) (ds es : List FileForm) (t u : List (Option TheFace)) (file : ℕ) (written : WrittenRules Term) (x : Ident) (name : List ℕ) (v w : ValueSpecTree)
    → RespellsValues x name v w → AreWrittenAnew file v w ds es → AllFixed ds → AllFixed es → AreFixed written → AreFacesOf s ds t → AreFacesOf s es u
    → ContextStays Term Sign Declaration (List ℕ) (file_looks s file written u) x name (spec_spots (file_looks s file written t) v) (spec_uses (file_looks s file written u) w)

-- what the declarations of a package are whose types are made of the initialisers of their files
abbrev pub FacesAreAsEver : Type 0
FacesAreAsEver = (s : SceneModel) (ds : List PlacedOf) (t : List (Option TheFace)) → AreFacesOf s (map (placed_form s) ds) t ↔ AreFaces s ds t

-- behind a dot, and before a colon, a name has the same by look-ups that differ in what names stand for alone
pub record BehindDotsNoNames (T S D P : Type 0) : Type 0 where
  pub selectors : (looks : Looks T S D P) (find : List ℕ → ℕ → Found T S D) (u : Usage) (dot : Dot T D) (offset : ℕ) (name : List ℕ)
      → rule looks (SelectorBehind u dot) offset name ≡ rule (finding find looks) (SelectorBehind u dot) offset name
  pub keys : (looks : Looks T S D P) (find : List ℕ → ℕ → Found T S D) (k : KeyContext T) (offset : ℕ) (name : List ℕ)
      → rule looks (KeyAmong k) offset name ≡ rule (finding find looks) (KeyAmong k) offset name

-- Types outside functions: the names that types, headers and receivers write. One identifier of such a type is spelled anew; then the types of the
-- package, and what its declarations are, may be others: the identifier stands in the context in which it stood. For what stands before a dot is the
-- name of an import there, or nothing.
pub record OuterTypesStay : Type 0 where
  pub names : (s other : SceneModel) (file : ℕ) (written written' : WrittenRules Term) (known known' : List (Option TheFace)) (x : Ident) (name : List ℕ) → s.path ≡ other.path → s.blocks ≡ other.blocks
      → (n m : TypeName) → RespellsName x name n m
      → ContextStays Term Sign Declaration (List ℕ) (file_looks other file written' known') x name (type_name_spots (file_looks s file written known) n) (type_name_uses (file_looks other file written' known') m)
  pub types : (s other : SceneModel) (file : ℕ) (written written' : WrittenRules Term) (known known' : List (Option TheFace)) (x : Ident) (name : List ℕ) → s.path ≡ other.path → s.blocks ≡ other.blocks
      → (t u : TypeTree) → RespellsType x name t u
      → ContextStays Term Sign Declaration (List ℕ) (file_looks other file written' known') x name (type_spots (file_looks s file written known) t) (type_uses (file_looks other file written' known') u)
  pub signatures : (s other : SceneModel) (file : ℕ) (written written' : WrittenRules Term) (known known' : List (Option TheFace)) (x : Ident) (name : List ℕ) → s.path ≡ other.path → s.blocks ≡ other.blocks
      → (a b : SignatureTree) → RespellsSignature x name a b
      → ContextStays Term Sign Declaration (List ℕ) (file_looks other file written' known') x name (signature_spots (file_looks s file written known) a) (signature_uses (file_looks other file written' known') b)
