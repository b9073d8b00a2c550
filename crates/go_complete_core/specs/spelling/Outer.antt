-- Types outside functions in which one identifier is spelled anew: in the declarations of a file.
--
-- docs/RULES.md, "Types", "Declarations outside functions". The Go specification, "Types", "Qualified identifiers", "Function declarations".
use Rattle.std.specs.Prelude.{◌≡◌, ℕ, List, ◌∷◌, Option, Some}
use Rattle.go_tree_nodes.specs.text_core.declared.span.Span.{Span}
use Rattle.go_tree_nodes.specs.declared.names.Ident.{Ident}
use Rattle.go_tree_nodes.specs.declared.decls.ValueKind.{ValueKind}
use Rattle.go_tree_nodes.specs.declared.files.Receiver.{Receiver}
use Rattle.go_tree_nodes.specs.declared.types.TypeName.{TypeName}
use Rattle.go_tree_nodes.specs.Trees.{Separated, TypeTree, SignatureTree, ExprTree, ValueSpecTree, TypeSpecTree, Specs, Single, Group, FuncTree, DeclTree, Value, Types, Func, TopTree}
use Rattle.go_term_core.specs.Terms.{Term, Sign}
use Rattle.go_candidate_core.specs.handle_core.Declarations.{Declaration}
use Rattle.go_stmt_core.specs.expr_core.Respelling.{RespellsName, RespellsType, RespellsSignature}
use Rattle.go_package_core.specs.body_core.FunctionStands.{FileStand, outer_looks}
use Rattle.go_package_core.specs.body_core.FileFiles.{tops_uses}
use Rattle.go_complete_core.specs.spelling.Contexts.{ContextStays}
use Rattle.go_complete_core.specs.spelling.Trees.{value_spec_with, with_base, with_receiver, with_signature}
use Rattle.go_complete_core.specs.spelling.Files.{WritesInSpecs}
use Rattle.go_complete_core.specs.spelling.Spots.{tops_spots}

-- a declaration of a type, with another type: an alias stays one
abbrev pub type_spec_with : TypeSpecTree → TypeTree → TypeSpecTree
type_spec_with t u = record t { type_expr = u }

-- declarations of types, alone or in parentheses

pub data RespellsTypeGroup (x : Ident) (name : List ℕ) : List (TypeSpecTree × Option Span) → List (TypeSpecTree × Option Span) → Type 0 where
  InFirstType : {t : TypeSpecTree} {u : TypeTree} {s : Option Span} {more : List (TypeSpecTree × Option Span)} → RespellsType x name t.type_expr u
      → RespellsTypeGroup x name ((t, s) ∷ more) ((type_spec_with t u, s) ∷ more)
  InLaterTypes : {a : TypeSpecTree × Option Span} {more rest : List (TypeSpecTree × Option Span)} → RespellsTypeGroup x name more rest → RespellsTypeGroup x name (a ∷ more) (a ∷ rest)

pub data RespellsTypeSpecs (x : Ident) (name : List ℕ) : Specs TypeSpecTree → Specs TypeSpecTree → Type 0 where
  InOneType : {t : TypeSpecTree} {u : TypeTree} → RespellsType x name t.type_expr u → RespellsTypeSpecs x name (Single t) (Single (type_spec_with t u))
  InTypeGroup : {first last : Span} {ts us : List (TypeSpecTree × Option Span)} → RespellsTypeGroup x name ts us → RespellsTypeSpecs x name (Group first ts last) (Group first us last)

-- a declaration: of constants or variables with a type that is written, of types, of a function or a method by its header
pub data RespellsOuterType (x : Ident) (name : List ℕ) : DeclTree → DeclTree → Type 0 where
  InValueType : {k : ValueKind} {place : Span} {vs ws : Specs ValueSpecTree} {xs : Separated Ident} {t u : TypeTree} {values : Option (Span × Separated ExprTree)}
      → RespellsType x name t u → WritesInSpecs (value_spec_with xs (Some t) values) (value_spec_with xs (Some u) values) vs ws
      → RespellsOuterType x name (Value (record { kind = k; keyword = place; specs = vs })) (Value (record { kind = k; keyword = place; specs = ws }))
  InTypeDecl : {place : Span} {ts us : Specs TypeSpecTree} → RespellsTypeSpecs x name ts us → RespellsOuterType x name (Types (record { keyword = place; specs = ts })) (Types (record { keyword = place; specs = us }))
  InReceiverType : {f : FuncTree} {r : Receiver} {n : TypeName} → f.receiver ≡ Some r → RespellsName x name r.base n → RespellsOuterType x name (Func f) (Func (with_receiver f (with_base r n)))
  InHeaderType : {f : FuncTree} {g : SignatureTree} → RespellsSignature x name f.signature g → RespellsOuterType x name (Func f) (Func (with_signature f g))

pub data RespellsOuterTops (x : Ident) (name : List ℕ) : List TopTree → List TopTree → Type 0 where
  InOuterTop : {d e : DeclTree} {s : Span} {more : List TopTree} → RespellsOuterType x name d e → RespellsOuterTops x name (record { decl = d; semicolon = s } ∷ more) (record { decl = e; semicolon = s } ∷ more)
  BehindOuterTop : {d : TopTree} {more rest : List TopTree} → RespellsOuterTops x name more rest → RespellsOuterTops x name (d ∷ more) (d ∷ rest)

-- Then the types of the package may be others, and what its declarations are: whatever they are, the identifier stands in the context in which it
-- stood, if the file is the same file of a package of the same path, whose blocks bind the same names.
abbrev pub OuterTypesInFilesStay : Type 0
OuterTypesInFilesStay =
    (st other : FileStand) (x : Ident) (name : List ℕ) (ds es : List TopTree) → st.scene.path ≡ other.scene.path → st.scene.blocks ≡ other.scene.blocks → st.file.file ≡ other.file.file
    → RespellsOuterTops x name ds es → ContextStays Term Sign Declaration (List ℕ) (outer_looks other) x name (tops_spots st ds) (tops_uses other es)
