-- What is answered for a checked package, by the contexts of its identifiers; and packages that differ in the spelling of one of them.
--
-- docs/RULES.md, "Occurrences", "Expressions: roles, order, faults of parts", "Constants and variables of a package", "Bodies of functions". The
-- Go specification, "Declarations and scope", "Selectors", "Package initialization".
use Rattle.std.specs.Prelude.{◌≡◌, ⊤, ℕ, ◌+◌, List, [], ◌++◌, length, map, slice_get, Option, Some, None}
use Rattle.go_tree_nodes.specs.declared.names.Ident.{Ident}
use Rattle.go_tree_nodes.specs.Trees.{TopTree, FileTree}
use Rattle.go_term_core.specs.Terms.{Term}
use Rattle.go_names_core.specs.block_core.Naming.{file_specs}
use Rattle.go_type_core.specs.table_core.Entries.{Entry}
use Rattle.go_candidate_core.specs.handle_core.Declarations.{Declaration}
use Rattle.go_names_core.specs.local_core.Binding.{NameLook}
use Rattle.go_stmt_core.specs.expr_core.Uses.{Context, Identifier, rule, role_of, made_use}
use Rattle.go_package_core.specs.env_core.declared.meaning.Meaning.{Meaning}
use Rattle.go_package_core.specs.body_core.Notes.{TheUse}
use Rattle.go_package_core.specs.body_core.FunctionStands.{FileStand, looks_where}
use Rattle.go_package_core.specs.body_core.FileImports.{imports_uses}
use Rattle.go_package_core.specs.prepare.Packages.{PackageIn}
use Rattle.go_package_core.specs.Checked.{AnswersOf, CheckedOf, IsChecked, imports_at, stand_at}
use Rattle.go_complete_core.specs.spelling.Files.{with_decls}
use Rattle.go_complete_core.specs.spelling.Places.{placed_spot, placed_use, tops_places, MeanThere}
use Rattle.go_complete_core.specs.spelling.Spellings.{RespellsTops, InInitialiser, InOuterTypes, InBody, RespellsPackage}

-- what is answered for the occurrences of the file of a number, in order of their places

abbrev pub some_uses : Option AnswersOf → List TheUse
some_uses None = []
some_uses (Some a) = a.uses

abbrev pub uses_in : CheckedOf → ℕ → List TheUse
uses_in c n = some_uses (slice_get c.files n)

-- where this file is checked, by what was made of the package
abbrev pub checked_stand : PackageIn → List Entry → CheckedOf → ℕ → FileTree → FileStand
checked_stand p far c n f = stand_at p (far ++ c.types) c.declared (n, f)

-- what its imports have, which stand before its declarations
abbrev pub import_outcomes : PackageIn → ℕ → FileTree → List TheUse
import_outcomes p n f = imports_uses (file_specs f) (imports_at p n)

-- Behind what its imports have, a file has what the context of each of its identifiers gives for its own spelling, by what names mean where it stands,
-- and its calls.
abbrev pub ContextsDecide : Type 0
ContextsDecide =
    (p : PackageIn) (far : List Entry) (c : CheckedOf) → IsChecked p far c → (n : ℕ) (f : FileTree) → slice_get p.trees n ≡ Some f
    → uses_in c n ≡ import_outcomes p n f ++ map (placed_use (checked_stand p far c n f)) (tops_places (checked_stand p far c n f) f.decls)

-- The identifier stands in one context before and after: where `before` and `after` are what is answered for its file, `imports` what the imports have,
-- which stand before its declarations, `ds` and `es` these declarations, and `st` and `other` where they are checked.
pub record StaysInFile (x : Ident) (name : List ℕ) (st other : FileStand) (ds es : List TopTree) (r : RespellsTops x name ds es) (imports before after : List TheUse) : Type 0 where
  -- its number among the occurrences of the declarations
  pub number : ℕ
  pub context : Context Term Declaration
  -- what names mean there, before and after
  pub names : NameLook Meaning
  pub others : NameLook Meaning
  pub stands : slice_get (tops_places st ds) number ≡ Some (placed_spot names (Identifier context x))
  pub there : MeanThere st other r names others
  -- each package has what the rule of this context gives for its spelling
  pub had : slice_get before (length imports + number) ≡ Some (made_use x.span.start (role_of context) (rule (looks_where st names) context x.span.start x.name))
  pub has : slice_get after (length imports + number) ≡ Some (made_use x.span.start (role_of context) (rule (looks_where other others) context x.span.start name))

-- the identifier stands in no type outside functions
abbrev pub IsInValues : {x : Ident} {name : List ℕ} {ds es : List TopTree} → RespellsTops x name ds es → Type 0
IsInValues (InInitialiser r s) = ⊤
IsInValues (InOuterTypes r) = ⊥
IsInValues (InBody r s) = ⊤

-- it stands in a body
abbrev pub IsInBody : {x : Ident} {name : List ℕ} {ds es : List TopTree} → RespellsTops x name ds es → Type 0
IsInBody (InInitialiser r s) = ⊥
IsInBody (InOuterTypes r) = ⊥
IsInBody (InBody r s) = ⊤

-- Two packages that differ in the spelling of one identifier, over the same types of the packages that they reach, and what their checks give.
pub record ContextsStayInPackages : Type 0 where
  -- the identifier stands in the context in which it stood
  pub contexts : (x : Ident) (name : List ℕ) (n : ℕ) (p q : PackageIn) (far : List Entry) (c d : CheckedOf) (r : RespellsPackage x name n p q) → IsChecked p far c → IsChecked q far d
      → StaysInFile x name (checked_stand p far c n r.file) (checked_stand q far d n (with_decls r.file r.decls)) r.file.decls r.decls r.respells (import_outcomes p n r.file) (uses_in c n) (uses_in d n)
  -- in an initialiser or a body it leaves the types as they were
  pub types : (x : Ident) (name : List ℕ) (n : ℕ) (p q : PackageIn) (far : List Entry) (c d : CheckedOf) (r : RespellsPackage x name n p q) → IsChecked p far c → IsChecked q far d → IsInValues r.respells → c.types ≡ d.types
  -- in a body it leaves what the declarations are, too
  pub declared : (x : Ident) (name : List ℕ) (n : ℕ) (p q : PackageIn) (far : List Entry) (c d : CheckedOf) (r : RespellsPackage x name n p q) → IsChecked p far c → IsChecked q far d → IsInBody r.respells → c.declared ≡ d.declared
