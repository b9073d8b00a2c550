-- What imports bind in the block of their file.
--
-- The Go specification, "Import declarations", "Exported identifiers", "Identifiers".
use Rattle.std.specs.Prelude.{◌≡◌, ◌≢◌, ◌⊎◌, ◌↔◌, ℕ, ◌+◌, true, List, [], ◌∷◌, ◌++◌, length, Option, Some, None, All, Contains, IsUtf8, chars, codes, slice_get}
use Rattle.go_denote_core.specs.text_core.declared.rule.Rule.{Rule}
use Rattle.go_denote_core.specs.text_core.declared.rule.Rule.TheVariants.{I2}
use Rattle.go_denote_core.specs.text_core.declared.span.Span.{Span}
use Rattle.go_denote_core.specs.text_core.Text.{uppercase}
use Rattle.go_tree_nodes.specs.token_core.declared.kind.TokenKind.TheVariants as kinds
use Rattle.go_scan_core.specs.Tokens.{IsLexeme}
use Rattle.go_tree_nodes.specs.declared.files.ImportName.{ImportName}
use Rattle.go_tree_nodes.specs.declared.files.ImportName.TheVariants as written
use Rattle.go_tree_nodes.specs.declared.names.Ident.{Ident}
use Rattle.go_tree_nodes.specs.declared.names.TextLiteral.{TextLiteral}
use Rattle.go_tree_nodes.specs.Terminals.{value_of}
use Rattle.go_tree_nodes.specs.Trees.{FileTree, ImportTree, ImportSpecTree, Single, Group}
use Rattle.go_term_core.specs.decl_core.declared.keys.DeclRef.{DeclRef}
use Rattle.go_term_core.specs.decl_core.declared.places.DeclKind.TheVariants as decl_kinds
use Rattle.go_block_core.specs.graph_core.Packages.{IsAssembled, IsPackageName, Trees, blank, trees_of}
use Rattle.go_block_core.specs.graph_core.Workspaces.{PackageModel}
use Rattle.go_block_core.specs.declared.binding.Binding.{Binding}
use Rattle.go_block_core.specs.declared.binding.Target.{Target}
use Rattle.go_block_core.specs.declared.binding.Target.TheVariants as targets
use Rattle.go_block_core.specs.declared.imports.ImportForm.{ImportForm}
use Rattle.go_block_core.specs.declared.imports.ImportForm.TheVariants as forms
use Rattle.go_block_core.specs.declared.imports.Imported.{Imported}
use Rattle.go_block_core.specs.declared.imports.Imported.TheVariants as given
use Rattle.go_block_core.specs.declared.imports.NamedImport.{NamedImport}
use Rattle.go_block_core.specs.Bindings.{Bound, file_bound, import_bound}
use Rattle.go_block_core.specs.Blocks.{BlocksModel, exports_of}
use Rattle.go_block_core.specs.Declarations.{init}
use Rattle.go_block_core.specs.Exports.{ExportsModel, exported_names, exports_model}
use Rattle.go_block_core.specs.Holding.{file_block}
use Rattle.go_block_core.specs.Naming.{file_named, file_specs, form_named, named_import, own_name, package_named}

-- ---- how an import is written, and what it comes to

-- the place of an import is that of its string
abbrev pub import_place : ImportSpecTree → ℕ
import_place s = s.path.span.start

-- the import is written without a name
abbrev pub HasNoName : ImportSpecTree → Type 0
HasNoName s = s.name ≡ written.Own

-- the import is written with this name
abbrev pub HasName : ImportSpecTree → List ℕ → Type 0
HasName s name = (id : Ident) × (s.name ≡ written.Named id) × (id.name ≡ name)

-- the import is written with a dot
abbrev pub HasDot : ImportSpecTree → Type 0
HasDot s = (dot : Span) × (s.name ≡ written.Dot dot)

-- the import comes to a package that shows this
abbrev pub ComesToShown : Imported → ExportsModel → Type 0
ComesToShown i shown = i ≡ given.«Package» shown

-- the import is refused by this rule
abbrev pub IsRefusedBy : Imported → Rule → Type 0
IsRefusedBy i rule = i ≡ given.Refused rule

-- the import is refused
abbrev pub IsRefusedImport : Imported → Type 0
IsRefusedImport i = (rule : Rule) × IsRefusedBy i rule

-- ---- the name of an import that is written without one

-- a `/` stands before this, whatever stands before that
abbrev pub IsBehindSlash : List ℕ → List ℕ → Type 0
IsBehindSlash text element = (front : List ℕ) × (text ≡ front ++ 47 ∷ element)

-- what stands behind the last `/` of a text, and the whole text where there is none
pub record IsLastElement (text element : List ℕ) : Type 0 where
  -- no `/` is in it
  pub without : All (λ b. b ≢ 47) element
  -- it is the whole text, or stands behind a `/`
  pub stands : (text ≡ element) ⊎ IsBehindSlash text element

-- an identifier other than `_`; a keyword is no identifier
pub record IsUsableName (name : List ℕ) : Type 0 where
  -- the bytes are a text
  pub text : IsUtf8 name
  -- its characters are an identifier
  pub identifier : IsLexeme kinds.Identifier (chars name)
  -- it is not the blank one
  pub other : name ≢ blank

-- a refused import has the last element of its string's text, where that may be a name
abbrev pub IsRefusedName : List ℕ → List ℕ → Type 0
IsRefusedName text name = IsLastElement text name × IsUsableName name

-- the name of an import of this text that is written without one: that in the clauses of its package, or that of a refused import
abbrev pub IsOwnName : List ℕ → Imported → List ℕ → Type 0
IsOwnName text i name =
    ((shown : ExportsModel) × ComesToShown i shown × (name ≡ shown.name))
    ⊎ (IsRefusedImport i × IsRefusedName text name)

-- ---- the form of an import

-- without a name, where it has one of its own
abbrev pub IsOwnForm : List ℕ → ImportName → Imported → ImportForm → Type 0
IsOwnForm text n i form = (name : List ℕ) × (n ≡ written.Own) × IsOwnName text i name × (form ≡ forms.Own (Some name))

-- without a name, where it has none of its own either
abbrev pub IsNamelessForm : List ℕ → ImportName → Imported → ImportForm → Type 0
IsNamelessForm text n i form = (n ≡ written.Own) × ((name : List ℕ) → IsOwnName text i name → ⊥) × (form ≡ forms.Own None)

-- with a name
abbrev pub IsNamedForm : ImportName → ImportForm → Type 0
IsNamedForm n form = (id : Ident) × (n ≡ written.Named id) × (form ≡ forms.Named id.name)

-- with a dot
abbrev pub IsDotForm : ImportName → ImportForm → Type 0
IsDotForm n form = (dot : Span) × (n ≡ written.Dot dot) × (form ≡ forms.Dot)

-- the form of an import of this text that is written with this before it and comes to this
abbrev pub IsForm : List ℕ → ImportName → Imported → ImportForm → Type 0
IsForm text n i form =
    IsOwnForm text n i form
    ⊎ (IsNamelessForm text n i form
    ⊎ (IsNamedForm n form
    ⊎ IsDotForm n form))

-- ---- what an import binds

-- without a name: the name in the clauses of the package that it comes to
pub record BindsClauseName (s : ImportSpecTree) (i : Imported) (b : Bound) : Type 0 where
  -- it is written without a name
  pub unnamed : HasNoName s
  -- what a package shows
  pub shown : ExportsModel
  -- it comes to that package
  pub comes : ComesToShown i shown
  -- the name is that in the package's clauses
  pub named : b.name ≡ shown.name
  -- it stands where the import's string does
  pub stands : b.binding.at ≡ import_place s
  -- it denotes the package
  pub denotes : b.binding.target ≡ targets.«Package» shown.path

-- with a name other than `_`: that name
pub record BindsGivenName (s : ImportSpecTree) (i : Imported) (b : Bound) : Type 0 where
  -- the name is that which is written
  pub named : HasName s b.name
  -- it is not the blank one
  pub other : b.name ≢ blank
  -- what a package shows
  pub shown : ExportsModel
  -- it comes to that package
  pub comes : ComesToShown i shown
  -- it stands where the import's string does
  pub stands : b.binding.at ≡ import_place s
  -- it denotes the package
  pub denotes : b.binding.target ≡ targets.«Package» shown.path

-- with a dot: each exported name of the block of the package that it comes to
pub record BindsShownName (s : ImportSpecTree) (i : Imported) (b : Bound) : Type 0 where
  -- it is written with a dot
  pub dotted : HasDot s
  -- what a package shows
  pub shown : ExportsModel
  -- it comes to that package
  pub comes : ComesToShown i shown
  -- a declaration of the package
  pub decl : DeclRef
  -- the name is one that the package shows, with this declaration
  pub named : Contains shown.names (b.name, decl)
  -- it stands where the import's string does
  pub stands : b.binding.at ≡ import_place s
  -- it denotes the declaration of the package
  pub denotes : b.binding.target ≡ targets.Exported (record { path = shown.path; decl = decl })

-- refused, without a name: what stands behind the last `/` of the string, where that is an identifier other than `_` and no keyword
pub record BindsRefusedElement (s : ImportSpecTree) (i : Imported) (b : Bound) : Type 0 where
  -- it is written without a name
  pub unnamed : HasNoName s
  -- a rule
  pub rule : Rule
  -- it is refused by that rule
  pub refused : IsRefusedBy i rule
  -- the name is the last element of what the string stands for, and may be one
  pub named : IsRefusedName (value_of s.path) b.name
  -- it stands where the import's string does
  pub stands : b.binding.at ≡ import_place s
  -- the rule refuses it
  pub denotes : b.binding.target ≡ targets.Refused rule

-- refused, with a name other than `_`: that name
pub record BindsRefusedName (s : ImportSpecTree) (i : Imported) (b : Bound) : Type 0 where
  -- the name is that which is written
  pub named : HasName s b.name
  -- it is not the blank one
  pub other : b.name ≢ blank
  -- a rule
  pub rule : Rule
  -- it is refused by that rule
  pub refused : IsRefusedBy i rule
  -- it stands where the import's string does
  pub stands : b.binding.at ≡ import_place s
  -- the rule refuses it
  pub denotes : b.binding.target ≡ targets.Refused rule

-- an import that is written so and comes to this binds this
abbrev pub ImportBinds : ImportSpecTree → Imported → Bound → Type 0
ImportBinds s i b =
    BindsClauseName s i b
    ⊎ (BindsGivenName s i b
    ⊎ (BindsShownName s i b
    ⊎ (BindsRefusedElement s i b
    ⊎ BindsRefusedName s i b)))

-- an import binds nothing with the name `_`, and where it is refused with a dot, or without a name where no name stands behind the last `/`
abbrev pub BindsNothing : ImportSpecTree → Imported → Type 0
BindsNothing s i =
    HasName s blank
    ⊎ ((IsRefusedImport i × HasDot s)
    ⊎ (IsRefusedImport i × HasNoName s × ((name : List ℕ) → IsRefusedName (value_of s.path) name → ⊥)))

-- an import of the file makes this binding
pub record IsBoundIn (f : FileTree) (is : List Imported) (b : Bound) : Type 0 where
  -- the number of the import among those of the file, from 0 in order of place
  pub number : ℕ
  -- an import as it is written
  pub spec : ImportSpecTree
  -- it is that of this number
  pub there : slice_get (file_specs f) number ≡ Some spec
  -- what an import comes to
  pub imported : Imported
  -- that of this number comes to this
  pub comes : slice_get is number ≡ Some imported
  -- it binds this
  pub binds : ImportBinds spec imported b

-- the imports of the file of this number are those that its tree writes, each with what it comes to
pub record AreImportsOfFile (ts : Trees) (files : List (List Imported)) (number : ℕ) (imports : List NamedImport) : Type 0 where
  -- a file's tree, with the file's name
  pub file : List ℕ × FileTree
  -- it is that of this number
  pub there : slice_get ts number ≡ Some file
  -- what the imports of a file come to
  pub imported : List Imported
  -- those of the file of this number come to this
  pub comes : slice_get files number ≡ Some imported
  -- the imports are these
  pub imports_are : imports ≡ file_named file.1 imported

-- the name begins with a character of the category Lu
abbrev pub IsExportedName : List ℕ → Type 0
IsExportedName name = (first : ℕ) × (rest : List ℕ) × (chars name ≡ first ∷ rest) × (uppercase first ≡ true)

-- what a package with these blocks shows to those that import it
pub record IsShownBy (p : PackageModel) (b : BlocksModel) (shown : ExportsModel) : Type 0 where
  -- its path is that of the package
  pub path : shown.path ≡ p.0
  -- its name stands in each package clause
  pub clause : IsAssembled p.1 → IsPackageName (trees_of p.1) shown.name
  -- its names are the exported ones of the package block, each with its declaration there
  pub names : (name : List ℕ) (decl : DeclRef) → Contains shown.names (name, decl) ↔ (Contains b.names (name, decl) × IsExportedName name)

-- ---- a file with an import of each form

-- what stands here and is so long
abbrev span_of : ℕ → ℕ → Span
span_of at size = record { start = at; end = at + size }

-- an identifier that stands here
abbrev ident_at : ℕ → List ℕ → Ident
ident_at at name = record { name = name; span = span_of at (length name) }

-- a string that stands here and is spelled so
abbrev text_at : ℕ → List ℕ → TextLiteral
text_at at spelled = record { spelled = spelled; span = span_of at (length spelled) }

-- an import with this before a string that stands here
abbrev import_of : ImportName → ℕ → List ℕ → ImportSpecTree
import_of n at spelled = record { name = n; path = text_at at spelled }

-- a line of a group, with the semicolon of its end
abbrev line_of : ImportName → ℕ → List ℕ → ImportSpecTree × Option Span
line_of n at spelled = (import_of n at spelled, Some (span_of (at + length spelled) 0))

-- import "m/first"
abbrev single_import : ImportTree
single_import = record { keyword = span_of 16 6; specs = Single (import_of written.Own 23 (codes "\"m/first\"")); semicolon = span_of 32 0 }

-- import ( two "m/second"; . "m/third"; _ "m/fourth"; "m/fifth"; six "m/sixth"; . "m/seventh"; "m/func" ), a line for each
abbrev grouped_imports : ImportTree
grouped_imports = record {
  keyword = span_of 33 6;
  specs = Group (span_of 40 1) (
      line_of (written.Named (ident_at 43 (codes "two"))) 47 (codes "\"m/second\"")
      ∷ (line_of (written.Dot (span_of 59 1)) 61 (codes "\"m/third\"")
      ∷ (line_of (written.Named (ident_at 72 (codes "_"))) 74 (codes "\"m/fourth\"")
      ∷ (line_of written.Own 86 (codes "\"m/fifth\"")
      ∷ (line_of (written.Named (ident_at 97 (codes "six"))) 101 (codes "\"m/sixth\"")
      ∷ (line_of (written.Dot (span_of 112 1)) 114 (codes "\"m/seventh\"")
      ∷ (line_of written.Own 127 (codes "\"m/func\"")
      ∷ []))))))
      ) (span_of 136 1);
  semicolon = span_of 137 0;
}

-- a file of these imports
abbrev pub sample_file : FileTree
sample_file = record { clause = span_of 0 7; name = ident_at 8 (codes "sample"); semicolon = span_of 14 0; imports = single_import ∷ (grouped_imports ∷ []); decls = [] }

-- two functions, the first and the second declaration of a file
abbrev first_function : DeclRef
first_function = record { file = 0; number = 0; kind = decl_kinds.Func }

abbrev second_function : DeclRef
second_function = record { file = 0; number = 1; kind = decl_kinds.Func }

-- a block with an exported name and a hidden one
abbrev third_block : List (List ℕ × DeclRef)
third_block = (codes "Shown", first_function) ∷ ((codes "hidden", second_function) ∷ [])

-- what the imports of the file come to: four packages, of which the first has another name than its path ends with, and four refusals
abbrev pub sample_imported : List Imported
sample_imported =
    given.«Package» (exports_model (codes "m/first") (codes "one") ((codes "Other", first_function) ∷ []))
    ∷ (given.«Package» (exports_model (codes "m/second") (codes "second") ((codes "Other", first_function) ∷ []))
    ∷ (given.«Package» (exports_model (codes "m/third") (codes "third") (exported_names third_block))
    ∷ (given.«Package» (exports_model (codes "m/fourth") (codes "fourth") ((codes "Other", first_function) ∷ []))
    ∷ (given.Refused I2
    ∷ (given.Refused I2
    ∷ (given.Refused I2
    ∷ (given.Refused I2
    ∷ [])))))))

-- a binding of a block
abbrev bound_to : List ℕ → ℕ → Target → List ℕ × Binding
bound_to name at target = (name, record { at = at; target = target })

-- what the file's block has
abbrev pub sample_block : List (List ℕ × Binding)
sample_block =
    bound_to (codes "one") 23 (targets.«Package» (codes "m/first"))
    ∷ (bound_to (codes "two") 47 (targets.«Package» (codes "m/second"))
    ∷ (bound_to (codes "Shown") 61 (targets.Exported (record { path = codes "m/third"; decl = first_function }))
    ∷ (bound_to (codes "fifth") 86 (targets.Refused I2)
    ∷ (bound_to (codes "six") 101 (targets.Refused I2)
    ∷ []))))

-- ---- the law

-- what imports bind, by their forms
pub record ImportsBindByForm : Type 0 where
  -- each file of a package has the imports that its tree writes
  pub each_file : (ts : Trees) (files : List (List Imported)) (number : ℕ) (imports : List NamedImport) → slice_get (package_named ts files) number ≡ Some imports ↔ AreImportsOfFile ts files number imports
  -- the imports of a file bind what each of them binds, and nothing else
  pub bindings : (f : FileTree) (is : List Imported) (b : Bound) → Contains (file_bound (file_named f is)) b ↔ IsBoundIn f is b
  -- what binds nothing has no bindings
  pub nothing : (s : ImportSpecTree) (i : Imported) → BindsNothing s i → import_bound (named_import s i) ≡ []
  -- the name of an import that is written without one
  pub names : (text : List ℕ) (i : Imported) (name : List ℕ) → own_name text i ≡ Some name ↔ IsOwnName text i name
  -- the form of an import
  pub each_form : (text : List ℕ) (n : ImportName) (i : Imported) (form : ImportForm) → form ≡ form_named text n i ↔ IsForm text n i form
  -- what a package shows to those that import it
  pub shows : (p : PackageModel) (b : BlocksModel) → IsShownBy p b (exports_of p b)
  -- no import with a dot brings `init`, whatever the package declares
  pub init_is_hidden : IsExportedName init → ⊥
  -- nor does one bring `_`
  pub blank_is_hidden : IsExportedName blank → ⊥
  -- the block of a file with an import of each form has these names and no others
  pub sample : file_block (file_named sample_file sample_imported) ≡ sample_block
