-- The types that the files of a package write in initialisers and in functions.
--
-- docs/RULES.md, "Types inside functions". The Go specification, "Types", "Composite literals".
use Rattle.std.specs.Prelude.{◌≡◌, ℕ, List, [], ◌∷◌, map}
use Rattle.std.specs.List.{AllZip, flat_map, enumerate_from}
use Rattle.go_tree_nodes.specs.Trees.{FuncTree, FileTree}
use Rattle.go_term_core.specs.decl_core.TopDecls.{TopDeclTree, FormTree, ValueForm, TypeForm, FuncForm}
use Rattle.go_type_core.specs.table_core.Entries.{Entry}
use Rattle.go_body_core.specs.typexpr_core.EntryOutlines.{FileOutline, outline_of}
use Rattle.go_inline_core.specs.Types.{InlineOf}
use Rattle.go_inline_core.specs.Trees.{outline_types}
use Rattle.go_inline_core.specs.Inline.{inlines}
use Rattle.go_body_core.specs.function.Stands.{FileStand, kinds_in_scene}
use Rattle.go_body_core.specs.function.Laws.{AreFuncTypes}
use Rattle.go_package_core.specs.prepare.Packages.{PackageIn, outlines_in, stand_in}
use Rattle.go_tree_nodes.specs.Spelling.{IsPlaced}

-- an outline of a file whose tokens follow one another
pub record IsPlacedOutline (o : FileOutline) : Type 0 where
  pub file : FileTree
  pub placed : IsPlaced file
  pub is : o ≡ outline_of file

-- those in the specifications of constants and variables of a file
abbrev pub initial_types : FileStand → FileOutline → List (ℕ × InlineOf)
initial_types st o = inlines (kinds_in_scene st.scene) st.file st.top (outline_types o.decls)

-- the functions of declarations, in order
abbrev pub form_funcs : FormTree → List FuncTree
form_funcs (ValueForm k v i) = []
form_funcs (TypeForm t) = []
form_funcs (FuncForm f) = f ∷ []

abbrev pub outline_funcs : List TopDeclTree → List FuncTree
outline_funcs ds = flat_map (λ d. form_funcs d.form) ds

-- these are the types of each of the functions of a file
abbrev pub AreOutlinedTypes : FileStand → FileOutline → List (List (ℕ × InlineOf)) → Type 0
AreOutlinedTypes st o types = AllZip (AreFuncTypes st) (outline_funcs o.decls) types

-- in a package

-- where the file of a number and an outline is checked, as far as types are asked for
abbrev pub types_stand : PackageIn → List Entry → ℕ × FileOutline → FileStand
types_stand p types o = stand_in p types [] o.0 o.1

-- of each file those in its initialisers
abbrev pub initial_in : PackageIn → List Entry → List (List (ℕ × InlineOf))
initial_in p types = map (λ o. initial_types (types_stand p types o) o.1) (enumerate_from 0 (outlines_in p))

-- of each file those in each of its functions
abbrev pub AreFunctionsIn : PackageIn → List Entry → List (List (List (ℕ × InlineOf))) → Type 0
AreFunctionsIn p types all = AllZip (λ o of_file. AreOutlinedTypes (types_stand p types o) o.1 of_file) (enumerate_from 0 (outlines_in p)) all
