-- Where a file is checked, and the types that are made before it is.
--
-- docs/RULES.md, "Types inside functions". The Go specification, "Declarations and scope", "Types".
use Rattle.std.specs.Prelude.{◌≡◌, ℕ, List, [], ◌∷◌}
use Rattle.std.specs.List.{flat_map, AllZip}
use Rattle.go_tree_nodes.specs.Trees.{FuncTree, DeclTree, Value, Types, Func, TopTree, FileTree}
use Rattle.go_typexpr_core.specs.entry.Meanings.{Shows, file_meaning}
use Rattle.go_inline_core.specs.Types.{InlineOf}
use Rattle.go_inline_core.specs.Trees.{file_types}
use Rattle.go_inline_core.specs.Inline.{inlines}
use Rattle.go_env_core.specs.Scenes.{scene_shown}
use Rattle.go_body_core.specs.function.Stands.{FileStand, kinds_in_scene}
use Rattle.go_body_core.specs.function.Laws.{AreFuncTypes}
use Rattle.go_body_core.specs.declared.file.file_at.FileAt.{FileAt}

-- where its pieces are checked, by what names of types lead to
abbrev pub stand_of : {P : Type 0} → (P → Shows) → FileAt P → FileStand
stand_of shows at = record {
  scene = scene_shown at.scene.now;
  known = at.known.now;
  file = record { path = at.scene.now.home.now; file = at.file; places = at.places.now };
  top = file_meaning (shows at.imported.now) at.scene.now.home.now at.scene.now.blocks.now at.file;
}

-- the functions and methods of a file, in order of place

abbrev pub decl_funcs : DeclTree → List FuncTree
decl_funcs (Value v) = []
decl_funcs (Types t) = []
decl_funcs (Func f) = f ∷ []

abbrev pub tops_funcs : List TopTree → List FuncTree
tops_funcs ds = flat_map (λ d. decl_funcs d.decl) ds

abbrev pub file_funcs : FileTree → List FuncTree
file_funcs f = tops_funcs f.decls

-- these are the types of the specifications of constants and variables of a file, by their first bytes
abbrev pub AreInitialTypes : FileStand → FileTree → List (ℕ × InlineOf) → Type 0
AreInitialTypes st f types = types ≡ inlines (kinds_in_scene st.scene) st.file st.top (file_types f)

-- these are the types of each of its functions, in order
abbrev pub AreFunctionTypes : FileStand → FileTree → List (List (ℕ × InlineOf)) → Type 0
AreFunctionTypes st f types = AllZip (AreFuncTypes st) (file_funcs f) types
