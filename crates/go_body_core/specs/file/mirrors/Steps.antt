-- What the walk over the declarations of a file keeps.
use Rattle.std.specs.Prelude.{ℕ, ◌+◌, ◌<◌, ⊤, List, [], length, slice_index_or, Contains}
use Rattle.std.specs.List.{flat_map, AllZip}
use Rattle.go_tree_nodes.specs.Trees.{TypeTree, FuncTree, DeclTree, Value, Types, Func, TopTree}
use Rattle.go_local_core.specs.Tables.{IsFuncPlaced}
use Rattle.go_inline_core.specs.Types.{InlineOf}
use Rattle.go_inline_core.specs.Trees.{decl_types}
use Rattle.go_env_core.specs.Looks.{inline_rules}
use Rattle.go_body_core.specs.function.Stands.{FileStand, types_where, outer_look}
use Rattle.go_body_core.specs.function.Laws.{AreFuncTypes, MakeSame}
use Rattle.go_body_core.specs.file.Stands.{tops_funcs}

-- a table has of each of these types what its names make it outside functions
abbrev pub AreSeen : FileStand → List (ℕ × InlineOf) → List TypeTree → Type 0
AreSeen st types ts = (t : TypeTree) → Contains ts t → MakeSame (types_where st (outer_look st)) (inline_rules st.scene types) t

-- where a declaration is a function, it is placed, and its types are those of this number
abbrev pub HasNext : FileStand → DeclTree → List (List (ℕ × InlineOf)) → ℕ → Type 0
HasNext st (Value v) types n = ⊤
HasNext st (Types t) types n = ⊤
HasNext st (Func f) types n = IsFuncPlaced f × (n < length types) × AreFuncTypes st f (slice_index_or types n [])

-- the number of the types of the next function behind a declaration
abbrev pub behind : DeclTree → ℕ → ℕ
behind (Value v) n = n
behind (Types t) n = n
behind (Func f) n = n + 1

-- of declarations: the types of their specifications are seen, their functions placed, and these have their types
pub record AreMade (st : FileStand) (initial : List (ℕ × InlineOf)) (functions : List (List (ℕ × InlineOf))) (ds : List TopTree) : Type 0 where
  pub seen : AreSeen st initial (flat_map (λ d. decl_types d.decl) ds)
  pub placed : (f : FuncTree) → Contains (tops_funcs ds) f → IsFuncPlaced f
  pub typed : AllZip (AreFuncTypes st) (tops_funcs ds) functions
