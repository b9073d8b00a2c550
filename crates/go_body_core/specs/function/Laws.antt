-- What holds of functions and the types that they write.
--
-- docs/RULES.md, "Bodies of functions", "Types inside functions", "Occurrences". The Go specification, "Declarations and scope", "Types".
use Rattle.std.specs.Prelude.{◌≡◌, ℕ, List, Option, Contains, map, ◌↔◌}
use Rattle.go_tree_nodes.specs.Trees.{TypeTree, FuncTree, FileTree}
use Rattle.go_tree_nodes.specs.declared.types.TypeName.{TypeName}
use Rattle.go_tree_core.specs.Occurrences.{func_occs}
use Rattle.go_term_core.specs.Terms.{Term}
use Rattle.go_local_core.specs.Binding.{Local, bound}
use Rattle.go_local_core.specs.Tables.{IsFuncPlaced}
use Rattle.go_names_core.specs.Scope.{beyond_in}
use Rattle.go_local_core.specs.declared.Fault.{Fault}
use Rattle.go_expr_core.specs.Looks.{WrittenRules}
use Rattle.go_expr_core.specs.Laws.{use_place, occurrence_place}
use Rattle.go_inline_core.specs.Types.{InlineOf}
use Rattle.go_inline_core.specs.Trees.{func_types, file_types}
use Rattle.go_inline_core.specs.Inline.{inlines}
use Rattle.go_inline_core.specs.Functions.{scoped_outside, AreInlines}
use Rattle.go_env_core.specs.declared.meaning.Meaning.{Meaning}
use Rattle.go_env_core.specs.Looks.{inline_rules}
use Rattle.go_body_core.specs.Notes.{TheUse, TheLocal}
use Rattle.go_body_core.specs.WellFormed.{IsFuncOfGrammar}
use Rattle.go_body_core.specs.Body.{IsGivenBody}
use Rattle.go_body_core.specs.function.Types.{named_where}
use Rattle.go_body_core.specs.function.Stands.{FileStand, kinds_in_scene, types_where, outer_meanings, outer_look}
use Rattle.go_body_core.specs.function.Functions.{walked_func, checked_func, func_by, AreFuncDeclarations}
use Rattle.go_tree_nodes.specs.Spelling.{IsPlaced}

-- these are the types of a function, by their first bytes, as they are made before the function is checked
abbrev pub AreFuncTypes : FileStand → FuncTree → List (ℕ × InlineOf) → Type 0
AreFuncTypes st f types = AreInlines (kinds_in_scene st.scene) st.file st.top (beyond_in scoped_outside st.scene.blocks st.file.file) f types

-- what is given of a function by a table of its types is what its occurrences have, its faults and its locals, with each type as it is written
abbrev pub BodiesAreAsWritten : Type 0
BodiesAreAsWritten =
    (st : FileStand) (types : List (ℕ × InlineOf)) (f : FuncTree) (us : List TheUse) (fs : List Fault) (ls : List TheLocal) → IsFuncPlaced f → AreFuncTypes st f types
    → IsGivenBody st.scene st.file.file st.known (inline_rules st.scene types) f us fs ls
    → (us ≡ (checked_func st f).uses) × (fs ≡ (checked_func st f).faults) × (ls ≡ (checked_func st f).locals)

-- there is one list of a function's declarations that is right, and by the regions of its declarations the function has what it has on the way
-- through it
pub record FunctionsHaveOneTable : Type 0 where
  pub table : (st : FileStand) (f : FuncTree) → IsFuncPlaced f → (all : List (Local Meaning)) → AreFuncDeclarations st f all ↔ (all ≡ (walked_func st f).declares)
  pub regions : (st : FileStand) (f : FuncTree) → IsFuncPlaced f → (all : List (Local Meaning)) → AreFuncDeclarations st f all → func_by st f all ≡ checked_func st f

-- what is noted of a function of the grammar stands where its occurrences stand, with their roles and in their order: each has exactly one
-- outcome, and no other place has one
abbrev pub FunctionsHaveOccurrences : Type 0
FunctionsHaveOccurrences = (st : FileStand) (f : FuncTree) → IsFuncOfGrammar f → map use_place (checked_func st f).uses ≡ map occurrence_place (func_occs f)

-- two rules make the same of a type that is written out, whatever the names in it denote to an expression
abbrev pub MakeSame : WrittenRules Term → WrittenRules Term → TypeTree → Type 0
MakeSame rules other t = (named : TypeName → Option Term) → (rules.type_of named t ≡ other.type_of named t) × (rules.faults_of named t ≡ other.faults_of named t)

-- what a table has at the first byte of a type is what the type's names make it where they stand, so that no table is needed to say what it is
pub record TypesAreSeenAlike : Type 0 where
  -- inside a function, where names are bound by its declarations
  pub in_function :
      (st : FileStand) (types : List (ℕ × InlineOf)) (f : FuncTree) → IsFuncPlaced f → AreFuncTypes st f types → (all : List (Local Meaning)) → AreFuncDeclarations st f all
      → (t : TypeTree) → Contains (func_types f) t → MakeSame (types_where st (bound (outer_meanings st) all)) (inline_rules st.scene types) t
  -- in the specifications of constants and variables outside functions
  pub in_file :
      (st : FileStand) (types : List (ℕ × InlineOf)) (f : FileTree) → IsPlaced f → types ≡ inlines (kinds_in_scene st.scene) st.file st.top (file_types f)
      → (t : TypeTree) → Contains (file_types f) t → MakeSame (types_where st (outer_look st)) (inline_rules st.scene types) t
  -- outside functions a name of a type means what it means at the top of the file
  pub outside : (st : FileStand) (n : TypeName) → named_where (outer_look st) st.top n ≡ st.top n
