-- All that an expression is judged by at a place of a package, by what names mean where they stand.
use Rattle.std.specs.Prelude.{◌≡◌, ℕ, List, [], Option, Some, None}
use Rattle.go_term_core.specs.Terms.{Term, Sign}
use Rattle.go_table_core.specs.Entries.{Entry, find_entry}
use Rattle.go_expr_core.specs.operand_core.TypeRules.{TypeRules}
use Rattle.go_declared_core.specs.handle_core.DecidingRules.{term_rules, param_types_of, results_of, typed}
use Rattle.go_expr_core.specs.denote_core.Look.{NameRules}
use Rattle.go_declared_core.specs.handle_core.Declarations.{Declaration}
use Rattle.go_declared_core.specs.handle_core.Names.{selection_in}
use Rattle.go_expr_core.specs.local_core.declared.Fault.{Fault}
use Rattle.go_expr_core.specs.local_core.Binding.{NameLook}
use Rattle.go_expr_core.specs.denote_core.CompositeLook.{LiteralRules}
use Rattle.go_expr_core.specs.Looks.{Looks, WrittenRules, everywhere}
use Rattle.go_tree_nodes.specs.Starts.{type_start}
use Rattle.go_inline_core.specs.Types.{InlineOf, inline_at}
use Rattle.go_declared_core.specs.Faces.{TheFace}
use Rattle.go_inline_core.specs.names_core.Scope.{open_look}
use Rattle.go_env_core.specs.declared.here.Here.{Here}
use Rattle.go_env_core.specs.declared.meaning.Meaning.{Meaning}
use Rattle.go_env_core.specs.declared.meaning.Meaning.TheVariants as meanings
use Rattle.go_env_core.specs.Scenes.{SceneModel, scene_shown}
use Rattle.go_env_core.specs.Found.{found_of, found_exported}
use Rattle.go_env_core.specs.Fields.{literals_in}

abbrev pub TheLooks : Type 0
TheLooks = Looks Term Sign Declaration (List ℕ)

-- types that are written inside a function or in an initialiser: what stands at their first byte
abbrev pub inline_type : List Entry → Option InlineOf → Option Term
inline_type es None = None
inline_type es (Some i) = typed (find_entry es) i.term

abbrev pub inline_faults : Option InlineOf → List Fault
inline_faults None = []
inline_faults (Some i) = i.faults

abbrev pub inline_rules : SceneModel → List (ℕ × InlineOf) → WrittenRules Term
inline_rules s types = record { type_of = λ named t. inline_type s.types (inline_at types (type_start t)); faults_of = λ named t. inline_faults (inline_at types (type_start t)) }

-- what names stand for where they mean this; struct types that are written out come as an argument
abbrev pub looks_in : SceneModel → ℕ → List (Option TheFace) → WrittenRules Term → NameLook Meaning → TheLooks
looks_in s file known written look = record {
  find = λ name offset. found_of s file known name (look name offset);
  exported = found_exported s;
  select = selection_in s.types s.path;
  params = param_types_of (find_entry s.types);
  results = results_of (find_entry s.types);
  types = term_rules s.types s.path;
  literals = literals_in s;
  written = written;
}

-- at a place

abbrev pub here_look : Here → NameLook Meaning
here_look h = open_look meanings.Outside h.names.now

abbrev pub here_looks : Here → TheLooks
here_looks h = looks_in (scene_shown h.scene.now) h.file h.known.now (inline_rules (scene_shown h.scene.now) h.inline.now) (here_look h)

-- the parts of these look-ups
abbrev pub types_at : Here → TypeRules Term
types_at h = (here_looks h).types

abbrev pub here_names : Here → NameRules Term Sign Declaration (List ℕ)
here_names h = record {
  find = λ name. (here_looks h).find name 0;
  exported = (here_looks h).exported;
  select = (here_looks h).select;
  params = (here_looks h).params;
  results = (here_looks h).results;
}

abbrev pub here_literals : Here → LiteralRules Term Declaration
here_literals h = (here_looks h).literals

abbrev pub here_written : Here → WrittenRules Term
here_written h = (here_looks h).written

-- together they are the look-ups of the place, since a name that is open means the same wherever it stands
abbrev pub PartsAreLooks : Type 0
PartsAreLooks = (h : Here) → everywhere (types_at h) (here_names h) (here_literals h) (here_written h) ≡ here_looks h
