-- Types as they are written at a place.
--
-- The Go specification, "Types", "Qualified identifiers", "Declarations and scope".
use Rattle.std.specs.Prelude.{◌≡◌, ◌++◌, ◌∷◌, ℕ, Bool, true, false, List, [], Option, Some, None, replicate, string_bytes}
use Rattle.go_term_core.specs.Terms.{Term}
use Rattle.go_tree_nodes.specs.declared.types.TypeName.{TypeName}
use Rattle.go_tree_nodes.specs.declared.types.TypeName.TheVariants as type_names
use Rattle.go_env_core.specs.handle_core.Stars.{starred}
use Rattle.go_env_core.specs.handle_core.DecidingIdentity.{identical_of}
use Rattle.go_stmt_core.specs.expr_core.Looks.{everywhere}
use Rattle.go_stmt_core.specs.expr_core.Denoting.{named_type}
use Rattle.go_env_core.specs.declared.here.Here.{Here}
use Rattle.go_env_core.specs.Looks.{TheLooks, here_literals, here_names, here_written, types_at}
use Rattle.go_judge_core.specs.declared.writing.TypeText.{TypeText}

-- all that an expression is judged by at a place
abbrev pub looks_at : Here → TheLooks
looks_at h = everywhere (types_at h) (here_names h) (here_literals h) (here_written h)

-- a name is a type, if it is one, under so many stars identical to this
abbrev pub is_this : ℕ → Term → Option Term → Bool
is_this stars t None = false
is_this stars t (Some u) = identical_of (starred stars u) t

-- by the rule of the check a name after so many stars is this type
abbrev pub are_named_so : Here → ℕ → TypeName → Term → Bool
are_named_so h stars name t = is_this stars t (named_type (looks_at h) name)

-- the bytes of a type's name after others
abbrev pub spelled_after : List ℕ → TypeName → List ℕ
spelled_after front (type_names.Plain x) = front ++ x.name
spelled_after front (type_names.Qualified q dot x) = ((front ++ q.name) ++ 46 ∷ []) ++ x.name

-- a text is stars and the name of a type, and these are, written at the place, this type
abbrev pub IsWrittenAs : Here → Term → List ℕ → Type 0
IsWrittenAs h t text =
    (stars : ℕ) × (name : TypeName) × (text ≡ spelled_after (replicate stars 42) name) × (are_named_so h stars name t ≡ true)

-- what is told of a type, where it is said to be written so
abbrev pub IsToldAs : Here → Term → TypeText → Type 0
IsToldAs h t told = told.is_exact ≡ true → IsWrittenAs h t (string_bytes told.text)
