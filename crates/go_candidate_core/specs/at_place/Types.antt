-- The struct types that an expression writes, by their first bytes.
--
-- docs/RULES.md, "Types inside functions". The Go specification, "Types", "Declarations and scope".
use Rattle.std.specs.Prelude.{◌≡◌, ℕ, nat_eq, List, [], ◌∷◌, Option, Some, None, Contains, if◌then◌else◌}
use Rattle.go_tree_nodes.specs.Starts.{type_start}
use Rattle.go_tree_nodes.specs.Trees.{TypeTree}
use Rattle.go_term_core.specs.decl_core.declared.keys.DeclKey.{DeclKey}
use Rattle.go_term_core.specs.Terms.{Term, NoType}
use Rattle.go_term_core.specs.Shapes.{shape}
use Rattle.go_term_core.specs.declared.settling.kind.Kind.{Kind}
use Rattle.go_term_core.specs.settling.Settled.{settled}
use Rattle.go_table_core.specs.Entries.{Entry, find_entry}
use Rattle.go_body_core.specs.typexpr_core.WrittenWritten as types
use Rattle.go_body_core.specs.typexpr_core.WrittenWritten.{InFile, term_of}
use Rattle.go_summary_core.specs.handle_core.DecidingRules.{typed}
use Rattle.go_expr_core.specs.local_core.mirrors.Walk.{latest}
use Rattle.go_expr_core.specs.Looks.{WrittenRules}
use Rattle.go_body_core.specs.env_core.declared.meaning.Meaning.{Meaning}
use Rattle.go_inline_core.specs.Functions.{looked_up_ident}
use Rattle.go_body_core.specs.function.Types.{is_local_meaning}
use Rattle.go_candidate_core.specs.declared.at_place.types.NotedType.{NotedType}

abbrev pub noted_shown : NotedType → ℕ × Term
noted_shown t = (t.start, shape t.term)

-- the first that begins at an offset
abbrev pub noted_at : List (ℕ × Term) → ℕ → Option Term
noted_at [] start = None
noted_at (t ∷ ts) start = if nat_eq t.0 start then Some t.1 else noted_at ts start

abbrev pub noted_type : List Entry → Option Term → Option Term
noted_type es None = None
noted_type es (Some t) = typed (find_entry es) t

-- each struct type that is written out is what is noted at its first byte
abbrev pub noted_rules : List Entry → List (ℕ × Term) → WrittenRules Term
noted_rules es ts = record { type_of = λ named t. noted_type es (noted_at ts (type_start t)); faults_of = λ named t. [] }

-- names of types where locals are open

abbrev pub meaning_around : List (List ℕ × Meaning) → types.Meaning → types.Meaning
meaning_around ls top n = if is_local_meaning (latest ls (looked_up_ident n).name) then NoType else top n

-- each of these types is noted at its first byte
abbrev pub AreNoted : (DeclKey → Kind) → InFile → types.Meaning → List TypeTree → List (ℕ × Term) → Type 0
AreNoted kind f mean trees ts = (t : TypeTree) → Contains trees t → noted_at ts (type_start t) ≡ Some (settled kind (term_of mean f t))
