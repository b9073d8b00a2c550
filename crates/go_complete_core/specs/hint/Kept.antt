-- The locals that are open at a place, by what is kept of the locals of its file.
use Rattle.std.specs.Prelude.{ℕ, nat_eq, List, [], ◌∷◌, Option, Some, None, map, if◌then◌else◌}
use Rattle.go_tree_nodes.specs.declared.names.Ident.{Ident}
use Rattle.go_names_core.specs.local_core.mirrors.Walk.{Names}
use Rattle.go_package_core.specs.env_core.declared.meaning.Meaning.{Meaning}
use Rattle.go_package_core.specs.env_core.declared.meaning.Meaning.TheVariants as meanings
use Rattle.go_package_core.specs.body_core.Notes.{TheLocal, TheValue}

-- what the local at an offset stands for: the first that is there
abbrev pub kept_at : List TheLocal → ℕ → Option TheValue
kept_at [] offset = None
kept_at (l ∷ ls) offset = if nat_eq l.offset offset then Some l.value else kept_at ls offset

abbrev pub value_or_none : Option TheValue → TheValue
value_or_none None = None
value_or_none (Some v) = v

-- what a local means that is kept so
abbrev pub meant_by : List TheLocal → Ident → List ℕ × Meaning
meant_by kept x = (x.name, meanings.Local x.span.start (value_or_none (kept_at kept x.span.start)))

abbrev pub open_by : List TheLocal → List Ident → Names Meaning
open_by kept xs = map (meant_by kept) xs
