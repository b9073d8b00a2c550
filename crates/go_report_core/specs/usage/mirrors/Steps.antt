-- Steps of the loops.
use Rattle.std.specs.Prelude.{ℕ, Bool, nat_eq, ◌&&◌, not, if◌then◌else◌, List, [], ◌∷◌, ◌++◌, Option, Some, None}
use Rattle.std.specs.List.{fold, list_any}
use Rattle.go_tree_core.specs.declared.occurrence.Occ.{Occ}
use Rattle.go_block_core.specs.Blocks.{BlocksModel}
use Rattle.go_expr_core.specs.denote_core.declared.things.Outcome.TheVariants as outcomes
use Rattle.go_expr_core.specs.local_core.declared.Fault.{Fault}
use Rattle.go_report_core.specs.usage.Used.{TheOutcome, FileUse, is_import, refused_use, used_by}

-- places, each once, and one more behind them
abbrev pub with_place : List ℕ → ℕ → List ℕ
with_place places at = if list_any (nat_eq at) places then places else places ++ at ∷ []

-- places, each once, and more behind them
abbrev pub with_places : List ℕ → List ℕ → List ℕ
with_places places more = fold with_place places more

-- the place of the import that an occurrence uses, if it has something
abbrev pub some_used : BlocksModel → ℕ → Occ → Option FileUse → Option FileUse → List ℕ
some_used b file o None next = []
some_used b file o (Some u) next = used_by b file o u next

-- what an occurrence has, where the imports at the places of a test are used or need not be
abbrev pub judged_by : (ℕ → Bool) → FileUse → FileUse
judged_by stands u = if is_import u.role && not (stands u.offset) then refused_use u else u

-- the fault that an outcome at an offset says
abbrev pub said_at : ℕ → TheOutcome → List Fault
said_at offset (outcomes.Refused rule) = record { offset = offset; rule = rule } ∷ []
said_at offset (outcomes.Declared d) = []
said_at offset (outcomes.Selected d path) = []

-- the faults that occurrences say
abbrev pub said : List FileUse → List Fault
said [] = []
said (u ∷ us) = said_at u.offset u.outcome ++ said us
