-- What holds of the names that may stand at a place.
--
-- docs/RULES.md, "Names, selectors and calls in expressions".
use Rattle.std.specs.Prelude.{◌≡◌, ℕ, Bool, true, false, ◌&&◌, not, List, Option, Some, None}
use Rattle.go_tree_nodes.specs.text_core.Text.{is_blank}
use Rattle.go_expr_core.specs.denote_core.declared.things.Stand.{Stand}
use Rattle.go_expr_core.specs.denote_core.declared.things.Found.{Found}
use Rattle.go_expr_core.specs.denote_core.declared.things.Found.TheVariants as founds
use Rattle.go_expr_core.specs.denote_core.declared.things.Outcome.{Outcome}
use Rattle.go_expr_core.specs.denote_core.declared.things.Outcome.TheVariants as outcomes
use Rattle.go_expr_core.specs.denote_core.Look.{Look}
use Rattle.go_expr_core.specs.denote_core.Answers.{name_answer}
use Rattle.go_candidate_core.specs.declared.context.things.Thing.{Thing}
use Rattle.go_candidate_core.specs.declared.context.things.Thing.TheVariants as things
use Rattle.go_candidate_core.specs.context.Alone.{fits_some}

abbrev pub is_declared : {D P : Type 0} → Outcome D P → Bool
is_declared (outcomes.Declared d) = true
is_declared (outcomes.Selected d path) = true
is_declared (outcomes.Refused rule) = false

-- what kind of thing a name stands for
abbrev pub thing_found_as : {T S D : Type 0} → Found T S D → Option Thing
thing_found_as founds.Missing = None
thing_found_as founds.BadImport = None
thing_found_as founds.Outside = None
thing_found_as (founds.«Package» d) = Some things.«Package»
thing_found_as (founds.«Type» d t) = Some things.«Type»
thing_found_as (founds.Func d s) = Some things.Func
thing_found_as (founds.Builtin d b) = Some things.Func
thing_found_as (founds.«Value» d value) = Some things.«Value»

-- what a name has where it stands alone is a declaration where the thing that it stands for may stand so
abbrev pub ThingsDecide : (T S D P : Type 0) → Type 0
ThingsDecide T S D P = (look : Look T S D P) (p : Stand) (name : List ℕ) → is_declared (name_answer look p name).outcome ≡ (not (is_blank name) && fits_some p (thing_found_as (look.names.find name)))
