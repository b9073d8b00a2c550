-- Functions with results, and what ends them.
--
-- docs/RULES.md, "Bodies of functions". The Go specification, "Function declarations", "Terminating statements", "Handling panics".
use Rattle.std.specs.Prelude.{ℕ, Bool, true, false, ◌&&◌, not, nat_eq, List, [], ◌∷◌, if◌then◌else◌}
use Rattle.std.specs.List.{list_any}
use Rattle.go_text_core.specs.declared.rule.Rule.TheVariants.{Y5}
use Rattle.go_universe_core.specs.declared.Predeclared.{Predeclared}
use Rattle.go_universe_core.specs.declared.Predeclared.TheVariants as predeclared
use Rattle.go_tree_nodes.specs.Trees.{SignatureTree, ResultTree, Signed, NoResult, OneResult, Results, NoParams, Param, ParamTrees, ExprTree, Integer, Text, Named, Paren, Unary, Binary, Select, Call, Literal, StructLiteral, FuncTree}
use Rattle.go_handle_core.specs.Declarations.{Declaration, Universe, OfError, Package, InFile}
use Rattle.go_denote_core.specs.declared.things.Outcome.{Outcome}
use Rattle.go_denote_core.specs.declared.things.Outcome.TheVariants as outcomes
use Rattle.go_local_core.specs.walks.Ends.{are_terminating}
use Rattle.go_local_core.specs.declared.Fault.{Fault}
use Rattle.go_body_core.specs.Notes.{TheUse}

-- a function has results

abbrev pub are_some : ParamTrees → Bool
are_some NoParams = false
are_some (Param xs t comma rest) = true

abbrev pub has_result : ResultTree → Bool
has_result NoResult = false
has_result (OneResult t) = true
has_result (Results first ps last) = are_some ps

abbrev pub returns_some : SignatureTree → Bool
returns_some (Signed first _ last r) = has_result r

-- `panic`, where it is the predeclared function

abbrev pub is_panic_name : Predeclared → Bool
is_panic_name predeclared.Panic = true
is_panic_name _ = false

abbrev pub is_panic_declaration : Declaration → Bool
is_panic_declaration (Universe p) = is_panic_name p
is_panic_declaration OfError = false
is_panic_declaration (Package path) = false
is_panic_declaration (InFile path place) = false

abbrev pub has_panic : Outcome Declaration (List ℕ) → Bool
has_panic (outcomes.Declared d) = is_panic_declaration d
has_panic (outcomes.Selected d path) = false
has_panic (outcomes.Refused rule) = false

-- among what occurrences have, the one at an offset has it
abbrev pub panics_at : List TheUse → ℕ → Bool
panics_at us offset = list_any (λ u. nat_eq offset u.offset && has_panic u.outcome) us

-- an expression is a name at such an offset, in parentheses or not
abbrev pub names_one : (ℕ → Bool) → ExprTree → Bool
names_one at (Integer n span) = false
names_one at (Text t) = false
names_one at (Named x) = at x.span.start
names_one at (Paren first e last) = names_one at e
names_one at (Unary op span e) = false
names_one at (Binary a op span b) = false
names_one at (Select e dot x) = false
names_one at (Call e first items last) = false
names_one at (Literal n first items last) = false
names_one at (StructLiteral t first items last) = false

-- an expression is a call of such a name, in parentheses or not
abbrev pub calls_one : (ℕ → Bool) → ExprTree → Bool
calls_one at (Integer n span) = false
calls_one at (Text t) = false
calls_one at (Named x) = false
calls_one at (Paren first e last) = calls_one at e
calls_one at (Unary op span e) = false
calls_one at (Binary a op span b) = false
calls_one at (Select e dot x) = false
calls_one at (Call e first items last) = names_one at e
calls_one at (Literal n first items last) = false
calls_one at (StructLiteral t first items last) = false

-- a function with results whose body does not end in a terminating statement, by what its occurrences have: at its closing brace
abbrev pub end_faults : List TheUse → FuncTree → List Fault
end_faults us f = if returns_some f.signature && not (are_terminating (calls_one (panics_at us)) f.body) then record { offset = f.close_brace.start; rule = Y5 } ∷ [] else []
