-- What a selector has behind what stands left of its dot, and what it denotes.
--
-- docs/RULES.md, "Members and selectors", "Names, selectors and calls in expressions". The Go specification, "Qualified identifiers",
-- "Selectors", "Method values", "Calls".
use Rattle.std.specs.Prelude.{ℕ, Bool, not, ◌||◌, List, Option, Some, None, if◌then◌else◌}
use Rattle.go_text_core.specs.Text.{is_blank}
use Rattle.go_text_core.specs.declared.rule.Rule.TheVariants.{N2, N3, S4, S5, S6, S8, C1, X1}
use Rattle.go_tree_nodes.specs.declared.usage.Usage.{Usage}
use Rattle.go_tree_nodes.specs.declared.usage.Usage.TheVariants as usages
use Rattle.go_operand_core.specs.Values.{default_type}
use Rattle.go_denote_core.specs.declared.things.Stand.{Stand}
use Rattle.go_denote_core.specs.declared.things.Stand.TheVariants as stands
use Rattle.go_denote_core.specs.declared.things.Outcome.TheVariants as outcomes
use Rattle.go_denote_core.specs.declared.things.Denoted.{Denoted}
use Rattle.go_denote_core.specs.declared.things.Denoted.TheVariants as denotes
use Rattle.go_denote_core.specs.declared.things.Answer.{Answer}
use Rattle.go_denote_core.specs.declared.things.Exported.{Exported}
use Rattle.go_denote_core.specs.declared.things.Exported.TheVariants as exporteds
use Rattle.go_denote_core.specs.declared.things.Selection.{Selection}
use Rattle.go_denote_core.specs.declared.things.Selection.TheVariants as selections
use Rattle.go_denote_core.specs.declared.things.Dot.{Dot}
use Rattle.go_denote_core.specs.declared.things.Dot.TheVariants as dots
use Rattle.go_denote_core.specs.Look.{Look}
use Rattle.go_denote_core.specs.Answers.{refused, value_of_type, type_answer, func_answer, value_answer}

-- a selector after a package is judged as a name where the whole stands
abbrev pub usage_place : Usage → Stand
usage_place usages.«Type» = stands.«Type»
usage_place usages.«Value» = stands.«Value»
usage_place usages.Callee = stands.Callee

abbrev pub exported_answer : {T S D P : Type 0} → Usage → Exported T S D → Answer T S D P
exported_answer usage exporteds.Absent = refused N3
exported_answer usage exporteds.Hidden = refused N2
exported_answer usage (exporteds.«Type» d t) = type_answer (usage_place usage) d t
exported_answer usage (exporteds.Func d s) = func_answer (usage_place usage) d (denotes.Func d s)
exported_answer usage (exporteds.«Value» d value) = value_answer (usage_place usage) d value

-- what stands left of a dot, by what it denotes; only a name alone is a qualifier that can be refused
abbrev pub dot_of : {T S D : Type 0} → Bool → Denoted T S D → Dot T D
dot_of is_name (denotes.«Package» d) = dots.«Package» d
dot_of is_name (denotes.«Value» operand) = dots.«Value» operand
dot_of is_name denotes.Refused = if is_name then dots.Refused else dots.Untyped
dot_of is_name denotes.Typeless = dots.Untyped
dot_of is_name (denotes.«Type» d t) = dots.Untyped
dot_of is_name (denotes.Several s) = dots.Untyped
dot_of is_name denotes.Nothing = dots.Untyped
dot_of is_name (denotes.Func d s) = dots.Untyped
dot_of is_name (denotes.Builtin d b) = dots.Untyped

-- a member, by the embedded fields that lead to it
abbrev pub selected : {T S D P : Type 0} → D → P → Denoted T S D → Answer T S D P
selected d path denoted = record { outcome = outcomes.Selected d path; denoted = denoted }

-- a field is no function
abbrev pub field_answer : {T S D P : Type 0} → Usage → D → P → Option T → Bool → Answer T S D P
field_answer usages.Callee d path t is_addressable = refused C1
field_answer usages.«Type» d path t is_addressable = selected d path (value_of_type is_addressable t)
field_answer usages.«Value» d path t is_addressable = selected d path (value_of_type is_addressable t)

-- a method may be called, where it has the receiver that it needs
abbrev pub method_answer : {T S D P : Type 0} → Usage → D → P → S → Bool → Answer T S D P
method_answer usages.Callee d path s has_receiver = if has_receiver then selected d path (denotes.Func d s) else refused S5
method_answer usages.«Type» d path s has_receiver = refused X1
method_answer usages.«Value» d path s has_receiver = refused X1

-- A field is addressable where the operand is, or a pointer is passed. A method with a pointer receiver needs one of the two.
abbrev pub member_answer : {T S D P : Type 0} → Usage → Bool → Selection T S D P → Answer T S D P
member_answer usage is_addressable (selections.Missing rule) = refused rule
member_answer usage is_addressable (selections.«Field» d path t by_pointer) = field_answer usage d path t (by_pointer || is_addressable)
member_answer usage is_addressable (selections.Method d path s needs_pointer by_pointer) = method_answer usage d path s (not needs_pointer || (by_pointer || is_addressable))

-- an untyped constant and an untyped boolean count by the default type; nil has none
abbrev pub value_selector : {T S D P : Type 0} → Look T S D P → Usage → Bool → Option T → List ℕ → Answer T S D P
value_selector look usage is_addressable None name = refused S6
value_selector look usage is_addressable (Some t) name = member_answer usage is_addressable (look.names.select t name)

-- what a selector has
abbrev pub selector_answer : {T S D P : Type 0} → Look T S D P → Usage → Dot T D → List ℕ → Answer T S D P
selector_answer look usage (dots.«Package» d) name = if is_blank name then refused S8 else exported_answer usage (look.names.exported d name)
selector_answer look usage dots.Refused name = refused S4
selector_answer look usage dots.Untyped name = if is_blank name then refused S8 else refused S4
selector_answer look usage (dots.«Value» operand) name =
    if is_blank name then refused S8 else value_selector look usage operand.addressable (default_type look.types operand.value_type) name
