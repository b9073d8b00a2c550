-- Which of the members of a type may be named by a selector that is used so.
use Rattle.std.specs.Prelude.{ℕ, Bool, true, false, ◌||◌, ◌&&◌, not, List}
use Rattle.go_tree_nodes.specs.text_core.Text.{is_blank}
use Rattle.go_tree_nodes.specs.text_core.declared.name.Name.{Name}
use Rattle.go_tree_nodes.specs.declared.usage.Usage.{Usage}
use Rattle.go_tree_nodes.specs.declared.usage.Usage.TheVariants as usages
use Rattle.go_term_core.specs.Terms.{Term}
use Rattle.go_select_core.specs.embed_core.Owners.{Found, AFieldOf, AMethodOf, AnInterfaces, TheErrorMethod}
use Rattle.go_select_core.specs.embed_core.OwnersShown.{found_shown}
use Rattle.go_select_core.specs.declared.levels.search.Selected.{Selected}
use Rattle.go_expr_core.specs.denote_core.Selectors.{member_answer}
use Rattle.go_table_core.specs.Entries.{Entry}
use Rattle.go_summary_core.specs.handle_core.Names.{selection_in}
use Rattle.go_candidate_core.specs.after_dot.Names.{AreNames, is_declared}
use Rattle.go_candidate_core.specs.after_dot.mirrors.Kept.{kept_names}

abbrev pub is_called : Usage → Bool
is_called usages.Callee = true
is_called usages.«Type» = false
is_called usages.«Value» = false

-- a member that is chosen, by whether the operand is addressable and whether a pointer is passed on the way
abbrev pub is_usable : Usage → Bool → Bool → Found → Bool
is_usable usage is_addressable passes (AFieldOf path place t) = not (is_called usage)
is_usable usage is_addressable passes (AMethodOf path place pointer g) = is_called usage && (not pointer || (passes || is_addressable))
is_usable usage is_addressable passes (AnInterfaces path place g) = is_called usage
is_usable usage is_addressable passes TheErrorMethod = is_called usage

abbrev pub is_usable_here : Usage → Bool → Name × Selected → Bool
is_usable_here usage is_addressable n = is_usable usage is_addressable n.1.through_pointer (found_shown n.1.member)

abbrev pub listed_name : Name × Selected → List ℕ
listed_name n = n.0

abbrev pub usable_names : Usage → Bool → List (Name × Selected) → List (List ℕ)
usable_names usage is_addressable ns = kept_names listed_name (is_usable_here usage is_addressable) ns

-- the names behind a value of a type
abbrev pub is_behind : List Entry → List ℕ → Usage → Bool → Term → List ℕ → Bool
is_behind es from usage is_addressable t name = not (is_blank name) && is_declared (member_answer usage is_addressable (selection_in es from t name)).outcome

abbrev pub AreBehind : List Entry → List ℕ → Usage → Bool → Term → List (List ℕ) → Type 0
AreBehind es from usage is_addressable t names = AreNames (is_behind es from usage is_addressable t) names
