-- The elements of a composite literal, with their keys.
--
-- docs/RULES.md, "Composite literals". The Go specification, "Composite literals".
use Rattle.std.specs.Prelude.{ℕ, Bool, true, false, List, [], ◌∷◌, length, Option, Some, None}
use Rattle.go_denote_core.specs.text_core.declared.rule.Rule.{Rule}
use Rattle.go_denote_core.specs.text_core.declared.rule.Rule.TheVariants.{Y4}
use Rattle.go_tree_nodes.specs.declared.exprs.Key.{Key}
use Rattle.go_tree_nodes.specs.Trees.{ItemTrees, NoItems, Item}
use Rattle.go_tree_nodes.specs.Counts.{item_count}
use Rattle.go_denote_core.specs.declared.things.Denoted.{Denoted}
use Rattle.go_denote_core.specs.declared.composite.things.Keys.{Keys}
use Rattle.go_denote_core.specs.declared.composite.things.Keys.TheVariants as keys
use Rattle.go_denote_core.specs.declared.composite.things.Mode.{Mode}
use Rattle.go_denote_core.specs.composite.Literals.{keys_among, literal_rule, literal_mode, element_target, misfits}
use Rattle.go_denote_core.specs.composite.Keys.{KeyContext, key_answer}
use Rattle.go_denote_core.specs.composite.Repeats.{has_name}
use Rattle.go_expr_core.specs.Looks.{Looks, literals_at}

abbrev pub key_names : Option Key → List (List ℕ)
key_names None = []
key_names (Some k) = k.name.name ∷ []

-- the spellings of the keys, in order
abbrev pub all_keys : ItemTrees → List (List ℕ)
all_keys NoItems = []
all_keys (Item None e comma rest) = all_keys rest
all_keys (Item (Some k) e comma rest) = k.name.name ∷ all_keys rest

-- which elements have keys
abbrev pub keys_of : ItemTrees → Keys
keys_of items = keys_among (item_count items) (length (all_keys items))

abbrev pub is_mixed : Keys → Bool
is_mixed keys.Some = true
is_mixed keys.All = false
is_mixed keys.None = false

abbrev pub key_context : {T : Type 0} → Option T → Bool → List (List ℕ) → KeyContext T
key_context t mixed others = record { literal_type = t; is_mixed = mixed; others = others }

-- the type of the field that a key names, by whether another key is spelled the same
abbrev pub key_target_by : {T S D P : Type 0} → Looks T S D P → Option T → Bool → Bool → Option Key → Option T
key_target_by looks t mixed again None = None
key_target_by looks t mixed again (Some k) = (key_answer (literals_at looks k.name.span.start) t mixed again k.name.name).target

-- a key is spelled as one of the others
abbrev pub is_again : Option Key → List (List ℕ) → Bool
is_again None others = false
is_again (Some k) others = has_name k.name.name others

-- the type that an element is to be assignable to: by its type, its mode, how many stand before it, the other keys and its own
abbrev pub element_type : {T S D P : Type 0} → Looks T S D P → ℕ → Option T → Mode → Bool → ℕ → List (List ℕ) → Option Key → Option T
element_type looks place t mode mixed number others key = element_target (literals_at looks place) t mode number (key_target_by looks t mixed (is_again key others) key)

abbrev pub misfit_rule : Bool → Option Rule
misfit_rule true = Some Y4
misfit_rule false = None

-- the rule of an element that is not assignable to what is wanted
abbrev pub element_rule : {T S D P : Type 0} → Looks T S D P → ℕ → Option T → Denoted T S D → Option Rule
element_rule looks place wanted d = misfit_rule (misfits (literals_at looks place) wanted d)

abbrev pub whole_rule : {T S D P : Type 0} → Looks T S D P → ℕ → Option T → ItemTrees → Option Rule
whole_rule looks place t items = literal_rule (literals_at looks place) t (keys_of items) (item_count items)

abbrev pub whole_mode : {T S D P : Type 0} → Looks T S D P → ℕ → Option T → ItemTrees → Mode
whole_mode looks place t items = literal_mode (literals_at looks place) t (keys_of items) (item_count items)
