-- Which of the fields of a struct type keys may name, as the loop over them goes.
use Rattle.std.specs.Prelude.{ℕ, Bool, true, false, ◌||◌, ◌&&◌, not, List, [], ◌∷◌, ◌++◌, Option, Some, None, if◌then◌else◌}
use Rattle.go_tree_nodes.specs.text_core.Text.{is_blank}
use Rattle.go_expr_core.specs.denote_core.declared.composite.things.NamedField.{NamedField}
use Rattle.go_expr_core.specs.denote_core.declared.composite.things.NamedField.TheVariants as nameds
use Rattle.go_expr_core.specs.denote_core.CompositeLook.{FieldOf, LiteralLook}
use Rattle.go_expr_core.specs.denote_core.CompositeLiterals.{is_struct}
use Rattle.go_expr_core.specs.denote_core.CompositeRepeats.{has_name}
use Rattle.go_candidate_core.specs.after_dot.mirrors.Kept.{named_if}

-- a visible field that no name before it has
abbrev pub is_left : {T D : Type 0} → List (List ℕ) → FieldOf T D → Bool
is_left seen f = (not (has_name f.name seen) && not (is_blank f.name)) && f.known.is_visible

abbrev pub keys_left : {T D : Type 0} → List (List ℕ) → List (FieldOf T D) → List (List ℕ)
keys_left seen [] = []
keys_left seen (f ∷ fs) = named_if (is_left seen f) f.name ++ keys_left (f.name ∷ seen) fs

abbrev pub some_keys : {T S D P : Type 0} → LiteralLook T S D P → Option T → Bool → List (List ℕ) → List (List ℕ)
some_keys look None is_mixed others = []
some_keys look (Some t) is_mixed others = if is_mixed || not (is_struct (look.types.form t)) then [] else keys_left others (look.literals.fields t)

abbrev pub is_shown : {T D : Type 0} → NamedField T D → Bool
is_shown (nameds.Visible field) = true
is_shown nameds.Hidden = false
is_shown nameds.Missing = false
