-- What a selector chooses, with declarations.
use Rattle.std.specs.Prelude.{ℕ, List, Result}
use Rattle.go_denote_core.specs.text_core.declared.rule.Rule.{Rule}
use Rattle.go_term_core.specs.Terms.{Term, Sign}
use Rattle.go_table_core.specs.Entries.{Entry, EntryLook, find_entry}
use Rattle.go_denote_core.specs.declared.things.Selection.{Selection}
use Rattle.go_handle_core.specs.deciding.Selecting.{Choice, selected_of}
use Rattle.go_handle_core.specs.deciding.Rules.{selection_of}
use Rattle.go_handle_core.specs.Declarations.{Declaration, declaration_found}

-- a choice, as names have it: with the declaration of the member; embedded fields by their places among the fields of their struct types
abbrev pub shown_choice : EntryLook → Result Choice Rule → Selection Term Sign Declaration (List ℕ)
shown_choice look chosen = selection_of declaration_found (λ path. path) look chosen

-- the member that a name selects behind an operand of a type, asked for from a package
abbrev pub selection_in : List Entry → List ℕ → Term → List ℕ → Selection Term Sign Declaration (List ℕ)
selection_in es from t name = shown_choice (find_entry es) (selected_of es t name from)
