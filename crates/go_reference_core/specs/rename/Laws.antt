-- What holds of names that are replaced.
use Rattle.std.specs.Prelude.{◌≡◌, ◌⊎◌, ◌+◌, ◌≤◌, ℕ, List, length, All}
use Rattle.go_lsp_core.specs.edits.Edits.{Stand, moved}
use Rattle.go_reference_core.specs.rename.Moving.{Lies, Moves, names_in}
use Rattle.go_reference_core.specs.rename.Renaming.{name_parts}

-- an offset lies in no name of so many bytes that begins at another: at its first byte it does not
abbrev pub IsOutsideName : ℕ → ℕ → ℕ → Type 0
IsOutsideName len n at = (n ≤ at) ⊎ (at + len ≤ n)

-- an offset that lies in no name that is replaced comes to lie where the edits of the text put it
abbrev pub LiesWhereMoved : Type 0
LiesWhereMoved =
    (m : Moves) (new text : List ℕ) (number file n : ℕ) → length new ≡ m.new → 1 ≤ m.old → Stand text 0 (name_parts m.old new (names_in m number file)) → All (IsOutsideName m.old n) (names_in m number file)
    → Lies m number file n (moved (name_parts m.old new (names_in m number file)) n)
