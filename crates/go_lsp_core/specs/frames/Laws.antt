-- What holds of messages.
use Rattle.std.specs.Prelude.{◌≡◌, ◌≤◌, ℕ, List, ◌++◌, length}
use Rattle.go_lsp_core.specs.frames.Frames.{IsMessage, frame_of, most_body}

-- bytes begin with one message alone
abbrev pub OneMessage : Type 0
OneMessage = (m n all left rest : List ℕ) → IsMessage m all left → IsMessage n all rest → (m ≡ n) × (left ≡ rest)

-- whatever comes after a message makes no difference to it
abbrev pub ComesFirst : Type 0
ComesFirst = (m all left more : List ℕ) → IsMessage m all left → IsMessage m (all ++ more) (left ++ more)

-- what goes out for a message comes in as the message
abbrev pub ComesBack : Type 0
ComesBack = (m more : List ℕ) → length m ≤ most_body → IsMessage m (frame_of m ++ more) more
