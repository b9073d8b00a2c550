-- What holds of edits.
use Rattle.std.specs.Prelude.{◌≡◌, ◌⊎◌, ◌<◌, ◌≤◌, ℕ, List, length, All, slice_get}
use Rattle.go_lsp_core.specs.edits.Edits.{Part, Stand, edited, moved}

-- an offset lies in no part that is replaced
abbrev pub IsOutside : ℕ → Part → Type 0
IsOutside n e = (n < e.start) ⊎ (e.end ≤ n)

-- what stands at such an offset stands where it comes to lie
abbrev pub KeepsTheRest : Type 0
KeepsTheRest =
    (text : List ℕ) (es : List Part) (n : ℕ) → Stand text 0 es → n < length text → All (IsOutside n) es → slice_get (edited text es) (moved es n) ≡ slice_get text n

-- and such offsets keep their order
abbrev pub KeepsOrder : Type 0
KeepsOrder =
    (text : List ℕ) (es : List Part) (m n : ℕ) → Stand text 0 es → m < n → All (IsOutside m) es → All (IsOutside n) es → moved es m < moved es n
