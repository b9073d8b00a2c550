-- What is said of a fault of the grammar.
use Rattle.std.specs.Prelude.{◌≡◌, ◌⊎◌, ◌≤◌, ◌<◌, ℕ, Bool, false, true, List, [], ◌∷◌, length, Option, None, Some, slice_get, MatchOption, ⊤}
use Rattle.go_tree_nodes.specs.text_core.Slices.{slice_of}
use Rattle.go_tree_nodes.specs.text_core.declared.rule.Rule.{Rule}
use Rattle.go_tree_nodes.specs.text_core.declared.rule.Rule.TheVariants.{P1, P2}
use Rattle.go_tree_nodes.specs.token_core.declared.token.Token.{Token}
use Rattle.go_scan_core.specs.Cutting.{tokens_of}
use Rattle.go_tree_nodes.specs.Trees.{FileTree}
use Rattle.go_parse_core.specs.declared.error.SynFault.{SynFault}
use Rattle.go_parse_core.specs.Correct.{HasNoLowTree}
use Rattle.go_parse_core.specs.Parsing.{IsParse}
use Rattle.go_recovery_core.specs.declared.mend.foreign.ForeignWord.{ForeignWord}
use Rattle.go_recovery_core.specs.declared.mend.outcome.Mend.{Mend}
use Rattle.go_recovery_core.specs.declared.mend.outcome.Told.{Told}
use Rattle.go_recovery_core.specs.declared.mend.outcome.Told.TheVariants as tolds
use Rattle.go_recovery_core.specs.declared.mend.mending.Mending.{Mending}
use Rattle.go_recovery_core.specs.mend.Candidates.{candidates, token_before}
use Rattle.go_recovery_core.specs.mend.Foreign.{foreign_text}
use Rattle.go_recovery_core.specs.mend.Forms.{around_of, late_form, sure_form}
use Rattle.go_recovery_core.specs.mend.Mended.{mended_text}
use Rattle.go_recovery_core.specs.mend.Outcomes.{mend_of}
use Rattle.go_recovery_core.specs.mend.Tokens.{open_before, place_of, tokens_or_none}

-- the text has a tree that is low enough
abbrev pub HasSomeTree : List ℕ → Type 0
HasSomeTree text = (f : FileTree) × IsParse text f

-- a change is tried, and with it the text has a tree
abbrev pub Fits : List ℕ → Option Mending → Type 0
Fits text (Some mending) = HasSomeTree (mended_text text mending)
Fits text None = ⊥

-- a change is not tried, or the text has no tree with it
abbrev pub FitsNot : List ℕ → Option Mending → Type 0
FitsNot text (Some mending) = HasNoLowTree (mended_text text mending)
FitsNot text None = ⊤

-- the first of the changes with which the text has a tree, and none where it has none with any of them
abbrev pub IsFirstFit : List ℕ → List (Option Mending) → Option Mending → Type 0
IsFirstFit text [] mending = mending ≡ None
IsFirstFit text (c ∷ cs) mending = (Fits text c × (mending ≡ c)) ⊎ (FitsNot text c × IsFirstFit text cs mending)

-- the change that is told at the token of a number: none of a text of more than 100,000 bytes
abbrev pub IsMendingAt : List ℕ → List Token → ℕ → ℕ → Option Mending → Type 0
IsMendingAt text tokens n offset mending =
    (length text ≤ 100000 → IsFirstFit text (candidates text tokens n offset) mending) × (100000 < length text → mending ≡ None)

-- a token is spelled as a word of another language
abbrev pub IsSpelledSo : List ℕ → Option Token → ForeignWord → Type 0
IsSpelledSo text token word = MatchOption token ⊥ (λ t. slice_of text t.span ≡ Some (foreign_text word))

-- such a word stands at the token of a number, or before it
abbrev pub IsForeignAt : List ℕ → List Token → ℕ → ForeignWord → Type 0
IsForeignAt text tokens n word = IsSpelledSo text (slice_get tokens n) word ⊎ IsSpelledSo text (token_before tokens n) word

-- what is told at the token of a number: a form of Go that only it looks like goes before a change, and others stand behind it
abbrev pub IsToldAt : List ℕ → List Token → ℕ → ℕ → Told → Type 0
IsToldAt text tokens n offset (tolds.Form form) =
    (sure_form (around_of tokens n) ≡ Some form)
    ⊎ ((sure_form (around_of tokens n) ≡ None) × (late_form (around_of tokens n) ≡ Some form) × IsMendingAt text tokens n offset None)
IsToldAt text tokens n offset (tolds.Foreign word) = (sure_form (around_of tokens n) ≡ None) × IsForeignAt text tokens n word
IsToldAt text tokens n offset (tolds.Mending mending) = (sure_form (around_of tokens n) ≡ None) × IsMendingAt text tokens n offset (Some mending)
IsToldAt text tokens n offset tolds.Nothing =
    (sure_form (around_of tokens n) ≡ None) × (late_form (around_of tokens n) ≡ None) × IsMendingAt text tokens n offset None

abbrev pub is_grammar : Rule → Bool
is_grammar P1 = true
is_grammar _ = false

abbrev pub is_height : Rule → Bool
is_height P2 = true
is_height _ = false

-- of a fault of another rule than P1 nothing is told
abbrev pub IsToldOf : List ℕ → List Token → ℕ → SynFault → Told → Type 0
IsToldOf text tokens n fault told = (is_grammar fault.rule ≡ true → IsToldAt text tokens n fault.offset told) × (is_grammar fault.rule ≡ false → told ≡ tolds.Nothing)

-- where a bracket stands
abbrev pub start_of : Option Token → Option ℕ
start_of (Some t) = Some t.span.start
start_of None = None

abbrev pub open_offset : List Token → Option ℕ → Option ℕ
open_offset tokens (Some n) = start_of (slice_get tokens n)
open_offset tokens None = None

-- what is said of a fault at the token of a number
abbrev pub IsMendAt : List ℕ → List Token → ℕ → SynFault → Mend → Type 0
IsMendAt text tokens n fault m =
    (told : Told) × IsToldOf text tokens n fault told
    × (m ≡ mend_of fault.offset (slice_get tokens n) (open_offset tokens (open_before tokens n 0)) (is_height fault.rule) told)

-- what is said of a fault of a text: at the first token that begins at its offset or behind it
abbrev pub IsMend : List ℕ → SynFault → Mend → Type 0
IsMend text fault m = IsMendAt text (tokens_or_none (tokens_of text)) (place_of (tokens_or_none (tokens_of text)) fault.offset) fault m
