-- Changes that follow one another.
use Rattle.std.proofs.Common.{◌≡◌, ◌+◌, ◌<◌, ◌≤◌, ◌∙◌, [], ◌∷◌, ℕ, List, None, length, get_or, drop, sym, ap}
use Rattle.std.proofs.lemmas.List.{drop_all, drop_more}
use Rattle.std.proofs.lemmas.Option.{get_or_from_slice_get, slice_get-get_or}
use Rattle.go_lsp_core.specs.declared.positions.place.Encoding.{Encoding}
use Rattle.go_lsp_core.specs.declared.edits.changes.Change.{Change}
use Rattle.go_lsp_core.specs.edits.Changes.{changed, changed_once}

-- the change of a number
abbrev pub change_at : List Change → ℕ → Change
change_at cs i = get_or cs i record { range = None; new = record { ref_ptr = (0, 0); now = [] } }

pub change_is : (cs : List Change) (i : ℕ) → i < length cs → change_at cs i ≡ get_or cs i (change_at cs i)
change_is cs i lt = sym (get_or_from_slice_get cs i (change_at cs i) (change_at cs i) (slice_get-get_or cs i _ lt))

pub change_step : (encoding : Encoding) (cs : List Change) (i : ℕ) (x : Change) (old new all : List ℕ) → i < length cs → x ≡ get_or cs i x → new ≡ changed_once encoding old x → changed encoding old (drop i cs) ≡ all → changed encoding new (drop (i + 1) cs) ≡ all
change_step encoding cs i x old new all lt is made before =
    ap (λ (t : List ℕ). changed encoding t (drop (i + 1) cs)) made
    ∙ (sym (ap (changed encoding old) (drop_more cs i x lt ∙ ap (λ (y : Change). y ∷ drop (i + 1) cs) (sym is))) ∙ before)

pub change_end : (encoding : Encoding) (cs : List Change) (i : ℕ) (old all : List ℕ) → length cs ≤ i → changed encoding old (drop i cs) ≡ all → old ≡ all
change_end encoding cs i old all le before = sym (ap (changed encoding old) (drop_all i cs le)) ∙ before
