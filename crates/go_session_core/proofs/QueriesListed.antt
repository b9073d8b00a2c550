-- One more fault of a workspace is looked at.
use Rattle.std.proofs.Common.{◌≡◌, ℕ, ◌+◌, ◌<◌, List, [], ◌∷◌, ◌++◌, length, take, get_or, Option, Some, None, sym, ap, ◌∙◌, append-nil}
use Rattle.std.specs.Prelude.{slice_get}
use Rattle.std.specs.List.{filter_map}
use Rattle.std.proofs.lemmas.List.{take_more}
use Rattle.std.proofs.lemmas.List.Elements.{filter_map-append}
use Rattle.std.proofs.lemmas.Option.{get_or_from_slice_get}
use Rattle.go_graph_core.specs.Workspaces.{PackageModel}
use Rattle.go_complete_core.specs.snap_core.declared.fault.PlacedFault.{PlacedFault}
use Rattle.go_session_core.specs.queries.Built.{faults_inside, named_of}
use Rattle.go_session_core.specs.declared.queries.faults.Fault.{Fault}
use Rattle.go_session_core.specs.queries.mirrors.Adding.{with_some}

last_found : (own : List ℕ) (ps : List PackageModel) (before : List Fault) (x : PlacedFault) (o : Option Fault) → named_of own (slice_get ps x.«package») x ≡ o → before ++ faults_inside own ps (x ∷ []) ≡ with_some before o
last_found own ps before x None is = ap (λ o. before ++ filter_map (λ (y : Option Fault). y) (o ∷ [])) is ∙ append-nil before
last_found own ps before x (Some f) is = ap (λ o. before ++ filter_map (λ (y : Option Fault). y) (o ∷ [])) is

pub one_more : (own : List ℕ) (ps : List PackageModel) (fs : List PlacedFault) (i : ℕ) (x : PlacedFault) (before after : List Fault) (o : Option Fault) → i < length fs → slice_get fs i ≡ Some x → o ≡ named_of own (slice_get ps x.«package») x → after ≡ with_some before o → before ≡ faults_inside own ps (take i fs) → after ≡ faults_inside own ps (take (i + 1) fs)
one_more own ps fs i x before after o within at is more kept =
    more
    ∙ sym (last_found own ps before x o (sym is))
    ∙ ap (λ (l : List Fault). l ++ faults_inside own ps (x ∷ [])) kept
    ∙ ap (λ (y : PlacedFault). faults_inside own ps (take i fs) ++ faults_inside own ps (y ∷ [])) (sym (get_or_from_slice_get fs i x x at))
    ∙ sym (filter_map-append (λ (f : PlacedFault). named_of own (slice_get ps f.«package») f) (take i fs) (get_or fs i x ∷ []))
    ∙ ap (faults_inside own ps) (sym (take_more fs i x within))
