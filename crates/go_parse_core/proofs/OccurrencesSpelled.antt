-- The occurrences of the tree of a text are pieces of the text.
use Rattle.std.proofs.Common.{◌≡◌, ℕ, Bool, true, false, List, [], ◌∷◌, Option, Some, None, refl, sym, subst, nat_le, if◌then◌else◌}
use Rattle.std.specs.List.{All}
use Rattle.std.proofs.lemmas.List.Elements.{All-nil, All-cons, All-head, All-tail}
use Rattle.go_tree_nodes.specs.text_core.declared.span.Span.{Span}
use Rattle.go_tree_nodes.specs.text_core.Slices.{slice_of}
use Rattle.go_tree_nodes.specs.token_core.declared.kind.TokenKind.{TokenKind}
use Rattle.go_tree_nodes.specs.token_core.declared.kind.TokenKind.TheVariants as token
use Rattle.go_tree_nodes.specs.token_core.declared.token.Token.{Token}
use Rattle.go_tree_nodes.specs.token_core.Numbers.{integer_value_of}
use Rattle.go_tree_nodes.specs.Terminals.{TerminalKind, Spelled, Number, Quoted, Stray, name_kind, number_kind, text_kind, kind_at, Terminal, terminals}
use Rattle.go_tree_core.specs.declared.occurrence.Role.{Role}
use Rattle.go_tree_core.specs.declared.occurrence.Role.TheVariants as role
use Rattle.go_tree_core.specs.declared.occurrence.Occ.{Occ}
use Rattle.go_tree_core.specs.Laws.{IsKindOf, IsWritten, AreWritten, NoneLeft, Passed, Written}
use Rattle.go_tree_core.proofs.Telling.{occurrences_are_written}
use Rattle.go_parse_core.specs.Names.{IsRoleSpelled, IsOccurrenceSpelled, HasOccurrencesSpelled}

-- names and string literals are slices

abbrev IsSlice : List ℕ → Span → TerminalKind → Type 0
IsSlice text span (Spelled name) = slice_of text span ≡ Some name
IsSlice text span (Quoted literal) = slice_of text span ≡ Some literal
IsSlice text span _ = Unit {0}

abbrev IsSliceAt : List ℕ → Terminal → Type 0
IsSliceAt text t = IsSlice text t.span t.kind

name_slice : (text : List ℕ) (s : Span) (o : Option (List ℕ)) → slice_of text s ≡ o → IsSlice text s (name_kind o)
name_slice text s None e = tt
name_slice text s (Some x) e = e

text_slice : (text : List ℕ) (s : Span) (o : Option (List ℕ)) → slice_of text s ≡ o → IsSlice text s (text_kind o)
text_slice text s None e = tt
text_slice text s (Some x) e = e

number_slice : (text : List ℕ) (s : Span) (o : Option (List ℕ)) → IsSlice text s (number_kind o)
number_slice text s None = tt
number_slice text s (Some x) = of (integer_value_of x) (nat_le (integer_value_of x) 9223372036854775807)
  where
    of : (n : ℕ) (b : Bool) → IsSlice text s (if b then Number n else Stray)
    of n true = tt
    of n false = tt

kind_slice : (text : List ℕ) (s : Span) (k : TokenKind) → IsSlice text s (kind_at text s k)
kind_slice text s token.Identifier = name_slice text s (slice_of text s) refl
kind_slice text s token.Integer = number_slice text s (slice_of text s)
kind_slice text s token.String = text_slice text s (slice_of text s) refl
kind_slice text s (token.Keyword k) = tt
kind_slice text s (token.Operator o) = tt

slices : (text : List ℕ) (ts : List Token) → All (IsSliceAt text) (terminals text ts)
slices text [] = All-nil (IsSliceAt text)
slices text (t ∷ ts) = All-cons (IsSliceAt text) _ (terminals text ts) (kind_slice text t.span t.kind) (slices text ts)

-- and so are occurrences, which are such terminals

role_spelled : (text : List ℕ) (r : Role) (spelling : List ℕ) (s : Span) (k : TerminalKind) → IsKindOf r spelling k → IsSlice text s k → IsRoleSpelled text r s spelling
role_spelled text role.Call spelling s k is slice = tt
role_spelled text role.Import spelling s k is slice = subst (IsSlice text s) is slice
role_spelled text _ spelling s k is slice = subst (IsSlice text s) is slice

occurrence_spelled : (text : List ℕ) (o : Occ) (t : Terminal) → IsWritten o t → IsSliceAt text t → IsOccurrenceSpelled text o
occurrence_spelled text o t is slice =
    role_spelled text o.role o.spelling o.span t.kind is.1 (subst (λ (s : Span). IsSlice text s t.kind) is.0 slice)

all_spelled : (text : List ℕ) {os : List Occ} {ts : List Terminal} → AreWritten os ts → All (IsSliceAt text) ts → All (IsOccurrenceSpelled text) os
all_spelled text NoneLeft all = All-nil (IsOccurrenceSpelled text)
all_spelled text (Passed {t = t} {os = os} {ts = ts} more) all = all_spelled text more (All-tail (IsSliceAt text) t ts all)
all_spelled text (Written {o = o} {t = t} {os = os} {ts = ts} is more) all =
    All-cons (IsOccurrenceSpelled text) o os (occurrence_spelled text o t is (All-head (IsSliceAt text) t ts all)) (all_spelled text more (All-tail (IsSliceAt text) t ts all))

pub occurrences_spelled : HasOccurrencesSpelled
occurrences_spelled text f has =
    all_spelled text (occurrences_are_written f) (subst (All (IsSliceAt text)) (sym has.tree.spelled) (slices text has.tokens))
