-- The terminals of a scanned text lie in order.
use Rattle.std.proofs.Common.{◌≡◌, ℕ, ◌+◌, ◌<◌, ◌≤◌, ◌⊎◌, inl, inr, List, [], ◌∷◌, Bool, true, false, Option, Some, None, refl, subst, sym, arith, nat_le, if◌then◌else◌}
use Rattle.std.specs.List.{All}
use Rattle.std.proofs.lemmas.List.Elements.{All-head, All-tail}
use Rattle.go_tree_nodes.specs.text_core.declared.span.Span.{Span}
use Rattle.go_tree_nodes.specs.text_core.Slices.{slice_of}
use Rattle.go_tree_nodes.specs.token_core.declared.kind.Operator.{Operator}
use Rattle.go_tree_nodes.specs.token_core.declared.kind.Operator.TheVariants as operator
use Rattle.go_tree_nodes.specs.token_core.declared.kind.TokenKind.{TokenKind}
use Rattle.go_tree_nodes.specs.token_core.declared.kind.TokenKind.TheVariants as token
use Rattle.go_tree_nodes.specs.token_core.declared.token.Token.{Token}
use Rattle.go_tree_nodes.specs.token_core.Numbers.{integer_value_of}
use Rattle.go_scan_core.specs.Texts.{IsFilled}
use Rattle.go_scan_core.specs.Tokens as scanned
use Rattle.go_tree_nodes.specs.Terminals.{Number, Stray, name_kind, number_kind, text_kind, kind_at, least_width_of, least_width, terminals, InOrder}

operator_width : (o : Operator) → least_width_of o ≤ 1
operator_width operator.Semicolon = omega arith
operator_width _ = omega arith

name_width : (name : Option (List ℕ)) → least_width (name_kind name) ≡ 1
name_width None = refl
name_width (Some x) = refl

number_width : (digits : Option (List ℕ)) → least_width (number_kind digits) ≡ 1
number_width None = refl
number_width (Some x) = of (integer_value_of x) (nat_le (integer_value_of x) 9223372036854775807)
  where
    of : (n : ℕ) (b : Bool) → least_width (if b then Number n else Stray) ≡ 1
    of n true = refl
    of n false = refl

text_width : (spelled : Option (List ℕ)) → least_width (text_kind spelled) ≡ 1
text_width None = refl
text_width (Some x) = refl

kind_width : (text : List ℕ) (s : Span) (k : TokenKind) → (s.start < s.end) ⊎ ((k ≡ token.Operator operator.Semicolon) × (s.start ≤ s.end)) → s.start + least_width (kind_at text s k) ≤ s.end
kind_width text s token.Identifier (inl h) = omega (arith, name_width (slice_of text s))
kind_width text s token.Integer (inl h) = omega (arith, number_width (slice_of text s))
kind_width text s token.String (inl h) = omega (arith, text_width (slice_of text s))
kind_width text s (token.Keyword k) (inl h) = omega arith
kind_width text s (token.Operator o) (inl h) = omega (arith, operator_width o)
kind_width text s k (inr h) = let P : TokenKind → Type 0 = λ k. s.start + least_width (kind_at text s k) ≤ s.end in subst P (sym h.0) (omega (arith, h.1))

pub terminals_in_order : (text : List ℕ) (ts : List Token) (low high : ℕ) → scanned.TokensInOrder low ts high → All IsFilled ts → InOrder low (terminals text ts) high
terminals_in_order text [] low high order filled = order
terminals_in_order text (t ∷ ts) low high order filled =
    (order.0, kind_width text t.span t.kind (All-head IsFilled t ts filled), terminals_in_order text ts t.span.end high order.2 (All-tail IsFilled t ts filled))
