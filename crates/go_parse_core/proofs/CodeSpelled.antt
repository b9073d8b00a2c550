-- The names and literals of a scanned text are pieces of it.
use Rattle.std.proofs.Common.{◌≡◌, ℕ, ◌≤◌, Bool, true, inl, inr, List, Option, Some, Ok, refl, sym, subst, arith, nat_le, if◌then◌else◌}
use Rattle.std.proofs.lemmas.Bool.Decides.{nat_tests}
use Rattle.std.proofs.lemmas.List.Elements.{All-map, All-weaker}
use Rattle.go_tree_nodes.specs.text_core.declared.span.Span.{Span}
use Rattle.go_tree_nodes.specs.text_core.Slices.{slice_of}
use Rattle.go_tree_nodes.specs.token_core.declared.kind.TokenKind.{TokenKind}
use Rattle.go_tree_nodes.specs.token_core.declared.kind.TokenKind.TheVariants as token
use Rattle.go_tree_nodes.specs.token_core.declared.token.Token.{Token}
use Rattle.go_tree_nodes.specs.token_core.Numbers.{integer_value_of}
use Rattle.go_scan_core.specs.Texts.{HasItsText, IsSpelled}
use Rattle.go_scan_core.proofs.Answered.{tokens_of_answer}
use Rattle.go_scan_core.proofs.TextLemmas.{slice_of-token}
use Rattle.go_scan_core.proofs.TokenLemmas.{tokens_have_texts}
use Rattle.go_tree_nodes.specs.Terminals.{Number, Stray, name_kind, number_kind, text_kind, kind_at, terminal_of}
use Rattle.go_parse_core.specs.Names.{IsSpelledAt, HasSpelling, HasNamesSpelled}

number_reached : (text bytes : List ℕ) (s : Span) (b : Bool) → slice_of text s ≡ Some bytes → b ≡ true → IsSpelledAt text s (if b then Number (integer_value_of bytes) else Stray)
number_reached text bytes s b has low =
    subst (λ (b : Bool). IsSpelledAt text s (if b then Number (integer_value_of bytes) else Stray)) (sym low) (bytes, has, refl)

number_spelled : (text bytes : List ℕ) (s : Span) → slice_of text s ≡ Some bytes → integer_value_of bytes ≤ 9223372036854775807 → IsSpelledAt text s (number_kind (Some bytes))
number_spelled text bytes s has h =
    let n = integer_value_of bytes in
    let low : nat_le n 9223372036854775807 ≡ true = grind (arith, nat_tests) in
    number_reached text bytes s (nat_le n 9223372036854775807) has low

kind_spelled : (text bytes : List ℕ) (s : Span) (k : TokenKind) → slice_of text s ≡ Some bytes → IsSpelled k bytes → IsSpelledAt text s (kind_at text s k)
kind_spelled text bytes s token.Identifier has (inl w) = subst (λ (o : Option (List ℕ)). IsSpelledAt text s (name_kind o)) (sym has) has
kind_spelled text bytes s token.Integer has (inl w) = subst (λ (o : Option (List ℕ)). IsSpelledAt text s (number_kind o)) (sym has) (number_spelled text bytes s has w.3)
kind_spelled text bytes s token.String has (inl w) = subst (λ (o : Option (List ℕ)). IsSpelledAt text s (text_kind o)) (sym has) has
kind_spelled text bytes s (token.Keyword k) has (inl w) = tt
kind_spelled text bytes s (token.Operator o) has (inl w) = tt
kind_spelled text bytes s k has (inr w) = subst (λ (k : TokenKind). IsSpelledAt text s (kind_at text s k)) (sym w.0) tt

spelled_of : (text : List ℕ) (t : Token) → HasItsText text t → HasSpelling text (terminal_of text t)
spelled_of text t has = let w = slice_of-token text t has in kind_spelled text w.0 t.span t.kind w.1 w.2

pub names_spelled : HasNamesSpelled
names_spelled text tokens utf8 scanned =
    All-map (HasSpelling text) (terminal_of text) tokens (All-weaker (HasItsText text) (λ t. HasSpelling text (terminal_of text t)) (spelled_of text) tokens (tokens_have_texts text tokens utf8 (tokens_of_answer text (Ok tokens) scanned)))
