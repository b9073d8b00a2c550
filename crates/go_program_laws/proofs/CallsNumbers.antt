-- The integer literals of a tree of a text have values.
use Rattle.std.proofs.Common.{◌≡◌, inl, inr, ℕ, suc, ◌≤◌, ◌<◌, ◌^◌, Bool, true, false, List, [], ◌∷◌, Option, Some, None, refl, sym, ap, subst, arith, nat_le, nat_lt, pos, if◌then◌else◌}
use Rattle.std.proofs.lemmas.Bool.{leb-true, lt-ltb}
use Rattle.go_constant_core.specs.text_core.declared.span.Span.{Span}
use Rattle.go_constant_core.specs.text_core.Slices.{slice_of}
use Rattle.go_tree_nodes.specs.token_core.declared.kind.TokenKind.{TokenKind}
use Rattle.go_tree_nodes.specs.token_core.declared.kind.TokenKind.TheVariants as tokens
use Rattle.go_tree_nodes.specs.token_core.declared.token.Token.{Token}
use Rattle.go_tree_nodes.specs.token_core.Numbers.{integer_value_of}
use Rattle.go_tree_nodes.specs.Terminals.{Terminal, Number, Stray, kind_at, name_kind, number_kind, terminal, terminals, text_kind}
use Rattle.go_constant_core.specs.declared.values.Constant.TheVariants as values
use Rattle.go_code_core.specs.fragments.Constants.{held}
use Rattle.go_meaning_laws.specs.fitting_sources.Fitting.{IsGiven}
use Rattle.go_workspace_laws.proofs.ConstantLists.{HasItem}

abbrev greatest : ℕ
greatest = 9223372036854775807

name_low : (o : Option (List ℕ)) (n : ℕ) → name_kind o ≡ Number n → n ≤ greatest
name_low None n e = absurd (cc e)
name_low (Some x) n e = absurd (cc e)

text_low : (o : Option (List ℕ)) (n : ℕ) → text_kind o ≡ Number n → n ≤ greatest
text_low None n e = absurd (cc e)
text_low (Some x) n e = absurd (cc e)

value_low : (v n : ℕ) (b : Bool) → nat_le v greatest ≡ b → (if b then Number v else Stray) ≡ Number n → n ≤ greatest
value_low v n true h e = (let same : v ≡ n = cc e in subst (λ m. m ≤ greatest) same (leb-true v greatest h))
value_low v n false h e = absurd (cc e)

number_low : (o : Option (List ℕ)) (n : ℕ) → number_kind o ≡ Number n → n ≤ greatest
number_low None n e = absurd (cc e)
number_low (Some x) n e = value_low (integer_value_of x) n (nat_le (integer_value_of x) greatest) refl e

kind_low : (text : List ℕ) (s : Span) (k : TokenKind) (n : ℕ) → kind_at text s k ≡ Number n → n ≤ greatest
kind_low text s tokens.Identifier n e = name_low (slice_of text s) n e
kind_low text s tokens.Integer n e = number_low (slice_of text s) n e
kind_low text s tokens.String n e = text_low (slice_of text s) n e
kind_low text s (tokens.Keyword k) n e = absurd (cc e)
kind_low text s (tokens.Operator o) n e = absurd (cc e)

pub terminals_low : (text : List ℕ) (ts : List Token) (n : ℕ) (span : Span) → HasItem (terminals text ts) (terminal (Number n) span) → n ≤ greatest
terminals_low text [] n span h = absurd h
terminals_low text (t ∷ ts) n span (inl e) = kind_low text t.span t.kind n (ap (λ (x : Terminal). x.kind) e)
terminals_low text (t ∷ ts) n span (inr h) = terminals_low text ts n span h

pub given : (n : ℕ) → n ≤ greatest → IsGiven (held (if nat_lt n (2 ^ 63) then values.Int (pos n) else values.Unknown))
given n low =
    let top : suc greatest ≡ 2 ^ 63 = refl in
    let below : n < suc greatest = omega (arith, low) in
    subst (λ b. IsGiven (held (if b then values.Int (pos n) else values.Unknown))) (sym (lt-ltb n (2 ^ 63) (subst (λ m. n < m) top below))) tt
