-- The first terminals of an expression, and how many it takes.
use Rattle.std.proofs.Common.{◌≡◌, ℕ, ◌<◌, Bool, true, false, List, [], ◌∷◌, ◌++◌, length, None, refl, sym, ap, ◌∙◌, subst, arith, append_assoc, length-append}
use Rattle.go_tree_nodes.specs.text_core.declared.span.Span.{Span}
use Rattle.go_tree_nodes.specs.token_core.declared.kind.Keyword.{Keyword}
use Rattle.go_tree_nodes.specs.token_core.declared.kind.Keyword.TheVariants as keyword
use Rattle.go_tree_nodes.specs.token_core.declared.kind.Operator.{Operator}
use Rattle.go_tree_nodes.specs.token_core.declared.kind.Operator.TheVariants as operator
use Rattle.go_tree_nodes.specs.declared.names.Ident.{Ident}
use Rattle.go_tree_nodes.specs.declared.names.TextLiteral.{TextLiteral}
use Rattle.go_tree_nodes.specs.declared.types.TypeName.TheVariants as type_name
use Rattle.go_tree_nodes.specs.Terminals.{Number, Terminal, terminal}
use Rattle.go_tree_nodes.specs.Trees.{NamedType, Pointer, ParenType, Struct, Interface, ExprTree, Integer, Text, Named, Paren, Unary, Binary, Select, Call, Literal, StructLiteral}
use Rattle.go_tree_nodes.specs.Spelling.{mark, word, spell_ident, spell_text, spell_type_name, spell_type, spell, spell_items}
use Rattle.go_tree_nodes.specs.Rules.{is_unary, Wf}
use Rattle.go_tree_nodes.specs.Heights.{height}
use Rattle.go_parse_reader.specs.types.mirrors.Marks.{same_operator, same_keyword, mark_at, keyword_at}
use Rattle.go_parse_reader.specs.exprs.mirrors.ExprReading.{key_by, key_at}
use Rattle.go_parse_reader.proofs.TypesMarks.{mark_not, word_not}
use Rattle.go_parse_reader.proofs.ExprsBehind.{not_ranked, not_unary}

-- an expression begins with a literal, a name, an opening parenthesis, a unary operator or `struct`
pub first_of : (P : List Terminal → Type 0) → ((n : ℕ) (s : Span) (ts : List Terminal) → P (terminal (Number n) s ∷ ts)) → ((t : TextLiteral) (ts : List Terminal) → P (spell_text t ∷ ts)) → ((x : Ident) (ts : List Terminal) → P (spell_ident x ∷ ts)) → ((s : Span) (ts : List Terminal) → P (mark operator.OpenParen s ∷ ts)) → ((o : Operator) (s : Span) (ts : List Terminal) → is_unary o ≡ true → P (mark o s ∷ ts)) → ((s : Span) (ts : List Terminal) → P (word keyword.Struct s ∷ ts)) → (header : Bool) (t : ExprTree) (rest : List Terminal) → Wf header t → P (spell t ++ rest)
first_of P number text name paren unary struct header (Integer n s) rest wf = number n s rest
first_of P number text name paren unary struct header (Text t) rest wf = text t rest
first_of P number text name paren unary struct header (Named x) rest wf = name x rest
first_of P number text name paren unary struct header (Paren first t last) rest wf = paren first ((spell t ++ mark operator.CloseParen last ∷ []) ++ rest)
first_of P number text name paren unary struct header (Unary op s t) rest wf = unary op s (spell t ++ rest) wf.0
first_of P number text name paren unary struct header (Binary a op s b) rest wf =
    subst P (sym (append_assoc (spell a) (mark op s ∷ spell b) rest)) (first_of P number text name paren unary struct header a (mark op s ∷ (spell b ++ rest)) wf.1)
first_of P number text name paren unary struct header (Select t dot x) rest wf =
    subst P (sym (append_assoc (spell t) (mark operator.Dot dot ∷ (spell_ident x ∷ [])) rest)) (first_of P number text name paren unary struct header t (mark operator.Dot dot ∷ (spell_ident x ∷ rest)) wf.0)
first_of P number text name paren unary struct header (Call t first items last) rest wf =
    let behind = mark operator.OpenParen first ∷ (spell_items items ++ mark operator.CloseParen last ∷ []) in
    subst P (sym (append_assoc (spell t) behind rest)) (first_of P number text name paren unary struct header t (behind ++ rest) wf.0)
first_of P number text name paren unary struct header (Literal (type_name.Plain x) first items last) rest wf = name x _
first_of P number text name paren unary struct header (Literal (type_name.Qualified p dot x) first items last) rest wf = name p _
first_of P number text name paren unary struct header (StructLiteral (Struct k a fs z) first items last) rest wf = struct k _
first_of P number text name paren unary struct header (StructLiteral (NamedType n) first items last) rest wf = absurd wf.0
first_of P number text name paren unary struct header (StructLiteral (Pointer star t) first items last) rest wf = absurd wf.0
first_of P number text name paren unary struct header (StructLiteral (ParenType a t z) first items last) rest wf = absurd wf.0
first_of P number text name paren unary struct header (StructLiteral (Interface k a ms z) first items last) rest wf = absurd wf.0

-- with no keyword but `struct`
pub expr_no_word : (k : Keyword) → same_keyword keyword.Struct k ≡ false → (header : Bool) (t : ExprTree) (rest : List Terminal) → Wf header t → keyword_at k (spell t ++ rest) ≡ None
expr_no_word k other header t rest wf =
    first_of (λ ts. keyword_at k ts ≡ None) (λ n s ts. refl) (λ t ts. refl) (λ x ts. refl) (λ s ts. refl) (λ o s ts is. refl) (λ s ts. word_not k keyword.Struct s ts other) header t rest wf

-- with no mark but an opening parenthesis or a unary operator
pub expr_no_mark : (o : Operator) → same_operator operator.OpenParen o ≡ false → is_unary o ≡ false → (header : Bool) (t : ExprTree) (rest : List Terminal) → Wf header t → mark_at o (spell t ++ rest) ≡ None
expr_no_mark o other binary header t rest wf =
    first_of (λ ts. mark_at o ts ≡ None) (λ n s ts. refl) (λ t ts. refl) (λ x ts. refl) (λ s ts. mark_not o operator.OpenParen s ts other) (λ p s ts is. mark_not o p s ts (not_unary p o is binary)) (λ s ts. refl) header t rest wf

-- with a name and a colon only where a colon stands behind it
pub expr_no_key : (header : Bool) (t : ExprTree) (ts : List Terminal) → Wf header t → mark_at operator.Colon ts ≡ None → key_at (spell t ++ ts) ≡ None
expr_no_key header (Integer n s) ts wf free = refl
expr_no_key header (Text t) ts wf free = refl
expr_no_key header (Named x) ts wf free = ap (key_by x) free
expr_no_key header (Paren first t last) ts wf free = refl
expr_no_key header (Unary op s t) ts wf free = refl
expr_no_key header (Binary a op s b) ts wf free =
    ap key_at (append_assoc (spell a) (mark op s ∷ spell b) ts) ∙ expr_no_key header a (mark op s ∷ (spell b ++ ts)) wf.1 (mark_not operator.Colon op s (spell b ++ ts) (not_ranked op operator.Colon wf.0 refl))
expr_no_key header (Select t dot x) ts wf free = ap key_at (append_assoc (spell t) (mark operator.Dot dot ∷ (spell_ident x ∷ [])) ts) ∙ expr_no_key header t _ wf.0 refl
expr_no_key header (Call t first items last) ts wf free =
    ap key_at (append_assoc (spell t) (mark operator.OpenParen first ∷ (spell_items items ++ mark operator.CloseParen last ∷ [])) ts) ∙ expr_no_key header t _ wf.0 refl
expr_no_key header (Literal (type_name.Plain x) first items last) ts wf free = refl
expr_no_key header (Literal (type_name.Qualified p dot x) first items last) ts wf free = refl
expr_no_key header (StructLiteral (Struct k a fs z) first items last) ts wf free = refl
expr_no_key header (StructLiteral (NamedType n) first items last) ts wf free = absurd wf.0
expr_no_key header (StructLiteral (Pointer star t) first items last) ts wf free = absurd wf.0
expr_no_key header (StructLiteral (ParenType a t z) first items last) ts wf free = absurd wf.0
expr_no_key header (StructLiteral (Interface k a ms z) first items last) ts wf free = absurd wf.0

-- an expression takes a terminal
pub spell_some : (t : ExprTree) → 0 < length (spell t)
spell_some (Integer n s) = omega arith
spell_some (Text t) = omega arith
spell_some (Named x) = omega arith
spell_some (Paren first t last) = omega arith
spell_some (Unary op s t) = omega arith
spell_some (Binary a op s b) = omega (arith, length-append (spell a) (mark op s ∷ spell b))
spell_some (Select t dot x) = omega (arith, length-append (spell t) (mark operator.Dot dot ∷ (spell_ident x ∷ [])))
spell_some (Call t first items last) = omega (arith, length-append (spell t) (mark operator.OpenParen first ∷ (spell_items items ++ mark operator.CloseParen last ∷ [])))
spell_some (Literal n first items last) = omega (arith, length-append (spell_type_name n) (mark operator.OpenBrace first ∷ (spell_items items ++ mark operator.CloseBrace last ∷ [])))
spell_some (StructLiteral t first items last) = omega (arith, length-append (spell_type t) (mark operator.OpenBrace first ∷ (spell_items items ++ mark operator.CloseBrace last ∷ [])))

pub height_some : (t : ExprTree) → 0 < height t
height_some (Integer n s) = omega arith
height_some (Text t) = omega arith
height_some (Named x) = omega arith
height_some (Paren first t last) = omega arith
height_some (Unary op s t) = omega arith
height_some (Binary a op s b) = omega arith
height_some (Select t dot x) = omega arith
height_some (Call t first items last) = omega arith
height_some (Literal n first items last) = omega arith
height_some (StructLiteral t first items last) = omega arith
