-- How types begin, and reading their names.
use Rattle.std.proofs.Common.{◌≡◌, ℕ, ◌<◌, ◌≤◌, true, false, List, [], ◌∷◌, ◌++◌, length, Option, Some, None, Ok, refl, sym, ap, ◌∙◌, arith}
use Rattle.go_tree_nodes.specs.text_core.declared.span.Span.{Span}
use Rattle.go_tree_nodes.specs.token_core.declared.kind.Keyword.TheVariants as keyword
use Rattle.go_tree_nodes.specs.token_core.declared.kind.Operator.{Operator}
use Rattle.go_tree_nodes.specs.token_core.declared.kind.Operator.TheVariants as operator
use Rattle.go_tree_nodes.specs.declared.names.Ident.{Ident}
use Rattle.go_tree_nodes.specs.declared.types.TypeName.{TypeName}
use Rattle.go_tree_nodes.specs.declared.types.TypeName.TheVariants as type_name
use Rattle.go_tree_nodes.specs.Terminals.{Terminal}
use Rattle.go_tree_nodes.specs.Trees.{TypeTree, NamedType, Pointer, ParenType, Struct, Interface}
use Rattle.go_tree_nodes.specs.Spelling.{mark, word, spell_ident, spell_type_name, spell_type, spell_fields, spell_methods}
use Rattle.go_tree_nodes.specs.Rules.{IsBare, Wf_type}
use Rattle.go_tree_nodes.specs.Heights.{type_height}
use Rattle.go_parse_reader.specs.types.mirrors.Marks.{Reading, MarkAhead, need, same_operator, mark_at, name_at, text_at}
use Rattle.go_parse_reader.specs.types.mirrors.TypeReading.{qualified, type_name_from, type_name_at, begins_type, ends_embedded}
use Rattle.go_parse_reader.proofs.TypesMarks.{mark_was, mark_not, name_was, bind_ok, need_ok, AgreesAt}

-- what a function has to find that reads types as high as b
abbrev pub FindsTypes : ℕ → (List Terminal → Reading TypeTree) → Type 0
FindsTypes b type = (t : TypeTree) (rest : List Terminal) → Wf_type t → mark_at operator.Dot rest ≡ None → AgreesAt (type (spell_type t ++ rest)) (Ok (t, rest)) b (type_height t)

-- what was read is spelled in front, respects the rules and is low enough
pub record ReadsType (b : ℕ) (ts : List Terminal) (x : TypeTree × List Terminal) : Type 0 where
  pub spelled : ts ≡ spell_type x.0 ++ x.1
  pub wf : Wf_type x.0
  pub low : type_height x.0 ≤ b

-- a function that reads nothing but such types
abbrev pub ReadsTypes : ℕ → (List Terminal → Reading TypeTree) → Type 0
ReadsTypes b type = (ts : List Terminal) (x : TypeTree × List Terminal) → type ts ≡ Ok x → ReadsType b ts x

-- A type begins with a name, a star, a parenthesis, `struct` or `interface`.
pub type_first_of : (P : List Terminal → Type 0) → ((x : Ident) (ts : List Terminal) → P (spell_ident x ∷ ts)) → ((s : Span) (ts : List Terminal) → P (mark operator.Star s ∷ ts)) → ((s : Span) (ts : List Terminal) → P (mark operator.OpenParen s ∷ ts)) → ((s : Span) (ts : List Terminal) → P (word keyword.Struct s ∷ ts)) → ((s : Span) (ts : List Terminal) → P (word keyword.Interface s ∷ ts)) → (t : TypeTree) (rest : List Terminal) → P (spell_type t ++ rest)
type_first_of P name star paren struct interface (NamedType (type_name.Plain x)) rest = name x rest
type_first_of P name star paren struct interface (NamedType (type_name.Qualified p dot x)) rest = name p (mark operator.Dot dot ∷ (spell_ident x ∷ rest))
type_first_of P name star paren struct interface (Pointer s t) rest = star s (spell_type t ++ rest)
type_first_of P name star paren struct interface (ParenType first t last) rest = paren first ((spell_type t ++ mark operator.CloseParen last ∷ []) ++ rest)
type_first_of P name star paren struct interface (Struct k first fs last) rest = struct k (mark operator.OpenBrace first ∷ ((spell_fields fs ++ mark operator.CloseBrace last ∷ []) ++ rest))
type_first_of P name star paren struct interface (Interface k first ms last) rest = interface k (mark operator.OpenBrace first ∷ ((spell_methods ms ++ mark operator.CloseBrace last ∷ []) ++ rest))

-- it begins with no other mark
pub type_no_mark : (o : Operator) → same_operator operator.Star o ≡ false → same_operator operator.OpenParen o ≡ false → (t : TypeTree) (rest : List Terminal) → mark_at o (spell_type t ++ rest) ≡ None
type_no_mark o star paren t rest =
    type_first_of (λ ts. mark_at o ts ≡ None) (λ x ts. refl) (λ s ts. mark_not o operator.Star s ts star) (λ s ts. mark_not o operator.OpenParen s ts paren) (λ s ts. refl) (λ s ts. refl) t rest

-- and with no string literal
pub type_no_text : (t : TypeTree) (rest : List Terminal) → text_at (spell_type t ++ rest) ≡ None
type_no_text t rest = type_first_of (λ ts. text_at ts ≡ None) (λ x ts. refl) (λ s ts. refl) (λ s ts. refl) (λ s ts. refl) (λ s ts. refl) t rest

pub type_begins : (t : TypeTree) (rest : List Terminal) → begins_type (spell_type t ++ rest) ≡ true
type_begins t rest = type_first_of (λ ts. begins_type ts ≡ true) (λ x ts. refl) (λ s ts. refl) (λ s ts. refl) (λ s ts. refl) (λ s ts. refl) t rest

-- it does not end an embedded field
pub type_goes_on : (t : TypeTree) (rest : List Terminal) → ends_embedded (spell_type t ++ rest) ≡ false
type_goes_on t rest = type_first_of (λ ts. ends_embedded ts ≡ false) (λ x ts. refl) (λ s ts. refl) (λ s ts. refl) (λ s ts. refl) (λ s ts. refl) t rest

pub bare_no_paren : (t : TypeTree) → IsBare t → (rest : List Terminal) → mark_at operator.OpenParen (spell_type t ++ rest) ≡ None
bare_no_paren (NamedType (type_name.Plain x)) bare rest = refl
bare_no_paren (NamedType (type_name.Qualified p dot x)) bare rest = refl
bare_no_paren (Pointer s t) bare rest = refl
bare_no_paren (ParenType first t last) bare rest = absurd bare
bare_no_paren (Struct k first fs last) bare rest = refl
bare_no_paren (Interface k first ms last) bare rest = refl

pub no_paren_bare : (t : TypeTree) (rest : List Terminal) → mark_at operator.OpenParen (spell_type t ++ rest) ≡ None → IsBare t
no_paren_bare (NamedType n) rest e = tt
no_paren_bare (Pointer s t) rest e = tt
no_paren_bare (ParenType first t last) rest e = cc
no_paren_bare (Struct k first fs last) rest e = tt
no_paren_bare (Interface k first ms last) rest e = tt

-- a parenthesis begins a type
pub begins_no_paren : (ts : List Terminal) → begins_type ts ≡ false → mark_at operator.OpenParen ts ≡ None
begins_no_paren ts h = by (mark_at operator.OpenParen ts) refl
  where
    by : (m : MarkAhead) → mark_at operator.OpenParen ts ≡ m → mark_at operator.OpenParen ts ≡ None
    by None at = at
    by (Some m) at = let wrong : false ≡ true = sym h ∙ ap begins_type (mark_was operator.OpenParen ts m at) in cc (wrong)

-- a type takes a terminal
pub spell_type_some : (t : TypeTree) → 0 < length (spell_type t)
spell_type_some (NamedType (type_name.Plain x)) = omega arith
spell_type_some (NamedType (type_name.Qualified p dot x)) = omega arith
spell_type_some (Pointer s t) = omega arith
spell_type_some (ParenType first t last) = omega arith
spell_type_some (Struct k first fs last) = omega arith
spell_type_some (Interface k first ms last) = omega arith

-- and is a node
pub type_height_some : (t : TypeTree) → 0 < type_height t
type_height_some (NamedType n) = omega arith
type_height_some (Pointer s t) = omega arith
type_height_some (ParenType first t last) = omega arith
type_height_some (Struct k first fs last) = omega arith
type_height_some (Interface k first ms last) = omega arith

-- Names of types.

pub type_name_complete : (n : TypeName) (rest : List Terminal) → mark_at operator.Dot rest ≡ None → type_name_at (spell_type_name n ++ rest) ≡ Ok (n, rest)
type_name_complete (type_name.Plain x) rest free = ap (type_name_from x rest) free
type_name_complete (type_name.Qualified p dot x) rest free = refl

qualified_was : (x : Ident) (dot : Span) (rest : List Terminal) (o : Option (Ident × List Terminal)) → name_at rest ≡ o → (y : TypeName × List Terminal) → qualified x dot rest o ≡ Ok y → spell_ident x ∷ (mark operator.Dot dot ∷ rest) ≡ spell_type_name y.0 ++ y.1
qualified_was x dot rest None at y e = cc
qualified_was x dot rest (Some n) at y e =
    let same : (type_name.Qualified x dot n.0, n.1) ≡ y = cc in
    ap (λ l. spell_ident x ∷ (mark operator.Dot dot ∷ l)) (name_was rest n at) ∙ ap (λ (y : TypeName × List Terminal). spell_type_name y.0 ++ y.1) same

name_from_was : (x : Ident) (rest : List Terminal) (m : MarkAhead) → mark_at operator.Dot rest ≡ m → (y : TypeName × List Terminal) → type_name_from x rest m ≡ Ok y → spell_ident x ∷ rest ≡ spell_type_name y.0 ++ y.1
name_from_was x rest None at y e =
    let same : (type_name.Plain x, rest) ≡ y = cc in ap (λ (y : TypeName × List Terminal). spell_type_name y.0 ++ y.1) same
name_from_was x rest (Some dot) at y e =
    ap (λ l. spell_ident x ∷ l) (mark_was operator.Dot rest dot at) ∙ qualified_was x dot.0 dot.1 (name_at dot.1) refl y e

-- the name of a type that is read is spelled in front
pub type_name_sound : (ts : List Terminal) (y : TypeName × List Terminal) → type_name_at ts ≡ Ok y → ts ≡ spell_type_name y.0 ++ y.1
type_name_sound ts y e =
    let w = bind_ok (need (name_at ts)) (λ x. type_name_from x.0 x.1 (mark_at operator.Dot x.1)) y e in
    name_was ts w.0 (need_ok (name_at ts) w.0 w.1) ∙ name_from_was w.0.0 w.0.1 (mark_at operator.Dot w.0.1) refl y w.2

pub type_name_some : (n : TypeName) → 0 < length (spell_type_name n)
type_name_some (type_name.Plain x) = omega arith
type_name_some (type_name.Qualified p dot x) = omega arith
