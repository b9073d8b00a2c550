-- The context of an identifier, by its spot: what its outcome depends on beside its spelling.
--
-- docs/RULES.md, "Occurrences", "Expressions: roles, order, faults of parts". The Go specification, "Selectors", "Composite literals".
use Rattle.std.specs.Prelude.{ℕ, zero, suc, true, List, [], ◌++◌, nat_eq, Option, Some, None, find}
use Rattle.std.specs.List.{filter_map}
use Rattle.std.specs.Option.{option_map}
use Rattle.go_tree_nodes.specs.declared.names.Ident.{Ident}
use Rattle.go_tree_nodes.specs.declared.usage.Usage.TheVariants as usages
use Rattle.go_tree_nodes.specs.Trees.{ItemTrees, NoItems, Item}
use Rattle.go_expr_core.specs.denote_core.declared.things.Stand.TheVariants as stands
use Rattle.go_expr_core.specs.denote_core.Selectors.{dot_of}
use Rattle.go_expr_core.specs.Looks.{Looks}
use Rattle.go_expr_core.specs.Places.{is_name}
use Rattle.go_expr_core.specs.Denoting.{ident_answer, named_type, written_type, denoted}
use Rattle.go_expr_core.specs.Elements.{key_names, all_keys, keys_of, is_mixed, key_context}
use Rattle.go_expr_core.specs.Uses.{Context, NameAt, SelectorBehind, KeyAmong, Spot, Identifier, CallAt}
use Rattle.go_cursor_core.specs.Used.{LiteralType, OfName, OfWritten, SpotTree, NameSpot, BehindSpot, BehindNameSpot, KeySpot, Used}

-- the type that a literal is of
abbrev pub type_of_literal : {T S D P : Type 0} → Looks T S D P → LiteralType → Option T
type_of_literal looks (OfName n) = named_type looks n
type_of_literal looks (OfWritten t) = written_type looks t

-- the keys of elements, but for that of the element of a number
abbrev pub other_keys : ℕ → ItemTrees → List (List ℕ)
other_keys n NoItems = []
other_keys zero (Item key e comma rest) = all_keys rest
other_keys (suc n) (Item key e comma rest) = key_names key ++ other_keys n rest

abbrev pub context_of_spot : {T S D P : Type 0} → Looks T S D P → SpotTree → Context T D
context_of_spot looks (NameSpot p) = NameAt p
context_of_spot looks (BehindSpot u p e) = SelectorBehind u (dot_of (is_name e) (denoted looks p e))
context_of_spot looks (BehindNameSpot x) = SelectorBehind usages.«Type» (dot_of true (ident_answer looks stands.TypeDot x).denoted)
context_of_spot looks (KeySpot l items n) = KeyAmong (key_context (type_of_literal looks l) (is_mixed (keys_of items)) (other_keys n items))

abbrev pub in_its_context : {T S D P : Type 0} → Looks T S D P → Used → Context T D × Ident
in_its_context looks u = (context_of_spot looks u.spot, u.ident)

-- the identifiers among what is noted, each in its context

abbrev pub identifier_of : {T D P : Type 0} → Spot T D P → Option (Context T D × Ident)
identifier_of (Identifier c x) = Some (c, x)
identifier_of (CallAt s o) = None

abbrev pub identifiers_among : {T D P : Type 0} → List (Spot T D P) → List (Context T D × Ident)
identifiers_among ss = filter_map identifier_of ss

-- the context of the first of them that begins at an offset
abbrev pub context_among : {T D P : Type 0} → ℕ → List (Spot T D P) → Option (Context T D)
context_among start ss = option_map (λ c. c.0) (find (λ c. nat_eq c.1.span.start start) (identifiers_among ss))
