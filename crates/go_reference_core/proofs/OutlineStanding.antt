-- Names stand in their declarations, and members in those of their types.
use Rattle.std.proofs.Common.{ℕ, ◌+◌, ◌≤◌, Bool, true, false, List, [], ◌∷◌, ◌++◌, arith}
use Rattle.std.specs.List.{flat_map}
use Rattle.std.specs.Prelude.{Option, Some, None}
use Rattle.go_path_core.specs.text_core.declared.span.Span.{Span}
use Rattle.go_tree_nodes.specs.token_core.declared.kind.Operator.TheVariants as operator
use Rattle.go_tree_nodes.specs.declared.names.Ident.{Ident}
use Rattle.go_tree_nodes.specs.declared.types.TypeName.{TypeName}
use Rattle.go_tree_nodes.specs.declared.types.TypeName.TheVariants as type_name
use Rattle.go_tree_nodes.specs.declared.decls.ValueKind.{ValueKind}
use Rattle.go_tree_nodes.specs.Spelling.{mark, spell_decl, spell_fields, spell_func, spell_ident, spell_idents, spell_imports, spell_lines, spell_methods, spell_receiver, spell_signature, spell_some, spell_some_type, spell_specs, spell_specs_of, spell_tag, spell_tops, spell_type, spell_type_name, spell_type_spec, spell_value_spec, spell_values}
use Rattle.go_tree_nodes.specs.Terminals.{InOrder, Terminal}
use Rattle.go_tree_nodes.specs.Trees.{Separated, One, Then, TypeTree, FieldTrees, MethodTrees, NamedType, Pointer, ParenType, Struct, Interface, NoFields, NamedFields, EmbeddedField, NoMethods, Method, ValueSpecTree, Specs, Single, Group, TypeSpecTree, FuncTree, DeclTree, Value, Types, Func, TopTree}
use Rattle.go_tree_nodes.proofs.InOrder.{in_order_ends, in_order_split}
use Rattle.go_term_core.specs.decl_core.Outer.{last_ident}
use Rattle.go_reference_core.specs.declared.outline.items.EntryKind.{EntryKind}
use Rattle.go_reference_core.specs.declared.outline.items.EntryKind.TheVariants as kinds
use Rattle.go_reference_core.specs.outline.Laws.{NamesStandWithin, StandFrom, StandsIn, high_after, low_after}
use Rattle.go_reference_core.specs.outline.Outlines.{EntryTree, decl_entries, entry, fields_entries, first_ident, func_entries, idents_entries, kind_of_type, kind_of_value, line_end, members_of, methods_entries, specs_entries, top_entries, type_spec_entries, value_spec_entries}

-- pieces that follow one another, where the second begins with no member
joined : (xs ys : List EntryTree) (l h : ℕ) → StandFrom l h xs → ((a b : ℕ) → StandFrom a b ys) → StandFrom l h (xs ++ ys)
joined [] ys l h s g = g l h
joined (x ∷ xs) ys l h s g = (s.0, s.1, joined xs ys (low_after x.is_member l x) (high_after x.is_member h x) s.2 g)

stands : (x : Ident) (kind : EntryKind) (m : Bool) (start end : ℕ) → start ≤ x.span.start → x.span.end ≤ end → StandsIn (entry x kind m start end end)
stands x kind m start end begins ends = record { begins = begins; ends = ends; head = omega arith }

-- ---- names

-- where names begin they are in order as well
from_first : (xs : Separated Ident) (low high : ℕ) → InOrder low (spell_idents xs) high → (low ≤ (first_ident xs).span.start) × InOrder (first_ident xs).span.start (spell_idents xs) high
from_first (One x) low high k = (k.0, (omega arith, k.1, k.2))
from_first (Then x comma xs) low high k = (k.0, (omega arith, k.1, k.2))

-- the names of one declaration that is no member
names_stand : (kind : EntryKind) (start end : ℕ) (xs : Separated Ident) (low high : ℕ) → InOrder low (spell_idents xs) high → start ≤ low → high ≤ end → (l h : ℕ) → StandFrom l h (idents_entries kind false start end xs)
names_stand kind start end (One x) low high k a b l h = (stands x kind false start end (omega (arith, k.0, a)) (omega (arith, k.2, b)), tt, tt)
names_stand kind start end (Then x comma xs) low high k a b l h =
    let rest = k.2.2 in
    let ends = in_order_ends (spell_idents xs) comma.end high rest in
    let to_comma = k.2.0 in
    let over_comma = k.2.1 in
    (stands x kind false start end (omega (arith, k.0, a)) (omega (arith, to_comma, over_comma, ends, b)), tt, names_stand kind start end xs comma.end high rest (omega (arith, k.0, k.1, to_comma, over_comma, a)) b start end)

-- those of one line of a type, before other members
names_within : (kind : EntryKind) (start end : ℕ) (xs : Separated Ident) (low high : ℕ) → InOrder low (spell_idents xs) high → start ≤ low → high ≤ end → (l h : ℕ) → l ≤ start → end ≤ h → (tail : List EntryTree) → StandFrom l h tail → StandFrom l h (idents_entries kind true start end xs ++ tail)
names_within kind start end (One x) low high k a b l h c d tail t = (stands x kind true start end (omega (arith, k.0, a)) (omega (arith, k.2, b)), (c, d), t)
names_within kind start end (Then x comma xs) low high k a b l h c d tail t =
    let rest = k.2.2 in
    let ends = in_order_ends (spell_idents xs) comma.end high rest in
    let to_comma = k.2.0 in
    let over_comma = k.2.1 in
    (stands x kind true start end (omega (arith, k.0, a)) (omega (arith, to_comma, over_comma, ends, b)), (c, d), names_within kind start end xs comma.end high rest (omega (arith, k.0, k.1, to_comma, over_comma, a)) b l h c d tail t)

-- ---- the ends of lines

record Ends (low close at : ℕ) (more : List Terminal) (high : ℕ) : Type 0 where
  reached : low ≤ at
  within : at ≤ close
  next : (m : ℕ) × (low ≤ m) × InOrder m more high

line_ends : (s : Option Span) (more : List Terminal) (low high close : ℕ) → InOrder low (spell_some operator.Semicolon s ++ more) high → high ≤ close → Ends low close (line_end s close) more high
line_ends None more low high close k le = (let ends = in_order_ends more low high k in record { reached = omega (arith, ends, le); within = omega arith; next = (low, omega arith, k) })
line_ends (Some s) more low high close k le =
    let rest = k.2 in
    let ends = in_order_ends more s.end high rest in
    let width = k.1 in
    record { reached = k.0; within = omega (arith, width, ends, le); next = (s.end, omega (arith, k.0, width), rest) }

-- ---- members

name_within : (n : TypeName) (low high : ℕ) → InOrder low (spell_type_name n) high → (low ≤ (last_ident n).span.start) × ((last_ident n).span.end ≤ high)
name_within (type_name.Plain x) low high k = (k.0, k.2)
name_within (type_name.Qualified p dot x) low high k =
    let p0 = k.0 in
    let p1 = k.1 in
    let d0 = k.2.0 in
    let d1 = k.2.1 in
    let x0 = k.2.2.0 in
    (omega (arith, p0, p1, d0, d1, x0), k.2.2.2)

fields_within : (close : ℕ) (ls : FieldTrees) (low high : ℕ) → InOrder low (spell_fields ls) high → high ≤ close → (l h : ℕ) → l ≤ low → close ≤ h → StandFrom l h (fields_entries close ls)
fields_within close NoFields low high k b l h c d = tt
fields_within close (NamedFields xs t tag s rest) low high k b l h c d =
    let names = in_order_split (spell_idents xs) (spell_type t ++ (spell_tag tag ++ (spell_some operator.Semicolon s ++ spell_fields rest))) low high k in
    let typed = in_order_split (spell_type t) (spell_tag tag ++ (spell_some operator.Semicolon s ++ spell_fields rest)) names.0 high names.1.1 in
    let tagged = in_order_split (spell_tag tag) (spell_some operator.Semicolon s ++ spell_fields rest) typed.0 high typed.1.1 in
    let ends : Ends tagged.0 close (line_end s close) (spell_fields rest) high = line_ends s (spell_fields rest) tagged.0 high close tagged.1.1 b in
    let over_type = in_order_ends (spell_type t) names.0 typed.0 typed.1.0 in
    let over_tag = in_order_ends (spell_tag tag) typed.0 tagged.0 tagged.1.0 in
    let over_names = in_order_ends (spell_idents xs) low names.0 names.1.0 in
    let first = from_first xs low names.0 names.1.0 in
    let begins = first.0 in
    let reached = ends.reached in
    let next = ends.next.1 in
    let tail = fields_within close rest ends.next.0 high ends.next.2 b l h (omega (arith, c, over_names, over_type, over_tag, next)) d in
    names_within kinds.Field (first_ident xs).span.start (line_end s close) xs (first_ident xs).span.start names.0 first.1 (omega arith) (omega (arith, over_type, over_tag, reached)) l h (omega (arith, c, begins)) (omega (arith, ends.within, d)) (fields_entries close rest) tail
fields_within close (EmbeddedField star n tag s rest) low high k b l h c d =
    let starred = in_order_split (spell_some operator.Star star) (spell_type_name n ++ (spell_tag tag ++ (spell_some operator.Semicolon s ++ spell_fields rest))) low high k in
    let named = in_order_split (spell_type_name n) (spell_tag tag ++ (spell_some operator.Semicolon s ++ spell_fields rest)) starred.0 high starred.1.1 in
    let tagged = in_order_split (spell_tag tag) (spell_some operator.Semicolon s ++ spell_fields rest) named.0 high named.1.1 in
    let ends : Ends tagged.0 close (line_end s close) (spell_fields rest) high = line_ends s (spell_fields rest) tagged.0 high close tagged.1.1 b in
    let over_star = in_order_ends (spell_some operator.Star star) low starred.0 starred.1.0 in
    let over_name = in_order_ends (spell_type_name n) starred.0 named.0 named.1.0 in
    let over_tag = in_order_ends (spell_tag tag) named.0 tagged.0 tagged.1.0 in
    let at = name_within n starred.0 named.0 named.1.0 in
    let at_start = at.0 in
    let at_end = at.1 in
    let reached = ends.reached in
    let next = ends.next.1 in
    let tail = fields_within close rest ends.next.0 high ends.next.2 b l h (omega (arith, c, over_star, over_name, over_tag, next)) d in
    (stands (last_ident n) kinds.Field true (last_ident n).span.start (line_end s close) (omega arith) (omega (arith, at_end, over_tag, reached)), (omega (arith, c, over_star, at_start), omega (arith, ends.within, d)), tail)

methods_within : (close : ℕ) (ms : MethodTrees) (low high : ℕ) → InOrder low (spell_methods ms) high → high ≤ close → (l h : ℕ) → l ≤ low → close ≤ h → StandFrom l h (methods_entries close ms)
methods_within close NoMethods low high k b l h c d = tt
methods_within close (Method x signature s rest) low high k b l h c d =
    let signed = in_order_split (spell_signature signature) (spell_some operator.Semicolon s ++ spell_methods rest) x.span.end high k.2 in
    let ends : Ends signed.0 close (line_end s close) (spell_methods rest) high = line_ends s (spell_methods rest) signed.0 high close signed.1.1 b in
    let over = in_order_ends (spell_signature signature) x.span.end signed.0 signed.1.0 in
    let at = k.0 in
    let wide = k.1 in
    let reached = ends.reached in
    let next = ends.next.1 in
    let tail = methods_within close rest ends.next.0 high ends.next.2 b l h (omega (arith, c, at, wide, over, next)) d in
    (stands x kinds.Method true x.span.start (line_end s close) (omega arith) (omega (arith, over, reached)), (omega (arith, c, at), omega (arith, ends.within, d)), tail)

members_within : (t : TypeTree) (low high : ℕ) → InOrder low (spell_type t) high → (l h : ℕ) → l ≤ low → high ≤ h → StandFrom l h (members_of t)
members_within (NamedType n) low high k l h c d = tt
members_within (Pointer star t) low high k l h c d = tt
members_within (ParenType first t last) low high k l h c d = tt
members_within (Struct key first ls last) low high k l h c d =
    let inner = in_order_split (spell_fields ls) (mark operator.CloseBrace last ∷ []) first.end high k.2.2 in
    let k0 = k.0 in
    let k1 = k.1 in
    let f0 = k.2.0 in
    let f1 = k.2.1 in
    let close = inner.1.1.0 in
    let close_wide = inner.1.1.1 in
    let over = inner.1.1.2 in
    fields_within last.start ls first.end inner.0 inner.1.0 close l h (omega (arith, c, k0, k1, f0, f1)) (omega (arith, close_wide, over, d))
members_within (Interface key first ms last) low high k l h c d =
    let inner = in_order_split (spell_methods ms) (mark operator.CloseBrace last ∷ []) first.end high k.2.2 in
    let k0 = k.0 in
    let k1 = k.1 in
    let f0 = k.2.0 in
    let f1 = k.2.1 in
    let close = inner.1.1.0 in
    let close_wide = inner.1.1.1 in
    let over = inner.1.1.2 in
    methods_within last.start ms first.end inner.0 inner.1.0 close l h (omega (arith, c, k0, k1, f0, f1)) (omega (arith, close_wide, over, d))

-- ---- specifications

value_stands : (kind : ValueKind) (v : ValueSpecTree) (start end low high : ℕ) → InOrder low (spell_value_spec v) high → start ≤ low → high ≤ end → (l h : ℕ) → StandFrom l h (value_spec_entries kind start end v)
value_stands kind v start end low high k a b l h =
    let more = spell_some_type v.type_expr ++ spell_values v.values in
    let names = in_order_split (spell_idents v.names) more low high k in
    let over = in_order_ends more names.0 high names.1.1 in
    names_stand (kind_of_value kind) start end v.names low names.0 names.1.0 a (omega (arith, over, b)) l h

idents_begin : (xs : Separated Ident) (more : List Terminal) (low high : ℕ) → InOrder low (spell_idents xs ++ more) high → InOrder (first_ident xs).span.start (spell_idents xs ++ more) high
idents_begin (One x) more low high k = (omega arith, k.1, k.2)
idents_begin (Then x comma xs) more low high k = (omega arith, k.1, k.2)

value_begins : (v : ValueSpecTree) (low high : ℕ) → InOrder low (spell_value_spec v) high → InOrder (first_ident v.names).span.start (spell_value_spec v) high
value_begins v low high k = idents_begin v.names (spell_some_type v.type_expr ++ spell_values v.values) low high k

type_stands : (t : TypeSpecTree) (start end low high : ℕ) → InOrder low (spell_type_spec t) high → start ≤ low → high ≤ end → (l h : ℕ) → StandFrom l h (type_spec_entries start end t)
type_stands t start end low high k a b l h =
    let aliased = in_order_split (spell_some operator.Assign t.alias) (spell_type t.type_expr) t.name.span.end high k.2 in
    let over_alias = in_order_ends (spell_some operator.Assign t.alias) t.name.span.end aliased.0 aliased.1.0 in
    let over_type = in_order_ends (spell_type t.type_expr) aliased.0 high aliased.1.1 in
    let at = k.0 in
    let wide = k.1 in
    (stands t.name (kind_of_type t.type_expr) false start end (omega (arith, a, at)) (omega (arith, over_alias, over_type, b)), tt, members_within t.type_expr aliased.0 high aliased.1.1 start end (omega (arith, a, at, wide, over_alias)) b)

type_begins : (t : TypeSpecTree) (low high : ℕ) → InOrder low (spell_type_spec t) high → InOrder t.name.span.start (spell_type_spec t) high
type_begins t low high k = (omega arith, k.1, k.2)

module _ {A : Type 0} (spelled : A → List Terminal) (f : ℕ → ℕ → A → List EntryTree) (first : A → ℕ) (each : (x : A) (start end low high : ℕ) → InOrder low (spelled x) high → start ≤ low → high ≤ end → (l h : ℕ) → StandFrom l h (f start end x)) (begins : (x : A) (low high : ℕ) → InOrder low (spelled x) high → InOrder (first x) (spelled x) high) where
  group_stands : (close : ℕ) (ls : List (A × Option Span)) (low high : ℕ) → InOrder low (spell_specs_of spelled ls) high → high ≤ close → (l h : ℕ) → StandFrom l h (flat_map (λ p. f (first p.0) (line_end p.1 close) p.0) ls)
  group_stands close [] low high k b l h = tt
  group_stands close (p ∷ ps) low high k b l h =
      let line = in_order_split (spelled p.0) (spell_some operator.Semicolon p.1 ++ spell_specs_of spelled ps) low high k in
      let ends : Ends line.0 close (line_end p.1 close) (spell_specs_of spelled ps) high = line_ends p.1 (spell_specs_of spelled ps) line.0 high close line.1.1 b in
      joined (f (first p.0) (line_end p.1 close) p.0) (flat_map (λ q. f (first q.0) (line_end q.1 close) q.0) ps) l h
      (each p.0 (first p.0) (line_end p.1 close) (first p.0) line.0 (begins p.0 low line.0 line.1.0) (omega arith) ends.reached l h)
      (λ a c. group_stands close ps ends.next.0 high ends.next.2 b a c)

  specs_stand : (start end : ℕ) (s : Specs A) (low high : ℕ) → InOrder low (spell_specs spelled s) high → start ≤ low → high ≤ end → (l h : ℕ) → StandFrom l h (specs_entries f first start end s)
  specs_stand start end (Single x) low high k a b l h = each x start end low high k a b l h
  specs_stand start end (Group opened ls close) low high k a b l h =
      let inner = in_order_split (spell_specs_of spelled ls) (mark operator.CloseParen close ∷ []) opened.end high k.2 in
      group_stands close.start ls opened.end inner.0 inner.1.0 inner.1.1.0 l h

-- ---- declarations

func_stands : (f : FuncTree) (end low high : ℕ) → InOrder low (spell_func f) high → high ≤ end → (l h : ℕ) → StandFrom l h (func_entries end f)
func_stands f end low high k b l h =
    let body = mark operator.OpenBrace f.open_brace ∷ (spell_lines f.body ++ mark operator.CloseBrace f.close_brace ∷ []) in
    let receiver = in_order_split (spell_receiver f.receiver) (spell_ident f.name ∷ (spell_signature f.signature ++ body)) f.func.end high k.2 in
    let name = receiver.1.1 in
    let signed = in_order_split (spell_signature f.signature) body f.name.span.end high name.2 in
    let opened = signed.1.1 in
    let func_wide = k.1 in
    let over_receiver = in_order_ends (spell_receiver f.receiver) f.func.end receiver.0 receiver.1.0 in
    let name_at = name.0 in
    let over_signature = in_order_ends (spell_signature f.signature) f.name.span.end signed.0 signed.1.0 in
    let open_at = opened.0 in
    let open_wide = opened.1 in
    let over_body = in_order_ends (spell_lines f.body ++ mark operator.CloseBrace f.close_brace ∷ []) f.open_brace.end high opened.2 in
    (record { begins = omega (arith, func_wide, over_receiver, name_at); ends = omega (arith, over_signature, open_at); head = omega (arith, open_wide, over_body, b) }, tt, tt)

decl_stands : (d : DeclTree) (end low high : ℕ) → InOrder low (spell_decl d) high → high ≤ end → (l h : ℕ) → StandFrom l h (decl_entries end d)
decl_stands (Value v) end low high k b l h =
    let wide = k.1 in
    specs_stand spell_value_spec (value_spec_entries v.kind) (λ s. (first_ident s.names).span.start) (value_stands v.kind) value_begins v.keyword.start end v.specs v.keyword.end high k.2 (omega (arith, wide)) b l h
decl_stands (Types t) end low high k b l h =
    let wide = k.1 in
    specs_stand spell_type_spec type_spec_entries (λ s. s.name.span.start) type_stands type_begins t.keyword.start end t.specs t.keyword.end high k.2 (omega (arith, wide)) b l h
decl_stands (Func f) end low high k b l h = func_stands f end low high k b l h

tops_stand : (ts : List TopTree) (low high : ℕ) → InOrder low (spell_tops ts) high → (l h : ℕ) → StandFrom l h (flat_map top_entries ts)
tops_stand [] low high k l h = tt
tops_stand (t ∷ ts) low high k l h =
    let decl = in_order_split (spell_decl t.decl) (mark operator.Semicolon t.semicolon ∷ spell_tops ts) low high k in
    let after = decl.1.1 in
    joined (top_entries t) (flat_map top_entries ts) l h (decl_stands t.decl t.semicolon.start low decl.0 decl.1.0 after.0 l h) (λ a c. tops_stand ts t.semicolon.end high after.2 a c)

pub names_stand_within : NamesStandWithin
names_stand_within f placed =
    let clause = placed.1.2.2.2 in
    let after = in_order_split (spell_imports f.imports) (spell_tops f.decls) f.semicolon.end placed.0 clause in
    tops_stand f.decls after.0 placed.0 after.1.1 0 0
