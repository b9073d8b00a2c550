-- Reading finds the expressions that are spelled.
use Rattle.std.proofs.Common.{◌≡◌, ℕ, zero, suc, ◌+◌, ◌<◌, Bool, true, false, List, [], ◌∷◌, ◌++◌, length, Option, Some, None, Ok, Err, refl, sym, ap, ◌∙◌, subst, arith, cond, inl, inr, append_assoc, length-append}
use Rattle.std.proofs.lemmas.Bool.{lt-ltb, le-ltb, cases_lt}
use Rattle.std.specs.Prelude.{nat_lt}
use Rattle.go_tree_nodes.specs.text_core.declared.span.Span.{Span}
use Rattle.go_tree_nodes.specs.token_core.declared.kind.Keyword.TheVariants as keyword
use Rattle.go_tree_nodes.specs.token_core.declared.kind.Operator.{Operator}
use Rattle.go_tree_nodes.specs.token_core.declared.kind.Operator.TheVariants as operator
use Rattle.go_tree_nodes.specs.declared.names.Ident.{Ident}
use Rattle.go_tree_nodes.specs.declared.types.TypeName.{TypeName}
use Rattle.go_tree_nodes.specs.declared.types.TypeName.TheVariants as type_name
use Rattle.go_tree_nodes.specs.declared.exprs.Key.{Key}
use Rattle.go_tree_nodes.specs.Terminals.{Terminal}
use Rattle.go_tree_nodes.specs.Trees.{TypeTree, FieldTrees, NamedType, Pointer, ParenType, Struct, Interface, ExprTree, ItemTrees, Integer, Text, Named, Paren, Unary, Binary, Select, Call, Literal, StructLiteral, NoItems, Item}
use Rattle.go_tree_nodes.specs.Spelling.{mark, word, spell_ident, spell_type, spell_fields, spell_key, spell, spell_items}
use Rattle.go_tree_nodes.specs.Rules.{rank_of, unary_rank, is_unary, MayHaveKey, Binds, Wf, Wf_items}
use Rattle.go_tree_nodes.specs.Heights.{type_height, height, items_height, group_height}
use Rattle.go_parse_reader.specs.types.mirrors.Marks.{TooHigh, ◌>>=◌, mark_at}
use Rattle.go_parse_reader.specs.types.mirrors.TypeReading.{type_at}
use Rattle.go_parse_reader.specs.exprs.mirrors.ExprReading.{Inner, ItemTree, item_by, item_ahead, as_items, items_at, close_by, literal_by, named_by, struct_literal_by, struct_body, struct_type, by_unary, operand_by_paren, operand_at, Operate, Pick, Apply, call_by, expr_at}
use Rattle.go_parse_reader.proofs.TypesMarks.{mark_not, mark_that_here, AgreesAt, bind_agrees, agrees_along}
use Rattle.go_parse_reader.proofs.TypesLists.{spell_list, FoundItem, list_complete}
use Rattle.go_parse_reader.proofs.TypesTypes.{type_complete}
use Rattle.go_parse_reader.proofs.ExprsBehind.{binds_fewer, binds_one, primary_binds, not_unary, Stops, Behind, stops_behind, operator_behind, dot_behind, open_behind}
use Rattle.go_parse_reader.proofs.ExprsChains.{next_operator, next_dot, next_open, chain_stops, LeadsAt, leads_step, leads_operand}
use Rattle.go_parse_reader.proofs.ExprsFronts.{expr_no_mark, expr_no_key, spell_some, height_some}
use Rattle.go_parse_reader.proofs.ExprsItems.{list_of, spell_item, item_height, list_as_items, list_spelled_items, list_items_height, Wf_item, Each, items_wf_list, Closes, paren_closes, brace_closes}

-- what is spelled is read as the left side of what comes behind it
abbrev pub Leads : ExprTree → Type 0
Leads t = (b : ℕ) (header : Bool) (least : ℕ) (rest : List Terminal) → 0 < least → Wf header t → Binds least t → Behind header t rest → LeadsAt b header least t rest (expr_at (suc b) header least (spell t ++ rest))

-- what is spelled is read
abbrev pub Found : ExprTree → Type 0
Found t = (b : ℕ) (header : Bool) (least : ℕ) (rest : List Terminal) → 0 < least → Wf header t → Binds least t → Stops header least rest → AgreesAt (expr_at b header least (spell t ++ rest)) (Ok (t, rest)) b (height t)

found_from : (t : ExprTree) → Leads t → Found t
unfolding expr_at
found_from t leads zero header least rest some wf ranked stops = inr (refl, height_some t)
found_from t leads (suc b) header least rest some wf ranked stops =
    let lead = leads b header least rest some wf ranked (stops_behind header least t rest ranked stops) in
    elim lead.agrees [
      | inl e ↦ inl (e ∙ chain_stops (expr_at b) header (suc b) least lead.turns t rest stops.0)
      | inr g ↦ inr g
    ]

-- at the least rank
found_one : (t : ExprTree) → Found t → (b : ℕ) (header : Bool) (rest : List Terminal) → Wf header t → Stops header 1 rest → AgreesAt (expr_at b header 1 (spell t ++ rest)) (Ok (t, rest)) b (height t)
found_one t found b header rest wf stops = found b header 1 rest (omega arith) wf (binds_one header t wf) stops

-- an item with or without a key
item_found : (t : ExprTree) → Found t → (key : Option Key) (keyed : Bool) (b : ℕ) (rest : List Terminal) → MayHaveKey keyed key → Wf false t → Stops false 1 rest → mark_at operator.Colon rest ≡ None → AgreesAt (item_ahead (expr_at b) keyed (spell_item (key, t) ++ rest)) (Ok ((key, t), rest)) b (height t)
item_found t found None false b rest may wf stops free =
    bind_agrees (expr_at b false 1 (spell t ++ rest)) (t, rest) (λ x. Ok ((None, x.0), x.1)) (Ok ((None, t), rest)) b (height t) b (height t) (found_one t found b false rest wf stops) (inl refl) (λ h. h)
item_found t found None true b rest may wf stops free =
    agrees_along _ _ _ b (height t) (ap (item_by (expr_at b) (spell t ++ rest)) (expr_no_key false t rest wf free))
    (bind_agrees (expr_at b false 1 (spell t ++ rest)) (t, rest) (λ x. Ok ((None, x.0), x.1)) (Ok ((None, t), rest)) b (height t) b (height t) (found_one t found b false rest wf stops) (inl refl) (λ h. h))
item_found t found (Some k) false b rest may wf stops free = absurd may
item_found t found (Some k) true b rest may wf stops free =
    bind_agrees (expr_at b false 1 (spell t ++ rest)) (t, rest) (λ x. Ok ((Some k, x.0), x.1)) (Ok ((Some k, t), rest)) b (height t) b (height t) (found_one t found b false rest wf stops) (inl refl) (λ h. h)

item_opens : (close : Operator) → Closes close → (key : Option Key) (t : ExprTree) (ts : List Terminal) → Wf false t → mark_at close (spell_item (key, t) ++ ts) ≡ None
item_opens close closes None t ts wf = expr_no_mark close closes.paren closes.unary false t ts wf
item_opens close closes (Some k) t ts wf = refl

each_found : (close : Operator) → Closes close → (keyed : Bool) (b : ℕ) (x : ItemTree) → Wf_item keyed x × Found x.1 → FoundItem ItemTree (item_ahead (expr_at b) keyed) spell_item operator.Comma close b (item_height x) x
each_found close closes keyed b x h =
    record {
      before_mark = λ s ts. item_found x.1 h.1 x.0 keyed b (mark operator.Comma s ∷ ts) h.0.0 h.0.1 (refl, refl) refl;
      before_end = λ s ts. item_found x.1 h.1 x.0 keyed b (mark close s ∷ ts) h.0.0 h.0.1 (closes.stops s ts) (mark_not operator.Colon close s ts closes.colon);
      opens = λ ts. item_opens close closes x.0 x.1 ts h.0.1;
    }

-- an item takes a terminal
pub item_some : (x : ItemTree) → 0 < length (spell_item x)
item_some x = omega (arith, spell_some x.1, length-append (spell_key x.0) (spell x.1))

-- all items up to the mark that closes them
items_from : (is : ItemTrees) → Each Found is → (b : ℕ) (keyed : Bool) (close : Operator) → Closes close → (z : Span) (rest : List Terminal) → Wf_items keyed is → AgreesAt (items_at (expr_at b) keyed close (spell_items is ++ (mark close z ∷ rest))) (Ok (is, mark close z ∷ rest)) b (items_height is)
items_from is each b keyed close closes z rest wf =
    let end = mark close z ∷ rest in
    let xs = list_of is in
    let same = list_as_items is in
    let spelled : spell_items is ≡ spell_list spell_item operator.Comma xs = sym (list_spelled_items xs ∙ ap spell_items same) in
    let high : group_height item_height xs ≡ items_height is = list_items_height xs ∙ ap items_height same in
    let list = list_complete ItemTree (item_ahead (expr_at b) keyed) spell_item operator.Comma close b item_height (λ x. Wf_item keyed x × Found x.1) closes.comma (each_found close closes keyed b) item_some xs z rest (items_wf_list Found keyed is wf each) in
    agrees_along _ _ _ b (items_height is) (ap (λ l. items_at (expr_at b) keyed close (l ++ end)) spelled)
    (bind_agrees _ (xs, end) (λ x. Ok (as_items x.0, x.1)) (Ok (is, end)) b (group_height item_height xs) b (items_height is) list (inl (ap (λ i. Ok (i, end)) same)) (λ h. omega (arith, high)))

-- the same with the mark as a part of what is spelled
items_closed : (is : ItemTrees) → Each Found is → (b : ℕ) (keyed : Bool) (close : Operator) → Closes close → (z : Span) (rest : List Terminal) → Wf_items keyed is → AgreesAt (items_at (expr_at b) keyed close ((spell_items is ++ mark close z ∷ []) ++ rest)) (Ok (is, mark close z ∷ rest)) b (items_height is)
items_closed is each b keyed close closes z rest wf =
    agrees_along _ _ _ b (items_height is) (ap (items_at (expr_at b) keyed close) (append_assoc (spell_items is) (mark close z ∷ []) rest))
    (items_from is each b keyed close closes z rest wf)

-- each form of an expression
integer_leads : (n : ℕ) (s : Span) → Leads (Integer n s)
integer_leads n s b header least rest some wf ranked behind = leads_operand b header least (Integer n s) _ rest (inl refl)

named_leads : (x : Ident) → Leads (Named x)
named_leads x b header least rest some wf ranked behind =
    leads_operand b header least (Named x) _ rest (inl (ap (named_by (expr_at b) b x rest) behind))

paren_leads : (first last : Span) (t : ExprTree) → Found t → Leads (Paren first t last)
paren_leads first last t found b header least rest some wf ranked behind =
    let end = mark operator.CloseParen last in
    leads_operand b header least (Paren first t last) _ rest
    (agrees_along _ _ _ (suc b) (height t + 1) (ap (λ ts. expr_at b false 1 ts >>= λ x. close_by first x.0 (mark_at operator.CloseParen x.1)) (append_assoc (spell t) (end ∷ []) rest))
    (bind_agrees (expr_at b false 1 (spell t ++ (end ∷ rest))) (t, end ∷ rest) (λ x. close_by first x.0 (mark_at operator.CloseParen x.1)) (Ok (Paren first t last, rest)) b (height t) (suc b) (height t + 1) (found_one t found b false (end ∷ rest) wf (refl, refl)) (inl refl) (λ h. omega arith)))

unary_read : (inner : Inner) (b : ℕ) (header : Bool) (op : Operator) (s : Span) (ts : List Terminal) → is_unary op ≡ true → operand_at inner b header (mark op s ∷ ts) ≡ (inner header unary_rank ts >>= λ x. Ok (Unary op s x.0, x.1))
unary_read inner b header op s ts is =
    ap (operand_by_paren inner header (mark op s ∷ ts)) (mark_not operator.OpenParen op s ts (not_unary op operator.OpenParen is refl))
    ∙ ap (by_unary inner header) (mark_that_here is_unary op s ts is)

unary_leads : (op : Operator) (s : Span) (t : ExprTree) → Found t → Leads (Unary op s t)
unary_leads op s t found b header least rest some wf ranked behind =
    leads_operand b header least (Unary op s t) _ rest
    (agrees_along _ _ _ (suc b) (height t + 1) (unary_read (expr_at b) b header op s (spell t ++ rest) wf.0)
    (bind_agrees (expr_at b header unary_rank (spell t ++ rest)) (t, rest) (λ x. Ok (Unary op s x.0, x.1)) (Ok (Unary op s t, rest)) b (height t) (suc b) (height t + 1) (found b header unary_rank rest (omega arith) wf.1 wf.2 behind) (inl refl) (λ h. omega arith)))

binary_leads : (a : ExprTree) (op : Operator) (s : Span) (r : ExprTree) → Leads a → Found r → Leads (Binary a op s r)
binary_leads a op s r leads found b header least rest some wf ranked behind =
    let ts = mark op s ∷ (spell r ++ rest) in
    let lead = subst (λ l. LeadsAt b header least a ts (expr_at (suc b) header least l)) (sym (append_assoc (spell a) (mark op s ∷ spell r) rest)) (leads b header least ts some wf.1 (binds_fewer least (rank_of op) a ranked wf.2) (operator_behind header op s (spell r ++ rest) a wf.0 wf.2)) in
    leads_step b header least a (Binary a op s r) ts rest (Operate op s (spell r ++ rest)) _ lead (next_operator least op s (spell r ++ rest) ranked)
    (bind_agrees (expr_at b header (rank_of op + 1) (spell r ++ rest)) (r, rest) (λ x. Ok (Binary a op s x.0, x.1)) (Ok (Binary a op s r, rest)) b (height r) (suc b) (height (Binary a op s r)) (found b header (rank_of op + 1) rest (omega arith) wf.3 wf.4 behind) (inl refl) (λ h. omega arith))
    (omega arith)

select_leads : (t : ExprTree) (dot : Span) (x : Ident) → Leads t → Leads (Select t dot x)
select_leads t dot x leads b header least rest some wf ranked behind =
    let ts = mark operator.Dot dot ∷ (spell_ident x ∷ rest) in
    let lead = subst (λ l. LeadsAt b header least t ts (expr_at (suc b) header least l)) (sym (append_assoc (spell t) (mark operator.Dot dot ∷ (spell_ident x ∷ [])) rest)) (leads b header least ts some wf.0 (primary_binds least t wf.1) (dot_behind header dot x rest t wf.1 behind)) in
    leads_step b header least t (Select t dot x) ts rest (Pick dot (spell_ident x ∷ rest)) _ lead (next_dot least dot (spell_ident x ∷ rest) some) (inl refl) (omega arith)

call_leads : (t : ExprTree) (first : Span) (is : ItemTrees) (last : Span) → Leads t → Each Found is → Leads (Call t first is last)
call_leads t first is last leads each b header least rest some wf ranked behind =
    let tail = spell_items is ++ mark operator.CloseParen last ∷ [] in
    let ts = mark operator.OpenParen first ∷ (tail ++ rest) in
    let new = Call t first is last in
    let lead = subst (λ l. LeadsAt b header least t ts (expr_at (suc b) header least l)) (sym (append_assoc (spell t) (mark operator.OpenParen first ∷ tail) rest)) (leads b header least ts some wf.0 (primary_binds least t wf.1) (open_behind header first (tail ++ rest) t wf.1)) in
    leads_step b header least t new ts rest (Apply first (tail ++ rest)) _ lead (next_open least first (tail ++ rest) some)
    (bind_agrees (items_at (expr_at b) false operator.CloseParen (tail ++ rest)) (is, mark operator.CloseParen last ∷ rest) (λ x. call_by t first x.0 (mark_at operator.CloseParen x.1)) (Ok (new, rest)) b (items_height is) (suc b) (height new) (items_closed is each b false operator.CloseParen paren_closes last rest wf.2) (inl refl) (λ h. omega arith))
    (omega arith)

literal_leads : (n : TypeName) (first : Span) (is : ItemTrees) (last : Span) → Each Found is → Leads (Literal n first is last)
literal_leads n first is last each b true least rest some wf ranked behind = absurd wf.0
literal_leads n first is last each b false least rest some wf ranked behind =
    let tail = spell_items is ++ mark operator.CloseBrace last ∷ [] in
    let new = Literal n first is last in
    let go = items_at (expr_at b) true operator.CloseBrace (tail ++ rest) >>= λ y. literal_by n first y.0 (mark_at operator.CloseBrace y.1) in
    leads_operand b false least new _ rest
    (agrees_along _ _ _ (suc b) (height new) (begins n)
    (elim (cases_lt 0 b) [
      | inl some ↦
          agrees_along _ _ _ (suc b) (height new) (ap (λ c. cond c go (Err TooHigh)) (lt-ltb 0 b some))
          (bind_agrees (items_at (expr_at b) true operator.CloseBrace (tail ++ rest)) (is, mark operator.CloseBrace last ∷ rest) (λ x. literal_by n first x.0 (mark_at operator.CloseBrace x.1)) (Ok (new, rest)) b (items_height is) (suc b) (height new) (items_closed is each b true operator.CloseBrace brace_closes last rest wf.1) (inl refl) (λ h. omega arith))
      | inr none ↦ inr (ap (λ c. cond c go (Err TooHigh)) (le-ltb 0 b none), omega arith)
    ]))
  where
    begins : (n : TypeName) → operand_at (expr_at b) b false (spell (Literal n first is last) ++ rest) ≡ (cond (nat_lt 0 b) (items_at (expr_at b) true operator.CloseBrace ((spell_items is ++ mark operator.CloseBrace last ∷ []) ++ rest) >>= λ y. literal_by n first y.0 (mark_at operator.CloseBrace y.1)) (Err TooHigh))
    begins (type_name.Plain x) = refl
    begins (type_name.Qualified p dot x) = refl

-- the type of a literal is read as a type of the same height
pub struct_type_is : (b : ℕ) (k : Span) (ts : List Terminal) → struct_type b k ts ≡ type_at b (word keyword.Struct k ∷ ts)
unfolding type_at
struct_type_is zero k ts = refl
struct_type_is (suc b) k ts = refl

struct_leads : (k a : Span) (fs : FieldTrees) (z first : Span) (is : ItemTrees) (last : Span) → Each Found is → Leads (StructLiteral (Struct k a fs z) first is last)
struct_leads k a fs z first is last each b header least rest some wf ranked behind =
    let t = Struct k a fs z in
    let new = StructLiteral t first is last in
    let tail = spell_items is ++ mark operator.CloseBrace last ∷ [] in
    let ts = mark operator.OpenBrace first ∷ (tail ++ rest) in
    let inner = expr_at b in
    let go = λ (t : TypeTree × List Terminal). struct_body inner t.0 (mark_at operator.OpenBrace t.1) in
    let fields = mark operator.OpenBrace a ∷ (spell_fields fs ++ mark operator.CloseBrace z ∷ []) in
    let at : operand_at inner b header (spell new ++ rest) ≡ (type_at b (spell_type t ++ ts) >>= go) =
    ap (λ r. r >>= go) (struct_type_is b k ((fields ++ (mark operator.OpenBrace first ∷ tail)) ++ rest) ∙ ap (λ l. type_at b (word keyword.Struct k ∷ l)) (append_assoc fields (mark operator.OpenBrace first ∷ tail) rest)) in
    let body = bind_agrees (items_at inner true operator.CloseBrace (tail ++ rest)) (is, mark operator.CloseBrace last ∷ rest) (λ x. struct_literal_by t first x.0 (mark_at operator.CloseBrace x.1)) (Ok (new, rest)) b (items_height is) (suc b) (height new) (items_closed is each b true operator.CloseBrace brace_closes last rest wf.2) (inl refl) (λ h. omega arith) in
    leads_operand b header least new _ rest
    (agrees_along _ _ _ (suc b) (height new) at
    (bind_agrees (type_at b (spell_type t ++ ts)) (t, ts) go (Ok (new, rest)) b (type_height t) (suc b) (height new) (type_complete t b ts wf.1 refl) body (λ h. omega arith)))

struct_literal_leads : (t : TypeTree) (first : Span) (is : ItemTrees) (last : Span) → Each Found is → Leads (StructLiteral t first is last)
struct_literal_leads (Struct k a fs z) first is last each b header least rest some wf ranked behind = struct_leads k a fs z first is last each b header least rest some wf ranked behind
struct_literal_leads (NamedType n) first is last each b header least rest some wf ranked behind = absurd wf.0
struct_literal_leads (Pointer star t) first is last each b header least rest some wf ranked behind = absurd wf.0
struct_literal_leads (ParenType a t z) first is last each b header least rest some wf ranked behind = absurd wf.0
struct_literal_leads (Interface k a ms z) first is last each b header least rest some wf ranked behind = absurd wf.0

mutual
  pub leads_all : (t : ExprTree) → Leads t
  leads_all (Integer n s) = integer_leads n s
  leads_all (Text x) = λ b header least rest some wf ranked behind. leads_operand b header least (Text x) _ rest (inl refl)
  leads_all (Named x) = named_leads x
  leads_all (Paren first t last) = paren_leads first last t (found_from t (leads_all t))
  leads_all (Unary op s t) = unary_leads op s t (found_from t (leads_all t))
  leads_all (Binary a op s r) = binary_leads a op s r (leads_all a) (found_from r (leads_all r))
  leads_all (Select t dot x) = select_leads t dot x (leads_all t)
  leads_all (Call t first is last) = call_leads t first is last (leads_all t) (all_found is)
  leads_all (Literal n first is last) = literal_leads n first is last (all_found is)
  leads_all (StructLiteral t first is last) = struct_literal_leads t first is last (all_found is)

  all_found : (is : ItemTrees) → Each Found is
  all_found NoItems = tt
  all_found (Item key t comma rest) = (found_from t (leads_all t), all_found rest)

-- what is spelled is read, whatever stands behind it that does not go on with it
pub complete : (t : ExprTree) → Found t
complete t = found_from t (leads_all t)

pub expr_complete : (t : ExprTree) (header : Bool) (b : ℕ) (rest : List Terminal) → Wf header t → Stops header 1 rest → AgreesAt (expr_at b header 1 (spell t ++ rest)) (Ok (t, rest)) b (height t)
expr_complete t header b rest wf stops = found_one t (complete t) b header rest wf stops

-- arguments or elements before the mark that closes them
pub items_complete : (is : ItemTrees) (keyed : Bool) (close : Operator) (b : ℕ) (z : Span) (rest : List Terminal) → Closes close → Wf_items keyed is → AgreesAt (items_at (expr_at b) keyed close (spell_items is ++ (mark close z ∷ rest))) (Ok (is, mark close z ∷ rest)) b (items_height is)
items_complete is keyed close b z rest closes wf = items_from is (all_found is) b keyed close closes z rest wf
