-- The names of an expression stand between where it begins and where it ends.
use Rattle.std.proofs.Common.{◌≡◌, inl, inr, ℕ, ◌<◌, ◌≤◌, Bool, true, false, List, [], ◌∷◌, ◌++◌, Option, Some, None, ap, subst, arith, if◌then◌else◌}
use Rattle.go_constant_core.specs.text_core.declared.span.Span.{Span}
use Rattle.go_tree_nodes.specs.token_core.declared.kind.Operator.TheVariants as operator
use Rattle.go_tree_nodes.specs.declared.names.Ident.{Ident}
use Rattle.go_tree_nodes.specs.Spelling.{mark, spell, spell_exprs, spell_ident, spell_idents, spell_items, spell_key, spell_some, spell_some_type, spell_type, spell_type_name, spell_values}
use Rattle.go_tree_nodes.specs.Terminals.{InOrder, Terminal}
use Rattle.go_tree_nodes.specs.Trees.{ExprTree, ItemTrees, Integer, Text, Named, Paren, Unary, Binary, Select, Call, Literal, StructLiteral, NoItems, Item, Separated, One, Then, SimpleTree, Alone, Step, Assign, Update, Define}
use Rattle.go_tree_nodes.proofs.InOrder.{in_order_ends, in_order_split}
use Rattle.go_names_core.specs.local_core.Steps.{Piece, Header, Spec, Act, Condition, Given, spell_piece}
use Rattle.go_names_core.specs.local_core.WalksEnds.{is_blank_target}
use Rattle.go_report_core.specs.denote_core.declared.things.Stand.{Stand}
use Rattle.go_report_core.specs.denote_core.declared.things.Stand.TheVariants as stands
use Rattle.go_report_core.specs.expr_core.Places.{inside, left_place, under_place}
use Rattle.go_snap_core.specs.value_core.Initial.{exprs}
use Rattle.go_workspace_laws.specs.folding.Parts.{item_parts, parts}
use Rattle.go_workspace_laws.specs.Standing.{piece_exprs, targets_listed, values_listed}
use Rattle.go_workspace_laws.proofs.ConstantLists.{HasItem, has_either}

abbrev pub IsBetween : ℕ → ℕ → Ident → Type 0
IsBetween lo hi x = (lo ≤ x.span.start) × (x.span.start < hi)

abbrev second : Stand × ExprTree → ExprTree
second p = p.1

wider : (a b lo hi : ℕ) (x : Ident) → a ≤ lo → hi ≤ b → IsBetween lo hi x → IsBetween a b x
wider a b lo hi x le ge h = (let low = h.0 in omega (arith, le, low), let high = h.1 in omega (arith, ge, high))

none : {A : Type 0} (q r : Stand) (e : ExprTree) (x : Ident) → (e ≡ Named x → ⊥) → ◌≡◌ {A = Stand × ExprTree} (q, e) (r, Named x) → A
none q r e x other same = absurd (other (ap second same))

named_between : (q r : Stand) (y x : Ident) (lo hi : ℕ) → InOrder lo (spell (Named y)) hi → ◌≡◌ {A = Stand × ExprTree} (q, Named y) (r, Named x) → IsBetween lo hi x
named_between q r y x lo hi h same =
    let is : Named y ≡ Named x = ap second same in
    let one : y ≡ x = cc is in
    let low = h.0 in
    let wide = h.1 in
    let high = h.2 in
    subst (λ z. IsBetween lo hi z) one (low, omega (arith, wide, high))

-- items between braces
braced : (ts : List Terminal) (first : Span) (items : ItemTrees) (last : Span) (lo hi : ℕ) → InOrder lo (ts ++ (mark operator.OpenBrace first ∷ (spell_items items ++ mark operator.CloseBrace last ∷ []))) hi → (x : Ident)
    → ((a b : ℕ) → InOrder a (spell_items items) b → IsBetween a b x) → IsBetween lo hi x
braced ts first items last lo hi h x inner =
    let rest : List Terminal = mark operator.OpenBrace first ∷ (spell_items items ++ mark operator.CloseBrace last ∷ []) in
    let a = in_order_split ts rest lo hi h in
    let b = in_order_split (spell_items items) (mark operator.CloseBrace last ∷ []) first.end hi a.1.1.2 in
    let starts = in_order_ends ts lo a.0 a.1.0 in
    let low = a.1.1.0 in
    let wide = a.1.1.1 in
    wider lo hi first.end b.0 x (omega (arith, starts, low, wide)) (in_order_ends (mark operator.CloseBrace last ∷ []) b.0 hi b.1.1) (inner first.end b.0 b.1.0)

mutual
  pub within : (q : Stand) (e : ExprTree) (lo hi : ℕ) → InOrder lo (spell e) hi → (r : Stand) (x : Ident) → HasItem (parts q e) (r, Named x) → IsBetween lo hi x
  within q (Integer n s) lo hi h r x (inl same) = none q r (Integer n s) x (λ e. cc e) same
  within q (Integer n s) lo hi h r x (inr k) = absurd k
  within q (Text t) lo hi h r x (inl same) = none q r (Text t) x (λ e. cc e) same
  within q (Text t) lo hi h r x (inr k) = absurd k
  within q (Named y) lo hi h r x (inl same) = named_between q r y x lo hi h same
  within q (Named y) lo hi h r x (inr k) = absurd k
  within q (Paren first e last) lo hi h r x (inl same) = none q r (Paren first e last) x (λ e. cc e) same
  within q (Paren first e last) lo hi h r x (inr k) =
      let a = in_order_split (spell e) (mark operator.CloseParen last ∷ []) first.end hi h.2 in
      let low = h.0 in
      let wide = h.1 in
      wider lo hi first.end a.0 x (omega (arith, low, wide)) (in_order_ends (mark operator.CloseParen last ∷ []) a.0 hi a.1.1) (within (inside q) e first.end a.0 a.1.0 r x k)
  within q (Unary op s e) lo hi h r x (inl same) = none q r (Unary op s e) x (λ e. cc e) same
  within q (Unary op s e) lo hi h r x (inr k) =
      let low = h.0 in
      let wide = h.1 in
      let here : hi ≤ hi = omega arith in
      wider lo hi s.end hi x (omega (arith, low, wide)) here (within (under_place op q) e s.end hi h.2 r x k)
  within q (Binary a op s b) lo hi h r x (inl same) = none q r (Binary a op s b) x (λ e. cc e) same
  within q (Binary a op s b) lo hi h r x (inr k) =
      let split = in_order_split (spell a) (mark op s ∷ spell b) lo hi h in
      let starts = in_order_ends (spell a) lo split.0 split.1.0 in
      let low = split.1.1.0 in
      let wide = split.1.1.1 in
      let first : lo ≤ lo = omega arith in
      let last : hi ≤ hi = omega arith in
      elim (has_either (parts stands.«Value» a) (parts stands.«Value» b) (r, Named x) k) [
        | inl j ↦ wider lo hi lo split.0 x first (in_order_ends (mark op s ∷ spell b) split.0 hi split.1.1) (within stands.«Value» a lo split.0 split.1.0 r x j)
        | inr j ↦ wider lo hi s.end hi x (omega (arith, starts, low, wide)) last (within stands.«Value» b s.end hi split.1.1.2 r x j)
      ]
  within q (Select e dot y) lo hi h r x (inl same) = none q r (Select e dot y) x (λ e. cc e) same
  within q (Select e dot y) lo hi h r x (inr k) =
      let rest : List Terminal = mark operator.Dot dot ∷ (spell_ident y ∷ []) in
      let a = in_order_split (spell e) rest lo hi h in
      let first : lo ≤ lo = omega arith in
      wider lo hi lo a.0 x first (in_order_ends rest a.0 hi a.1.1) (within (left_place q e) e lo a.0 a.1.0 r x k)
  within q (Call e first items last) lo hi h r x (inl same) = none q r (Call e first items last) x (λ e. cc e) same
  within q (Call e first items last) lo hi h r x (inr k) =
      let rest : List Terminal = mark operator.OpenParen first ∷ (spell_items items ++ mark operator.CloseParen last ∷ []) in
      let a = in_order_split (spell e) rest lo hi h in
      let b = in_order_split (spell_items items) (mark operator.CloseParen last ∷ []) first.end hi a.1.1.2 in
      let starts = in_order_ends (spell e) lo a.0 a.1.0 in
      let low = a.1.1.0 in
      let wide = a.1.1.1 in
      let begins : lo ≤ lo = omega arith in
      elim (has_either (parts stands.Callee e) (item_parts items) (r, Named x) k) [
        | inl j ↦ wider lo hi lo a.0 x begins (in_order_ends rest a.0 hi a.1.1) (within stands.Callee e lo a.0 a.1.0 r x j)
        | inr j ↦ wider lo hi first.end b.0 x (omega (arith, starts, low, wide)) (in_order_ends (mark operator.CloseParen last ∷ []) b.0 hi b.1.1) (within_items items first.end b.0 b.1.0 r x j)
      ]
  within q (Literal n first items last) lo hi h r x (inl same) = none q r (Literal n first items last) x (λ e. cc e) same
  within q (Literal n first items last) lo hi h r x (inr k) = braced (spell_type_name n) first items last lo hi h x (λ a b o. within_items items a b o r x k)
  within q (StructLiteral t first items last) lo hi h r x (inl same) = none q r (StructLiteral t first items last) x (λ e. cc e) same
  within q (StructLiteral t first items last) lo hi h r x (inr k) = braced (spell_type t) first items last lo hi h x (λ a b o. within_items items a b o r x k)

  pub within_items : (items : ItemTrees) (lo hi : ℕ) → InOrder lo (spell_items items) hi → (r : Stand) (x : Ident) → HasItem (item_parts items) (r, Named x) → IsBetween lo hi x
  within_items NoItems lo hi h r x k = absurd k
  within_items (Item key e comma rest) lo hi h r x k =
      let a = in_order_split (spell_key key) (spell e ++ (spell_some operator.Comma comma ++ spell_items rest)) lo hi h in
      let b = in_order_split (spell e) (spell_some operator.Comma comma ++ spell_items rest) a.0 hi a.1.1 in
      let c = in_order_split (spell_some operator.Comma comma) (spell_items rest) b.0 hi b.1.1 in
      let one = in_order_ends (spell_key key) lo a.0 a.1.0 in
      let two = in_order_ends (spell e) a.0 b.0 b.1.0 in
      let three = in_order_ends (spell_some operator.Comma comma) b.0 c.0 c.1.0 in
      let four = in_order_ends (spell_items rest) c.0 hi c.1.1 in
      let last : hi ≤ hi = omega arith in
      elim (has_either (parts stands.«Value» e) (item_parts rest) (r, Named x) k) [
        | inl j ↦ wider lo hi a.0 b.0 x one (omega (arith, three, four)) (within stands.«Value» e a.0 b.0 b.1.0 r x j)
        | inr j ↦ wider lo hi c.0 hi x (omega (arith, one, two, three)) last (within_items rest c.0 hi c.1.1 r x j)
      ]

-- an expression that stands between two places
pub record IsOrdered (lo hi : ℕ) (e : ExprTree) : Type 0 where
  pub low : ℕ
  pub high : ℕ
  pub above : lo ≤ low
  pub order : InOrder low (spell e) high
  pub below : high ≤ hi

ordered_wider : (a b lo hi : ℕ) (e : ExprTree) → a ≤ lo → hi ≤ b → IsOrdered lo hi e → IsOrdered a b e
ordered_wider a b lo hi e le ge h = (let low = h.above in let high = h.below in record { low = h.low; high = h.high; above = omega (arith, le, low); order = h.order; below = omega (arith, ge, high) })

alone : (e d : ExprTree) (lo hi : ℕ) → InOrder lo (spell e) hi → e ≡ d → IsOrdered lo hi d
alone e d lo hi h same = (let first : lo ≤ lo = omega arith in let last : hi ≤ hi = omega arith in subst (λ x. IsOrdered lo hi x) same (record { low = lo; high = hi; above = first; order = h; below = last }))

exprs_ordered : (es : Separated ExprTree) (lo hi : ℕ) → InOrder lo (spell_exprs es) hi → (e : ExprTree) → HasItem (exprs es) e → IsOrdered lo hi e
exprs_ordered (One d) lo hi h e (inl same) = alone d e lo hi h same
exprs_ordered (One d) lo hi h e (inr k) = absurd k
exprs_ordered (Then d comma more) lo hi h e (inl same) =
    let a = in_order_split (spell d) (mark operator.Comma comma ∷ spell_exprs more) lo hi h in
    let first : lo ≤ lo = omega arith in
    ordered_wider lo hi lo a.0 e first (in_order_ends (mark operator.Comma comma ∷ spell_exprs more) a.0 hi a.1.1) (alone d e lo a.0 a.1.0 same)
exprs_ordered (Then d comma more) lo hi h e (inr k) =
    let a = in_order_split (spell d) (mark operator.Comma comma ∷ spell_exprs more) lo hi h in
    let starts = in_order_ends (spell d) lo a.0 a.1.0 in
    let low = a.1.1.0 in
    let wide = a.1.1.1 in
    let last : hi ≤ hi = omega arith in
    ordered_wider lo hi comma.end hi e (omega (arith, starts, low, wide)) last (exprs_ordered more comma.end hi a.1.1.2 e k)

target_ordered : (b : Bool) (d e : ExprTree) (lo hi : ℕ) → InOrder lo (spell d) hi → HasItem (if b then [] else d ∷ []) e → IsOrdered lo hi e
target_ordered true d e lo hi h k = absurd k
target_ordered false d e lo hi h (inl same) = alone d e lo hi h same
target_ordered false d e lo hi h (inr k) = absurd k

targets_ordered : (ts : Separated ExprTree) (lo hi : ℕ) → InOrder lo (spell_exprs ts) hi → (e : ExprTree) → HasItem (targets_listed ts) e → IsOrdered lo hi e
targets_ordered (One d) lo hi h e k = target_ordered (is_blank_target d) d e lo hi h k
targets_ordered (Then d comma more) lo hi h e k =
    let a = in_order_split (spell d) (mark operator.Comma comma ∷ spell_exprs more) lo hi h in
    let starts = in_order_ends (spell d) lo a.0 a.1.0 in
    let low = a.1.1.0 in
    let wide = a.1.1.1 in
    let first : lo ≤ lo = omega arith in
    let last : hi ≤ hi = omega arith in
    elim (has_either (if is_blank_target d then [] else d ∷ []) (targets_listed more) e k) [
      | inl j ↦ ordered_wider lo hi lo a.0 e first (in_order_ends (mark operator.Comma comma ∷ spell_exprs more) a.0 hi a.1.1) (target_ordered (is_blank_target d) d e lo a.0 a.1.0 j)
      | inr j ↦ ordered_wider lo hi comma.end hi e (omega (arith, starts, low, wide)) last (targets_ordered more comma.end hi a.1.1.2 e j)
    ]

simple_ordered : (s : SimpleTree) (lo hi : ℕ) → InOrder lo (spell_piece (Act s)) hi → (e : ExprTree) → HasItem (piece_exprs (Act s)) e → IsOrdered lo hi e
simple_ordered (Alone d) lo hi h e (inl same) = alone d e lo hi h same
simple_ordered (Alone d) lo hi h e (inr k) = absurd k
simple_ordered (Step d op s) lo hi h e (inl same) =
    let a = in_order_split (spell d) (mark op s ∷ []) lo hi h in
    let first : lo ≤ lo = omega arith in
    ordered_wider lo hi lo a.0 e first (in_order_ends (mark op s ∷ []) a.0 hi a.1.1) (alone d e lo a.0 a.1.0 same)
simple_ordered (Step d op s) lo hi h e (inr k) = absurd k
simple_ordered (Assign ts s es) lo hi h e k =
    let a = in_order_split (spell_exprs ts) (mark operator.Assign s ∷ spell_exprs es) lo hi h in
    let starts = in_order_ends (spell_exprs ts) lo a.0 a.1.0 in
    let low = a.1.1.0 in
    let wide = a.1.1.1 in
    let first : lo ≤ lo = omega arith in
    let last : hi ≤ hi = omega arith in
    elim (has_either (targets_listed ts) (exprs es) e k) [
      | inl j ↦ ordered_wider lo hi lo a.0 e first (in_order_ends (mark operator.Assign s ∷ spell_exprs es) a.0 hi a.1.1) (targets_ordered ts lo a.0 a.1.0 e j)
      | inr j ↦ ordered_wider lo hi s.end hi e (omega (arith, starts, low, wide)) last (exprs_ordered es s.end hi a.1.1.2 e j)
    ]
simple_ordered (Update d op s v) lo hi h e k =
    let a = in_order_split (spell d) (mark op s ∷ spell v) lo hi h in
    let starts = in_order_ends (spell d) lo a.0 a.1.0 in
    let low = a.1.1.0 in
    let wide = a.1.1.1 in
    let first : lo ≤ lo = omega arith in
    let last : hi ≤ hi = omega arith in
    elim k [
      | inl same ↦ ordered_wider lo hi lo a.0 e first (in_order_ends (mark op s ∷ spell v) a.0 hi a.1.1) (alone d e lo a.0 a.1.0 same)
      | inr j ↦ elim j [
        | inl same ↦ ordered_wider lo hi s.end hi e (omega (arith, starts, low, wide)) last (alone v e s.end hi a.1.1.2 same)
        | inr nothing ↦ absurd nothing
      ]
    ]
simple_ordered (Define xs s es) lo hi h e k =
    let a = in_order_split (spell_idents xs) (mark operator.Define s ∷ spell_exprs es) lo hi h in
    let starts = in_order_ends (spell_idents xs) lo a.0 a.1.0 in
    let low = a.1.1.0 in
    let wide = a.1.1.1 in
    let last : hi ≤ hi = omega arith in
    ordered_wider lo hi s.end hi e (omega (arith, starts, low, wide)) last (exprs_ordered es s.end hi a.1.1.2 e k)

values_ordered : (ts : List Terminal) (o : Option (Span × Separated ExprTree)) (lo hi : ℕ) → InOrder lo (ts ++ spell_values o) hi → (e : ExprTree) → HasItem (values_listed o) e → IsOrdered lo hi e
values_ordered ts None lo hi h e k = absurd k
values_ordered ts (Some v) lo hi h e k =
    let a = in_order_split ts (mark operator.Assign v.0 ∷ spell_exprs v.1) lo hi h in
    let starts = in_order_ends ts lo a.0 a.1.0 in
    let low = a.1.1.0 in
    let wide = a.1.1.1 in
    let last : hi ≤ hi = omega arith in
    ordered_wider lo hi v.0.end hi e (omega (arith, starts, low, wide)) last (exprs_ordered v.1 v.0.end hi a.1.1.2 e k)

piece_ordered : (p : Piece) (lo hi : ℕ) → InOrder lo (spell_piece p) hi → (e : ExprTree) → HasItem (piece_exprs p) e → IsOrdered lo hi e
piece_ordered (Header r s) lo hi h e k = absurd k
piece_ordered (Spec kind v) lo hi h e k =
    let a = in_order_split (spell_idents v.names) (spell_some_type v.type_expr ++ spell_values v.values) lo hi h in
    let last : hi ≤ hi = omega arith in
    ordered_wider lo hi a.0 hi e (in_order_ends (spell_idents v.names) lo a.0 a.1.0) last (values_ordered (spell_some_type v.type_expr) v.values a.0 hi a.1.1 e k)
piece_ordered (Act s) lo hi h e k = simple_ordered s lo hi h e k
piece_ordered (Condition d) lo hi h e (inl same) = alone d e lo hi h same
piece_ordered (Condition d) lo hi h e (inr k) = absurd k
piece_ordered (Given place None) lo hi h e k = absurd k
piece_ordered (Given place (Some es)) lo hi h e k = exprs_ordered es lo hi h e k

-- each name in the expressions of a piece stands between where the piece begins and where it ends
pub name_between : (p : Piece) (lo hi : ℕ) → InOrder lo (spell_piece p) hi → (e : ExprTree) → HasItem (piece_exprs p) e → (r : Stand) (x : Ident) → HasItem (parts stands.«Value» e) (r, Named x) → IsBetween lo hi x
name_between p lo hi h e k r x there =
    let o = piece_ordered p lo hi h e k in
    wider lo hi o.low o.high x o.above o.below (within stands.«Value» e o.low o.high o.order r x there)
