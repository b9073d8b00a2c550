-- Expressions with marks, and expressions whose types leave out semicolons, say the same.
use Rattle.std.proofs.Common.{◌≡◌, ℕ, ◌+◌, Bool, true, false, Option, Some, None, refl}
use Rattle.go_tree_nodes.specs.token_core.declared.kind.Operator.{Operator}
use Rattle.go_tree_nodes.specs.token_core.declared.kind.Operator.TheVariants as operator
use Rattle.go_tree_nodes.specs.Terminals.{Number, terminal}
use Rattle.go_tree_nodes.specs.Trees.{Separated, One, Then, ExprTree, ItemTrees, Integer, Text, Named, Paren, Unary, Binary, Select, Call, Literal, StructLiteral, NoItems, Item}
use Rattle.go_tree_nodes.specs.Spelling.{mark, spell_ident, spell_text, spell_some, spell_type_name, spell_key, spell, spell_items, spell_exprs, spell_some_exprs}
use Rattle.go_tree_nodes.specs.Rules.{rank_of, unary_rank, primary_rank, is_unary, Binds, IsLastItem, Wf, Wf_items, Wf_exprs, Wf_some_exprs}
use Rattle.go_tree_nodes.specs.Heights.{height, items_height, exprs_height, some_exprs_height}
use Rattle.go_parse_core.specs.LeftOut.{sure, IsClosingMark, symbols_some, symbols_expr, symbols_items, symbols_exprs, symbols_type, Fills_some, Fills_expr, Fills_items, Fills_exprs}
use Rattle.go_parse_core.proofs.LeftOutParts.{Any, Opens, opens_along, Splits, nothing, sure_then, one_then, both, maps, join_nothing, join_both, join_sure, join_one, Good, Filled, AnyLike, higher, both_high, kept_like, in_parens, in_braces, join_parens, join_braces}
use Rattle.go_parse_core.proofs.LeftOutTypes.{type_name_opens, type_opens, type_split, type_fill}

-- an expression begins with no closing mark

unary_opens : (op : Operator) → is_unary op ≡ true → IsClosingMark op → ⊥
unary_opens operator.CloseParen e c = cc
unary_opens operator.CloseBrace e c = cc
unary_opens _ e c = c

pub expr_opens : (header : Bool) (t : ExprTree) → Wf header t → Opens (symbols_expr t)
expr_opens header (Integer n span) whole = λ c. c
expr_opens header (Text t) whole = λ c. c
expr_opens header (Named x) whole = λ c. c
expr_opens header (Paren first t last) whole = λ c. c
expr_opens header (Unary op span t) whole = unary_opens op whole.0
expr_opens header (Binary a op span b) whole = opens_along (symbols_expr a) _ (expr_opens header a whole.1)
expr_opens header (Select t dot x) whole = opens_along (symbols_expr t) _ (expr_opens header t whole.0)
expr_opens header (Call t first is last) whole = opens_along (symbols_expr t) _ (expr_opens header t whole.0)
expr_opens header (Literal n first is last) whole = opens_along (sure (spell_type_name n)) _ (type_name_opens n)
expr_opens header (StructLiteral t first is last) whole = opens_along (symbols_type t) _ (type_opens t)

pub exprs_open : (header : Bool) (es : Separated ExprTree) → Wf_exprs header es → Opens (symbols_exprs es)
exprs_open header (One t) whole = expr_opens header t whole
exprs_open header (Then t comma more) whole = opens_along (symbols_expr t) _ (expr_opens header t whole.0)

-- what the rules ask of the outside of an expression

abbrev ExprsLike : ExprTree → ExprTree → Type 0
ExprsLike a b = (least : ℕ) → Binds least a → Binds least b

abbrev ItemsLike : ItemTrees → ItemTrees → Type 0
ItemsLike a b = IsLastItem a → IsLastItem b

-- from whole expressions to marked ones

abbrev pub GoodExpr : Bool → ExprTree → ExprTree → Type 0
GoodExpr header = Good Fills_expr (Wf header) height ExprsLike

abbrev GoodItems : Bool → ItemTrees → ItemTrees → Type 0
GoodItems keyed = Good Fills_items (Wf_items keyed) items_height ItemsLike

abbrev pub GoodExprs : Bool → Separated ExprTree → Separated ExprTree → Type 0
GoodExprs header = Good Fills_exprs (Wf_exprs header) exprs_height AnyLike

abbrev pub GoodSomeExprs : Option (Separated ExprTree) → Option (Separated ExprTree) → Type 0
GoodSomeExprs = Good (Fills_some Fills_exprs) Wf_some_exprs some_exprs_height AnyLike

mutual
  pub expr_split : (header : Bool) (t : ExprTree) → Wf header t → Fills_expr t t → Splits Any (symbols_expr t) ExprTree spell (GoodExpr header t)
  expr_split header (Integer n span) whole full =
      maps (one_then (terminal (Number n) span) nothing) (λ x. Integer n span) (λ x. refl) (λ x g. record { fills = (refl, refl); wf = tt; high = refl; like = λ l y. y })
  expr_split header (Text t) whole full =
      maps (one_then (spell_text t) nothing) (λ x. Text t) (λ x. refl) (λ x g. record { fills = refl; wf = tt; high = refl; like = λ l y. y })
  expr_split header (Named n) whole full =
      maps (one_then (spell_ident n) nothing) (λ x. Named n) (λ x. refl) (λ x g. record { fills = refl; wf = tt; high = refl; like = λ l y. y })
  expr_split header (Paren first t last) whole full =
      maps (in_parens first last (expr_split false t whole full.1) (λ more. tt))
      (λ x. Paren first x last) (λ x. refl)
      (λ x g. record { fills = (refl, g.fills, refl); wf = g.wf; high = higher g.high; like = λ l y. y })
  expr_split header (Unary op span t) whole full =
      maps (one_then (mark op span) (expr_split header t whole.1 full.2)) (λ x. Unary op span x) (λ x. refl)
      (λ x g. record { fills = (refl, refl, g.fills); wf = (whole.0, g.wf, g.like unary_rank whole.2); high = higher g.high; like = λ l y. y })
  expr_split header (Binary a op span b) whole full =
      maps (both (expr_split header a whole.1 full.0) (one_then (mark op span) (expr_split header b whole.3 full.3))) (λ x. Binary x.0 op span x.1) (λ x. refl)
      (λ x g. record { fills = (g.0.fills, refl, refl, g.1.fills); wf = (whole.0, g.0.wf, g.0.like (rank_of op) whole.2, g.1.wf, g.1.like (rank_of op + 1) whole.4); high = higher (both_high g.0.high g.1.high); like = λ l y. y })
  expr_split header (Select t dot n) whole full =
      maps (both (expr_split header t whole.0 full.0) (one_then (mark operator.Dot dot) (one_then (spell_ident n) nothing)))
      (λ x. Select x.0 dot n) (λ x. refl)
      (λ x g. record { fills = (g.0.fills, refl, refl); wf = (g.0.wf, g.0.like primary_rank whole.1); high = higher g.0.high; like = λ l y. y })
  expr_split header (Call t first is last) whole full =
      maps (both (expr_split header t whole.0 full.0) (in_parens first last (items_split false is whole.2 full.2) (λ more. tt)))
      (λ x. Call x.0 first x.1 last) (λ x. refl)
      (λ x g. record { fills = (g.0.fills, refl, g.1.fills, refl); wf = (g.0.wf, g.0.like primary_rank whole.1, g.1.wf); high = higher (both_high g.0.high g.1.high); like = λ l y. y })
  expr_split header (Literal n first is last) whole full =
      maps (sure_then (spell_type_name n) (in_braces first last (items_split true is whole.1 full.2) (λ more. tt)))
      (λ x. Literal n first x last) (λ x. refl)
      (λ x g. record { fills = (refl, refl, g.fills, refl); wf = (whole.0, g.wf); high = higher (both_high refl g.high); like = λ l y. y })
  expr_split header (StructLiteral t first is last) whole full =
      maps (both (type_split t whole.1 full.0) (in_braces first last (items_split true is whole.2 full.2) (λ more. tt)))
      (λ x. StructLiteral x.0 first x.1 last) (λ x. refl)
      (λ x g. record { fills = (g.0.fills, refl, g.1.fills, refl); wf = (g.0.like.1 whole.0, g.0.wf, g.1.wf); high = higher (both_high g.0.high g.1.high); like = λ l y. y })

  items_split : (keyed : Bool) (is : ItemTrees) → Wf_items keyed is → Fills_items is is → Splits Any (symbols_items is) ItemTrees spell_items (GoodItems keyed is)
  items_split keyed NoItems whole full = maps nothing (λ x. NoItems) (λ x. refl) (λ x g. record { fills = tt; wf = tt; high = refl; like = λ y. y })
  items_split keyed (Item key t comma rest) whole full =
      maps (sure_then (spell_key key) (both (expr_split false t whole.1 full.1) (sure_then (spell_some operator.Comma comma) (items_split keyed rest whole.3 full.3))))
      (λ x. Item key x.0 comma x.1) (λ x. refl)
      (λ x g. record { fills = (refl, g.0.fills, refl, g.1.fills); wf = (whole.0, g.0.wf, kept_like comma g.1.like whole.2, g.1.wf); high = both_high g.0.high g.1.high; like = λ y. y })

pub exprs_split : (header : Bool) (es : Separated ExprTree) → Wf_exprs header es → Fills_exprs es es → Splits Any (symbols_exprs es) (Separated ExprTree) spell_exprs (GoodExprs header es)
exprs_split header (One t) whole full =
    maps (expr_split header t whole full) (λ x. One x) (λ x. refl) (λ x g. record { fills = g.fills; wf = g.wf; high = g.high; like = tt })
exprs_split header (Then t comma more) whole full =
    maps (both (expr_split header t whole.0 full.0) (one_then (mark operator.Comma comma) (exprs_split header more whole.1 full.2)))
    (λ x. Then x.0 comma x.1) (λ x. refl)
    (λ x g. record { fills = (g.0.fills, refl, g.1.fills); wf = (g.0.wf, g.1.wf); high = both_high g.0.high g.1.high; like = tt })

pub some_exprs_split : (es : Option (Separated ExprTree)) → Wf_some_exprs es → Fills_some Fills_exprs es es → Splits Any (symbols_some symbols_exprs es) (Option (Separated ExprTree)) spell_some_exprs (GoodSomeExprs es)
some_exprs_split None whole full = maps nothing (λ x. None) (λ x. refl) (λ x g. record { fills = tt; wf = tt; high = refl; like = tt })
some_exprs_split (Some es) whole full =
    maps (exprs_split false es whole full) (λ x. Some x) (λ x. refl) (λ x g. record { fills = g.fills; wf = g.wf; high = g.high; like = tt })

-- from marked expressions to whole ones

abbrev pub FilledExpr : Bool → ExprTree → Type 0
FilledExpr header = Filled Any symbols_expr spell Fills_expr (Wf header) height ExprsLike

abbrev FilledItems : Bool → ItemTrees → Type 0
FilledItems keyed = Filled Any symbols_items spell_items Fills_items (Wf_items keyed) items_height ItemsLike

abbrev pub FilledExprs : Bool → Separated ExprTree → Type 0
FilledExprs header = Filled Any symbols_exprs spell_exprs Fills_exprs (Wf_exprs header) exprs_height AnyLike

abbrev pub FilledSomeExprs : Option (Separated ExprTree) → Type 0
FilledSomeExprs = Filled Any (symbols_some symbols_exprs) spell_some_exprs (Fills_some Fills_exprs) (Wf_some_exprs) some_exprs_height AnyLike

mutual
  pub expr_fill : (header : Bool) (t : ExprTree) → Wf header t → FilledExpr header t
  expr_fill header (Integer n span) wf = record { tree = Integer n span; fills = (refl, refl); full = (refl, refl); wf = tt; high = refl; like = λ l y. y; joins = join_one (terminal (Number n) span) join_nothing }
  expr_fill header (Text t) wf = record { tree = Text t; fills = refl; full = refl; wf = tt; high = refl; like = λ l y. y; joins = join_one (spell_text t) join_nothing }
  expr_fill header (Named n) wf = record { tree = Named n; fills = refl; full = refl; wf = tt; high = refl; like = λ l y. y; joins = join_one (spell_ident n) join_nothing }
  expr_fill header (Paren first t last) wf =
      let q = expr_fill false t wf in
      record {
        tree = Paren first q.tree last;
        fills = (refl, q.fills, refl);
        full = (refl, q.full, refl);
        wf = q.wf;
        high = higher q.high;
        like = λ l y. y;
        joins = join_parens first last q.joins (λ more. tt);
      }
  expr_fill header (Unary op span t) wf =
      let q = expr_fill header t wf.1 in
      record {
        tree = Unary op span q.tree;
        fills = (refl, refl, q.fills);
        full = (refl, refl, q.full);
        wf = (wf.0, q.wf, q.like unary_rank wf.2);
        high = higher q.high;
        like = λ l y. y;
        joins = join_one (mark op span) q.joins;
      }
  expr_fill header (Binary a op span b) wf =
      let q = expr_fill header a wf.1 in
      let r = expr_fill header b wf.3 in
      record {
        tree = Binary q.tree op span r.tree;
        fills = (q.fills, refl, refl, r.fills);
        full = (q.full, refl, refl, r.full);
        wf = (wf.0, q.wf, q.like (rank_of op) wf.2, r.wf, r.like (rank_of op + 1) wf.4);
        high = higher (both_high q.high r.high);
        like = λ l y. y;
        joins = join_both q.joins (join_one (mark op span) r.joins);
      }
  expr_fill header (Select t dot n) wf =
      let q = expr_fill header t wf.0 in
      record {
        tree = Select q.tree dot n;
        fills = (q.fills, refl, refl);
        full = (q.full, refl, refl);
        wf = (q.wf, q.like primary_rank wf.1);
        high = higher q.high;
        like = λ l y. y;
        joins = join_both q.joins (join_one (mark operator.Dot dot) (join_one (spell_ident n) join_nothing));
      }
  expr_fill header (Call t first is last) wf =
      let q = expr_fill header t wf.0 in
      let r = items_fill false is wf.2 in
      record {
        tree = Call q.tree first r.tree last;
        fills = (q.fills, refl, r.fills, refl);
        full = (q.full, refl, r.full, refl);
        wf = (q.wf, q.like primary_rank wf.1, r.wf);
        high = higher (both_high q.high r.high);
        like = λ l y. y;
        joins = join_both q.joins (join_parens first last r.joins (λ more. tt));
      }
  expr_fill header (Literal n first is last) wf =
      let r = items_fill true is wf.1 in
      record {
        tree = Literal n first r.tree last;
        fills = (refl, refl, r.fills, refl);
        full = (refl, refl, r.full, refl);
        wf = (wf.0, r.wf);
        high = higher (both_high refl r.high);
        like = λ l y. y;
        joins = join_sure (spell_type_name n) (join_braces first last r.joins (λ more. tt));
      }
  expr_fill header (StructLiteral t first is last) wf =
      let q = type_fill t wf.1 in
      let r = items_fill true is wf.2 in
      record {
        tree = StructLiteral q.tree first r.tree last;
        fills = (q.fills, refl, r.fills, refl);
        full = (q.full, refl, r.full, refl);
        wf = (q.like.1 wf.0, q.wf, r.wf);
        high = higher (both_high q.high r.high);
        like = λ l y. y;
        joins = join_both q.joins (join_braces first last r.joins (λ more. tt));
      }

  items_fill : (keyed : Bool) (is : ItemTrees) → Wf_items keyed is → FilledItems keyed is
  items_fill keyed NoItems wf = record { tree = NoItems; fills = tt; full = tt; wf = tt; high = refl; like = λ y. y; joins = join_nothing }
  items_fill keyed (Item key t comma rest) wf =
      let q = expr_fill false t wf.1 in
      let r = items_fill keyed rest wf.3 in
      record {
        tree = Item key q.tree comma r.tree;
        fills = (refl, q.fills, refl, r.fills);
        full = (refl, q.full, refl, r.full);
        wf = (wf.0, q.wf, kept_like comma r.like wf.2, r.wf);
        high = both_high q.high r.high;
        like = λ y. y;
        joins = join_sure (spell_key key) (join_both q.joins (join_sure (spell_some operator.Comma comma) r.joins));
      }

pub exprs_fill : (header : Bool) (es : Separated ExprTree) → Wf_exprs header es → FilledExprs header es
exprs_fill header (One t) wf =
    let q = expr_fill header t wf in
    record { tree = One q.tree; fills = q.fills; full = q.full; wf = q.wf; high = q.high; like = tt; joins = q.joins }
exprs_fill header (Then t comma more) wf =
    let q = expr_fill header t wf.0 in
    let r = exprs_fill header more wf.1 in
    record {
      tree = Then q.tree comma r.tree;
      fills = (q.fills, refl, r.fills);
      full = (q.full, refl, r.full);
      wf = (q.wf, r.wf);
      high = both_high q.high r.high;
      like = tt;
      joins = join_both q.joins (join_one (mark operator.Comma comma) r.joins);
    }

pub some_exprs_fill : (es : Option (Separated ExprTree)) → Wf_some_exprs es → FilledSomeExprs es
some_exprs_fill None wf = record { tree = None; fills = tt; full = tt; wf = tt; high = refl; like = tt; joins = join_nothing }
some_exprs_fill (Some es) wf =
    let q = exprs_fill false es wf in
    record { tree = Some q.tree; fills = q.fills; full = q.full; wf = q.wf; high = q.high; like = tt; joins = q.joins }
