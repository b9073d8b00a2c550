-- The names that expressions are, from the middle of a list on.
use Rattle.std.proofs.Common.{◌≡◌, ℕ, zero, suc, ◌<◌, length, get_or, arith, List, [], ◌∷◌, ◌++◌, Option, Some, None, refl, sym, ap, ◌∙◌}
use Rattle.go_tree_nodes.specs.text_core.declared.span.Span.{Span}
use Rattle.go_tree_nodes.specs.declared.exprs.Expr.{Expr}
use Rattle.go_tree_nodes.specs.declared.exprs.NextExpr.{NextExpr}
use Rattle.go_tree_nodes.specs.declared.names.Ident.{Ident}
use Rattle.go_tree_nodes.specs.declared.names.NextIdent.{NextIdent}
use Rattle.go_tree_nodes.specs.Shapes.{shape, exprs_from}
use Rattle.go_tree_nodes.specs.TypeShapes.{idents_from}
use Rattle.go_tree_nodes.specs.Trees.{Then}
use Rattle.go_tree_nodes.specs.Naming.{name_of}
use Rattle.go_parse_core.specs.stmts.mirrors.StmtReading.{names_one, names_more, names_of}

-- the expressions are these names, with commas in the same places
abbrev pub AreNames : Expr → List NextExpr → Ident → List NextIdent → Type 0
AreNames e [] x [] = name_of (shape e) ≡ Some x
AreNames e (n ∷ ns) x (y ∷ ys) = (name_of (shape e) ≡ Some x) × (n.comma ≡ y.comma) × AreNames n.expr ns y.ident ys
AreNames e [] x (y ∷ ys) = ⊥
AreNames e (n ∷ ns) x [] = ⊥

pub names_push : (e : Expr) (ns : List NextExpr) (x : Ident) (ys : List NextIdent) (n : NextExpr) (y : NextIdent) → AreNames e ns x ys → n.comma ≡ y.comma → name_of (shape n.expr) ≡ Some y.ident → AreNames e (ns ++ (n ∷ [])) x (ys ++ (y ∷ []))
names_push e [] x [] n y h comma last = (h, comma, last)
names_push e (m ∷ ns) x (z ∷ ys) n y h comma last = (h.0, h.1, names_push m.expr ns z.ident ys n y h.2 comma last)
names_push e [] x (z ∷ ys) n y h comma last = absurd h
names_push e (m ∷ ns) x [] n y h comma last = absurd h

pub names_all : (e : Expr) (ns : List NextExpr) (x : Ident) (ys : List NextIdent) → AreNames e ns x ys → names_of (exprs_from e ns) ≡ Some (idents_from x ys)
names_all e [] x [] h = ap names_one h
names_all e (n ∷ ns) x (y ∷ ys) h =
    ap (λ o. names_more o n.comma (names_of (exprs_from n.expr ns))) h.0
    ∙ ap (names_more (Some x) n.comma) (names_all n.expr ns y.ident ys h.2)
    ∙ ap (λ c. Some (Then x c (idents_from y.ident ys))) h.1
names_all e [] x (y ∷ ys) h = absurd h
names_all e (n ∷ ns) x [] h = absurd h

more_none : (o : Option Ident) (comma : Span) → names_more o comma None ≡ None
more_none None comma = refl
more_none (Some x) comma = refl

pub names_none : (e : Expr) (ns : List NextExpr) → None ≡ name_of (shape e) → None ≡ names_of (exprs_from e ns)
names_none e [] h = ap names_one h
names_none e (n ∷ ns) h = ap (λ o. names_more o n.comma (names_of (exprs_from n.expr ns))) h

-- where one of the expressions is no name
pub names_stop : (e : Expr) (ns : List NextExpr) (n : NextExpr) (i : ℕ) → i < length ns → n ≡ get_or ns i n → None ≡ name_of (shape n.expr) → None ≡ names_of (exprs_from e ns)
names_stop e [] n i lt at h = absurd (omega arith)
names_stop e (m ∷ ns) n zero lt at h =
    sym (more_none (name_of (shape e)) m.comma) ∙ ap (names_more (name_of (shape e)) m.comma) (names_none m.expr ns (h ∙ ap (λ n. name_of (shape n.expr)) at))
names_stop e (m ∷ ns) n (suc i) lt at h =
    sym (more_none (name_of (shape e)) m.comma) ∙ ap (names_more (name_of (shape e)) m.comma) (names_stop m.expr ns n i (omega arith) at h)
