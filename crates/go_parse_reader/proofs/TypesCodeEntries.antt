-- What the entries of a parameter list are, from the middle on.
use Rattle.std.proofs.Common.{◌≡◌, ℕ, zero, suc, ◌<◌, true, false, List, [], ◌∷◌, ◌++◌, map, length, drop, get_or, Option, Some, None, refl, sym, ap, ◌∙◌, arith, append_assoc, append-nil}
use Rattle.std.proofs.lemmas.List.{map-append}
use Rattle.std.specs.Prelude.{is_some}
use Rattle.std.specs.Option.{option_map}
use Rattle.go_tree_nodes.specs.text_core.declared.span.Span.{Span}
use Rattle.go_tree_nodes.specs.declared.names.Ident.{Ident}
use Rattle.go_tree_nodes.specs.declared.names.Idents.{Idents}
use Rattle.go_tree_nodes.specs.declared.names.NextIdent.{NextIdent}
use Rattle.go_tree_nodes.specs.declared.types.«Param» as declared_param
use Rattle.go_tree_nodes.specs.Trees.{Separated, One, Then, TypeTree, ParamTrees, NoParams, Param}
use Rattle.go_tree_nodes.specs.TypeShapes.{idents_from, shape_idents, shape_names, shape_type, params_of}
use Rattle.go_parse_reader.specs.declared.types.entries.Entry.{Entry}
use Rattle.go_parse_reader.specs.types.mirrors.EntryShapes.{entry_of, last_behind, with_last}
use Rattle.go_tree_nodes.specs.Naming.{plain_name}
use Rattle.go_parse_reader.specs.types.mirrors.TypeReading.{EntryTree, has_name, as_types, group_one, group_more, group_next, as_groups}

abbrev Entries : Type 0
Entries = List (EntryTree × Option Span)

pub last_pushed : (x : Ident) (ns : List NextIdent) (n : NextIdent) → idents_from x (ns ++ (n ∷ [])) ≡ last_behind (idents_from x ns) n.comma n.ident
last_pushed x [] n = refl
last_pushed x (m ∷ ns) n = ap (Then x m.comma) (last_pushed m.ident ns n)

-- no entry so far has a name
pub named_next : (xs : List Entry) (i : ℕ) (x : Entry) → has_name (map entry_of xs) ≡ has_name (map entry_of (drop i xs)) → drop i xs ≡ x ∷ drop (suc i) xs → x.name ≡ None → has_name (map entry_of xs) ≡ has_name (map entry_of (drop (suc i) xs))
named_next xs i x so is none =
    so ∙ ap (λ l. has_name (map entry_of l)) is ∙ ap (λ n. has_name (((n, shape_type x.type_expr), x.comma) ∷ map entry_of (drop (suc i) xs))) none

pub named_here : (xs : List Entry) (i : ℕ) (x : Entry) (name : Ident) → has_name (map entry_of xs) ≡ has_name (map entry_of (drop i xs)) → drop i xs ≡ x ∷ drop (suc i) xs → x.name ≡ Some name → has_name (map entry_of xs) ≡ true
named_here xs i x name so is some =
    so ∙ ap (λ l. has_name (map entry_of l)) is ∙ ap (λ n. has_name (((n, shape_type x.type_expr), x.comma) ∷ map entry_of (drop (suc i) xs))) some

-- parameters before more parameters
abbrev pub params_before : List declared_param.Param → ParamTrees → ParamTrees
params_before [] more = more
params_before (p ∷ ps) more = Param (shape_names p.names) (shape_type p.type_expr) p.comma (params_before ps more)

before_append : (ps : List declared_param.Param) (p : declared_param.Param) (more : ParamTrees) → params_before (ps ++ (p ∷ [])) more ≡ params_before ps (Param (shape_names p.names) (shape_type p.type_expr) p.comma more)
before_append [] p more = refl
before_append (q ∷ ps) p more = ap (Param (shape_names q.names) (shape_type q.type_expr) q.comma) (before_append ps p more)

before_all : (ps : List declared_param.Param) → params_before ps NoParams ≡ params_of ps
before_all [] = refl
before_all (p ∷ ps) = ap (Param (shape_names p.names) (shape_type p.type_expr) p.comma) (before_all ps)

entries_push : (xs : List Entry) (x : Entry) (more : Entries) → map entry_of (xs ++ (x ∷ [])) ++ more ≡ map entry_of xs ++ (entry_of x ∷ more)
entries_push xs x more = ap (λ l. l ++ more) (map-append entry_of xs (x ∷ [])) ∙ append_assoc (map entry_of xs) (entry_of x ∷ []) more

-- the entries so far are these parameters, as types
pub record TypesSoFar (done : List Entry) (ps : List declared_param.Param) : Type 0 where
  pub same : (more : Entries) → as_types (map entry_of done ++ more) ≡ params_before ps (as_types more)

pub types_start : (ps : List declared_param.Param) → ps ≡ [] → TypesSoFar [] ps
types_start ps none = record { same = λ more. ap (λ ps. params_before ps (as_types more)) (sym none) }

pub types_push : (done : List Entry) (ps new : List declared_param.Param) (x : Entry) (p : declared_param.Param) → TypesSoFar done ps → p.names ≡ None → p.type_expr ≡ x.type_expr → p.comma ≡ x.comma → new ≡ ps ++ (p ∷ []) → TypesSoFar (done ++ (x ∷ [])) new
types_push done ps new x p so none type comma is =
    record {
      same = λ more. ap as_types (entries_push done x more) ∙ so.same (entry_of x ∷ more)
          ∙ ap (λ t. params_before ps (Param None (shape_type t) x.comma (as_types more))) (sym type)
          ∙ ap (λ c. params_before ps (Param None (shape_type p.type_expr) c (as_types more))) (sym comma)
          ∙ ap (λ n. params_before ps (Param (shape_names n) (shape_type p.type_expr) p.comma (as_types more))) (sym none)
          ∙ sym (before_append ps p (as_types more)) ∙ ap (λ l. params_before l (as_types more)) (sym is);
    }

pub types_all : (done : List Entry) (ps : List declared_param.Param) → TypesSoFar done ps → params_of ps ≡ as_types (map entry_of done)
types_all done ps so = sym (ap as_types (sym (append-nil (map entry_of done))) ∙ so.same [] ∙ before_all ps)

-- names in front of groups
abbrev names_before : Separated Ident → Span → Option ParamTrees → Option ParamTrees
names_before (One x) s o = group_more x s o
names_before (Then x comma xs) s o = group_more x comma (names_before xs s o)

abbrev behind : Option (Separated Ident × Span) → Option ParamTrees → Option ParamTrees
behind None o = o
behind (Some (xs, s)) o = names_before xs s o

abbrev front : List declared_param.Param → Option ParamTrees → Option ParamTrees
front ps o = option_map (params_before ps) o

names_none : (xs : Separated Ident) (s : Span) → names_before xs s None ≡ None
names_none (One x) s = refl
names_none (Then x comma xs) s = ap (group_more x comma) (names_none xs s)

names_end : (xs : Separated Ident) (s : Span) → names_before xs s (Some NoParams) ≡ None
names_end (One x) s = refl
names_end (Then x comma xs) s = ap (group_more x comma) (names_end xs s)

names_one : (xs : Separated Ident) (s : Span) (x : Ident) (t : TypeTree) (comma : Option Span) (rest : ParamTrees) → names_before xs s (Some (Param (Some (One x)) t comma rest)) ≡ Some (Param (Some (last_behind xs s x)) t comma rest)
names_one (One y) s x t comma rest = refl
names_one (Then y c xs) s x t comma rest = ap (group_more y c) (names_one xs s x t comma rest)

names_more : (xs : Separated Ident) (s : Span) (x : Ident) (comma : Span) (o : Option ParamTrees) → names_before xs s (group_more x comma o) ≡ names_before (last_behind xs s x) comma o
names_more (One y) s x comma o = refl
names_more (Then y c xs) s x comma o = ap (group_more y c) (names_more xs s x comma o)

-- the entries so far are these groups, and then these names
pub record GroupsSoFar (done : List Entry) (ps : List declared_param.Param) (names : Option (Idents × Span)) : Type 0 where
  pub same : (more : Entries) → as_groups (map entry_of done ++ more) ≡ front ps (behind (option_map (λ n. (shape_idents n.0, n.1)) names) (as_groups more))

whole : (o : Option ParamTrees) → o ≡ front [] o
whole None = refl
whole (Some p) = refl

pub groups_start : (ps : List declared_param.Param) → ps ≡ [] → GroupsSoFar [] ps None
groups_start ps none = record { same = λ more. whole (as_groups more) ∙ ap (λ ps. front ps (as_groups more)) (sym none) }

group_closed : (ps : List declared_param.Param) (names : Option (Separated Ident × Span)) (x : Ident) (p : declared_param.Param) (o : Option ParamTrees) → shape_names p.names ≡ Some (with_last names x) → front ps (behind names (group_one x (shape_type p.type_expr) p.comma o)) ≡ front (ps ++ (p ∷ [])) o
group_closed ps None x p None is = refl
group_closed ps (Some n) x p None is = ap (front ps) (names_none n.0 n.1)
group_closed ps None x p (Some rest) is =
    ap (λ n. Some (params_before ps (Param n (shape_type p.type_expr) p.comma rest))) (sym is) ∙ ap Some (sym (before_append ps p rest))
group_closed ps (Some n) x p (Some rest) is =
    ap (front ps) (names_one n.0 n.1 x (shape_type p.type_expr) p.comma rest) ∙ ap (λ n. Some (params_before ps (Param n (shape_type p.type_expr) p.comma rest))) (sym is) ∙ ap Some (sym (before_append ps p rest))

pub groups_push : (done : List Entry) (ps new : List declared_param.Param) (names : Option (Idents × Span)) (e : Entry) (x : Ident) (p : declared_param.Param) → GroupsSoFar done ps names → e.name ≡ Some x → shape_names p.names ≡ Some (with_last (option_map (λ n. (shape_idents n.0, n.1)) names) x) → p.type_expr ≡ e.type_expr → p.comma ≡ e.comma → new ≡ ps ++ (p ∷ []) → GroupsSoFar (done ++ (e ∷ [])) new None
groups_push done ps new names e x p so named joined type comma is =
    let n = option_map (λ (n : Idents × Span). (shape_idents n.0, n.1)) names in
    record {
      same = λ more. ap as_groups (entries_push done e more) ∙ so.same (entry_of e ∷ more)
          ∙ ap (λ m. front ps (behind n (as_groups (((m, shape_type e.type_expr), e.comma) ∷ more)))) named
          ∙ ap (λ t. front ps (behind n (group_one x (shape_type t) e.comma (as_groups more)))) (sym type)
          ∙ ap (λ c. front ps (behind n (group_one x (shape_type p.type_expr) c (as_groups more)))) (sym comma)
          ∙ group_closed ps n x p (as_groups more) joined
          ∙ ap (λ l. front l (as_groups more)) (sym is);
    }

group_opened : (ps : List declared_param.Param) (names : Option (Separated Ident × Span)) (x : Ident) (comma : Span) (o : Option ParamTrees) → front ps (behind names (group_more x comma o)) ≡ front ps (names_before (with_last names x) comma o)
group_opened ps None x comma o = refl
group_opened ps (Some n) x comma o = ap (front ps) (names_more n.0 n.1 x comma o)

pub groups_name : (done : List Entry) (ps : List declared_param.Param) (names : Option (Idents × Span)) (e : Entry) (x : Ident) (group : Idents) (comma : Span) → GroupsSoFar done ps names → e.name ≡ None → Some x ≡ plain_name (shape_type e.type_expr) → e.comma ≡ Some comma → shape_idents group ≡ with_last (option_map (λ n. (shape_idents n.0, n.1)) names) x → GroupsSoFar (done ++ (e ∷ [])) ps (Some (group, comma))
groups_name done ps names e x group comma so unnamed plain closed joined =
    let n = option_map (λ (n : Idents × Span). (shape_idents n.0, n.1)) names in
    record {
      same = λ more. ap as_groups (entries_push done e more) ∙ so.same (entry_of e ∷ more)
          ∙ ap (λ m. front ps (behind n (as_groups (((m, shape_type e.type_expr), e.comma) ∷ more)))) unnamed
          ∙ ap (λ p. front ps (behind n (group_next p e.comma (as_groups more)))) (sym plain)
          ∙ ap (λ c. front ps (behind n (group_next (Some x) c (as_groups more)))) closed
          ∙ group_opened ps n x comma (as_groups more)
          ∙ ap (λ g. front ps (names_before g comma (as_groups more))) (sym joined);
    }

pub groups_all : (done : List Entry) (ps : List declared_param.Param) (names : Option (Idents × Span)) → GroupsSoFar done ps names → is_some names ≡ false → Some (params_of ps) ≡ as_groups (map entry_of done)
groups_all done ps (Some n) so none = cc
groups_all done ps None so none =
    sym (ap as_groups (sym (append-nil (map entry_of done))) ∙ so.same [] ∙ ap Some (before_all ps))

pub groups_left : (done : List Entry) (ps : List declared_param.Param) (names : Option (Idents × Span)) → GroupsSoFar done ps names → is_some names ≡ true → None ≡ as_groups (map entry_of done)
groups_left done ps None so some = cc
groups_left done ps (Some n) so some =
    sym (ap as_groups (sym (append-nil (map entry_of done))) ∙ so.same [] ∙ ap (front ps) (names_end (shape_idents n.0) n.1))

-- where one of the entries belongs to no group
one_none : (e : Entry) → (name : Option Ident) → e.name ≡ name → (o : Option ParamTrees) → o ≡ None → (es : Entries) → as_groups es ≡ o → as_groups (entry_of e ∷ es) ≡ None
one_none e (Some x) is o none es at = ap (λ m. as_groups (((m, shape_type e.type_expr), e.comma) ∷ es)) is ∙ ap (group_one x (shape_type e.type_expr) e.comma) (at ∙ none)
one_none e None is o none es at = ap (λ m. as_groups (((m, shape_type e.type_expr), e.comma) ∷ es)) is ∙ ap (group_next (plain_name (shape_type e.type_expr)) e.comma) (at ∙ none) ∙ next_none (plain_name (shape_type e.type_expr)) e.comma
  where
    next_none : (p : Option Ident) (c : Option Span) → group_next p c None ≡ None
    next_none None c = refl
    next_none (Some x) None = refl
    next_none (Some x) (Some c) = refl

pub groups_stop : (es : List Entry) (e : Entry) (i : ℕ) → i < length es → e ≡ get_or es i e → ((more : Entries) → as_groups (entry_of e ∷ more) ≡ None) → None ≡ as_groups (map entry_of es)
groups_stop [] e i lt at all = absurd (omega arith)
groups_stop (x ∷ es) e zero lt at all = sym (ap (λ e. as_groups (entry_of e ∷ map entry_of es)) (sym at) ∙ all (map entry_of es))
groups_stop (x ∷ es) e (suc i) lt at all =
    sym (one_none x x.name refl (as_groups (map entry_of es)) (sym (groups_stop es e i (omega arith) at all)) (map entry_of es) refl)

-- an entry that is no name, and one with nothing behind it
pub no_plain : (e : Entry) → e.name ≡ None → None ≡ plain_name (shape_type e.type_expr) → (more : Entries) → as_groups (entry_of e ∷ more) ≡ None
no_plain e unnamed plain more =
    ap (λ m. as_groups (((m, shape_type e.type_expr), e.comma) ∷ more)) unnamed ∙ ap (λ p. group_next p e.comma (as_groups more)) (sym plain)

pub no_comma : (e : Entry) → e.name ≡ None → e.comma ≡ None → (more : Entries) → as_groups (entry_of e ∷ more) ≡ None
no_comma e unnamed closed more =
    ap (λ m. as_groups (((m, shape_type e.type_expr), e.comma) ∷ more)) unnamed ∙ ap (λ c. group_next (plain_name (shape_type e.type_expr)) c (as_groups more)) closed ∙ next (plain_name (shape_type e.type_expr))
  where
    next : (p : Option Ident) → group_next p None (as_groups more) ≡ None
    next None = refl
    next (Some x) = refl

pub with_name_is : (names : Option (Idents × Span)) (xs : Idents) (s : Span) (new : List NextIdent) (x : Ident) (n : NextIdent) → names ≡ Some (xs, s) → new ≡ xs.more.items ++ (n ∷ []) → n.comma ≡ s → n.ident ≡ x → idents_from xs.first new ≡ with_last (option_map (λ n. (shape_idents n.0, n.1)) names) x
with_name_is names xs s new x n is pushed comma ident =
    ap (idents_from xs.first) pushed ∙ last_pushed xs.first xs.more.items n ∙ ap (λ c. last_behind (shape_idents xs) c n.ident) comma ∙ ap (last_behind (shape_idents xs) s) ident
    ∙ sym (ap (λ (o : Option (Idents × Span)). with_last (option_map (λ n. (shape_idents n.0, n.1)) o) x) is)
