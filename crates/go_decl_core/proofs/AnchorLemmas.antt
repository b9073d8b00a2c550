-- The places to look for comments, one for each declaration.
use Rattle.std.proofs.Common.{◌≡◌, ℕ, suc, ◌+◌, ◌<◌, ◌≤◌, List, [], ◌∷◌, ◌++◌, length, map, get_or, drop, drop-cons, add-one, Option, refl, sym, ap, ◌∙◌, append_assoc, append-nil}
use Rattle.std.proofs.lemmas.List.{drop_all, length-append}
use Rattle.go_path_core.specs.text_core.declared.span.Span.{Span}
use Rattle.go_tree_nodes.specs.declared.names.Ident.{Ident}
use Rattle.go_tree_nodes.specs.declared.names.NextIdent.{NextIdent}
use Rattle.go_tree_nodes.specs.declared.decls.ValueKind.{ValueKind}
use Rattle.go_tree_nodes.specs.declared.decls.ValueLine.{ValueLine}
use Rattle.go_tree_nodes.specs.Trees.{Separated, One, Then, ValueSpecTree, Specs, Single, Group, TypeSpecTree, DeclTree, Value, Types, Func, TopTree}
use Rattle.go_tree_nodes.specs.Shapes.{shape_value_line}
use Rattle.go_tree_nodes.specs.TypeShapes.{idents_from, shape_idents}
use Rattle.go_decl_core.specs.declared.anchoring.Anchor.{Anchor}
use Rattle.go_decl_core.specs.Outer.{value_spec_outers, type_spec_outers, decl_outers}
use Rattle.go_decl_core.specs.TopDecls.{named_decls, value_spec_decls, type_spec_decls, numbered, specs_decls, decl_decls, tops_decls}
use Rattle.go_decl_core.specs.Anchors.{anchor, first_name, named_anchors, value_lines_anchors, type_lines_anchors, value_anchors, type_anchors, decl_anchors, tops_anchors, AnchorsAreOfDeclarations}

-- one more for each of the names behind the first
abbrev pub anchors_more : Anchor → List NextIdent → List Anchor
anchors_more a [] = []
anchors_more a (n ∷ ns) = a ∷ anchors_more a ns

pub all_anchors : (a : Anchor) (x : Ident) (ns : List NextIdent) → named_anchors a (idents_from x ns) ≡ a ∷ anchors_more a ns
all_anchors a x [] = refl
all_anchors a x (n ∷ ns) = ap (λ l. a ∷ l) (all_anchors a n.ident ns)

-- all is added when nothing is left
pub ended : {A X : Type 0} (whole : List A → List X) → whole [] ≡ [] → (seen ns : List A) (i : ℕ) → seen ≡ ns → length seen ≤ i → (first old start now all : List X) → start ≡ old ++ first
    → start ++ whole seen ≡ now ++ whole (drop i seen) → all ≡ first ++ whole ns → now ≡ old ++ all
ended whole none seen ns i same h first old start now all e k a =
    let done : now ++ whole (drop i seen) ≡ now = ap (λ l. now ++ l) (ap whole (drop_all i seen h) ∙ none) ∙ append-nil now in
    let full : first ++ whole seen ≡ all = ap (λ l. first ++ whole l) same ∙ sym a in
    sym done ∙ (sym k ∙ (ap (λ l. l ++ whole seen) e ∙ (append_assoc old first (whole seen) ∙ ap (λ l. old ++ l) full)))

pub first_of : (x : Ident) (ns : List NextIdent) → first_name (idents_from x ns) ≡ x
first_of x [] = refl
first_of x (n ∷ ns) = refl

-- the names of one more line of a group
pub value_step : (keyword : ℕ) (items : List ValueLine) (i : ℕ) (line : ValueLine) → i < length items → line ≡ get_or items i line → (old now new : List Anchor)
    → old ++ value_lines_anchors keyword (map shape_value_line items) ≡ now ++ value_lines_anchors keyword (map shape_value_line (drop i items))
    → new ≡ now ++ named_anchors (anchor line.spec.names.first.span.start keyword) (shape_idents line.spec.names)
    → old ++ value_lines_anchors keyword (map shape_value_line items) ≡ new ++ value_lines_anchors keyword (map shape_value_line (drop (i + 1) items))
value_step keyword items i line lt is old now new before added =
    let of_lines : List ValueLine → List Anchor = λ ls. value_lines_anchors keyword (map shape_value_line ls) in
    let rest : List ValueLine = drop (i + 1) items in
    let next : drop i items ≡ line ∷ rest = drop-cons items i line lt ∙ (ap (λ (x : ValueLine). x ∷ drop (suc i) items) (sym is) ∙ ap (λ (n : ℕ). line ∷ drop n items) (sym (add-one i))) in
    let names : List Anchor = named_anchors (anchor line.spec.names.first.span.start keyword) (shape_idents line.spec.names) in
    let first : named_anchors (anchor (first_name (shape_idents line.spec.names)).span.start keyword) (shape_idents line.spec.names) ≡ names =
    ap (λ (x : Ident). named_anchors (anchor x.span.start keyword) (shape_idents line.spec.names)) (first_of line.spec.names.first line.spec.names.more.items) in
    before ∙ (ap (λ (ls : List ValueLine). now ++ of_lines ls) next ∙ (ap (λ (l : List Anchor). now ++ (l ++ of_lines rest)) first ∙ (sym (append_assoc now names (of_lines rest)) ∙ ap (λ (l : List Anchor). l ++ of_lines rest) (sym added))))

-- lists that follow one another are as long as lists of the same lengths
both_long : {A B : Type 0} (xs more : List A) (ys rest : List B) → length xs ≡ length ys → length more ≡ length rest → length (xs ++ more) ≡ length (ys ++ rest)
both_long xs more ys rest e g = length-append xs more ∙ (ap (λ n. n + length more) e ∙ (ap (λ n. length ys + n) g ∙ sym (length-append ys rest)))

named_long : (a : Anchor) (k : ValueKind) (v : ValueSpecTree) (n i : ℕ) (xs : Separated Ident) → length (named_anchors a xs) ≡ length (named_decls k v n i xs)
named_long a k v n i (One x) = refl
named_long a k v n i (Then x comma xs) = ap suc (named_long a k v n (i + 1) xs)

value_lines_long : (keyword : ℕ) (k : ValueKind) (n : ℕ) (ls : List (ValueSpecTree × Option Span)) → length (value_lines_anchors keyword ls) ≡ length (numbered (λ l. value_spec_outers k l.0) (λ n l. value_spec_decls k n l.0) n ls)
value_lines_long keyword k n [] = refl
value_lines_long keyword k n (l ∷ ls) =
    both_long (named_anchors (anchor (first_name l.0.names).span.start keyword) l.0.names) (value_lines_anchors keyword ls) (value_spec_decls k n l.0) (numbered (λ l. value_spec_outers k l.0) (λ n l. value_spec_decls k n l.0) (n + length (value_spec_outers k l.0)) ls)
    (named_long (anchor (first_name l.0.names).span.start keyword) k l.0 n 0 l.0.names) (value_lines_long keyword k (n + length (value_spec_outers k l.0)) ls)

type_lines_long : (keyword n : ℕ) (ls : List (TypeSpecTree × Option Span)) → length (type_lines_anchors keyword ls) ≡ length (numbered (λ l. type_spec_outers l.0) (λ n l. type_spec_decls n l.0) n ls)
type_lines_long keyword n [] = refl
type_lines_long keyword n (l ∷ ls) = ap suc (type_lines_long keyword (n + length (type_spec_outers l.0)) ls)

values_long : (keyword : ℕ) (k : ValueKind) (n : ℕ) (s : Specs ValueSpecTree) → length (value_anchors keyword s) ≡ length (specs_decls (value_spec_outers k) (value_spec_decls k) n s)
values_long keyword k n (Single v) = named_long (anchor keyword 0) k v n 0 v.names
values_long keyword k n (Group first ls last) = value_lines_long keyword k n ls

types_long : (keyword n : ℕ) (s : Specs TypeSpecTree) → length (type_anchors keyword s) ≡ length (specs_decls type_spec_outers type_spec_decls n s)
types_long keyword n (Single t) = refl
types_long keyword n (Group first ls last) = type_lines_long keyword n ls

decl_long : (n : ℕ) (d : DeclTree) → length (decl_anchors d) ≡ length (decl_decls n d)
decl_long n (Value v) = values_long v.keyword.start v.kind n v.specs
decl_long n (Types t) = types_long t.keyword.start n t.specs
decl_long n (Func f) = refl

tops_long : (n : ℕ) (ts : List TopTree) → length (tops_anchors ts) ≡ length (tops_decls n ts)
tops_long n [] = refl
tops_long n (t ∷ ts) = both_long (decl_anchors t.decl) (tops_anchors ts) (decl_decls n t.decl) (tops_decls (n + length (decl_outers t.decl)) ts) (decl_long n t.decl) (tops_long (n + length (decl_outers t.decl)) ts)

pub anchors_are_of_declarations : AnchorsAreOfDeclarations
anchors_are_of_declarations = λ f. tops_long 0 f.decls
