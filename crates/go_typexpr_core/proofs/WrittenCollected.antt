-- What loops over the parts of a type collect.
use Rattle.std.proofs.Common.{◌≡◌, ℕ, zero, suc, ◌+◌, ◌<◌, ◌≤◌, false, true, List, [], ◌∷◌, ◌++◌, length, map, get_or, take, Option, Some, None, arith, refl, ap, sym, ◌∙◌, subst, append_assoc}
use Rattle.std.proofs.lemmas.List.{take_more, take_all, map-append}
use Rattle.go_tree_nodes.specs.declared.names.Ident.{Ident}
use Rattle.go_tree_nodes.specs.declared.names.Idents.{Idents}
use Rattle.go_tree_nodes.specs.declared.names.NextIdent.{NextIdent}
use Rattle.go_tree_nodes.specs.declared.types.Fields as declared_fields
use Rattle.go_tree_nodes.specs.declared.types.Fields.TheVariants as lines
use Rattle.go_tree_nodes.specs.declared.types.FieldLine.{FieldLine}
use Rattle.go_tree_nodes.specs.declared.types.MethodLine.{MethodLine, MethodLine', out-MethodLine, is-MethodLine'}
use Rattle.go_tree_nodes.specs.declared.types.Params as tree_params
use Rattle.go_tree_nodes.specs.declared.types.Results as declared_results
use Rattle.go_tree_nodes.specs.declared.types.Results.TheVariants as results
use Rattle.go_tree_nodes.specs.declared.types.«Param» as declared_param
use Rattle.go_tree_nodes.specs.Trees.{Separated, One, Then, FieldTrees}
use Rattle.go_tree_nodes.specs.TypeShapes.{idents_from, shape_idents, shape_names, shape_type, shape_signature, shape_results, fields_before}
use Rattle.go_tree_nodes.proofs.TypeShapes.{listed_parts}
use Rattle.go_term_core.specs.decl_core.declared.places.DeclKind.TheVariants as kinds
use Rattle.go_term_core.specs.declared.term.Field.{Field}
use Rattle.go_term_core.specs.declared.term.Method.{Method}
use Rattle.go_term_core.specs.declared.term.MemberPlace.{MemberPlace}
use Rattle.go_term_core.specs.declared.term.TypeTerm.{TypeTerm}
use Rattle.go_term_core.specs.declared.term.FieldLine as term_line
use Rattle.go_term_core.specs.declared.term.Params.{Params}
use Rattle.go_typexpr_core.specs.declared.written.terms.Body.{Body}
use Rattle.go_term_core.specs.Terms.{Term, Fields, NoField, AField, Methods, NoMethod, AMethod, Sign, Terms, NoTerm, ATerm}
use Rattle.go_term_core.specs.Shapes.{Line, line_with, line_at, term_at, line_shape, fields_in, terms_in, shape, sign_of, method_shapes, param_shapes}
use Rattle.go_typexpr_core.specs.written.Written.{Meaning, InFile, member_place, named_fields, for_each, for_names, term_of, signature_of, fields_of_tree, methods_of_tree, results_of_tree, params_of_tree}
use Rattle.go_typexpr_core.specs.written.mirrors.Adding.{lines_of, method_lines_of, params_in, line_fields, then_fields, then_methods, then_terms, field_in, named_in, numbers_each, numbers_of, more_numbers, AreIn, AreBelow, AreWritten, AreParams, Adds, AddsLine, AddsParams}

-- rows before others

then_none : (fs : Fields) → then_fields fs NoField ≡ fs
then_none NoField = refl
then_none (AField name place embedded t tag fs) = ap (AField name place embedded t tag) (then_none fs)

then_both : (fs gs hs : Fields) → then_fields (then_fields fs gs) hs ≡ then_fields fs (then_fields gs hs)
then_both NoField gs hs = refl
then_both (AField name place embedded t tag fs) gs hs = ap (AField name place embedded t tag) (then_both fs gs hs)

methods_then_both : (ms ns os : Methods) → then_methods (then_methods ms ns) os ≡ then_methods ms (then_methods ns os)
methods_then_both NoMethod ns os = refl
methods_then_both (AMethod name place g ms) ns os = ap (AMethod name place g) (methods_then_both ms ns os)

terms_then_both : (ts us vs : Terms) → then_terms (then_terms ts us) vs ≡ then_terms ts (then_terms us vs)
terms_then_both NoTerm us vs = refl
terms_then_both (ATerm t ts) us vs = ap (ATerm t) (terms_then_both ts us vs)

pub terms_then_none : (ts : Terms) → then_terms ts NoTerm ≡ ts
terms_then_none NoTerm = refl
terms_then_none (ATerm t ts) = ap (ATerm t) (terms_then_none ts)

-- one more in the program's list

pub methods_push : (ms : List Method) (m : Method) → method_shapes (ms ++ m ∷ []) ≡ then_methods (method_shapes ms) (AMethod m.name m.place (sign_of m.signature) NoMethod)
methods_push [] m = refl
methods_push (n ∷ ns) m = ap (AMethod n.name n.place (sign_of n.signature)) (methods_push ns m)

-- what one more adds, by its parts

pub method_added : (old new : List Method) (m : Method) (name : List ℕ) (place : MemberPlace) (g : Sign) → new ≡ old ++ m ∷ [] → m.name ≡ name → m.place ≡ place → sign_of m.signature ≡ g → method_shapes new ≡ then_methods (method_shapes old) (AMethod name place g NoMethod)
method_added old new m name place g pushed named at signed =
    ap method_shapes pushed
    ∙ methods_push old m
    ∙ (λ i. then_methods (method_shapes old) (AMethod (named i) (at i) (signed i) NoMethod))

-- lines and terms that are pushed

len_map : {X Y : Type 0} (f : X → Y) (xs : List X) → length (map f xs) ≡ length xs
len_map f [] = refl
len_map f (x ∷ xs) = ap suc (len_map f xs)

long : {X : Type 0} (xs : List X) (x : X) → length (xs ++ x ∷ []) ≡ suc (length xs)
long [] x = refl
long (y ∷ xs) x = ap suc (long xs x)

line_front : (ls : List Line) (l : Line) (n : ℕ) → n < length ls → line_at (ls ++ l ∷ []) n ≡ line_at ls n
line_front [] l n lt = absurd (omega (arith, lt))
line_front (k ∷ ls) l zero lt = refl
line_front (k ∷ ls) l (suc n) lt = line_front ls l n (omega (arith, lt))

line_back : (ls : List Line) (l : Line) → line_at (ls ++ l ∷ []) (length ls) ≡ l
line_back [] l = refl
line_back (k ∷ ls) l = line_back ls l

term_front : (ts : List Term) (t : Term) (n : ℕ) → n < length ts → term_at (ts ++ t ∷ []) n ≡ term_at ts n
term_front [] t n lt = absurd (omega (arith, lt))
term_front (u ∷ ts) t zero lt = refl
term_front (u ∷ ts) t (suc n) lt = term_front ts t n (omega (arith, lt))

term_back : (ts : List Term) (t : Term) → term_at (ts ++ t ∷ []) (length ts) ≡ t
term_back [] t = refl
term_back (u ∷ ts) t = term_back ts t

-- fields of lines that are there

fields_front : (ls : List Line) (l : Line) (fs : List Field) → AreIn (length ls) fs → fields_in (ls ++ l ∷ []) fs ≡ fields_in ls fs
fields_front ls l [] h = refl
fields_front ls l (f ∷ fs) h = λ i. AField f.name f.place (line_front ls l f.line h.0 i).embedded (line_front ls l f.line h.0 i).term (line_front ls l f.line h.0 i).tag (fields_front ls l fs h.1 i)

fields_both : (ls : List Line) (fs gs : List Field) → fields_in ls (fs ++ gs) ≡ then_fields (fields_in ls fs) (fields_in ls gs)
fields_both ls [] gs = refl
fields_both ls (f ∷ fs) gs = ap (AField f.name f.place (line_at ls f.line).embedded (line_at ls f.line).term (line_at ls f.line).tag) (fields_both ls fs gs)

pub one_back : (f : InFile) (ls : List Line) (l : Line) (x : Ident) → fields_in (ls ++ l ∷ []) (field_in f (length ls) x ∷ []) ≡ AField x.name (member_place f kinds.Field x.span.start) l.embedded l.term l.tag NoField
one_back f ls l x = λ i. AField x.name (member_place f kinds.Field x.span.start) (line_back ls l i).embedded (line_back ls l i).term (line_back ls l i).tag NoField

pub named_back : (f : InFile) (ls : List Line) (t : Term) (tag : List ℕ) (xs : Separated Ident) → fields_in (ls ++ line_with false t tag ∷ []) (named_in f (length ls) xs) ≡ named_fields f t tag xs NoField
named_back f ls t tag (One x) = one_back f ls (line_with false t tag) x
named_back f ls t tag (Then x comma xs) =
    let b = line_back ls (line_with false t tag) in
    λ i. AField x.name (member_place f kinds.Field x.span.start) (b i).embedded (b i).term (b i).tag (named_back f ls t tag xs i)

in_more : (n : ℕ) (fs : List Field) → AreIn n fs → AreIn (suc n) fs
in_more n [] h = tt
in_more n (f ∷ fs) h = (let lt = h.0 in omega (arith, lt), in_more n fs h.1)

in_both : (n : ℕ) (fs gs : List Field) → AreIn n fs → AreIn n gs → AreIn n (fs ++ gs)
in_both n [] gs h k = k
in_both n (f ∷ fs) gs h k = (h.0, in_both n fs gs h.1 k)

pub in_named : (f : InFile) (n : ℕ) (xs : Separated Ident) → AreIn (suc n) (named_in f n xs)
in_named f n (One x) = (omega arith, tt)
in_named f n (Then x comma xs) = (omega arith, in_named f n xs)

-- fields of one more line
body_added : (old new : Body) (gs : List Field) (l : Line) (added : Fields) → new.fields.items ≡ old.fields.items ++ gs → AddsLine old.lines.items l new.lines.items
    → fields_in (map line_shape old.lines.items ++ l ∷ []) gs ≡ added → AreIn (suc (length (map line_shape old.lines.items))) gs → Adds old added new
body_added old new gs l added fields lines is inside all h =
    let ls = map line_shape old.lines.items in
    let fs = old.fields.items in (
      (λ i. fields_in (lines i) (fields i))
          ∙ fields_both (ls ++ l ∷ []) fs gs
          ∙ (λ i. then_fields (fields_front ls l fs h.1 i) (is i))
          ∙ ap (λ x. then_fields x added) h.0,
      subst (λ (k : List Line). AreIn (length k) new.fields.items) (sym lines) (subst (λ (k : List Field). AreIn (length (ls ++ l ∷ [])) k) (sym fields) (subst (λ n. AreIn n (fs ++ gs)) (sym (long ls l)) (in_both (suc (length ls)) fs gs (in_more (length ls) fs h.1) inside))),
    )

pub named_added : (f : InFile) (t : Term) (tag : List ℕ) (xs : Separated Ident) (n : ℕ) (old new : Body) → n ≡ length old.lines.items → new.fields.items ≡ old.fields.items ++ named_in f n xs → AddsLine old.lines.items (line_with false t tag) new.lines.items → Adds old (named_fields f t tag xs NoField) new
named_added f t tag xs n old new number fields lines =
    let ls = map line_shape old.lines.items in
    let here : n ≡ length ls = number ∙ sym (len_map line_shape old.lines.items) in
    body_added old new (named_in f (length ls) xs) (line_with false t tag) (named_fields f t tag xs NoField) (fields ∙ ap (λ k. old.fields.items ++ named_in f k xs) here) lines (named_back f ls t tag xs) (in_named f (length ls) xs)

pub embedded_added : (f : InFile) (t : Term) (tag : List ℕ) (x : Ident) (n : ℕ) (old new : Body) → n ≡ length old.lines.items → new.fields.items ≡ old.fields.items ++ field_in f n x ∷ [] → AddsLine old.lines.items (line_with true t tag) new.lines.items → Adds old (AField x.name (member_place f kinds.Field x.span.start) true t tag NoField) new
embedded_added f t tag x n old new number fields lines =
    let ls = map line_shape old.lines.items in
    let here : n ≡ length ls = number ∙ sym (len_map line_shape old.lines.items) in
    body_added old new (field_in f (length ls) x ∷ []) (line_with true t tag) _ (fields ∙ ap (λ k. old.fields.items ++ field_in f k x ∷ []) here) lines (one_back f ls (line_with true t tag) x) (omega arith, tt)

pub field_added : (f : InFile) (x : Ident) (old new : List Field) (g : Field) → new ≡ old ++ g ∷ [] → g.name ≡ x.name → g.place ≡ member_place f kinds.Field x.span.start → new ≡ old ++ record { name = x.name; place = member_place f kinds.Field x.span.start; line = g.line } ∷ []
field_added f x old new g pushed named at = pushed ∙ (λ i. old ++ record { name = named i; place = at i; line = g.line } ∷ [])

pub line_added : (old new : List term_line.FieldLine) (l : term_line.FieldLine) (t : Term) (tag : List ℕ) → new ≡ old ++ l ∷ [] → shape l.term ≡ t → l.tag ≡ tag → AddsLine old (line_with l.embedded t tag) new
line_added old new l t tag pushed termed tagged = ap (map line_shape) pushed ∙ map-append line_shape old (l ∷ []) ∙ (λ i. map line_shape old ++ line_with l.embedded (termed i) (tagged i) ∷ [])

-- names

named_in_push : (f : InFile) (n : ℕ) (x : Ident) (ns : List NextIdent) (y : NextIdent) → named_in f n (idents_from x (ns ++ y ∷ [])) ≡ named_in f n (idents_from x ns) ++ field_in f n y.ident ∷ []
named_in_push f n x [] y = refl
named_in_push f n x (m ∷ ns) y = ap (λ fs. field_in f n x ∷ fs) (named_in_push f n m.ident ns y)

-- one more name behind others
pub named_step : (f : InFile) (n : ℕ) (x : Ident) (items : List NextIdent) (i : ℕ) (y : NextIdent) (old middle new : List Field) → i < length items → y ≡ get_or items i y → middle ≡ old ++ named_in f n (idents_from x (take i items)) → new ≡ middle ++ field_in f n y.ident ∷ [] → new ≡ old ++ named_in f n (idents_from x (take (i + 1) items))
named_step f n x items i y old middle new lt is before now =
    now
    ∙ ap (λ fs. fs ++ field_in f n y.ident ∷ []) before
    ∙ append_assoc old (named_in f n (idents_from x (take i items))) (field_in f n y.ident ∷ [])
    ∙ ap (λ fs. old ++ fs) (sym (named_in_push f n x (take i items) y) ∙ ap (λ ns. named_in f n (idents_from x ns)) (ap (λ m. take i items ++ m ∷ []) is ∙ sym (take_more items i y lt)))

pub named_whole : (f : InFile) (n : ℕ) (x : Ident) (items xs : List NextIdent) (i : ℕ) (old new : List Field) → items ≡ xs → length items ≤ i → new ≡ old ++ named_in f n (idents_from x (take i items)) → new ≡ old ++ named_in f n (idents_from x xs)
named_whole f n x items xs i old new is h seen = seen ∙ ap (λ ns. old ++ named_in f n (idents_from x ns)) (take_all i items h ∙ is)

named_before : (f : InFile) (t : Term) (tag : List ℕ) (xs : Separated Ident) (rest : Fields) → named_fields f t tag xs rest ≡ then_fields (named_fields f t tag xs NoField) rest
named_before f t tag (One x) rest = refl
named_before f t tag (Then x comma xs) rest = ap (AField x.name (member_place f kinds.Field x.span.start) false t tag) (named_before f t tag xs rest)

-- the same type for each name

for_each_before : (t : Term) (xs : Separated Ident) (rest : Terms) → for_each t xs rest ≡ then_terms (for_each t xs NoTerm) rest
for_each_before t (One x) rest = refl
for_each_before t (Then x comma xs) rest = ap (ATerm t) (for_each_before t xs rest)

for_names_before : (t : Term) (xs : Option (Separated Ident)) (rest : Terms) → for_names t xs rest ≡ then_terms (for_names t xs NoTerm) rest
for_names_before t None rest = refl
for_names_before t (Some xs) rest = for_each_before t xs rest

more_push : (n : ℕ) (ys : List NextIdent) (y : NextIdent) → more_numbers n (ys ++ y ∷ []) ≡ more_numbers n ys ++ n ∷ []
more_push n [] y = refl
more_push n (z ∷ ys) y = ap (λ l. n ∷ l) (more_push n ys y)

each_more : (n : ℕ) (x : Ident) (ys : List NextIdent) → numbers_each n (idents_from x ys) ≡ n ∷ more_numbers n ys
each_more n x [] = refl
each_more n x (y ∷ ys) = ap (λ l. n ∷ l) (each_more n y.ident ys)

pub more_step : (n : ℕ) (items : List NextIdent) (i : ℕ) (y : NextIdent) (old middle new : List ℕ) → i < length items → y ≡ get_or items i y → middle ≡ old ++ more_numbers n (take i items) → new ≡ middle ++ n ∷ [] → new ≡ old ++ more_numbers n (take (i + 1) items)
more_step n items i y old middle new lt is before now =
    now
    ∙ ap (λ l. l ++ n ∷ []) before
    ∙ append_assoc old (more_numbers n (take i items)) (n ∷ [])
    ∙ ap (λ l. old ++ l) (sym (more_push n (take i items) y) ∙ ap (more_numbers n) (ap (λ m. take i items ++ m ∷ []) is ∙ sym (take_more items i y lt)))

pub more_whole : (n : ℕ) (items xs : List NextIdent) (i : ℕ) (old new : List ℕ) → items ≡ xs → length items ≤ i → new ≡ old ++ more_numbers n (take i items) → new ≡ old ++ more_numbers n xs
more_whole n items xs i old new is h seen = seen ∙ ap (λ ns. old ++ more_numbers n ns) (take_all i items h ∙ is)

pub numbers_some : (n : ℕ) (names : Option Idents) (xs : Idents) (old middle new : List ℕ) → names ≡ Some xs → middle ≡ old ++ n ∷ [] → new ≡ middle ++ more_numbers n xs.more.items → new ≡ old ++ numbers_of n (shape_names names)
numbers_some n names xs old middle new some first more =
    more
    ∙ ap (λ l. l ++ more_numbers n xs.more.items) first
    ∙ append_assoc old (n ∷ []) (more_numbers n xs.more.items)
    ∙ ap (λ l. old ++ l) (sym (each_more n xs.first xs.more.items) ∙ sym (ap (λ ns. numbers_of n (shape_names ns)) some))

pub numbers_none : (n : ℕ) (names : Option Idents) (old new : List ℕ) → names ≡ None → new ≡ old ++ n ∷ [] → new ≡ old ++ numbers_of n (shape_names names)
numbers_none n names old new none first = first ∙ ap (λ l. old ++ l) (sym (ap (λ ns. numbers_of n (shape_names ns)) none))

-- parameters of one more term

terms_front : (ts : List Term) (t : Term) (ns : List ℕ) → AreBelow (length ts) ns → terms_in (ts ++ t ∷ []) ns ≡ terms_in ts ns
terms_front ts t [] h = refl
terms_front ts t (n ∷ ns) h = λ i. ATerm (term_front ts t n h.0 i) (terms_front ts t ns h.1 i)

terms_both : (ts : List Term) (ns ms : List ℕ) → terms_in ts (ns ++ ms) ≡ then_terms (terms_in ts ns) (terms_in ts ms)
terms_both ts [] ms = refl
terms_both ts (n ∷ ns) ms = ap (ATerm (term_at ts n)) (terms_both ts ns ms)

each_back : (ts : List Term) (t : Term) (xs : Separated Ident) → terms_in (ts ++ t ∷ []) (numbers_each (length ts) xs) ≡ for_each t xs NoTerm
each_back ts t (One x) = ap (λ u. ATerm u NoTerm) (term_back ts t)
each_back ts t (Then x comma xs) = λ i. ATerm (term_back ts t i) (each_back ts t xs i)

names_back : (ts : List Term) (t : Term) (xs : Option (Separated Ident)) → terms_in (ts ++ t ∷ []) (numbers_of (length ts) xs) ≡ for_names t xs NoTerm
names_back ts t None = ap (λ u. ATerm u NoTerm) (term_back ts t)
names_back ts t (Some xs) = each_back ts t xs

below_more : (n : ℕ) (ns : List ℕ) → AreBelow n ns → AreBelow (suc n) ns
below_more n [] h = tt
below_more n (m ∷ ns) h = (let lt = h.0 in omega (arith, lt), below_more n ns h.1)

below_both : (n : ℕ) (ns ms : List ℕ) → AreBelow n ns → AreBelow n ms → AreBelow n (ns ++ ms)
below_both n [] ms h k = k
below_both n (m ∷ ns) ms h k = (h.0, below_both n ns ms h.1 k)

each_below : (n : ℕ) (xs : Separated Ident) → AreBelow (suc n) (numbers_each n xs)
each_below n (One x) = (omega arith, tt)
each_below n (Then x comma xs) = (omega arith, each_below n xs)

names_below : (n : ℕ) (xs : Option (Separated Ident)) → AreBelow (suc n) (numbers_of n xs)
names_below n None = (omega arith, tt)
names_below n (Some xs) = each_below n xs

pub param_added : (t : TypeTerm) (xs : Option (Separated Ident)) (n : ℕ) (old new : Params) → n ≡ length old.terms.items → new.lines.items ≡ old.lines.items ++ numbers_of n xs → new.terms.items ≡ old.terms.items ++ t ∷ [] → AddsParams old (for_names (shape t) xs NoTerm) new
param_added t xs n old new number numbers pushed all h =
    let ts = map shape old.terms.items in
    let ns = old.lines.items in
    let here : n ≡ length ts = number ∙ sym (len_map shape old.terms.items) in
    let lines : new.lines.items ≡ ns ++ numbers_of (length ts) xs = numbers ∙ ap (λ k. ns ++ numbers_of k xs) here in
    let terms : map shape new.terms.items ≡ ts ++ shape t ∷ [] = ap (map shape) pushed ∙ map-append shape old.terms.items (t ∷ []) in (
      (λ i. terms_in (terms i) (lines i))
          ∙ terms_both (ts ++ shape t ∷ []) ns (numbers_of (length ts) xs)
          ∙ (λ i. then_terms (terms_front ts (shape t) ns h.1 i) (names_back ts (shape t) xs i))
          ∙ ap (λ x. then_terms x (for_names (shape t) xs NoTerm)) h.0,
      subst (λ (k : List Term). AreBelow (length k) new.lines.items) (sym terms) (subst (λ (k : List ℕ). AreBelow (length (ts ++ shape t ∷ [])) k) (sym lines) (subst (λ k. AreBelow k (ns ++ numbers_of (length ts) xs)) (sym (long ts (shape t))) (below_both (suc (length ts)) ns (numbers_of (length ts) xs) (below_more (length ts) ns h.1) (names_below (length ts) xs)))),
    )

pub params_start : (ps : Params) → ps.lines.items ≡ [] → ps.terms.items ≡ [] → AreParams NoTerm ps
params_start ps lines terms = (λ i. terms_in (map shape (terms i)) (lines i), subst (λ (ns : List ℕ). AreBelow (length (map shape ps.terms.items)) ns) (sym lines) tt)

pub body_start : (body : Body) → body.fields.items ≡ [] → body.lines.items ≡ [] → AreWritten NoField body
body_start body fields lines = (λ i. fields_in (map line_shape (lines i)) (fields i), subst (λ (fs : List Field). AreIn (length (map line_shape body.lines.items)) fs) (sym fields) tt)

module _ (mean : Meaning) (f : InFile) where
  -- lines of fields

  line_before : (fs : declared_fields.Fields) (tag : _) (s : _) (rest : FieldTrees) → fields_of_tree mean f (fields_before fs tag s rest) ≡ then_fields (line_fields mean f fs tag) (fields_of_tree mean f rest)
  line_before (lines.Named xs t) tag s rest = named_before f _ _ (shape_idents xs) (fields_of_tree mean f rest)
  line_before (lines.Embedded star n) tag s rest = refl

  lines_push : (ls : List FieldLine) (l : FieldLine) → fields_of_tree mean f (lines_of (ls ++ l ∷ [])) ≡ then_fields (fields_of_tree mean f (lines_of ls)) (line_fields mean f l.fields l.tag)
  lines_push [] l = line_before l.fields l.tag l.semicolon _ ∙ then_none (line_fields mean f l.fields l.tag)
  lines_push (k ∷ ks) l =
      let first = line_fields mean f k.fields k.tag in
      line_before k.fields k.tag k.semicolon (lines_of (ks ++ l ∷ []))
      ∙ ap (then_fields first) (lines_push ks l)
      ∙ sym (then_both first (fields_of_tree mean f (lines_of ks)) (line_fields mean f l.fields l.tag))
      ∙ ap (λ gs. then_fields gs (line_fields mean f l.fields l.tag)) (sym (line_before k.fields k.tag k.semicolon (lines_of ks)))

  pub lines_step : (items : List FieldLine) (i : ℕ) (l : FieldLine) (middle new : Body) → i < length items → l ≡ get_or items i l → AreWritten (fields_of_tree mean f (lines_of (take i items))) middle → Adds middle (line_fields mean f l.fields l.tag) new → AreWritten (fields_of_tree mean f (lines_of (take (i + 1) items))) new
  lines_step items i l middle new lt is before adds =
      subst (λ (fs : Fields). AreWritten fs new)
      (sym (lines_push (take i items) l) ∙ ap (λ ls. fields_of_tree mean f (lines_of ls)) (ap (λ m. take i items ++ m ∷ []) is ∙ sym (take_more items i l lt)))
      (adds (fields_of_tree mean f (lines_of (take i items))) before)

  pub lines_whole : (items xs : List FieldLine) (i : ℕ) (new : Body) → items ≡ xs → length items ≤ i → AreWritten (fields_of_tree mean f (lines_of (take i items))) new → AreWritten (fields_of_tree mean f (lines_of xs)) new
  lines_whole items xs i new is h seen = subst (λ (fs : Fields). AreWritten fs new) (ap (λ ls. fields_of_tree mean f (lines_of ls)) (take_all i items h ∙ is)) seen

  -- lines of methods

  abbrev pub line_method : MethodLine → Methods
  line_method (MethodLine' x g s) = AMethod x.name (member_place f kinds.Method x.span.start) (signature_of mean f (shape_signature g)) NoMethod

  method_has : (m : MethodLine) → line_method m ≡ AMethod (out-MethodLine m).name.name (member_place f kinds.Method (out-MethodLine m).name.span.start) (signature_of mean f (shape_signature (out-MethodLine m).signature)) NoMethod
  method_has m = ap line_method (is-MethodLine' m)

  method_lines_push : (ms : List MethodLine) (m : MethodLine) → methods_of_tree mean f (method_lines_of (ms ++ m ∷ [])) ≡ then_methods (methods_of_tree mean f (method_lines_of ms)) (line_method m)
  method_lines_push [] (MethodLine' x g s) = refl
  method_lines_push (MethodLine' x g s ∷ ms) m = ap (AMethod x.name (member_place f kinds.Method x.span.start) (signature_of mean f (shape_signature g))) (method_lines_push ms m)

  pub method_lines_step : (items : List MethodLine) (i : ℕ) (m : MethodLine) (middle new : List Method) (g : Sign) → i < length items → m ≡ get_or items i m → method_shapes middle ≡ methods_of_tree mean f (method_lines_of (take i items)) → g ≡ signature_of mean f (shape_signature (out-MethodLine m).signature) → method_shapes new ≡ then_methods (method_shapes middle) (AMethod (out-MethodLine m).name.name (member_place f kinds.Method (out-MethodLine m).name.span.start) g NoMethod) → method_shapes new ≡ methods_of_tree mean f (method_lines_of (take (i + 1) items))
  method_lines_step items i m middle new g lt is before same now =
      now
      ∙ ap (λ g. then_methods (method_shapes middle) (AMethod (out-MethodLine m).name.name (member_place f kinds.Method (out-MethodLine m).name.span.start) g NoMethod)) same
      ∙ ap (then_methods (method_shapes middle)) (sym (method_has m))
      ∙ ap (λ ns. then_methods ns (line_method m)) before
      ∙ sym (method_lines_push (take i items) m)
      ∙ ap (λ ls. methods_of_tree mean f (method_lines_of ls)) (ap (λ k. take i items ++ k ∷ []) is ∙ sym (take_more items i m lt))

  pub method_lines_whole : (items xs : List MethodLine) (i : ℕ) (new : List Method) → items ≡ xs → length items ≤ i → method_shapes new ≡ methods_of_tree mean f (method_lines_of (take i items)) → method_shapes new ≡ methods_of_tree mean f (method_lines_of xs)
  method_lines_whole items xs i new is h seen = seen ∙ ap (λ ls. methods_of_tree mean f (method_lines_of ls)) (take_all i items h ∙ is)

  -- parameters

  abbrev pub param_terms : declared_param.Param → Terms
  param_terms p = for_names (term_of mean f (shape_type p.type_expr)) (shape_names p.names) NoTerm

  params_push : (ps : List declared_param.Param) (p : declared_param.Param) → params_of_tree mean f (params_in (ps ++ p ∷ [])) ≡ then_terms (params_of_tree mean f (params_in ps)) (param_terms p)
  params_push [] p = refl
  params_push (q ∷ qs) p =
      let t = term_of mean f (shape_type q.type_expr) in
      for_names_before t (shape_names q.names) (params_of_tree mean f (params_in (qs ++ p ∷ [])))
      ∙ ap (then_terms (param_terms q)) (params_push qs p)
      ∙ sym (terms_then_both (param_terms q) (params_of_tree mean f (params_in qs)) (param_terms p))
      ∙ ap (λ us. then_terms us (param_terms p)) (sym (for_names_before t (shape_names q.names) (params_of_tree mean f (params_in qs))))

  pub params_step : (items : List declared_param.Param) (i : ℕ) (p : declared_param.Param) (middle new : Params) (t : Term) → i < length items → p ≡ get_or items i p → AreParams (params_of_tree mean f (params_in (take i items))) middle → t ≡ term_of mean f (shape_type p.type_expr) → AddsParams middle (for_names t (shape_names p.names) NoTerm) new → AreParams (params_of_tree mean f (params_in (take (i + 1) items))) new
  params_step items i p middle new t lt is before same adds =
      let all = params_of_tree mean f (params_in (take i items)) in
      subst (λ (ts : Terms). AreParams ts new)
      (ap (λ t. then_terms all (for_names t (shape_names p.names) NoTerm)) same ∙ sym (params_push (take i items) p) ∙ ap (λ ps. params_of_tree mean f (params_in ps)) (ap (λ q. take i items ++ q ∷ []) is ∙ sym (take_more items i p lt)))
      (adds all before)

  pub params_whole : (items xs : List declared_param.Param) (i : ℕ) (new : Params) → items ≡ xs → length items ≤ i → AreParams (params_of_tree mean f (params_in (take i items))) new → param_shapes new ≡ params_of_tree mean f (params_in xs)
  params_whole items xs i new is h seen = seen.0 ∙ ap (λ ps. params_of_tree mean f (params_in ps)) (take_all i items h ∙ is)

  pub listed_has : (r : declared_results.Results) (p : tree_params.Params) → r ≡ results.Listed p → results_of_tree mean f (shape_results r) ≡ params_of_tree mean f (params_in (tree_params.out-Params p).entries.items)
  listed_has r p is = ap (λ r. results_of_tree mean f (shape_results r)) is ∙ ap (results_of_tree mean f) (listed_parts p)
