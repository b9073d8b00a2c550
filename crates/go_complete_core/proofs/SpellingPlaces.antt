-- Another spelling of one identifier of an initialiser leaves the places of what its file declares as they were.
use Rattle.std.proofs.Common.{◌≡◌, ℕ, List, ◌∷◌, ◌++◌, map, length, refl, sym, ap, ◌∙◌}
use Rattle.std.specs.Prelude.{Option}
use Rattle.std.specs.List.{flat_map}
use Rattle.std.proofs.lemmas.List.{map-append, length-map}
use Rattle.go_tree_nodes.specs.text_core.declared.span.Span.{Span}
use Rattle.go_tree_nodes.specs.declared.names.Ident.{Ident}
use Rattle.go_tree_nodes.specs.declared.decls.ValueKind.{ValueKind}
use Rattle.go_tree_nodes.specs.declared.types.TypeName.{TypeName}
use Rattle.go_tree_nodes.specs.Trees.{Separated, TypeTree, FieldTrees, MethodTrees, SignatureTree, ResultTree, ParamTrees, ExprTree, ItemTrees, ValueSpecTree, Specs, TopTree, of_specs}
use Rattle.go_term_core.specs.decl_core.declared.places.DeclKind.TheVariants as kinds
use Rattle.go_term_core.specs.decl_core.Outer.{Outer, Whole, Part, Embedded, outer, idents_outers, last_ident, names_outers, type_outers, fields_outers, methods_outers, signature_outers, result_outers, params_outers, expr_outers, items_outers, exprs_outers, some_type_outers, kind_of_value, value_spec_outers, decl_outers, tops_outers, place_of}
use Rattle.go_stmt_core.specs.expr_core.Respelling.{RespellsName, InPlain, InQualifier, BehindDot, RespellsType, InNamedType, InPointer, InParenType, InStruct, InInterface, RespellsFields, InFieldType, InLaterFields, InEmbedded, BehindEmbedded, RespellsMethods, InMethod, InLaterMethods, RespellsSignature, InParams, InResult, RespellsResult, InOneResult, InResults, RespellsParams, InParam, InLaterParams, Respells, InName, InParen, InUnary, InLeft, InRight, InOperand, InSelector, InCallee, InArguments, InLiteralType, InElements, InStructType, InStructElements, RespellsArgs, InArgument, InLaterArguments, RespellsItems, InKey, InElement, InLaterElements}
use Rattle.go_complete_core.specs.spelling.Trees.{RespellsExprs, InOnly, InFirst, InLater, RespellsValues, InValues}
use Rattle.go_complete_core.specs.spelling.Files.{WritesInGroup, AtFirst, AtLater, WritesInSpecs, InTheOnly, InTheGroup, WritesInTops, InTop, InLaterTops}

-- the places of what is declared are the same
abbrev pub Same : List Outer → List Outer → Type 0
Same xs ys = map place_of xs ≡ map place_of ys

same_both : (us bs cs ds : List Outer) → Same us bs → Same cs ds → Same (us ++ cs) (bs ++ ds)
same_both us bs cs ds h k = map-append place_of us cs ∙ (ap (λ l. l ++ map place_of cs) h ∙ (ap (λ l. map place_of bs ++ l) k ∙ sym (map-append place_of bs ds)))

-- in the first or in the second of two
in_first : (us bs cs : List Outer) → Same us bs → Same (us ++ cs) (bs ++ cs)
in_first us bs cs h = same_both us bs cs cs h refl

in_second : (us cs ds : List Outer) → Same cs ds → Same (us ++ cs) (us ++ ds)
in_second us cs ds h = same_both us us cs ds refl h

pub same_long : (xs ys : List Outer) → Same xs ys → length xs ≡ length ys
same_long xs ys h = sym (length-map xs place_of) ∙ (ap length h ∙ length-map ys place_of)

module _ (x : Ident) (name : List ℕ) where
  last_same : (n m : TypeName) → RespellsName x name n m → place_of (outer kinds.Field Embedded (last_ident n)) ≡ place_of (outer kinds.Field Embedded (last_ident m))
  last_same n m InPlain = refl
  last_same n m InQualifier = refl
  last_same n m BehindDot = refl

  mutual
    type_same : (t u : TypeTree) → RespellsType x name t u → Same (type_outers t) (type_outers u)
    type_same t u (InNamedType r) = refl
    type_same t u (InPointer r) = type_same _ _ r
    type_same t u (InParenType r) = type_same _ _ r
    type_same t u (InStruct r) = fields_same _ _ r
    type_same t u (InInterface r) = methods_same _ _ r

    fields_same : (ls ms : FieldTrees) → RespellsFields x name ls ms → Same (fields_outers ls) (fields_outers ms)
    fields_same ls ms (InFieldType {xs = xs} {t = t} {u = u} {rest = rest} r) =
        in_second (idents_outers kinds.Field Part xs) (type_outers t ++ fields_outers rest) (type_outers u ++ fields_outers rest) (in_first (type_outers t) (type_outers u) (fields_outers rest) (type_same t u r))
    fields_same ls ms (InLaterFields {xs = xs} {t = t} {rest = rest} {more = more} r) =
        in_second (idents_outers kinds.Field Part xs) (type_outers t ++ fields_outers rest) (type_outers t ++ fields_outers more) (in_second (type_outers t) (fields_outers rest) (fields_outers more) (fields_same rest more r))
    fields_same ls ms (InEmbedded {n = n} {m = m} {rest = rest} r) = ap (λ p. p ∷ map place_of (fields_outers rest)) (last_same n m r)
    fields_same ls ms (BehindEmbedded {n = n} {rest = rest} {more = more} r) = ap (λ l. place_of (outer kinds.Field Embedded (last_ident n)) ∷ l) (fields_same rest more r)

    methods_same : (ls ms : MethodTrees) → RespellsMethods x name ls ms → Same (methods_outers ls) (methods_outers ms)
    methods_same ls ms (InMethod {y = y} {a = a} {b = b} {rest = rest} r) =
        ap (λ l. place_of (outer kinds.Method Part y) ∷ l) (in_first (signature_outers a) (signature_outers b) (methods_outers rest) (signature_same a b r))
    methods_same ls ms (InLaterMethods {y = y} {a = a} {rest = rest} {more = more} r) =
        ap (λ l. place_of (outer kinds.Method Part y) ∷ l) (in_second (signature_outers a) (methods_outers rest) (methods_outers more) (methods_same rest more r))

    signature_same : (a b : SignatureTree) → RespellsSignature x name a b → Same (signature_outers a) (signature_outers b)
    signature_same a b (InParams {ps = ps} {qs = qs} {r = res} r) = in_first (params_outers ps) (params_outers qs) (result_outers res) (params_same ps qs r)
    signature_same a b (InResult {ps = ps} {r = res} {q = q} r) = in_second (params_outers ps) (result_outers res) (result_outers q) (result_same res q r)

    result_same : (a b : ResultTree) → RespellsResult x name a b → Same (result_outers a) (result_outers b)
    result_same a b (InOneResult r) = type_same _ _ r
    result_same a b (InResults r) = params_same _ _ r

    params_same : (ps qs : ParamTrees) → RespellsParams x name ps qs → Same (params_outers ps) (params_outers qs)
    params_same ps qs (InParam {xs = xs} {t = t} {u = u} {rest = rest} r) =
        in_second (names_outers xs) (type_outers t ++ params_outers rest) (type_outers u ++ params_outers rest) (in_first (type_outers t) (type_outers u) (params_outers rest) (type_same t u r))
    params_same ps qs (InLaterParams {xs = xs} {t = t} {rest = rest} {more = more} r) =
        in_second (names_outers xs) (type_outers t ++ params_outers rest) (type_outers t ++ params_outers more) (in_second (type_outers t) (params_outers rest) (params_outers more) (params_same rest more r))

  mutual
    expr_same : (e f : ExprTree) → Respells x name e f → Same (expr_outers e) (expr_outers f)
    expr_same e f InName = refl
    expr_same e f (InParen r) = expr_same _ _ r
    expr_same e f (InUnary r) = expr_same _ _ r
    expr_same e f (InLeft {a = a} {b = b} {c = c} r) = in_first (expr_outers a) (expr_outers c) (expr_outers b) (expr_same a c r)
    expr_same e f (InRight {a = a} {b = b} {c = c} r) = in_second (expr_outers a) (expr_outers b) (expr_outers c) (expr_same b c r)
    expr_same e f (InOperand r) = expr_same _ _ r
    expr_same e f InSelector = refl
    expr_same e f (InCallee {items = items} {e = a} {f = b} r) = in_first (expr_outers a) (expr_outers b) (items_outers items) (expr_same a b r)
    expr_same e f (InArguments {items = xs} {others = ys} {e = a} r) = in_second (expr_outers a) (items_outers xs) (items_outers ys) (args_same xs ys r)
    expr_same e f (InLiteralType r) = refl
    expr_same e f (InElements {items = xs} {others = ys} r) = items_same xs ys r
    expr_same e f (InStructType {items = items} {t = t} {u = u} r) = in_first (type_outers t) (type_outers u) (items_outers items) (type_same t u r)
    expr_same e f (InStructElements {items = xs} {others = ys} {t = t} r) = in_second (type_outers t) (items_outers xs) (items_outers ys) (items_same xs ys r)

    args_same : (xs ys : ItemTrees) → RespellsArgs x name xs ys → Same (items_outers xs) (items_outers ys)
    args_same xs ys (InArgument {e = a} {f = b} {rest = rest} r) = in_first (expr_outers a) (expr_outers b) (items_outers rest) (expr_same a b r)
    args_same xs ys (InLaterArguments {e = a} {rest = rest} {more = more} r) = in_second (expr_outers a) (items_outers rest) (items_outers more) (args_same rest more r)

    items_same : (xs ys : ItemTrees) → RespellsItems x name xs ys → Same (items_outers xs) (items_outers ys)
    items_same xs ys InKey = refl
    items_same xs ys (InElement {e = a} {f = b} {rest = rest} r) = in_first (expr_outers a) (expr_outers b) (items_outers rest) (expr_same a b r)
    items_same xs ys (InLaterElements {e = a} {rest = rest} {more = more} r) = in_second (expr_outers a) (items_outers rest) (items_outers more) (items_same rest more r)

  exprs_same : (es fs : Separated ExprTree) → RespellsExprs x name es fs → Same (exprs_outers es) (exprs_outers fs)
  exprs_same es fs (InOnly r) = expr_same _ _ r
  exprs_same es fs (InFirst {e = e} {f = f} {more = more} r) = in_first (expr_outers e) (expr_outers f) (exprs_outers more) (expr_same e f r)
  exprs_same es fs (InLater {e = e} {more = more} {rest = rest} r) = in_second (expr_outers e) (exprs_outers more) (exprs_outers rest) (exprs_same more rest r)

  module _ (v w : ValueSpecTree) (r : RespellsValues x name v w) where
    pub spec_same : (k : ValueKind) → Same (value_spec_outers k v) (value_spec_outers k w)
    spec_same k = at v w r
      where
        at : (a b : ValueSpecTree) → RespellsValues x name a b → Same (value_spec_outers k a) (value_spec_outers k b)
        at a b (InValues {xs = xs} {t = t} {es = es} {fs = fs} s) =
            in_second (idents_outers (kind_of_value k) Whole xs) (some_type_outers t ++ exprs_outers es) (some_type_outers t ++ exprs_outers fs) (in_second (some_type_outers t) (exprs_outers es) (exprs_outers fs) (exprs_same es fs s))

    abbrev of_group : ValueKind → List (ValueSpecTree × Option Span) → List Outer
    of_group k ls = flat_map (λ l. value_spec_outers k l.0) ls

    group_same : (k : ValueKind) (vs ws : List (ValueSpecTree × Option Span)) → WritesInGroup v w vs ws → Same (of_group k vs) (of_group k ws)
    group_same k vs ws (AtFirst {more = more}) = in_first (value_spec_outers k v) (value_spec_outers k w) (of_group k more) (spec_same k)
    group_same k vs ws (AtLater {u = u} {more = more} {rest = rest} s) = in_second (value_spec_outers k u.0) (of_group k more) (of_group k rest) (group_same k more rest s)

    pub specs_same : (k : ValueKind) (vs ws : Specs ValueSpecTree) → WritesInSpecs v w vs ws → Same (of_specs (value_spec_outers k) vs) (of_specs (value_spec_outers k) ws)
    specs_same k vs ws InTheOnly = spec_same k
    specs_same k vs ws (InTheGroup {vs = olds} {ws = news} s) = group_same k olds news s

    pub tops_same : (ds es : List TopTree) → WritesInTops v w ds es → Same (tops_outers ds) (tops_outers es)
    tops_same ds es (InTop {k = k} {vs = vs} {ws = ws} {more = more} s) = in_first (of_specs (value_spec_outers k) vs) (of_specs (value_spec_outers k) ws) (tops_outers more) (specs_same k vs ws s)
    tops_same ds es (InLaterTops {d = d} {more = more} {rest = rest} s) = in_second (decl_outers d.decl) (tops_outers more) (tops_outers rest) (tops_same more rest s)
