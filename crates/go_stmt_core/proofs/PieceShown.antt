-- The names of a piece that are looked up are among those that it writes.
use Rattle.std.proofs.Common.{Bool, true, false, List, [], ◌∷◌, ◌++◌, Option, Some, None, sym, ap, subst, ◌∙◌}
use Rattle.std.specs.Prelude.{if◌then◌else◌}
use Rattle.go_constant_core.specs.text_core.declared.span.Span.{Span}
use Rattle.go_tree_nodes.specs.token_core.declared.kind.Operator.TheVariants as operator
use Rattle.go_tree_nodes.specs.declared.names.Ident.{Ident}
use Rattle.go_tree_nodes.specs.declared.types.TypeName.{TypeName}
use Rattle.go_tree_nodes.specs.declared.types.TypeName.TheVariants as type_name
use Rattle.go_tree_nodes.specs.declared.files.Receiver.{Receiver}
use Rattle.go_tree_nodes.specs.Terminals.{Terminal}
use Rattle.go_tree_nodes.specs.Trees.{Separated, One, Then, TypeTree, FieldTrees, MethodTrees, SignatureTree, ResultTree, ParamTrees, NamedType, Pointer, ParenType, Struct, Interface, NoFields, NamedFields, EmbeddedField, NoMethods, Method, Signed, NoResult, OneResult, Results, NoParams, Param, ExprTree, ItemTrees, Integer, Text, Named, Paren, Unary, Binary, Select, Call, Literal, StructLiteral, NoItems, Item, SimpleTree, Alone, Step, Assign, Update, Define}
use Rattle.go_tree_nodes.specs.Spelling.{spell_ident, spell_idents, spell_some, spell_type_name, spell_tag, spell_names, spell_type, spell_fields, spell_methods, spell_signature, spell_result, spell_params, spell_key, spell, spell_items, spell_exprs, spell_some_type, spell_values, spell_simple, spell_receiver_name, spell_receiver}
use Rattle.go_expr_core.specs.local_core.Steps.{Piece, Header, Spec, Act, Condition, Given, spell_piece}
use Rattle.go_expr_core.specs.local_core.Outline as outline
use Rattle.go_expr_core.specs.local_core.Binding.{NameLook}
use Rattle.go_expr_core.specs.local_core.Alike.{Alike}
use Rattle.go_expr_core.specs.local_core.WalksEnds.{is_blank_target}
use Rattle.go_expr_core.specs.Looks.{Looks}
use Rattle.go_expr_core.specs.Laws.{AgreeOnIdents}
use Rattle.go_expr_core.specs.Locality.{SameWritten, seeing}
use Rattle.go_stmt_core.specs.piece.Pieces.{piece_uses, piece_faults}
use Rattle.go_stmt_core.specs.piece.Laws.{simple_idents, piece_idents, SamePiece, FindByNames, PiecesLookAtNames}
use Rattle.go_expr_core.specs.local_core.Pieces.{piece_types}
use Rattle.go_stmt_core.proofs.PieceLocal.{pieces_local}
use Rattle.go_tree_nodes.specs.Idents.{type_name_idents, type_idents, fields_idents, methods_idents, signature_type_idents, result_type_idents, params_idents, expr_idents, items_idents, receiver_type_idents, some_type_idents, list_idents}
use Rattle.go_expr_core.specs.local_core.WalksPieceIdents.{values_idents, target_idents, targets_idents}

module _ {X T S D P : Type 0} (looks : NameLook X → Looks T S D P) (law : FindByNames X T S D P looks) (look other : NameLook X) where
  abbrev Agrees : List Ident → Type 0
  Agrees xs = AgreeOnIdents (looks look).find (looks other).find xs

  -- these are found alike where the names among these terminals mean the same
  record Shown (xs : List Ident) (ts : List Terminal) : Type 0 where
    same : Alike look other ts → Agrees xs

  alike_split : (ts us : List Terminal) → Alike look other (ts ++ us) → Alike look other ts × Alike look other us
  alike_split [] us h = (tt, h)
  alike_split (t ∷ ts) us h = let rest = alike_split ts us h.1 in ((h.0, rest.0), rest.1)

  join : (xs ys : List Ident) → Agrees xs → Agrees ys → Agrees (xs ++ ys)
  join [] ys h k = k
  join (x ∷ xs) ys h k = (h.0, join xs ys h.1 k)

  none : {ts : List Terminal} → Shown [] ts
  none = record { same = λ h. tt }

  both : {xs ys : List Ident} {ts us : List Terminal} → Shown xs ts → Shown ys us → Shown (xs ++ ys) (ts ++ us)
  both {xs} {ys} {ts} {us} first second = record { same = λ h. let parts = alike_split ts us h in join xs ys (first.same parts.0) (second.same parts.1) }

  front : {xs : List Ident} {ts : List Terminal} (us : List Terminal) → Shown xs ts → Shown xs (ts ++ us)
  front {xs} {ts} us first = record { same = λ h. first.same (alike_split ts us h).0 }

  back : {xs : List Ident} (ts : List Terminal) {us : List Terminal} → Shown xs us → Shown xs (ts ++ us)
  back ts {us} second = record { same = λ h. second.same (alike_split ts us h).1 }

  skip : {xs : List Ident} {t : Terminal} {ts : List Terminal} → Shown xs ts → Shown xs (t ∷ ts)
  skip rest = record { same = λ h. rest.same h.1 }

  one : (x : Ident) {ts : List Terminal} → Shown (x ∷ []) (spell_ident x ∷ ts)
  one x = record { same = λ h. (law.find look other x.name x.span.start h.0, tt) }

  names_shown : (xs : Separated Ident) → Shown (outline.idents xs) (spell_idents xs)
  names_shown (One x) = one x
  names_shown (Then x comma more) = record { same = λ h. (law.find look other x.name x.span.start h.0, (names_shown more).same h.1.1) }

  type_name_shown : (n : TypeName) → Shown (type_name_idents n) (spell_type_name n)
  type_name_shown (type_name.Plain x) = one x
  type_name_shown (type_name.Qualified p dot x) = one p

  mutual
    type_shown : (t : TypeTree) → Shown (type_idents t) (spell_type t)
    type_shown (NamedType n) = type_name_shown n
    type_shown (Pointer star t) = skip (type_shown t)
    type_shown (ParenType first t last) = skip (front _ (type_shown t))
    type_shown (Struct k first ls last) = skip (skip (front _ (fields_shown ls)))
    type_shown (Interface k first methods last) = skip (skip (front _ (methods_shown methods)))

    fields_shown : (fs : FieldTrees) → Shown (fields_idents fs) (spell_fields fs)
    fields_shown NoFields = none
    fields_shown (NamedFields xs t tag s rest) = back (spell_idents xs) (both (type_shown t) (back (spell_tag tag) (back (spell_some operator.Semicolon s) (fields_shown rest))))
    fields_shown (EmbeddedField star n tag s rest) = back (spell_some operator.Star star) (both (type_name_shown n) (back (spell_tag tag) (back (spell_some operator.Semicolon s) (fields_shown rest))))

    methods_shown : (ms : MethodTrees) → Shown (methods_idents ms) (spell_methods ms)
    methods_shown NoMethods = none
    methods_shown (Method x signature s rest) = skip (both (signature_shown signature) (back (spell_some operator.Semicolon s) (methods_shown rest)))

    signature_shown : (s : SignatureTree) → Shown (signature_type_idents s) (spell_signature s)
    signature_shown (Signed first params last result) = skip (both (params_shown params) (skip (result_shown result)))

    result_shown : (r : ResultTree) → Shown (result_type_idents r) (spell_result r)
    result_shown NoResult = none
    result_shown (OneResult t) = type_shown t
    result_shown (Results first params last) = skip (front _ (params_shown params))

    params_shown : (ps : ParamTrees) → Shown (params_idents ps) (spell_params ps)
    params_shown NoParams = none
    params_shown (Param xs t comma rest) = back (spell_names xs) (both (type_shown t) (back (spell_some operator.Comma comma) (params_shown rest)))

  mutual
    expr_shown : (t : ExprTree) → Shown (expr_idents t) (spell t)
    expr_shown (Integer n span) = none
    expr_shown (Text t) = none
    expr_shown (Named x) = one x
    expr_shown (Paren first t last) = skip (front _ (expr_shown t))
    expr_shown (Unary op span t) = skip (expr_shown t)
    expr_shown (Binary a op span b) = both (expr_shown a) (skip (expr_shown b))
    expr_shown (Select t dot x) = front _ (expr_shown t)
    expr_shown (Call t first items last) = both (expr_shown t) (skip (front _ (items_shown items)))
    expr_shown (Literal n first items last) = both (type_name_shown n) (skip (front _ (items_shown items)))
    expr_shown (StructLiteral t first items last) = both (type_shown t) (skip (front _ (items_shown items)))

    items_shown : (is : ItemTrees) → Shown (items_idents is) (spell_items is)
    items_shown NoItems = none
    items_shown (Item key t comma rest) = back (spell_key key) (both (expr_shown t) (back (spell_some operator.Comma comma) (items_shown rest)))

  list_shown : (es : Separated ExprTree) → Shown (list_idents es) (spell_exprs es)
  list_shown (One t) = expr_shown t
  list_shown (Then t comma more) = both (expr_shown t) (skip (list_shown more))

  target_shown : (t : ExprTree) → Shown (target_idents t) (spell t)
  target_shown t = by (is_blank_target t)
    where
      by : (b : Bool) → Shown (if b then [] else expr_idents t) (spell t)
      by true = none
      by false = expr_shown t

  targets_shown : (ts : Separated ExprTree) → Shown (targets_idents ts) (spell_exprs ts)
  targets_shown (One t) = target_shown t
  targets_shown (Then t comma more) = both (target_shown t) (skip (targets_shown more))

  some_type_shown : (t : Option TypeTree) → Shown (some_type_idents t) (spell_some_type t)
  some_type_shown None = none
  some_type_shown (Some t) = type_shown t

  values_shown : (v : Option (Span × Separated ExprTree)) → Shown (values_idents v) (spell_values v)
  values_shown None = none
  values_shown (Some v) = skip (list_shown v.1)

  simple_shown : (s : SimpleTree) → Shown (simple_idents s) (spell_simple s)
  simple_shown (Alone t) = expr_shown t
  simple_shown (Step t op span) = front _ (expr_shown t)
  simple_shown (Assign ts span es) = both (targets_shown ts) (skip (list_shown es))
  simple_shown (Update t op span e) = both (expr_shown t) (skip (expr_shown e))
  simple_shown (Define xs span es) = both (names_shown xs) (skip (list_shown es))

  receiver_shown : (r : Option Receiver) → Shown (receiver_type_idents r) (spell_receiver r)
  receiver_shown None = none
  receiver_shown (Some r) = skip (back (spell_receiver_name r.name) (back (spell_some operator.Star r.star) (front _ (type_name_shown r.base))))

  piece_shown : (p : Piece) → Shown (piece_idents p) (spell_piece p)
  piece_shown (Header r s) = both (receiver_shown r) (signature_shown s)
  piece_shown (Spec k v) = back (spell_idents v.names) (both (some_type_shown v.type_expr) (values_shown v.values))
  piece_shown (Act s) = simple_shown s
  piece_shown (Condition t) = expr_shown t
  piece_shown (Given place None) = none
  piece_shown (Given place (Some es)) = list_shown es

  -- the same is made of a piece
  seen_alike : (p : Piece) → Alike look other (spell_piece p) → SamePiece T S D P (looks look) (looks other) p
  seen_alike p h =
      let beside = seeing (looks other).find (looks other).written (looks look) in
      let written : SameWritten (looks look) beside (piece_types p) = subst (λ l. SameWritten (looks look) l (piece_types p)) (law.rest look other) (law.written look other p h) in
      subst (λ l. SamePiece T S D P (looks look) l p) (sym (law.rest look other)) (pieces_local T S D P (looks look) (looks other).find (looks other).written p ((piece_shown p).same h) written)

pub pieces_look : (X N T S D P : Type 0) → PiecesLookAtNames X N T S D P
pieces_look X N T S D P looks results has_names note mean law = record {
  notes = λ look other firsts p h.
      let same = seen_alike looks law look other p h in
      ap (λ us. note p us (piece_faults (looks look) results has_names firsts p)) same.uses ∙ ap (note p (piece_uses (looks other) p)) (same.faults results has_names firsts);
  means = λ look other firsts p h. ap (mean p) ((seen_alike looks law look other p h).values firsts);
}
