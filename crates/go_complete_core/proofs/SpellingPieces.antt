-- Pieces of functions in which one identifier is spelled anew.
use Rattle.std.proofs.Common.{◌≡◌, ℕ, Bool, true, false, List, [], ◌++◌, map, refl, sym, ap, subst, ◌∙◌, if◌then◌else◌}
use Rattle.std.specs.Prelude.{⊤, Option, Some, None}
use Rattle.std.proofs.lemmas.List.{map-append}
use Rattle.go_tree_nodes.specs.text_core.declared.span.Span.{Span}
use Rattle.go_tree_nodes.specs.declared.names.Ident.{Ident}
use Rattle.go_tree_nodes.specs.declared.files.Receiver.{Receiver}
use Rattle.go_tree_nodes.specs.declared.types.TypeName.{TypeName}
use Rattle.go_tree_nodes.specs.Trees.{Separated, One, Then, TypeTree, SignatureTree, ExprTree, ValueSpecTree, SimpleTree, Alone, Step, Assign, Update, Define}
use Rattle.go_names_core.specs.local_core.WalksEnds.{is_blank_target}
use Rattle.go_names_core.specs.local_core.Steps.{Piece, Header, Spec, Act, Condition, Given}
use Rattle.go_cursor_core.specs.denote_core.declared.things.Stand.TheVariants as stands
use Rattle.go_stmt_core.specs.expr_core.declared.things.Use.{Use}
use Rattle.go_stmt_core.specs.expr_core.Looks.{Looks}
use Rattle.go_stmt_core.specs.expr_core.Lists.{exprs_uses}
use Rattle.go_stmt_core.specs.expr_core.Respelling.{Respells, RespellsName, RespellsType, RespellsSignature}
use Rattle.go_stmt_core.specs.expr_core.TypeUses.{type_uses, signature_uses}
use Rattle.go_stmt_core.specs.expr_core.Uses.{Spot, use_of, uses, spots, type_name_spots, type_name_uses, type_spots, signature_spots}
use Rattle.go_stmt_core.specs.expr_core.Independence.{len, map_len, own_name}
use Rattle.go_stmt_core.specs.piece.Headers.{receiver_uses}
use Rattle.go_stmt_core.specs.piece.Pieces.{piece_uses}
use Rattle.go_stmt_core.specs.piece.Specifications.{spec_uses, values_uses}
use Rattle.go_stmt_core.specs.piece.Statements.{simple_uses, returned_uses}
use Rattle.go_stmt_core.specs.piece.Targets.{target_uses, targets_uses}
use Rattle.go_stmt_core.specs.piece.Types.{some_type_uses}
use Rattle.go_complete_core.specs.spelling.Contexts.{ContextStays}
use Rattle.go_complete_core.specs.spelling.PieceContexts.{PieceContextsStay}
use Rattle.go_complete_core.specs.spelling.PieceSpots.{exprs_spots, some_type_spots, values_spots, spec_spots, target_spots, targets_spots, simple_spots, receiver_spots, given_spots, piece_spots}
use Rattle.go_complete_core.specs.spelling.Trees.{RespellsExprs, RespellsValues, InValues, RespellsSpec, InSomeValues, InSpecType, RespellsTarget, InTarget, RespellsTargets, InOnlyTarget, InFirstTarget, InLaterTarget, RespellsSimple, InAlone, InStep, InTargets, InAssigned, InUpdated, InUpdate, InDefined, RespellsPiece, InReceiver, InSignature, InSpec, InAct, InCondition, InGiven}
use Rattle.go_complete_core.proofs.SpellingSplits.{split_stays, behind, before}
use Rattle.go_complete_core.proofs.SpellingChanges.{Change, OfName, OfSelector, OfElement, of_name, of_type, of_signature}
use Rattle.go_complete_core.proofs.SpellingInLists.{in_list}

module _ {T S D P : Type 0} (looks : Looks T S D P) where
  -- what is noted is what the spots have

  exprs_used : (es : Separated ExprTree) → exprs_uses looks es ≡ map (use_of looks) (exprs_spots looks es)
  exprs_used (One e) = refl
  exprs_used (Then e comma more) = ap (λ l. uses looks stands.«Value» e ++ l) (exprs_used more) ∙ sym (map-append (use_of looks) (spots looks stands.«Value» e) (exprs_spots looks more))

  type_used : (t : Option TypeTree) → some_type_uses looks t ≡ map (use_of looks) (some_type_spots looks t)
  type_used None = refl
  type_used (Some t) = refl

  values_used : (vs : Option (Span × Separated ExprTree)) → values_uses looks vs ≡ map (use_of looks) (values_spots looks vs)
  values_used None = refl
  values_used (Some vs) = exprs_used vs.1

  two_used : (us ws : List (Use D P)) (ps bs : List (Spot T D P)) → us ≡ map (use_of looks) ps → ws ≡ map (use_of looks) bs → us ++ ws ≡ map (use_of looks) (ps ++ bs)
  two_used us ws ps bs h k = ap (λ l. l ++ ws) h ∙ (ap (λ l. map (use_of looks) ps ++ l) k ∙ sym (map-append (use_of looks) ps bs))

  spec_used : (v : ValueSpecTree) → spec_uses looks v ≡ map (use_of looks) (spec_spots looks v)
  spec_used v = two_used (some_type_uses looks v.type_expr) (values_uses looks v.values) (some_type_spots looks v.type_expr) (values_spots looks v.values) (type_used v.type_expr) (values_used v.values)

  either_used : (b : Bool) (us : List (Use D P)) (ps : List (Spot T D P)) → us ≡ map (use_of looks) ps → (if b then [] else us) ≡ map (use_of looks) (if b then [] else ps)
  either_used true us ps h = refl
  either_used false us ps h = h

  target_used : (e : ExprTree) → target_uses looks e ≡ map (use_of looks) (target_spots looks e)
  target_used e = either_used (is_blank_target e) (uses looks stands.«Value» e) (spots looks stands.«Value» e) refl

  targets_used : (es : Separated ExprTree) → targets_uses looks es ≡ map (use_of looks) (targets_spots looks es)
  targets_used (One e) = target_used e
  targets_used (Then e comma more) = two_used (target_uses looks e) (targets_uses looks more) (target_spots looks e) (targets_spots looks more) (target_used e) (targets_used more)

  simple_used : (s : SimpleTree) → simple_uses looks s ≡ map (use_of looks) (simple_spots looks s)
  simple_used (Alone e) = refl
  simple_used (Step e op span) = refl
  simple_used (Assign ts span es) = two_used (targets_uses looks ts) (exprs_uses looks es) (targets_spots looks ts) (exprs_spots looks es) (targets_used ts) (exprs_used es)
  simple_used (Update e op span v) = two_used (uses looks stands.«Value» e) (uses looks stands.«Value» v) (spots looks stands.«Value» e) (spots looks stands.«Value» v) refl refl
  simple_used (Define xs span es) = exprs_used es

  receiver_used : (r : Option Receiver) → receiver_uses looks r ≡ map (use_of looks) (receiver_spots looks r)
  receiver_used None = refl
  receiver_used (Some r) = refl

  given_used : (es : Option (Separated ExprTree)) → returned_uses looks es ≡ map (use_of looks) (given_spots looks es)
  given_used None = refl
  given_used (Some es) = exprs_used es

  pub piece_used : (p : Piece) → piece_uses looks p ≡ map (use_of looks) (piece_spots looks p)
  piece_used (Header r g) = two_used (receiver_uses looks r) (signature_uses looks g) (receiver_spots looks r) (signature_spots looks g) (receiver_used r) refl
  piece_used (Spec k v) = spec_used v
  piece_used (Act s) = simple_used s
  piece_used (Condition e) = refl
  piece_used (Given place es) = given_used es

  -- as many
  long_of : (us : List (Use D P)) (ps : List (Spot T D P)) → us ≡ map (use_of looks) ps → len ps ≡ len us
  long_of us ps h = sym (map_len (use_of looks) ps) ∙ ap len (sym h)

  pub piece_long : (p : Piece) → len (piece_spots looks p) ≡ len (piece_uses looks p)
  piece_long p = long_of (piece_uses looks p) (piece_spots looks p) (piece_used p)

  -- an identifier that is spelled anew

  module _ (x : Ident) (name : List ℕ) where
    abbrev Stays : List (Spot T D P) → List (Use D P) → Type 0
    Stays ps us = ContextStays T S D P looks x name ps us

    expr_stays : (e f : ExprTree) → Respells x name e f → Stays (spots looks stands.«Value» e) (uses looks stands.«Value» f)
    expr_stays e f r =
        let d = (own_name T S D P).decides looks stands.«Value» x name e f r in
        record { number = d.number; context = d.context; stands = d.stands; has = d.has }

    abbrev Sees : List Ident → Type 0
    Sees xs = ⊤

    only_left : (xs ys : List Ident) → Sees (xs ++ ys) → Sees xs
    only_left xs ys h = h

    only_right : (xs ys : List Ident) → Sees (xs ++ ys) → Sees ys
    only_right xs ys h = h

    split_of : (xs ys : List Ident) (ps bs : List (Spot T D P)) → Change T D P Sees x name ⊥ xs ys ps bs → Stays ps (map (use_of looks) bs)
    split_of xs ys ps bs (OfName s) = split_stays x name looks ps bs s
    split_of xs ys ps bs (OfSelector q s) = split_stays x name looks ps bs (s tt)
    split_of xs ys ps bs (OfElement q never) = absurd never

    name_stays : (n m : TypeName) → RespellsName x name n m → Stays (type_name_spots looks n) (type_name_uses looks m)
    name_stays n m r = split_of _ _ _ _ (of_name Sees only_left only_right x name looks looks (λ y h. refl) n m r)

    type_stays : (t u : TypeTree) → RespellsType x name t u → Stays (type_spots looks t) (type_uses looks u)
    type_stays t u r = split_of _ _ _ _ (of_type Sees only_left only_right x name looks looks (λ y h. refl) t u r)

    signature_stays : (a b : SignatureTree) → RespellsSignature x name a b → Stays (signature_spots looks a) (signature_uses looks b)
    signature_stays a b r = split_of _ _ _ _ (of_signature Sees only_left only_right x name looks looks (λ y h. refl) a b r)

    exprs_stay : (es fs : Separated ExprTree) → RespellsExprs x name es fs → Stays (exprs_spots looks es) (exprs_uses looks fs)
    exprs_stay es fs r =
        let l = in_list {T = T} {S = S} {D = D} {P = P} x name es fs r in
        l.stays looks looks (expr_stays l.old l.new l.respells)

    values_stay : (v w : ValueSpecTree) → RespellsValues x name v w → Stays (spec_spots looks v) (spec_uses looks w)
    values_stay v w (InValues {t = t} {s = s} {es = es} {fs = fs} r) =
        before looks x name (some_type_spots looks t) (exprs_spots looks es) (some_type_uses looks t) (exprs_uses looks fs) (long_of (some_type_uses looks t) (some_type_spots looks t) (type_used t)) (exprs_stay es fs r)

    spec_stays : (v w : ValueSpecTree) → RespellsSpec x name v w → Stays (spec_spots looks v) (spec_uses looks w)
    spec_stays v w (InSomeValues r) = values_stay v w r
    spec_stays v w (InSpecType {t = t} {u = u} {vs = vs} r) = behind looks x name (type_spots looks t) (values_spots looks vs) (type_uses looks u) (values_uses looks vs) (type_stays t u r)

    no_blank : (b c : Bool) (ps : List (Spot T D P)) (us : List (Use D P)) → b ≡ false → c ≡ false → Stays ps us → Stays (if b then [] else ps) (if c then [] else us)
    no_blank b c ps us h k s = subst (λ y. Stays (if y then [] else ps) (if c then [] else us)) (sym h) (subst (λ y. Stays ps (if y then [] else us)) (sym k) s)

    target_stays : (e f : ExprTree) → RespellsTarget x name e f → Stays (target_spots looks e) (target_uses looks f)
    target_stays e f (InTarget {e = a} {f = b} h k r) = no_blank (is_blank_target a) (is_blank_target b) (spots looks stands.«Value» a) (uses looks stands.«Value» b) h k (expr_stays a b r)

    targets_stay : (es fs : Separated ExprTree) → RespellsTargets x name es fs → Stays (targets_spots looks es) (targets_uses looks fs)
    targets_stay es fs (InOnlyTarget r) = target_stays _ _ r
    targets_stay es fs (InFirstTarget {e = e} {f = f} {more = more} r) = behind looks x name (target_spots looks e) (targets_spots looks more) (target_uses looks f) (targets_uses looks more) (target_stays e f r)
    targets_stay es fs (InLaterTarget {e = e} {more = more} {rest = rest} r) =
        before looks x name (target_spots looks e) (targets_spots looks more) (target_uses looks e) (targets_uses looks rest) (long_of (target_uses looks e) (target_spots looks e) (target_used e)) (targets_stay more rest r)

    simple_stays : (s t : SimpleTree) → RespellsSimple x name s t → Stays (simple_spots looks s) (simple_uses looks t)
    simple_stays s t (InAlone r) = expr_stays _ _ r
    simple_stays s t (InStep r) = expr_stays _ _ r
    simple_stays s t (InTargets {ts = ts} {us = us} {es = es} r) = behind looks x name (targets_spots looks ts) (exprs_spots looks es) (targets_uses looks us) (exprs_uses looks es) (targets_stay ts us r)
    simple_stays s t (InAssigned {ts = ts} {es = es} {fs = fs} r) =
        before looks x name (targets_spots looks ts) (exprs_spots looks es) (targets_uses looks ts) (exprs_uses looks fs) (long_of (targets_uses looks ts) (targets_spots looks ts) (targets_used ts)) (exprs_stay es fs r)
    simple_stays s t (InUpdated {e = e} {f = f} {v = v} r) = behind looks x name (spots looks stands.«Value» e) (spots looks stands.«Value» v) (uses looks stands.«Value» f) (uses looks stands.«Value» v) (expr_stays e f r)
    simple_stays s t (InUpdate {e = e} {v = v} {w = w} r) =
        before looks x name (spots looks stands.«Value» e) (spots looks stands.«Value» v) (uses looks stands.«Value» e) (uses looks stands.«Value» w) (long_of (uses looks stands.«Value» e) (spots looks stands.«Value» e) refl) (expr_stays v w r)
    simple_stays s t (InDefined {es = es} {fs = fs} r) = exprs_stay es fs r

    pub piece_stays : (p q : Piece) → RespellsPiece x name p q → Stays (piece_spots looks p) (piece_uses looks q)
    piece_stays p q (InReceiver {r = r} {n = n} {g = g} h) = behind looks x name (type_name_spots looks r.base) (signature_spots looks g) (type_name_uses looks n) (signature_uses looks g) (name_stays r.base n h)
    piece_stays p q (InSignature {r = r} {a = a} {b = b} h) =
        before looks x name (receiver_spots looks r) (signature_spots looks a) (receiver_uses looks r) (signature_uses looks b) (long_of (receiver_uses looks r) (receiver_spots looks r) (receiver_used r)) (signature_stays a b h)
    piece_stays p q (InSpec {v = v} {w = w} r) = spec_stays v w r
    piece_stays p q (InAct {s = s} {t = t} r) = simple_stays s t r
    piece_stays p q (InCondition {e = e} {f = f} r) = expr_stays e f r
    piece_stays p q (InGiven {es = es} {fs = fs} r) = exprs_stay es fs r

pub pieces_stay : (T S D P : Type 0) → PieceContextsStay T S D P
pieces_stay T S D P = record { uses = piece_used; stays = λ looks x name p q r. piece_stays looks x name p q r }
