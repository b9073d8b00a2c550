-- A package in which one identifier of one initialiser is spelled anew.
use Rattle.std.proofs.Common.{◌≡◌, ◌⊎◌, ℕ, zero, suc, ◌<◌, inl, inr, List, [], ◌∷◌, length, slice_get, refl, sym, ap, ◌∙◌, subst, arith}
use Rattle.std.specs.Prelude.{⊤, Option, Some, None, Contains}
use Rattle.std.proofs.lemmas.List.{same_lists, get_or_default, length-map}
use Rattle.go_tree_nodes.specs.text_core.declared.span.Span.{Span}
use Rattle.go_tree_nodes.specs.declared.decls.ValueKind.{ValueKind}
use Rattle.go_tree_nodes.specs.declared.decls.ValueKind.TheVariants as kinds
use Rattle.go_tree_nodes.specs.declared.names.Ident.{Ident}
use Rattle.go_tree_nodes.specs.Trees.{Separated, TypeTree, ExprTree, Named, ValueSpecTree}
use Rattle.go_term_core.specs.decl_core.TopDecls.{FormTree, ValueForm, TypeForm, FuncForm}
use Rattle.go_candidate_core.specs.handle_core.Declarations.{Declaration}
use Rattle.go_cursor_core.specs.denote_core.declared.things.Stand.TheVariants as stands
use Rattle.go_term_core.specs.Terms.{Term, Sign}
use Rattle.go_stmt_core.specs.expr_core.Looks.{WrittenRules}
use Rattle.go_stmt_core.specs.expr_core.Denoting.{denoted}
use Rattle.go_stmt_core.specs.expr_core.Laws.{AgreeOnIdents}
use Rattle.go_stmt_core.specs.expr_core.Needed.{needed_idents}
use Rattle.go_stmt_core.specs.expr_core.Uses.{use_of, spots, uses, type_spots}
use Rattle.go_stmt_core.specs.expr_core.Alike.{agree_left, agree_right, needed_names}
use Rattle.go_stmt_core.specs.expr_core.Independence.{len, map_len, own_name}
use Rattle.go_candidate_core.specs.declared_core.declared.face.Face.TheVariants as faces
use Rattle.go_candidate_core.specs.declared_core.Faces.{TheFace}
use Rattle.go_candidate_core.specs.declared_core.Written.{written_at}
use Rattle.go_package_core.specs.env_core.Scenes.{SceneModel}
use Rattle.go_package_core.specs.env_core.Looks.{TheLooks}
use Rattle.go_digraph_core.specs.needs.Needs.{known_in}
use Rattle.go_stmt_core.specs.piece.Specifications.{spec_uses, values_uses}
use Rattle.go_stmt_core.specs.piece.Types.{some_type_uses}
use Rattle.go_snap_core.specs.value_core.Initial.{initial, expr_of, some_needed, initial_idents}
use Rattle.go_snap_core.specs.value_core.Laws.{FormsAlike}
use Rattle.go_snap_core.specs.value_core.mirrors.Own.{own_argument}
use Rattle.go_snap_core.specs.value_core.Package.{idents_need, value_idents, form_idents, first_values, value_face, form_face}
use Rattle.go_snap_core.specs.value_core.Seeing.{idents_alike}
use Rattle.go_complete_core.specs.spelling.Contexts.{ContextStays}
use Rattle.go_complete_core.specs.spelling.PieceLaws.{InitialContextsStay}
use Rattle.go_complete_core.specs.spelling.Package.{FileForm, AreFixed, AllFixed, file_looks, form_needs, all_needs, face_of, face_at_position, AreFacesOf, IsWrittenAnew, IsAsItWas, AreWrittenAnew}
use Rattle.go_complete_core.specs.spelling.PieceSpots.{some_type_spots, values_spots, spec_spots}
use Rattle.go_complete_core.specs.spelling.Trees.{RespellsExprs, InValues, value_spec_with}
use Rattle.go_complete_core.specs.spelling.Values.{IsSame, NeedsInBoth}
use Rattle.go_complete_core.proofs.SpellingSplits.{split_stays}
use Rattle.go_complete_core.proofs.SpellingSplits as splits
use Rattle.go_complete_core.proofs.SpellingChanges.{type_len, Change, OfName, OfSelector, OfElement, of_expr}
use Rattle.go_complete_core.proofs.SpellingInLists.{OneOf, InList, in_list, own_same, own_alike, initial_same}
use Rattle.go_complete_core.proofs.SpellingLooking.{fixed_law, row_of, row_at, looks_at_needs}
use Rattle.go_complete_core.proofs.SpellingPieceStaying.{needed_stays}

-- declarations at one position of both packages

abbrev Pair : ℕ → ValueSpecTree → ValueSpecTree → Option FileForm → Option FileForm → Type 0
Pair file v w None None = ⊤
Pair file v w None (Some e) = ⊥
Pair file v w (Some d) None = ⊥
Pair file v w (Some d) (Some e) = IsAsItWas d e ⊎ IsWrittenAnew file v w d e

pair_at : (file : ℕ) (v w : ValueSpecTree) (ds es : List FileForm) → AreWrittenAnew file v w ds es → (a : ℕ) → Pair file v w (slice_get ds a) (slice_get es a)
pair_at file v w [] [] h a = tt
pair_at file v w [] (e ∷ es) h a = elim h [ ]
pair_at file v w (d ∷ ds) [] h a = elim h [ ]
pair_at file v w (d ∷ ds) (e ∷ es) h zero = h.0
pair_at file v w (d ∷ ds) (e ∷ es) h (suc a) = pair_at file v w ds es h.1 a

as_many : (file : ℕ) (v w : ValueSpecTree) (ds es : List FileForm) → AreWrittenAnew file v w ds es → length ds ≡ length es
as_many file v w [] [] h = refl
as_many file v w [] (e ∷ es) h = elim h [ ]
as_many file v w (d ∷ ds) [] h = elim h [ ]
as_many file v w (d ∷ ds) (e ∷ es) h = ap suc (as_many file v w ds es h.1)

module _ (s : SceneModel) (a : ℕ) where
  -- they need the same, and are the same by what these are
  record Kept (o p : Option FileForm) : Type 0 where
    row : row_of s o ≡ row_of s p
    face : (known : ℕ → Option TheFace) → face_of s known a o ≡ face_of s known a p

  record BothNeed (n : ℕ) (o p : Option FileForm) : Type 0 where
    before : Contains (row_of s o) n
    after : Contains (row_of s p) n

  -- another declaration

  idents_same : (f g : FormTree) → FormsAlike f g → form_idents f ≡ form_idents g
  idents_same (ValueForm k v i) g h = ap form_idents h
  idents_same (TypeForm t) (TypeForm u) h = refl
  idents_same (FuncForm t) (FuncForm u) h = refl
  idents_same (TypeForm t) (ValueForm k v i) h = elim h [ ]
  idents_same (TypeForm t) (FuncForm u) h = elim h [ ]
  idents_same (FuncForm t) (ValueForm k v i) h = elim h [ ]
  idents_same (FuncForm t) (TypeForm u) h = elim h [ ]

  form_same : (looks : TheLooks) (f g : FormTree) → FormsAlike f g → form_face looks (written_at s.written a) f ≡ form_face looks (written_at s.written a) g
  form_same looks (ValueForm k v i) g h = ap (form_face looks (written_at s.written a)) h
  form_same looks (TypeForm t) (TypeForm u) h = refl
  form_same looks (FuncForm t) (FuncForm u) h = refl
  form_same looks (TypeForm t) (ValueForm k v i) h = elim h [ ]
  form_same looks (TypeForm t) (FuncForm u) h = elim h [ ]
  form_same looks (FuncForm t) (ValueForm k v i) h = elim h [ ]
  form_same looks (FuncForm t) (TypeForm u) h = elim h [ ]

  abbrev made : ℕ → WrittenRules Term → FormTree → FileForm
  made file written form = record { file = file; written = written; form = form }

  kept_other : (d e : FileForm) → IsAsItWas d e → Kept (Some d) (Some e)
  kept_other d e h =
      let e_is : e ≡ made d.file d.written e.form = ap (λ k. made k e.written e.form) (sym h.files) ∙ ap (λ r. made d.file r e.form) (sym h.written) in
      subst (λ y. Kept (Some d) (Some y)) (sym e_is) (record {
        row = ap (idents_need s d.file) (idents_same d.form e.form h.forms);
        face = λ known. form_same (file_looks s d.file d.written (first_values (length s.written) known)) d.form e.form h.forms;
      })

  -- a declaration of the specification

  module _ (n file : ℕ) (x : Ident) (name : List ℕ) (xs : Separated Ident) (t : Option TypeTree) (place : Span) (es fs : Separated ExprTree) (l : InList Term Sign Declaration (List ℕ) x name es fs) where
    abbrev v : ValueSpecTree
    v = value_spec_with xs t (Some (place, es))

    abbrev w : ValueSpecTree
    w = value_spec_with xs t (Some (place, fs))

    abbrev Result : FileForm → FileForm → Type 0
    Result d e = Kept (Some d) (Some e) ⊎ BothNeed n (Some d) (Some e)

    -- a name that needs the same and stands for the same
    kept_name : (written : WrittenRules Term) (kind : ValueKind) (i : ℕ) → initial_idents v i ≡ initial_idents w i → ((looks : TheLooks) (k : ValueKind) → initial looks k v i ≡ initial looks k w i)
        → Kept (Some (made file written (ValueForm kind v i))) (Some (made file written (ValueForm kind w i)))
    kept_name written kind i rows same = at kind t
      where
        at_face : (looks : TheLooks) (known : Option TheFace) (k : ValueKind) (o : Option TypeTree) → value_face looks known k o v i ≡ value_face looks known k o w i
        at_face looks known kinds.Const o = ap faces.«Value» (same looks kinds.Const)
        at_face looks known kinds.Var None = ap faces.«Value» (same looks kinds.Var)
        at_face looks known kinds.Var (Some u) = refl

        at_row : (k : ValueKind) (o : Option TypeTree) → value_idents k o v i ≡ value_idents k o w i
        at_row kinds.Const o = rows
        at_row kinds.Var None = rows
        at_row kinds.Var (Some u) = refl

        at : (k : ValueKind) (o : Option TypeTree) → Kept (Some (made file written (ValueForm kind v i))) (Some (made file written (ValueForm kind w i)))
        at k o = record {
          row = ap (idents_need s file) (at_row kind t);
          face = λ known. at_face (file_looks s file written (first_values (length s.written) known)) (written_at s.written a) kind t;
        }

    -- a name whose expression needs the node in both
    needed_name : (written : WrittenRules Term) (kind : ValueKind) (i : ℕ) → Contains (idents_need s file (initial_idents v i)) n → Contains (idents_need s file (initial_idents w i)) n
        → Result (made file written (ValueForm kind v i)) (made file written (ValueForm kind w i))
    needed_name written kind i before after = at kind t refl
      where
        at : (k : ValueKind) (o : Option TypeTree) → t ≡ o → Result (made file written (ValueForm k v i)) (made file written (ValueForm k w i))
        at kinds.Const o h = inr (record { before = before; after = after })
        at kinds.Var None h = inr (record {
          before = subst (λ o. Contains (idents_need s file (value_idents kinds.Var o v i)) n) (sym h) before;
          after = subst (λ o. Contains (idents_need s file (value_idents kinds.Var o w i)) n) (sym h) after;
        })
        at kinds.Var (Some u) h = inl (record {
          row = ap (λ o. idents_need s file (value_idents kinds.Var o v i)) h ∙ ap (λ o. idents_need s file (value_idents kinds.Var o w i)) (sym h);
          face = λ known.
              let looks = file_looks s file written (first_values (length s.written) known) in
              ap (λ o. value_face looks (written_at s.written a) kinds.Var o v i) h ∙ ap (λ o. value_face looks (written_at s.written a) kinds.Var o w i) (sym h);
        })

    same_needed : needed_idents l.old ≡ needed_idents l.new → (o p : Option ExprTree) → OneOf l.old l.new o p → some_needed o ≡ some_needed p
    same_needed q o p (inl h) = ap some_needed h
    same_needed q o p (inr h) = ap some_needed h.0 ∙ (q ∙ ap some_needed (sym h.1))

    -- where both expressions denote the same
    kept_alike : needed_idents l.old ≡ needed_idents l.new → ((looks : TheLooks) → denoted looks stands.«Value» l.old ≡ denoted looks stands.«Value» l.new)
        → (written : WrittenRules Term) (kind : ValueKind) (i : ℕ) → Result (made file written (ValueForm kind v i)) (made file written (ValueForm kind w i))
    kept_alike q alike written kind i =
        inl (kept_name written kind i (same_needed q (expr_of v i) (expr_of w i) (l.own _ i)) (λ looks k. initial_same looks xs t place es fs l.alone k i (argument_same looks (l.own _ i))))
      where
        argument_same : (looks : TheLooks) → OneOf l.old l.new (expr_of v i) (expr_of w i) → own_argument looks v i ≡ own_argument looks w i
        argument_same looks (inl h) = own_same looks xs t place es fs l.alone i h
        argument_same looks (inr h) = own_alike looks xs t place es fs l.alone i l.old l.new h.0 h.1 (alike looks)

    -- where the expression needs the node
    kept_or_needed : needed_idents l.old ≡ needed_idents l.new → Contains (idents_need s file (needed_idents l.old)) n
        → (written : WrittenRules Term) (kind : ValueKind) (i : ℕ) → Result (made file written (ValueForm kind v i)) (made file written (ValueForm kind w i))
    kept_or_needed q has written kind i = at (l.own _ i)
      where
        at : OneOf l.old l.new (expr_of v i) (expr_of w i) → Result (made file written (ValueForm kind v i)) (made file written (ValueForm kind w i))
        at (inl h) = inl (kept_name written kind i (ap some_needed h) (λ looks k. initial_same looks xs t place es fs l.alone k i (own_same looks xs t place es fs l.alone i h)))
        at (inr h) =
            needed_name written kind i
            (subst (λ o. Contains (idents_need s file (some_needed o)) n) (sym h.0) has)
            (subst (λ o. Contains (idents_need s file (some_needed o)) n) (sym h.1) (subst (λ ys. Contains (idents_need s file ys) n) q has))

    -- in any declaration
    at_pair : ((written : WrittenRules Term) (kind : ValueKind) (i : ℕ) → Result (made file written (ValueForm kind v i)) (made file written (ValueForm kind w i)))
        → (o p : Option FileForm) → Pair file v w o p → Kept o p ⊎ BothNeed n o p
    at_pair all None None h = inl (record { row = refl; face = λ known. refl })
    at_pair all None (Some e) h = elim h [ ]
    at_pair all (Some d) None h = elim h [ ]
    at_pair all (Some d) (Some e) (inl h) = inl (kept_other d e h)
    at_pair all (Some d) (Some e) (inr h) =
        let d_is : d ≡ made file d.written (ValueForm h.kind v h.number) = ap (λ k. made k d.written d.form) h.here ∙ ap (λ g. made file d.written g) h.before in
        let e_is : e ≡ made file d.written (ValueForm h.kind w h.number) =
        ap (λ k. made k e.written e.form) (sym h.files ∙ h.here) ∙ (ap (λ r. made file r e.form) (sym h.written) ∙ ap (λ g. made file d.written g) h.after) in
        subst (λ y. Result d y) (sym e_is) (subst (λ y. Result y (made file d.written (ValueForm h.kind w h.number))) (sym d_is) (all d.written h.kind h.number))

module _ (s : SceneModel) (ds es : List FileForm) (t u : List (Option TheFace)) (file : ℕ) (written : WrittenRules Term) (x : Ident) (name : List ℕ)
    (xs : Separated Ident) (type_expr : Option TypeTree) (place : Span) (olds news : Separated ExprTree) (r : RespellsExprs x name olds news) where
  abbrev earlier : ValueSpecTree
  earlier = value_spec_with xs type_expr (Some (place, olds))

  abbrev later : ValueSpecTree
  later = value_spec_with xs type_expr (Some (place, news))

  abbrev looks : TheLooks
  looks = file_looks s file written t

  abbrev other : TheLooks
  other = file_looks s file written u

  abbrev l : InList Term Sign Declaration (List ℕ) x name olds news
  l = in_list x name olds news r

  module _ (anew : AreWrittenAnew file earlier later ds es) (fixed : AllFixed ds) (fixed' : AllFixed es) (law : AreFixed written) (at : AreFacesOf s ds t) (au : AreFacesOf s es u) where
    rows_long : length (all_needs s ds) ≡ length (all_needs s es)
    rows_long = length-map ds (form_needs s) ∙ (as_many file earlier later ds es anew ∙ sym (length-map es (form_needs s)))

    -- a node that each declaration of the specification needs, or of which they are as they were
    same_at : (n : ℕ) → ((a : ℕ) (o p : Option FileForm) → Pair file earlier later o p → Kept s a o p ⊎ BothNeed s a n o p) → known_in t n ≡ known_in u n
    same_at n all = needed_stays TheFace (all_needs s ds) (all_needs s es) (face_at_position s ds) (face_at_position s es) t u n (looks_at_needs s ds fixed) (looks_at_needs s es fixed') rows_long each at au
      where
        turn : (a : ℕ) → Kept s a (slice_get ds a) (slice_get es a) ⊎ BothNeed s a n (slice_get ds a) (slice_get es a)
            → IsSame TheFace (all_needs s ds) (all_needs s es) (face_at_position s ds) (face_at_position s es) a ⊎ NeedsInBoth (all_needs s ds) (all_needs s es) a n
        turn a (inl k) = inl (record { row = row_at s ds a ∙ (k.row ∙ sym (row_at s es a)); rule = k.face })
        turn a (inr b) = inr (record { before = subst (λ row. Contains row n) (sym (row_at s ds a)) b.before; after = subst (λ row. Contains row n) (sym (row_at s es a)) b.after })

        each : (a : ℕ) → IsSame TheFace (all_needs s ds) (all_needs s es) (face_at_position s ds) (face_at_position s es) a ⊎ NeedsInBoth (all_needs s ds) (all_needs s es) a n
        each a = turn a (all a (slice_get ds a) (slice_get es a) (pair_at file earlier later ds es anew a))

    -- where nothing changes, all declarations are what they were
    all_same : needed_idents l.old ≡ needed_idents l.new → ((k : TheLooks) → denoted k stands.«Value» l.old ≡ denoted k stands.«Value» l.new) → t ≡ u
    all_same q alike =
        let long : length t ≡ length u = at.as_many ∙ (rows_long ∙ sym au.as_many) in
        same_lists t u long (λ k d lt.
        let lt' : k < length u = omega (arith, lt, long) in
        get_or_default t k d None lt ∙ (same_at k (λ a. at_pair s a k file x name xs type_expr place olds news l (kept_alike s a k file x name xs type_expr place olds news l q alike)) ∙ sym (get_or_default u k d None lt')))

    abbrev Stays : TheLooks → Type 0
    Stays k = ContextStays Term Sign Declaration (List ℕ) k x name (spots looks stands.«Value» l.old) (uses k stands.«Value» l.new)

    seen : (p : _) (e : ExprTree) → AgreeOnIdents looks.find other.find (needed_idents e) → denoted looks p e ≡ denoted other p e
    seen p e h = needed_names Term Sign Declaration (List ℕ) looks other.find p e (fixed_law written law) h

    by_change : Change Term Declaration (List ℕ) (AgreeOnIdents looks.find other.find) x name ((k : TheLooks) (p : _) → denoted k p l.old ≡ denoted k p l.new)
        (needed_idents l.old) (needed_idents l.new) (spots looks stands.«Value» l.old) (spots other stands.«Value» l.new)
        → Stays other
    by_change (OfName split) = split_stays x name other _ _ split
    by_change (OfSelector q split) =
        let known : (n : ℕ) → Contains (idents_need s file (needed_idents l.old)) n → known_in t n ≡ known_in u n =
        λ n has. same_at n (λ a. at_pair s a n file x name xs type_expr place olds news l (kept_or_needed s a n file x name xs type_expr place olds news l q has)) in
        split_stays x name other _ _ (split (idents_alike s file t u written (needed_idents l.old) known))
    by_change (OfElement q alike) =
        let decides = (own_name Term Sign Declaration (List ℕ)).decides looks stands.«Value» x name l.old l.new l.respells in
        subst (λ k. Stays (file_looks s file written k)) (all_same q (λ k. alike k stands.«Value»))
        (record { number = decides.number; context = decides.context; stands = decides.stands; has = decides.has })

    expr_stays : Stays other
    expr_stays =
        by_change
        (of_expr (AgreeOnIdents looks.find other.find) (agree_left looks.find other.find) (agree_right looks.find other.find) x name looks other
        (λ y h. seen stands.TypeDot (Named y) h) seen stands.«Value» l.old l.new l.respells)

    type_long : (o : Option TypeTree) → len (some_type_spots looks o) ≡ len (some_type_uses other o)
    type_long None = refl
    type_long (Some k) = type_len looks other k ∙ sym (map_len (use_of other) (type_spots other k))

    pub spec_stays : ContextStays Term Sign Declaration (List ℕ) other x name (spec_spots looks earlier) (spec_uses other later)
    spec_stays = splits.before other x name (some_type_spots looks type_expr) (values_spots looks earlier.values) (some_type_uses other type_expr) (values_uses other later.values) (type_long type_expr) (l.stays looks other expr_stays)

pub initial_stays : InitialContextsStay
initial_stays s ds es t u file written x name v w (InValues {xs = xs} {t = type_expr} {s = place} {es = olds} {fs = news} r) anew fixed fixed' law at au =
    spec_stays s ds es t u file written x name xs type_expr place olds news r anew fixed fixed' law at au
