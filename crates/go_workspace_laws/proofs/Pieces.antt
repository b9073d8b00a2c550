-- What the expressions of a piece have and break is among what its function has and breaks, and that among its file's.
use Rattle.std.proofs.Common.{◌≡◌, inl, inr, ℕ, Bool, true, false, List, [], ◌∷◌, ◌++◌, map, Option, Some, None, refl, sym, ap, subst, ◌∙◌}
use Rattle.std.specs.Prelude.{if◌then◌else◌}
use Rattle.std.specs.List.{flat_map}
use Rattle.go_path_core.specs.text_core.declared.span.Span.{Span}
use Rattle.go_tree_nodes.specs.Trees.{Separated, One, Then, DeclTree, Value, Types, Func, TopTree, FileTree, FuncTree, ExprTree, Alone, Step, Assign, Update, Define}
use Rattle.go_names_core.specs.local_core.Binding.{Local, bound, is_first}
use Rattle.go_names_core.specs.local_core.Law.{Rules, law_out}
use Rattle.go_names_core.specs.local_core.Outline.{func_closes, func_opens, func_steps}
use Rattle.go_names_core.specs.local_core.Steps.{Piece, Header, Spec, Act, Condition, Given, Steps, Done, Check, Declare, Inner}
use Rattle.go_names_core.specs.local_core.Tables.{out_by_intervals, IsFuncPlaced}
use Rattle.go_names_core.specs.local_core.WalksEnds.{is_blank_target}
use Rattle.go_term_core.specs.Terms.{Term}
use Rattle.go_report_core.specs.denote_core.declared.things.Stand.TheVariants as stands
use Rattle.go_names_core.specs.local_core.declared.Fault.{Fault}
use Rattle.go_report_core.specs.expr_core.Faults.{faults}
use Rattle.go_report_core.specs.expr_core.Lists.{exprs_faults, exprs_uses, is_list}
use Rattle.go_report_core.specs.expr_core.Uses.{uses}
use Rattle.go_body_core.specs.stmt_core.PieceHeaders.{returned_names, returned_types}
use Rattle.go_body_core.specs.stmt_core.PiecePieces.{piece_faults, piece_uses}
use Rattle.go_body_core.specs.stmt_core.PieceSpecifications.{values_faults, values_uses}
use Rattle.go_body_core.specs.stmt_core.PieceTargets.{target_faults, target_uses, targets_faults, targets_uses}
use Rattle.go_body_core.specs.env_core.declared.meaning.Meaning.{Meaning}
use Rattle.go_body_core.specs.env_core.Looks.{TheLooks}
use Rattle.go_body_core.specs.Body.{BodyOf}
use Rattle.go_body_core.specs.Notes.{NoteOf, TheUse, noted_faults}
use Rattle.go_body_core.specs.function.Functions.{AreFuncDeclarations, checked_func, func_by, func_rules}
use Rattle.go_body_core.specs.function.Laws.{FunctionsHaveOneTable}
use Rattle.go_body_core.specs.function.Stands.{FileStand, outer_looks, outer_meanings}
use Rattle.go_body_core.specs.file.Stands.{decl_funcs, file_funcs}
use Rattle.go_snap_core.specs.value_core.Initial.{exprs}
use Rattle.go_workspace_laws.specs.Standing.{looks_among, piece_exprs, pieces_in, pieces_of, target_listed, targets_listed, values_listed}
use Rattle.go_workspace_laws.proofs.FoldingInside.{none_left, none_right}
use Rattle.go_workspace_laws.proofs.ConstantLists.{HasItem, InOne, from_flat, has_either, has_flat, has_left, has_right, none_in}

module _ (looks : TheLooks) where
  abbrev Uses : ExprTree → List TheUse
  Uses e = uses looks stands.«Value» e

  abbrev Breaks : ExprTree → List Fault
  Breaks e = faults looks stands.«Value» e

  -- lists

  listed_uses : (es : Separated ExprTree) (e : ExprTree) (u : TheUse) → HasItem (exprs es) e → HasItem (Uses e) u → HasItem (exprs_uses looks es) u
  listed_uses (One x) e u (inl s) k = subst (λ y. HasItem (Uses y) u) (sym s) k
  listed_uses (One x) e u (inr h) k = absurd h
  listed_uses (Then x comma more) e u (inl s) k = has_left (Uses x) (exprs_uses looks more) u (subst (λ y. HasItem (Uses y) u) (sym s) k)
  listed_uses (Then x comma more) e u (inr h) k = has_right (Uses x) (exprs_uses looks more) u (listed_uses more e u h k)

  listed_faults : (b : Bool) (es : Separated ExprTree) (e : ExprTree) → HasItem (exprs es) e → exprs_faults looks b es ≡ [] → Breaks e ≡ []
  listed_faults b (One x) e (inl s) k = subst (λ y. Breaks y ≡ []) s (none_left (Breaks x) _ k)
  listed_faults b (One x) e (inr h) k = absurd h
  listed_faults b (Then x comma more) e (inl s) k = subst (λ y. Breaks y ≡ []) s (none_left (Breaks x) _ (none_left _ (exprs_faults looks b more) k))
  listed_faults b (Then x comma more) e (inr h) k = listed_faults b more e h (none_right _ (exprs_faults looks b more) k)

  -- what stands left of `=`

  target_has : (b : Bool) (x e : ExprTree) (u : TheUse) → HasItem (if b then [] else x ∷ []) e → HasItem (Uses e) u → HasItem (if b then [] else Uses x) u
  target_has true x e u h k = absurd h
  target_has false x e u (inl s) k = subst (λ y. HasItem (Uses y) u) (sym s) k
  target_has false x e u (inr h) k = absurd h

  target_breaks : (b : Bool) (x e : ExprTree) (fs : List Fault) → HasItem (if b then [] else x ∷ []) e → (if b then [] else Breaks x ++ fs) ≡ [] → Breaks e ≡ []
  target_breaks true x e fs h k = absurd h
  target_breaks false x e fs (inl s) k = subst (λ y. Breaks y ≡ []) s (none_left (Breaks x) fs k)
  target_breaks false x e fs (inr h) k = absurd h

  targets_has : (ts : Separated ExprTree) (e : ExprTree) (u : TheUse) → HasItem (targets_listed ts) e → HasItem (Uses e) u → HasItem (targets_uses looks ts) u
  targets_has (One x) e u h k = target_has (is_blank_target x) x e u h k
  targets_has (Then x comma more) e u h k = elim (has_either (target_listed x) (targets_listed more) e h) [
    | inl here ↦ has_left (target_uses looks x) (targets_uses looks more) u (target_has (is_blank_target x) x e u here k)
    | inr later ↦ has_right (target_uses looks x) (targets_uses looks more) u (targets_has more e u later k)
  ]

  targets_break : (b : Bool) (ts : Separated ExprTree) (e : ExprTree) → HasItem (targets_listed ts) e → targets_faults looks b ts ≡ [] → Breaks e ≡ []
  targets_break b (One x) e h k = target_breaks (is_blank_target x) x e _ h k
  targets_break b (Then x comma more) e h k = elim (has_either (target_listed x) (targets_listed more) e h) [
    | inl here ↦ target_breaks (is_blank_target x) x e _ here (none_left (target_faults looks b x) (targets_faults looks b more) k)
    | inr later ↦ targets_break b more e later (none_right (target_faults looks b x) (targets_faults looks b more) k)
  ]

  -- pieces

  one_has : (x e : ExprTree) (u : TheUse) → HasItem (x ∷ []) e → HasItem (Uses e) u → HasItem (Uses x) u
  one_has x e u (inl s) k = subst (λ y. HasItem (Uses y) u) (sym s) k
  one_has x e u (inr h) k = absurd h

  one_breaks : (x e : ExprTree) → HasItem (x ∷ []) e → Breaks x ≡ [] → Breaks e ≡ []
  one_breaks x e (inl s) k = subst (λ y. Breaks y ≡ []) s k
  one_breaks x e (inr h) k = absurd h

  values_has : (v : Option (Span × Separated ExprTree)) (e : ExprTree) (u : TheUse) → HasItem (values_listed v) e → HasItem (Uses e) u → HasItem (values_uses looks v) u
  values_has None e u h k = absurd h
  values_has (Some v) e u h k = listed_uses v.1 e u h k

  values_break : (v : Option (Span × Separated ExprTree)) (e : ExprTree) → HasItem (values_listed v) e → values_faults looks v ≡ [] → Breaks e ≡ []
  values_break None e h k = absurd h
  values_break (Some v) e h k = listed_faults (is_list v.1) v.1 e h k

  pub piece_has : (p : Piece) (e : ExprTree) (u : TheUse) → HasItem (piece_exprs p) e → HasItem (Uses e) u → HasItem (piece_uses looks p) u
  piece_has (Header r s) e u h k = absurd h
  piece_has (Spec kind v) e u h k = has_right _ (values_uses looks v.values) u (values_has v.values e u h k)
  piece_has (Act (Alone x)) e u h k = one_has x e u h k
  piece_has (Act (Step x op span)) e u h k = one_has x e u h k
  piece_has (Act (Assign ts span es)) e u h k = elim (has_either (targets_listed ts) (exprs es) e h) [
    | inl here ↦ has_left (targets_uses looks ts) (exprs_uses looks es) u (targets_has ts e u here k)
    | inr later ↦ has_right (targets_uses looks ts) (exprs_uses looks es) u (listed_uses es e u later k)
  ]
  piece_has (Act (Update x op span v)) e u (inl s) k = has_left (Uses x) (Uses v) u (subst (λ y. HasItem (Uses y) u) (sym s) k)
  piece_has (Act (Update x op span v)) e u (inr h) k = has_right (Uses x) (Uses v) u (one_has v e u h k)
  piece_has (Act (Define xs span es)) e u h k = listed_uses es e u h k
  piece_has (Condition x) e u h k = one_has x e u h k
  piece_has (Given place None) e u h k = absurd h
  piece_has (Given place (Some es)) e u h k = listed_uses es e u h k

  pub piece_breaks : (results : List (Option Term)) (has_names : Bool) (firsts : List Bool) (p : Piece) (e : ExprTree) → HasItem (piece_exprs p) e → piece_faults looks results has_names firsts p ≡ [] → Breaks e ≡ []
  piece_breaks results has_names firsts (Header r s) e h k = absurd h
  piece_breaks results has_names firsts (Spec kind v) e h k = values_break v.values e h (none_left (values_faults looks v.values) _ (none_right _ _ k))
  piece_breaks results has_names firsts (Act (Alone x)) e h k = one_breaks x e h (none_left (Breaks x) _ k)
  piece_breaks results has_names firsts (Act (Step x op span)) e h k = one_breaks x e h (none_left (Breaks x) _ (none_left _ _ k))
  piece_breaks results has_names firsts (Act (Assign ts span es)) e h k = elim (has_either (targets_listed ts) (exprs es) e h) [
    | inl here ↦ targets_break (is_list ts) ts e here (none_left (targets_faults looks (is_list ts) ts) _ k)
    | inr later ↦ listed_faults (is_list es) es e later (none_left (exprs_faults looks (is_list es) es) _ (none_right (targets_faults looks (is_list ts) ts) _ k))
  ]
  piece_breaks results has_names firsts (Act (Update x op span v)) e (inl s) k = subst (λ y. Breaks y ≡ []) s (none_left (Breaks x) _ (none_left _ _ k))
  piece_breaks results has_names firsts (Act (Update x op span v)) e (inr h) k = one_breaks v e h (none_left (Breaks v) _ (none_left _ _ (none_right _ _ k)))
  piece_breaks results has_names firsts (Act (Define xs span es)) e h k = listed_faults (is_list es) es e h (none_left (exprs_faults looks (is_list es) es) _ k)
  piece_breaks results has_names firsts (Condition x) e h k = one_breaks x e h (none_left (Breaks x) _ k)
  piece_breaks results has_names firsts (Given place None) e h k = absurd h
  piece_breaks results has_names firsts (Given place (Some es)) e h k = listed_faults (is_list es) es e h (none_left (exprs_faults looks (is_list es) es) _ k)

-- what is noted of a piece is noted of its function

pub record IsNoted {X N : Type 0} (rules : Rules X N) (beyond : List ℕ → Option X) (all : List (Local X)) (notes : List N) (p : Piece) : Type 0 where
  pub firsts : List Bool
  pub there : (x : N) → HasItem (rules.notes (bound beyond all) firsts p) x → HasItem notes x

module _ {X N : Type 0} (rules : Rules X N) (beyond : List ℕ → Option X) (all : List (Local X)) where
  abbrev Notes : ℕ → ℕ → Steps → List N
  Notes o c steps = (law_out rules beyond all o c steps).notes

  left_noted : (ns ms : List N) (p : Piece) → IsNoted rules beyond all ns p → IsNoted rules beyond all (ns ++ ms) p
  left_noted ns ms p h = record { firsts = h.firsts; there = λ x k. has_left ns ms x (h.there x k) }

  right_noted : (ns ms : List N) (p : Piece) → IsNoted rules beyond all ms p → IsNoted rules beyond all (ns ++ ms) p
  right_noted ns ms p h = record { firsts = h.firsts; there = λ x k. has_right ns ms x (h.there x k) }

  first_noted : (firsts : List Bool) (q p : Piece) (ms : List N) → q ≡ p → IsNoted rules beyond all (rules.notes (bound beyond all) firsts q ++ ms) p
  first_noted firsts q p ms s = record { firsts = firsts; there = λ x k. has_left (rules.notes (bound beyond all) firsts q) ms x (subst (λ r. HasItem (rules.notes (bound beyond all) firsts r) x) (sym s) k) }

  pub noted : (steps : Steps) (o c : ℕ) (p : Piece) → HasItem (pieces_in steps) p → IsNoted rules beyond all (Notes o c steps) p
  noted Done o c p h = absurd h
  noted (Check q rest) o c p (inl s) = first_noted [] q p (Notes o c rest) s
  noted (Check q rest) o c p (inr h) = right_noted (rules.notes (bound beyond all) [] q) (Notes o c rest) p (noted rest o c p h)
  noted (Declare m from q xs rest) o c p (inl s) = first_noted (map (is_first all o) xs) q p (Notes o c rest) s
  noted (Declare m from q xs rest) o c p (inr h) = right_noted (rules.notes (bound beyond all) (map (is_first all o) xs) q) (Notes o c rest) p (noted rest o c p h)
  noted (Inner o' c' steps rest) o c p h = elim (has_either (pieces_in steps) (pieces_in rest) p h) [
    | inl here ↦ left_noted (Notes o' c' steps) (Notes o c rest) p (noted steps o' c' p here)
    | inr later ↦ right_noted (Notes o' c' steps) (Notes o c rest) p (noted rest o c p later)
  ]

-- functions

module _ (one : FunctionsHaveOneTable) (st : FileStand) (g : FuncTree) (placed : IsFuncPlaced g) (all : List (Local Meaning)) (right : AreFuncDeclarations st g all) where
  same_body : func_by st g all ≡ checked_func st g
  same_body = one.regions st g placed all right

  abbrev noted_of : List NoteOf
  noted_of = (out_by_intervals (func_rules st g) (outer_meanings st) g all).notes

  piece_noted : (p : Piece) → HasItem (pieces_of g) p → IsNoted (func_rules st g) (outer_meanings st) all noted_of p
  piece_noted p h = noted (func_rules st g) (outer_meanings st) all (func_steps g) (func_opens g) (func_closes g) p h

  pub expr_has : (p : Piece) (e : ExprTree) (u : TheUse) → HasItem (pieces_of g) p → HasItem (piece_exprs p) e → HasItem (uses (looks_among st all) stands.«Value» e) u → HasItem (checked_func st g).uses u
  expr_has p e u h k there =
      let n = piece_noted p h in
      subst (λ (b : BodyOf). HasItem b.uses u) same_body (has_flat (λ (x : NoteOf). x.uses) noted_of _ u (n.there _ (inl refl)) (piece_has (looks_among st all) p e u k there))

  pub expr_breaks : (p : Piece) (e : ExprTree) → HasItem (pieces_of g) p → HasItem (piece_exprs p) e → (checked_func st g).faults ≡ [] → faults (looks_among st all) stands.«Value» e ≡ []
  expr_breaks p e h k none =
      let n = piece_noted p h in
      let whole : noted_faults noted_of ++ _ ≡ [] = ap (λ (b : BodyOf). b.faults) same_body ∙ none in
      piece_breaks (looks_among st all) (returned_types (outer_looks st) g.signature) (returned_names g.signature) n.firsts p e k (none_in (λ (x : NoteOf). x.faults) noted_of _ (none_left (noted_faults noted_of) _ whole) (n.there _ (inl refl)))

-- files

decl_is : (d : DeclTree) (g : FuncTree) → HasItem (decl_funcs d) g → d ≡ Func g
decl_is (Value v) g h = absurd h
decl_is (Types t) g h = absurd h
decl_is (Func f) g (inl s) = ap Func s
decl_is (Func f) g (inr h) = absurd h

module _ {A : Type 0} (of : DeclTree → List A) (t : FileTree) (g : FuncTree) (there : HasItem (file_funcs t) g) where
  abbrev top : InOne (λ (d : TopTree). decl_funcs d.decl) t.decls g
  top = from_flat (λ (d : TopTree). decl_funcs d.decl) t.decls g there

  pub file_has : (x : A) → HasItem (of (Func g)) x → HasItem (flat_map (λ (d : TopTree). of d.decl) t.decls) x
  file_has x h = has_flat (λ (d : TopTree). of d.decl) t.decls top.item x top.there (subst (λ d. HasItem (of d) x) (sym (decl_is top.item.decl g top.here)) h)

  pub file_none : flat_map (λ (d : TopTree). of d.decl) t.decls ≡ [] → of (Func g) ≡ []
  file_none e = subst (λ d. of d ≡ []) (decl_is top.item.decl g top.here) (none_in (λ (d : TopTree). of d.decl) t.decls top.item e top.there)
