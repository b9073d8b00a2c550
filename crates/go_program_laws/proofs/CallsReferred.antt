-- The references of calls are what the check says that is called.
use Rattle.std.proofs.Common.{◌≡◌, inl, inr, cond, ◌+◌, ◌≤◌, ℕ, suc, Bool, true, false, List, [], ◌∷◌, ◌++◌, filter, Option, Some, None, is_some, nat_le, nat_lt, refl, sym, ap, subst, ◌∙◌, arith, if◌then◌else◌}
use Rattle.std.specs.Prelude.{slice_get}
use Rattle.std.proofs.lemmas.Bool.{and_from, le-leb, lt-ltb}
use Rattle.go_tree_nodes.specs.token_core.declared.kind.Operator.TheVariants as operator
use Rattle.go_tree_core.specs.declared.occurrence.Role.TheVariants as roles
use Rattle.go_tree_nodes.proofs.InOrder.{in_order_ends, in_order_split}
use Rattle.go_tree_nodes.specs.Spelling.{mark, spell, spell_ident, spell_items, spell_lines, spell_receiver, spell_signature}
use Rattle.go_tree_nodes.specs.Terminals.{InOrder, Terminal, least_width}
use Rattle.go_tree_nodes.specs.Trees.{ExprTree, ItemTrees, Integer, Text, Named, Paren, Unary, Binary, Select, Call, Literal, StructLiteral, NoItems, Item, FuncTree}
use Rattle.go_names_core.specs.local_core.Outline.{lines_steps}
use Rattle.go_names_core.specs.local_core.Steps.{Done, Header, Piece}
use Rattle.go_names_core.specs.local_core.Tables.{IsFuncPlaced}
use Rattle.go_names_core.specs.block_core.Naming.{file_specs}
use Rattle.go_report_core.specs.denote_core.declared.things.Stand.{Stand}
use Rattle.go_report_core.specs.denote_core.declared.things.Stand.TheVariants as stands
use Rattle.go_report_core.specs.expr_core.Denoting.{called_answer, named_type, written_type}
use Rattle.go_report_core.specs.expr_core.Looks.{Looks}
use Rattle.go_report_core.specs.expr_core.Places.{inside, left_place, under_place}
use Rattle.go_report_core.specs.expr_core.Elements.{all_keys, is_mixed, key_names, keys_of}
use Rattle.go_report_core.specs.expr_core.Uses.{CallAt, Spot, args_spots, items_spots, key_spots, made_use, spots, type_name_spots, type_spots, use_of, uses}
use Rattle.go_workspace_laws.specs.folding.Parts.{item_parts, parts}
use Rattle.go_body_core.specs.Notes.{TheUse}
use Rattle.go_body_core.specs.env_core.Looks.{TheLooks}
use Rattle.go_emit_core.specs.package_core.Checked.{imports_at}
use Rattle.go_emit_core.specs.package_core.PackagePartParts.{package_seen, seen_by}
use Rattle.go_emit_core.specs.Emitted.{body_uses, code_scene_over, object_over, whole_object}
use Rattle.go_emit_core.specs.Laws.{BodiesAreBetweenBraces, CallsNameTheirOwn, ObjectsAreOfFaultless, is_between}
use Rattle.go_body_core.specs.file.Files.{decl_uses, tops_uses}
use Rattle.go_body_core.specs.file.Imports.{imports_uses}
use Rattle.go_body_core.specs.file.Laws.{FunctionsArePlaced}
use Rattle.go_body_core.specs.file.Stands.{file_funcs}
use Rattle.go_body_core.specs.function.Laws.{FunctionsHaveOneTable}
use Rattle.go_workspace_laws.specs.Standing.{looks_among, piece_exprs, pieces_in, pieces_of, stand_in_part}
use Rattle.go_workspace_laws.proofs.Clean.{is_clean_file}
use Rattle.go_workspace_laws.proofs.ConstantLists.{HasItem, has, has_either, has_left, has_map, has_right}
use Rattle.go_workspace_laws.proofs.Pieces.{expr_has, file_has}
use Rattle.go_program_laws.specs.calls.References.{CallsReferToTheirs}
use Rattle.go_program_laws.proofs.CallsSpelled.{body_has, part_spelled, piece_has}

-- what a part of an expression has the expression has

module _ {T S D P : Type 0} (looks : Looks T S D P) (q : Stand) (x : ExprTree) (s : Spot T D P) (k : HasItem (spots looks q x) s) where
  here : (p : Stand) (e : ExprTree) → ◌≡◌ {A = Stand × ExprTree} (p, e) (q, x) → HasItem (spots looks p e) s
  here p e same = subst (λ (pair : Stand × ExprTree). HasItem (spots looks pair.0 pair.1) s) (sym same) k

  mutual
    part_has : (p : Stand) (e : ExprTree) → HasItem (parts p e) (q, x) → HasItem (spots looks p e) s
    part_has p (Integer n span) (inl e) = here p (Integer n span) e
    part_has p (Integer n span) (inr h) = absurd h
    part_has p (Text l) (inl e) = here p (Text l) e
    part_has p (Text l) (inr h) = absurd h
    part_has p (Named y) (inl e) = here p (Named y) e
    part_has p (Named y) (inr h) = absurd h
    part_has p (Paren first y last) (inl e) = here p (Paren first y last) e
    part_has p (Paren first y last) (inr h) = part_has (inside p) y h
    part_has p (Unary op span y) (inl e) = here p (Unary op span y) e
    part_has p (Unary op span y) (inr h) = part_has (under_place op p) y h
    part_has p (Binary a op span b) (inl e) = here p (Binary a op span b) e
    part_has p (Binary a op span b) (inr h) = elim (has_either (parts stands.«Value» a) (parts stands.«Value» b) (q, x) h) [
      | inl l ↦ has_left (spots looks stands.«Value» a) (spots looks stands.«Value» b) s (part_has stands.«Value» a l)
      | inr r ↦ has_right (spots looks stands.«Value» a) (spots looks stands.«Value» b) s (part_has stands.«Value» b r)
    ]
    part_has p (Select y dot z) (inl e) = here p (Select y dot z) e
    part_has p (Select y dot z) (inr h) = has_left (spots looks (left_place p y) y) _ s (part_has (left_place p y) y h)
    part_has p (Call y first items last) (inl e) = here p (Call y first items last) e
    part_has p (Call y first items last) (inr h) = elim (has_either (parts stands.Callee y) (item_parts items) (q, x) h) [
      | inl l ↦ has_left (spots looks stands.Callee y) (CallAt first (called_answer looks y first items).outcome ∷ args_spots looks items) s (part_has stands.Callee y l)
      | inr r ↦ has_right (spots looks stands.Callee y) (CallAt first (called_answer looks y first items).outcome ∷ args_spots looks items) s (inr (args_have items r))
    ]
    part_has p (Literal n first items last) (inl e) = here p (Literal n first items last) e
    part_has p (Literal n first items last) (inr h) = has_right (type_name_spots looks n) (items_spots looks (named_type looks n) (is_mixed (keys_of items)) [] items) s (items_have (named_type looks n) (is_mixed (keys_of items)) [] items h)
    part_has p (StructLiteral y first items last) (inl e) = here p (StructLiteral y first items last) e
    part_has p (StructLiteral y first items last) (inr h) = has_right (type_spots looks y) (items_spots looks (written_type looks y) (is_mixed (keys_of items)) [] items) s (items_have (written_type looks y) (is_mixed (keys_of items)) [] items h)

    args_have : (items : ItemTrees) → HasItem (item_parts items) (q, x) → HasItem (args_spots looks items) s
    args_have NoItems h = absurd h
    args_have (Item key y comma rest) h = elim (has_either (parts stands.«Value» y) (item_parts rest) (q, x) h) [
      | inl l ↦ has_left (spots looks stands.«Value» y) (args_spots looks rest) s (part_has stands.«Value» y l)
      | inr r ↦ has_right (spots looks stands.«Value» y) (args_spots looks rest) s (args_have rest r)
    ]

    items_have : (t : Option T) (mixed : Bool) (before : List (List ℕ)) (items : ItemTrees) → HasItem (item_parts items) (q, x) → HasItem (items_spots looks t mixed before items) s
    items_have t mixed before NoItems h = absurd h
    items_have t mixed before (Item key y comma rest) h =
        let more = items_spots looks t mixed (before ++ key_names key) rest in
        has_right (key_spots t mixed (before ++ all_keys rest) key) (spots looks stands.«Value» y ++ more) s (elim (has_either (parts stands.«Value» y) (item_parts rest) (q, x) h) [
          | inl l ↦ has_left (spots looks stands.«Value» y) more s (part_has stands.«Value» y l)
          | inr r ↦ has_right (spots looks stands.«Value» y) more s (items_have t mixed (before ++ key_names key) rest r)
        ])

-- places

placed_between : (ts : List Terminal) (lo hi : ℕ) (t : Terminal) → InOrder lo ts hi → HasItem ts t → (lo ≤ t.span.start) × (t.span.start + least_width t.kind ≤ hi)
placed_between [] lo hi t h k = absurd k
placed_between (u ∷ ts) lo hi t h (inl e) =
    let low = h.0 in
    let wide = h.1 in
    let ends = in_order_ends ts u.span.end hi h.2 in
    subst (λ (v : Terminal). (lo ≤ v.span.start) × (v.span.start + least_width v.kind ≤ hi)) e (low, omega (arith, wide, ends))
placed_between (u ∷ ts) lo hi t h (inr k) =
    let low = h.0 in
    let wide = h.1 in
    let rest = placed_between ts u.span.end hi t h.2 k in
    let first = rest.0 in
    (omega (arith, low, wide, first), rest.1)

-- what a body writes stands between its braces
in_braces : (g : FuncTree) → IsFuncPlaced g → (t : Terminal) → HasItem (spell_lines g.body) t → (g.open_brace.start ≤ t.span.start) × (t.span.start + least_width t.kind ≤ g.close_brace.start)
in_braces g placed t there =
    let body = spell_lines g.body ++ mark operator.CloseBrace g.close_brace ∷ [] in
    let brace = mark operator.OpenBrace g.open_brace ∷ body in
    let a = in_order_split (spell_receiver g.receiver) (spell_ident g.name ∷ (spell_signature g.signature ++ brace)) g.func.end placed.1.0 placed.1.1.2 in
    let b = in_order_split (spell_signature g.signature) brace g.name.span.end placed.1.0 a.1.1.2 in
    let c = in_order_split (spell_lines g.body) (mark operator.CloseBrace g.close_brace ∷ []) g.open_brace.end placed.1.0 b.1.1.2 in
    let wide = b.1.1.1 in
    let close = c.1.1.0 in
    let between = placed_between (spell_lines g.body) g.open_brace.end c.0 t c.1.0 there in
    let low = between.0 in
    let high = between.1 in
    (omega (arith, wide, low), omega (arith, high, close))

-- lists

kept : {A : Type 0} (test : A → Bool) (xs : List A) (x : A) → test x ≡ true → HasItem xs x → HasItem (filter test xs) x
kept test [] x e h = absurd h
kept test (y ∷ ys) x e (inl s) = by (test y) (ap test s ∙ e)
  where
    by : (b : Bool) → b ≡ true → HasItem (cond b (y ∷ filter test ys) (filter test ys)) x
    by true k = inl s
    by false k = absurd (cc k)
kept test (y ∷ ys) x e (inr h) = by (test y) (kept test ys x e h)
  where
    by : (b : Bool) → HasItem (filter test ys) x → HasItem (cond b (y ∷ filter test ys) (filter test ys)) x
    by true k = inr k
    by false k = k

numbered : {A : Type 0} (xs : List A) (x : A) → HasItem xs x → (k : ℕ) × (slice_get xs k ≡ Some x)
numbered [] x h = absurd h
numbered (y ∷ ys) x (inl e) = (0, ap Some e)
numbered (y ∷ ys) x (inr h) = (let r = numbered ys x h in (suc r.0, r.1))

no_header : (p : Piece) (g : FuncTree) (e : ExprTree) → Header g.receiver g.signature ≡ p → HasItem (piece_exprs p) e → ⊥
no_header p g e same h = subst (λ (x : Piece). HasItem (piece_exprs x) e) (sym same) h

in_body : (g : FuncTree) (p : Piece) (e : ExprTree) → HasItem (pieces_of g) p → HasItem (piece_exprs p) e → HasItem (pieces_in (lines_steps g.body Done)) p
in_body g p e (inl same) h = absurd (no_header p g e same h)
in_body g p e (inr there) h = there

pub calls_refer : ObjectsAreOfFaultless → FunctionsHaveOneTable → FunctionsArePlaced → BodiesAreBetweenBraces → CallsNameTheirOwn → CallsReferToTheirs
calls_refer fine one funcs between own told i c well part clean n t f tree there grammar in_order g func all right p piece e expr q callee first items last inside =
    let st = stand_in_part i c n t in
    let looks : TheLooks = looks_among st all in
    let placed = funcs t in_order g func in
    let file = is_clean_file fine i c well part clean n t f tree there in
    let x = Call callee first items last in
    let spot = CallAt first (called_answer looks callee first items).outcome in
    let u : TheUse = made_use first.start roles.Call (called_answer looks callee first items).outcome in
    let of_part = has (parts stands.«Value» e) (q, x) inside in
    let mine : HasItem (spots looks q x) spot = has_right (spots looks stands.Callee callee) (spot ∷ args_spots looks items) spot (inl refl) in
    let used : HasItem (uses looks stands.«Value» e) u = has_map (use_of looks) (spots looks stands.«Value» e) spot (part_has looks q x spot mine stands.«Value» e of_part) in
    let checked = expr_has one st g placed all right p e u (has (pieces_of g) p piece) (has (piece_exprs p) e expr) used in
    let in_file : HasItem f.answers.uses u = subst (λ us. HasItem us u) (sym file.uses) (has_right (imports_uses (file_specs t) (imports_at (package_seen i c.blocks (seen_by i)) n)) (tops_uses st t.decls) u (file_has (decl_uses st) t g (has (file_funcs t) g func) u checked)) in
    let opening = mark operator.OpenParen first in
    let written : HasItem (spell x) opening = has_right (spell callee) (opening ∷ (spell_items items ++ mark operator.CloseParen last ∷ [])) opening (inl refl) in
    let k = part_spelled q x opening written stands.«Value» e of_part in
    let in_lines = body_has p opening (piece_has e opening k p (has (piece_exprs p) e expr)) g (in_body g p e (has (pieces_of g) p piece) (has (piece_exprs p) e expr)) in
    let braces = in_braces g placed opening in_lines in
    let low = braces.0 in
    let high = braces.1 in
    let at_low : nat_le g.open_brace.start first.start ≡ true = le-leb g.open_brace.start first.start low in
    let at_high : nat_lt first.start g.close_brace.start ≡ true = lt-ltb first.start g.close_brace.start (omega (arith, high)) in
    let law = between i c well part n t f tree there grammar in_order in
    let in_uses = subst (λ us. HasItem us u) (sym (law.1 g)) (kept (is_between g) f.answers.uses u (and_from (nat_le g.open_brace.start first.start) (nat_lt first.start g.close_brace.start) at_low at_high) in_file) in
    let number = numbered (body_uses f.answers.uses g) u in_uses in
    let has_object : is_some (object_over told i c) ≡ true = ap (λ (b : Bool). is_some (if b then Some (whole_object (code_scene_over told i c) i c) else None)) clean in
    let referred = own told i c part has_object n f there law.0 g number.0 u number.1 in
    ap (slice_get _) referred.called ∙ referred.declared
