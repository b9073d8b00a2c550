-- The identifiers of a file that are found by the tree alone stand among those that are checked.
use Rattle.std.proofs.Common.{◌≡◌, ◌<◌, ◌⊎◌, inl, inr, ℕ, zero, suc, Bool, true, false, List, [], ◌∷◌, ◌++◌, length, map, Option, Some, None, refl, sym, ap, subst, ◌∙◌, arith}
use Rattle.std.specs.Prelude.{All, Contains, if◌then◌else◌}
use Rattle.std.specs.List.{flat_map}
use Rattle.std.proofs.lemmas.List.{map-append}
use Rattle.std.proofs.lemmas.List.Elements.{All-nil, All-cons, All-append, All-map, All-same, All-weaker, All-contains, All-contains_itself, All-head, All-tail, Contains-append_left, Contains-append_right, Contains-append_cases, filter_map-append}
use Rattle.go_tree_nodes.specs.text_core.declared.span.Span.{Span}
use Rattle.go_tree_nodes.specs.declared.names.Ident.{Ident}
use Rattle.go_tree_nodes.specs.Trees.{Separated, One, Then, TypeTree, Signed, OneResult, NoParams, ExprTree, ValueSpecTree, TypeSpecTree, Specs, Single, Group, FuncTree, DeclTree, Value, Types, Func, TopTree, FileTree, of_specs, Alone, Step, Assign, Update, Define}
use Rattle.go_names_core.specs.local_core.Steps.{Piece, Header, Spec, Act, Condition, Given, Steps, Done, Check, Declare, Inner}
use Rattle.go_names_core.specs.local_core.Outline.{func_steps}
use Rattle.go_names_core.specs.local_core.mirrors.Walk.{Names, look_in, with_name, with_names, news, names_of, is_new}
use Rattle.go_cursor_core.specs.denote_core.declared.things.Stand.TheVariants as stands
use Rattle.go_stmt_core.specs.expr_core.Looks.{Looks}
use Rattle.go_stmt_core.specs.expr_core.Uses.{Context, Spot, Identifier, CallAt, spots, type_spots}
use Rattle.go_stmt_core.specs.piece.Pieces.{piece_values}
use Rattle.go_package_core.specs.env_core.declared.meaning.Meaning.{Meaning}
use Rattle.go_package_core.specs.body_core.Rules.{local_at}
use Rattle.go_package_core.specs.body_core.FunctionStands.{FileStand, looks_where, outer_meanings, outer_look, outer_looks}
use Rattle.go_cursor_core.specs.Used.{Used, type_used, spec_used, piece_used}
use Rattle.go_cursor_core.specs.Contexts.{context_of_spot, in_its_context, identifier_of, identifiers_among}
use Rattle.go_cursor_core.specs.Opened.{FileUsed, OpenUsed, piece_opened, func_opened, with_idents, file_name, in_func, outside, open_used, decl_names, tops_names, file_names}
use Rattle.go_cursor_core.specs.PieceSpots as found
use Rattle.go_cursor_core.specs.Laws.{SpotsDecide}
use Rattle.go_cursor_core.specs.Walks.{PieceAt, pieces_at, func_pieces, OpenNamesAreWalked}
use Rattle.go_cursor_core.proofs.Deciding.{spots_decide}
use Rattle.go_cursor_core.proofs.Walking.{names_walked}
use Rattle.go_complete_core.specs.spelling.PieceSpots as spelled
use Rattle.go_complete_core.specs.spelling.Functions.{TheSpot}
use Rattle.go_complete_core.specs.spelling.Places.{PlacedSpot, placed_spot, piece_places, place_rules, func_places, decl_places, tops_places}
use Rattle.go_complete_core.specs.place.Completions.{context_at}
use Rattle.go_complete_core.specs.place.Laws.{is_local, IsOpenIn, SpotsArePlaces}

-- lists

module _ {X : Type 0} where
  pub first_has : (x y : X) (xs : List X) → x ≡ y → Contains (x ∷ xs) y
  first_has x y xs same = (0, omega arith, same)

  pub none_has : (y : X) → Contains [] y → ⊥
  none_has y h = let below : h.0 < 0 = h.1 in omega arith

  pub one_has : (x y : X) → Contains (x ∷ []) y → x ≡ y
  one_has x y (zero, below, same) = same
  one_has x y (suc k, below, same) = absurd (omega arith)

  pub is_first_or_more : (x y : X) (xs : List X) → Contains (x ∷ xs) y → (x ≡ y) ⊎ Contains xs y
  is_first_or_more x y xs h = elim (Contains-append_cases (x ∷ []) xs y h) [ inl a ↦ inl (one_has x y a) | inr a ↦ inr a ]

  pub more_has : (x y : X) (xs : List X) → Contains xs y → Contains (x ∷ xs) y
  more_has x y xs h = Contains-append_right (x ∷ []) xs y h

map_has : {X Y : Type 0} (f : X → Y) (xs : List X) → All (λ x. Contains (map f xs) (f x)) xs
map_has f [] = All-nil (λ x. Contains (map f []) (f x))
map_has f (x ∷ xs) =
    All-cons (λ y. Contains (map f (x ∷ xs)) (f y)) x xs (first_has (f x) (f x) (map f xs) refl)
    (All-weaker (λ y. Contains (map f xs) (f y)) (λ y. Contains (map f (x ∷ xs)) (f y)) (λ y h. more_has (f x) (f y) (map f xs) h) xs (map_has f xs))

-- what is noted of a piece, by both definitions of it

module _ {T S D P : Type 0} (looks : Looks T S D P) where
  exprs_same : (es : Separated ExprTree) → spelled.exprs_spots looks es ≡ found.exprs_spots looks es
  exprs_same (One e) = refl
  exprs_same (Then e comma more) = ap (λ l. spots looks stands.«Value» e ++ l) (exprs_same more)

  targets_same : (es : Separated ExprTree) → spelled.targets_spots looks es ≡ found.targets_spots looks es
  targets_same (One e) = refl
  targets_same (Then e comma more) = ap (λ l. found.target_spots looks e ++ l) (targets_same more)

  values_same : (vs : Option (Span × Separated ExprTree)) → spelled.values_spots looks vs ≡ found.values_spots looks vs
  values_same None = refl
  values_same (Some v) = exprs_same v.1

  spec_same : (t : Option TypeTree) (vs : Option (Span × Separated ExprTree)) → spelled.some_type_spots looks t ++ spelled.values_spots looks vs ≡ found.some_type_spots looks t ++ found.values_spots looks vs
  spec_same None vs = values_same vs
  spec_same (Some t) vs = ap (λ l. type_spots looks t ++ l) (values_same vs)

  piece_same : (p : Piece) → spelled.piece_spots looks p ≡ found.piece_spots looks p
  piece_same (Header None g) = refl
  piece_same (Header (Some r) g) = refl
  piece_same (Spec k v) = spec_same v.type_expr v.values
  piece_same (Act (Alone e)) = refl
  piece_same (Act (Step e op s)) = refl
  piece_same (Act (Assign ts s es)) = ap (λ l. l ++ spelled.exprs_spots looks es) (targets_same ts) ∙ ap (λ l. found.targets_spots looks ts ++ l) (exprs_same es)
  piece_same (Act (Update e op s v)) = refl
  piece_same (Act (Define xs s es)) = exprs_same es
  piece_same (Condition e) = refl
  piece_same (Given place None) = refl
  piece_same (Given place (Some es)) = exprs_same es

  -- the identifiers among what is noted are those that are found by the tree

  abbrev IsNoted : List (Spot T D P) → List Used → Type 0
  IsNoted ss us = identifiers_among ss ≡ map (in_its_context looks) us

  piece_noted : (p : Piece) → IsNoted (spelled.piece_spots looks p) (piece_used p)
  piece_noted p = ap identifiers_among (piece_same p) ∙ (spots_decide T S D P).each looks p

  type_noted : (x : Ident) (t : TypeTree) → IsNoted (type_spots looks t) (type_used t)
  type_noted x t = piece_noted (Header None (Signed x.span NoParams x.span (OneResult t)))

  group_noted : {A : Type 0} (f : A → List (Spot T D P)) (g : A → List Used) → ((a : A) → IsNoted (f a) (g a)) → (ls : List (A × Option Span)) → IsNoted (flat_map (λ l. f l.0) ls) (flat_map (λ l. g l.0) ls)
  group_noted f g h [] = refl
  group_noted f g h (l ∷ ls) =
      filter_map-append identifier_of (f l.0) (flat_map (λ l. f l.0) ls)
      ∙ (ap (λ r. r ++ identifiers_among (flat_map (λ l. f l.0) ls)) (h l.0)
      ∙ (ap (λ r. map (in_its_context looks) (g l.0) ++ r) (group_noted f g h ls)
      ∙ sym (map-append (in_its_context looks) (g l.0) (flat_map (λ l. g l.0) ls))))

  specs_noted : {A : Type 0} (f : A → List (Spot T D P)) (g : A → List Used) → ((a : A) → IsNoted (f a) (g a)) → (s : Specs A) → IsNoted (of_specs f s) (of_specs g s)
  specs_noted f g h (Single a) = h a
  specs_noted f g h (Group first ls last) = group_noted f g h ls

  noted_there : (ss : List (Spot T D P)) (c : Context T D) (x : Ident) → Contains (identifiers_among ss) (c, x) → Contains ss (Identifier c x)
  noted_there [] c x h = absurd (none_has (c, x) h)
  noted_there (Identifier d y ∷ ss) c x h = elim (is_first_or_more (d, y) (c, x) (identifiers_among ss) h) [
    | inl same ↦ (let make : Context T D × Ident → Spot T D P = λ p. Identifier p.0 p.1 in first_has (Identifier d y) (Identifier c x) ss (ap make same))
    | inr more ↦ more_has (Identifier d y) (Identifier c x) ss (noted_there ss c x more)
  ]
  noted_there (CallAt s o ∷ ss) c x h = more_has (CallAt s o) (Identifier c x) ss (noted_there ss c x h)

  used_there : (ss : List (Spot T D P)) (us : List Used) → IsNoted ss us → All (λ u. Contains ss (Identifier (context_of_spot looks u.spot) u.ident)) us
  used_there ss us h =
      All-weaker (λ u. Contains (map (in_its_context looks) us) (in_its_context looks u)) (λ u. Contains ss (Identifier (context_of_spot looks u.spot) u.ident))
      (λ u there. noted_there ss (context_of_spot looks u.spot) u.ident (subst (λ (l : List (Context T D × Ident)). Contains l (context_of_spot looks u.spot, u.ident)) (sym h) there)) us (map_has (in_its_context looks) us)

-- where names mean what these locals do, and outside them what they mean outside functions

abbrev Loc : List ℕ × Meaning → Type 0
Loc e = is_local e.1 ≡ true

module _ (st : FileStand) where
  abbrev names_with : Names Meaning → List ℕ → ℕ → Option Meaning
  names_with meant = look_in (outer_meanings st) meant

  -- where this holds of the function around the identifier, of its open locals and of what they mean
  record Placed (W : Option FuncTree → List Ident → Names Meaning → Type 0) (ps : List PlacedSpot) (u : FileUsed) : Type 0 where
    meant : Names Meaning
    there : Contains ps (placed_spot (names_with meant) (Identifier (context_at st (names_with meant) u.used) u.used.ident))
    same : names_of meant ≡ map (λ (x : Ident). x.name) u.open_names
    local : All Loc meant
    walked : W u.func u.open_names meant

  module _ (W V : Option FuncTree → List Ident → Names Meaning → Type 0) where
    placed_left : ((f : Option FuncTree) (xs : List Ident) (m : Names Meaning) → W f xs m → V f xs m) → (ps qs : List PlacedSpot) (u : FileUsed) → Placed W ps u → Placed V (ps ++ qs) u
    placed_left on ps qs u h = record { meant = h.meant; there = Contains-append_left ps qs _ h.there; same = h.same; local = h.local; walked = on u.func u.open_names h.meant h.walked }

    placed_right : ((f : Option FuncTree) (xs : List Ident) (m : Names Meaning) → W f xs m → V f xs m) → (ps qs : List PlacedSpot) (u : FileUsed) → Placed W qs u → Placed V (ps ++ qs) u
    placed_right on ps qs u h = record { meant = h.meant; there = Contains-append_right ps qs _ h.there; same = h.same; local = h.local; walked = on u.func u.open_names h.meant h.walked }

  module _ (W V U : Option FuncTree → List Ident → Names Meaning → Type 0) where
    both_placed : ((f : Option FuncTree) (xs : List Ident) (m : Names Meaning) → W f xs m → U f xs m) → ((f : Option FuncTree) (xs : List Ident) (m : Names Meaning) → V f xs m → U f xs m)
        → (ps qs : List PlacedSpot) (us vs : List FileUsed) → All (Placed W ps) us → All (Placed V qs) vs → All (Placed U (ps ++ qs)) (us ++ vs)
    both_placed on further ps qs us vs first second =
        All-append (Placed U (ps ++ qs)) us vs (All-weaker (Placed W ps) (Placed U (ps ++ qs)) (placed_left W U on ps qs) us first) (All-weaker (Placed V qs) (Placed U (ps ++ qs)) (placed_right V U further ps qs) vs second)

  piece_placed : (W : Option FuncTree → List Ident → Names Meaning → Type 0) (meant : Names Meaning) (xs : List Ident) (f : Option FuncTree) (ss : List TheSpot) (us : List Used) → IsNoted (looks_where st (names_with meant)) ss us
      → names_of meant ≡ map (λ (x : Ident). x.name) xs → All Loc meant → W f xs meant → All (λ u. Placed W (map (placed_spot (names_with meant)) ss) (file_name u xs f)) us
  piece_placed W meant xs f ss us noted same local walked =
      All-weaker (λ (v : Used). Contains ss (Identifier (context_at st (names_with meant) v) v.ident)) (λ (v : Used). Placed W (map (placed_spot (names_with meant)) ss) (file_name v xs f))
      (λ v there. record {
        meant = meant;
        there = All-contains (λ (s : TheSpot). Contains (map (placed_spot (names_with meant)) ss) (placed_spot (names_with meant) s)) ss (Identifier (context_at st (names_with meant) v) v.ident) (map_has (placed_spot (names_with meant)) ss) there;
        same = same;
        local = local;
        walked = walked;
      })
      us (used_there (looks_where st (names_with meant)) ss us noted)

  -- functions

  one_local : (block : Names Meaning) (x : Ident) (m : Meaning) → is_local m ≡ true → All Loc block → All Loc (with_name block x m)
  one_local block x m l h = by (is_new block x)
    where
      by : (b : Bool) → All Loc (if b then block ++ (x.name, m) ∷ [] else block)
      by true = All-append Loc block ((x.name, m) ∷ []) h (All-cons Loc (x.name, m) [] l (All-nil Loc))
      by false = h

  all_local : (block : Names Meaning) (means : ℕ → Meaning) (n : ℕ) (zs : List Ident) → ((k : ℕ) → is_local (means k) ≡ true) → All Loc block → All Loc (with_names block means n zs)
  all_local block means n [] m h = h
  all_local block means n (z ∷ zs) m h = all_local (with_name block z (means n)) means (suc n) zs m (one_local block z (means n) (m n) h)

  abbrev HasLocals : PieceAt Meaning → Type 0
  HasLocals a = All Loc a.names

  locals_of : (steps : Steps) (outer block : Names Meaning) (xs ys : List Ident) → All Loc outer → All Loc block → All HasLocals (pieces_at (place_rules st) (outer_meanings st) outer block xs ys steps)
  locals_of Done outer block xs ys g h = All-nil HasLocals
  locals_of (Check p rest) outer block xs ys g h = All-cons HasLocals _ _ (All-append Loc outer block g h) (locals_of rest outer block xs ys g h)
  locals_of (Declare m from p zs rest) outer block xs ys g h =
      let means : ℕ → Meaning = (place_rules st).means (look_in (outer_meanings st) (outer ++ block)) (news (names_of block) zs) p in
      All-cons HasLocals _ _ (All-append Loc outer block g h) (locals_of rest outer (with_names block means 0 zs) xs (with_idents ys zs) g (all_local block means 0 zs (λ k. refl) h))
  locals_of (Inner a b steps rest) outer block xs ys g h =
      All-append HasLocals _ _ (locals_of steps (outer ++ block) [] (xs ++ ys) [] (All-append Loc outer block g h) (All-nil Loc)) (locals_of rest outer block xs ys g h)

  abbrev Agrees : PieceAt Meaning → Type 0
  Agrees a = names_of a.names ≡ map (λ (x : Ident). x.name) a.locals

  abbrev places_at : PieceAt Meaning → List PlacedSpot
  places_at a = piece_places st (names_with a.names) a.piece

  -- in front of a piece of the function
  abbrev InPiece : FuncTree → Option FuncTree → List Ident → Names Meaning → Type 0
  InPiece f None xs m = ⊥
  InPiece f (Some g) xs m = (f ≡ g) × ((a : PieceAt Meaning) × Contains (func_pieces (place_rules st) (outer_meanings st) g) a × (m ≡ a.names) × (xs ≡ a.locals))

  pieces_placed : (f : FuncTree) (ps : List (PieceAt Meaning)) → All (Contains (func_pieces (place_rules st) (outer_meanings st) f)) ps → All Agrees ps → All HasLocals ps
      → All (Placed (InPiece f) (flat_map places_at ps)) (map (in_func f) (flat_map (λ (a : PieceAt Meaning). piece_opened a.locals a.piece) ps))
  pieces_placed f [] among g h = All-nil (Placed (InPiece f) [])
  pieces_placed f (a ∷ ps) among g h =
      let rest : List OpenUsed = flat_map (λ (b : PieceAt Meaning). piece_opened b.locals b.piece) ps in
      let whole : FileUsed → Type 0 = Placed (InPiece f) (places_at a ++ flat_map places_at ps) in
      let here : FileUsed → Type 0 = Placed (InPiece f) (places_at a) in
      All-same whole (map (in_func f) (piece_opened a.locals a.piece ++ rest)) (map (in_func f) (piece_opened a.locals a.piece) ++ map (in_func f) rest) (map-append (in_func f) (piece_opened a.locals a.piece) rest)
      (both_placed (InPiece f) (InPiece f) (InPiece f) (λ g xs m w. w) (λ g xs m w. w) (places_at a) (flat_map places_at ps) (map (in_func f) (piece_opened a.locals a.piece)) (map (in_func f) rest)
      (All-map here (in_func f) (piece_opened a.locals a.piece) (All-map (λ (o : OpenUsed). here (in_func f o)) (open_used a.locals) (piece_used a.piece)
      (piece_placed (InPiece f) a.names a.locals (Some f) (spelled.piece_spots (looks_where st (names_with a.names)) a.piece) (piece_used a.piece) (piece_noted (looks_where st (names_with a.names)) a.piece) (All-head Agrees a ps g) (All-head HasLocals a ps h)
      (refl, (a, All-head (Contains (func_pieces (place_rules st) (outer_meanings st) f)) a ps among, refl, refl)))))
      (pieces_placed f ps (All-tail (Contains (func_pieces (place_rules st) (outer_meanings st) f)) a ps among) (All-tail Agrees a ps g) (All-tail HasLocals a ps h)))

  func_placed : (f : FuncTree) → All (Placed (InPiece f) (func_places st f)) (map (in_func f) (func_opened f))
  func_placed f =
      let law = names_walked Meaning PlacedSpot in
      let pieces = func_pieces (place_rules st) (outer_meanings st) f in
      subst (λ (ps : List PlacedSpot). All (Placed (InPiece f) ps) (map (in_func f) (func_opened f))) (sym (law.notes (place_rules st) (outer_meanings st) f))
      (subst (λ (us : List OpenUsed). All (Placed (InPiece f) (flat_map places_at pieces)) (map (in_func f) us)) (sym (law.used (place_rules st) (outer_meanings st) f))
      (pieces_placed f pieces (All-contains_itself pieces) (law.same (place_rules st) (outer_meanings st) f) (locals_of (func_steps f) [] [] [] [] (All-nil Loc) (All-nil Loc))))

  -- declarations

  abbrev Outside : Option FuncTree → List Ident → Names Meaning → Type 0
  Outside None xs m = (m ≡ []) × (xs ≡ [])
  Outside (Some g) xs m = ⊥

  of_outside : (ds : List TopTree) (f : Option FuncTree) (xs : List Ident) (m : Names Meaning) → Outside f xs m → IsOpenIn st ds f xs m
  of_outside ds None xs m h = h
  of_outside ds (Some g) xs m h = absurd h

  of_piece : (ds : List TopTree) (d : TopTree) (f : FuncTree) → Contains ds d → d.decl ≡ Func f → (g : Option FuncTree) (xs : List Ident) (m : Names Meaning) → InPiece f g xs m → IsOpenIn st ds g xs m
  of_piece ds d f there is None xs m h = absurd h
  of_piece ds d f there is (Some g) xs m h = record { piece = h.1.0; among = h.1.1; names = h.1.2; opened = h.1.3; top = d; declared = there; is = is ∙ ap Func h.0 }

  of_more : (d : TopTree) (ds : List TopTree) (f : Option FuncTree) (xs : List Ident) (m : Names Meaning) → IsOpenIn st ds f xs m → IsOpenIn st (d ∷ ds) f xs m
  of_more d ds None xs m h = h
  of_more d ds (Some g) xs m h = record { piece = h.piece; among = h.among; names = h.names; opened = h.opened; top = h.top; declared = more_has d h.top ds h.declared; is = h.is }

  widened : (W V : Option FuncTree → List Ident → Names Meaning → Type 0) → ((f : Option FuncTree) (xs : List Ident) (m : Names Meaning) → W f xs m → V f xs m) → (ps : List PlacedSpot) (us : List FileUsed) → All (Placed W ps) us → All (Placed V ps) us
  widened W V on ps us h = All-weaker (Placed W ps) (Placed V ps) (λ u p. record { meant = p.meant; there = p.there; same = p.same; local = p.local; walked = on u.func u.open_names p.meant p.walked }) us h

  decl_placed : (ds : List TopTree) (d : TopTree) (e : DeclTree) → Contains ds d → d.decl ≡ e → All (Placed (IsOpenIn st ds) (decl_places st e)) (decl_names e)
  decl_placed ds d (Value v) there is =
      let ss : List TheSpot = of_specs (spelled.spec_spots (outer_looks st)) v.specs in
      let us : List Used = of_specs spec_used v.specs in
      let placed : List PlacedSpot = map (placed_spot (outer_look st)) ss in
      widened Outside (IsOpenIn st ds) (of_outside ds) placed (map outside us)
      (All-map (Placed Outside placed) outside us (piece_placed Outside [] [] None ss us (specs_noted (outer_looks st) (spelled.spec_spots (outer_looks st)) spec_used (λ w. piece_noted (outer_looks st) (Spec v.kind w)) v.specs) refl (All-nil Loc) (refl, refl)))
  decl_placed ds d (Types t) there is =
      let ss : List TheSpot = of_specs (λ (s : TypeSpecTree). type_spots (outer_looks st) s.type_expr) t.specs in
      let us : List Used = of_specs (λ (s : TypeSpecTree). type_used s.type_expr) t.specs in
      let placed : List PlacedSpot = map (placed_spot (outer_look st)) ss in
      widened Outside (IsOpenIn st ds) (of_outside ds) placed (map outside us)
      (All-map (Placed Outside placed) outside us
      (piece_placed Outside [] [] None ss us (specs_noted (outer_looks st) (λ (s : TypeSpecTree). type_spots (outer_looks st) s.type_expr) (λ (s : TypeSpecTree). type_used s.type_expr) (λ s. type_noted (outer_looks st) s.name s.type_expr) t.specs) refl (All-nil Loc) (refl, refl)))
  decl_placed ds d (Func f) there is = widened (InPiece f) (IsOpenIn st ds) (of_piece ds d f there is) (func_places st f) (map (in_func f) (func_opened f)) (func_placed f)

  tops_placed : (ds : List TopTree) → All (Placed (IsOpenIn st ds) (tops_places st ds)) (tops_names ds)
  tops_placed [] = All-nil (Placed (IsOpenIn st []) [])
  tops_placed (d ∷ ds) =
      both_placed (IsOpenIn st (d ∷ ds)) (IsOpenIn st ds) (IsOpenIn st (d ∷ ds)) (λ f xs m w. w) (of_more d ds) (decl_places st d.decl) (tops_places st ds) (decl_names d.decl) (tops_names ds)
      (decl_placed (d ∷ ds) d d.decl (first_has d d ds refl) refl) (tops_placed ds)

pub spots_are_places : SpotsArePlaces
spots_are_places st f u h =
    let p : Placed st (IsOpenIn st f.decls) (tops_places st f.decls) u = All-contains (Placed st (IsOpenIn st f.decls) (tops_places st f.decls)) (file_names f) u (tops_placed st f.decls) h in
    record { meant = p.meant; place = record { there = p.there }; same = p.same; local = p.local; walked = p.walked }
