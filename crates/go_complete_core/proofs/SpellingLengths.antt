-- How many identifiers and calls a declaration has does not depend on what names mean.
use Rattle.std.proofs.Common.{◌≡◌, ℕ, Bool, true, false, List, [], ◌∷◌, ◌++◌, refl, sym, ap, ◌∙◌, if◌then◌else◌}
use Rattle.std.specs.Prelude.{Option, Some, None}
use Rattle.std.specs.List.{flat_map}
use Rattle.go_tree_nodes.specs.text_core.declared.span.Span.{Span}
use Rattle.go_tree_nodes.specs.declared.names.Ident.{Ident}
use Rattle.go_tree_nodes.specs.declared.files.Receiver.{Receiver}
use Rattle.go_tree_nodes.specs.declared.decls.ValueKind.TheVariants as kinds
use Rattle.go_tree_nodes.specs.Trees.{Separated, One, Then, TypeTree, ExprTree, ValueSpecTree, TypeSpecTree, Specs, Single, Group, SimpleTree, Alone, Step, Assign, Update, Define, FuncTree, DeclTree, Value, Types, Func, of_specs}
use Rattle.go_names_core.specs.local_core.WalksEnds.{is_blank_target}
use Rattle.go_names_core.specs.local_core.Binding.{NameLook}
use Rattle.go_names_core.specs.local_core.Outline.{func_steps, func_opens, func_closes}
use Rattle.go_names_core.specs.local_core.Steps.{Piece, Header, Spec, Act, Condition, Given, Steps, Done, Check, Declare, Inner}
use Rattle.go_names_core.specs.local_core.mirrors.Walk.{Names, look_in, with_names, news, names_of, walk_out}
use Rattle.go_cursor_core.specs.operand_core.declared.types.Operand.{Operand}
use Rattle.go_cursor_core.specs.denote_core.declared.things.Stand.TheVariants as stands
use Rattle.go_stmt_core.specs.expr_core.Looks.{Looks}
use Rattle.go_stmt_core.specs.expr_core.TypeUses.{type_uses}
use Rattle.go_stmt_core.specs.expr_core.Uses.{Spot, use_of, spots, type_name_spots, type_spots, signature_spots}
use Rattle.go_stmt_core.specs.expr_core.Independence.{len, map_len}
use Rattle.go_stmt_core.specs.piece.Headers.{receiver_uses}
use Rattle.go_stmt_core.specs.piece.Pieces.{piece_values}
use Rattle.go_stmt_core.specs.piece.Specifications.{spec_uses}
use Rattle.go_package_core.specs.body_core.FunctionStands.{FileStand, looks_where, outer_meanings, outer_looks}
use Rattle.go_package_core.specs.body_core.Rules.{local_at}
use Rattle.go_package_core.specs.body_core.FunctionFunctions.{checked_func}
use Rattle.go_package_core.specs.body_core.FileFiles.{decl_uses}
use Rattle.go_complete_core.specs.spelling.PieceContexts.{spot_rules}
use Rattle.go_complete_core.specs.spelling.PieceSpots.{exprs_spots, some_type_spots, values_spots, spec_spots, target_spots, targets_spots, simple_spots, receiver_spots, given_spots, piece_spots}
use Rattle.go_complete_core.proofs.SpellingSplits.{len_app}
use Rattle.go_complete_core.proofs.SpellingChanges.{name_len, type_len, signature_len, expr_len}
use Rattle.go_complete_core.proofs.SpellingPieces.{piece_long}
use Rattle.go_complete_core.proofs.SpellingWalks.{walk_long}
use Rattle.go_complete_core.specs.spelling.Functions.{func_spots}
use Rattle.go_complete_core.specs.spelling.Spots.{decl_spots}
use Rattle.go_complete_core.proofs.SpellingChecked.{func_noted}

module _ {T S D P : Type 0} (looks other : Looks T S D P) where
  exprs_len : (es : Separated ExprTree) → len (exprs_spots looks es) ≡ len (exprs_spots other es)
  exprs_len (One e) = expr_len looks other stands.«Value» e
  exprs_len (Then e comma more) = len_app (spots looks stands.«Value» e) (exprs_spots looks more) (spots other stands.«Value» e) (exprs_spots other more) (expr_len looks other stands.«Value» e) (exprs_len more)

  some_type_len : (t : Option TypeTree) → len (some_type_spots looks t) ≡ len (some_type_spots other t)
  some_type_len None = refl
  some_type_len (Some t) = type_len looks other t

  values_len : (vs : Option (Span × Separated ExprTree)) → len (values_spots looks vs) ≡ len (values_spots other vs)
  values_len None = refl
  values_len (Some vs) = exprs_len vs.1

  spec_len : (v : ValueSpecTree) → len (spec_spots looks v) ≡ len (spec_spots other v)
  spec_len v = len_app (some_type_spots looks v.type_expr) (values_spots looks v.values) (some_type_spots other v.type_expr) (values_spots other v.values) (some_type_len v.type_expr) (values_len v.values)

  either_len : (b : Bool) (ps qs : List (Spot T D P)) → len ps ≡ len qs → len (if b then [] else ps) ≡ len (if b then [] else qs)
  either_len true ps qs h = refl
  either_len false ps qs h = h

  target_len : (e : ExprTree) → len (target_spots looks e) ≡ len (target_spots other e)
  target_len e = either_len (is_blank_target e) (spots looks stands.«Value» e) (spots other stands.«Value» e) (expr_len looks other stands.«Value» e)

  targets_len : (es : Separated ExprTree) → len (targets_spots looks es) ≡ len (targets_spots other es)
  targets_len (One e) = target_len e
  targets_len (Then e comma more) = len_app (target_spots looks e) (targets_spots looks more) (target_spots other e) (targets_spots other more) (target_len e) (targets_len more)

  simple_len : (s : SimpleTree) → len (simple_spots looks s) ≡ len (simple_spots other s)
  simple_len (Alone e) = expr_len looks other stands.«Value» e
  simple_len (Step e op span) = expr_len looks other stands.«Value» e
  simple_len (Assign ts span es) = len_app (targets_spots looks ts) (exprs_spots looks es) (targets_spots other ts) (exprs_spots other es) (targets_len ts) (exprs_len es)
  simple_len (Update e op span v) = len_app (spots looks stands.«Value» e) (spots looks stands.«Value» v) (spots other stands.«Value» e) (spots other stands.«Value» v) (expr_len looks other stands.«Value» e) (expr_len looks other stands.«Value» v)
  simple_len (Define xs span es) = exprs_len es

  receiver_len : (r : Option Receiver) → len (receiver_spots looks r) ≡ len (receiver_spots other r)
  receiver_len None = refl
  receiver_len (Some r) = name_len looks other r.base

  given_len : (es : Option (Separated ExprTree)) → len (given_spots looks es) ≡ len (given_spots other es)
  given_len None = refl
  given_len (Some es) = exprs_len es

  piece_len : (p : Piece) → len (piece_spots looks p) ≡ len (piece_spots other p)
  piece_len (Header r g) = len_app (receiver_spots looks r) (signature_spots looks g) (receiver_spots other r) (signature_spots other g) (receiver_len r) (signature_len looks other g)
  piece_len (Spec k v) = spec_len v
  piece_len (Act s) = simple_len s
  piece_len (Condition e) = expr_len looks other stands.«Value» e
  piece_len (Given place es) = given_len es

-- on the way through a function

module _ {X T S D P : Type 0} (looks other : NameLook X → Looks T S D P) (mean : Piece → List (Option (Operand T)) → ℕ → X) (beyond beyond' : List ℕ → Option X) where
  abbrev first_walk : Names X → Names X → ℕ → ℕ → Steps → List (Spot T D P)
  first_walk outer block o c s = (walk_out (spot_rules looks mean) beyond outer block o c s).notes

  abbrev second_walk : Names X → Names X → ℕ → ℕ → Steps → List (Spot T D P)
  second_walk outer block o c s = (walk_out (spot_rules other mean) beyond' outer block o c s).notes

  abbrev first_names : Names X → Names X → Piece → List Ident → Names X
  first_names outer block p xs = with_names block (mean p (piece_values (looks (look_in beyond (outer ++ block))) (news (names_of block) xs) p)) 0 xs

  abbrev second_names : Names X → Names X → Piece → List Ident → Names X
  second_names outer block p xs = with_names block (mean p (piece_values (other (look_in beyond' (outer ++ block))) (news (names_of block) xs) p)) 0 xs

  walks_len : (s : Steps) (outer block outer' block' : Names X) (o c : ℕ) → len (first_walk outer block o c s) ≡ len (second_walk outer' block' o c s)
  walks_len Done outer block outer' block' o c = refl
  walks_len (Check p rest) outer block outer' block' o c =
      let a = looks (look_in beyond (outer ++ block)) in
      let b = other (look_in beyond' (outer' ++ block')) in
      len_app (piece_spots a p) (first_walk outer block o c rest) (piece_spots b p) (second_walk outer' block' o c rest) (piece_len a b p) (walks_len rest outer block outer' block' o c)
  walks_len (Declare m from p xs rest) outer block outer' block' o c =
      let a = looks (look_in beyond (outer ++ block)) in
      let b = other (look_in beyond' (outer' ++ block')) in
      let more = first_names outer block p xs in
      let more' = second_names outer' block' p xs in
      len_app (piece_spots a p) (first_walk outer more o c rest) (piece_spots b p) (second_walk outer' more' o c rest) (piece_len a b p) (walks_len rest outer more outer' more' o c)
  walks_len (Inner i j inner rest) outer block outer' block' o c =
      len_app (first_walk (outer ++ block) [] i j inner) (first_walk outer block o c rest) (second_walk (outer' ++ block') [] i j inner) (second_walk outer' block' o c rest)
      (walks_len inner (outer ++ block) [] (outer' ++ block') [] i j) (walks_len rest outer block outer' block' o c)

-- declarations

module _ (st other : FileStand) where
  func_long : (f : FuncTree) → len (func_spots st f) ≡ len (checked_func other f).uses
  func_long f =
      walks_len (looks_where st) (looks_where other) local_at (outer_meanings st) (outer_meanings other) (func_steps f) [] [] [] [] (func_opens f) (func_closes f)
      ∙ (walk_long (looks_where other) local_at (outer_meanings other) (func_steps f) [] [] (func_opens f) (func_closes f) ∙ ap len (sym (func_noted other f)))

  pub spec_long : (v : ValueSpecTree) → len (spec_spots (outer_looks st) v) ≡ len (spec_uses (outer_looks other) v)
  spec_long v = spec_len (outer_looks st) (outer_looks other) v ∙ piece_long (outer_looks other) (Spec kinds.Var v)

  pub type_long : (t : TypeSpecTree) → len (type_spots (outer_looks st) t.type_expr) ≡ len (type_uses (outer_looks other) t.type_expr)
  type_long t = type_len (outer_looks st) (outer_looks other) t.type_expr ∙ sym (map_len (use_of (outer_looks other)) (type_spots (outer_looks other) t.type_expr))

  pub receiver_long : (r : Option Receiver) → len (receiver_spots (outer_looks st) r) ≡ len (receiver_uses (outer_looks other) r)
  receiver_long None = refl
  receiver_long (Some r) = name_len (outer_looks st) (outer_looks other) r.base ∙ sym (map_len (use_of (outer_looks other)) (type_name_spots (outer_looks other) r.base))

  each_long : {A B C : Type 0} (f : A → List B) (g : A → List C) → ((a : A) → len (f a) ≡ len (g a)) → (ls : List (A × Option Span)) → len (flat_map (λ l. f l.0) ls) ≡ len (flat_map (λ l. g l.0) ls)
  each_long f g h [] = refl
  each_long f g h (l ∷ ls) = len_app (f l.0) (flat_map (λ l. f l.0) ls) (g l.0) (flat_map (λ l. g l.0) ls) (h l.0) (each_long f g h ls)

  specs_long : {A B C : Type 0} (f : A → List B) (g : A → List C) → ((a : A) → len (f a) ≡ len (g a)) → (xs : Specs A) → len (of_specs f xs) ≡ len (of_specs g xs)
  specs_long f g h (Single a) = h a
  specs_long f g h (Group first ls last) = each_long f g h ls

  pub decl_long : (d : DeclTree) → len (decl_spots st d) ≡ len (decl_uses other d)
  decl_long (Value v) = specs_long (spec_spots (outer_looks st)) (spec_uses (outer_looks other)) spec_long v.specs
  decl_long (Types t) = specs_long (λ s. type_spots (outer_looks st) s.type_expr) (λ s. type_uses (outer_looks other) s.type_expr) type_long t.specs
  decl_long (Func f) = func_long f
