-- What is open on a walk and by the tree alone.
use Rattle.std.proofs.Common.{◌≡◌, ℕ, suc, Bool, true, false, ◌&&◌, ◌||◌, not, List, [], ◌∷◌, ◌++◌, map, Option, refl, sym, ap, ◌∙◌, arith}
use Rattle.std.specs.Prelude.{All, if◌then◌else◌}
use Rattle.std.specs.List.{flat_map, list_any}
use Rattle.std.specs.Str.{bytes_eq}
use Rattle.std.proofs.lemmas.List.{map-append}
use Rattle.std.proofs.lemmas.Grind.{flat_map-append}
use Rattle.std.proofs.lemmas.List.Elements.{All-cons, All-append}
use Rattle.go_tree_nodes.specs.text_core.Text.{is_blank}
use Rattle.go_tree_nodes.specs.declared.names.Ident.{Ident}
use Rattle.go_expr_core.specs.local_core.Steps.{Steps, Done, Check, Declare, Inner}
use Rattle.go_expr_core.specs.local_core.Law.{Rules}
use Rattle.go_expr_core.specs.local_core.Outline.{func_steps, func_opens, func_closes}
use Rattle.go_expr_core.specs.local_core.mirrors.Walk.{Names, look_in, with_name, with_names, news, names_of, walk_out}
use Rattle.go_cursor_core.specs.Opened as tree
use Rattle.go_cursor_core.specs.Opened.{OpenUsed, piece_opened, steps_opened, with_ident, with_idents}
use Rattle.go_cursor_core.specs.Walks.{PieceAt, pieces_at, OpenNamesAreWalked}

abbrev idents_names : List Ident → List (List ℕ)
idents_names xs = map (λ x. x.name) xs

module _ {X N : Type 0} (rules : Rules X N) (beyond : List ℕ → Option X) where
  abbrev noted : PieceAt X → List N
  noted a = rules.notes (look_in beyond a.names) a.firsts a.piece

  abbrev opened_at : PieceAt X → List OpenUsed
  opened_at a = piece_opened a.locals a.piece

  notes_of : (steps : Steps) (outer block : Names X) (xs ys : List Ident) (o c : ℕ) → (walk_out rules beyond outer block o c steps).notes ≡ flat_map noted (pieces_at rules beyond outer block xs ys steps)
  notes_of Done outer block xs ys o c = refl
  notes_of (Check p rest) outer block xs ys o c = ap (λ l. rules.notes (look_in beyond (outer ++ block)) [] p ++ l) (notes_of rest outer block xs ys o c)
  notes_of (Declare m from p zs rest) outer block xs ys o c =
      ap (λ l. rules.notes (look_in beyond (outer ++ block)) (news (names_of block) zs) p ++ l)
      (notes_of rest outer (with_names block (rules.means (look_in beyond (outer ++ block)) (news (names_of block) zs) p) 0 zs) xs (with_idents ys zs) o c)
  notes_of (Inner a b steps rest) outer block xs ys o c =
      ap (λ l. l ++ (walk_out rules beyond outer block o c rest).notes) (notes_of steps (outer ++ block) [] (xs ++ ys) [] a b)
      ∙ (ap (λ l. flat_map noted (pieces_at rules beyond (outer ++ block) [] (xs ++ ys) [] steps) ++ l) (notes_of rest outer block xs ys o c)
      ∙ sym (flat_map-append noted (pieces_at rules beyond (outer ++ block) [] (xs ++ ys) [] steps) (pieces_at rules beyond outer block xs ys rest)))

  used_of : (steps : Steps) (outer block : Names X) (xs ys : List Ident) → steps_opened xs ys steps ≡ flat_map opened_at (pieces_at rules beyond outer block xs ys steps)
  used_of Done outer block xs ys = refl
  used_of (Check p rest) outer block xs ys = ap (λ l. piece_opened (xs ++ ys) p ++ l) (used_of rest outer block xs ys)
  used_of (Declare m from p zs rest) outer block xs ys =
      ap (λ l. piece_opened (xs ++ ys) p ++ l) (used_of rest outer (with_names block (rules.means (look_in beyond (outer ++ block)) (news (names_of block) zs) p) 0 zs) xs (with_idents ys zs))
  used_of (Inner a b steps rest) outer block xs ys =
      ap (λ l. l ++ steps_opened xs ys rest) (used_of steps (outer ++ block) [] (xs ++ ys) [])
      ∙ (ap (λ l. flat_map opened_at (pieces_at rules beyond (outer ++ block) [] (xs ++ ys) [] steps) ++ l) (used_of rest outer block xs ys)
      ∙ sym (flat_map-append opened_at (pieces_at rules beyond (outer ++ block) [] (xs ++ ys) [] steps) (pieces_at rules beyond outer block xs ys rest)))

  -- the same names

  any_same : (name : List ℕ) (block : Names X) (ys : List Ident) → names_of block ≡ idents_names ys → list_any (λ e. bytes_eq name e.0) block ≡ list_any (λ y. bytes_eq name y.name) ys
  any_same name block ys h = sym (through (λ e. e.0) block) ∙ (ap (list_any (bytes_eq name)) h ∙ through (λ y. y.name) ys)
    where
      through : {A : Type 0} (g : A → List ℕ) (items : List A) → list_any (bytes_eq name) (map g items) ≡ list_any (λ a. bytes_eq name (g a)) items
      through g [] = refl
      through g (a ∷ items) = ap (λ b. bytes_eq name (g a) || b) (through g items)

  one_same : (block : Names X) (ys : List Ident) (x : Ident) (means : X) → names_of block ≡ idents_names ys → names_of (with_name block x means) ≡ idents_names (with_ident ys x)
  one_same block ys x means h =
      ap (λ b. names_of (if not (is_blank x.name) && not b then block ++ (x.name, means) ∷ [] else block)) (any_same x.name block ys h) ∙ by (tree.is_new ys x)
    where
      by : (b : Bool) → names_of (if b then block ++ (x.name, means) ∷ [] else block) ≡ idents_names (if b then ys ++ x ∷ [] else ys)
      by true = map-append (λ e. e.0) block ((x.name, means) ∷ []) ∙ (ap (λ l. l ++ x.name ∷ []) h ∙ sym (map-append (λ (y : Ident). y.name) ys (x ∷ [])))
      by false = h

  all_same : (block : Names X) (ys : List Ident) (means : ℕ → X) (n : ℕ) (zs : List Ident) → names_of block ≡ idents_names ys → names_of (with_names block means n zs) ≡ idents_names (with_idents ys zs)
  all_same block ys means n [] h = h
  all_same block ys means n (z ∷ zs) h = all_same (with_name block z (means n)) (with_ident ys z) means (suc n) zs (one_same block ys z (means n) h)

  front_same : (outer block : Names X) (xs ys : List Ident) → names_of outer ≡ idents_names xs → names_of block ≡ idents_names ys → names_of (outer ++ block) ≡ idents_names (xs ++ ys)
  front_same outer block xs ys g h =
      map-append (λ e. e.0) outer block ∙ (ap (λ l. l ++ names_of block) g ∙ (ap (λ l. idents_names xs ++ l) h ∙ sym (map-append (λ (y : Ident). y.name) xs ys)))

  abbrev Agrees : PieceAt X → Type 0
  Agrees a = names_of a.names ≡ idents_names a.locals

  same_of : (steps : Steps) (outer block : Names X) (xs ys : List Ident) → names_of outer ≡ idents_names xs → names_of block ≡ idents_names ys → All Agrees (pieces_at rules beyond outer block xs ys steps)
  same_of Done outer block xs ys g h = λ k d lt. absurd (omega arith)
  same_of (Check p rest) outer block xs ys g h = All-cons Agrees _ _ (front_same outer block xs ys g h) (same_of rest outer block xs ys g h)
  same_of (Declare m from p zs rest) outer block xs ys g h =
      let means = rules.means (look_in beyond (outer ++ block)) (news (names_of block) zs) p in
      All-cons Agrees _ _ (front_same outer block xs ys g h) (same_of rest outer (with_names block means 0 zs) xs (with_idents ys zs) g (all_same block ys means 0 zs h))
  same_of (Inner a b steps rest) outer block xs ys g h =
      All-append Agrees _ _ (same_of steps (outer ++ block) [] (xs ++ ys) [] (front_same outer block xs ys g h) refl) (same_of rest outer block xs ys g h)

pub names_walked : (X N : Type 0) → OpenNamesAreWalked X N
names_walked X N = record {
  notes = λ rules beyond f. notes_of rules beyond (func_steps f) [] [] [] [] (func_opens f) (func_closes f);
  used = λ rules beyond f. used_of rules beyond (func_steps f) [] [] [] [];
  same = λ rules beyond f. same_of rules beyond (func_steps f) [] [] [] [] refl refl;
}
