-- What holds of what names mean outside a function, and of what its pieces declare where it holds of the names that they see, holds of all its declarations.
use Rattle.std.proofs.Common.{◌≡◌, inl, inr, ℕ, suc, Bool, true, false, List, [], ◌∷◌, ◌++◌, Option, Some, None, subst, if◌then◌else◌}
use Rattle.std.specs.Str.{bytes_eq}
use Rattle.go_tree_nodes.specs.declared.names.Ident.{Ident}
use Rattle.go_constant_core.specs.text_core.Text.{is_blank}
use Rattle.go_names_core.specs.scope_stack.Blocks.{or_else}
use Rattle.go_names_core.specs.local_core.Binding.{Local, NameLook}
use Rattle.go_names_core.specs.local_core.Law.{Rules, declared_from, locals_of_names}
use Rattle.go_names_core.specs.local_core.Steps.{Piece, Steps, Done, Check, Declare, Inner}
use Rattle.go_names_core.specs.local_core.mirrors.Walk.{Names, is_new, latest, look_in, names_of, news, walk_out, with_name, with_names}
use Rattle.go_workspace_laws.proofs.ConstantLists.{HasItem, has_either}

module _ {X N : Type 0} (rules : Rules X N) (beyond : List ℕ → Option X) (Good : X → Type 0) (outside : (name : List ℕ) (x : X) → beyond name ≡ Some x → Good x)
    (declared : (look : NameLook X) → ((name : List ℕ) (place : ℕ) (x : X) → look name place ≡ Some x → Good x) → (firsts : List Bool) (p : Piece) (n : ℕ) → Good (rules.means look firsts p n)) where
  abbrev AreGood : Names X → Type 0
  AreGood [] = Unit {0}
  AreGood (e ∷ es) = Good e.1 × AreGood es

  both_good : (es fs : Names X) → AreGood es → AreGood fs → AreGood (es ++ fs)
  both_good [] fs h k = k
  both_good (e ∷ es) fs h k = (h.0, both_good es fs h.1 k)

  -- the latest of a name, or what it means beyond
  own_good : (b : Bool) (e : List ℕ × X) (x : X) → Good e.1 → (if b then Some e.1 else None) ≡ Some x → Good x
  own_good true e x h is = (let same : e.1 ≡ x = cc is in subst Good same h)
  own_good false e x h is = absurd (cc is)

  some_good : (o other : Option X) (x : X) → ((y : X) → o ≡ Some y → Good y) → ((y : X) → other ≡ Some y → Good y) → or_else o other ≡ Some x → Good x
  some_good None other x h k is = k x is
  some_good (Some y) other x h k is = h x is

  latest_good : (es : Names X) → AreGood es → (name : List ℕ) (x : X) → latest es name ≡ Some x → Good x
  latest_good [] h name x is = absurd (cc is)
  latest_good (e ∷ es) h name x is = some_good (latest es name) (if bytes_eq name e.0 then Some e.1 else None) x (λ y k. latest_good es h.1 name y k) (λ y k. own_good (bytes_eq name e.0) e y h.0 k) is

  look_good : (es : Names X) → AreGood es → (name : List ℕ) (place : ℕ) (x : X) → look_in beyond es name place ≡ Some x → Good x
  look_good es h name place x is = some_good (latest es name) (beyond name) x (λ y k. latest_good es h name y k) (λ y k. outside name y k) is

  named_good : (b : Bool) (block : Names X) (x : Ident) (means : X) → AreGood block → Good means → AreGood (if b then block ++ (x.name, means) ∷ [] else block)
  named_good true block x means h k = both_good block ((x.name, means) ∷ []) h (k, tt)
  named_good false block x means h k = h

  names_good : (xs : List Ident) (block : Names X) (means : ℕ → X) (n : ℕ) → AreGood block → ((k : ℕ) → Good (means k)) → AreGood (with_names block means n xs)
  names_good [] block means n h k = h
  names_good (x ∷ xs) block means n h k = names_good xs (with_name block x (means n)) means (suc n) (named_good (is_new block x) block x (means n) h (k n)) k

  -- declarations

  abbrev AllGood : List (Local X) → Type 0
  AllGood ds = (d : Local X) → HasItem ds d → Good d.means

  joined_good : (ds es : List (Local X)) → AllGood ds → AllGood es → AllGood (ds ++ es)
  joined_good ds es h k d there = elim (has_either ds es d there) [
    | inl l ↦ h d l
    | inr r ↦ k d r
  ]

  none_good : AllGood []
  none_good d there = absurd there

  name_good : (opens closes from : ℕ) (means : ℕ → X) (n : ℕ) (x : Ident) → Good (means n) → AllGood (locals_of_names opens closes from means n x)
  name_good opens closes from means n x k = by (is_blank x.name)
    where
      by : (b : Bool) → AllGood (if b then [] else record { name = x.name; at = x.span.start; from = from; opens = opens; closes = closes; means = means n } ∷ [])
      by true d there = absurd there
      by false d (inl e) = subst (λ (y : Local X). Good y.means) e k
      by false d (inr none) = absurd none

  from_good : (opens closes from : ℕ) (means : ℕ → X) (n : ℕ) (xs : List Ident) → ((k : ℕ) → Good (means k)) → AllGood (declared_from opens closes from means n xs)
  from_good opens closes from means n [] k = none_good
  from_good opens closes from means n (x ∷ xs) k = joined_good (locals_of_names opens closes from means n x) (declared_from opens closes from means (suc n) xs) (name_good opens closes from means n x (k n)) (from_good opens closes from means (suc n) xs k)

  pub walked_good : (steps : Steps) (outer block : Names X) (opens closes : ℕ) → AreGood outer → AreGood block → AllGood (walk_out rules beyond outer block opens closes steps).declares
  walked_good Done outer block opens closes h k = none_good
  walked_good (Check p rest) outer block opens closes h k = walked_good rest outer block opens closes h k
  walked_good (Declare m from p xs rest) outer block opens closes h k =
      let look : NameLook X = look_in beyond (outer ++ block) in
      let firsts = news (names_of block) xs in
      let means = λ (n : ℕ). declared look (look_good (outer ++ block) (both_good outer block h k)) firsts p n in
      joined_good (declared_from opens closes from (rules.means look firsts p) 0 xs) (walk_out rules beyond outer (with_names block (rules.means look firsts p) 0 xs) opens closes rest).declares
      (from_good opens closes from (rules.means look firsts p) 0 xs means) (walked_good rest outer (with_names block (rules.means look firsts p) 0 xs) opens closes h (names_good xs block (rules.means look firsts p) 0 k means))
  walked_good (Inner o c steps rest) outer block opens closes h k =
      joined_good (walk_out rules beyond (outer ++ block) [] o c steps).declares (walk_out rules beyond outer block opens closes rest).declares (walked_good steps (outer ++ block) [] o c (both_good outer block h k) tt) (walked_good rest outer block opens closes h k)
