-- What the steps of a function declare, where no name is declared twice in its block.
use Rattle.std.proofs.Common.{◌≡◌, ◌⊎◌, inl, inr, ℕ, zero, suc, ◌+◌, Bool, true, false, not, ◌&&◌, ◌||◌, List, [], ◌∷◌, ◌++◌, map, Option, Some, refl, sym, ap, ◌∙◌, subst, arith, if◌then◌else◌}
use Rattle.std.specs.Prelude.{slice_get}
use Rattle.std.proofs.lemmas.Bool.{and_parts}
use Rattle.go_constant_core.specs.text_core.Text.{is_blank}
use Rattle.go_constant_core.specs.text_core.declared.rule.Rule.TheVariants.{B1, B4}
use Rattle.go_constant_core.specs.text_core.Each.{Each}
use Rattle.go_tree_nodes.specs.declared.names.Ident.{Ident}
use Rattle.go_names_core.specs.local_core.Binding.{Local, bound, is_first, is_second}
use Rattle.go_names_core.specs.local_core.Denoted.{IsAmong}
use Rattle.go_names_core.specs.local_core.Faults.{ident_fault, name_faults, second_faults}
use Rattle.go_names_core.specs.local_core.Law.{Rules, declared_from, law_out, locals_of_names}
use Rattle.go_names_core.specs.local_core.Pieces.{ident_place, piece_declares}
use Rattle.go_names_core.specs.local_core.Steps.{Piece, Newness, EachFirst, OneNew, Steps, Done, Check, Declare, Inner}
use Rattle.go_workspace_laws.proofs.FoldingInside.{none_left, none_right}
use Rattle.go_workspace_laws.specs.Standing.{pieces_in}
use Rattle.go_workspace_laws.proofs.ConstantLists.{HasItem, has_either, has_left, has_right}
use Rattle.go_program_laws.proofs.TypesChecks.{AreDeclaring}

-- lists

pub among_left : {X : Type 0} (xs ys : List (Local X)) (d : Local X) → IsAmong d xs → IsAmong d (xs ++ ys)
among_left [] ys d h = absurd h
among_left (x ∷ xs) ys d (inl e) = inl e
among_left (x ∷ xs) ys d (inr h) = inr (among_left xs ys d h)

pub among_right : {X : Type 0} (xs ys : List (Local X)) (d : Local X) → IsAmong d ys → IsAmong d (xs ++ ys)
among_right [] ys d h = h
among_right (x ∷ xs) ys d h = inr (among_right xs ys d h)

pub among_either : {X : Type 0} (xs ys : List (Local X)) (d : Local X) → IsAmong d (xs ++ ys) → IsAmong d xs ⊎ IsAmong d ys
among_either [] ys d h = inr h
among_either (x ∷ xs) ys d (inl e) = inl (inl e)
among_either (x ∷ xs) ys d (inr h) = elim (among_either xs ys d h) [
  | inl k ↦ inl (inr k)
  | inr k ↦ inr k
]

pub among_each : {X : Type 0} (P : Local X → Type 0) (ds : List (Local X)) (d : Local X) → Each P ds → IsAmong d ds → P d
among_each P [] d h a = absurd a
among_each P (x ∷ xs) d h (inl e) = subst P (sym e) h.0
among_each P (x ∷ xs) d h (inr a) = among_each P xs d h.1 a

pub among_item : {X : Type 0} (ds : List (Local X)) (d : Local X) → IsAmong d ds → HasItem ds d
among_item [] d h = absurd h
among_item (x ∷ xs) d (inl e) = inl (sym e)
among_item (x ∷ xs) d (inr h) = inr (among_item xs d h)

pub ident_at : (xs : List Ident) (k : ℕ) (x : Ident) → slice_get xs k ≡ Some x → ident_place xs k ≡ x.span.start
ident_at [] k x e = absurd (cc e)
ident_at (y ∷ ys) zero x e = (let same : y ≡ x = cc e in ap (λ (z : Ident). z.span.start) same)
ident_at (y ∷ ys) (suc k) x e = ident_at ys k x e

-- a declaration of names from the n-th on

pub record IsNamed {X : Type 0} (from : ℕ) (means : ℕ → X) (n : ℕ) (xs : List Ident) (d : Local X) : Type 0 where
  pub place : ℕ
  pub ident : Ident
  pub there : slice_get xs place ≡ Some ident
  pub named : is_blank ident.name ≡ false
  pub begins : d.from ≡ from
  pub index : ℕ
  pub index_is : index ≡ n + place
  pub means_is : d.means ≡ means index

pub is_named : {X : Type 0} (o c from : ℕ) (means : ℕ → X) (n : ℕ) (xs : List Ident) (d : Local X) → IsAmong d (declared_from o c from means n xs) → IsNamed from means n xs d
is_named o c from means n [] d h = absurd h
is_named {X} o c from means n (x ∷ xs) d h = by (is_blank x.name) refl h (is_named o c from means (suc n) xs d)
  where
    later : IsNamed from means (suc n) xs d → IsNamed from means n (x ∷ xs) d
    later r =
        let e : suc n + r.place ≡ n + suc r.place = omega arith in
        record { place = suc r.place; ident = r.ident; there = r.there; named = r.named; begins = r.begins; index = r.index; index_is = r.index_is ∙ e; means_is = r.means_is }

    by : (b : Bool) → is_blank x.name ≡ b → IsAmong d ((if b then [] else record { name = x.name; at = x.span.start; from = from; opens = o; closes = c; means = means n } ∷ []) ++ declared_from o c from means (suc n) xs)
        → (IsAmong d (declared_from o c from means (suc n) xs) → IsNamed from means (suc n) xs d) → IsNamed from means n (x ∷ xs) d
    by true e h rest = later (rest h)
    by false e (inl is) rest =
        let none : n ≡ n + 0 = omega arith in
        record { place = 0; ident = x; there = refl; named = e; begins = ap (λ (l : Local X). l.from) is; index = n; index_is = none; means_is = ap (λ (l : Local X). l.means) is }
    by false e (inr h) rest = later (rest h)

-- names without faults

not_true : (b : Bool) → not b ≡ true → b ≡ false
not_true false h = refl
not_true true h = absurd (cc h)

pub no_second : {X : Type 0} (all : List (Local X)) (o : ℕ) (x : Ident) → is_first all o x ≡ true → is_second all o x.name x.span.start ≡ false
no_second all o x h = not_true (is_second all o x.name x.span.start) (and_parts (not (is_blank x.name)) (not (is_second all o x.name x.span.start)) h).1

first_of : (k b : Bool) (x : Ident) → k ≡ false → (if not k && not b then ident_fault x B1 ∷ [] else []) ≡ [] → b ≡ true
first_of k true x e h = refl
first_of true false x e h = absurd (cc e)
first_of false false x e h = absurd (cc h)

-- a declaration that holds, which means this
pub record IsHeld {X : Type 0} (all ds : List (Local X)) (m : X) : Type 0 where
  pub item : Local X
  pub there : IsAmong item ds
  pub holds : is_second all item.opens item.name item.at ≡ false
  pub means_is : item.means ≡ m

pub held_left : {X : Type 0} (all xs ys : List (Local X)) (m : X) → IsHeld all xs m → IsHeld all (xs ++ ys) m
held_left all xs ys m h = record { item = h.item; there = among_left xs ys h.item h.there; holds = h.holds; means_is = h.means_is }

pub held_right : {X : Type 0} (all xs ys : List (Local X)) (m : X) → IsHeld all ys m → IsHeld all (xs ++ ys) m
held_right all xs ys m h = record { item = h.item; there = among_right xs ys h.item h.there; holds = h.holds; means_is = h.means_is }

module _ {X : Type 0} (all : List (Local X)) (o c from : ℕ) (means : ℕ → X) where
  one_held : (n : ℕ) (x : Ident) → is_blank x.name ≡ false → is_first all o x ≡ true → IsHeld all (locals_of_names o c from means n x) (means n)
  one_held n x named first = by (is_blank x.name) named
    where
      d : Local X
      d = record { name = x.name; at = x.span.start; from = from; opens = o; closes = c; means = means n }

      by : (b : Bool) → b ≡ false → IsHeld all (if b then [] else record { name = x.name; at = x.span.start; from = from; opens = o; closes = c; means = means n } ∷ []) (means n)
      by true e = absurd (cc e)
      by false e = record { item = d; there = inl refl; holds = no_second all o x first; means_is = refl }

  -- each name that is not blank is declared, where none is the second of its block
  pub each_held : (n : ℕ) (xs : List Ident) → second_faults (map (is_first all o) xs) xs ≡ [] → (k : ℕ) (x : Ident) → slice_get xs k ≡ Some x → is_blank x.name ≡ false → (j : ℕ) → j ≡ n + k → IsHeld all (declared_from o c from means n xs) (means j)
  each_held n [] none k x e named j is = absurd (cc e)
  each_held n (y ∷ ys) none zero x e named j is =
      let same : y ≡ x = cc e in
      let here : n ≡ j = omega (arith, is) in
      let clear : is_blank y.name ≡ false = ap (λ (z : Ident). is_blank z.name) same ∙ named in
      let first = first_of (is_blank y.name) (is_first all o y) y clear (none_left _ (second_faults (map (is_first all o) ys) ys) none) in
      subst (λ i. IsHeld all (declared_from o c from means n (y ∷ ys)) (means i)) here
      (held_left all (locals_of_names o c from means n y) (declared_from o c from means (suc n) ys) (means n) (one_held n y clear first))
  each_held n (y ∷ ys) none (suc k) x e named j is =
      let on : j ≡ suc n + k = omega (arith, is) in
      held_right all (locals_of_names o c from means n y) (declared_from o c from means (suc n) ys) (means j) (each_held (suc n) ys (none_right _ (second_faults (map (is_first all o) ys) ys) none) k x e named j on)

  -- one name that is to be new is
  pub one_first : (m : Newness) (x : Ident) → is_blank x.name ≡ false → name_faults m (map (is_first all o) (x ∷ [])) (x ∷ []) ≡ [] → is_first all o x ≡ true
  one_first EachFirst x named none = first_of (is_blank x.name) (is_first all o x) x named (none_left _ [] none)
  one_first OneNew x named none = by (is_first all o x) (none_left _ _ none)
    where
      by : (b : Bool) → (if b || false then [] else ident_fault x B4 ∷ []) ≡ [] → b ≡ true
      by true h = refl
      by false h = absurd (cc h)

-- a piece of steps

module _ {X N : Type 0} (rules : Rules X N) (beyond : List ℕ → Option X) (all : List (Local X)) where
  abbrev Notes : ℕ → ℕ → Steps → List N
  Notes o c steps = (law_out rules beyond all o c steps).notes

  abbrev Locals : ℕ → ℕ → Steps → List (Local X)
  Locals o c steps = (law_out rules beyond all o c steps).declares

  -- it is noted by which of its names are first in their block; where names break no rule, and it declares one name, this is first and declared
  pub record IsMade (ns : List N) (ls : List (Local X)) (p : Piece) : Type 0 where
    pub firsts : List Bool
    pub notes : (x : N) → HasItem (rules.notes (bound beyond all) firsts p) x → HasItem ns x
    pub single : (x : Ident) → piece_declares p ≡ x ∷ [] → is_blank x.name ≡ false → (firsts ≡ true ∷ []) × IsHeld all ls (rules.means (bound beyond all) (true ∷ []) p 0)

  made_left : (ns ms : List N) (ls ks : List (Local X)) (p : Piece) → IsMade ns ls p → IsMade (ns ++ ms) (ls ++ ks) p
  made_left ns ms ls ks p h = record {
    firsts = h.firsts;
    notes = λ x k. has_left ns ms x (h.notes x k);
    single = λ x e named. (let s = h.single x e named in (s.0, held_left all ls ks _ s.1));
  }

  made_right : (ns ms : List N) (ls ks : List (Local X)) (p : Piece) → IsMade ms ks p → IsMade (ns ++ ms) (ls ++ ks) p
  made_right ns ms ls ks p h = record {
    firsts = h.firsts;
    notes = λ x k. has_right ns ms x (h.notes x k);
    single = λ x e named. (let s = h.single x e named in (s.0, held_right all ls ks _ s.1));
  }

  made_here : (o c from : ℕ) (m : Newness) (p : Piece) (xs : List Ident) → xs ≡ piece_declares p → name_faults m (map (is_first all o) xs) xs ≡ []
      → IsMade (rules.notes (bound beyond all) (map (is_first all o) xs) p) (declared_from o c from (rules.means (bound beyond all) (map (is_first all o) xs) p) 0 xs) p
  made_here o c from m p xs same none = record {
    firsts = map (is_first all o) xs;
    notes = λ x k. k;
    single = one;
  }
    where
      one : (x : Ident) → piece_declares p ≡ x ∷ [] → is_blank x.name ≡ false
          → (map (is_first all o) xs ≡ true ∷ []) × IsHeld all (declared_from o c from (rules.means (bound beyond all) (map (is_first all o) xs) p) 0 xs) (rules.means (bound beyond all) (true ∷ []) p 0)
      one x e named =
          let alone : xs ≡ x ∷ [] = same ∙ e in
          let first = one_first all o c from (rules.means (bound beyond all) (map (is_first all o) xs) p) m x named (subst (λ ys. name_faults m (map (is_first all o) ys) ys ≡ []) alone none) in
          let firsts : map (is_first all o) xs ≡ true ∷ [] = ap (map (is_first all o)) alone ∙ ap (λ (b : Bool). b ∷ []) first in
          let held : IsHeld all (declared_from o c from (rules.means (bound beyond all) (true ∷ []) p) 0 (x ∷ [])) (rules.means (bound beyond all) (true ∷ []) p 0) =
          held_left all (locals_of_names o c from (rules.means (bound beyond all) (true ∷ []) p) 0 x) [] (rules.means (bound beyond all) (true ∷ []) p 0) (one_held all o c from (rules.means (bound beyond all) (true ∷ []) p) 0 x named first) in (
            firsts,
            subst (λ ys. IsHeld all (declared_from o c from (rules.means (bound beyond all) (map (is_first all o) xs) p) 0 ys) (rules.means (bound beyond all) (true ∷ []) p 0)) (sym alone)
                (subst (λ bs. IsHeld all (declared_from o c from (rules.means (bound beyond all) bs p) 0 (x ∷ [])) (rules.means (bound beyond all) (true ∷ []) p 0)) (sym firsts) held),
          )

  made_check : (p : Piece) → piece_declares p ≡ [] → IsMade (rules.notes (bound beyond all) [] p) [] p
  made_check p none = record {
    firsts = [];
    notes = λ x k. k;
    single = λ x e named. absurd (let lie : [] ≡ x ∷ [] = sym none ∙ e in cc);
  }

  is_piece : (ns : List N) (ls : List (Local X)) (q p : Piece) → q ≡ p → IsMade ns ls q → IsMade ns ls p
  is_piece ns ls q p e h = subst (λ r. IsMade ns ls r) e h

  pub made : (steps : Steps) (o c : ℕ) (p : Piece) → AreDeclaring steps → (law_out rules beyond all o c steps).faults ≡ [] → HasItem (pieces_in steps) p → IsMade (Notes o c steps) (Locals o c steps) p
  made Done o c p named none h = absurd h
  made (Check q rest) o c p named none (inl s) = is_piece _ _ q p s (made_left (rules.notes (bound beyond all) [] q) (Notes o c rest) [] (Locals o c rest) q (made_check q named.0))
  made (Check q rest) o c p named none (inr h) = made_right (rules.notes (bound beyond all) [] q) (Notes o c rest) [] (Locals o c rest) p (made rest o c p named.1 none h)
  made (Declare m from q xs rest) o c p named none (inl s) =
      is_piece _ _ q p s
      (made_left (rules.notes (bound beyond all) (map (is_first all o) xs) q) (Notes o c rest) (declared_from o c from (rules.means (bound beyond all) (map (is_first all o) xs) q) 0 xs) (Locals o c rest) q
      (made_here o c from m q xs named.0 (none_left (name_faults m (map (is_first all o) xs) xs) _ none)))
  made (Declare m from q xs rest) o c p named none (inr h) =
      made_right (rules.notes (bound beyond all) (map (is_first all o) xs) q) (Notes o c rest) (declared_from o c from (rules.means (bound beyond all) (map (is_first all o) xs) q) 0 xs) (Locals o c rest) p
      (made rest o c p named.1 (none_right (name_faults m (map (is_first all o) xs) xs) _ none) h)
  made (Inner o' c' steps rest) o c p named none h = elim (has_either (pieces_in steps) (pieces_in rest) p h) [
    | inl here ↦ made_left (Notes o' c' steps) (Notes o c rest) (Locals o' c' steps) (Locals o c rest) p (made steps o' c' p named.0 (none_left (law_out rules beyond all o' c' steps).faults _ none) here)
    | inr later ↦ made_right (Notes o' c' steps) (Notes o c rest) (Locals o' c' steps) (Locals o c rest) p (made rest o c p named.1 (none_right (law_out rules beyond all o' c' steps).faults _ none) later)
  ]
