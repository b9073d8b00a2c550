-- Lists that are compared, as far as a loop has come.
use Rattle.std.proofs.Common.{◌≡◌, ◌↔◌, ℕ, suc, ◌+◌, ◌<◌, ◌≤◌, List, [], ◌∷◌, ◌++◌, ◌⊎◌, inl, inr, length, get_or, take, drop, Bool, IsTrue, true, false, Option, Some, None, arith, refl, ap, sym, ◌∙◌, subst}
use Rattle.std.proofs.lemmas.List.{drop_all, drop_more, take-append-drop}
use Rattle.std.specs.Slice.{IsItemAt}
use Rattle.std.specs.Prelude.{zero, map, slice_get, slice_index_or}
use Rattle.std.specs.Borrow.{Bor}
use Rattle.go_tree_nodes.specs.text_core.Text.{SameId}
use Rattle.go_term_core.specs.declared.term.MemberPlace.{MemberPlace}
use Rattle.go_term_core.specs.declared.term.Field.{Field}
use Rattle.go_term_core.specs.declared.term.TypeTerm.{TypeTerm}
use Rattle.go_term_core.specs.declared.term.Method.{Method}
use Rattle.go_term_core.specs.declared.same.LinePair.{LinePair}
use Rattle.go_term_core.specs.Terms.{Term, NoType, Sign, term_list}
use Rattle.go_term_core.specs.Shapes.{shape, shape_found, Line, line_with, line_at, term_at, fields_in, terms_in, sign_of, method_shapes}
use Rattle.go_term_core.specs.Identity.{TagsAgree, IdenticalBy, SameFieldsBy, HasAllBy, SameSignBy, SameTermsBy, IsMethod, method_count}
use Rattle.go_term_core.specs.Meeting.{IsMet}
use Rattle.go_term_core.specs.mirrors.Alike.{HasAlike, IsNoLine, SameLine}

-- a test that failed, of what does not hold
pub fails : {W : Type 0} → (W → ⊥) → IsTrue false ↔ W
fails never = (λ h. absurd (let k : false ≡ true = h in cc), λ w. absurd (never w))

pub first_is : {X : Type 0} (xs : List X) (i : ℕ) (x : X) → i < length xs → x ≡ get_or xs i x → drop i xs ≡ x ∷ drop (i + 1) xs
first_is xs i x h is = drop_more xs i x h ∙ ap (λ y. y ∷ drop (i + 1) xs) (sym is)

-- lists of other lengths

pub as_many_fields : (tags : Bool) (p q : List ℕ) (ls ks : List Line) (fs gs : List Field) → SameFieldsBy tags p (fields_in ls fs) q (fields_in ks gs) → length fs ≡ length gs
as_many_fields tags p q ls ks [] [] h = refl
as_many_fields tags p q ls ks [] (g ∷ gs) h = absurd h
as_many_fields tags p q ls ks (f ∷ fs) [] h = absurd h
as_many_fields tags p q ls ks (f ∷ fs) (g ∷ gs) h = ap suc (as_many_fields tags p q ls ks fs gs h.4)

pub as_many_terms : (tags : Bool) (ts us : List Term) (ns ms : List ℕ) → SameTermsBy tags (terms_in ts ns) (terms_in us ms) → length ns ≡ length ms
as_many_terms tags ts us [] [] h = refl
as_many_terms tags ts us [] (m ∷ ms) h = absurd h
as_many_terms tags ts us (n ∷ ns) [] h = absurd h
as_many_terms tags ts us (n ∷ ns) (m ∷ ms) h = ap suc (as_many_terms tags ts us ns ms h.1)

pub methods_counted : (ms : List Method) → method_count (method_shapes ms) ≡ length ms
methods_counted [] = refl
methods_counted (m ∷ ms) = ap suc (methods_counted ms)

-- a method among others

module _ (name : List ℕ) (place : MemberPlace) (g : Sign) where
  in_front : (xs ys : List Method) → IsMethod (method_shapes xs) name place g → IsMethod (method_shapes (xs ++ ys)) name place g
  in_front [] ys h = absurd h
  in_front (x ∷ xs) ys (inl h) = inl h
  in_front (x ∷ xs) ys (inr h) = inr (in_front xs ys h)

  in_back : (xs ys : List Method) → IsMethod (method_shapes ys) name place g → IsMethod (method_shapes (xs ++ ys)) name place g
  in_back [] ys h = h
  in_back (x ∷ xs) ys h = inr (in_back xs ys h)

  in_either : (xs ys : List Method) → IsMethod (method_shapes (xs ++ ys)) name place g → IsMethod (method_shapes xs) name place g ⊎ IsMethod (method_shapes ys) name place g
  in_either [] ys h = inr h
  in_either (x ∷ xs) ys (inl h) = inl (inl h)
  in_either (x ∷ xs) ys (inr h) = elim (in_either xs ys h) [ inl k ↦ inl (inr k) | inr k ↦ inr k ]

module _ (tags : Bool) (p name : List ℕ) (g : Sign) (q : List ℕ) where
  abbrev Has : List Method → Type 0
  Has ns = HasAlike tags p name g q (method_shapes ns)

  -- a loop that finds one
  pub alike_found : (ns : List Method) (i : ℕ) (n : Method) → i < length ns → n ≡ get_or ns i n → SameId name p n.name q → SameSignBy tags g (sign_of n.signature) → (Has (drop i ns) ↔ Has ns) → IsTrue true ↔ Has ns
  alike_found ns i n lt is same signs so_far =
      (λ _. so_far.0 (subst Has (sym (first_is ns i n lt is)) (n.name, n.place, sign_of n.signature, inl (refl, refl, refl), same, signs)), λ _. refl)

  -- a loop that passes one over
  pub alike_passed : (ns : List Method) (i : ℕ) (n : Method) → i < length ns → n ≡ get_or ns i n → (SameId name p n.name q → SameSignBy tags g (sign_of n.signature) → ⊥) → (Has (drop i ns) ↔ Has ns) → Has (drop (i + 1) ns) ↔ Has ns
  alike_passed ns i n lt is never so_far = (
    λ r. so_far.0 (subst Has (sym (first_is ns i n lt is)) (r.0, r.1, r.2, inr r.3, r.4, r.5)),
    λ w.
        let h = subst Has (first_is ns i n lt is) (so_far.1 w) in
        elim h.3 [ inl e ↦ absurd (never (subst (λ x. SameId name p x q) (sym e.0) h.4) (subst (λ k. SameSignBy tags g k) (sym e.2) h.5)) | inr k ↦ (h.0, h.1, h.2, k, h.4, h.5) ],
  )

  pub alike_nowhere : (ns : List Method) (i : ℕ) → length ns ≤ i → (Has (drop i ns) ↔ Has ns) → IsTrue false ↔ Has ns
  alike_nowhere ns i h so_far = fails (λ w. (subst Has (drop_all i ns h) (so_far.1 w)).3)

  -- the methods from some place on, and those before
  pub alike_in : (front back items ns : List Method) (i : ℕ) → items ≡ ns → front ≡ take i items → back ≡ drop i items → Has back ⊎ Has front → Has ns
  alike_in front back items ns i is at_front at_back (inl h) =
      let whole : front ++ back ≡ ns = ap (λ l. l ++ back) at_front ∙ ap (λ l. take i items ++ l) at_back ∙ take-append-drop i items ∙ is in
      subst Has whole (h.0, h.1, h.2, in_back h.0 h.1 h.2 front back h.3, h.4, h.5)
  alike_in front back items ns i is at_front at_back (inr h) =
      let whole : front ++ back ≡ ns = ap (λ l. l ++ back) at_front ∙ ap (λ l. take i items ++ l) at_back ∙ take-append-drop i items ∙ is in
      subst Has whole (h.0, h.1, h.2, in_front h.0 h.1 h.2 front back h.3, h.4, h.5)

  pub alike_where : (front back items ns : List Method) (i : ℕ) → items ≡ ns → front ≡ take i items → back ≡ drop i items → Has ns → Has back ⊎ Has front
  alike_where front back items ns i is at_front at_back has =
      let whole : front ++ back ≡ ns = ap (λ l. l ++ back) at_front ∙ ap (λ l. take i items ++ l) at_back ∙ take-append-drop i items ∙ is in
      let h = subst Has (sym whole) has in
      elim (in_either h.0 h.1 h.2 front back h.3) [ inl k ↦ inr (h.0, h.1, h.2, k, h.4, h.5) | inr k ↦ inl (h.0, h.1, h.2, k, h.4, h.5) ]

-- a loop over two lists at once, of which each two elements are compared
module _ {X : Type 0} (P : List X → List X → Type 0) (Here : X → X → Type 0) (opens : (x y : X) (xs ys : List X) → P (x ∷ xs) (y ∷ ys) ↔ (Here x y × P xs ys)) (items xs ys : List X) (i : ℕ) (x y : X) (are : items ≡ xs) (many : length xs ≡ length ys) (lt : i < length items) (at_x : x ≡ get_or items i x) (at_y : y ≡ get_or ys i y) where
  opened : P (drop i xs) (drop i ys) ↔ (Here x y × P (drop (i + 1) xs) (drop (i + 1) ys))
  opened =
      let e : drop i xs ≡ x ∷ drop (i + 1) xs = subst (λ l. drop i l ≡ x ∷ drop (i + 1) l) are (first_is items i x lt at_x) in
      let f : drop i ys ≡ y ∷ drop (i + 1) ys = first_is ys i y (subst (λ n. i < n) (ap length are ∙ many) lt) at_y in
      let There : Type 0 = Here x y × P (drop (i + 1) xs) (drop (i + 1) ys) in
      subst (λ l. P l (drop i ys) ↔ There) (sym e) (subst (λ l. P (x ∷ drop (i + 1) xs) l ↔ There) (sym f) (opens x y (drop (i + 1) xs) (drop (i + 1) ys)))

  pub both_step : Here x y → (P (drop i xs) (drop i ys) ↔ P xs ys) → P (drop (i + 1) xs) (drop (i + 1) ys) ↔ P xs ys
  both_step here so_far = (λ r. so_far.0 (opened.1 (here, r)), λ w. (opened.0 (so_far.1 w)).1)

  pub both_differ : (Here x y → ⊥) → (P (drop i xs) (drop i ys) ↔ P xs ys) → IsTrue false ↔ P xs ys
  both_differ never so_far = fails (λ w. never (opened.0 (so_far.1 w)).0)

pub both_end : {X : Type 0} (P : List X → List X → Type 0) → P [] [] → (items xs ys : List X) (i : ℕ) → items ≡ xs → length xs ≡ length ys → length items ≤ i → (P (drop i xs) (drop i ys) ↔ P xs ys) → IsTrue true ↔ P xs ys
both_end P nil items xs ys i are many h so_far =
    let below : length xs ≤ i = subst (λ n. n ≤ i) (ap length are) h in
    (λ _. so_far.0 (subst (λ l. P l (drop i ys)) (sym (drop_all i xs below)) (subst (λ l. P [] l) (sym (drop_all i ys (subst (λ n. n ≤ i) many below))) nil)), λ _. refl)

-- the lines that met last are the same
abbrev pub KnowsLines : Bool → List Line → List Line → Option LinePair → Type 0
KnowsLines tags ls ks None = Unit {0}
KnowsLines tags ls ks (Some m) = SameLine tags (line_at ls m.one) (line_at ks m.other)

-- the terms that met last are identical
abbrev pub KnowsTerms : Bool → List Term → List Term → Option LinePair → Type 0
KnowsTerms tags ts us None = Unit {0}
KnowsTerms tags ts us (Some m) = IdenticalBy tags (term_at ts m.one) (term_at us m.other)

pub lines_known : (tags : Bool) (ls ks : List Line) (met : Option LinePair) (m : LinePair) → KnowsLines tags ls ks met → IsMet met m ⊎ SameLine tags (line_at ls m.one) (line_at ks m.other) → SameLine tags (line_at ls m.one) (line_at ks m.other)
lines_known tags ls ks met m knows (inl e) = subst (KnowsLines tags ls ks) e knows
lines_known tags ls ks met m knows (inr h) = h

pub terms_known : (tags : Bool) (ts us : List Term) (met : Option LinePair) (m : LinePair) → KnowsTerms tags ts us met → IsMet met m ⊎ IdenticalBy tags (term_at ts m.one) (term_at us m.other) → IdenticalBy tags (term_at ts m.one) (term_at us m.other)
terms_known tags ts us met m knows (inl e) = subst (KnowsTerms tags ts us) e knows
terms_known tags ts us met m knows (inr h) = h

-- what is not there is no type

pub nothing_right : (tags : Bool) (t : Term) → (t ≡ NoType) ↔ IdenticalBy tags t NoType
nothing_right tags t = (λ e. subst (λ (x : Term). IdenticalBy tags x NoType) (sym e) tt, right_is tags t) where
  right_is : (tags : Bool) (t : Term) → IdenticalBy tags t NoType → t ≡ NoType
  right_is tags NoType h = refl
  right_is tags _ h = absurd h

pub nothing_left : (tags : Bool) (t : Term) → (t ≡ NoType) ↔ IdenticalBy tags NoType t
nothing_left tags t = (λ e. subst (λ (x : Term). IdenticalBy tags NoType x) (sym e) tt, left_is tags t) where
  left_is : (tags : Bool) (t : Term) → IdenticalBy tags NoType t → t ≡ NoType
  left_is tags NoType h = refl
  left_is tags _ h = absurd h

tags_turn : (tags : Bool) (a b : List ℕ) → TagsAgree tags a b → TagsAgree tags b a
tags_turn true a b h = sym h
tags_turn false a b h = tt

pub no_line_right : (tags : Bool) (l : Line) → IsNoLine tags l ↔ SameLine tags l (line_with false NoType [])
no_line_right tags l = (λ h. (h.0, (nothing_right tags l.term).0 h.1, h.2), λ h. (h.0, (nothing_right tags l.term).1 h.1, h.2))

pub no_line_left : (tags : Bool) (l : Line) → IsNoLine tags l ↔ SameLine tags (line_with false NoType []) l
no_line_left tags l = (λ h. (sym h.0, (nothing_left tags l.term).0 h.1, tags_turn tags l.tag [] h.2), λ h. (sym h.0, (nothing_left tags l.term).1 h.1, tags_turn tags [] l.tag h.2))

-- what a list has at a number

module _ {X S : Type 0} (f : X → S) (d : S) where
  at_some : (xs : List X) (i : ℕ) (x : X) → i < length xs → x ≡ slice_index_or xs i x → slice_index_or (map f xs) i d ≡ f x
  at_some [] i x lt is = absurd (omega (arith, lt))
  at_some (y ∷ xs) zero x lt is = ap f (sym is)
  at_some (y ∷ xs) (suc i) x lt is = at_some xs i x (omega (arith, lt)) is

  at_none : (xs : List X) (i : ℕ) → length xs ≤ i → slice_index_or (map f xs) i d ≡ d
  at_none [] i h = refl
  at_none (y ∷ xs) zero h = absurd (omega (arith, h))
  at_none (y ∷ xs) (suc i) h = at_none xs i (omega (arith, h))

  pub found : (xs items : List X) (i : ℕ) (x : Bor X) → xs ≡ items → IsItemAt xs i (Some x) → slice_index_or (map f items) i d ≡ f x.now
  found xs items i x e h = subst (λ ys. slice_index_or (map f ys) i d ≡ f x.now) e (at_some xs i x.now h.3.0 h.1)

  pub missing : (xs items : List X) (i : ℕ) → xs ≡ items → IsItemAt xs i None → slice_index_or (map f items) i d ≡ d
  missing xs items i e h = subst (λ ys. slice_index_or (map f ys) i d ≡ d) e (at_none xs i h.3)

pub alike_at : {W : Type 0} → W ↔ W
alike_at = (λ h. h, λ h. h)

pub lines_at : (tags : Bool) (l k l' k' : Line) (W : Type 0) → l' ≡ l → k' ≡ k → (W ↔ SameLine tags l k) → W ↔ SameLine tags l' k'
lines_at tags l k l' k' W e f h = subst (λ x. W ↔ SameLine tags x k') (sym e) (subst (λ x. W ↔ SameLine tags l x) (sym f) h)

pub terms_at : (tags : Bool) (t u t' u' : Term) (W : Type 0) → t' ≡ t → u' ≡ u → (W ↔ IdenticalBy tags t u) → W ↔ IdenticalBy tags t' u'
terms_at tags t u t' u' W e f h = subst (λ (x : Term). W ↔ IdenticalBy tags x u') (sym e) (subst (λ (x : Term). W ↔ IdenticalBy tags t x) (sym f) h)

pub no_lines : (tags : Bool) → IsTrue true ↔ SameLine tags (line_with false NoType []) (line_with false NoType [])
no_lines true = (λ _. (refl, tt, refl), λ _. refl)
no_lines false = (λ _. (refl, tt, tt), λ _. refl)

pub no_terms : (tags : Bool) → IsTrue true ↔ IdenticalBy tags NoType NoType
no_terms tags = (λ _. tt, λ _. refl)

-- an answer where two did not meet last
pub unless_met : (M W V : Type 0) (r : Bool) → (IsTrue false ↔ M) → (IsTrue r ↔ W) → (W ↔ V) → IsTrue r ↔ (M ⊎ V)
unless_met M W V r never same there = (λ h. inr (there.0 (same.0 h)), λ h. elim h [ inl m ↦ absurd (let k : false ≡ true = never.1 m in cc) | inr v ↦ same.1 (there.1 v) ])

-- two fields are the same
abbrev pub IsSameField : Bool → List ℕ → List ℕ → List Line → List Line → Field → Field → Type 0
IsSameField tags p q ls ks f g = SameId f.name p g.name q × SameLine tags (line_at ls f.line) (line_at ks g.line)

abbrev pub AreSameFields : Bool → List ℕ → List ℕ → List Line → List Line → List Field → List Field → Type 0
AreSameFields tags p q ls ks fs gs = SameFieldsBy tags p (fields_in ls fs) q (fields_in ks gs)

abbrev pub fields_open : (tags : Bool) (p q : List ℕ) (ls ks : List Line) (f g : Field) (fs gs : List Field) → AreSameFields tags p q ls ks (f ∷ fs) (g ∷ gs) ↔ (IsSameField tags p q ls ks f g × AreSameFields tags p q ls ks fs gs)
fields_open tags p q ls ks f g fs gs = (λ h. ((h.0, (h.1, h.2, h.3)), h.4), λ h. (h.0.0, h.0.1.0, h.0.1.1, h.0.1.2, h.1))

abbrev pub IsSameTerm : Bool → List Term → List Term → ℕ → ℕ → Type 0
IsSameTerm tags ts us n m = IdenticalBy tags (term_at ts n) (term_at us m)

abbrev pub AreSameTerms : Bool → List Term → List Term → List ℕ → List ℕ → Type 0
AreSameTerms tags ts us ns ms = SameTermsBy tags (terms_in ts ns) (terms_in us ms)

abbrev pub terms_open : (tags : Bool) (ts us : List Term) (n m : ℕ) (ns ms : List ℕ) → AreSameTerms tags ts us (n ∷ ns) (m ∷ ms) ↔ (IsSameTerm tags ts us n m × AreSameTerms tags ts us ns ms)
terms_open tags ts us n m ns ms = (λ h. (h.0, h.1), λ h. (h.0, h.1))

-- a loop over the methods of the one
module _ (tags : Bool) (p q : List ℕ) (items ms ns : List Method) (i : ℕ) (m : Method) (are : items ≡ ms) (lt : i < length items) (is : m ≡ get_or items i m) where
  at_m : drop i ms ≡ m ∷ drop (i + 1) ms
  at_m = subst (λ l. drop i l ≡ m ∷ drop (i + 1) l) are (first_is items i m lt is)

  abbrev All : List Method → Type 0
  All l = HasAllBy tags p (method_shapes l) q (method_shapes ns)

  pub all_step : HasAlike tags p m.name (sign_of m.signature) q (method_shapes ns) → (All (drop i ms) ↔ All ms) → All (drop (i + 1) ms) ↔ All ms
  all_step has so_far = (λ r. so_far.0 (subst All (sym at_m) (has, r)), λ w. (subst All at_m (so_far.1 w)).1)

  pub all_missing : {C : Type 0} → (HasAlike tags p m.name (sign_of m.signature) q (method_shapes ns) → ⊥) → (All (drop i ms) ↔ All ms) → IsTrue false ↔ (C × All ms)
  all_missing never so_far = fails (λ w. never (subst All at_m (so_far.1 w.1)).0)

pub all_end : (tags : Bool) (p q : List ℕ) (items ms ns : List Method) (i : ℕ) → items ≡ ms → length items ≤ i → (HasAllBy tags p (method_shapes (drop i ms)) q (method_shapes ns) ↔ HasAllBy tags p (method_shapes ms) q (method_shapes ns)) → HasAllBy tags p (method_shapes ms) q (method_shapes ns)
all_end tags p q items ms ns i are h so_far = so_far.0 (subst (λ l. HasAllBy tags p (method_shapes (drop i l)) q (method_shapes ns)) are (subst (λ l. HasAllBy tags p (method_shapes l) q (method_shapes ns)) (sym (drop_all i items h)) tt))

-- types

-- an answer about two terms, about what they are
module _ (tags : Bool) (a b s t : Term) (r : Bool) (at_a : a ≡ s) (at_b : b ≡ t) where
  pub same_at : (IsTrue r ↔ IdenticalBy tags s t) → IsTrue r ↔ IdenticalBy tags a b
  same_at same = subst (λ x. IsTrue r ↔ IdenticalBy tags x b) (sym at_a) (subst (λ x. IsTrue r ↔ IdenticalBy tags s x) (sym at_b) same)

-- types by their numbers

pub counted : (ts : List Term) (ns : List ℕ) → length (term_list (terms_in ts ns)) ≡ length ns
counted ts [] = refl
counted ts (n ∷ ns) = ap suc (counted ts ns)

pub listed : (ts : List Term) (ns : List ℕ) (at n : ℕ) → at < length ns → n ≡ slice_index_or ns at n → slice_get (term_list (terms_in ts ns)) at ≡ Some (term_at ts n)
listed ts [] at n lt is = absurd (omega (arith, lt))
listed ts (m ∷ ns) zero n lt is = ap (λ k. Some (term_at ts k)) (sym is)
listed ts (m ∷ ns) (suc at) n lt is = listed ts ns at n (omega (arith, lt)) is

-- the type of the number that a list of numbers has at a place
pub typed : (xs : List TypeTerm) (items : List TypeTerm) (n : ℕ) (r : Option (Bor TypeTerm)) → xs ≡ items → IsItemAt xs n r → term_at (map shape items) n ≡ shape_found r
typed xs items n (Some t) e h = found shape NoType xs items n t e h
typed xs items n None e h = missing shape NoType xs items n e h

pub typed_at : (ts : List TypeTerm) (ns xs : List ℕ) (us : List TypeTerm) (at : ℕ) (n : Bor ℕ) (r : Option (Bor TypeTerm)) → xs ≡ ns → us ≡ ts → IsItemAt xs at (Some n) → IsItemAt us n.now r → slice_get (term_list (terms_in (map shape ts) ns)) at ≡ Some (shape_found r)
typed_at ts ns xs us at n r e f h k =
    subst (λ ms. slice_get (term_list (terms_in (map shape ts) ms)) at ≡ Some (shape_found r)) e (listed (map shape ts) xs at n.now h.3.0 h.1 ∙ ap Some (typed us ts n.now r f k))

pub never_missing : (ts : List Term) (ns xs : List ℕ) (at : ℕ) → xs ≡ ns → at < length (term_list (terms_in ts ns)) → IsItemAt xs at None → ⊥
never_missing ts ns xs at e lt h =
    let there : at < length xs = subst (λ n. at < n) (counted ts ns ∙ ap length (sym e)) lt in
    let none : length xs ≤ at = h.3 in
    omega (arith, there, none)
