-- Lists that are compared, as far as a loop has come.
use Rattle.std.proofs.Common.{◌≡◌, ◌↔◌, ℕ, suc, ◌+◌, ◌<◌, List, [], ◌∷◌, ◌⊎◌, inl, inr, length, get_or, drop, Bool, IsTrue, true, false, Option, Some, None, refl, ap, sym, ◌∙◌, subst}
use Rattle.go_term_core.specs.declared.term.Field.{Field}
use Rattle.go_term_core.specs.declared.term.Method.{Method}
use Rattle.go_term_core.specs.Terms.{Term, NoType}
use Rattle.go_term_core.specs.Shapes.{Line, line_with, line_at, term_at, fields_in, terms_in, method_shapes}
use Rattle.go_term_core.specs.declared.same.LinePair.{LinePair}
use Rattle.go_term_core.specs.Meeting.{IsMet}
use Rattle.go_term_core.proofs.SameLists.{fails, first_is}
use Rattle.go_summary_core.specs.alike.mirrors.Equality.{IsEqualToNoLine, IsEqualHead, IsEqualLine, IsEqualMethod, EqualTerm, EqualFields, EqualMethods, EqualTerms}

-- lists of other lengths

pub as_many_fields : (ls ks : List Line) (fs gs : List Field) → EqualFields (fields_in ls fs) (fields_in ks gs) → length fs ≡ length gs
as_many_fields ls ks [] [] h = refl
as_many_fields ls ks [] (g ∷ gs) h = absurd h
as_many_fields ls ks (f ∷ fs) [] h = absurd h
as_many_fields ls ks (f ∷ fs) (g ∷ gs) h = ap suc (as_many_fields ls ks fs gs h.5)

pub as_many_terms : (ts us : List Term) (ns ms : List ℕ) → EqualTerms (terms_in ts ns) (terms_in us ms) → length ns ≡ length ms
as_many_terms ts us [] [] h = refl
as_many_terms ts us [] (m ∷ ms) h = absurd h
as_many_terms ts us (n ∷ ns) [] h = absurd h
as_many_terms ts us (n ∷ ns) (m ∷ ms) h = ap suc (as_many_terms ts us ns ms h.1)

pub as_many_methods : (ms ns : List Method) → EqualMethods (method_shapes ms) (method_shapes ns) → length ms ≡ length ns
as_many_methods [] [] h = refl
as_many_methods [] (n ∷ ns) h = absurd h
as_many_methods (m ∷ ms) [] h = absurd h
as_many_methods (m ∷ ms) (n ∷ ns) h = ap suc (as_many_methods ms ns h.3)

-- a loop over two lists at once, of which each two elements are compared
module _ {X : Type 0} (P : List X → List X → Type 0) (Here : X → X → Type 0) (opens : (x y : X) (xs ys : List X) → P (x ∷ xs) (y ∷ ys) ↔ (Here x y × P xs ys)) (items xs ys : List X) (i : ℕ) (x y : X) (are : items ≡ xs) (many : length xs ≡ length ys) (lt : i < length items) (at_x : x ≡ get_or items i x) (at_y : y ≡ get_or ys i y) where
  opened : P (drop i xs) (drop i ys) ↔ (Here x y × P (drop (i + 1) xs) (drop (i + 1) ys))
  opened =
      let e : drop i xs ≡ x ∷ drop (i + 1) xs = subst (λ l. drop i l ≡ x ∷ drop (i + 1) l) are (first_is items i x lt at_x) in
      let f : drop i ys ≡ y ∷ drop (i + 1) ys = first_is ys i y (subst (λ n. i < n) (ap length are ∙ many) lt) at_y in
      let There : Type 0 = Here x y × P (drop (i + 1) xs) (drop (i + 1) ys) in
      subst (λ l. P l (drop i ys) ↔ There) (sym e) (subst (λ l. P (x ∷ drop (i + 1) xs) l ↔ There) (sym f) (opens x y (drop (i + 1) xs) (drop (i + 1) ys)))

  pub both_step : Here x y → (P (drop i xs) (drop i ys) ↔ P xs ys) → P (drop (i + 1) xs) (drop (i + 1) ys) ↔ P xs ys
  both_step here so_far = (λ r. so_far.0 (opened.1 (here, r)), λ w. (opened.0 (so_far.1 w)).1)

  pub both_differ : (Here x y → ⊥) → (P (drop i xs) (drop i ys) ↔ P xs ys) → IsTrue false ↔ P xs ys
  both_differ never so_far = fails (λ w. never (opened.0 (so_far.1 w)).0)

-- the lines that met last are the same
abbrev pub KnowsLines : List Line → List Line → Option LinePair → Type 0
KnowsLines ls ks None = Unit {0}
KnowsLines ls ks (Some m) = IsEqualLine (line_at ls m.one) (line_at ks m.other)

-- the terms that met last are the same
abbrev pub KnowsTerms : List Term → List Term → Option LinePair → Type 0
KnowsTerms ts us None = Unit {0}
KnowsTerms ts us (Some m) = EqualTerm (term_at ts m.one) (term_at us m.other)

pub lines_known : (ls ks : List Line) (met : Option LinePair) (m : LinePair) → KnowsLines ls ks met → IsMet met m ⊎ IsEqualLine (line_at ls m.one) (line_at ks m.other) → IsEqualLine (line_at ls m.one) (line_at ks m.other)
lines_known ls ks met m knows (inl e) = subst (KnowsLines ls ks) e knows
lines_known ls ks met m knows (inr h) = h

pub terms_known : (ts us : List Term) (met : Option LinePair) (m : LinePair) → KnowsTerms ts us met → IsMet met m ⊎ EqualTerm (term_at ts m.one) (term_at us m.other) → EqualTerm (term_at ts m.one) (term_at us m.other)
terms_known ts us met m knows (inl e) = subst (KnowsTerms ts us) e knows
terms_known ts us met m knows (inr h) = h

-- what is not there is no type

pub nothing_right : (t : Term) → (t ≡ NoType) ↔ EqualTerm t NoType
nothing_right t = (λ e. subst (λ (x : Term). EqualTerm x NoType) (sym e) tt, right_is t) where
  right_is : (t : Term) → EqualTerm t NoType → t ≡ NoType
  right_is NoType h = refl
  right_is _ h = absurd h

pub nothing_left : (t : Term) → (t ≡ NoType) ↔ EqualTerm NoType t
nothing_left t = (λ e. subst (λ (x : Term). EqualTerm NoType x) (sym e) tt, left_is t) where
  left_is : (t : Term) → EqualTerm NoType t → t ≡ NoType
  left_is NoType h = refl
  left_is _ h = absurd h

pub no_line_right : (l : Line) → IsEqualToNoLine l ↔ IsEqualLine l (line_with false NoType [])
no_line_right l = (λ h. (h.0, (nothing_right l.term).0 h.1, h.2), λ h. (h.0, (nothing_right l.term).1 h.1, h.2))

pub no_line_left : (l : Line) → IsEqualToNoLine l ↔ IsEqualLine (line_with false NoType []) l
no_line_left l = (λ h. (sym h.0, (nothing_left l.term).0 h.1, sym h.2), λ h. (sym h.0, (nothing_left l.term).1 h.1, sym h.2))

pub lines_at : (l k l' k' : Line) (W : Type 0) → l' ≡ l → k' ≡ k → (W ↔ IsEqualLine l k) → W ↔ IsEqualLine l' k'
lines_at l k l' k' W e f h = subst (λ x. W ↔ IsEqualLine x k') (sym e) (subst (λ x. W ↔ IsEqualLine l x) (sym f) h)

pub terms_at : (t u t' u' : Term) (W : Type 0) → t' ≡ t → u' ≡ u → (W ↔ EqualTerm t u) → W ↔ EqualTerm t' u'
terms_at t u t' u' W e f h = subst (λ (x : Term). W ↔ EqualTerm x u') (sym e) (subst (λ (x : Term). W ↔ EqualTerm t x) (sym f) h)

pub no_lines : IsTrue true ↔ IsEqualLine (line_with false NoType []) (line_with false NoType [])
no_lines = (λ _. (refl, tt, refl), λ _. refl)

pub no_terms : IsTrue true ↔ EqualTerm NoType NoType
no_terms = (λ _. tt, λ _. refl)

-- two fields are the same
abbrev pub IsEqualField : List Line → List Line → Field → Field → Type 0
IsEqualField ls ks f g = IsEqualHead f g × IsEqualLine (line_at ls f.line) (line_at ks g.line)

abbrev pub AreEqualFields : List Line → List Line → List Field → List Field → Type 0
AreEqualFields ls ks fs gs = EqualFields (fields_in ls fs) (fields_in ks gs)

abbrev pub fields_open : (ls ks : List Line) (f g : Field) (fs gs : List Field) → AreEqualFields ls ks (f ∷ fs) (g ∷ gs) ↔ (IsEqualField ls ks f g × AreEqualFields ls ks fs gs)
fields_open ls ks f g fs gs = (λ h. (((h.0, h.1), (h.2, h.3, h.4)), h.5), λ h. (h.0.0.0, h.0.0.1, h.0.1.0, h.0.1.1, h.0.1.2, h.1))

abbrev pub IsEqualTermAt : List Term → List Term → ℕ → ℕ → Type 0
IsEqualTermAt ts us n m = EqualTerm (term_at ts n) (term_at us m)

abbrev pub AreEqualTerms : List Term → List Term → List ℕ → List ℕ → Type 0
AreEqualTerms ts us ns ms = EqualTerms (terms_in ts ns) (terms_in us ms)

abbrev pub terms_open : (ts us : List Term) (n m : ℕ) (ns ms : List ℕ) → AreEqualTerms ts us (n ∷ ns) (m ∷ ms) ↔ (IsEqualTermAt ts us n m × AreEqualTerms ts us ns ms)
terms_open ts us n m ns ms = (λ h. (h.0, h.1), λ h. (h.0, h.1))

abbrev pub AreEqualMethods : List Method → List Method → Type 0
AreEqualMethods ms ns = EqualMethods (method_shapes ms) (method_shapes ns)

abbrev pub methods_open : (m n : Method) (ms ns : List Method) → AreEqualMethods (m ∷ ms) (n ∷ ns) ↔ (IsEqualMethod m n × AreEqualMethods ms ns)
methods_open m n ms ns = (λ h. ((h.0, h.1, h.2), h.3), λ h. (h.0.0, h.0.1, h.0.2, h.1))

-- types

-- an answer about two terms, about what they are
module _ (a b s t : Term) (r : Bool) (at_a : a ≡ s) (at_b : b ≡ t) where
  pub same_at : (IsTrue r ↔ EqualTerm s t) → IsTrue r ↔ EqualTerm a b
  same_at same = subst (λ x. IsTrue r ↔ EqualTerm x b) (sym at_a) (subst (λ x. IsTrue r ↔ EqualTerm s x) (sym at_b) same)

-- an answer about what two types hold that are written in one package
pub with_path : (p q : List ℕ) (W : Type 0) (r : Bool) → p ≡ q → (IsTrue r ↔ W) → IsTrue r ↔ ((p ≡ q) × W)
with_path p q W r same here = (λ h. (same, here.0 h), λ w. here.1 w.1)
