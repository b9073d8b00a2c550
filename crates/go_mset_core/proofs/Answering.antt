-- What is answered to the question whether a type implements an interface type.
use Rattle.std.proofs.Common.{◌≡◌, ◌↔◌, ℕ, Bool, true, false, ◌==◌, List, [], ◌∷◌, ◌++◌, length, get_or, Option, Some, None, Result, Ok, Err, IsTrue, refl, sym, ap, ◌∙◌, subst, arith, ◌⊎◌, inl, inr}
use Rattle.std.specs.Prelude.{codes, slice_get}
use Rattle.go_term_core.specs.declared.term.Basic.TheVariants as basics
use Rattle.unicode.specs.GeneralCategory.{general_category}
use Rattle.unicode.specs.Rows.{value_in}
use Rattle.ucd_category.specs.GeneralCategoryRows.{general_category_rows}
use Rattle.go_mset_core.proofs.Interfaces.{sign_itself}
use Rattle.std.specs.declared.cmp.Ordering.TheVariants.{Less}
use Rattle.std.specs.Str.{chars}
use Rattle.go_path_core.specs.text_core.Text.{uppercase, exported, SameId}
use Rattle.go_path_core.specs.text_core.declared.rule.Rule.{Rule}
use Rattle.go_term_core.specs.declared.term.Method.{Method}
use Rattle.go_term_core.specs.declared.term.MemberPlace.{MemberPlace}
use Rattle.go_term_core.specs.Terms.{Term, NoType, Predeclared, ErrorType, Defined, PointerTo, StructOf, InterfaceOf, Methods, Sign, SignOf, Terms, NoTerm, ATerm, term_list, sign_params, sign_results}
use Rattle.go_term_core.specs.Identity.{IsMethod, SameSign, SameTerms, Identical}
use Rattle.go_term_core.specs.Shapes.{shape, sign_of, method_shapes}
use Rattle.go_select_core.specs.table_core.Entries.{EntryLook, underlying_in}
use Rattle.go_select_core.specs.embed_core.OwnersShown.{found_shown}
use Rattle.go_select_core.specs.declared.levels.search.Selected.{Selected}
use Rattle.go_select_core.specs.levels.Selectors.{IsSelectorAnswer, IsRule}
use Rattle.go_select_core.proofs.LevelsListLemmas.{not_same}
use Rattle.go_mset_core.specs.declared.interface.Missing.{Missing}
use Rattle.go_mset_core.specs.MethodSets.{IsCallable, IsInMethodSet}
use Rattle.go_mset_core.specs.Implementing.{IsSigned, HasMethod, HasMethodsOf, IsFirstMissing, IsImplementsAnswer, error_sign}
use Rattle.go_mset_core.specs.Laws.{OneImplementation, IsSameAnswer}
use Rattle.go_mset_core.specs.mirrors.Asking.{IsBefore, IsNextMissing, IsLeastMissing}
use Rattle.go_mset_core.proofs.Orders.{by_bytes, never_before, before_onward, compared}
use Rattle.go_mset_core.proofs.Sets.{selectors, has_method_by}

-- at most one answer

one_name : (look : EntryLook) (t u : Term) (a b : List ℕ) → IsFirstMissing look t u a → IsFirstMissing look t u b → a ≡ b
one_name look t u a b x y =
    elim (compared a b) [
      | inl l ↦ absurd (x.lacks (y.first a x.from x.sign x.of_interface l))
      | inr r ↦ elim r [ inl e ↦ e | inr g ↦ absurd (y.lacks (x.first b y.from y.sign y.of_interface g)) ]
    ]

one_answer : {A : Type 0} (look : EntryLook) (t u : Term) (r s : Result A Missing) → IsImplementsAnswer look t u r → IsImplementsAnswer look t u s → IsSameAnswer r s
one_answer look t u (Ok x) (Ok y) a b = tt
one_answer look t u (Ok x) (Err m) a b = b.lacks (a m.name.now b.from b.sign b.of_interface)
one_answer look t u (Err m) (Ok y) a b = a.lacks (b m.name.now a.from a.sign a.of_interface)
one_answer look t u (Err m) (Err n) a b = one_name look t u m.name.now n.name.now a b

pub one : OneImplementation
one look t i r s a b = one_answer look t (underlying_in look i) r s a b

-- what one selector says

pub answer_has : (look : EntryLook) (t : Term) (name from : List ℕ) (g : Sign) (s : Selected) → IsSelectorAnswer look t name from (Ok s)
    → (IsCallable (found_shown s.member) s.through_pointer × IsSigned (found_shown s.member) g) ↔ HasMethod look t name from g
answer_has look t name from g s a = (
  λ h. (s.path, found_shown s.member, (selectors.selected look t name from s a).1 h.0, h.1),
  λ h.
      let e = selectors.only look t name from s h.0 h.1 a h.2 in
      let own = subst (λ p. IsInMethodSet look t name from p (found_shown s.member)) e.0 (subst (λ f. IsInMethodSet look t name from h.0 f) e.1 h.2) in
      ((selectors.selected look t name from s a).0 own, subst (λ f. IsSigned f g) e.1 h.3),
)

pub rule_lacks : (look : EntryLook) (t : Term) (name from : List ℕ) (g : Sign) (r : Rule) → IsRule look t name from r → HasMethod look t name from g → ⊥
rule_lacks look t name from g r a h = selectors.none look t name from r h.0 h.1 a h.2

-- methods in a row

method_or_last : (ms : List Method) (m : Method) (name : List ℕ) (place : MemberPlace) (g : Sign) → IsMethod (method_shapes (ms ++ m ∷ [])) name place g
    → IsMethod (method_shapes ms) name place g ⊎ ((m.name ≡ name) × (m.place ≡ place) × (sign_of m.signature ≡ g))
method_or_last [] m name place g (inl h) = inr h
method_or_last [] m name place g (inr h) = absurd h
method_or_last (x ∷ ms) m name place g (inl h) = inl (inl h)
method_or_last (x ∷ ms) m name place g (inr h) = elim (method_or_last ms m name place g h) [ inl k ↦ inl (inr k) | inr e ↦ inr e ]

method_still : (ms : List Method) (m : Method) (name : List ℕ) (place : MemberPlace) (g : Sign) → IsMethod (method_shapes ms) name place g → IsMethod (method_shapes (ms ++ m ∷ [])) name place g
method_still [] m name place g h = absurd h
method_still (x ∷ ms) m name place g (inl h) = inl h
method_still (x ∷ ms) m name place g (inr h) = inr (method_still ms m name place g h)

method_last : (ms : List Method) (m : Method) → IsMethod (method_shapes (ms ++ m ∷ [])) m.name m.place (sign_of m.signature)
method_last [] m = inl (refl, refl, refl)
method_last (x ∷ ms) m = inr (method_last ms m)

module _ (look : EntryLook) (t : Term) (path : List ℕ) where
  pub least_begin : IsLeastMissing look t path (method_shapes []) None
  least_begin = λ name place g h. absurd h

  has_last : (m : Method) (name : List ℕ) (g : Sign) → m.name ≡ name → sign_of m.signature ≡ g → HasMethod look t m.name path (sign_of m.signature) → HasMethod look t name path g
  has_last m name g e s h = subst (λ k. HasMethod look t name path k) s (subst (λ n. HasMethod look t n path (sign_of m.signature)) e h)

  -- the one more method is there, or stands behind the missing one
  kept_missing : (ms : List Method) (m : Method) (missing : Option (List ℕ)) → (IsBefore m.name missing → ⊥) ⊎ HasMethod look t m.name path (sign_of m.signature)
      → IsLeastMissing look t path (method_shapes ms) missing → IsLeastMissing look t path (method_shapes (ms ++ m ∷ [])) missing
  kept_missing ms m None (inl behind) least = absurd (behind tt)
  kept_missing ms m None (inr has) least = λ name place g h.
      elim (method_or_last ms m name place g h) [ inl k ↦ least name place g k | inr e ↦ has_last m name g e.0 e.2 has ]
  kept_missing ms m (Some missing) why least = (
    (least.0.0, least.0.1, method_still ms m missing least.0.0 least.0.1 least.0.2, least.0.3),
    λ name place g h less.
        elim (method_or_last ms m name place g h) [
          | inl k ↦ least.1 name place g k less
          | inr e ↦ elim why [
            | inl behind ↦ absurd (behind (subst (λ n. by_bytes n missing ≡ Less) (sym e.0) less))
            | inr has ↦ has_last m name g e.0 e.2 has
          ]
        ],
  )

  -- the one more method is missing, and stands before the missing one
  new_missing : (ms : List Method) (m : Method) (missing : Option (List ℕ)) → IsBefore m.name missing → (HasMethod look t m.name path (sign_of m.signature) → ⊥)
      → IsLeastMissing look t path (method_shapes ms) missing → IsLeastMissing look t path (method_shapes (ms ++ m ∷ [])) (Some m.name)
  new_missing ms m missing before lacks least = (
    (m.place, sign_of m.signature, method_last ms m, lacks),
    λ name place g h less.
        elim (method_or_last ms m name place g h) [
          | inl k ↦ earlier missing before least name place g k less
          | inr e ↦ absurd (never_before m.name (subst (λ n. by_bytes n m.name ≡ Less) (sym e.0) less))
        ],
  )
    where
      earlier : (missing : Option (List ℕ)) → IsBefore m.name missing → IsLeastMissing look t path (method_shapes ms) missing
          → (name : List ℕ) (place : MemberPlace) (g : Sign) → IsMethod (method_shapes ms) name place g → by_bytes name m.name ≡ Less → HasMethod look t name path g
      earlier None before least name place g k less = least name place g k
      earlier (Some missing) before least name place g k less = least.1 name place g k (before_onward name m.name missing less before)

  pub least_next : (ms : List Method) (m : Method) (missing next : Option (List ℕ)) → IsNextMissing look t path missing m.name (sign_of m.signature) next
      → IsLeastMissing look t path (method_shapes ms) missing → IsLeastMissing look t path (method_shapes (ms ++ m ∷ [])) next
  least_next ms m missing next (inl x) least = subst (λ o. IsLeastMissing look t path (method_shapes (ms ++ m ∷ [])) o) (sym x.1) (kept_missing ms m missing x.0 least)
  least_next ms m missing next (inr x) least = subst (λ o. IsLeastMissing look t path (method_shapes (ms ++ m ∷ [])) o) (sym x.2) (new_missing ms m missing x.0 x.1 least)

  pub all_there : (ms : Methods) → IsLeastMissing look t path ms None → HasMethodsOf look t (InterfaceOf path ms)
  all_there ms least = λ name from g h. subst (λ p. HasMethod look t name p g) (sym h.0) (least name h.1.0 g h.1.1)

  pub one_missing : (missing : List ℕ) (ms : Methods) → IsLeastMissing look t path ms (Some missing) → IsFirstMissing look t (InterfaceOf path ms) missing
  one_missing missing ms least =
      record {
        from = path;
        sign = least.0.1;
        of_interface = (refl, (least.0.0, least.0.2));
        lacks = least.0.3;
        first = λ other from g h less. subst (λ p. HasMethod look t other p g) (sym h.0) (least.1 other h.1.0 g h.1.1 less);
      }

-- the method of `error`

no_terms : (ts : Terms) → SameTerms NoTerm ts → ts ≡ NoTerm
no_terms NoTerm h = refl
no_terms (ATerm t ts) h = absurd h

terms_none : (ts : Terms) → SameTerms ts NoTerm → ts ≡ NoTerm
terms_none NoTerm h = refl
terms_none (ATerm t ts) h = absurd h

text_is : (u : Term) → Identical (Predeclared basics.Text) u → u ≡ Predeclared basics.Text
text_is NoType h = absurd h
text_is (Predeclared b) h = ap Predeclared (sym h)
text_is ErrorType h = absurd h
text_is (Defined k) h = absurd h
text_is (PointerTo t) h = absurd h
text_is (StructOf path fs) h = absurd h
text_is (InterfaceOf path ms) h = absurd h

is_text : (u : Term) → Identical u (Predeclared basics.Text) → u ≡ Predeclared basics.Text
is_text NoType h = absurd h
is_text (Predeclared b) h = ap Predeclared h
is_text ErrorType h = absurd h
is_text (Defined k) h = absurd h
is_text (PointerTo t) h = absurd h
is_text (StructOf path fs) h = absurd h
is_text (InterfaceOf path ms) h = absurd h

abbrev pub text_alone : Terms
text_alone = ATerm (Predeclared basics.Text) NoTerm

text_terms : (ts : Terms) → SameTerms text_alone ts → ts ≡ text_alone
text_terms NoTerm h = absurd h
text_terms (ATerm t ts) h = let a = text_is t h.0 in let b = no_terms ts h.1 in (cc)

terms_text : (ts : Terms) → SameTerms ts text_alone → ts ≡ text_alone
terms_text NoTerm h = absurd h
terms_text (ATerm t ts) h = let a = is_text t h.0 in let b = terms_none ts h.1 in (cc)

-- a signature identical to that of the method of `error` is that signature
error_first : (g : Sign) → SameSign error_sign g → g ≡ error_sign
error_first (SignOf ps rs) h = let a = no_terms ps h.0 in let b = text_terms rs h.1 in (cc)

error_last : (g : Sign) → SameSign g error_sign → g ≡ error_sign
error_last (SignOf ps rs) h = let a = terms_none ps h.0 in let b = terms_text rs h.1 in (cc)

pub of_error_first : (r : Bool) (g : Sign) → (IsTrue r ↔ (g ≡ error_sign)) → IsTrue r ↔ SameSign error_sign g
of_error_first r g h = (λ e. subst (λ k. SameSign error_sign k) (sym (h.0 e)) (sign_itself error_sign), λ s. h.1 (error_first g s))

pub of_error_last : (r : Bool) (g : Sign) → (IsTrue r ↔ (g ≡ error_sign)) → IsTrue r ↔ SameSign g error_sign
of_error_last r g h = (λ e. subst (λ k. SameSign k error_sign) (sym (h.0 e)) (sign_itself error_sign), λ s. h.1 (error_last g s))

-- an exported name is one identifier in each package
error_exported : IsTrue (exported (chars (codes "Error")))
unfolding uppercase general_category value_in general_category_rows chars
error_exported = refl

pub error_has : (look : EntryLook) (t : Term) (from : List ℕ) → HasMethod look t (codes "Error") from error_sign → HasMethodsOf look t ErrorType
error_has look t from h = λ name home g of.
    let same : SameId (codes "Error") from name home = (sym of.0, inl error_exported) in
    subst (λ k. HasMethod look t name home k) (sym of.2) (has_method_by look t (codes "Error") from name home error_sign same h)

pub error_lacks : (look : EntryLook) (t : Term) (from : List ℕ) → (HasMethod look t (codes "Error") from error_sign → ⊥) → IsFirstMissing look t ErrorType (codes "Error")
error_lacks look t from lacks =
    record {
      from = [];
      sign = error_sign;
      of_interface = (refl, refl, refl);
      lacks = λ h. lacks (has_method_by look t (codes "Error") [] (codes "Error") from error_sign (refl, inl error_exported) h);
      first = λ other home g of less. absurd (never_before (codes "Error") (subst (λ n. by_bytes n (codes "Error") ≡ Less) of.0 less));
    }

-- types in a row

abbrev listed_back : List Term → Terms
listed_back [] = NoTerm
listed_back (t ∷ ts) = ATerm t (listed_back ts)

terms_listed : (ts : Terms) → ts ≡ listed_back (term_list ts)
terms_listed NoTerm = refl
terms_listed (ATerm t ts) = ap (ATerm t) (terms_listed ts)

sign_listed : (g : Sign) → g ≡ SignOf (listed_back (sign_params g)) (listed_back (sign_results g))
sign_listed (SignOf ps rs) = λ i. SignOf (terms_listed ps i) (terms_listed rs i)

pub of_error : (g : Sign) → ((sign_params g ≡ []) × (sign_results g ≡ Predeclared basics.Text ∷ [])) ↔ (g ≡ error_sign)
of_error g = ((λ h. sign_listed g ∙ (λ i. SignOf (listed_back (h.0 i)) (listed_back (h.1 i)))), (λ e. (ap sign_params e, ap sign_results e)))

pub none_test : (ts : List Term) (n : ℕ) (r : Bool) → n ≡ length ts → r ≡ (n == 0) → IsTrue r ↔ (ts ≡ [])
none_test [] n r many h = ((λ e. refl), (λ e. h ∙ ap (λ m. m == 0) many))
none_test (t ∷ ts) n r many h = ((λ e. let z : false ≡ true = sym (h ∙ not_same n 0 (λ z. let m = many in omega (arith, z, m))) ∙ e in (cc)), (λ e. cc))

pub not_alone : (ts : List Term) → (length ts ≡ 1 → ⊥) → ts ≡ Predeclared basics.Text ∷ [] → ⊥
not_alone ts other h = other (ap length h)

pub alone : (ts : List Term) (t : Term) → length ts ≡ 1 → slice_get ts 0 ≡ Some t → (t ≡ Predeclared basics.Text) ↔ (ts ≡ Predeclared basics.Text ∷ [])
alone [] t one is = absurd (omega arith)
alone (x ∷ []) t one is = (let e : x ≡ t = cc in ((λ h. ap (λ y. y ∷ []) (e ∙ h)), (λ h. sym e ∙ head_is x (Predeclared basics.Text) h))) where
  head_is : (a b : Term) → a ∷ [] ≡ b ∷ [] → a ≡ b
  head_is a b h = cc
alone (x ∷ (y ∷ ts)) t one is = absurd (omega arith)
