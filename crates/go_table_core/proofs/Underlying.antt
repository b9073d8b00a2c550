-- Underlying types of which one is that of `error`.
use Rattle.std.proofs.Common.{◌≡◌, ◌↔◌, ◌⊎◌, inl, inr, ℕ, suc, Bool, true, false, ◌==◌, ◌<◌, Some, List, [], ◌∷◌, length, refl, sym, ap, ◌∙◌, subst, arith}
use Rattle.std.specs.Prelude.{IsTrue, codes, slice_get, slice_index_or}
use Rattle.std.specs.Str.{bytes_eq, chars}
use Rattle.std.proofs.lemmas.Bool.{eqb-true}
use Rattle.std.proofs.lemmas.Slice.Eq.{bytes_eq-Decides}
use Rattle.unicode.specs.GeneralCategory.{general_category}
use Rattle.unicode.specs.Rows.{value_in}
use Rattle.ucd_category.specs.GeneralCategoryRows.{general_category_rows}
use Rattle.go_collections_core.specs.text_core.Text.{uppercase, exported, SameId}
use Rattle.go_term_core.specs.decl_core.declared.places.DeclKind.TheVariants as kinds
use Rattle.go_term_core.specs.declared.term.Basic.TheVariants as basics
use Rattle.go_term_core.specs.declared.term.Method.{Method}
use Rattle.go_term_core.specs.declared.term.MemberPlace.{MemberPlace}
use Rattle.go_term_core.specs.declared.term.MemberPlace.TheVariants as places
use Rattle.go_term_core.specs.Terms.{Term, NoType, Predeclared, ErrorType, Defined, PointerTo, StructOf, InterfaceOf, Methods, NoMethod, AMethod, Sign, SignOf, Terms, NoTerm, ATerm, term_list, sign_params, sign_results}
use Rattle.go_term_core.specs.Shapes.{sign_of, method_shapes}
use Rattle.go_term_core.specs.Identity.{Identical, IdenticalBy, HasAllBy, SameSignBy, SameTermsBy, IsMethod}
use Rattle.go_term_core.specs.mirrors.Alike.{HasAlike}
use Rattle.go_table_core.specs.Entries.{underlying_in}
use Rattle.go_table_core.specs.Underlying.{text_sign, error_method, IsErrorInterface, written_out, IdenticalUnder}
use Rattle.go_table_core.specs.mirrors.Meeting.{AreErrors, MeetsError}
use Rattle.go_table_core.specs.Laws.{ErrorIsAnInterface}

-- signatures that are identical to that of the method of `error`

no_terms : (tags : Bool) (ts : Terms) → SameTermsBy tags NoTerm ts → ts ≡ NoTerm
no_terms tags NoTerm h = refl
no_terms tags (ATerm t ts) h = absurd h

terms_none : (tags : Bool) (ts : Terms) → SameTermsBy tags ts NoTerm → ts ≡ NoTerm
terms_none tags NoTerm h = refl
terms_none tags (ATerm t ts) h = absurd h

text_is : (tags : Bool) (u : Term) → IdenticalBy tags (Predeclared basics.Text) u → u ≡ Predeclared basics.Text
text_is tags NoType h = absurd h
text_is tags (Predeclared b) h = ap Predeclared (sym h)
text_is tags ErrorType h = absurd h
text_is tags (Defined k) h = absurd h
text_is tags (PointerTo t) h = absurd h
text_is tags (StructOf path fs) h = absurd h
text_is tags (InterfaceOf path ms) h = absurd h

is_text : (tags : Bool) (u : Term) → IdenticalBy tags u (Predeclared basics.Text) → u ≡ Predeclared basics.Text
is_text tags NoType h = absurd h
is_text tags (Predeclared b) h = ap Predeclared h
is_text tags ErrorType h = absurd h
is_text tags (Defined k) h = absurd h
is_text tags (PointerTo t) h = absurd h
is_text tags (StructOf path fs) h = absurd h
is_text tags (InterfaceOf path ms) h = absurd h

abbrev text_alone : Terms
text_alone = ATerm (Predeclared basics.Text) NoTerm

text_terms : (tags : Bool) (ts : Terms) → SameTermsBy tags text_alone ts → ts ≡ text_alone
text_terms tags NoTerm h = absurd h
text_terms tags (ATerm t ts) h = let a = text_is tags t h.0 in let b = no_terms tags ts h.1 in (cc)

terms_text : (tags : Bool) (ts : Terms) → SameTermsBy tags ts text_alone → ts ≡ text_alone
terms_text tags NoTerm h = absurd h
terms_text tags (ATerm t ts) h = let a = is_text tags t h.0 in let b = terms_none tags ts h.1 in (cc)

sign_first : (tags : Bool) (g : Sign) → SameSignBy tags text_sign g → g ≡ text_sign
sign_first tags (SignOf ps rs) h = let a = no_terms tags ps h.0 in let b = text_terms tags rs h.1 in (cc)

sign_last : (tags : Bool) (g : Sign) → SameSignBy tags g text_sign → g ≡ text_sign
sign_last tags (SignOf ps rs) h = let a = terms_none tags ps h.0 in let b = terms_text tags rs h.1 in (cc)

sign_itself : (tags : Bool) → SameSignBy tags text_sign text_sign
sign_itself tags = (tt, (refl, tt))

-- interface types with the one method

-- an exported name is one identifier in each package
error_exported : IsTrue (exported (chars (codes "Error")))
unfolding uppercase general_category value_in general_category_rows chars
error_exported = refl

between : (tags : Bool) (p q : List ℕ) (a b : MemberPlace) → IdenticalBy tags (InterfaceOf p (error_method a)) (InterfaceOf q (error_method b))
between tags p q a b =
    let id : SameId (codes "Error") p (codes "Error") q = (refl, inl error_exported) in
    let has : HasAlike tags p (codes "Error") text_sign q (error_method b) = (codes "Error", b, text_sign, inl (refl, refl, refl), id, sign_itself tags) in
    let all : HasAllBy tags p (error_method a) q (error_method b) = (has, tt) in
    (refl, all)

abbrev somewhere : MemberPlace
somewhere = places.Declared (record { file = 0; number = 0; kind = kinds.Method })

abbrev error_out : Term
error_out = InterfaceOf [] (error_method somewhere)

one_method : (p name : List ℕ) (place : MemberPlace) (g : Sign) → name ≡ codes "Error" → g ≡ text_sign → IsErrorInterface (InterfaceOf p (AMethod name place g NoMethod))
one_method p name place g n s = (p, place, λ i. InterfaceOf p (AMethod (n i) place (s i) NoMethod))

first_alike : (tags : Bool) (p q name : List ℕ) (place : MemberPlace) (g : Sign) → HasAlike tags p (codes "Error") text_sign q (AMethod name place g NoMethod) → (name ≡ codes "Error") × (g ≡ text_sign)
first_alike tags p q name place g h = by h.3
  where
    by : IsMethod (AMethod name place g NoMethod) h.0 h.1 h.2 → (name ≡ codes "Error") × (g ≡ text_sign)
    by (inl e) = let id : SameId (codes "Error") p h.0 q = h.4 in (e.0 ∙ sym id.0, e.2 ∙ sign_first tags h.2 h.5)
    by (inr none) = absurd none

last_alike : (tags : Bool) (p q name : List ℕ) (place : MemberPlace) (g : Sign) → HasAlike tags p name g q (error_method place) → (name ≡ codes "Error") × (g ≡ text_sign)
last_alike tags p q name place g h = by h.3
  where
    by : IsMethod (error_method place) h.0 h.1 h.2 → (name ≡ codes "Error") × (g ≡ text_sign)
    by (inl e) = let id : SameId name p h.0 q = h.4 in (id.0 ∙ sym e.0, sign_last tags g (subst (λ k. SameSignBy tags g k) (sym e.2) h.5))
    by (inr none) = absurd none

first_only : (tags : Bool) (p : List ℕ) (ms : Methods) → IdenticalBy tags error_out (InterfaceOf p ms) → IsErrorInterface (InterfaceOf p ms)
first_only tags p NoMethod h = let e : 1 ≡ 0 = h.0 in absurd (omega (arith, e))
first_only tags p (AMethod name place g NoMethod) h =
    let all : HasAllBy tags [] (error_method somewhere) p (AMethod name place g NoMethod) = h.1 in
    let is = first_alike tags [] p name place g all.0 in
    one_method p name place g is.0 is.1
first_only tags p (AMethod name place g (AMethod name' place' g' ms)) h = absurd (never h.0)
  where
    never : {n : ℕ} → 1 ≡ suc (suc n) → ⊥
    never e = omega (arith, e)

last_only : (tags : Bool) (p : List ℕ) (ms : Methods) → IdenticalBy tags (InterfaceOf p ms) error_out → IsErrorInterface (InterfaceOf p ms)
last_only tags p NoMethod h = let e : 0 ≡ 1 = h.0 in absurd (omega (arith, e))
last_only tags p (AMethod name place g NoMethod) h =
    let all : HasAllBy tags p (AMethod name place g NoMethod) [] (error_method somewhere) = h.1 in
    let is = last_alike tags p [] name somewhere g all.0 in
    one_method p name place g is.0 is.1
last_only tags p (AMethod name place g (AMethod name' place' g' ms)) h = absurd (never h.0)
  where
    never : {n : ℕ} → suc (suc n) ≡ 1 → ⊥
    never e = omega (arith, e)

-- what the underlying type of `error` is identical to

abbrev IsErrors : Term → Type 0
IsErrors u = (u ≡ ErrorType) ⊎ IsErrorInterface u

first_to : (tags : Bool) (u : Term) → IdenticalUnder tags ErrorType u → IsErrors u
first_to tags NoType h = absurd h
first_to tags (Predeclared b) h = absurd h
first_to tags ErrorType h = inl refl
first_to tags (Defined k) h = absurd h
first_to tags (PointerTo t) h = absurd h
first_to tags (StructOf path fs) h = absurd h
first_to tags (InterfaceOf path ms) h = inr (first_only tags path ms h)

last_to : (tags : Bool) (t : Term) → IdenticalUnder tags t ErrorType → IsErrors t
last_to tags NoType h = absurd h
last_to tags (Predeclared b) h = absurd h
last_to tags ErrorType h = inl refl
last_to tags (Defined k) h = absurd h
last_to tags (PointerTo t) h = absurd h
last_to tags (StructOf path fs) h = absurd h
last_to tags (InterfaceOf path ms) h = inr (last_only tags path ms h)

first_from : (tags : Bool) (u : Term) → IsErrors u → IdenticalUnder tags ErrorType u
first_from tags u (inl e) = subst (λ (x : Term). IdenticalUnder tags ErrorType x) (sym e) (between tags [] [] somewhere somewhere)
first_from tags u (inr h) = subst (λ (x : Term). IdenticalUnder tags ErrorType x) (sym h.2) (between tags [] h.0 somewhere h.1)

last_from : (tags : Bool) (t : Term) → IsErrors t → IdenticalUnder tags t ErrorType
last_from tags t (inl e) = subst (λ (x : Term). IdenticalUnder tags x ErrorType) (sym e) (between tags [] [] somewhere somewhere)
last_from tags t (inr h) = subst (λ (x : Term). IdenticalUnder tags x ErrorType) (sym h.2) (between tags h.0 [] h.1 somewhere)

-- and all others

error_or_not : (t : Term) → (t ≡ ErrorType) ⊎ (t ≡ ErrorType → ⊥)
error_or_not NoType = inr (λ e. cc)
error_or_not (Predeclared b) = inr (λ e. cc)
error_or_not ErrorType = inl refl
error_or_not (Defined k) = inr (λ e. cc)
error_or_not (PointerTo t) = inr (λ e. cc)
error_or_not (StructOf path fs) = inr (λ e. cc)
error_or_not (InterfaceOf path ms) = inr (λ e. cc)

as_it_stands : (t : Term) → (t ≡ ErrorType → ⊥) → written_out t ≡ t
as_it_stands NoType other = refl
as_it_stands (Predeclared b) other = refl
as_it_stands ErrorType other = absurd (other refl)
as_it_stands (Defined k) other = refl
as_it_stands (PointerTo t) other = refl
as_it_stands (StructOf path fs) other = refl
as_it_stands (InterfaceOf path ms) other = refl

neither : (tags : Bool) (t u : Term) → (t ≡ ErrorType → ⊥) → (u ≡ ErrorType → ⊥) → IdenticalUnder tags t u ↔ IdenticalBy tags t u
neither tags t u x y =
    let a = as_it_stands t x in
    let b = as_it_stands u y in (
      λ h. subst (λ (w : Term). IdenticalBy tags t w) b (subst (λ (w : Term). IdenticalBy tags w (written_out u)) a h),
      λ h. subst (λ (w : Term). IdenticalBy tags (written_out t) w) (sym b) (subst (λ (w : Term). IdenticalBy tags w u) (sym a) h),
    )

pub error_interface : ((t : Term) → Identical ErrorType t ↔ (t ≡ ErrorType)) → ErrorIsAnInterface
error_interface itself =
    record {
      left = λ look tags t u e. subst (λ (x : Term). IdenticalUnder tags x (underlying_in look u) ↔ IsErrors (underlying_in look u)) (sym e) (first_to tags (underlying_in look u), first_from tags (underlying_in look u));
      right = λ look tags t u e. subst (λ (x : Term). IdenticalUnder tags (underlying_in look t) x ↔ IsErrors (underlying_in look t)) (sym e) (last_to tags (underlying_in look t), last_from tags (underlying_in look t));
      others = λ look tags t u x y. neither tags (underlying_in look t) (underlying_in look u) x y;
      itself = itself;
    }

-- no type is identical to a type
pub nothing_under : (u : Term) → IdenticalUnder true u NoType → u ≡ NoType
nothing_under NoType h = refl
nothing_under _ h = absurd h

-- what the code compares

first_error : (tags : Bool) (u : Term) → IdenticalBy tags ErrorType u → u ≡ ErrorType
first_error tags ErrorType h = refl
first_error tags _ h = absurd h

last_error : (tags : Bool) (t : Term) → IdenticalBy tags t ErrorType → t ≡ ErrorType
last_error tags ErrorType h = refl
last_error tags _ h = absurd h

same_under : (tags : Bool) (t u : Term) → IdenticalBy tags t u → IdenticalUnder tags t u
same_under tags t u h = by (error_or_not t) (error_or_not u)
  where
    by : (t ≡ ErrorType) ⊎ (t ≡ ErrorType → ⊥) → (u ≡ ErrorType) ⊎ (u ≡ ErrorType → ⊥) → IdenticalUnder tags t u
    by (inl e) y =
        let other : u ≡ ErrorType = first_error tags u (subst (λ (x : Term). IdenticalBy tags x u) e h) in
        subst (λ (x : Term). IdenticalUnder tags x u) (sym e) (first_from tags u (inl other))
    by (inr x) (inl e) = absurd (x (last_error tags t (subst (λ (y : Term). IdenticalBy tags t y) e h)))
    by (inr x) (inr y) = (neither tags t u x y).1 h

met_under : (tags : Bool) (t u : Term) → MeetsError t u → IdenticalUnder tags t u
met_under tags t u (inl h) = subst (λ (x : Term). IdenticalUnder tags x u) (sym h.0) (first_from tags u (inr h.1))
met_under tags t u (inr h) = subst (λ (x : Term). IdenticalUnder tags t x) (sym h.0) (last_from tags t (inr h.1))

under_met : (tags : Bool) (t u : Term) → (IdenticalBy tags t u → ⊥) → IdenticalUnder tags t u → MeetsError t u
under_met tags t u other h = by (error_or_not t) (error_or_not u)
  where
    both : t ≡ ErrorType → u ≡ ErrorType → IdenticalBy tags t u
    both x y = subst (λ (a : Term). IdenticalBy tags a u) (sym x) (subst (λ (b : Term). IdenticalBy tags ErrorType b) (sym y) tt)

    first : t ≡ ErrorType → IsErrors u → MeetsError t u
    first x (inl y) = absurd (other (both x y))
    first x (inr i) = inl (x, i)

    last : u ≡ ErrorType → IsErrors t → MeetsError t u
    last y (inl x) = absurd (other (both x y))
    last y (inr i) = inr (y, i)

    by : (t ≡ ErrorType) ⊎ (t ≡ ErrorType → ⊥) → (u ≡ ErrorType) ⊎ (u ≡ ErrorType → ⊥) → MeetsError t u
    by (inl x) y = first x (first_to tags u (subst (λ (a : Term). IdenticalUnder tags a u) x h))
    by (inr x) (inl y) = last y (last_to tags t (subst (λ (a : Term). IdenticalUnder tags t a) y h))
    by (inr x) (inr y) = absurd (other ((neither tags t u x y).0 h))

pub found_same : (tags : Bool) (t u : Term) → IdenticalBy tags t u → IsTrue true ↔ IdenticalUnder tags t u
found_same tags t u h = (λ x. same_under tags t u h, λ x. refl)

pub found_met : (tags : Bool) (t u : Term) (r : Bool) → (IdenticalBy tags t u → ⊥) → (IsTrue r ↔ MeetsError t u) → IsTrue r ↔ IdenticalUnder tags t u
found_met tags t u r other h = (λ x. met_under tags t u (h.0 x), λ x. h.1 (under_met tags t u other x))

-- the methods of an interface type

abbrev listed_back : List Term → Terms
listed_back [] = NoTerm
listed_back (t ∷ ts) = ATerm t (listed_back ts)

terms_listed : (ts : Terms) → ts ≡ listed_back (term_list ts)
terms_listed NoTerm = refl
terms_listed (ATerm t ts) = ap (ATerm t) (terms_listed ts)

sign_listed : (g : Sign) → g ≡ SignOf (listed_back (sign_params g)) (listed_back (sign_results g))
sign_listed (SignOf ps rs) = λ i. SignOf (terms_listed ps i) (terms_listed rs i)

of_error : (g : Sign) → (sign_params g ≡ []) × (sign_results g ≡ Predeclared basics.Text ∷ []) → g ≡ text_sign
of_error g h = sign_listed g ∙ (λ i. SignOf (listed_back (h.0 i)) (listed_back (h.1 i)))

not_zero : (n : ℕ) (b : Bool) → (n == 0) ≡ b → 0 < n → b ≡ false
not_zero n true e l = let z : n ≡ 0 = eqb-true n 0 e in absurd (omega (arith, z, l))
not_zero n false e l = refl

pub none_test : (ts : List Term) (n : ℕ) (r : Bool) → n ≡ length ts → r ≡ (n == 0) → IsTrue r ↔ (ts ≡ [])
none_test [] n r many h = ((λ e. refl), (λ e. h ∙ ap (λ m. m == 0) many))
none_test (t ∷ ts) n r many h = ((λ e. let z : false ≡ true = sym (h ∙ not_zero n (n == 0) refl (omega (arith, many))) ∙ e in (cc)), (λ e. cc))

pub not_alone : (ts : List Term) → (length ts ≡ 1 → ⊥) → ts ≡ Predeclared basics.Text ∷ [] → ⊥
not_alone ts other h = other (ap length h)

pub alone : (ts : List Term) (t : Term) → length ts ≡ 1 → slice_get ts 0 ≡ Some t → (t ≡ Predeclared basics.Text) ↔ (ts ≡ Predeclared basics.Text ∷ [])
alone [] t one is = absurd (omega arith)
alone (x ∷ []) t one is = (let e : x ≡ t = cc in ((λ h. ap (λ y. y ∷ []) (e ∙ h)), (λ h. sym e ∙ head_is x (Predeclared basics.Text) h))) where
  head_is : (a b : Term) → a ∷ [] ≡ b ∷ [] → a ≡ b
  head_is a b h = cc
alone (x ∷ (y ∷ ts)) t one is = absurd (omega arith)

pub no_one : (ms : List Method) → (length ms ≡ 1 → ⊥) → AreErrors (method_shapes ms) → ⊥
no_one [] other h = let e : NoMethod ≡ error_method h.0 = h.1 in cc
no_one (m ∷ []) other h = other refl
no_one (m ∷ (n ∷ ms)) other h = let e : AMethod m.name m.place (sign_of m.signature) (AMethod n.name n.place (sign_of n.signature) (method_shapes ms)) ≡ error_method h.0 = h.1 in cc

abbrev IsNamedError : Method → Type 0
IsNamedError m = IsTrue (bytes_eq m.name (codes "Error")) × ((sign_params (sign_of m.signature) ≡ []) × (sign_results (sign_of m.signature) ≡ Predeclared basics.Text ∷ []))

pub the_one : (ms : List Method) (m : Method) (r : Bool) → length ms ≡ 1 → m ≡ slice_index_or ms 0 m → (IsTrue r ↔ IsNamedError m) → IsTrue r ↔ AreErrors (method_shapes ms)
the_one [] m r one is h = absurd (omega (arith, one))
the_one (x ∷ (y ∷ ms)) m r one is h = absurd (omega (arith, one))
the_one (x ∷ []) m r one is h = subst (λ y. IsTrue r ↔ AreErrors (method_shapes (y ∷ []))) same (to, from)
  where
    same : m ≡ x
    same = is

    to : IsTrue r → AreErrors (method_shapes (m ∷ []))
    to k =
        let named = h.0 k in
        let n : m.name ≡ codes "Error" = (bytes_eq-Decides m.name (codes "Error")).0 named.0 in
        let s : sign_of m.signature ≡ text_sign = of_error (sign_of m.signature) named.1 in
        (m.place, λ i. AMethod (n i) m.place (s i) NoMethod)

    from : AreErrors (method_shapes (m ∷ [])) → IsTrue r
    from k =
        let e : AMethod m.name m.place (sign_of m.signature) NoMethod ≡ error_method k.0 = k.1 in
        let n : m.name ≡ codes "Error" = cc in
        let s : sign_of m.signature ≡ text_sign = cc in
        h.1 ((bytes_eq-Decides m.name (codes "Error")).1 n, (ap sign_params s, ap sign_results s))

-- an interface type by its methods
pub of_methods : (t : Term) (path : List ℕ) (ms : Methods) (r : Bool) → t ≡ InterfaceOf path ms → (IsTrue r ↔ AreErrors ms) → IsTrue r ↔ IsErrorInterface t
of_methods t path ms r is h = (
  λ x. let k = h.0 x in (path, k.0, is ∙ ap (InterfaceOf path) k.1),
  λ x.
      let e : InterfaceOf path ms ≡ InterfaceOf x.0 (error_method x.1) = sym is ∙ x.2 in
      let m : ms ≡ error_method x.1 = cc in
      h.1 (x.1, m),
)
