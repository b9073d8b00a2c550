-- Identity of types is an equivalence.
use Rattle.std.proofs.Common.{◌≡◌, ◌⊎◌, inl, inr, ℕ, zero, suc, Bool, true, false, List, refl, ap, sym, ◌∙◌, subst, IsTrue, arith}
use Rattle.std.specs.Str.{chars}
use Rattle.go_tree_nodes.specs.text_core.Text.{SameId, exported}
use Rattle.go_term_core.specs.declared.term.MemberPlace.{MemberPlace}
use Rattle.go_term_core.specs.Terms.{Term, NoType, Predeclared, ErrorType, Defined, PointerTo, StructOf, InterfaceOf, Fields, NoField, AField, Methods, NoMethod, AMethod, Sign, SignOf, Terms, NoTerm, ATerm}
use Rattle.go_term_core.specs.Identity.{TagsAgree, Identical, IdenticalBy, SameFieldsBy, HasAllBy, SameSignBy, SameTermsBy, IsMethod, method_count}
use Rattle.go_term_core.specs.mirrors.Alike.{HasAlike}
use Rattle.go_term_core.specs.Laws.{HasNone, IsApart, FieldsApart, MethodsApart, SignApart, TermsApart, swapped, OrderDoesNotCount}

-- identifiers

abbrev Exported : List ℕ → Type 0
Exported name = IsTrue (exported (chars name))

pub id_back : (a p b q : List ℕ) → SameId a p b q → SameId b q a p
id_back a p b q (e, inl h) = (sym e, inl (subst Exported e h))
id_back a p b q (e, inr h) = (sym e, inr (sym h))

pub id_on : (a p b q c r : List ℕ) → SameId a p b q → SameId b q c r → SameId a p c r
id_on a p b q c r (e, inl h) (f, k) = (e ∙ f, inl h)
id_on a p b q c r (e, inr h) (f, inl k) = (e ∙ f, inl (subst Exported (sym e) k))
id_on a p b q c r (e, inr h) (f, inr k) = (e ∙ f, inr (h ∙ k))

-- tags

tags_itself : (tags : Bool) (x : List ℕ) → TagsAgree tags x x
tags_itself true x = refl
tags_itself false x = tt

tags_back : (tags : Bool) (x y : List ℕ) → TagsAgree tags x y → TagsAgree tags y x
tags_back true x y h = sym h
tags_back false x y h = tt

tags_on : (tags : Bool) (x y z : List ℕ) → TagsAgree tags x y → TagsAgree tags y z → TagsAgree tags x z
tags_on true x y z h k = h ∙ k
tags_on false x y z h k = tt

-- methods that stand among others
abbrev Within : Methods → Methods → Type 0
Within ms ns = (name : List ℕ) (place : MemberPlace) (g : Sign) → IsMethod ms name place g → IsMethod ns name place g

module _ (tags : Bool) where
  -- each type is identical to itself

  mutual
    pub itself_by : (t : Term) → IdenticalBy tags t t
    itself_by NoType = tt
    itself_by (Predeclared b) = refl
    itself_by ErrorType = tt
    itself_by (Defined k) = refl
    itself_by (PointerTo t) = itself_by t
    itself_by (StructOf p fs) = fields_itself p fs
    itself_by (InterfaceOf p ms) = (refl, all_within p ms ms (λ name place g h. h))

    fields_itself : (p : List ℕ) (fs : Fields) → SameFieldsBy tags p fs p fs
    fields_itself p NoField = tt
    fields_itself p (AField name place embedded t tag fs) = ((refl, inr refl), refl, itself_by t, tags_itself tags tag, fields_itself p fs)

    -- methods that stand among others too
    pub all_within : (p : List ℕ) (ms ns : Methods) → Within ms ns → HasAllBy tags p ms p ns
    all_within p NoMethod ns within = tt
    all_within p (AMethod name place g ms) ns within =
        ((name, place, g, within name place g (inl (refl, refl, refl)), (refl, inr refl), sign_itself g), all_within p ms ns (λ n q k h. within n q k (inr h)))

    sign_itself : (g : Sign) → SameSignBy tags g g
    sign_itself (SignOf ps rs) = (terms_itself ps, terms_itself rs)

    terms_itself : (ts : Terms) → SameTermsBy tags ts ts
    terms_itself NoTerm = tt
    terms_itself (ATerm t ts) = (itself_by t, terms_itself ts)

  -- a method of the one, among those of the other
  pub alike : (p : List ℕ) (ms : Methods) (q : List ℕ) (ns : Methods) → HasAllBy tags p ms q ns → (name : List ℕ) (place : MemberPlace) (g : Sign) → IsMethod ms name place g → HasAlike tags p name g q ns
  alike p NoMethod q ns all name place g h = absurd h
  alike p (AMethod name' place' g' ms) q ns all name place g (inl h) = subst (λ n. HasAlike tags p n g q ns) h.0 (subst (λ k. HasAlike tags p name' k q ns) h.2 all.0)
  alike p (AMethod name' place' g' ms) q ns all name place g (inr h) = alike p ms q ns all.1 name place g h

  -- a type that is identical to a second, which is identical to a third

  mutual
    pub onward_by : (t u v : Term) → IdenticalBy tags t u → IdenticalBy tags u v → IdenticalBy tags t v
    onward_by NoType NoType NoType h k = tt
    onward_by NoType NoType _ h k = absurd k
    onward_by NoType _ _ h k = absurd h
    onward_by (Predeclared a) (Predeclared b) (Predeclared c) h k = h ∙ k
    onward_by (Predeclared a) (Predeclared b) _ h k = absurd k
    onward_by (Predeclared a) _ _ h k = absurd h
    onward_by ErrorType ErrorType ErrorType h k = tt
    onward_by ErrorType ErrorType _ h k = absurd k
    onward_by ErrorType _ _ h k = absurd h
    onward_by (Defined a) (Defined b) (Defined c) h k = h ∙ k
    onward_by (Defined a) (Defined b) _ h k = absurd k
    onward_by (Defined a) _ _ h k = absurd h
    onward_by (PointerTo t) (PointerTo u) (PointerTo v) h k = onward_by t u v h k
    onward_by (PointerTo t) (PointerTo u) _ h k = absurd k
    onward_by (PointerTo t) _ _ h k = absurd h
    onward_by (StructOf p fs) (StructOf q gs) (StructOf r hs) h k = fields_onward p fs q gs r hs h k
    onward_by (StructOf p fs) (StructOf q gs) _ h k = absurd k
    onward_by (StructOf p fs) _ _ h k = absurd h
    onward_by (InterfaceOf p ms) (InterfaceOf q ns) (InterfaceOf r os) h k = (h.0 ∙ k.0, all_onward p ms q ns r os h.1 k.1)
    onward_by (InterfaceOf p ms) (InterfaceOf q ns) _ h k = absurd k
    onward_by (InterfaceOf p ms) _ _ h k = absurd h

    fields_onward : (p : List ℕ) (fs : Fields) (q : List ℕ) (gs : Fields) (r : List ℕ) (hs : Fields) → SameFieldsBy tags p fs q gs → SameFieldsBy tags q gs r hs → SameFieldsBy tags p fs r hs
    fields_onward p NoField q NoField r NoField h k = tt
    fields_onward p NoField q NoField r (AField a b c d e hs) h k = absurd k
    fields_onward p NoField q (AField a b c d e gs) r hs h k = absurd h
    fields_onward p (AField name place embedded t tag fs) q NoField r hs h k = absurd h
    fields_onward p (AField name place embedded t tag fs) q (AField name' place' embedded' t' tag' gs) r NoField h k = absurd k
    fields_onward p (AField name place embedded t tag fs) q (AField name' place' embedded' t' tag' gs) r (AField name'' place'' embedded'' t'' tag'' hs) h k =
        (id_on name p name' q name'' r h.0 k.0, h.1 ∙ k.1, onward_by t t' t'' h.2 k.2, tags_on tags tag tag' tag'' h.3 k.3, fields_onward p fs q gs r hs h.4 k.4)

    all_onward : (p : List ℕ) (ms : Methods) (q : List ℕ) (ns : Methods) (r : List ℕ) (os : Methods) → HasAllBy tags p ms q ns → HasAllBy tags q ns r os → HasAllBy tags p ms r os
    all_onward p NoMethod q ns r os h k = tt
    all_onward p (AMethod name place g ms) q ns r os h k =
        let n = h.0 in
        let o = alike q ns r os k n.0 n.1 n.2 n.3 in
        ((o.0, o.1, o.2, o.3, id_on name p n.0 q o.0 r n.4 o.4, sign_onward g n.2 o.2 n.5 o.5), all_onward p ms q ns r os h.1 k)

    sign_onward : (g k l : Sign) → SameSignBy tags g k → SameSignBy tags k l → SameSignBy tags g l
    sign_onward (SignOf ps rs) (SignOf qs us) (SignOf xs ys) h k = (terms_onward ps qs xs h.0 k.0, terms_onward rs us ys h.1 k.1)

    terms_onward : (ts us vs : Terms) → SameTermsBy tags ts us → SameTermsBy tags us vs → SameTermsBy tags ts vs
    terms_onward NoTerm NoTerm NoTerm h k = tt
    terms_onward NoTerm NoTerm (ATerm v vs) h k = absurd k
    terms_onward NoTerm (ATerm u us) vs h k = absurd h
    terms_onward (ATerm t ts) NoTerm vs h k = absurd h
    terms_onward (ATerm t ts) (ATerm u us) NoTerm h k = absurd k
    terms_onward (ATerm t ts) (ATerm u us) (ATerm v vs) h k = (onward_by t u v h.0 k.0, terms_onward ts us vs h.1 k.1)

-- the methods without one of them
abbrev pub without : (ns : Methods) (name : List ℕ) (place : MemberPlace) (g : Sign) → IsMethod ns name place g → Methods
without NoMethod name place g h = NoMethod
without (AMethod name' place' g' ns) name place g (inl h) = ns
without (AMethod name' place' g' ns) name place g (inr h) = AMethod name' place' g' (without ns name place g h)

pub one_less : (ns : Methods) (name : List ℕ) (place : MemberPlace) (g : Sign) (h : IsMethod ns name place g) → method_count ns ≡ suc (method_count (without ns name place g h))
one_less NoMethod name place g h = absurd h
one_less (AMethod name' place' g' ns) name place g (inl h) = refl
one_less (AMethod name' place' g' ns) name place g (inr h) = ap suc (one_less ns name place g h)

-- a method of another name is left
pub stays : (ns : Methods) (name : List ℕ) (place : MemberPlace) (g : Sign) (h : IsMethod ns name place g) (other : List ℕ) (there : MemberPlace) (k : Sign) → IsMethod ns other there k → (name ≡ other → ⊥) → IsMethod (without ns name place g h) other there k
stays NoMethod name place g h other there k is apart = absurd h
stays (AMethod name' place' g' ns) name place g (inl h) other there k (inl is) apart = absurd (apart (sym h.0 ∙ is.0))
stays (AMethod name' place' g' ns) name place g (inl h) other there k (inr is) apart = is
stays (AMethod name' place' g' ns) name place g (inr h) other there k (inl is) apart = inl is
stays (AMethod name' place' g' ns) name place g (inr h) other there k (inr is) apart = inr (stays ns name place g h other there k is apart)

-- a method is the one that was left out, or is left
abbrev IsOrLeft : (ns : Methods) (name : List ℕ) (place : MemberPlace) (g : Sign) → IsMethod ns name place g → List ℕ → MemberPlace → Sign → Type 0
IsOrLeft ns name place g h other there k = ((name ≡ other) × (place ≡ there) × (g ≡ k)) ⊎ IsMethod (without ns name place g h) other there k

is_or_left : (ns : Methods) (name : List ℕ) (place : MemberPlace) (g : Sign) (h : IsMethod ns name place g) (other : List ℕ) (there : MemberPlace) (k : Sign) → IsMethod ns other there k → IsOrLeft ns name place g h other there k
is_or_left NoMethod name place g h other there k is = absurd h
is_or_left (AMethod name' place' g' ns) name place g (inl h) other there k (inl is) = inl (sym h.0 ∙ is.0, sym h.1 ∙ is.1, sym h.2 ∙ is.2)
is_or_left (AMethod name' place' g' ns) name place g (inl h) other there k (inr is) = inr is
is_or_left (AMethod name' place' g' ns) name place g (inr h) other there k (inl is) = inr (inl is)
is_or_left (AMethod name' place' g' ns) name place g (inr h) other there k (inr is) = elim (is_or_left ns name place g h other there k is) [ inl e ↦ inl e | inr e ↦ inr (inr e) ]

module _ (tags : Bool) where
  -- a type to which another is identical

  -- each method of the one has one of the other that has its signature
  abbrev HasBack : List ℕ → List ℕ → Sign → List ℕ → Methods → Type 0
  HasBack p name g q ns = (name' : List ℕ) × (place' : MemberPlace) × (g' : Sign) × IsMethod ns name' place' g' × SameId name p name' q × SameSignBy tags g' g

  abbrev AllBack : List ℕ → Methods → List ℕ → Methods → Type 0
  AllBack p NoMethod q ns = Unit {0}
  AllBack p (AMethod name place g ms) q ns = HasBack p name g q ns × AllBack p ms q ns

  -- methods of other names keep theirs
  all_stay : (p : List ℕ) (ms : Methods) (q : List ℕ) (ns : Methods) (name : List ℕ) (place : MemberPlace) (g : Sign) (h : IsMethod ns name place g) → HasNone name ms → AllBack p ms q ns → AllBack p ms q (without ns name place g h)
  all_stay p NoMethod q ns name place g h apart all = tt
  all_stay p (AMethod name' place' g' ms) q ns name place g h apart all =
      let b = all.0 in
      ((b.0, b.1, b.2, stays ns name place g h b.0 b.1 b.2 b.3 (λ e. apart.0 (e ∙ sym b.4.0)), b.4, b.5), all_stay p ms q ns name place g h apart.1 all.1)

  -- where there are as many, and those of the one differ by name, each of the other is met
  met : (p : List ℕ) (ms : Methods) (q : List ℕ) (ns : Methods) → MethodsApart ms → method_count ms ≡ method_count ns → AllBack p ms q ns → (name : List ℕ) (place : MemberPlace) (g : Sign) → IsMethod ns name place g → HasAlike tags q name g p ms
  met p NoMethod q NoMethod apart many all name place g is = absurd is
  met p NoMethod q (AMethod name' place' g' ns) apart many all name place g is = absurd (let e : 0 ≡ suc (method_count ns) = many in cc)
  met p (AMethod name' place' g' ms) q ns apart many all name place g is =
      let b = all.0 in
      let left = without ns b.0 b.1 b.2 b.3 in
      let fewer : method_count ms ≡ method_count left = (let e : suc (method_count ms) ≡ suc (method_count left) = many ∙ one_less ns b.0 b.1 b.2 b.3 in omega (arith, e)) in
      let none = subst (λ n. HasNone n ms) b.4.0 apart.0 in
      elim (is_or_left ns b.0 b.1 b.2 b.3 name place g is) [
        | inl e ↦ (name', place', g', inl (refl, refl, refl), subst (λ n. SameId n q name' p) e.0 (id_back name' p b.0 q b.4), subst (λ k. SameSignBy tags k g') e.2 b.5)
        | inr l ↦ (let h = met p ms q left apart.2 fewer (all_stay p ms q ns b.0 b.1 b.2 b.3 none all.1) name place g l in (h.0, h.1, h.2, inr h.3, h.4, h.5))
      ]

  pub all_met : (p : List ℕ) (ms : Methods) (q : List ℕ) (ns : Methods) → ((name : List ℕ) (place : MemberPlace) (g : Sign) → IsMethod ns name place g → HasAlike tags q name g p ms) → HasAllBy tags q ns p ms
  all_met p ms q NoMethod each = tt
  all_met p ms q (AMethod name place g ns) each = (each name place g (inl (refl, refl, refl)), all_met p ms q ns (λ n l k h. each n l k (inr h)))

  mutual
    pub back_by : (t u : Term) → IsApart t → IdenticalBy tags t u → IdenticalBy tags u t
    back_by NoType NoType apart h = tt
    back_by NoType _ apart h = absurd h
    back_by (Predeclared a) (Predeclared b) apart h = sym h
    back_by (Predeclared a) _ apart h = absurd h
    back_by ErrorType ErrorType apart h = tt
    back_by ErrorType _ apart h = absurd h
    back_by (Defined a) (Defined b) apart h = sym h
    back_by (Defined a) _ apart h = absurd h
    back_by (PointerTo t) (PointerTo u) apart h = back_by t u apart h
    back_by (PointerTo t) _ apart h = absurd h
    back_by (StructOf p fs) (StructOf q gs) apart h = fields_back p fs q gs apart h
    back_by (StructOf p fs) _ apart h = absurd h
    back_by (InterfaceOf p ms) (InterfaceOf q ns) apart h = (sym h.0, all_met p ms q ns (met p ms q ns apart h.0 (all_back p ms q ns apart h.1)))
    back_by (InterfaceOf p ms) _ apart h = absurd h

    fields_back : (p : List ℕ) (fs : Fields) (q : List ℕ) (gs : Fields) → FieldsApart fs → SameFieldsBy tags p fs q gs → SameFieldsBy tags q gs p fs
    fields_back p NoField q NoField apart h = tt
    fields_back p NoField q (AField a b c d e gs) apart h = absurd h
    fields_back p (AField name place embedded t tag fs) q NoField apart h = absurd h
    fields_back p (AField name place embedded t tag fs) q (AField name' place' embedded' t' tag' gs) apart h =
        (id_back name p name' q h.0, sym h.1, back_by t t' apart.0 h.2, tags_back tags tag tag' h.3, fields_back p fs q gs apart.1 h.4)

    all_back : (p : List ℕ) (ms : Methods) (q : List ℕ) (ns : Methods) → MethodsApart ms → HasAllBy tags p ms q ns → AllBack p ms q ns
    all_back p NoMethod q ns apart h = tt
    all_back p (AMethod name place g ms) q ns apart h =
        let n = h.0 in
        ((n.0, n.1, n.2, n.3, n.4, sign_back g n.2 apart.1 n.5), all_back p ms q ns apart.2 h.1)

    sign_back : (g k : Sign) → SignApart g → SameSignBy tags g k → SameSignBy tags k g
    sign_back (SignOf ps rs) (SignOf qs us) apart h = (terms_back ps qs apart.0 h.0, terms_back rs us apart.1 h.1)

    terms_back : (ts us : Terms) → TermsApart ts → SameTermsBy tags ts us → SameTermsBy tags us ts
    terms_back NoTerm NoTerm apart h = tt
    terms_back NoTerm (ATerm u us) apart h = absurd h
    terms_back (ATerm t ts) NoTerm apart h = absurd h
    terms_back (ATerm t ts) (ATerm u us) apart h = (back_by t u apart.0 h.0, terms_back ts us apart.1 h.1)

-- methods in another order

pub swapped_among : (k : ℕ) (ms : Methods) → Within ms (swapped k ms)
swapped_among zero NoMethod name place g h = h
swapped_among zero (AMethod a b c NoMethod) name place g h = h
swapped_among zero (AMethod a b c (AMethod a' b' c' ms)) name place g (inl h) = inr (inl h)
swapped_among zero (AMethod a b c (AMethod a' b' c' ms)) name place g (inr (inl h)) = inl h
swapped_among zero (AMethod a b c (AMethod a' b' c' ms)) name place g (inr (inr h)) = inr (inr h)
swapped_among (suc k) NoMethod name place g h = h
swapped_among (suc k) (AMethod a b c ms) name place g (inl h) = inl h
swapped_among (suc k) (AMethod a b c ms) name place g (inr h) = inr (swapped_among k ms name place g h)

swapped_count : (k : ℕ) (ms : Methods) → method_count ms ≡ method_count (swapped k ms)
swapped_count zero NoMethod = refl
swapped_count zero (AMethod a b c NoMethod) = refl
swapped_count zero (AMethod a b c (AMethod a' b' c' ms)) = refl
swapped_count (suc k) NoMethod = refl
swapped_count (suc k) (AMethod a b c ms) = ap suc (swapped_count k ms)

pub order_does_not_count : OrderDoesNotCount
order_does_not_count path ms k = (swapped_count k ms, all_within true path ms (swapped k ms) (swapped_among k ms))

-- where tags count

pub itself : (t : Term) → Identical t t
itself t = itself_by true t

pub back : (t u : Term) → IsApart t → Identical t u → Identical u t
back t u apart h = back_by true t u apart h

pub onward : (t u v : Term) → Identical t u → Identical u v → Identical t v
onward t u v h k = onward_by true t u v h k
