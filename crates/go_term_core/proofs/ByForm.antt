-- Identity form by form.
use Rattle.std.proofs.Common.{◌≡◌, ◌↔◌, ◌≤◌, ℕ, zero, suc, Bool, true, false, List, refl, ap, sym, ◌∙◌, subst, inl, inr, arith}
use Rattle.go_tree_nodes.specs.text_core.Text.{SameId}
use Rattle.go_term_core.specs.declared.term.Basic.{Basic}
use Rattle.go_term_core.specs.declared.term.MemberPlace.{MemberPlace}
use Rattle.go_term_core.specs.Terms.{Term, NoType, Predeclared, ErrorType, Defined, PointerTo, StructOf, InterfaceOf, Fields, NoField, AField, Methods, NoMethod, AMethod, Sign, SignOf, Terms, NoTerm, ATerm}
use Rattle.go_term_core.specs.Identity.{Identical, IdenticalBy, SameFieldsBy, HasAllBy, SameSign, SameSignBy, SameTermsBy, IsMethod, method_count}
use Rattle.go_term_core.specs.Laws.{HasNone, IsApart, MethodsApart}
use Rattle.go_term_core.specs.Forms.{IsFieldAt, field_count, IsTermAt, term_count, AreFieldsAlike, AreTermsAlike, AreAmong, IdentityByForm, without_tags, fields_without, methods_without, sign_without, terms_without, TagsDoNotCount}
use Rattle.go_term_core.proofs.Meanings.{itself, itself_by, back, back_by, onward_by, alike, all_met, without, one_less, stays}

-- types that are identical to themselves alone

none_from : (t : Term) → Identical NoType t → t ≡ NoType
none_from NoType h = refl
none_from _ h = absurd h

basic_from : (b : Basic) (t : Term) → Identical (Predeclared b) t → t ≡ Predeclared b
basic_from b (Predeclared c) h = ap Predeclared (sym h)
basic_from b _ h = absurd h

error_from : (t : Term) → Identical ErrorType t → t ≡ ErrorType
error_from ErrorType h = refl
error_from _ h = absurd h

itself_to : (s t : Term) → t ≡ s → Identical s t
itself_to s t e = subst (λ (x : Term). Identical s x) (sym e) (itself s)

-- pointers

pointer_from : (t u : Term) → Identical (PointerTo t) u → (v : Term) × (u ≡ PointerTo v) × Identical t v
pointer_from t (PointerTo v) h = (v, refl, h)
pointer_from t _ h = absurd h

-- struct types

fields_many : (p : List ℕ) (fs : Fields) (q : List ℕ) (gs : Fields) → SameFieldsBy true p fs q gs → field_count fs ≡ field_count gs
fields_many p NoField q NoField h = refl
fields_many p NoField q (AField a b c d e gs) h = absurd h
fields_many p (AField name place embedded t tag fs) q NoField h = absurd h
fields_many p (AField name place embedded t tag fs) q (AField name' place' embedded' t' tag' gs) h = ap suc (fields_many p fs q gs h.4)

-- fields that correspond
abbrev Alike : List ℕ → List ℕ → List ℕ → List ℕ → Bool → Bool → Term → Term → List ℕ → List ℕ → Type 0
Alike p q name name' embedded embedded' t t' tag tag' = SameId name p name' q × (embedded ≡ embedded') × Identical t t' × (tag ≡ tag')

fields_each : (p : List ℕ) (fs : Fields) (q : List ℕ) (gs : Fields) → SameFieldsBy true p fs q gs → (i : ℕ) (name name' : List ℕ) (embedded embedded' : Bool) (t t' : Term) (tag tag' : List ℕ) → IsFieldAt fs i name embedded t tag → IsFieldAt gs i name' embedded' t' tag' → Alike p q name name' embedded embedded' t t' tag tag'
fields_each p NoField q gs s i name name' embedded embedded' t t' tag tag' h k = absurd h
fields_each p (AField n l m u g fs) q NoField s i name name' embedded embedded' t t' tag tag' h k = absurd k
fields_each p (AField n l m u g fs) q (AField n' l' m' u' g' gs) s zero name name' embedded embedded' t t' tag tag' h k = (
  subst (λ x. SameId x p name' q) h.0 (subst (λ x. SameId n p x q) k.0 s.0),
  sym h.1 ∙ (s.1 ∙ k.1),
  subst (λ (x : Term). Identical x t') h.2 (subst (λ (x : Term). Identical u x) k.2 s.2),
  sym h.3 ∙ (s.3 ∙ k.3),
)
fields_each p (AField n l m u g fs) q (AField n' l' m' u' g' gs) s (suc i) name name' embedded embedded' t t' tag tag' h k = fields_each p fs q gs s.4 i name name' embedded embedded' t t' tag tag' h k

fields_to : (p : List ℕ) (fs : Fields) (q : List ℕ) (gs : Fields) → field_count fs ≡ field_count gs
    → ((i : ℕ) (name name' : List ℕ) (embedded embedded' : Bool) (t t' : Term) (tag tag' : List ℕ) → IsFieldAt fs i name embedded t tag → IsFieldAt gs i name' embedded' t' tag' → Alike p q name name' embedded embedded' t t' tag tag')
    → SameFieldsBy true p fs q gs
fields_to p NoField q NoField many each = tt
fields_to p NoField q (AField n' l' m' u' g' gs) many each = absurd (cc)
fields_to p (AField n l m u g fs) q NoField many each = absurd (cc)
fields_to p (AField n l m u g fs) q (AField n' l' m' u' g' gs) many each =
    let here = each zero n n' m m' u u' g g' (refl, refl, refl, refl) (refl, refl, refl, refl) in
    let rest : field_count fs ≡ field_count gs = omega (arith, many) in
    (here.0, here.1, here.2, here.3, fields_to p fs q gs rest (λ i name name' embedded embedded' t t' tag tag' h k. each (suc i) name name' embedded embedded' t t' tag tag' h k))

struct_from : (p : List ℕ) (fs : Fields) (u : Term) → Identical (StructOf p fs) u → (q : List ℕ) × (gs : Fields) × (u ≡ StructOf q gs) × AreFieldsAlike p fs q gs
struct_from p fs (StructOf q gs) h = (q, gs, refl, record { as_many = fields_many p fs q gs h; each = fields_each p fs q gs h })
struct_from p fs _ h = absurd h

struct_to : (p : List ℕ) (fs : Fields) (u : Term) → (q : List ℕ) × (gs : Fields) × (u ≡ StructOf q gs) × AreFieldsAlike p fs q gs → Identical (StructOf p fs) u
struct_to p fs u h = subst (λ (x : Term). Identical (StructOf p fs) x) (sym h.2) (fields_to p fs h.0 h.1 h.3.as_many h.3.each)

-- lists of types

terms_many : (ts us : Terms) → SameTermsBy true ts us → term_count ts ≡ term_count us
terms_many NoTerm NoTerm h = refl
terms_many NoTerm (ATerm u us) h = absurd h
terms_many (ATerm t ts) NoTerm h = absurd h
terms_many (ATerm t ts) (ATerm u us) h = ap suc (terms_many ts us h.1)

terms_each : (ts us : Terms) → SameTermsBy true ts us → (i : ℕ) (t u : Term) → IsTermAt ts i t → IsTermAt us i u → Identical t u
terms_each NoTerm us s i t u h k = absurd h
terms_each (ATerm a ts) NoTerm s i t u h k = absurd k
terms_each (ATerm a ts) (ATerm b us) s zero t u h k = subst (λ (x : Term). Identical x u) h (subst (λ (x : Term). Identical a x) k s.0)
terms_each (ATerm a ts) (ATerm b us) s (suc i) t u h k = terms_each ts us s.1 i t u h k

terms_to : (ts us : Terms) → term_count ts ≡ term_count us → ((i : ℕ) (t u : Term) → IsTermAt ts i t → IsTermAt us i u → Identical t u) → SameTermsBy true ts us
terms_to NoTerm NoTerm many each = tt
terms_to NoTerm (ATerm b us) many each = absurd (cc)
terms_to (ATerm a ts) NoTerm many each = absurd (cc)
terms_to (ATerm a ts) (ATerm b us) many each =
    let rest : term_count ts ≡ term_count us = omega (arith, many) in
    (each zero a b refl refl, terms_to ts us rest (λ i t u h k. each (suc i) t u h k))

terms_alike : (ts us : Terms) → SameTermsBy true ts us ↔ AreTermsAlike ts us
terms_alike ts us = ((λ h. record { as_many = terms_many ts us h; each = terms_each ts us h }), (λ h. terms_to ts us h.as_many h.each))

sign_alike : (ps rs qs us : Terms) → SameSign (SignOf ps rs) (SignOf qs us) ↔ (AreTermsAlike ps qs × AreTermsAlike rs us)
sign_alike ps rs qs us = ((λ h. ((terms_alike ps qs).0 h.0, (terms_alike rs us).0 h.1)), (λ h. ((terms_alike ps qs).1 h.0, (terms_alike rs us).1 h.1)))

-- interface types

-- each method of the one has one of its name among those of the other
abbrev AllNamed : List ℕ → Methods → List ℕ → Methods → Type 0
AllNamed p NoMethod q ns = Unit {0}
AllNamed p (AMethod name place g ms) q ns = ((name' : List ℕ) × (place' : MemberPlace) × (g' : Sign) × IsMethod ns name' place' g' × SameId name p name' q) × AllNamed p ms q ns

named_stay : (p : List ℕ) (ms : Methods) (q : List ℕ) (ns : Methods) (name : List ℕ) (place : MemberPlace) (g : Sign) (h : IsMethod ns name place g) → HasNone name ms → AllNamed p ms q ns → AllNamed p ms q (without ns name place g h)
named_stay p NoMethod q ns name place g h apart all = tt
named_stay p (AMethod name' place' g' ms) q ns name place g h apart all =
    let b = all.0 in
    ((b.0, b.1, b.2, stays ns name place g h b.0 b.1 b.2 b.3 (λ e. apart.0 (e ∙ sym b.4.0)), b.4), named_stay p ms q ns name place g h apart.1 all.1)

-- methods that differ by name are no more than those among which they are
at_most : (p : List ℕ) (ms : Methods) (q : List ℕ) (ns : Methods) → MethodsApart ms → AllNamed p ms q ns → method_count ms ≤ method_count ns
at_most p NoMethod q ns apart all = omega arith
at_most p (AMethod name place g ms) q ns apart all =
    let b = all.0 in
    let left = without ns b.0 b.1 b.2 b.3 in
    let none = subst (λ n. HasNone n ms) b.4.0 apart.0 in
    let rest : method_count ms ≤ method_count left = at_most p ms q left apart.2 (named_stay p ms q ns b.0 b.1 b.2 b.3 none all.1) in
    let one : method_count ns ≡ suc (method_count left) = one_less ns b.0 b.1 b.2 b.3 in
    omega (arith, rest, one)

named_from : (p : List ℕ) (ms : Methods) (q : List ℕ) (ns : Methods) → AreAmong p ms q ns → AllNamed p ms q ns
named_from p NoMethod q ns each = tt
named_from p (AMethod name place g ms) q ns each =
    let b = each name place g (inl (refl, refl, refl)) in
    ((b.0, b.1, b.2, b.3, b.4), named_from p ms q ns (λ n l k h. each n l k (inr h)))

interface_same : (p : List ℕ) (ms : Methods) (q : List ℕ) (ns : Methods) → MethodsApart ms → MethodsApart ns → AreAmong p ms q ns → AreAmong q ns p ms → Identical (InterfaceOf p ms) (InterfaceOf q ns)
interface_same p ms q ns apart apart' h k =
    let le : method_count ms ≤ method_count ns = at_most p ms q ns apart (named_from p ms q ns h) in
    let ge : method_count ns ≤ method_count ms = at_most q ns p ms apart' (named_from q ns p ms k) in
    (omega (arith, le, ge), all_met true q ns p ms h)

interface_from : (p : List ℕ) (ms : Methods) (u : Term) → MethodsApart ms → Identical (InterfaceOf p ms) u → (q : List ℕ) × (ns : Methods) × (u ≡ InterfaceOf q ns) × AreAmong p ms q ns × AreAmong q ns p ms
interface_from p ms (InterfaceOf q ns) apart h = (q, ns, refl, alike true p ms q ns h.1, (let k = back (InterfaceOf p ms) (InterfaceOf q ns) apart h in alike true q ns p ms k.1))
interface_from p ms _ apart h = absurd h

interface_to : (p : List ℕ) (ms : Methods) (u : Term) → MethodsApart ms → IsApart u → (q : List ℕ) × (ns : Methods) × (u ≡ InterfaceOf q ns) × AreAmong p ms q ns × AreAmong q ns p ms → Identical (InterfaceOf p ms) u
interface_to p ms u apart apart' h =
    let there : MethodsApart h.1 = subst (λ (x : Term). IsApart x) h.2 apart' in
    subst (λ (x : Term). Identical (InterfaceOf p ms) x) (sym h.2) (interface_same p ms h.0 h.1 apart there h.3 h.4)

pub by_form : IdentityByForm
by_form = record {
  none = λ t. (none_from t, itself_to NoType t);
  predeclared = λ b t. (basic_from b t, itself_to (Predeclared b) t);
  error = λ t. (error_from t, itself_to ErrorType t);
  pointer = λ t u. (pointer_from t u, (λ h. subst (λ (x : Term). Identical (PointerTo t) x) (sym h.1) h.2));
  struct = λ p fs u. (struct_from p fs u, struct_to p fs u);
  interface = λ p ms u apart apart'. (interface_from p ms u apart, interface_to p ms u apart apart');
  types = terms_alike;
  signature = sign_alike;
}

-- tags

-- a method of an interface type, without tags
method_gone : (ns : Methods) (name : List ℕ) (place : MemberPlace) (g : Sign) → IsMethod ns name place g → IsMethod (methods_without ns) name place (sign_without g)
method_gone NoMethod name place g h = absurd h
method_gone (AMethod name' place' g' ns) name place g (inl h) = inl (h.0, h.1, ap sign_without h.2)
method_gone (AMethod name' place' g' ns) name place g (inr h) = inr (method_gone ns name place g h)

method_there : (ns : Methods) (name : List ℕ) (place : MemberPlace) (k : Sign) → IsMethod (methods_without ns) name place k → (g : Sign) × IsMethod ns name place g × (sign_without g ≡ k)
method_there NoMethod name place k h = absurd h
method_there (AMethod name' place' g' ns) name place k (inl h) = (g', inl (h.0, h.1, refl), h.2)
method_there (AMethod name' place' g' ns) name place k (inr h) = (let r = method_there ns name place k h in (r.0, inr r.1, r.2))

many_without : (ms : Methods) → method_count (methods_without ms) ≡ method_count ms
many_without NoMethod = refl
many_without (AMethod name place g ms) = ap suc (many_without ms)

mutual
  ignored_from : (t u : Term) → IdenticalBy false t u → Identical (without_tags t) (without_tags u)
  ignored_from NoType NoType h = tt
  ignored_from NoType _ h = absurd h
  ignored_from (Predeclared a) (Predeclared b) h = h
  ignored_from (Predeclared a) _ h = absurd h
  ignored_from ErrorType ErrorType h = tt
  ignored_from ErrorType _ h = absurd h
  ignored_from (Defined a) (Defined b) h = h
  ignored_from (Defined a) _ h = absurd h
  ignored_from (PointerTo t) (PointerTo u) h = ignored_from t u h
  ignored_from (PointerTo t) _ h = absurd h
  ignored_from (StructOf p fs) (StructOf q gs) h = fields_from p fs q gs h
  ignored_from (StructOf p fs) _ h = absurd h
  ignored_from (InterfaceOf p ms) (InterfaceOf q ns) h = (many_without ms ∙ (h.0 ∙ sym (many_without ns)), all_from p ms q ns h.1)
  ignored_from (InterfaceOf p ms) _ h = absurd h

  fields_from : (p : List ℕ) (fs : Fields) (q : List ℕ) (gs : Fields) → SameFieldsBy false p fs q gs → SameFieldsBy true p (fields_without fs) q (fields_without gs)
  fields_from p NoField q NoField h = tt
  fields_from p NoField q (AField a b c d e gs) h = absurd h
  fields_from p (AField name place embedded t tag fs) q NoField h = absurd h
  fields_from p (AField name place embedded t tag fs) q (AField name' place' embedded' t' tag' gs) h = (h.0, h.1, ignored_from t t' h.2, refl, fields_from p fs q gs h.4)

  all_from : (p : List ℕ) (ms : Methods) (q : List ℕ) (ns : Methods) → HasAllBy false p ms q ns → HasAllBy true p (methods_without ms) q (methods_without ns)
  all_from p NoMethod q ns h = tt
  all_from p (AMethod name place g ms) q ns h =
      let n = h.0 in
      ((n.0, n.1, sign_without n.2, method_gone ns n.0 n.1 n.2 n.3, n.4, sign_from g n.2 n.5), all_from p ms q ns h.1)

  sign_from : (g k : Sign) → SameSignBy false g k → SameSignBy true (sign_without g) (sign_without k)
  sign_from (SignOf ps rs) (SignOf qs us) h = (terms_from ps qs h.0, terms_from rs us h.1)

  terms_from : (ts us : Terms) → SameTermsBy false ts us → SameTermsBy true (terms_without ts) (terms_without us)
  terms_from NoTerm NoTerm h = tt
  terms_from NoTerm (ATerm u us) h = absurd h
  terms_from (ATerm t ts) NoTerm h = absurd h
  terms_from (ATerm t ts) (ATerm u us) h = (ignored_from t u h.0, terms_from ts us h.1)

mutual
  ignored_to : (t u : Term) → Identical (without_tags t) (without_tags u) → IdenticalBy false t u
  ignored_to NoType NoType h = tt
  ignored_to NoType _ h = absurd h
  ignored_to (Predeclared a) (Predeclared b) h = h
  ignored_to (Predeclared a) _ h = absurd h
  ignored_to ErrorType ErrorType h = tt
  ignored_to ErrorType _ h = absurd h
  ignored_to (Defined a) (Defined b) h = h
  ignored_to (Defined a) _ h = absurd h
  ignored_to (PointerTo t) (PointerTo u) h = ignored_to t u h
  ignored_to (PointerTo t) _ h = absurd h
  ignored_to (StructOf p fs) (StructOf q gs) h = fields_back_to p fs q gs h
  ignored_to (StructOf p fs) _ h = absurd h
  ignored_to (InterfaceOf p ms) (InterfaceOf q ns) h = (sym (many_without ms) ∙ (h.0 ∙ many_without ns), all_to p ms q ns h.1)
  ignored_to (InterfaceOf p ms) _ h = absurd h

  fields_back_to : (p : List ℕ) (fs : Fields) (q : List ℕ) (gs : Fields) → SameFieldsBy true p (fields_without fs) q (fields_without gs) → SameFieldsBy false p fs q gs
  fields_back_to p NoField q NoField h = tt
  fields_back_to p NoField q (AField a b c d e gs) h = absurd h
  fields_back_to p (AField name place embedded t tag fs) q NoField h = absurd h
  fields_back_to p (AField name place embedded t tag fs) q (AField name' place' embedded' t' tag' gs) h = (h.0, h.1, ignored_to t t' h.2, tt, fields_back_to p fs q gs h.4)

  all_to : (p : List ℕ) (ms : Methods) (q : List ℕ) (ns : Methods) → HasAllBy true p (methods_without ms) q (methods_without ns) → HasAllBy false p ms q ns
  all_to p NoMethod q ns h = tt
  all_to p (AMethod name place g ms) q ns h =
      let n = h.0 in
      let m = method_there ns n.0 n.1 n.2 n.3 in
      ((n.0, n.1, m.0, m.1, n.4, sign_to g m.0 (subst (λ k. SameSignBy true (sign_without g) k) (sym m.2) n.5)), all_to p ms q ns h.1)

  sign_to : (g k : Sign) → SameSignBy true (sign_without g) (sign_without k) → SameSignBy false g k
  sign_to (SignOf ps rs) (SignOf qs us) h = (terms_back_to ps qs h.0, terms_back_to rs us h.1)

  terms_back_to : (ts us : Terms) → SameTermsBy true (terms_without ts) (terms_without us) → SameTermsBy false ts us
  terms_back_to NoTerm NoTerm h = tt
  terms_back_to NoTerm (ATerm u us) h = absurd h
  terms_back_to (ATerm t ts) NoTerm h = absurd h
  terms_back_to (ATerm t ts) (ATerm u us) h = (ignored_to t u h.0, terms_back_to ts us h.1)

mutual
  weaker : (t u : Term) → IdenticalBy true t u → IdenticalBy false t u
  weaker NoType NoType h = tt
  weaker NoType _ h = absurd h
  weaker (Predeclared a) (Predeclared b) h = h
  weaker (Predeclared a) _ h = absurd h
  weaker ErrorType ErrorType h = tt
  weaker ErrorType _ h = absurd h
  weaker (Defined a) (Defined b) h = h
  weaker (Defined a) _ h = absurd h
  weaker (PointerTo t) (PointerTo u) h = weaker t u h
  weaker (PointerTo t) _ h = absurd h
  weaker (StructOf p fs) (StructOf q gs) h = fields_weaker p fs q gs h
  weaker (StructOf p fs) _ h = absurd h
  weaker (InterfaceOf p ms) (InterfaceOf q ns) h = (h.0, all_weaker p ms q ns h.1)
  weaker (InterfaceOf p ms) _ h = absurd h

  fields_weaker : (p : List ℕ) (fs : Fields) (q : List ℕ) (gs : Fields) → SameFieldsBy true p fs q gs → SameFieldsBy false p fs q gs
  fields_weaker p NoField q NoField h = tt
  fields_weaker p NoField q (AField a b c d e gs) h = absurd h
  fields_weaker p (AField name place embedded t tag fs) q NoField h = absurd h
  fields_weaker p (AField name place embedded t tag fs) q (AField name' place' embedded' t' tag' gs) h = (h.0, h.1, weaker t t' h.2, tt, fields_weaker p fs q gs h.4)

  all_weaker : (p : List ℕ) (ms : Methods) (q : List ℕ) (ns : Methods) → HasAllBy true p ms q ns → HasAllBy false p ms q ns
  all_weaker p NoMethod q ns h = tt
  all_weaker p (AMethod name place g ms) q ns h = (let n = h.0 in ((n.0, n.1, n.2, n.3, n.4, sign_weaker g n.2 n.5), all_weaker p ms q ns h.1))

  sign_weaker : (g k : Sign) → SameSignBy true g k → SameSignBy false g k
  sign_weaker (SignOf ps rs) (SignOf qs us) h = (terms_weaker ps qs h.0, terms_weaker rs us h.1)

  terms_weaker : (ts us : Terms) → SameTermsBy true ts us → SameTermsBy false ts us
  terms_weaker NoTerm NoTerm h = tt
  terms_weaker NoTerm (ATerm u us) h = absurd h
  terms_weaker (ATerm t ts) NoTerm h = absurd h
  terms_weaker (ATerm t ts) (ATerm u us) h = (weaker t u h.0, terms_weaker ts us h.1)

pub tags_do_not_count : TagsDoNotCount
tags_do_not_count = record {
  ignored = λ t u. (ignored_from t u, ignored_to t u);
  weaker = weaker;
  reflexive = itself_by false;
  symmetric = λ t u apart _ h. back_by false t u apart h;
  transitive = onward_by false;
}
