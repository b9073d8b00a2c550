-- Settling looks at what the written term mentions alone.
use Rattle.std.proofs.Common.{◌≡◌, ℕ, ◌&&◌, ◌||◌, List, [], ◌∷◌, ◌++◌, if◌then◌else◌, refl, ap}
use Rattle.std.specs.List.{Contains}
use Rattle.std.proofs.lemmas.List.Elements.{Contains-append_left, Contains-append_right, Contains-push}
use Rattle.go_decl_core.specs.declared.keys.DeclKey.{DeclKey}
use Rattle.go_tree_nodes.specs.text_core.Text.{is_blank}
use Rattle.go_term_core.specs.Terms.{Term, NoType, Predeclared, ErrorType, Defined, PointerTo, StructOf, InterfaceOf, Fields, NoField, AField, Methods, NoMethod, AMethod, Sign, SignOf, Terms, NoTerm, ATerm, term_keys, fields_keys, methods_keys, sign_keys, terms_keys}
use Rattle.go_term_core.specs.declared.settling.kind.Kind.{Kind}
use Rattle.go_term_core.specs.settling.Settled.{is_no_pointer, can_be_pointed, can_point, can_be_embedded, pointer_to, defined_unless, is_among_names, repeats_earlier, settled, settled_fields, settled_methods, settled_sign, settled_terms}
use Rattle.go_term_core.specs.settling.Laws.{SettlingIsLocal}

module _ (kind other : DeclKey → Kind) where
  -- the look-ups agree on some keys
  abbrev Agree : List DeclKey → Type 0
  Agree keys = (k : DeclKey) → Contains keys k → kind k ≡ other k

  here : (k : DeclKey) → Agree (k ∷ []) → kind k ≡ other k
  here k same = same k (Contains-push [] k)

  before : (ks js : List DeclKey) → Agree (ks ++ js) → Agree ks
  before ks js same k at = same k (Contains-append_left ks js k at)

  behind : (ks js : List DeclKey) → Agree (ks ++ js) → Agree js
  behind ks js same k at = same k (Contains-append_right ks js k at)

  pointed_alike : (t : Term) → Agree (term_keys t) → can_point kind t ≡ can_point other t
  pointed_alike NoType same = refl
  pointed_alike (Predeclared b) same = refl
  pointed_alike ErrorType same = refl
  pointed_alike (Defined k) same = ap can_be_pointed (here k same)
  pointed_alike (PointerTo t) same = refl
  pointed_alike (StructOf path fs) same = refl
  pointed_alike (InterfaceOf path ms) same = refl

  embedded_alike : (t : Term) → Agree (term_keys t) → can_be_embedded kind t ≡ can_be_embedded other t
  embedded_alike NoType same = refl
  embedded_alike (Predeclared b) same = refl
  embedded_alike ErrorType same = refl
  embedded_alike (Defined k) same = ap is_no_pointer (here k same)
  embedded_alike (PointerTo t) same = pointed_alike t same
  embedded_alike (StructOf path fs) same = refl
  embedded_alike (InterfaceOf path ms) same = refl

  mutual
    term_alike : (t : Term) → Agree (term_keys t) → settled kind t ≡ settled other t
    term_alike NoType same = refl
    term_alike (Predeclared b) same = refl
    term_alike ErrorType same = refl
    term_alike (Defined k) same = ap (λ v. defined_unless v k) (here k same)
    term_alike (PointerTo t) same = ap pointer_to (term_alike t same)
    term_alike (StructOf path fs) same = ap (StructOf path) (fields_alike fs [] same)
    term_alike (InterfaceOf path ms) same = ap (InterfaceOf path) (methods_alike ms [] same)

    fields_alike : (fs : Fields) (seen : List (List ℕ)) → Agree (fields_keys fs) → settled_fields kind seen fs ≡ settled_fields other seen fs
    fields_alike NoField seen same = refl
    fields_alike (AField name place embedded t tag fs) seen same =
        let first = before (term_keys t) (fields_keys fs) same in
        let rest = behind (term_keys t) (fields_keys fs) same in
        (λ i. if repeats_earlier seen name then fields_alike fs seen rest i else AField name place (embedded && embedded_alike t first i) (term_alike t first i) tag (fields_alike fs (name ∷ seen) rest i))

    methods_alike : (ms : Methods) (seen : List (List ℕ)) → Agree (methods_keys ms) → settled_methods kind seen ms ≡ settled_methods other seen ms
    methods_alike NoMethod seen same = refl
    methods_alike (AMethod name place g ms) seen same =
        let first = before (sign_keys g) (methods_keys ms) same in
        let rest = behind (sign_keys g) (methods_keys ms) same in
        (λ i. if is_blank name || is_among_names seen name then methods_alike ms seen rest i else AMethod name place (sign_alike g first i) (methods_alike ms (name ∷ seen) rest i))

    pub sign_alike : (g : Sign) → Agree (sign_keys g) → settled_sign kind g ≡ settled_sign other g
    sign_alike (SignOf ps rs) same =
        let first = before (terms_keys ps) (terms_keys rs) same in
        let rest = behind (terms_keys ps) (terms_keys rs) same in
        (λ i. SignOf (terms_alike ps first i) (terms_alike rs rest i))

    terms_alike : (ts : Terms) → Agree (terms_keys ts) → settled_terms kind ts ≡ settled_terms other ts
    terms_alike NoTerm same = refl
    terms_alike (ATerm t ts) same =
        let first = before (term_keys t) (terms_keys ts) same in
        let rest = behind (term_keys t) (terms_keys ts) same in
        (λ i. ATerm (term_alike t first i) (terms_alike ts rest i))

pub settling_is_local : SettlingIsLocal
settling_is_local kind other t same = term_alike kind other t same
