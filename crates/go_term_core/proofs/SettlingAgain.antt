-- A settled term settled again.
use Rattle.std.proofs.Common.{◌≡◌, ℕ, Bool, true, false, ◌&&◌, ◌||◌, List, [], ◌∷◌, if◌then◌else◌, refl, ap, ◌∙◌}
use Rattle.go_decl_core.specs.declared.keys.DeclKey.{DeclKey}
use Rattle.go_tree_nodes.specs.text_core.Text.{is_blank}
use Rattle.go_term_core.specs.declared.term.MemberPlace.{MemberPlace}
use Rattle.go_term_core.specs.Terms.{Term, NoType, Predeclared, ErrorType, Defined, PointerTo, StructOf, InterfaceOf, Fields, NoField, AField, Methods, NoMethod, AMethod, Sign, SignOf, Terms, NoTerm, ATerm}
use Rattle.go_term_core.specs.declared.settling.kind.Kind.{Kind}
use Rattle.go_term_core.specs.declared.settling.kind.Kind.TheVariants as kinds
use Rattle.go_term_core.specs.settling.Settled.{is_no_pointer, can_be_pointed, can_point, can_be_embedded, pointer_to, defined_unless, is_among_names, repeats_earlier, settled, settled_fields, settled_methods, settled_sign, settled_terms}
use Rattle.go_term_core.specs.settling.Laws.{SettlingIsIdempotent}
use Rattle.go_term_core.proofs.SettlingNames.{SameNames, one_more, repeats_alike, left_alike}

and_again : (e x y : Bool) → (x ≡ true → y ≡ true) → (e && x) && y ≡ e && x
and_again false x y h = refl
and_again true false y h = refl
and_again true true y h = h refl

module _ (kind : DeclKey → Kind) where
  key_again : (k : DeclKey) (v : Kind) → kind k ≡ v → settled kind (defined_unless v k) ≡ defined_unless v k
  key_again k kinds.Nothing e = refl
  key_again k kinds.Pointer e = ap (λ v. defined_unless v k) e
  key_again k kinds.Interface e = ap (λ v. defined_unless v k) e
  key_again k kinds.Other e = ap (λ v. defined_unless v k) e

  pointer_again : (t : Term) → settled kind t ≡ t → settled kind (pointer_to t) ≡ pointer_to t
  pointer_again NoType h = refl
  pointer_again (Predeclared b) h = refl
  pointer_again ErrorType h = refl
  pointer_again (Defined k) h = ap pointer_to h
  pointer_again (PointerTo t) h = ap pointer_to h
  pointer_again (StructOf path fs) h = ap pointer_to h
  pointer_again (InterfaceOf path ms) h = ap pointer_to h

  -- what may be embedded may be once it is settled
  pointed_key : (k : DeclKey) (v : Kind) → kind k ≡ v → can_be_pointed v ≡ true → can_be_embedded kind (pointer_to (defined_unless v k)) ≡ true
  pointed_key k kinds.Nothing e h = refl
  pointed_key k kinds.Pointer e h = (cc)
  pointed_key k kinds.Interface e h = (cc)
  pointed_key k kinds.Other e h = ap can_be_pointed e

  pointed_again : (t : Term) → can_point kind t ≡ true → can_be_embedded kind (pointer_to (settled kind t)) ≡ true
  pointed_again NoType h = refl
  pointed_again (Predeclared b) h = refl
  pointed_again ErrorType h = h
  pointed_again (Defined k) h = pointed_key k (kind k) refl h
  pointed_again (PointerTo t) h = (cc)
  pointed_again (StructOf path fs) h = refl
  pointed_again (InterfaceOf path ms) h = h

  embedded_key : (k : DeclKey) (v : Kind) → kind k ≡ v → is_no_pointer v ≡ true → can_be_embedded kind (defined_unless v k) ≡ true
  embedded_key k kinds.Nothing e h = refl
  embedded_key k kinds.Pointer e h = (cc)
  embedded_key k kinds.Interface e h = ap is_no_pointer e
  embedded_key k kinds.Other e h = ap is_no_pointer e

  pub embedded_again : (t : Term) → can_be_embedded kind t ≡ true → can_be_embedded kind (settled kind t) ≡ true
  embedded_again NoType h = refl
  embedded_again (Predeclared b) h = refl
  embedded_again ErrorType h = refl
  embedded_again (Defined k) h = embedded_key k (kind k) refl h
  embedded_again (PointerTo t) h = pointed_again t h
  embedded_again (StructOf path fs) h = refl
  embedded_again (InterfaceOf path ms) h = refl

  field_again : (seen other : List (List ℕ)) (name : List ℕ) (place : MemberPlace) (embedded : Bool) (t : Term) (tag : List ℕ) (fs : Fields)
      → SameNames other seen → settled kind (settled kind t) ≡ settled kind t
      → settled_fields kind other (settled_fields kind seen fs) ≡ settled_fields kind seen fs
      → settled_fields kind (name ∷ other) (settled_fields kind (name ∷ seen) fs) ≡ settled_fields kind (name ∷ seen) fs
      → (b : Bool) → repeats_earlier seen name ≡ b
      → let whole : Bool → Fields = λ b. if b then settled_fields kind seen fs else AField name place (embedded && can_be_embedded kind t) (settled kind t) tag (settled_fields kind (name ∷ seen) fs) in
      settled_fields kind other (whole b) ≡ whole b
  field_again seen other name place embedded t tag fs same ht without hfs true e = without
  field_again seen other name place embedded t tag fs same ht without hfs false e =
      let u : Term = settled kind t in
      let c : Bool = embedded && can_be_embedded kind t in
      let rest : Fields = settled_fields kind (name ∷ seen) fs in
      ap (λ b. if b then settled_fields kind other rest else AField name place (c && can_be_embedded kind u) (settled kind u) tag (settled_fields kind (name ∷ other) rest)) (repeats_alike other seen name same ∙ e)
      ∙ (λ i. AField name place (and_again embedded (can_be_embedded kind t) (can_be_embedded kind u) (embedded_again t) i) (ht i) tag (hfs i))

  method_again : (seen other : List (List ℕ)) (name : List ℕ) (place : MemberPlace) (g : Sign) (ms : Methods)
      → SameNames other seen → settled_sign kind (settled_sign kind g) ≡ settled_sign kind g
      → settled_methods kind other (settled_methods kind seen ms) ≡ settled_methods kind seen ms
      → settled_methods kind (name ∷ other) (settled_methods kind (name ∷ seen) ms) ≡ settled_methods kind (name ∷ seen) ms
      → (b : Bool) → (is_blank name || is_among_names seen name) ≡ b
      → let whole : Bool → Methods = λ b. if b then settled_methods kind seen ms else AMethod name place (settled_sign kind g) (settled_methods kind (name ∷ seen) ms) in
      settled_methods kind other (whole b) ≡ whole b
  method_again seen other name place g ms same hg without hms true e = without
  method_again seen other name place g ms same hg without hms false e =
      let h : Sign = settled_sign kind g in
      let rest : Methods = settled_methods kind (name ∷ seen) ms in
      ap (λ b. if b then settled_methods kind other rest else AMethod name place (settled_sign kind h) (settled_methods kind (name ∷ other) rest)) (left_alike other seen name same ∙ e)
      ∙ (λ i. AMethod name place (hg i) (hms i))

  mutual
    pub term_again : (t : Term) → settled kind (settled kind t) ≡ settled kind t
    term_again NoType = refl
    term_again (Predeclared b) = refl
    term_again ErrorType = refl
    term_again (Defined k) = key_again k (kind k) refl
    term_again (PointerTo t) = pointer_again (settled kind t) (term_again t)
    term_again (StructOf path fs) = ap (StructOf path) (fields_again fs [] [] (λ n. refl))
    term_again (InterfaceOf path ms) = ap (InterfaceOf path) (methods_again ms [] [] (λ n. refl))

    fields_again : (fs : Fields) (seen other : List (List ℕ)) → SameNames other seen → settled_fields kind other (settled_fields kind seen fs) ≡ settled_fields kind seen fs
    fields_again NoField seen other same = refl
    fields_again (AField name place embedded t tag fs) seen other same =
        field_again seen other name place embedded t tag fs same (term_again t) (fields_again fs seen other same) (fields_again fs (name ∷ seen) (name ∷ other) (one_more name other seen same)) (repeats_earlier seen name) refl

    methods_again : (ms : Methods) (seen other : List (List ℕ)) → SameNames other seen → settled_methods kind other (settled_methods kind seen ms) ≡ settled_methods kind seen ms
    methods_again NoMethod seen other same = refl
    methods_again (AMethod name place g ms) seen other same =
        method_again seen other name place g ms same (sign_again g) (methods_again ms seen other same) (methods_again ms (name ∷ seen) (name ∷ other) (one_more name other seen same)) (is_blank name || is_among_names seen name) refl

    sign_again : (g : Sign) → settled_sign kind (settled_sign kind g) ≡ settled_sign kind g
    sign_again (SignOf ps rs) = (λ i. SignOf (terms_again ps i) (terms_again rs i))

    terms_again : (ts : Terms) → settled_terms kind (settled_terms kind ts) ≡ settled_terms kind ts
    terms_again NoTerm = refl
    terms_again (ATerm t ts) = (λ i. ATerm (term_again t i) (terms_again ts i))

pub settling_is_idempotent : SettlingIsIdempotent
settling_is_idempotent kind t = term_again kind t
