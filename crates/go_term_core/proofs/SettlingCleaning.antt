-- What settling leaves is clean, and what is clean is left.
use Rattle.std.proofs.Common.{◌≡◌, ℕ, Bool, true, false, not, ◌&&◌, ◌||◌, List, [], ◌∷◌, if◌then◌else◌, refl, sym, ap, ◌∙◌}
use Rattle.std.specs.Str.{bytes_eq}
use Rattle.std.proofs.lemmas.Bool.{and_parts}
use Rattle.go_decl_core.specs.declared.keys.DeclKey.{DeclKey}
use Rattle.go_tree_nodes.specs.text_core.Text.{is_blank}
use Rattle.go_term_core.specs.declared.term.MemberPlace.{MemberPlace}
use Rattle.go_term_core.specs.Terms.{Term, NoType, Predeclared, ErrorType, Defined, PointerTo, StructOf, InterfaceOf, Fields, NoField, AField, Methods, NoMethod, AMethod, Sign, SignOf, Terms, NoTerm, ATerm}
use Rattle.go_term_core.specs.Laws.{HasNone}
use Rattle.go_term_core.specs.declared.settling.kind.Kind.{Kind}
use Rattle.go_term_core.specs.declared.settling.kind.Kind.TheVariants as kinds
use Rattle.go_term_core.specs.settling.Settled.{can_be_embedded, pointer_to, defined_unless, is_among_names, repeats_earlier, settled, settled_fields, settled_methods, settled_sign, settled_terms}
use Rattle.go_term_core.specs.settling.Clean.{HasNoField, IsClean, FieldsClean, MethodsClean, SignClean, TermsClean, SettlingCleans}
use Rattle.go_term_core.proofs.SettlingNames.{bytes_same, has_first, has_later}
use Rattle.go_term_core.proofs.SettlingAgain.{embedded_again}
use Rattle.go_term_core.proofs.SettlingApart.{none_of}

-- what is clean is left

unless_some : (v : Kind) (k : DeclKey) → (v ≡ kinds.Nothing → ⊥) → defined_unless v k ≡ Defined k
unless_some kinds.Nothing k some = absurd (some refl)
unless_some kinds.Pointer k some = refl
unless_some kinds.Interface k some = refl
unless_some kinds.Other k some = refl

pointer_some : (t : Term) → (t ≡ NoType → ⊥) → pointer_to t ≡ PointerTo t
pointer_some NoType some = absurd (some refl)
pointer_some (Predeclared b) some = refl
pointer_some ErrorType some = refl
pointer_some (Defined k) some = refl
pointer_some (PointerTo t) some = refl
pointer_some (StructOf path fs) some = refl
pointer_some (InterfaceOf path ms) some = refl

-- no field repeats a name that was seen
abbrev NotSeen : List (List ℕ) → Fields → Type 0
NotSeen seen NoField = Unit {0}
NotSeen seen (AField name place embedded t tag fs) = (repeats_earlier seen name ≡ false) × NotSeen seen fs

one_field : (seen : List (List ℕ)) (name n : List ℕ) (b c : Bool) → bytes_eq name n ≡ b → is_blank n ≡ c → (is_blank name ≡ false → name ≡ n → ⊥) → repeats_earlier seen n ≡ false → not c && (if b then true else is_among_names seen n) ≡ false
one_field seen name n b true same blank apart was = refl
one_field seen name n true false same blank apart was = absurd (apart (ap is_blank (bytes_same name n same) ∙ blank) (bytes_same name n same))
one_field seen name n false false same blank apart was = ap (λ x. not x && is_among_names seen n) (sym blank) ∙ was

more_seen : (seen : List (List ℕ)) (name : List ℕ) (fs : Fields) → (is_blank name ≡ false → HasNoField name fs) → NotSeen seen fs → NotSeen (name ∷ seen) fs
more_seen seen name NoField apart was = tt
more_seen seen name (AField n place embedded t tag fs) apart was = (
  one_field seen name n (bytes_eq name n) (is_blank n) refl refl (λ blank. (apart blank).0) was.0,
  more_seen seen name fs (λ blank. (apart blank).1) was.1,
)

none_seen : (fs : Fields) → NotSeen [] fs
none_seen NoField = tt
none_seen (AField name place embedded t tag fs) = (by (is_blank name), none_seen fs)
  where
    by : (b : Bool) → not b && false ≡ false
    by true = refl
    by false = refl

-- no method has a name that was seen
abbrev NotIn : List (List ℕ) → Methods → Type 0
NotIn seen NoMethod = Unit {0}
NotIn seen (AMethod name place g ms) = (is_among_names seen name ≡ false) × NotIn seen ms

one_method : (seen : List (List ℕ)) (name n : List ℕ) (b : Bool) → bytes_eq name n ≡ b → (name ≡ n → ⊥) → is_among_names seen n ≡ false → (if b then true else is_among_names seen n) ≡ false
one_method seen name n true same apart was = absurd (apart (bytes_same name n same))
one_method seen name n false same apart was = was

more_in : (seen : List (List ℕ)) (name : List ℕ) (ms : Methods) → HasNone name ms → NotIn seen ms → NotIn (name ∷ seen) ms
more_in seen name NoMethod apart was = tt
more_in seen name (AMethod n place g ms) apart was = (one_method seen name n (bytes_eq name n) refl apart.0 was.0, more_in seen name ms apart.1 was.1)

none_in : (ms : Methods) → NotIn [] ms
none_in NoMethod = tt
none_in (AMethod name place g ms) = (refl, none_in ms)

and_kept : (e c : Bool) → (e ≡ true → c ≡ true) → e && c ≡ e
and_kept true c h = h refl
and_kept false c h = refl

module _ (kind : DeclKey → Kind) where
  mutual
    term_left : (t : Term) → IsClean kind t → settled kind t ≡ t
    term_left NoType clean = refl
    term_left (Predeclared b) clean = refl
    term_left ErrorType clean = refl
    term_left (Defined k) clean = unless_some (kind k) k clean
    term_left (PointerTo t) clean = ap pointer_to (term_left t clean.1) ∙ pointer_some t clean.0
    term_left (StructOf path fs) clean = ap (StructOf path) (fields_left fs [] (none_seen fs) clean)
    term_left (InterfaceOf path ms) clean = ap (InterfaceOf path) (methods_left ms [] (none_in ms) clean)

    fields_left : (fs : Fields) (seen : List (List ℕ)) → NotSeen seen fs → FieldsClean kind fs → settled_fields kind seen fs ≡ fs
    fields_left NoField seen was clean = refl
    fields_left (AField name place embedded t tag fs) seen was clean =
        let rest = fields_left fs (name ∷ seen) (more_seen seen name fs clean.1 was.1) clean.3 in
        let kept : Fields = AField name place (embedded && can_be_embedded kind t) (settled kind t) tag (settled_fields kind (name ∷ seen) fs) in
        ap (λ b. if b then settled_fields kind seen fs else kept) was.0
        ∙ (λ i. AField name place (and_kept embedded (can_be_embedded kind t) clean.0 i) (term_left t clean.2 i) tag (rest i))

    methods_left : (ms : Methods) (seen : List (List ℕ)) → NotIn seen ms → MethodsClean kind ms → settled_methods kind seen ms ≡ ms
    methods_left NoMethod seen was clean = refl
    methods_left (AMethod name place g ms) seen was clean =
        let rest = methods_left ms (name ∷ seen) (more_in seen name ms clean.1 was.1) clean.3 in
        let kept : Methods = AMethod name place (settled_sign kind g) (settled_methods kind (name ∷ seen) ms) in
        ap (λ b. if b || is_among_names seen name then settled_methods kind seen ms else kept) clean.0
        ∙ (ap (λ b. if b then settled_methods kind seen ms else kept) was.0
        ∙ (λ i. AMethod name place (sign_left g clean.2 i) (rest i)))

    sign_left : (g : Sign) → SignClean kind g → settled_sign kind g ≡ g
    sign_left (SignOf ps rs) clean = (λ i. SignOf (terms_left ps clean.0 i) (terms_left rs clean.1 i))

    terms_left : (ts : Terms) → TermsClean kind ts → settled_terms kind ts ≡ ts
    terms_left NoTerm clean = refl
    terms_left (ATerm t ts) clean = (λ i. ATerm (term_left t clean.0 i) (terms_left ts clean.1 i))

  -- what is left is clean

  key_clean : (k : DeclKey) (v : Kind) → kind k ≡ v → IsClean kind (defined_unless v k)
  key_clean k kinds.Nothing e = tt
  key_clean k kinds.Pointer e = (λ h. let two = sym e ∙ h in cc)
  key_clean k kinds.Interface e = (λ h. let two = sym e ∙ h in cc)
  key_clean k kinds.Other e = (λ h. let two = sym e ∙ h in cc)

  pointer_clean : (t : Term) → IsClean kind t → IsClean kind (pointer_to t)
  pointer_clean NoType h = tt
  pointer_clean (Predeclared b) h = ((λ e. cc), tt)
  pointer_clean ErrorType h = ((λ e. cc), tt)
  pointer_clean (Defined k) h = ((λ e. cc), h)
  pointer_clean (PointerTo t) h = ((λ e. cc), h)
  pointer_clean (StructOf path fs) h = ((λ e. cc), h)
  pointer_clean (InterfaceOf path ms) h = ((λ e. cc), h)

  -- a name that was seen is kept no more, unless it is blank
  no_field_step : (seen : List (List ℕ)) (name other : List ℕ) (place : MemberPlace) (embedded : Bool) (t : Term) (tag : List ℕ) (fs : Fields) → is_blank name ≡ false → is_among_names seen name ≡ true
      → HasNoField name (settled_fields kind seen fs) → HasNoField name (settled_fields kind (other ∷ seen) fs)
      → (b : Bool) → repeats_earlier seen other ≡ b
      → HasNoField name (if b then settled_fields kind seen fs else AField other place (embedded && can_be_embedded kind t) (settled kind t) tag (settled_fields kind (other ∷ seen) fs))
  no_field_step seen name other place embedded t tag fs blank there without rest true e = without
  no_field_step seen name other place embedded t tag fs blank there without rest false e = (
    λ same.
        let shown : repeats_earlier seen name ≡ true = ap (λ x. not x && is_among_names seen name) blank ∙ there in
        let both : true ≡ false = sym shown ∙ (ap (repeats_earlier seen) same ∙ e) in
        cc,
    rest,
  )

  no_field_of : (fs : Fields) (seen : List (List ℕ)) (name : List ℕ) → is_blank name ≡ false → is_among_names seen name ≡ true → HasNoField name (settled_fields kind seen fs)
  no_field_of NoField seen name blank there = tt
  no_field_of (AField other place embedded t tag fs) seen name blank there =
      no_field_step seen name other place embedded t tag fs blank there (no_field_of fs seen name blank there) (no_field_of fs (other ∷ seen) name blank (has_later other name seen there)) (repeats_earlier seen other) refl

  fields_if : (f fs : Fields) (b : Bool) → FieldsClean kind f → FieldsClean kind fs → FieldsClean kind (if b then f else fs)
  fields_if f fs true h k = h
  fields_if f fs false h k = k

  methods_if : (m ms : Methods) (b c : Bool) → MethodsClean kind m → (b ≡ false → MethodsClean kind ms) → MethodsClean kind (if b || c then m else ms)
  methods_if m ms true c h k = h
  methods_if m ms false true h k = h
  methods_if m ms false false h k = k refl

  mutual
    term_clean : (t : Term) → IsClean kind (settled kind t)
    term_clean NoType = tt
    term_clean (Predeclared b) = tt
    term_clean ErrorType = tt
    term_clean (Defined k) = key_clean k (kind k) refl
    term_clean (PointerTo t) = pointer_clean (settled kind t) (term_clean t)
    term_clean (StructOf path fs) = fields_clean fs []
    term_clean (InterfaceOf path ms) = methods_clean ms []

    fields_clean : (fs : Fields) (seen : List (List ℕ)) → FieldsClean kind (settled_fields kind seen fs)
    fields_clean NoField seen = tt
    fields_clean (AField name place embedded t tag fs) seen =
        fields_if (settled_fields kind seen fs) (AField name place (embedded && can_be_embedded kind t) (settled kind t) tag (settled_fields kind (name ∷ seen) fs)) (repeats_earlier seen name)
        (fields_clean fs seen) (
          (λ h. embedded_again kind t (and_parts embedded (can_be_embedded kind t) h).1),
          (λ blank. no_field_of fs (name ∷ seen) name blank (has_first name seen)),
          term_clean t,
          fields_clean fs (name ∷ seen),
        )

    methods_clean : (ms : Methods) (seen : List (List ℕ)) → MethodsClean kind (settled_methods kind seen ms)
    methods_clean NoMethod seen = tt
    methods_clean (AMethod name place g ms) seen =
        methods_if (settled_methods kind seen ms) (AMethod name place (settled_sign kind g) (settled_methods kind (name ∷ seen) ms)) (is_blank name) (is_among_names seen name)
        (methods_clean ms seen)
        (λ blank. (blank, none_of kind ms (name ∷ seen) name (has_first name seen), sign_clean g, methods_clean ms (name ∷ seen)))

    sign_clean : (g : Sign) → SignClean kind (settled_sign kind g)
    sign_clean (SignOf ps rs) = (terms_clean ps, terms_clean rs)

    terms_clean : (ts : Terms) → TermsClean kind (settled_terms kind ts)
    terms_clean NoTerm = tt
    terms_clean (ATerm t ts) = (term_clean t, terms_clean ts)

pub settling_cleans : SettlingCleans
settling_cleans = record { cleans = term_clean; keeps = term_left }
