-- The methods of settled interface types differ by name.
use Rattle.std.proofs.Common.{◌≡◌, ℕ, Bool, true, false, ◌&&◌, ◌||◌, List, [], ◌∷◌, if◌then◌else◌, refl, subst}
use Rattle.go_decl_core.specs.declared.keys.DeclKey.{DeclKey}
use Rattle.go_tree_nodes.specs.text_core.Text.{is_blank}
use Rattle.go_term_core.specs.declared.term.MemberPlace.{MemberPlace}
use Rattle.go_term_core.specs.Terms.{Term, NoType, Predeclared, ErrorType, Defined, PointerTo, StructOf, InterfaceOf, Fields, NoField, AField, Methods, NoMethod, AMethod, Sign, SignOf, Terms, NoTerm, ATerm}
use Rattle.go_term_core.specs.Laws.{HasNone, IsApart, FieldsApart, MethodsApart, SignApart, TermsApart}
use Rattle.go_term_core.specs.declared.settling.kind.Kind.{Kind}
use Rattle.go_term_core.specs.declared.settling.kind.Kind.TheVariants as kinds
use Rattle.go_term_core.specs.settling.Settled.{can_be_embedded, pointer_to, defined_unless, is_among_names, repeats_earlier, settled, settled_fields, settled_methods, settled_sign, settled_terms}
use Rattle.go_term_core.specs.settling.Laws.{SettledIsApart}
use Rattle.go_term_core.proofs.SettlingNames.{has_first, has_later}

or_false_right : (a b : Bool) → (a || b) ≡ false → b ≡ false
or_false_right true b h = (cc)
or_false_right false b h = h

module _ (kind : DeclKey → Kind) where
  key_apart : (k : DeclKey) (v : Kind) → IsApart (defined_unless v k)
  key_apart k kinds.Nothing = tt
  key_apart k kinds.Pointer = tt
  key_apart k kinds.Interface = tt
  key_apart k kinds.Other = tt

  pointer_apart : (t : Term) → IsApart t → IsApart (pointer_to t)
  pointer_apart NoType h = tt
  pointer_apart (Predeclared b) h = tt
  pointer_apart ErrorType h = tt
  pointer_apart (Defined k) h = tt
  pointer_apart (PointerTo t) h = h
  pointer_apart (StructOf path fs) h = h
  pointer_apart (InterfaceOf path ms) h = h

  -- a name that was seen is kept no more
  none_step : (seen : List (List ℕ)) (name other : List ℕ) (place : MemberPlace) (g : Sign) (ms : Methods) → is_among_names seen name ≡ true
      → HasNone name (settled_methods kind seen ms) → HasNone name (settled_methods kind (other ∷ seen) ms)
      → (b : Bool) → (is_blank other || is_among_names seen other) ≡ b
      → HasNone name (if b then settled_methods kind seen ms else AMethod other place (settled_sign kind g) (settled_methods kind (other ∷ seen) ms))
  none_step seen name other place g ms there without rest true e = without
  none_step seen name other place g ms there without rest false e = (
    λ same.
        let P : List ℕ → Type 0 = λ x. is_among_names seen x ≡ true in
        let is : is_among_names seen other ≡ true = subst P same there in
        let not' = or_false_right (is_blank other) (is_among_names seen other) e in
        cc,
    rest,
  )

  pub none_of : (ms : Methods) (seen : List (List ℕ)) (name : List ℕ) → is_among_names seen name ≡ true → HasNone name (settled_methods kind seen ms)
  none_of NoMethod seen name there = tt
  none_of (AMethod other place g ms) seen name there =
      none_step seen name other place g ms there (none_of ms seen name there) (none_of ms (other ∷ seen) name (has_later other name seen there)) (is_blank other || is_among_names seen other) refl

  fields_if : (f fs : Fields) (b : Bool) → FieldsApart f → FieldsApart fs → FieldsApart (if b then f else fs)
  fields_if f fs true h k = h
  fields_if f fs false h k = k

  methods_if : (m ms : Methods) (b : Bool) → MethodsApart m → MethodsApart ms → MethodsApart (if b then m else ms)
  methods_if m ms true h k = h
  methods_if m ms false h k = k

  mutual
    term_apart : (t : Term) → IsApart (settled kind t)
    term_apart NoType = tt
    term_apart (Predeclared b) = tt
    term_apart ErrorType = tt
    term_apart (Defined k) = key_apart k (kind k)
    term_apart (PointerTo t) = pointer_apart (settled kind t) (term_apart t)
    term_apart (StructOf path fs) = fields_apart fs []
    term_apart (InterfaceOf path ms) = methods_apart ms []

    fields_apart : (fs : Fields) (seen : List (List ℕ)) → FieldsApart (settled_fields kind seen fs)
    fields_apart NoField seen = tt
    fields_apart (AField name place embedded t tag fs) seen =
        fields_if (settled_fields kind seen fs) (AField name place (embedded && can_be_embedded kind t) (settled kind t) tag (settled_fields kind (name ∷ seen) fs)) (repeats_earlier seen name)
        (fields_apart fs seen) (term_apart t, fields_apart fs (name ∷ seen))

    methods_apart : (ms : Methods) (seen : List (List ℕ)) → MethodsApart (settled_methods kind seen ms)
    methods_apart NoMethod seen = tt
    methods_apart (AMethod name place g ms) seen =
        methods_if (settled_methods kind seen ms) (AMethod name place (settled_sign kind g) (settled_methods kind (name ∷ seen) ms)) (is_blank name || is_among_names seen name)
        (methods_apart ms seen) (none_of ms (name ∷ seen) name (has_first name seen), sign_apart g, methods_apart ms (name ∷ seen))

    sign_apart : (g : Sign) → SignApart (settled_sign kind g)
    sign_apart (SignOf ps rs) = (terms_apart ps, terms_apart rs)

    terms_apart : (ts : Terms) → TermsApart (settled_terms kind ts)
    terms_apart NoTerm = tt
    terms_apart (ATerm t ts) = (term_apart t, terms_apart ts)

pub settled_is_apart : SettledIsApart
settled_is_apart kind t = term_apart kind t
