-- What a settled term mentions.
use Rattle.std.proofs.Common.{◌≡◌, ℕ, ◌<◌, inl, inr, Bool, true, false, ◌&&◌, ◌||◌, List, [], ◌∷◌, ◌++◌, if◌then◌else◌, refl, sym, ◌∙◌, subst, arith}
use Rattle.std.specs.List.{Contains}
use Rattle.std.proofs.lemmas.List.Elements.{Contains-append_left, Contains-append_right, Contains-append_cases, Contains-push_cases}
use Rattle.go_decl_core.specs.declared.keys.DeclKey.{DeclKey}
use Rattle.go_tree_nodes.specs.text_core.Text.{is_blank}
use Rattle.go_term_core.specs.Terms.{Term, NoType, Predeclared, ErrorType, Defined, PointerTo, StructOf, InterfaceOf, Fields, NoField, AField, Methods, NoMethod, AMethod, Sign, SignOf, Terms, NoTerm, ATerm, term_keys, fields_keys, methods_keys, sign_keys, terms_keys}
use Rattle.go_term_core.specs.declared.settling.kind.Kind.{Kind}
use Rattle.go_term_core.specs.declared.settling.kind.Kind.TheVariants as kinds
use Rattle.go_term_core.specs.settling.Settled.{can_be_embedded, pointer_to, defined_unless, is_among_names, repeats_earlier, settled, settled_fields, settled_methods, settled_sign, settled_terms}
use Rattle.go_term_core.specs.settling.Laws.{SettledMentionsWritten}

pub none_in : (k : DeclKey) → Contains [] k → ⊥
none_in k at = (let lt : at.0 < 0 = at.1 in omega arith)

module _ (kind : DeclKey → Kind) where
  -- each key of the one list is a type's, and a key of the other
  abbrev Mentions : List DeclKey → List DeclKey → Type 0
  Mentions ks js = (k : DeclKey) → Contains ks k → ((kind k ≡ kinds.Nothing) → ⊥) × Contains js k

  none_mentioned : (js : List DeclKey) → Mentions [] js
  none_mentioned js k at = absurd (none_in k at)

  only : (k : DeclKey) → ((kind k ≡ kinds.Nothing) → ⊥) → Mentions (k ∷ []) (k ∷ [])
  only k is j at = elim (Contains-push_cases [] k j at) [
    | inl none ↦ absurd (none_in j none)
    | inr same ↦ (let P : DeclKey → Type 0 = λ x. (kind x ≡ kinds.Nothing) → ⊥ in (subst P same is, at))
  ]

  joined : (ks js ks' js' : List DeclKey) → Mentions ks js → Mentions ks' js' → Mentions (ks ++ ks') (js ++ js')
  joined ks js ks' js' first rest k at = elim (Contains-append_cases ks ks' k at) [
    | inl a ↦ (let m = first k a in (m.0, Contains-append_left js js' k m.1))
    | inr a ↦ (let m = rest k a in (m.0, Contains-append_right js js' k m.1))
  ]

  later : (ks js js' : List DeclKey) → Mentions ks js' → Mentions ks (js ++ js')
  later ks js js' rest k at = (let m = rest k at in (m.0, Contains-append_right js js' k m.1))

  key_mentioned : (k : DeclKey) (v : Kind) → kind k ≡ v → Mentions (term_keys (defined_unless v k)) (k ∷ [])
  key_mentioned k kinds.Nothing e = none_mentioned (k ∷ [])
  key_mentioned k kinds.Pointer e = only k (λ h. let two = sym e ∙ h in cc)
  key_mentioned k kinds.Interface e = only k (λ h. let two = sym e ∙ h in cc)
  key_mentioned k kinds.Other e = only k (λ h. let two = sym e ∙ h in cc)

  pointer_keys : (t : Term) → term_keys (pointer_to t) ≡ term_keys t
  pointer_keys NoType = refl
  pointer_keys (Predeclared b) = refl
  pointer_keys ErrorType = refl
  pointer_keys (Defined k) = refl
  pointer_keys (PointerTo t) = refl
  pointer_keys (StructOf path fs) = refl
  pointer_keys (InterfaceOf path ms) = refl

  fields_if : (f fs : Fields) (js : List DeclKey) (b : Bool) → Mentions (fields_keys f) js → Mentions (fields_keys fs) js → Mentions (fields_keys (if b then f else fs)) js
  fields_if f fs js true h k = h
  fields_if f fs js false h k = k

  methods_if : (m ms : Methods) (js : List DeclKey) (b : Bool) → Mentions (methods_keys m) js → Mentions (methods_keys ms) js → Mentions (methods_keys (if b then m else ms)) js
  methods_if m ms js true h k = h
  methods_if m ms js false h k = k

  mutual
    term_mentions : (t : Term) → Mentions (term_keys (settled kind t)) (term_keys t)
    term_mentions NoType = none_mentioned []
    term_mentions (Predeclared b) = none_mentioned []
    term_mentions ErrorType = none_mentioned []
    term_mentions (Defined k) = key_mentioned k (kind k) refl
    term_mentions (PointerTo t) = (let P : List DeclKey → Type 0 = λ ks. Mentions ks (term_keys t) in subst P (sym (pointer_keys (settled kind t))) (term_mentions t))
    term_mentions (StructOf path fs) = fields_mention fs []
    term_mentions (InterfaceOf path ms) = methods_mention ms []

    fields_mention : (fs : Fields) (seen : List (List ℕ)) → Mentions (fields_keys (settled_fields kind seen fs)) (fields_keys fs)
    fields_mention NoField seen = none_mentioned []
    fields_mention (AField name place embedded t tag fs) seen =
        let u : Term = settled kind t in
        let without : Fields = settled_fields kind seen fs in
        let rest : Fields = settled_fields kind (name ∷ seen) fs in
        fields_if without (AField name place (embedded && can_be_embedded kind t) u tag rest) (term_keys t ++ fields_keys fs) (repeats_earlier seen name)
        (later (fields_keys without) (term_keys t) (fields_keys fs) (fields_mention fs seen))
        (joined (term_keys u) (term_keys t) (fields_keys rest) (fields_keys fs) (term_mentions t) (fields_mention fs (name ∷ seen)))

    methods_mention : (ms : Methods) (seen : List (List ℕ)) → Mentions (methods_keys (settled_methods kind seen ms)) (methods_keys ms)
    methods_mention NoMethod seen = none_mentioned []
    methods_mention (AMethod name place g ms) seen =
        let h : Sign = settled_sign kind g in
        let without : Methods = settled_methods kind seen ms in
        let rest : Methods = settled_methods kind (name ∷ seen) ms in
        methods_if without (AMethod name place h rest) (sign_keys g ++ methods_keys ms) (is_blank name || is_among_names seen name)
        (later (methods_keys without) (sign_keys g) (methods_keys ms) (methods_mention ms seen))
        (joined (sign_keys h) (sign_keys g) (methods_keys rest) (methods_keys ms) (sign_mentions g) (methods_mention ms (name ∷ seen)))

    pub sign_mentions : (g : Sign) → Mentions (sign_keys (settled_sign kind g)) (sign_keys g)
    sign_mentions (SignOf ps rs) = joined (terms_keys (settled_terms kind ps)) (terms_keys ps) (terms_keys (settled_terms kind rs)) (terms_keys rs) (terms_mention ps) (terms_mention rs)

    terms_mention : (ts : Terms) → Mentions (terms_keys (settled_terms kind ts)) (terms_keys ts)
    terms_mention NoTerm = none_mentioned []
    terms_mention (ATerm t ts) = joined (term_keys (settled kind t)) (term_keys t) (terms_keys (settled_terms kind ts)) (terms_keys ts) (term_mentions t) (terms_mention ts)

pub settled_mentions_written : SettledMentionsWritten
settled_mentions_written kind t k at = term_mentions kind t k at
