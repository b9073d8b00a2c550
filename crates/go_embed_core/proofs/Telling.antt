-- Laws of faults.
use Rattle.std.proofs.Common.{◌≡◌, ℕ, zero, suc, ◌<◌, Bool, true, false, not, ◌&&◌, ◌||◌, List, [], ◌∷◌, ◌++◌, if◌then◌else◌, inl, inr, refl, sym, ap, ◌∙◌, subst, arith}
use Rattle.std.specs.Prelude.{◌⊎◌, Contains, Option, None}
use Rattle.std.specs.Str.{bytes_eq}
use Rattle.std.proofs.lemmas.Bool.{true≢false, and_parts, and_from, not-true, not_from_false}
use Rattle.std.proofs.lemmas.List.Elements.{Contains-append_left, Contains-append_right, Contains-append_cases}
use Rattle.std.proofs.lemmas.Slice.Eq.{bytes_eq-Decides}
use denote.Enum.Bare.{sameb}
use Rattle.go_collections_core.specs.text_core.Text.{is_blank}
use Rattle.go_collections_core.specs.text_core.declared.rule.Rule.{Rule}
use Rattle.go_collections_core.specs.text_core.declared.rule.Rule.TheVariants as rules
use Rattle.go_collections_core.specs.text_core.contracts.rule.Rule as rule_type
use Rattle.go_term_core.specs.decl_core.declared.keys.DeclKey.{DeclKey}
use Rattle.go_term_core.specs.declared.term.MemberPlace.{MemberPlace}
use Rattle.go_term_core.specs.Terms.{Term, NoType, Predeclared, ErrorType, Defined, PointerTo, StructOf, InterfaceOf, Fields, NoField, AField, Methods, NoMethod, AMethod, Sign, SignOf, Terms, NoTerm, ATerm, term_keys, fields_keys, methods_keys, sign_keys, terms_keys}
use Rattle.go_term_core.specs.declared.settling.kind.Kind.{Kind}
use Rattle.go_term_core.specs.declared.settling.kind.Kind.TheVariants as kinds
use Rattle.go_term_core.specs.settling.Settled.{is_no_pointer, can_be_pointed, can_point, can_be_embedded, is_among_names, repeats_earlier}
use Rattle.go_embed_core.specs.declared.faults.MemberFault.{MemberFault}
use Rattle.go_embed_core.specs.Faults.{member_fault, member_fault_if, first_place, is_shared, term_faults, fields_faults, methods_faults, sign_faults, terms_faults, line_faults}
use Rattle.go_embed_core.specs.Laws.{IsField, FaultsAreLocal, term_places, fields_places, methods_places, sign_places, terms_places, line_places, AreApart, IsRepeated, RepeatedIsTold, written_kind, MayNotBeEmbedded, StarredInterfaceIsTold}
use Rattle.go_embed_core.proofs.Steps.{is_first, is_later, in_none, in_one, first_or_later}

-- 1. Faults depend on kinds that are mentioned.

abbrev Agree : (DeclKey → Kind) → (DeclKey → Kind) → List DeclKey → Type 0
Agree one other keys = (k : DeclKey) → Contains keys k → one k ≡ other k

agree_left : (one other : DeclKey → Kind) (a b : List DeclKey) → Agree one other (a ++ b) → Agree one other a
agree_left one other a b h = λ k c. h k (Contains-append_left a b k c)

agree_right : (one other : DeclKey → Kind) (a b : List DeclKey) → Agree one other (a ++ b) → Agree one other b
agree_right one other a b h = λ k c. h k (Contains-append_right a b k c)

point_local : (one other : DeclKey → Kind) (t : Term) → Agree one other (term_keys t) → can_point one t ≡ can_point other t
point_local one other NoType h = refl
point_local one other (Predeclared b) h = refl
point_local one other ErrorType h = refl
point_local one other (Defined k) h = ap can_be_pointed (h k (is_first k k [] refl))
point_local one other (PointerTo t) h = refl
point_local one other (StructOf path fs) h = refl
point_local one other (InterfaceOf path ms) h = refl

embed_local : (one other : DeclKey → Kind) (t : Term) → Agree one other (term_keys t) → can_be_embedded one t ≡ can_be_embedded other t
embed_local one other NoType h = refl
embed_local one other (Predeclared b) h = refl
embed_local one other ErrorType h = refl
embed_local one other (Defined k) h = ap is_no_pointer (h k (is_first k k [] refl))
embed_local one other (PointerTo t) h = point_local one other t h
embed_local one other (StructOf path fs) h = refl
embed_local one other (InterfaceOf path ms) h = refl

-- the faults of a type behind another, from its own
abbrev line_of_faults : Option MemberPlace → Term → List MemberFault → List MemberFault
line_of_faults last t l = if is_shared last t then [] else l

mutual
  term_local : (one other : DeclKey → Kind) (t : Term) → Agree one other (term_keys t) → term_faults one t ≡ term_faults other t
  term_local one other NoType h = refl
  term_local one other (Predeclared b) h = refl
  term_local one other ErrorType h = refl
  term_local one other (Defined k) h = refl
  term_local one other (PointerTo t) h = term_local one other t h
  term_local one other (StructOf path fs) h = fields_local one other [] None fs h
  term_local one other (InterfaceOf path ms) h = methods_local one other [] ms h

  fields_local : (one other : DeclKey → Kind) (seen : List (List ℕ)) (last : Option MemberPlace) (fs : Fields) → Agree one other (fields_keys fs) → fields_faults one seen last fs ≡ fields_faults other seen last fs
  fields_local one other seen last NoField h = refl
  fields_local one other seen last (AField name place embedded t tag fs) h =
      ap (λ c. member_fault_if (repeats_earlier seen name) place rules.B5 ++ (member_fault_if (embedded && not c) place rules.Y2 ++ (line_faults one last t ++ fields_faults one (name ∷ seen) (first_place t) fs))) (embed_local one other t (agree_left one other (term_keys t) (fields_keys fs) h))
      ∙ (ap (λ l. member_fault_if (repeats_earlier seen name) place rules.B5 ++ (member_fault_if (embedded && not (can_be_embedded other t)) place rules.Y2 ++ (line_of_faults last t l ++ fields_faults one (name ∷ seen) (first_place t) fs))) (term_local one other t (agree_left one other (term_keys t) (fields_keys fs) h))
      ∙ ap (λ l. member_fault_if (repeats_earlier seen name) place rules.B5 ++ (member_fault_if (embedded && not (can_be_embedded other t)) place rules.Y2 ++ (line_faults other last t ++ l))) (fields_local one other (name ∷ seen) (first_place t) fs (agree_right one other (term_keys t) (fields_keys fs) h)))

  methods_local : (one other : DeclKey → Kind) (seen : List (List ℕ)) (ms : Methods) → Agree one other (methods_keys ms) → methods_faults one seen ms ≡ methods_faults other seen ms
  methods_local one other seen NoMethod h = refl
  methods_local one other seen (AMethod name place g ms) h =
      ap (λ l. member_fault_if (is_blank name || is_among_names seen name) place rules.B5 ++ (l ++ methods_faults one (name ∷ seen) ms)) (sign_local one other g (agree_left one other (sign_keys g) (methods_keys ms) h))
      ∙ ap (λ l. member_fault_if (is_blank name || is_among_names seen name) place rules.B5 ++ (sign_faults other g ++ l)) (methods_local one other (name ∷ seen) ms (agree_right one other (sign_keys g) (methods_keys ms) h))

  sign_local : (one other : DeclKey → Kind) (g : Sign) → Agree one other (sign_keys g) → sign_faults one g ≡ sign_faults other g
  sign_local one other (SignOf ps rs) h =
      ap (λ l. l ++ terms_faults one None rs) (terms_local one other None ps (agree_left one other (terms_keys ps) (terms_keys rs) h))
      ∙ ap (λ l. terms_faults other None ps ++ l) (terms_local one other None rs (agree_right one other (terms_keys ps) (terms_keys rs) h))

  terms_local : (one other : DeclKey → Kind) (last : Option MemberPlace) (ts : Terms) → Agree one other (terms_keys ts) → terms_faults one last ts ≡ terms_faults other last ts
  terms_local one other last NoTerm h = refl
  terms_local one other last (ATerm t ts) h =
      ap (λ l. line_of_faults last t l ++ terms_faults one (first_place t) ts) (term_local one other t (agree_left one other (term_keys t) (terms_keys ts) h))
      ∙ ap (λ l. line_faults other last t ++ l) (terms_local one other (first_place t) ts (agree_right one other (term_keys t) (terms_keys ts) h))

pub faults_local : FaultsAreLocal
faults_local one other t h = term_local one other t h

-- 2. A fault stands at the place of a member.

pub fault_in : (b : Bool) (p : MemberPlace) (r : Rule) (f : MemberFault) → Contains (member_fault_if b p r) f → (b ≡ true) × (member_fault p r ≡ f)
fault_in true p r f h = (refl, in_one (member_fault p r) f h)
fault_in false p r f h = absurd (in_none f h)

pub place_in : (b : Bool) (p : MemberPlace) (r : Rule) (f : MemberFault) → Contains (member_fault_if b p r) f → p ≡ f.place
place_in b p r f h = ap (λ (x : MemberFault). x.place) (fault_in b p r f h).1

-- what is in a list that may be left out
line_in : (b : Bool) (l : List MemberFault) (places : List MemberPlace) (f : MemberFault) → (Contains l f → Contains places f.place) → Contains (if b then [] else l) f → Contains (if b then [] else places) f.place
line_in true l places f inside h = absurd (in_none f h)
line_in false l places f inside h = inside h

mutual
  pub term_at : (kind : DeclKey → Kind) (t : Term) (f : MemberFault) → Contains (term_faults kind t) f → Contains (term_places t) f.place
  term_at kind NoType f h = absurd (in_none f h)
  term_at kind (Predeclared b) f h = absurd (in_none f h)
  term_at kind ErrorType f h = absurd (in_none f h)
  term_at kind (Defined k) f h = absurd (in_none f h)
  term_at kind (PointerTo t) f h = term_at kind t f h
  term_at kind (StructOf path fs) f h = fields_at kind [] None fs f h
  term_at kind (InterfaceOf path ms) f h = methods_at kind [] ms f h

  pub fields_at : (kind : DeclKey → Kind) (seen : List (List ℕ)) (last : Option MemberPlace) (fs : Fields) (f : MemberFault) → Contains (fields_faults kind seen last fs) f → Contains (fields_places last fs) f.place
  fields_at kind seen last NoField f h = absurd (in_none f h)
  fields_at kind seen last (AField name place embedded t tag fs) f h =
      elim (Contains-append_cases (member_fault_if (repeats_earlier seen name) place rules.B5) (member_fault_if (embedded && not (can_be_embedded kind t)) place rules.Y2 ++ (line_faults kind last t ++ fields_faults kind (name ∷ seen) (first_place t) fs)) f h) [
        | inl b5 ↦ is_first place f.place (line_places last t ++ fields_places (first_place t) fs) (place_in (repeats_earlier seen name) place rules.B5 f b5)
        | inr more ↦ elim (Contains-append_cases (member_fault_if (embedded && not (can_be_embedded kind t)) place rules.Y2) (line_faults kind last t ++ fields_faults kind (name ∷ seen) (first_place t) fs) f more) [
          | inl y2 ↦ is_first place f.place (line_places last t ++ fields_places (first_place t) fs) (place_in (embedded && not (can_be_embedded kind t)) place rules.Y2 f y2)
          | inr inner ↦ is_later place f.place (line_places last t ++ fields_places (first_place t) fs) (elim (Contains-append_cases (line_faults kind last t) (fields_faults kind (name ∷ seen) (first_place t) fs) f inner) [
            | inl own ↦ Contains-append_left (line_places last t) (fields_places (first_place t) fs) f.place (line_in (is_shared last t) (term_faults kind t) (term_places t) f (term_at kind t f) own)
            | inr rest ↦ Contains-append_right (line_places last t) (fields_places (first_place t) fs) f.place (fields_at kind (name ∷ seen) (first_place t) fs f rest)
          ])
        ]
      ]

  pub methods_at : (kind : DeclKey → Kind) (seen : List (List ℕ)) (ms : Methods) (f : MemberFault) → Contains (methods_faults kind seen ms) f → Contains (methods_places ms) f.place
  methods_at kind seen NoMethod f h = absurd (in_none f h)
  methods_at kind seen (AMethod name place g ms) f h =
      elim (Contains-append_cases (member_fault_if (is_blank name || is_among_names seen name) place rules.B5) (sign_faults kind g ++ methods_faults kind (name ∷ seen) ms) f h) [
        | inl b5 ↦ is_first place f.place (sign_places g ++ methods_places ms) (place_in (is_blank name || is_among_names seen name) place rules.B5 f b5)
        | inr more ↦ is_later place f.place (sign_places g ++ methods_places ms) (elim (Contains-append_cases (sign_faults kind g) (methods_faults kind (name ∷ seen) ms) f more) [
          | inl own ↦ Contains-append_left (sign_places g) (methods_places ms) f.place (sign_at kind g f own)
          | inr rest ↦ Contains-append_right (sign_places g) (methods_places ms) f.place (methods_at kind (name ∷ seen) ms f rest)
        ])
      ]

  pub sign_at : (kind : DeclKey → Kind) (g : Sign) (f : MemberFault) → Contains (sign_faults kind g) f → Contains (sign_places g) f.place
  sign_at kind (SignOf ps rs) f h =
      elim (Contains-append_cases (terms_faults kind None ps) (terms_faults kind None rs) f h) [
        | inl own ↦ Contains-append_left (terms_places None ps) (terms_places None rs) f.place (terms_at kind None ps f own)
        | inr rest ↦ Contains-append_right (terms_places None ps) (terms_places None rs) f.place (terms_at kind None rs f rest)
      ]

  pub terms_at : (kind : DeclKey → Kind) (last : Option MemberPlace) (ts : Terms) (f : MemberFault) → Contains (terms_faults kind last ts) f → Contains (terms_places last ts) f.place
  terms_at kind last NoTerm f h = absurd (in_none f h)
  terms_at kind last (ATerm t ts) f h =
      elim (Contains-append_cases (line_faults kind last t) (terms_faults kind (first_place t) ts) f h) [
        | inl own ↦ Contains-append_left (line_places last t) (terms_places (first_place t) ts) f.place (line_in (is_shared last t) (term_faults kind t) (term_places t) f (term_at kind t f) own)
        | inr rest ↦ Contains-append_right (line_places last t) (terms_places (first_place t) ts) f.place (terms_at kind (first_place t) ts f rest)
      ]

pub line_at : (kind : DeclKey → Kind) (last : Option MemberPlace) (t : Term) (f : MemberFault) → Contains (line_faults kind last t) f → Contains (line_places last t) f.place
line_at kind last t f h = line_in (is_shared last t) (term_faults kind t) (term_places t) f (term_at kind t f) h

-- 3. The faults at the place of one field of a struct type.

-- the place of a field
field_place : (last : Option MemberPlace) (fs : Fields) (i : ℕ) (name : List ℕ) (place : MemberPlace) (embedded : Bool) (t : Term) → IsField fs i name place embedded t → Contains (fields_places last fs) place
field_place last NoField i name place embedded t h = absurd h
field_place last (AField name' place' embedded' t' tag fs) zero name place embedded t h = is_first place' place (line_places last t' ++ fields_places (first_place t') fs) h.1
field_place last (AField name' place' embedded' t' tag fs) (suc i) name place embedded t h =
    is_later place' place (line_places last t' ++ fields_places (first_place t') fs) (Contains-append_right (line_places last t') (fields_places (first_place t') fs) place (field_place (first_place t') fs i name place embedded t h))

-- places that differ in a list differ in its parts, and the parts have none in common
pub apart_right : {X : Type 0} (a b : List X) → AreApart (a ++ b) → AreApart b
apart_right [] b h = h
apart_right (p ∷ a) b h = apart_right a b h.1

pub apart_cross : {X : Type 0} (a b : List X) (p : X) → AreApart (a ++ b) → Contains a p → Contains b p → ⊥
apart_cross [] b p h in_a in_b = in_none p in_a
apart_cross (q ∷ a) b p h in_a in_b =
    elim (first_or_later q p a in_a) [
      | inl same ↦ h.0 (Contains-append_right a b q (subst (Contains b) (sym same) in_b))
      | inr more ↦ apart_cross a b p h.1 more in_b
    ]

-- the names before a field, the last first, behind others
abbrev names_before : List (List ℕ) → Fields → ℕ → List (List ℕ)
names_before seen NoField i = seen
names_before seen (AField name place embedded t tag fs) zero = seen
names_before seen (AField name place embedded t tag fs) (suc i) = names_before (name ∷ seen) fs i

-- the faults of a field beside those of its type
abbrev own_faults : (DeclKey → Kind) → List (List ℕ) → List ℕ → MemberPlace → Bool → Term → List MemberFault
own_faults kind before name place embedded t = member_fault_if (repeats_earlier before name) place rules.B5 ++ member_fault_if (embedded && not (can_be_embedded kind t)) place rules.Y2

own_in : (kind : DeclKey → Kind) (seen : List (List ℕ)) (last : Option MemberPlace) (name : List ℕ) (place : MemberPlace) (embedded : Bool) (t : Term) (fs : Fields) (f : MemberFault)
    → Contains (member_fault_if (repeats_earlier seen name) place rules.B5 ++ (member_fault_if (embedded && not (can_be_embedded kind t)) place rules.Y2 ++ (line_faults kind last t ++ fields_faults kind (name ∷ seen) (first_place t) fs))) f
    → Contains (own_faults kind seen name place embedded t) f ⊎ Contains (line_faults kind last t ++ fields_faults kind (name ∷ seen) (first_place t) fs) f
own_in kind seen last name place embedded t fs f h =
    let b5 = member_fault_if (repeats_earlier seen name) place rules.B5 in
    let y2 = member_fault_if (embedded && not (can_be_embedded kind t)) place rules.Y2 in
    let inner = line_faults kind last t ++ fields_faults kind (name ∷ seen) (first_place t) fs in
    elim (Contains-append_cases b5 (y2 ++ inner) f h) [
      | inl one ↦ inl (Contains-append_left b5 y2 f one)
      | inr more ↦ elim (Contains-append_cases y2 inner f more) [ inl two ↦ inl (Contains-append_right b5 y2 f two) | inr rest ↦ inr rest ]
    ]

own_out : (kind : DeclKey → Kind) (seen : List (List ℕ)) (last : Option MemberPlace) (name : List ℕ) (place : MemberPlace) (embedded : Bool) (t : Term) (fs : Fields) (f : MemberFault) → Contains (own_faults kind seen name place embedded t) f
    → Contains (member_fault_if (repeats_earlier seen name) place rules.B5 ++ (member_fault_if (embedded && not (can_be_embedded kind t)) place rules.Y2 ++ (line_faults kind last t ++ fields_faults kind (name ∷ seen) (first_place t) fs))) f
own_out kind seen last name place embedded t fs f h =
    let b5 = member_fault_if (repeats_earlier seen name) place rules.B5 in
    let y2 = member_fault_if (embedded && not (can_be_embedded kind t)) place rules.Y2 in
    let inner = line_faults kind last t ++ fields_faults kind (name ∷ seen) (first_place t) fs in
    elim (Contains-append_cases b5 y2 f h) [
      | inl one ↦ Contains-append_left b5 (y2 ++ inner) f one
      | inr two ↦ Contains-append_right b5 (y2 ++ inner) f (Contains-append_left y2 inner f two)
    ]

-- an own fault stands at the field's place
pub own_place : (kind : DeclKey → Kind) (seen : List (List ℕ)) (name : List ℕ) (place : MemberPlace) (embedded : Bool) (t : Term) (f : MemberFault) → Contains (own_faults kind seen name place embedded t) f → place ≡ f.place
own_place kind seen name place embedded t f h =
    elim (Contains-append_cases (member_fault_if (repeats_earlier seen name) place rules.B5) (member_fault_if (embedded && not (can_be_embedded kind t)) place rules.Y2) f h) [
      | inl one ↦ place_in (repeats_earlier seen name) place rules.B5 f one
      | inr two ↦ place_in (embedded && not (can_be_embedded kind t)) place rules.Y2 f two
    ]

pub inner_place : (kind : DeclKey → Kind) (seen : List (List ℕ)) (last next : Option MemberPlace) (t : Term) (fs : Fields) (f : MemberFault) → Contains (line_faults kind last t ++ fields_faults kind seen next fs) f
    → Contains (line_places last t ++ fields_places next fs) f.place
inner_place kind seen last next t fs f h =
    elim (Contains-append_cases (line_faults kind last t) (fields_faults kind seen next fs) f h) [
      | inl own ↦ Contains-append_left (line_places last t) (fields_places next fs) f.place (line_at kind last t f own)
      | inr rest ↦ Contains-append_right (line_places last t) (fields_places next fs) f.place (fields_at kind seen next fs f rest)
    ]

told : (kind : DeclKey → Kind) (seen : List (List ℕ)) (last : Option MemberPlace) (fs : Fields) (i : ℕ) (name : List ℕ) (place : MemberPlace) (embedded : Bool) (t : Term) (r : Rule) → AreApart (fields_places last fs)
    → IsField fs i name place embedded t → Contains (fields_faults kind seen last fs) (member_fault place r) → Contains (own_faults kind (names_before seen fs i) name place embedded t) (member_fault place r)
told kind seen last NoField i name place embedded t r apart field h = absurd field
told kind seen last (AField name' place' embedded' t' tag fs) zero name place embedded t r apart field h =
    elim (own_in kind seen last name' place' embedded' t' fs (member_fault place r) h) [
      | inl own ↦ subst (λ (u : Term). Contains (own_faults kind seen name place embedded u) (member_fault place r)) field.3
          (subst (λ (b : Bool). Contains (own_faults kind seen name place b t') (member_fault place r)) field.2
          (subst (λ (p : MemberPlace). Contains (own_faults kind seen name p embedded' t') (member_fault place r)) field.1
          (subst (λ (n : List ℕ). Contains (own_faults kind seen n place' embedded' t') (member_fault place r)) field.0 own)))
      | inr inner ↦ absurd (apart.0 (subst (Contains (line_places last t' ++ fields_places (first_place t') fs)) (sym field.1) (inner_place kind (name' ∷ seen) last (first_place t') t' fs (member_fault place r) inner)))
    ]
told kind seen last (AField name' place' embedded' t' tag fs) (suc i) name place embedded t r apart field h =
    let there : Contains (fields_places (first_place t') fs) place = field_place (first_place t') fs i name place embedded t field in
    elim (own_in kind seen last name' place' embedded' t' fs (member_fault place r) h) [
      | inl own ↦ absurd (apart.0 (subst (Contains (line_places last t' ++ fields_places (first_place t') fs)) (sym (own_place kind seen name' place' embedded' t' (member_fault place r) own)) (Contains-append_right (line_places last t') (fields_places (first_place t') fs) place there)))
      | inr inner ↦ elim (Contains-append_cases (line_faults kind last t') (fields_faults kind (name' ∷ seen) (first_place t') fs) (member_fault place r) inner) [
        | inl deep ↦ absurd (apart_cross (line_places last t') (fields_places (first_place t') fs) place apart.1 (line_at kind last t' (member_fault place r) deep) there)
        | inr rest ↦ told kind (name' ∷ seen) (first_place t') fs i name place embedded t r (apart_right (line_places last t') (fields_places (first_place t') fs) apart.1) field rest
      ]
    ]

telling : (kind : DeclKey → Kind) (seen : List (List ℕ)) (last : Option MemberPlace) (fs : Fields) (i : ℕ) (name : List ℕ) (place : MemberPlace) (embedded : Bool) (t : Term) (f : MemberFault) → IsField fs i name place embedded t
    → Contains (own_faults kind (names_before seen fs i) name place embedded t) f → Contains (fields_faults kind seen last fs) f
telling kind seen last NoField i name place embedded t f field h = absurd field
telling kind seen last (AField name' place' embedded' t' tag fs) zero name place embedded t f field h =
    own_out kind seen last name' place' embedded' t' fs f
    (subst (λ (n : List ℕ). Contains (own_faults kind seen n place' embedded' t') f) (sym field.0)
    (subst (λ (p : MemberPlace). Contains (own_faults kind seen name p embedded' t') f) (sym field.1)
    (subst (λ (b : Bool). Contains (own_faults kind seen name place b t') f) (sym field.2)
    (subst (λ (u : Term). Contains (own_faults kind seen name place embedded u) f) (sym field.3) h))))
telling kind seen last (AField name' place' embedded' t' tag fs) (suc i) name place embedded t f field h =
    let rest = telling kind (name' ∷ seen) (first_place t') fs i name place embedded t f field h in
    let b5 = member_fault_if (repeats_earlier seen name') place' rules.B5 in
    let y2 = member_fault_if (embedded' && not (can_be_embedded kind t')) place' rules.Y2 in
    let inner = line_faults kind last t' in
    let others = fields_faults kind (name' ∷ seen) (first_place t') fs in
    Contains-append_right b5 (y2 ++ (inner ++ others)) f (Contains-append_right y2 (inner ++ others) f (Contains-append_right inner others f rest))

-- 4. B5 and Y2 are two rules.

pub rules_differ : rules.B5 ≡ rules.Y2 → ⊥
rules_differ e = true≢false (ap (sameb rule_type.the_type rules.B5) e)

own_b5 : (b c : Bool) (p : MemberPlace) → Contains (member_fault_if b p rules.B5 ++ member_fault_if c p rules.Y2) (member_fault p rules.B5) → b ≡ true
own_b5 b c p h =
    elim (Contains-append_cases (member_fault_if b p rules.B5) (member_fault_if c p rules.Y2) (member_fault p rules.B5) h) [
      | inl one ↦ (fault_in b p rules.B5 (member_fault p rules.B5) one).0
      | inr two ↦ absurd (rules_differ (sym (ap (λ (x : MemberFault). x.rule) (fault_in c p rules.Y2 (member_fault p rules.B5) two).1)))
    ]

own_y2 : (b c : Bool) (p : MemberPlace) → Contains (member_fault_if b p rules.B5 ++ member_fault_if c p rules.Y2) (member_fault p rules.Y2) → c ≡ true
own_y2 b c p h =
    elim (Contains-append_cases (member_fault_if b p rules.B5) (member_fault_if c p rules.Y2) (member_fault p rules.Y2) h) [
      | inl one ↦ absurd (rules_differ (ap (λ (x : MemberFault). x.rule) (fault_in b p rules.B5 (member_fault p rules.Y2) one).1))
      | inr two ↦ (fault_in c p rules.Y2 (member_fault p rules.Y2) two).0
    ]

pub noted : (b : Bool) (p : MemberPlace) (r : Rule) → b ≡ true → Contains (member_fault_if b p r) (member_fault p r)
noted true p r e = is_first (member_fault p r) (member_fault p r) [] refl
noted false p r e = absurd (true≢false (sym e))

-- 5. Which names repeat.

abbrev IsEarlier : Fields → ℕ → List ℕ → Type 0
IsEarlier fs i name = (j : ℕ) × (place : MemberPlace) × (embedded : Bool) × (t : Term) × (j < i) × IsField fs j name place embedded t

if_cases : (c b : Bool) → (if c then true else b) ≡ true → (c ≡ true) ⊎ (b ≡ true)
if_cases true b h = inl refl
if_cases false b h = inr h

if_right : (c b : Bool) → b ≡ true → (if c then true else b) ≡ true
if_right true b h = refl
if_right false b h = h

earlier_of : (seen : List (List ℕ)) (fs : Fields) (i : ℕ) (name : List ℕ) → is_among_names (names_before seen fs i) name ≡ true → (is_among_names seen name ≡ true) ⊎ IsEarlier fs i name
earlier_of seen NoField i name h = inl h
earlier_of seen (AField name' place' embedded' t' tag fs) zero name h = inl h
earlier_of seen (AField name' place' embedded' t' tag fs) (suc i) name h =
    elim (earlier_of (name' ∷ seen) fs i name h) [
      | inl had ↦ elim (if_cases (bytes_eq name' name) (is_among_names seen name) had) [
        | inl same ↦ inr (zero, place', embedded', t', (let lt : 0 < suc i = omega arith in lt), ((bytes_eq-Decides name' name).0 same, refl, refl, refl))
        | inr more ↦ inl more
      ]
      | inr e ↦ inr (suc e.0, e.1, e.2, e.3, (let before : e.0 < i = e.4 in let lt : suc e.0 < suc i = omega arith in lt), e.5)
    ]

seen_stays : (seen : List (List ℕ)) (fs : Fields) (i : ℕ) (name : List ℕ) → is_among_names seen name ≡ true → is_among_names (names_before seen fs i) name ≡ true
seen_stays seen NoField i name h = h
seen_stays seen (AField name' place' embedded' t' tag fs) zero name h = h
seen_stays seen (AField name' place' embedded' t' tag fs) (suc i) name h = seen_stays (name' ∷ seen) fs i name (if_right (bytes_eq name' name) (is_among_names seen name) h)

earlier_to : (seen : List (List ℕ)) (fs : Fields) (i j : ℕ) (name : List ℕ) (place : MemberPlace) (embedded : Bool) (t : Term) → j < i → IsField fs j name place embedded t → is_among_names (names_before seen fs i) name ≡ true
earlier_to seen NoField i j name place embedded t lt h = absurd h
earlier_to seen (AField name' place' embedded' t' tag fs) zero j name place embedded t lt h = absurd (omega arith)
earlier_to seen (AField name' place' embedded' t' tag fs) (suc i) zero name place embedded t lt h =
    seen_stays (name' ∷ seen) fs i name (ap (λ b. if b then true else is_among_names seen name) ((bytes_eq-Decides name' name).1 h.0))
earlier_to seen (AField name' place' embedded' t' tag fs) (suc i) (suc j) name place embedded t lt h = earlier_to (name' ∷ seen) fs i j name place embedded t (omega arith) h

repeated_from : (fs : Fields) (i : ℕ) (name : List ℕ) → repeats_earlier (names_before [] fs i) name ≡ true → IsRepeated fs i name
repeated_from fs i name h =
    let parts = and_parts (not (is_blank name)) (is_among_names (names_before [] fs i) name) h in
    (not-true (is_blank name) parts.0, elim (earlier_of [] fs i name parts.1) [ inl off ↦ absurd (true≢false (sym off)) | inr e ↦ e ])

repeated_to : (fs : Fields) (i : ℕ) (name : List ℕ) → IsRepeated fs i name → repeats_earlier (names_before [] fs i) name ≡ true
repeated_to fs i name h =
    and_from (not (is_blank name)) (is_among_names (names_before [] fs i) name) (not_from_false (is_blank name) h.0)
    (earlier_to [] fs i h.1.0 name h.1.1 h.1.2 h.1.3 h.1.4 h.1.5)

pub repeated_told : RepeatedIsTold
repeated_told kind path fs i name place embedded t apart field =
    let b5 = repeats_earlier (names_before [] fs i) name in
    let y2 = embedded && not (can_be_embedded kind t) in (
      λ h. repeated_from fs i name (own_b5 b5 y2 place (told kind [] None fs i name place embedded t rules.B5 apart field h)),
      λ h. telling kind [] None fs i name place embedded t (member_fault place rules.B5) field
          (Contains-append_left (member_fault_if b5 place rules.B5) (member_fault_if y2 place rules.Y2) (member_fault place rules.B5) (noted b5 place rules.B5 (repeated_to fs i name h))),
    )

-- 6. Which fields may not be embedded.

kind_refused : (k : Kind) → is_no_pointer k ≡ false → k ≡ kinds.Pointer
kind_refused kinds.Nothing h = absurd (true≢false h)
kind_refused kinds.Pointer h = refl
kind_refused kinds.Interface h = absurd (true≢false h)
kind_refused kinds.Other h = absurd (true≢false h)

kind_unpointed : (k : Kind) → can_be_pointed k ≡ false → (k ≡ kinds.Pointer) ⊎ (k ≡ kinds.Interface)
kind_unpointed kinds.Nothing h = absurd (true≢false h)
kind_unpointed kinds.Pointer h = inl refl
kind_unpointed kinds.Interface h = inr refl
kind_unpointed kinds.Other h = absurd (true≢false h)

-- `*T`
point_at : (kind : DeclKey → Kind) (t : Term) → can_point kind t ≡ can_be_pointed (written_kind kind t)
point_at kind NoType = refl
point_at kind (Predeclared b) = refl
point_at kind ErrorType = refl
point_at kind (Defined k) = refl
point_at kind (PointerTo t) = refl
point_at kind (StructOf path fs) = refl
point_at kind (InterfaceOf path ms) = refl

refused_from : (kind : DeclKey → Kind) (t : Term) → can_be_embedded kind t ≡ false → MayNotBeEmbedded kind t
refused_from kind NoType h = absurd (true≢false h)
refused_from kind (Predeclared b) h = absurd (true≢false h)
refused_from kind ErrorType h = absurd (true≢false h)
refused_from kind (Defined k) h = kind_refused (kind k) h
refused_from kind (PointerTo t) h = kind_unpointed (written_kind kind t) (sym (point_at kind t) ∙ h)
refused_from kind (StructOf path fs) h = absurd (true≢false h)
refused_from kind (InterfaceOf path ms) h = absurd (true≢false h)

refused_to : (kind : DeclKey → Kind) (t : Term) → MayNotBeEmbedded kind t → can_be_embedded kind t ≡ false
refused_to kind NoType h = absurd h
refused_to kind (Predeclared b) h = absurd h
refused_to kind ErrorType h = absurd h
refused_to kind (Defined k) h = ap is_no_pointer h
refused_to kind (PointerTo t) h = point_at kind t ∙ elim h [ inl p ↦ ap can_be_pointed p | inr i ↦ ap can_be_pointed i ]
refused_to kind (StructOf path fs) h = absurd h
refused_to kind (InterfaceOf path ms) h = absurd h

pub starred_told : StarredInterfaceIsTold
starred_told kind path fs i name place embedded t apart field =
    let b5 = repeats_earlier (names_before [] fs i) name in
    let y2 = embedded && not (can_be_embedded kind t) in (
      λ h. (let parts = and_parts embedded (not (can_be_embedded kind t)) (own_y2 b5 y2 place (told kind [] None fs i name place embedded t rules.Y2 apart field h)) in
          (parts.0, refused_from kind t (not-true (can_be_embedded kind t) parts.1))),
      λ h. telling kind [] None fs i name place embedded t (member_fault place rules.Y2) field
          (Contains-append_right (member_fault_if b5 place rules.B5) (member_fault_if y2 place rules.Y2) (member_fault place rules.Y2)
          (noted y2 place rules.Y2 (and_from embedded (not (can_be_embedded kind t)) h.0 (not_from_false (can_be_embedded kind t) (refused_to kind t h.1))))),
    )
