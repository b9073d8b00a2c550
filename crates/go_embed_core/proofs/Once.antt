-- The faults of a type, each once.
use Rattle.std.proofs.Common.{ℕ, Bool, true, false, not, ◌&&◌, ◌||◌, List, [], ◌∷◌, ◌++◌, if◌then◌else◌, inl, inr, refl, sym, ap, ◌∙◌, subst}
use Rattle.std.specs.Prelude.{Contains, Option, None}
use Rattle.std.proofs.lemmas.List.Elements.{Contains-append_left, Contains-append_right, Contains-append_cases}
use Rattle.go_collections_core.specs.text_core.Text.{is_blank}
use Rattle.go_collections_core.specs.text_core.declared.rule.Rule.{Rule}
use Rattle.go_collections_core.specs.text_core.declared.rule.Rule.TheVariants as rules
use Rattle.go_term_core.specs.decl_core.declared.keys.DeclKey.{DeclKey}
use Rattle.go_term_core.specs.declared.term.MemberPlace.{MemberPlace}
use Rattle.go_term_core.specs.Terms.{Term, NoType, Predeclared, ErrorType, Defined, PointerTo, StructOf, InterfaceOf, Fields, NoField, AField, Methods, NoMethod, AMethod, Sign, SignOf, Terms, NoTerm, ATerm}
use Rattle.go_term_core.specs.declared.settling.kind.Kind.{Kind}
use Rattle.go_term_core.specs.settling.Settled.{can_be_embedded, is_among_names, repeats_earlier}
use Rattle.go_embed_core.specs.declared.faults.MemberFault.{MemberFault}
use Rattle.go_embed_core.specs.Faults.{member_fault, member_fault_if, first_place, is_shared, term_faults, fields_faults, methods_faults, sign_faults, terms_faults, line_faults}
use Rattle.go_embed_core.specs.Laws.{term_places, fields_places, methods_places, sign_places, terms_places, line_places, AreApart, EachFaultOnce}
use Rattle.go_embed_core.proofs.Steps.{is_first, is_later, in_none}
use Rattle.go_embed_core.proofs.Telling.{fault_in, place_in, line_at, fields_at, methods_at, sign_at, terms_at, inner_place, rules_differ, apart_right, apart_cross}

-- 1. Lists whose items differ.

apart_left : {X : Type 0} (a b : List X) → AreApart (a ++ b) → AreApart a
apart_left [] b h = tt
apart_left (x ∷ a) b h = (λ c. h.0 (Contains-append_left a b x c), apart_left a b h.1)

apart_both : {X : Type 0} (a b : List X) → AreApart a → AreApart b → ((x : X) → Contains a x → Contains b x → ⊥) → AreApart (a ++ b)
apart_both [] b one other differ = other
apart_both (x ∷ a) b one other differ =
    (λ h. elim (Contains-append_cases a b x h) [ inl q ↦ one.0 q | inr q ↦ differ x (is_first x x a refl) q ], apart_both a b one.1 other (λ y p q. differ y (is_later x y a p) q))

apart_one : (b : Bool) (p : MemberPlace) (r : Rule) → AreApart (member_fault_if b p r)
apart_one true p r = (λ h. in_none (member_fault p r) h, tt)
apart_one false p r = tt

apart_line : (b : Bool) (l : List MemberFault) (places : List MemberPlace) → (AreApart places → AreApart l) → AreApart (if b then [] else places) → AreApart (if b then [] else l)
apart_line true l places inside h = tt
apart_line false l places inside h = inside h

-- two rules at one place
apart_rules : (b c : Bool) (p : MemberPlace) (f : MemberFault) → Contains (member_fault_if b p rules.B5) f → Contains (member_fault_if c p rules.Y2) f → ⊥
apart_rules b c p f one other =
    rules_differ (ap (λ (x : MemberFault). x.rule) (fault_in b p rules.B5 f one).1 ∙ sym (ap (λ (x : MemberFault). x.rule) (fault_in c p rules.Y2 f other).1))

-- a fault at a place, and others at other places
apart_places : (b : Bool) (p : MemberPlace) (r : Rule) (f : MemberFault) (places : List MemberPlace) → (Contains places p → ⊥) → Contains (member_fault_if b p r) f → Contains places f.place → ⊥
apart_places b p r f places none one other = none (subst (Contains places) (sym (place_in b p r f one)) other)

member_place : (kind : DeclKey → Kind) (seen : List (List ℕ)) (g : Sign) (ms : Methods) (f : MemberFault) → Contains (sign_faults kind g ++ methods_faults kind seen ms) f → Contains (sign_places g ++ methods_places ms) f.place
member_place kind seen g ms f h =
    elim (Contains-append_cases (sign_faults kind g) (methods_faults kind seen ms) f h) [
      | inl own ↦ Contains-append_left (sign_places g) (methods_places ms) f.place (sign_at kind g f own)
      | inr rest ↦ Contains-append_right (sign_places g) (methods_places ms) f.place (methods_at kind seen ms f rest)
    ]

-- 2. The faults of a type.

mutual
  term_once : (kind : DeclKey → Kind) (t : Term) → AreApart (term_places t) → AreApart (term_faults kind t)
  term_once kind NoType h = tt
  term_once kind (Predeclared b) h = tt
  term_once kind ErrorType h = tt
  term_once kind (Defined k) h = tt
  term_once kind (PointerTo t) h = term_once kind t h
  term_once kind (StructOf path fs) h = fields_once kind [] None fs h
  term_once kind (InterfaceOf path ms) h = methods_once kind [] ms h

  fields_once : (kind : DeclKey → Kind) (seen : List (List ℕ)) (last : Option MemberPlace) (fs : Fields) → AreApart (fields_places last fs) → AreApart (fields_faults kind seen last fs)
  fields_once kind seen last NoField h = tt
  fields_once kind seen last (AField name place embedded t tag fs) h =
      let b5 = member_fault_if (repeats_earlier seen name) place rules.B5 in
      let y2 = member_fault_if (embedded && not (can_be_embedded kind t)) place rules.Y2 in
      let line = line_faults kind last t in
      let rest = fields_faults kind (name ∷ seen) (first_place t) fs in
      let line_at' = line_places last t in
      let rest_at = fields_places (first_place t) fs in
      let behind : AreApart (line ++ rest) = apart_both line rest
      (apart_line (is_shared last t) (term_faults kind t) (term_places t) (term_once kind t) (apart_left line_at' rest_at h.1))
      (fields_once kind (name ∷ seen) (first_place t) fs (apart_right line_at' rest_at h.1))
      (λ f p q. apart_cross line_at' rest_at f.place h.1 (line_at kind last t f p) (fields_at kind (name ∷ seen) (first_place t) fs f q)) in
      apart_both b5 (y2 ++ (line ++ rest)) (apart_one (repeats_earlier seen name) place rules.B5)
      (apart_both y2 (line ++ rest) (apart_one (embedded && not (can_be_embedded kind t)) place rules.Y2) behind
      (λ f p q. apart_places (embedded && not (can_be_embedded kind t)) place rules.Y2 f (line_at' ++ rest_at) h.0 p (inner_place kind (name ∷ seen) last (first_place t) t fs f q)))
      (λ f p q. elim (Contains-append_cases y2 (line ++ rest) f q) [
        | inl r ↦ apart_rules (repeats_earlier seen name) (embedded && not (can_be_embedded kind t)) place f p r
        | inr r ↦ apart_places (repeats_earlier seen name) place rules.B5 f (line_at' ++ rest_at) h.0 p (inner_place kind (name ∷ seen) last (first_place t) t fs f r)
      ])

  methods_once : (kind : DeclKey → Kind) (seen : List (List ℕ)) (ms : Methods) → AreApart (methods_places ms) → AreApart (methods_faults kind seen ms)
  methods_once kind seen NoMethod h = tt
  methods_once kind seen (AMethod name place g ms) h =
      let b5 = member_fault_if (is_blank name || is_among_names seen name) place rules.B5 in
      let own = sign_faults kind g in
      let rest = methods_faults kind (name ∷ seen) ms in
      let behind : AreApart (own ++ rest) = apart_both own rest
      (sign_once kind g (apart_left (sign_places g) (methods_places ms) h.1))
      (methods_once kind (name ∷ seen) ms (apart_right (sign_places g) (methods_places ms) h.1))
      (λ f p q. apart_cross (sign_places g) (methods_places ms) f.place h.1 (sign_at kind g f p) (methods_at kind (name ∷ seen) ms f q)) in
      apart_both b5 (own ++ rest) (apart_one (is_blank name || is_among_names seen name) place rules.B5) behind
      (λ f p q. apart_places (is_blank name || is_among_names seen name) place rules.B5 f (sign_places g ++ methods_places ms) h.0 p (member_place kind (name ∷ seen) g ms f q))

  sign_once : (kind : DeclKey → Kind) (g : Sign) → AreApart (sign_places g) → AreApart (sign_faults kind g)
  sign_once kind (SignOf ps rs) h =
      apart_both (terms_faults kind None ps) (terms_faults kind None rs)
      (terms_once kind None ps (apart_left (terms_places None ps) (terms_places None rs) h))
      (terms_once kind None rs (apart_right (terms_places None ps) (terms_places None rs) h))
      (λ f p q. apart_cross (terms_places None ps) (terms_places None rs) f.place h (terms_at kind None ps f p) (terms_at kind None rs f q))

  terms_once : (kind : DeclKey → Kind) (last : Option MemberPlace) (ts : Terms) → AreApart (terms_places last ts) → AreApart (terms_faults kind last ts)
  terms_once kind last NoTerm h = tt
  terms_once kind last (ATerm t ts) h =
      apart_both (line_faults kind last t) (terms_faults kind (first_place t) ts)
      (apart_line (is_shared last t) (term_faults kind t) (term_places t) (term_once kind t) (apart_left (line_places last t) (terms_places (first_place t) ts) h))
      (terms_once kind (first_place t) ts (apart_right (line_places last t) (terms_places (first_place t) ts) h))
      (λ f p q. apart_cross (line_places last t) (terms_places (first_place t) ts) f.place h (line_at kind last t f p) (terms_at kind (first_place t) ts f q))

pub faults_once : EachFaultOnce
faults_once kind t h = term_once kind t h
