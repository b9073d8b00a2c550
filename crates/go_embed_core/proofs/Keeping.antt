-- Fields that a method keeps from its type.
use Rattle.std.proofs.Common.{◌≡◌, ℕ, Bool, true, false, List, [], ◌∷◌, ◌++◌, if◌then◌else◌, inl, inr, refl, sym, ap, ◌∙◌}
use Rattle.std.specs.Str.{bytes_eq}
use Rattle.std.proofs.lemmas.Bool.{true≢false, or_cases, or_parts, false_from_ne_true}
use Rattle.go_term_core.specs.Terms.{Term, NoType, Predeclared, ErrorType, Defined, PointerTo, StructOf, InterfaceOf, Fields, NoField, AField}
use Rattle.go_type_core.specs.table_core.Entries.{Member, same_id, has_method}
use Rattle.go_type_core.specs.table_core.Shown.{hides_field, hides_some}
use Rattle.go_embed_core.specs.Owners.{OwnerModel, AFieldOf, Named, fields_found, declared_found, term_found, is_spelled_in, has_spelled, nobody}
use Rattle.go_embed_core.specs.mirrors.Edges.{hidden_in, hidden_by, IsHiding}
use Rattle.go_embed_core.specs.mirrors.Tallies.{NoHit, together, hit_if, tallies, tally_of}
use Rattle.go_embed_core.proofs.Ids.{same_id_is}

-- counting

hidden_step : (b : Bool) (n : Named) (name from : List ℕ) (ns : List Named) → (b ≡ false → same_id n.0 n.1.0 name from ≡ false) → tallies (tally_of name from) ns ≡ NoHit
    → tallies (tally_of name from) (if b then ns else n ∷ ns) ≡ NoHit
hidden_step true n name from ns off rest = rest
hidden_step false n name from ns off rest = ap (λ c. together (hit_if c n.1.1) (tallies (tally_of name from) ns)) (off refl) ∙ rest

-- where the fields of a name are kept from a type, none of its fields counts for the name
tally_hidden : (o : OwnerModel) (path : List ℕ) (fs : Fields) (name from : List ℕ) → has_method o.path o.methods name path ≡ true → tallies (tally_of name from) (fields_found o path fs) ≡ NoHit
tally_hidden o path NoField name from h = refl
tally_hidden o path (AField other place embedded t tag fs) name from h =
    let off : has_method o.path o.methods other path ≡ false → same_id other path name from ≡ false =
    λ q. false_from_ne_true (same_id other path name from) (λ s. true≢false (sym h ∙ (ap (λ n. has_method o.path o.methods n path) (sym (same_id_is other path name from s).0) ∙ q))) in
    hidden_step (has_method o.path o.methods other path) (other, (path, AFieldOf path place t)) name from (fields_found o path fs) off (tally_hidden o path fs name from h)

shown_step : (b : Bool) (n : Named) (name from : List ℕ) (ns all : List Named) → (b ≡ true → same_id n.0 n.1.0 name from ≡ false) → tallies (tally_of name from) ns ≡ tallies (tally_of name from) all
    → tallies (tally_of name from) (if b then ns else n ∷ ns) ≡ tallies (tally_of name from) (n ∷ all)
shown_step true n name from ns all off rest = rest ∙ sym (ap (λ c. together (hit_if c n.1.1) (tallies (tally_of name from) all)) (off refl))
shown_step false n name from ns all off rest = ap (together (tally_of name from n)) rest

-- where they are not, all do
tally_shown : (o : OwnerModel) (path : List ℕ) (fs : Fields) (name from : List ℕ) → has_method o.path o.methods name path ≡ false
    → tallies (tally_of name from) (fields_found o path fs) ≡ tallies (tally_of name from) (fields_found nobody path fs)
tally_shown o path NoField name from h = refl
tally_shown o path (AField other place embedded t tag fs) name from h =
    let off : has_method o.path o.methods other path ≡ true → same_id other path name from ≡ false =
    λ q. false_from_ne_true (same_id other path name from) (λ s. true≢false (sym q ∙ (ap (λ n. has_method o.path o.methods n path) (same_id_is other path name from s).0 ∙ h))) in
    shown_step (has_method o.path o.methods other path) (other, (path, AFieldOf path place t)) name from (fields_found o path fs) (fields_found nobody path fs) off (tally_shown o path fs name from h)

-- where no field is kept from a type, it has all
found_unhidden : (o : OwnerModel) (path : List ℕ) (fs : Fields) → hides_field o.path o.methods path fs ≡ false → fields_found o path fs ≡ fields_found nobody path fs
found_unhidden o path NoField h = refl
found_unhidden o path (AField other place embedded t tag fs) h =
    let parts = or_parts (has_method o.path o.methods other path) (hides_field o.path o.methods path fs) h in
    ap (λ c. if c then fields_found o path fs else (other, (path, AFieldOf path place t)) ∷ fields_found o path fs) parts.0
    ∙ ap (λ l. (other, (path, AFieldOf path place t)) ∷ l) (found_unhidden o path fs parts.1)

hidden_term : (o : OwnerModel) (u : Term) (name from : List ℕ) → hidden_by o name u ≡ true → tallies (tally_of name from) (term_found o u) ≡ NoHit
hidden_term o NoType name from h = refl
hidden_term o (Predeclared b) name from h = refl
hidden_term o ErrorType name from h = absurd (true≢false (sym h))
hidden_term o (Defined k) name from h = refl
hidden_term o (PointerTo t) name from h = refl
hidden_term o (StructOf path fs) name from h = tally_hidden o path fs name from h
hidden_term o (InterfaceOf path ms) name from h = absurd (true≢false (sym h))

shown_in : (o : OwnerModel) (u : Term) (name from : List ℕ) → hidden_by o name u ≡ false → tallies (tally_of name from) (term_found o u) ≡ tallies (tally_of name from) (term_found nobody u)
shown_in o NoType name from h = refl
shown_in o (Predeclared b) name from h = refl
shown_in o ErrorType name from h = refl
shown_in o (Defined k) name from h = refl
shown_in o (PointerTo t) name from h = refl
shown_in o (StructOf path fs) name from h = tally_shown o path fs name from h
shown_in o (InterfaceOf path ms) name from h = refl

unhidden_in : (o : OwnerModel) (u : Term) → hides_some o.path o.methods u ≡ false → term_found o u ≡ term_found nobody u
unhidden_in o NoType h = refl
unhidden_in o (Predeclared b) h = refl
unhidden_in o ErrorType h = refl
unhidden_in o (Defined k) h = refl
unhidden_in o (PointerTo t) h = refl
unhidden_in o (StructOf path fs) h = found_unhidden o path fs h
unhidden_in o (InterfaceOf path ms) h = refl

plain_shown : (u : Term) (name : List ℕ) → hidden_in [] [] name u ≡ false
plain_shown NoType name = refl
plain_shown (Predeclared b) name = refl
plain_shown ErrorType name = refl
plain_shown (Defined k) name = refl
plain_shown (PointerTo t) name = refl
plain_shown (StructOf path fs) name = refl
plain_shown (InterfaceOf path ms) name = refl

-- a type without methods keeps no field from itself
pub plain_hiding : (o : OwnerModel) (name : List ℕ) → o.path ≡ [] → o.methods ≡ [] → IsHiding false o name
plain_hiding o name p m = record {
  kept = λ e. absurd (true≢false (sym e));
  left = λ e. inl (ap (λ q. hidden_in q o.methods name o.underlying) p ∙ (ap (λ ms. hidden_in [] ms name o.underlying) m ∙ plain_shown o.underlying name));
}

-- nor does one that the table has not
pub missing_hiding : (path name : List ℕ) → IsHiding false (record { path = path; methods = []; underlying = NoType }) name
missing_hiding path name = record { kept = λ e. absurd (true≢false (sym e)); left = λ e. inl refl }

-- what a method keeps, as it is asked of a defined type
pub asked_hiding : (b : Bool) (o : OwnerModel) (name : List ℕ) → b ≡ hidden_by o name o.underlying → IsHiding b o name
asked_hiding b o name e = record { kept = λ h. sym e ∙ h; left = λ h. inl (sym e ∙ h) }

pub no_hiding : (o : OwnerModel) (name : List ℕ) → hides_some o.path o.methods o.underlying ≡ false → IsHiding false o name
no_hiding o name h = record { kept = λ e. absurd (true≢false (sym e)); left = λ e. inr h }

pub tally_if_hidden : (o : OwnerModel) (b : Bool) (name from : List ℕ) → IsHiding b o name → b ≡ true → tallies (tally_of name from) (term_found o o.underlying) ≡ NoHit
tally_if_hidden o b name from h is = hidden_term o o.underlying name from (h.kept is)

pub tally_if_shown : (o : OwnerModel) (b : Bool) (name from : List ℕ) → IsHiding b o name → b ≡ false
    → tallies (tally_of name from) (term_found o o.underlying) ≡ tallies (tally_of name from) (term_found nobody o.underlying)
tally_if_shown o b name from h is =
    elim (h.left is) [
      | inl q ↦ shown_in o o.underlying name from q
      | inr q ↦ ap (tallies (tally_of name from)) (unhidden_in o o.underlying q)
    ]

-- spelling

if_true : (c r : Bool) → r ≡ true → (if c then true else r) ≡ true
if_true true r h = refl
if_true false r h = h

-- a method that has a field's identifier is spelled as the field is
method_spelled : (path : List ℕ) (ms : List Member) (field from name : List ℕ) → has_method path ms field from ≡ true → bytes_eq field name ≡ true → is_spelled_in (declared_found path ms) name ≡ true
method_spelled path [] field from name h s = absurd (true≢false (sym h))
method_spelled path (m ∷ ms) field from name h s =
    elim (or_cases (same_id m.name path field from) (has_method path ms field from) h) [
      | inl q ↦ ap (λ c. if c then true else is_spelled_in (declared_found path ms) name) (ap (λ n. bytes_eq n name) (same_id_is m.name path field from q).0 ∙ s)
      | inr q ↦ if_true (bytes_eq m.name name) (is_spelled_in (declared_found path ms) name) (method_spelled path ms field from name q s)
    ]

spelled_step : (b : Bool) (n : Named) (name : List ℕ) (ns all : List Named) → (b ≡ true → bytes_eq n.0 name ≡ false) → is_spelled_in ns name ≡ is_spelled_in all name
    → is_spelled_in (if b then ns else n ∷ ns) name ≡ is_spelled_in (n ∷ all) name
spelled_step true n name ns all off rest = rest ∙ sym (ap (λ c. if c then true else is_spelled_in all name) (off refl))
spelled_step false n name ns all off rest = ap (λ l. if bytes_eq n.0 name then true else l) rest

spelled_fields : (o : OwnerModel) (path : List ℕ) (fs : Fields) (name : List ℕ) → is_spelled_in (declared_found o.path o.methods) name ≡ false
    → is_spelled_in (fields_found o path fs) name ≡ is_spelled_in (fields_found nobody path fs) name
spelled_fields o path NoField name h = refl
spelled_fields o path (AField other place embedded t tag fs) name h =
    let off : has_method o.path o.methods other path ≡ true → bytes_eq other name ≡ false =
    λ q. false_from_ne_true (bytes_eq other name) (λ s. true≢false (sym (method_spelled o.path o.methods other path name q s) ∙ h)) in
    spelled_step (has_method o.path o.methods other path) (other, (path, AFieldOf path place t)) name (fields_found o path fs) (fields_found nobody path fs) off (spelled_fields o path fs name h)

spelled_in : (o : OwnerModel) (u : Term) (name : List ℕ) → is_spelled_in (declared_found o.path o.methods) name ≡ false → is_spelled_in (term_found o u) name ≡ is_spelled_in (term_found nobody u) name
spelled_in o NoType name h = refl
spelled_in o (Predeclared b) name h = refl
spelled_in o ErrorType name h = refl
spelled_in o (Defined k) name h = refl
spelled_in o (PointerTo t) name h = refl
spelled_in o (StructOf path fs) name h = spelled_fields o path fs name h
spelled_in o (InterfaceOf path ms) name h = refl

if_twice : (c r s : Bool) → (if c then true else (if r then true else s)) ≡ (if (if c then true else r) then true else s)
if_twice true r s = refl
if_twice false r s = refl

spelled_append : (ms ns : List Named) (name : List ℕ) → is_spelled_in (ms ++ ns) name ≡ (if is_spelled_in ms name then true else is_spelled_in ns name)
spelled_append [] ns name = refl
spelled_append (m ∷ ms) ns name =
    ap (λ l. if bytes_eq m.0 name then true else l) (spelled_append ms ns name) ∙ if_twice (bytes_eq m.0 name) (is_spelled_in ms name) (is_spelled_in ns name)

-- a method is spelled so
pub has_own_spelled : (o : OwnerModel) (name : List ℕ) → is_spelled_in (declared_found o.path o.methods) name ≡ true → has_spelled o name ≡ true
has_own_spelled o name h =
    spelled_append (declared_found o.path o.methods) (term_found o o.underlying) name ∙ ap (λ c. if c then true else is_spelled_in (term_found o o.underlying) name) h

-- none is
pub has_none_spelled : (o : OwnerModel) (name : List ℕ) → is_spelled_in (declared_found o.path o.methods) name ≡ false → has_spelled o name ≡ is_spelled_in (term_found nobody o.underlying) name
has_none_spelled o name h =
    spelled_append (declared_found o.path o.methods) (term_found o o.underlying) name
    ∙ (ap (λ c. if c then true else is_spelled_in (term_found o o.underlying) name) h ∙ spelled_in o o.underlying name h)

-- where no field is kept from a type, none of its names has a method
pub unhidden_field : (path : List ℕ) (ms : List Member) (fields_path : List ℕ) (fs : Fields) (name : List ℕ) → hides_field path ms fields_path fs ≡ false → (has_method path ms name fields_path ≡ true → hides_field path ms fields_path fs ≡ true) → has_method path ms name fields_path ≡ false
unhidden_field path ms fields_path fs name h up = false_from_ne_true (has_method path ms name fields_path) (λ s. true≢false (sym (up s) ∙ h))
