-- Laws of fields that a method of their type stands before.
use Rattle.std.proofs.Common.{◌≡◌, ℕ, zero, suc, Bool, true, false, not, ◌&&◌, ◌||◌, List, [], ◌∷◌, if◌then◌else◌, inl, inr, refl, sym, ap, ◌∙◌, subst}
use Rattle.std.specs.Prelude.{Contains}
use Rattle.std.specs.Str.{bytes_eq}
use Rattle.std.proofs.lemmas.Bool.{true≢false, or_parts, or_cases, or_left, or_right, and_from}
use Rattle.std.proofs.lemmas.List.Elements.{Contains-append_left, Contains-append_right, Contains-append_cases}
use Rattle.std.proofs.lemmas.Slice.Eq.{bytes_eq-Decides}
use Rattle.go_collections_core.specs.text_core.Text.{SameId, is_blank}
use Rattle.go_collections_core.specs.text_core.declared.rule.Rule.TheVariants as rules
use Rattle.go_term_core.specs.decl_core.declared.keys.DeclKey.{DeclKey}
use Rattle.go_term_core.specs.declared.term.MemberPlace.{MemberPlace}
use Rattle.go_term_core.specs.Terms.{Term, StructOf, Fields, NoField, AField}
use Rattle.go_term_core.proofs.Meanings.{id_back}
use Rattle.go_term_core.specs.declared.settling.kind.Kind.{Kind}
use Rattle.go_term_core.specs.settling.Settled.{is_among_names}
use Rattle.go_type_core.specs.table_core.Entries.{Member, same_id, has_method}
use Rattle.go_type_core.specs.table_core.Methods.{is_before, field_before, has_field_before}
use Rattle.go_type_core.specs.Built.{unrepeated_methods, settled_member}
use Rattle.go_embed_core.specs.declared.faults.MemberFault.{MemberFault}
use Rattle.go_embed_core.specs.Faults.{member_fault, member_fault_if, is_left_out, own_names, named_faults}
use Rattle.go_embed_core.specs.Laws.{IsField, AreApart, own_places, IsOwnField, IsBehindMethod, HiddenIsTold}
use Rattle.go_embed_core.proofs.Ids.{same_id_is, same_id_from}
use Rattle.go_embed_core.proofs.Steps.{is_first, is_later, in_none, first_or_later}
use Rattle.go_embed_core.proofs.Telling.{fault_in, place_in, noted}

-- 1. A fault stands at a field that has one of the names.

named_at : (names : List (List ℕ)) (fs : Fields) (f : MemberFault) → Contains (named_faults names fs) f → Contains (own_places fs) f.place
named_at names NoField f h = absurd (in_none f h)
named_at names (AField name place embedded t tag fs) f h =
    elim (Contains-append_cases (member_fault_if (is_among_names names name) place rules.B5) (named_faults names fs) f h) [
      | inl one ↦ is_first place f.place (own_places fs) (place_in (is_among_names names name) place rules.B5 f one)
      | inr rest ↦ is_later place f.place (own_places fs) (named_at names fs f rest)
    ]

own_place_in : (fs : Fields) (i : ℕ) (name : List ℕ) (place : MemberPlace) (embedded : Bool) (t : Term) → IsField fs i name place embedded t → Contains (own_places fs) place
own_place_in NoField i name place embedded t h = absurd h
own_place_in (AField name' place' embedded' t' tag fs) zero name place embedded t h = is_first place' place (own_places fs) h.1
own_place_in (AField name' place' embedded' t' tag fs) (suc i) name place embedded t h = is_later place' place (own_places fs) (own_place_in fs i name place embedded t h)

named_told : (names : List (List ℕ)) (fs : Fields) (i : ℕ) (name : List ℕ) (place : MemberPlace) (embedded : Bool) (t : Term) → AreApart (own_places fs) → IsField fs i name place embedded t
    → Contains (named_faults names fs) (member_fault place rules.B5) → is_among_names names name ≡ true
named_told names NoField i name place embedded t apart field h = absurd field
named_told names (AField name' place' embedded' t' tag fs) zero name place embedded t apart field h =
    elim (Contains-append_cases (member_fault_if (is_among_names names name') place' rules.B5) (named_faults names fs) (member_fault place rules.B5) h) [
      | inl one ↦ ap (is_among_names names) (sym field.0) ∙ (fault_in (is_among_names names name') place' rules.B5 (member_fault place rules.B5) one).0
      | inr rest ↦ absurd (apart.0 (subst (Contains (own_places fs)) (sym field.1) (named_at names fs (member_fault place rules.B5) rest)))
    ]
named_told names (AField name' place' embedded' t' tag fs) (suc i) name place embedded t apart field h =
    elim (Contains-append_cases (member_fault_if (is_among_names names name') place' rules.B5) (named_faults names fs) (member_fault place rules.B5) h) [
      | inl one ↦ absurd (apart.0 (subst (Contains (own_places fs)) (sym (place_in (is_among_names names name') place' rules.B5 (member_fault place rules.B5) one)) (own_place_in fs i name place embedded t field)))
      | inr rest ↦ named_told names fs i name place embedded t apart.1 field rest
    ]

named_telling : (names : List (List ℕ)) (fs : Fields) (i : ℕ) (name : List ℕ) (place : MemberPlace) (embedded : Bool) (t : Term) → IsField fs i name place embedded t
    → is_among_names names name ≡ true → Contains (named_faults names fs) (member_fault place rules.B5)
named_telling names NoField i name place embedded t field h = absurd field
named_telling names (AField name' place' embedded' t' tag fs) zero name place embedded t field h =
    Contains-append_left (member_fault_if (is_among_names names name') place' rules.B5) (named_faults names fs) (member_fault place rules.B5)
    (subst (λ p. Contains (member_fault_if (is_among_names names name') place' rules.B5) (member_fault p rules.B5)) field.1 (noted (is_among_names names name') place' rules.B5 (ap (is_among_names names) field.0 ∙ h)))
named_telling names (AField name' place' embedded' t' tag fs) (suc i) name place embedded t field h =
    Contains-append_right (member_fault_if (is_among_names names name') place' rules.B5) (named_faults names fs) (member_fault place rules.B5) (named_telling names fs i name place embedded t field h)

-- 2. Methods that are a type's own.

record IsOwn (path : List ℕ) (u : Term) (ms : List Member) (m : Member) : Type 0 where
  among : Contains ms m
  own : is_left_out path u m ≡ false

later_own : (path : List ℕ) (u : Term) (x : Member) (ms : List Member) (m : Member) → IsOwn path u ms m → IsOwn path u (x ∷ ms) m
later_own path u x ms m h = record { among = is_later x m ms h.among; own = h.own }

first_own : (path : List ℕ) (u : Term) (x : Member) (ms : List Member) → is_left_out path u x ≡ false → IsOwn path u (x ∷ ms) x
first_own path u x ms h = record { among = is_first x x ms refl; own = h }

-- one of a name
record HasOwn (path : List ℕ) (u : Term) (ms : List Member) (name : List ℕ) : Type 0 where
  source : Member
  own : IsOwn path u ms source
  named : source.name ≡ name

later_has : (path : List ℕ) (u : Term) (x : Member) (ms : List Member) (name : List ℕ) → HasOwn path u ms name → HasOwn path u (x ∷ ms) name
later_has path u x ms name h = record { source = h.source; own = later_own path u x ms h.source h.own; named = h.named }

own_by_name : (path : List ℕ) (u : Term) (x : Member) (ms : List Member) (name : List ℕ) (r c : Bool) → bytes_eq x.name name ≡ c → is_left_out path u x ≡ false → (r ≡ true → HasOwn path u ms name)
    → (if c then true else r) ≡ true → HasOwn path u (x ∷ ms) name
own_by_name path u x ms name r true is off rest h = record { source = x; own = first_own path u x ms off; named = (bytes_eq-Decides x.name name).0 is }
own_by_name path u x ms name r false is off rest h = later_has path u x ms name (rest h)

own_step : (path : List ℕ) (u : Term) (x : Member) (ms : List Member) (name : List ℕ) (names : List (List ℕ)) (b : Bool) → is_left_out path u x ≡ b → (is_among_names names name ≡ true → HasOwn path u ms name)
    → is_among_names (if b then names else x.name ∷ names) name ≡ true → HasOwn path u (x ∷ ms) name
own_step path u x ms name names true is rest h = later_has path u x ms name (rest h)
own_step path u x ms name names false is rest h = own_by_name path u x ms name (is_among_names names name) (bytes_eq x.name name) refl is rest h

named_own : (path : List ℕ) (u : Term) (ms : List Member) (name : List ℕ) → is_among_names (own_names path u ms) name ≡ true → HasOwn path u ms name
named_own path u [] name h = absurd (true≢false (sym h))
named_own path u (x ∷ ms) name h = own_step path u x ms name (own_names path u ms) (is_left_out path u x) refl (named_own path u ms name) h

name_here : (x name : List ℕ) (names : List (List ℕ)) (b : Bool) → b ≡ false → x ≡ name → is_among_names (if b then names else x ∷ names) name ≡ true
name_here x name names true is same = absurd (true≢false is)
name_here x name names false is same = ap (λ c. if c then true else is_among_names names name) ((bytes_eq-Decides x name).1 same)

if_true : (c r : Bool) → r ≡ true → (if c then true else r) ≡ true
if_true true r h = refl
if_true false r h = h

name_there : (x name : List ℕ) (names : List (List ℕ)) (b : Bool) → is_among_names names name ≡ true → is_among_names (if b then names else x ∷ names) name ≡ true
name_there x name names true h = h
name_there x name names false h = if_true (bytes_eq x name) (is_among_names names name) h

own_named : (path : List ℕ) (u : Term) (ms : List Member) (m : Member) → IsOwn path u ms m → is_among_names (own_names path u ms) m.name ≡ true
own_named path u [] m h = absurd (in_none m h.among)
own_named path u (x ∷ ms) m h =
    elim (first_or_later x m ms h.among) [
      | inl same ↦ name_here x.name m.name (own_names path u ms) (is_left_out path u x) (ap (is_left_out path u) same ∙ h.own) (ap (λ (k : Member). k.name) same)
      | inr more ↦ name_there x.name m.name (own_names path u ms) (is_left_out path u x) (own_named path u ms m (record { among = more; own = h.own }))
    ]

-- 3. The methods that are kept.

-- a method that is passed over by the list of those that are kept
abbrev is_dropped : List ℕ → Term → List (List ℕ) → Member → Bool
is_dropped path u seen m = is_blank m.name || (is_among_names seen m.name || has_field_before path u m)

left_out_of : (a b c : Bool) → (a || (b || c)) ≡ false → (a || c) ≡ false
left_out_of true b c q = q
left_out_of false true c q = absurd (true≢false q)
left_out_of false false c q = q

not_dropped : (a b c : Bool) → (a || c) ≡ false → b ≡ false → (a || (b || c)) ≡ false
not_dropped true b c q r = q
not_dropped false true c q r = absurd (true≢false r)
not_dropped false false c q r = q

record IsKept (kind : DeclKey → Kind) (path : List ℕ) (u : Term) (ms : List Member) (m : Member) : Type 0 where
  source : Member
  own : IsOwn path u ms source
  is : settled_member kind source ≡ m

later_kept : (kind : DeclKey → Kind) (path : List ℕ) (u : Term) (x : Member) (ms : List Member) (m : Member) → IsKept kind path u ms m → IsKept kind path u (x ∷ ms) m
later_kept kind path u x ms m h = record { source = h.source; own = later_own path u x ms h.source h.own; is = h.is }

kept_step : (kind : DeclKey → Kind) (path : List ℕ) (u : Term) (seen : List (List ℕ)) (x : Member) (ms same more : List Member) (m : Member) (b : Bool) → is_dropped path u seen x ≡ b
    → (Contains same m → IsKept kind path u ms m) → (Contains more m → IsKept kind path u ms m) → Contains (if b then same else settled_member kind x ∷ more) m → IsKept kind path u (x ∷ ms) m
kept_step kind path u seen x ms same more m true is first rest h = later_kept kind path u x ms m (first h)
kept_step kind path u seen x ms same more m false is first rest h =
    elim (first_or_later (settled_member kind x) m more h) [
      | inl here ↦ record { source = x; own = first_own path u x ms (left_out_of (is_blank x.name) (is_among_names seen x.name) (has_field_before path u x) is); is = here }
      | inr there ↦ later_kept kind path u x ms m (rest there)
    ]

kept_own : (kind : DeclKey → Kind) (path : List ℕ) (u : Term) (seen : List (List ℕ)) (ms : List Member) (m : Member) → Contains (unrepeated_methods kind path u seen ms) m → IsKept kind path u ms m
kept_own kind path u seen [] m h = absurd (in_none m h)
kept_own kind path u seen (x ∷ ms) m h =
    kept_step kind path u seen x ms (unrepeated_methods kind path u seen ms) (unrepeated_methods kind path u (x.name ∷ seen) ms) m (is_dropped path u seen x) refl (kept_own kind path u seen ms m) (kept_own kind path u (x.name ∷ seen) ms m) h

-- of the methods of a name that are a type's own, one is kept
record HasKept (kind : DeclKey → Kind) (path : List ℕ) (u : Term) (ms list : List Member) (name : List ℕ) : Type 0 where
  source : Member
  own : IsOwn path u ms source
  named : source.name ≡ name
  there : Contains list (settled_member kind source)

here_kept : (kind : DeclKey → Kind) (path : List ℕ) (u : Term) (x : Member) (ms same more : List Member) (name : List ℕ) (b : Bool) → b ≡ false → is_left_out path u x ≡ false → x.name ≡ name
    → HasKept kind path u (x ∷ ms) (if b then same else settled_member kind x ∷ more) name
here_kept kind path u x ms same more name true is own e = absurd (true≢false is)
here_kept kind path u x ms same more name false is own e =
    record { source = x; own = first_own path u x ms own; named = e; there = is_first (settled_member kind x) (settled_member kind x) more refl }

behind_kept : (kind : DeclKey → Kind) (path : List ℕ) (u : Term) (seen : List (List ℕ)) (x : Member) (ms more : List Member) (name : List ℕ) (c : Bool) → bytes_eq x.name name ≡ c → is_dropped path u seen x ≡ false
    → is_among_names seen name ≡ false → (is_among_names (x.name ∷ seen) name ≡ false → HasKept kind path u ms more name) → HasKept kind path u (x ∷ ms) (settled_member kind x ∷ more) name
behind_kept kind path u seen x ms more name true e is new rest =
    here_kept kind path u x ms [] more name false refl (left_out_of (is_blank x.name) (is_among_names seen x.name) (has_field_before path u x) is) ((bytes_eq-Decides x.name name).0 e)
behind_kept kind path u seen x ms more name false e is new rest =
    let h = rest (ap (λ c. if c then true else is_among_names seen name) e ∙ new) in
    record { source = h.source; own = later_own path u x ms h.source h.own; named = h.named; there = is_later (settled_member kind x) (settled_member kind h.source) more h.there }

there_kept : (kind : DeclKey → Kind) (path : List ℕ) (u : Term) (seen : List (List ℕ)) (x : Member) (ms same more : List Member) (name : List ℕ) (b : Bool) → is_dropped path u seen x ≡ b
    → is_among_names seen name ≡ false → HasKept kind path u ms same name → (is_among_names (x.name ∷ seen) name ≡ false → HasKept kind path u ms more name)
    → HasKept kind path u (x ∷ ms) (if b then same else settled_member kind x ∷ more) name
there_kept kind path u seen x ms same more name true is new first rest =
    record { source = first.source; own = later_own path u x ms first.source first.own; named = first.named; there = first.there }
there_kept kind path u seen x ms same more name false is new first rest = behind_kept kind path u seen x ms more name (bytes_eq x.name name) refl is new rest

own_kept : (kind : DeclKey → Kind) (path : List ℕ) (u : Term) (seen : List (List ℕ)) (ms : List Member) (m : Member) → IsOwn path u ms m → is_among_names seen m.name ≡ false
    → HasKept kind path u ms (unrepeated_methods kind path u seen ms) m.name
own_kept kind path u seen [] m h new = absurd (in_none m h.among)
own_kept kind path u seen (x ∷ ms) m h new =
    let same = unrepeated_methods kind path u seen ms in
    let more = unrepeated_methods kind path u (x.name ∷ seen) ms in
    elim (first_or_later x m ms h.among) [
      | inl here ↦ here_kept kind path u x ms same more m.name (is_dropped path u seen x)
          (ap (is_dropped path u seen) here ∙ not_dropped (is_blank m.name) (is_among_names seen m.name) (has_field_before path u m) h.own new)
          (ap (is_left_out path u) here ∙ h.own) (ap (λ (k : Member). k.name) here)
      | inr there ↦ there_kept kind path u seen x ms same more m.name (is_dropped path u seen x) refl new
          (own_kept kind path u seen ms m (record { among = there; own = h.own }) new)
          (λ q. own_kept kind path u (x.name ∷ seen) ms m (record { among = there; own = h.own }) q)
    ]

named_kept : (kind : DeclKey → Kind) (path : List ℕ) (u : Term) (ms : List Member) (name : List ℕ) → is_among_names (own_names path u ms) name ≡ true → HasKept kind path u ms (unrepeated_methods kind path u [] ms) name
named_kept kind path u ms name h =
    let o = named_own path u ms name h in
    let k = own_kept kind path u [] ms o.source o.own refl in
    record { source = k.source; own = k.own; named = k.named ∙ o.named; there = k.there }

-- 4. A field, and a method of its identifier.

before_step : (a b : Bool) → b ≡ true → (a || b) ≡ true
before_step true b h = refl
before_step false b h = h

field_stands : (path home : List ℕ) (fs : Fields) (i : ℕ) (name : List ℕ) (place : MemberPlace) (embedded : Bool) (t : Term) (m : Member) → IsField fs i name place embedded t
    → same_id name home m.name path ≡ true → (not (bytes_eq home path) || is_before place m.place) ≡ true → field_before path home fs m ≡ true
field_stands path home NoField i name place embedded t m field same before = absurd field
field_stands path home (AField name' place' embedded' t' tag fs) zero name place embedded t m field same before =
    or_left (same_id name' home m.name path && (not (bytes_eq home path) || is_before place' m.place)) (field_before path home fs m)
    (and_from (same_id name' home m.name path) (not (bytes_eq home path) || is_before place' m.place)
    (ap (λ n. same_id n home m.name path) field.0 ∙ same) (ap (λ p. not (bytes_eq home path) || is_before p m.place) field.1 ∙ before))
field_stands path home (AField name' place' embedded' t' tag fs) (suc i) name place embedded t m field same before =
    or_right (same_id name' home m.name path && (not (bytes_eq home path) || is_before place' m.place)) (field_before path home fs m)
    (field_stands path home fs i name place embedded t m field same before)

-- no field stands before a method that is a type's own
none_stands : (path home : List ℕ) (fs : Fields) (i : ℕ) (name : List ℕ) (place : MemberPlace) (embedded : Bool) (t : Term) (ms : List Member) (m : Member) → IsField fs i name place embedded t
    → IsOwn path (StructOf home fs) ms m → same_id name home m.name path ≡ true → (not (bytes_eq home path) || is_before place m.place) ≡ true → ⊥
none_stands path home fs i name place embedded t ms m field own same before =
    true≢false (sym (field_stands path home fs i name place embedded t m field same before) ∙ (or_parts (is_blank m.name) (has_field_before path (StructOf home fs) m) own.own).1)

-- 5. Both directions.

hidden_by : (kind : DeclKey → Kind) (path home : List ℕ) (fs : Fields) (ms : List Member) (i : ℕ) (name : List ℕ) (place : MemberPlace) (embedded : Bool) (t : Term) (b : Bool) → bytes_eq home path ≡ b
    → AreApart (own_places fs) → IsField fs i name place embedded t
    → Contains (if b then named_faults (own_names path (StructOf home fs) ms) fs else []) (member_fault place rules.B5)
    → (home ≡ path) × HasKept kind path (StructOf home fs) ms (unrepeated_methods kind path (StructOf home fs) [] ms) name
hidden_by kind path home fs ms i name place embedded t false is apart field h = absurd (in_none (member_fault place rules.B5) h)
hidden_by kind path home fs ms i name place embedded t true is apart field h =
    ((bytes_eq-Decides home path).0 is, named_kept kind path (StructOf home fs) ms name (named_told (own_names path (StructOf home fs) ms) fs i name place embedded t apart field h))

hides : (kind : DeclKey → Kind) (path home : List ℕ) (fs : Fields) (ms : List Member) (i : ℕ) (name : List ℕ) (place : MemberPlace) (embedded : Bool) (t : Term) (m : Member) (b : Bool) → bytes_eq home path ≡ b
    → IsField fs i name place embedded t → IsKept kind path (StructOf home fs) ms m → SameId m.name path name home
    → Contains (if b then named_faults (own_names path (StructOf home fs) ms) fs else []) (member_fault place rules.B5)
hides kind path home fs ms i name place embedded t m true is field k same =
    let u = StructOf home fs in
    let e : k.source.name ≡ name = ap (λ (x : Member). x.name) k.is ∙ same.0 in
    named_telling (own_names path u ms) fs i name place embedded t field (ap (is_among_names (own_names path u ms)) (sym e) ∙ own_named path u ms k.source k.own)
hides kind path home fs ms i name place embedded t m false is field k same =
    let e : k.source.name ≡ m.name = ap (λ (x : Member). x.name) k.is in
    let back : SameId name home k.source.name path = subst (λ n. SameId name home n path) (sym e) (id_back m.name path name home same) in
    absurd (none_stands path home fs i name place embedded t ms k.source field k.own (same_id_from name home k.source.name path back)
    (or_left (not (bytes_eq home path)) (is_before place k.source.place) (ap not is)))

stands_before : (kind : DeclKey → Kind) (path home : List ℕ) (fs : Fields) (ms : List Member) (name : List ℕ) (place : MemberPlace) → IsOwnField path home fs ms name place
    → (home ≡ path) × HasKept kind path (StructOf home fs) ms (unrepeated_methods kind path (StructOf home fs) [] ms) name → IsBehindMethod kind path home fs ms name place
stands_before kind path home fs ms name place f h =
    let k = h.1 in
    let same : SameId k.source.name path name home = (k.named, inr (sym h.0)) in (
      settled_member kind k.source,
      k.there,
      same,
      elim (f.ordered k.source k.own.among) [
        | inl before ↦ before
        | inr before ↦ absurd (none_stands path home fs f.number name place f.embedded f.term ms k.source f.field k.own
            (same_id_from name home k.source.name path (id_back k.source.name path name home same)) (or_right (not (bytes_eq home path)) (is_before place k.source.place) before))
      ],
    )

-- 6. Members of a list of methods.

has_from : (path : List ℕ) (ms : List Member) (name from : List ℕ) (m : Member) → Contains ms m → same_id m.name path name from ≡ true → has_method path ms name from ≡ true
has_from path [] name from m h same = absurd (in_none m h)
has_from path (x ∷ ms) name from m h same =
    elim (first_or_later x m ms h) [
      | inl here ↦ or_left (same_id x.name path name from) (has_method path ms name from) (ap (λ (k : Member). same_id k.name path name from) here ∙ same)
      | inr there ↦ or_right (same_id x.name path name from) (has_method path ms name from) (has_from path ms name from m there same)
    ]

has_to : (path : List ℕ) (ms : List Member) (name from : List ℕ) → has_method path ms name from ≡ true → (m : Member) × Contains ms m × (same_id m.name path name from ≡ true)
has_to path [] name from h = absurd (true≢false (sym h))
has_to path (x ∷ ms) name from h =
    elim (or_cases (same_id x.name path name from) (has_method path ms name from) h) [
      | inl here ↦ (x, is_first x x ms refl, here)
      | inr more ↦ (let r = has_to path ms name from more in (r.0, is_later x r.0 ms r.1, r.2))
    ]

-- 7. The law.

pub hidden_told : HiddenIsTold
hidden_told = record {
  before = λ kind path home fs ms name place f. (
    λ h. stands_before kind path home fs ms name place f (hidden_by kind path home fs ms f.number name place f.embedded f.term (bytes_eq home path) refl f.apart f.field h),
    λ m. hides kind path home fs ms f.number name place f.embedded f.term m.0 (bytes_eq home path) refl f.field (kept_own kind path (StructOf home fs) [] ms m.0 m.1) m.2,
  );
  left_out = λ kind path home fs ms name place f. (
    λ h. (let r = hidden_by kind path home fs ms f.number name place f.embedded f.term (bytes_eq home path) refl f.apart f.field h in
        has_from path (unrepeated_methods kind path (StructOf home fs) [] ms) name home (settled_member kind r.1.source) r.1.there (same_id_from r.1.source.name path name home (r.1.named, inr (sym r.0)))),
    λ h. (let r = has_to path (unrepeated_methods kind path (StructOf home fs) [] ms) name home h in
        hides kind path home fs ms f.number name place f.embedded f.term r.0 (bytes_eq home path) refl f.field (kept_own kind path (StructOf home fs) [] ms r.0 r.1) (same_id_is r.0.name path name home r.2)),
  );
}
