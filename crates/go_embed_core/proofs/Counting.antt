-- The members that an identifier names, counted: none, one alone, or two at different places.
use Rattle.std.proofs.Common.{◌≡◌, ℕ, zero, suc, ◌+◌, ◌<◌, ◌≤◌, Bool, true, false, ◌||◌, List, [], ◌∷◌, ◌++◌, map, length, drop, get_or, Some, if◌then◌else◌, refl, sym, ap, ◌∙◌, subst, arith}
use Rattle.std.specs.Prelude.{slice_get}
use Rattle.std.specs.List.{list_any}
use Rattle.std.specs.Str.{bytes_eq}
use Rattle.std.proofs.lemmas.Bool.{true≢false}
use Rattle.std.proofs.lemmas.List.{drop_more, drop_all}
use Rattle.go_collections_core.specs.text_core.Text.{SameId}
use Rattle.go_term_core.specs.declared.term.Field.{Field}
use Rattle.go_term_core.specs.declared.term.Method.{Method}
use Rattle.go_term_core.specs.Shapes.{Line, fields_in, method_shapes}
use Rattle.go_type_core.specs.table_core.declared.entry.DeclaredMethod.{DeclaredMethod}
use Rattle.go_type_core.specs.table_core.Entries.{same_id, has_method}
use Rattle.go_type_core.specs.table_core.Shown.{member_shown}
use Rattle.go_embed_core.specs.declared.member.Hits.{Hits}
use Rattle.go_embed_core.specs.declared.member.Hits.TheVariants as hits
use Rattle.go_embed_core.specs.Owners.{OwnerModel, Found, Named, fields_found, methods_found, declared_found, term_found, members_of, is_spelled_in, nobody}
use Rattle.go_embed_core.specs.OwnersShown.{AreHits}
use Rattle.go_embed_core.specs.mirrors.Tallies.{Tally, NoHit, OneHit, ManyHits, together, hits_shown, hit_if, tallies, tally_of, method_tally, field_tally, interface_tally}
use Rattle.go_embed_core.proofs.Ids.{same_id_is, same_id_from}

-- 1. Tallies of lists.

together_assoc : (a b c : Tally) → together (together a b) c ≡ together a (together b c)
together_assoc NoHit b c = refl
together_assoc (OneHit f) NoHit c = refl
together_assoc (OneHit f) (OneHit g) NoHit = refl
together_assoc (OneHit f) (OneHit g) (OneHit h) = refl
together_assoc (OneHit f) (OneHit g) ManyHits = refl
together_assoc (OneHit f) ManyHits c = refl
together_assoc ManyHits b c = refl

together_none : (a : Tally) → together a NoHit ≡ a
together_none NoHit = refl
together_none (OneHit f) = refl
together_none ManyHits = refl

tallies_append : {X : Type 0} (f : X → Tally) (xs ys : List X) → tallies f (xs ++ ys) ≡ together (tallies f xs) (tallies f ys)
tallies_append f [] ys = refl
tallies_append f (x ∷ xs) ys = ap (together (f x)) (tallies_append f xs ys) ∙ sym (together_assoc (f x) (tallies f xs) (tallies f ys))

-- one item more
pub tally_step : {X : Type 0} (f : X → Tally) (xs : List X) (i : ℕ) (x : X) (now next all : Tally) → i < length xs → x ≡ get_or xs i x → next ≡ together now (f x)
    → together now (tallies f (drop i xs)) ≡ all → together next (tallies f (drop (i + 1) xs)) ≡ all
tally_step f xs i x now next all lt is step before =
    ap (λ t. together t (tallies f (drop (i + 1) xs))) step
    ∙ (together_assoc now (f x) (tallies f (drop (i + 1) xs))
    ∙ (ap (λ l. together now (tallies f l)) (ap (λ y. y ∷ drop (i + 1) xs) is ∙ sym (drop_more xs i x lt)) ∙ before))

pub tally_end : {X : Type 0} (f : X → Tally) (xs : List X) (i : ℕ) (now all : Tally) → length xs ≤ i → together now (tallies f (drop i xs)) ≡ all → now ≡ all
tally_end f xs i now all le before = sym (together_none now) ∙ (ap (λ l. together now (tallies f l)) (sym (drop_all i xs le)) ∙ before)

-- 2. Searches.

pub any_step : {X : Type 0} (f : X → Bool) (xs : List X) (i : ℕ) (x : X) (all : Bool) → i < length xs → x ≡ get_or xs i x → f x ≡ false → list_any f (drop i xs) ≡ all → list_any f (drop (i + 1) xs) ≡ all
any_step f xs i x all lt is off before =
    ap (λ b. b || list_any f (drop (i + 1) xs)) (sym off) ∙ (ap (list_any f) (ap (λ y. y ∷ drop (i + 1) xs) is ∙ sym (drop_more xs i x lt)) ∙ before)

pub any_here : {X : Type 0} (f : X → Bool) (xs : List X) (i : ℕ) (x : X) (all : Bool) → i < length xs → x ≡ get_or xs i x → f x ≡ true → list_any f (drop i xs) ≡ all → true ≡ all
any_here f xs i x all lt is on before =
    ap (λ b. b || list_any f (drop (i + 1) xs)) (sym on) ∙ (ap (list_any f) (ap (λ y. y ∷ drop (i + 1) xs) is ∙ sym (drop_more xs i x lt)) ∙ before)

pub any_end : {X : Type 0} (f : X → Bool) (xs : List X) (i : ℕ) (all : Bool) → length xs ≤ i → list_any f (drop i xs) ≡ all → false ≡ all
any_end f xs i all le before = ap (list_any f) (sym (drop_all i xs le)) ∙ before

-- 3. The members of an owner.

pub methods_named : (path name from : List ℕ) (ms : List DeclaredMethod) → tallies (method_tally path name from) ms ≡ tallies (tally_of name from) (declared_found path (map member_shown ms))
methods_named path name from [] = refl
methods_named path name from (m ∷ ms) = ap (together (method_tally path name from m)) (methods_named path name from ms)

pub fields_named : (ls : List Line) (path name from : List ℕ) (fs : List Field) → tallies (field_tally ls path name from) fs ≡ tallies (tally_of name from) (fields_found nobody path (fields_in ls fs))
fields_named ls path name from [] = refl
fields_named ls path name from (f ∷ fs) = ap (together (field_tally ls path name from f)) (fields_named ls path name from fs)

pub interface_named : (path name from : List ℕ) (ms : List Method) → tallies (interface_tally path name from) ms ≡ tallies (tally_of name from) (methods_found path (method_shapes ms))
interface_named path name from [] = refl
interface_named path name from (m ∷ ms) = ap (together (interface_tally path name from m)) (interface_named path name from ms)

pub method_had : (path name from : List ℕ) (ms : List DeclaredMethod) → list_any (λ m. same_id m.name path name from) ms ≡ has_method path (map member_shown ms) name from
method_had path name from [] = refl
method_had path name from (m ∷ ms) = ap (λ b. same_id m.name path name from || b) (method_had path name from ms)

or_if : (b c : Bool) → b || c ≡ (if b then true else c)
or_if true c = refl
or_if false c = refl

pub methods_spelled : (path name : List ℕ) (ms : List DeclaredMethod) → list_any (λ m. bytes_eq m.name name) ms ≡ is_spelled_in (declared_found path (map member_shown ms)) name
methods_spelled path name [] = refl
methods_spelled path name (m ∷ ms) = or_if (bytes_eq m.name name) (list_any (λ m. bytes_eq m.name name) ms) ∙ ap (λ l. if bytes_eq m.name name then true else l) (methods_spelled path name ms)

pub fields_spelled : (ls : List Line) (path name : List ℕ) (fs : List Field) → list_any (λ f. bytes_eq f.name name) fs ≡ is_spelled_in (fields_found nobody path (fields_in ls fs)) name
fields_spelled ls path name [] = refl
fields_spelled ls path name (f ∷ fs) = or_if (bytes_eq f.name name) (list_any (λ f. bytes_eq f.name name) fs) ∙ ap (λ l. if bytes_eq f.name name then true else l) (fields_spelled ls path name fs)

pub interface_spelled : (path name : List ℕ) (ms : List Method) → list_any (λ m. bytes_eq m.name name) ms ≡ is_spelled_in (methods_found path (method_shapes ms)) name
interface_spelled path name [] = refl
interface_spelled path name (m ∷ ms) = or_if (bytes_eq m.name name) (list_any (λ m. bytes_eq m.name name) ms) ∙ ap (λ l. if bytes_eq m.name name then true else l) (interface_spelled path name ms)

-- the methods of an owner, and the members of its underlying type
pub members_tally : (o : OwnerModel) (name from : List ℕ) (own under : Tally) → own ≡ tallies (tally_of name from) (declared_found o.path o.methods) → under ≡ tallies (tally_of name from) (term_found o o.underlying)
    → together own under ≡ tallies (tally_of name from) (members_of o)
members_tally o name from own under h k =
    ap (λ t. together t under) h ∙ (ap (together (tallies (tally_of name from) (declared_found o.path o.methods))) k ∙ sym (tallies_append (tally_of name from) (declared_found o.path o.methods) (term_found o o.underlying)))

pub members_own : (o : OwnerModel) (name from : List ℕ) (own : Tally) → own ≡ tallies (tally_of name from) (declared_found o.path o.methods) → tallies (tally_of name from) (term_found o o.underlying) ≡ NoHit
    → own ≡ tallies (tally_of name from) (members_of o)
members_own o name from own h k = sym (together_none own) ∙ members_tally o name from own NoHit h (sym k)

-- 4. What a tally says of the places of a list.

abbrev NamedIn : List Named → List ℕ → List ℕ → ℕ → Found → Type 0
NamedIn ns name from i f = (n : Named) × (slice_get ns i ≡ Some n) × SameId n.0 n.1.0 name from × (n.1.1 ≡ f)

abbrev IsCounted : List Named → List ℕ → List ℕ → Tally → Type 0
IsCounted ns name from NoHit = (i : ℕ) (f : Found) → NamedIn ns name from i f → ⊥
IsCounted ns name from (OneHit f) = (i : ℕ) × NamedIn ns name from i f × ((j : ℕ) (g : Found) → NamedIn ns name from j g → i ≡ j)
IsCounted ns name from ManyHits = (i : ℕ) × (f : Found) × NamedIn ns name from i f × ((j : ℕ) × (g : Found) × NamedIn ns name from j g × (i ≡ j → ⊥))

-- the first item, where it is not the identifier's
not_first : (n : Named) (ns : List Named) (name from : List ℕ) (f : Found) → same_id n.0 n.1.0 name from ≡ false → NamedIn (n ∷ ns) name from zero f → ⊥
not_first n ns name from f off h =
    let same : n ≡ h.0 = cc h.1 in
    true≢false (sym (same_id_from h.0.0 h.0.1.0 name from h.2) ∙ (ap (λ (m : Named). same_id m.0 m.1.0 name from) (sym same) ∙ off))

none_behind : (n : Named) (ns : List Named) (name from : List ℕ) → same_id n.0 n.1.0 name from ≡ false → IsCounted ns name from NoHit → IsCounted (n ∷ ns) name from NoHit
none_behind n ns name from off rest zero f h = not_first n ns name from f off h
none_behind n ns name from off rest (suc i) f h = rest i f h

same_behind : (n : Named) (ns : List Named) (name from : List ℕ) (i : ℕ) → same_id n.0 n.1.0 name from ≡ false → ((j : ℕ) (g : Found) → NamedIn ns name from j g → i ≡ j) → (j : ℕ) (g : Found) → NamedIn (n ∷ ns) name from j g → suc i ≡ j
same_behind n ns name from i off same zero g h = absurd (not_first n ns name from g off h)
same_behind n ns name from i off same (suc j) g h = ap suc (same j g h)

first_alone : (n : Named) (ns : List Named) (name from : List ℕ) → IsCounted ns name from NoHit → (j : ℕ) (g : Found) → NamedIn (n ∷ ns) name from j g → zero ≡ j
first_alone n ns name from rest zero g h = refl
first_alone n ns name from rest (suc j) g h = absurd (rest j g h)

counted_step : (n : Named) (ns : List Named) (name from : List ℕ) (b : Bool) (t : Tally) → same_id n.0 n.1.0 name from ≡ b → IsCounted ns name from t → IsCounted (n ∷ ns) name from (together (hit_if b n.1.1) t)
counted_step n ns name from false NoHit is rest = none_behind n ns name from is rest
counted_step n ns name from false (OneHit f) is rest = (suc rest.0, rest.1, same_behind n ns name from rest.0 is rest.2)
counted_step n ns name from false ManyHits is rest = (suc rest.0, rest.1, rest.2, (suc rest.3.0, rest.3.1, rest.3.2, λ e. rest.3.3 (omega arith)))
counted_step n ns name from true NoHit is rest = (zero, (n, refl, same_id_is n.0 n.1.0 name from is, refl), first_alone n ns name from rest)
counted_step n ns name from true (OneHit f) is rest = (zero, n.1.1, (n, refl, same_id_is n.0 n.1.0 name from is, refl), (suc rest.0, f, rest.1, λ e. absurd (omega arith)))
counted_step n ns name from true ManyHits is rest = (zero, n.1.1, (n, refl, same_id_is n.0 n.1.0 name from is, refl), (suc rest.0, rest.1, rest.2, λ e. absurd (omega arith)))

counted : (ns : List Named) (name from : List ℕ) → IsCounted ns name from (tallies (tally_of name from) ns)
counted [] name from = λ i f h. cc h.1
counted (n ∷ ns) name from = counted_step n ns name from (same_id n.0 n.1.0 name from) (tallies (tally_of name from) ns) refl (counted ns name from)

shown_hits : (o : OwnerModel) (name from : List ℕ) (r : Hits) → IsCounted (members_of o) name from (hits_shown r) → AreHits o name from r
shown_hits o name from hits.Nothing h = h
shown_hits o name from (hits.One m) h = h
shown_hits o name from hits.More h = h

-- hits that count as the members do
pub are_hits : (o : OwnerModel) (name from : List ℕ) (r : Hits) → hits_shown r ≡ tallies (tally_of name from) (members_of o) → AreHits o name from r
are_hits o name from r h = shown_hits o name from r (subst (IsCounted (members_of o) name from) (sym h) (counted (members_of o) name from))
