-- What is spelled as a member, by what is known of identifiers.
use Rattle.std.proofs.Common.{◌≡◌, ℕ, zero, suc, Bool, true, false, not, ◌&&◌, ◌||◌, List, [], ◌∷◌, Option, Some, None, cond, if◌then◌else◌, refl, sym, ap, ◌∙◌, subst, ◌⊎◌, inl, inr}
use Rattle.std.specs.Prelude.{slice_get}
use Rattle.std.specs.Str.{bytes_eq, chars}
use Rattle.std.proofs.lemmas.Bool.{true≢false, and_parts, and_from, or_left, or_right, not-true}
use Rattle.std.proofs.lemmas.Slice.Eq.{bytes_eq-Decides}
use Rattle.go_path_core.specs.text_core.Text.{exported}
use Rattle.go_path_core.specs.text_core.Each.{true_or_false}
use Rattle.go_term_core.specs.Terms.{Term}
use Rattle.go_embed_core.specs.table_core.Entries.{EntryLook}
use Rattle.go_embed_core.specs.Owners.{Named, owner_in, members_of, is_spelled_in}
use Rattle.go_select_core.specs.declared.levels.level.Reached.{Reached}
use Rattle.go_select_core.specs.levels.Paths.{HasHit, IsMemberSpelled}
use Rattle.go_select_core.specs.declared.names.Known.{Known}
use Rattle.go_select_core.specs.declared.names.Known.TheVariants.{One, More}
use Rattle.go_select_core.specs.mirrors.Names.{Identifier, identifier_of, same_identifier, known_of}
use Rattle.go_select_core.proofs.Identifiers.{identifiers_same, same_identifiers}
use Rattle.go_select_core.specs.surveys.mirrors.Walks.{IsDenotedSo, AreDenoted}
use Rattle.go_select_core.specs.surveys.mirrors.Seen.{has_hidden}
use Rattle.go_select_core.specs.surveys.mirrors.Told.{IsSpelledSo}

-- 1. Names that are spelled so among members.

if_on : (b c : Bool) → b ≡ true → (if b then true else c) ≡ true
if_on true c h = refl
if_on false c h = absurd (true≢false (sym h))

if_behind : (b c : Bool) → c ≡ true → (if b then true else c) ≡ true
if_behind true c h = refl
if_behind false c h = h

spelled_at : (ns : List Named) (i : ℕ) (n : Named) (name : List ℕ) → slice_get ns i ≡ Some n → n.0 ≡ name → is_spelled_in ns name ≡ true
spelled_at [] i n name at is = cc
spelled_at (m ∷ ns) zero n name at is =
    let s : m ≡ n = (cc) in
    if_on (bytes_eq m.0 name) (is_spelled_in ns name) ((bytes_eq-Decides m.0 name).1 (ap (λ (q : Named). q.0) s ∙ is))
spelled_at (m ∷ ns) (suc i) n name at is = if_behind (bytes_eq m.0 name) (is_spelled_in ns name) (spelled_at ns i n name at is)

named_so : (ns : List Named) (name : List ℕ) → is_spelled_in ns name ≡ true → (i : ℕ) × (n : Named) × (slice_get ns i ≡ Some n) × (n.0 ≡ name)
named_so [] name h = absurd (true≢false (sym h))
named_so (m ∷ ns) name h = by (named_so ns name) (true_or_false (bytes_eq m.0 name))
  where
    by : (is_spelled_in ns name ≡ true → (i : ℕ) × (n : Named) × (slice_get ns i ≡ Some n) × (n.0 ≡ name)) → (bytes_eq m.0 name ≡ true) ⊎ (bytes_eq m.0 name ≡ false)
        → (i : ℕ) × (n : Named) × (slice_get (m ∷ ns) i ≡ Some n) × (n.0 ≡ name)
    by rest (inl e) = (0, m, refl, (bytes_eq-Decides m.0 name).0 e)
    by rest (inr e) =
        let r = rest (sym (ap (λ b. if b then true else is_spelled_in ns name) e) ∙ h) in
        (suc r.0, r.1, r.2, r.3)

module _ (look : EntryLook) (t : Term) (name : List ℕ) where
  hit_spelled : (from : List ℕ) → HasHit look t name from → IsMemberSpelled look t name
  hit_spelled from h = (h.0, h.1, h.4.at, h.4.leads, spelled_at (members_of (owner_in look h.4.at)) h.2 h.4.has.0 name h.4.has.1 h.4.has.2.0)

  spelled_hit : IsMemberSpelled look t name → (from : List ℕ) × HasHit look t name from
  spelled_hit h =
      let n = named_so (members_of (owner_in look h.2)) name h.4 in
      (n.1.1.0, (h.0, h.1, n.0, n.1.1.1, record { at = h.2; leads = h.3; has = (n.1, n.2, (n.3, inr refl), refl) }))

  denoted_hit : (from : List ℕ) (paths : List (List ℕ)) (types : List Reached) (known : Known) → IsDenotedSo look t name from paths types (Some known) → HasHit look t name from
  denoted_hit from paths types (One n m) h = (_, h.0.pointer, h.2.number, _, h.2.hit)
  denoted_hit from paths types More h = h.some

-- 2. Identifiers that are not exported.

closed_of : (name home : List ℕ) → exported (chars name) ≡ false → identifier_of name home ≡ (name, home)
closed_of name home off = λ i. (name, if off i then [] else home)

open_of : (name home from : List ℕ) → exported (chars name) ≡ true → identifier_of name home ≡ identifier_of name from
open_of name home from on = (λ i. (name, if on i then [] else home)) ∙ sym (λ i. (name, if on i then [] else from))

some_either : (b : Bool) (v : Known) (o : Option Known) → (k : Known) × (o ≡ Some k) → (k : Known) × (cond b (Some v) o ≡ Some k)
some_either true v o h = (v, refl)
some_either false v o h = h

module _ (name : List ℕ) where
  hidden_known : (ns : List (Identifier × Known)) → has_hidden ns name ≡ true → (home : List ℕ) × (exported (chars name) ≡ false) × (k : Known) × (known_of ns (name, home) ≡ Some k)
  hidden_known [] h = absurd (true≢false (sym h))
  hidden_known (e ∷ ns) h = by (hidden_known ns) (true_or_false (bytes_eq name e.0.0 && not (exported (chars e.0.0))))
    where
      by : (has_hidden ns name ≡ true → (home : List ℕ) × (exported (chars name) ≡ false) × (k : Known) × (known_of ns (name, home) ≡ Some k))
          → (bytes_eq name e.0.0 && not (exported (chars e.0.0)) ≡ true) ⊎ (bytes_eq name e.0.0 && not (exported (chars e.0.0)) ≡ false)
          → (home : List ℕ) × (exported (chars name) ≡ false) × (k : Known) × (known_of (e ∷ ns) (name, home) ≡ Some k)
      by rest (inl on) =
          let p = and_parts (bytes_eq name e.0.0) (not (exported (chars e.0.0))) on in
          let s : name ≡ e.0.0 = (bytes_eq-Decides name e.0.0).0 p.0 in
          let there : same_identifier (name, e.0.1) e.0 ≡ true = same_identifiers (name, e.0.1) e.0 (λ i. (s i, e.0.1)) in
          (e.0.1, ap (λ n. exported (chars n)) s ∙ not-true (exported (chars e.0.0)) p.1, e.1, ap (λ b. cond b (Some e.1) (known_of ns (name, e.0.1))) there)
      by rest (inr off) =
          let r = rest (sym (ap (λ b. b || has_hidden ns name) off) ∙ h) in
          let k = some_either (same_identifier (name, r.0) e.0) e.1 (known_of ns (name, r.0)) (r.2, r.3) in
          (r.0, r.1, k.0, k.1)

  known_hidden : (ns : List (Identifier × Known)) (home : List ℕ) (k : Known) → exported (chars name) ≡ false → known_of ns (name, home) ≡ Some k → has_hidden ns name ≡ true
  known_hidden [] home k off h = cc
  known_hidden (e ∷ ns) home k off h = by (known_hidden ns home k off) (true_or_false (same_identifier (name, home) e.0))
    where
      by : (known_of ns (name, home) ≡ Some k → has_hidden ns name ≡ true) → (same_identifier (name, home) e.0 ≡ true) ⊎ (same_identifier (name, home) e.0 ≡ false) → has_hidden (e ∷ ns) name ≡ true
      by rest (inl on) =
          let s : name ≡ e.0.0 = ap (λ (q : Identifier). q.0) (identifiers_same (name, home) e.0 on) in
          or_left (bytes_eq name e.0.0 && not (exported (chars e.0.0))) (has_hidden ns name)
          (and_from (bytes_eq name e.0.0) (not (exported (chars e.0.0))) ((bytes_eq-Decides name e.0.0).1 s) (ap not (sym (ap (λ n. exported (chars n)) s) ∙ off)))
      by rest (inr on) = or_right (bytes_eq name e.0.0 && not (exported (chars e.0.0))) (has_hidden ns name) (rest (sym (ap (λ b. cond b (Some e.1) (known_of ns (name, home))) on) ∙ h))

-- 3. Whether a member is spelled as a name that denotes nothing.

module _ (look : EntryLook) (t : Term) (name from : List ℕ) (paths : List (List ℕ)) (types : List Reached) (ns : List (Identifier × Known)) (w : AreDenoted look t paths types ns) where
  hit_of : (home : List ℕ) (k : Known) → known_of ns (identifier_of name home) ≡ Some k → HasHit look t name home
  hit_of home k e = denoted_hit look t name home paths types k (subst (IsDenotedSo look t name home paths types) e (w.each name home))

  known_hit : (home : List ℕ) → HasHit look t name home → (k : Known) × (known_of ns (identifier_of name home) ≡ Some k)
  known_hit home h = by (known_of ns (identifier_of name home)) refl
    where
      by : (o : Option Known) → known_of ns (identifier_of name home) ≡ o → (k : Known) × (known_of ns (identifier_of name home) ≡ Some k)
      by None e = absurd (let none : IsDenotedSo look t name home paths types None = subst (IsDenotedSo look t name home paths types) e (w.each name home) in none h)
      by (Some k) e = (k, e)

  hidden_spelled : has_hidden ns name ≡ true → IsMemberSpelled look t name
  hidden_spelled h =
      let k = hidden_known name ns h in
      hit_spelled look t name k.0 (hit_of k.0 k.2 (ap (known_of ns) (closed_of name k.0 k.1) ∙ k.3))

  spelled_hidden : known_of ns (identifier_of name from) ≡ None → IsMemberSpelled look t name → has_hidden ns name ≡ true
  spelled_hidden none h =
      let s = spelled_hit look t name h in
      let k = known_hit s.0 s.1 in
      elim (true_or_false (exported (chars name))) [
        | inl on ↦ absurd (let z : None ≡ Some k.0 = sym none ∙ (sym (ap (known_of ns) (open_of name s.0 from on)) ∙ k.1) in (cc))
        | inr off ↦ known_hidden name ns s.0 k.0 off (sym (ap (known_of ns) (closed_of name s.0 off)) ∙ k.1)
      ]

  pub spelled_so : IsSpelledSo look t name (known_of ns (identifier_of name from)) (has_hidden ns name)
  spelled_so = by (known_of ns (identifier_of name from)) refl (has_hidden ns name) refl
    where
      by : (o : Option Known) → known_of ns (identifier_of name from) ≡ o → (b : Bool) → has_hidden ns name ≡ b → IsSpelledSo look t name o b
      by (Some k) e b h = tt
      by None e true h = hidden_spelled h
      by None e false h = λ sp. true≢false (sym (spelled_hidden e sp) ∙ h)
