-- What lies at a depth: the types that paths of that length lead to, and the members that an identifier names there.
use Rattle.std.proofs.Common.{◌≡◌, ℕ, zero, suc, ◌+◌, ◌≤◌, Bool, true, false, not, ◌&&◌, ◌||◌, List, [], ◌∷◌, length, map, Some, refl, sym, ap, ◌∙◌, subst, arith, inl, inr, if◌then◌else◌}
use Rattle.std.specs.Prelude.{slice_get}
use Rattle.go_denote_core.specs.text_core.Text.{SameId}
use Rattle.go_term_core.specs.Terms.{Term, NoType, Predeclared, ErrorType, Defined, PointerTo, StructOf, InterfaceOf, Fields, NoField, AField}
use Rattle.go_term_core.proofs.Members.{In, contained_in, in_back, in_either, in_front, in_map, map_in}
use Rattle.go_table_core.specs.Entries.{EntryLook, same_id, has_method}
use Rattle.go_mset_core.specs.embed_core.Owners.{OwnerModel, EmbeddedEdge, embedded_edge, owner_in, embedded_edges, term_embedded, embedded_in, Found, Named, members_of}
use Rattle.go_mset_core.specs.embed_core.OwnersShown.{IsNamedAt}
use Rattle.go_mset_core.specs.select_core.LevelsPaths.{Step, FieldsLead, Hit}
use Rattle.go_mset_core.specs.select_core.LevelsEdges.{above, step_edge}
use Rattle.go_handle_core.specs.deciding.Selecting.{Trail, trail, behind_edge, behind_edges, trails_of, Match, match_at, matches_among, matches_behind, matches_of}
use Rattle.go_handle_core.proofs.DecidingLists.{Apart, apart_append, apart_map}
use Rattle.go_handle_core.proofs.DecidingAlike.{decides_id}

-- trails

behind_found : (f : Term → List Trail) (es : List EmbeddedEdge) (w : Trail) → In (behind_edges f es) w → (e : EmbeddedEdge) × In es e × ((v : Trail) × In (f e.target) v × (behind_edge e v ≡ w))
behind_found f [] w h = absurd h
behind_found f (e ∷ es) w h =
    elim (in_either (map (behind_edge e) (f e.target)) (behind_edges f es) w h) [
      | inl k ↦ (e, inl refl, map_in (behind_edge e) (f e.target) w k)
      | inr k ↦ let r = behind_found f es w k in (r.0, inr r.1, r.2)
    ]

found_behind : (f : Term → List Trail) (es : List EmbeddedEdge) (e : EmbeddedEdge) (v : Trail) → In es e → In (f e.target) v → In (behind_edges f es) (behind_edge e v)
found_behind f [] e v h k = absurd h
found_behind f (x ∷ es) e v (inl s) k =
    in_front (map (behind_edge x) (f x.target)) (behind_edges f es) (behind_edge e v)
    (subst (λ y. In (map (behind_edge x) (f x.target)) (behind_edge y v)) s (in_map (behind_edge x) (f x.target) v (subst (λ (y : EmbeddedEdge). In (f y.target) v) (sym s) k)))
found_behind f (x ∷ es) e v (inr h) k = in_back (map (behind_edge x) (f x.target)) (behind_edges f es) (behind_edge e v) (found_behind f es e v h k)

edge_step : (look : EntryLook) (t : Term) (e : EmbeddedEdge) → In (embedded_in (owner_in look t)) e → Step look t e.position e.pointer e.target
unfolding Step
edge_step look t e h = (e, contained_in (embedded_in (owner_in look t)) e h, refl, refl, refl)

-- each is led to by its path, which is as long as it is deep
abbrev IsLed : EntryLook → ℕ → Term → Trail → Type 0
IsLed look depth t w = FieldsLead look t w.path w.pointer w.node × (length w.path ≡ depth)

pub led : (look : EntryLook) (depth : ℕ) (t : Term) (w : Trail) → In (trails_of look depth t) w → IsLed look depth t w
led look zero t w (inl e) = subst (λ v. IsLed look zero t v) e ((refl, refl), refl)
led look zero t w (inr h) = absurd h
led look (suc depth) t w h =
    let r = behind_found (trails_of look depth) (embedded_in (owner_in look t)) w h in
    let l = led look depth r.0.target r.2.0 r.2.1 in
    subst (λ v. IsLed look (suc depth) t v) r.2.2 ((r.0.target, r.0.pointer, r.2.0.pointer, edge_step look t r.0 r.1, l.0, refl), ap (λ k. suc k) l.1)

-- and each path leads to one
pub leading : (look : EntryLook) (t : Term) (q : List ℕ) (p : Bool) (u : Term) → FieldsLead look t q p u → In (trails_of look (length q) t) (trail q p u)
leading look t [] p u h = inl (λ i. trail [] (sym h.1 i) (h.0 i))
leading look t (i ∷ q) p u h =
    let x = step_edge look t i h.1 h.0 h.3 in
    let deeper : In (trails_of look (length q) x.0.target) (trail q h.2 u) = subst (λ v. In (trails_of look (length q) v) (trail q h.2 u)) (sym x.5) (leading look h.0 q h.2 u h.4) in
    let there = found_behind (trails_of look (length q)) (embedded_in (owner_in look t)) x.0 (trail q h.2 u) x.2 deeper in
    let passes : x.0.pointer || h.2 ≡ p = ap (λ b. b || h.2) x.4 ∙ sym h.5 in
    subst (λ w. In (trails_of look (suc (length q)) t) w) (λ k. trail (x.3 k ∷ q) (passes k) u) there

-- trails of one depth have paths that differ

abbrev SamePlace : EmbeddedEdge → EmbeddedEdge → Type 0
SamePlace e f = e.position ≡ f.position

abbrev SamePath : Trail → Trail → Type 0
SamePath w v = w.path ≡ v.path

apart_step : (b : Bool) (i : ℕ) (t : Term) (rest : List EmbeddedEdge) → ((e : EmbeddedEdge) → In rest e → suc i ≤ e.position) → Apart SamePlace rest → Apart SamePlace (if b then embedded_edge i t ∷ rest else rest)
apart_step true i t rest higher a = (λ e h same. let l = higher e h in omega (arith, l, same), a)
apart_step false i t rest higher a = a

fields_apart : (o : OwnerModel) (path : List ℕ) (i : ℕ) (fs : Fields) → Apart SamePlace (embedded_edges o path i fs)
fields_apart o path i NoField = tt
fields_apart o path i (AField name place embedded t tag fs) =
    apart_step (embedded && not (has_method o.path o.methods name path)) i t (embedded_edges o path (suc i) fs) (λ e h. above o path (suc i) fs e h) (fields_apart o path (suc i) fs)

edges_apart : (o : OwnerModel) (u : Term) → Apart SamePlace (term_embedded o u)
edges_apart o NoType = tt
edges_apart o (Predeclared b) = tt
edges_apart o ErrorType = tt
edges_apart o (Defined k) = tt
edges_apart o (PointerTo t) = tt
edges_apart o (StructOf path fs) = fields_apart o path 0 fs
edges_apart o (InterfaceOf path ms) = tt

heads : (i j : ℕ) (p q : List ℕ) → i ∷ p ≡ j ∷ q → i ≡ j
heads i j p q h = cc

tails : (i j : ℕ) (p q : List ℕ) → i ∷ p ≡ j ∷ q → p ≡ q
tails i j p q h = cc

behind_apart : (f : Term → List Trail) (es : List EmbeddedEdge) → Apart SamePlace es → ((u : Term) → Apart SamePath (f u)) → Apart SamePath (behind_edges f es)
behind_apart f [] a each = tt
behind_apart f (e ∷ es) a each =
    apart_append SamePath (map (behind_edge e) (f e.target)) (behind_edges f es)
    (apart_map SamePath SamePath (behind_edge e) (f e.target) (λ x y s. tails e.position e.position x.path y.path s) (each e.target))
    (behind_apart f es a.1 each)
    (λ x y h k s.
    let m = map_in (behind_edge e) (f e.target) x h in
    let n = behind_found f es y k in
    a.0 n.0 n.1 (heads e.position n.0.position m.0.path n.2.0.path (ap (λ (v : Trail). v.path) m.2 ∙ s ∙ sym (ap (λ (v : Trail). v.path) n.2.2))))

pub trails_apart : (look : EntryLook) (depth : ℕ) (t : Term) → Apart SamePath (trails_of look depth t)
trails_apart look zero t = (λ y h. absurd h, tt)
trails_apart look (suc depth) t = behind_apart (trails_of look depth) (embedded_in (owner_in look t)) (edges_apart (owner_in look t) (owner_in look t).underlying) (λ u. trails_apart look depth u)

-- members that an identifier names

module _ (w : Trail) (name from : List ℕ) where
  -- a member of a list, whose numbers begin at one
  abbrev IsAmong : ℕ → List Named → Match → Type 0
  IsAmong i ns m = (m.trail ≡ w) × ((j : ℕ) × (n : Named) × (m.number ≡ i + j) × (slice_get ns j ≡ Some n) × SameId n.0 n.1.0 name from × (n.1.1 ≡ m.member))

  among_step : (b : Bool) (i : ℕ) (n : Named) (ns : List Named) (rest : List Match) (m : Match) → same_id n.0 n.1.0 name from ≡ b → (In rest m → IsAmong (suc i) ns m)
      → In (if b then match_at w i n.1.1 ∷ rest else rest) m → IsAmong i (n ∷ ns) m
  among_step true i n ns rest m is more (inl e) =
      let number : m.number ≡ i = sym (ap (λ (x : Match). x.number) e) in
      (sym (ap (λ (x : Match). x.trail) e), (0, n, omega (arith, number), refl, (decides_id n.0 n.1.0 name from).0 is, ap (λ (x : Match). x.member) e))
  among_step true i n ns rest m is more (inr h) = let r = more h in (r.0, (suc r.1.0, r.1.1, (let e = r.1.2 in omega (arith, e)), r.1.3, r.1.4, r.1.5))
  among_step false i n ns rest m is more h = let r = more h in (r.0, (suc r.1.0, r.1.1, (let e = r.1.2 in omega (arith, e)), r.1.3, r.1.4, r.1.5))

  among : (i : ℕ) (ns : List Named) (m : Match) → In (matches_among w name from i ns) m → IsAmong i ns m
  among i [] m h = absurd h
  among i (n ∷ ns) m h = among_step (same_id n.0 n.1.0 name from) i n ns (matches_among w name from (suc i) ns) m refl (λ r. among (suc i) ns m r) h

  here_in : (b : Bool) (x : Match) (rest : List Match) → b ≡ true → In (if b then x ∷ rest else rest) x
  here_in true x rest is = inl refl
  here_in false x rest is = cc

  later_in : (b : Bool) (x y : Match) (rest : List Match) → In rest y → In (if b then x ∷ rest else rest) y
  later_in true x y rest h = inr h
  later_in false x y rest h = h

  among_found : (i : ℕ) (ns : List Named) (j : ℕ) (n : Named) → slice_get ns j ≡ Some n → SameId n.0 n.1.0 name from → In (matches_among w name from i ns) (match_at w (i + j) n.1.1)
  among_found i [] j n h same = cc
  among_found i (x ∷ ns) zero n h same =
      let e : x ≡ n = (cc) in
      let number : i + 0 ≡ i = omega arith in
      let there = here_in (same_id x.0 x.1.0 name from) (match_at w i x.1.1) (matches_among w name from (suc i) ns) ((decides_id x.0 x.1.0 name from).1 (subst (λ (y : Named). SameId y.0 y.1.0 name from) (sym e) same)) in
      subst (λ m. In (matches_among w name from i (x ∷ ns)) m) (λ k. match_at w (sym number k) (e k).1.1) there
  among_found i (x ∷ ns) (suc j) n h same =
      let number : suc i + j ≡ i + suc j = omega arith in
      let there = later_in (same_id x.0 x.1.0 name from) (match_at w i x.1.1) (match_at w (suc i + j) n.1.1) (matches_among w name from (suc i) ns) (among_found (suc i) ns j n h same) in
      subst (λ m. In (matches_among w name from i (x ∷ ns)) m) (λ k. match_at w (number k) n.1.1) there

abbrev pub SameMatch : Match → Match → Type 0
SameMatch m n = (m.trail.path ≡ n.trail.path) × (m.number ≡ n.number)

among_apart_step : (b : Bool) (x : Match) (rest : List Match) → ((m : Match) → In rest m → suc x.number ≤ m.number) → Apart SameMatch rest → Apart SameMatch (if b then x ∷ rest else rest)
among_apart_step true x rest higher a = (λ m h same. let l = higher m h in let e = same.1 in omega (arith, l, e), a)
among_apart_step false x rest higher a = a

among_apart : (w : Trail) (name from : List ℕ) (i : ℕ) (ns : List Named) → Apart SameMatch (matches_among w name from i ns)
among_apart w name from i [] = tt
among_apart w name from i (n ∷ ns) =
    among_apart_step (same_id n.0 n.1.0 name from) (match_at w i n.1.1) (matches_among w name from (suc i) ns)
    (λ m h. let r = among w name from (suc i) ns m h in let e = r.1.2 in omega (arith, e)) (among_apart w name from (suc i) ns)

abbrev IsMatch : EntryLook → List ℕ → List ℕ → List Trail → Match → Type 0
IsMatch look name from ws m = In ws m.trail × IsNamedAt (owner_in look m.trail.node) name from m.number m.member

matched : (look : EntryLook) (name from : List ℕ) (ws : List Trail) (m : Match) → In (matches_behind look name from ws) m → IsMatch look name from ws m
matched look name from [] m h = absurd h
matched look name from (w ∷ ws) m h =
    elim (in_either (matches_among w name from 0 (members_of (owner_in look w.node))) (matches_behind look name from ws) m h) [
      | inl k ↦
          let r = among w name from 0 (members_of (owner_in look w.node)) m k in
          let number : r.1.0 ≡ m.number = (let e = r.1.2 in omega (arith, e)) in
          let there : IsNamedAt (owner_in look w.node) name from m.number m.member = (r.1.1, subst (λ j. slice_get (members_of (owner_in look w.node)) j ≡ Some r.1.1) number r.1.3, r.1.4, r.1.5) in
          (inl (sym r.0), subst (λ (v : Trail). IsNamedAt (owner_in look v.node) name from m.number m.member) (sym r.0) there)
      | inr k ↦ let r = matched look name from ws m k in (inr r.0, r.1)
    ]

matching : (look : EntryLook) (name from : List ℕ) (ws : List Trail) (w : Trail) (n : ℕ) (f : Found) → In ws w → IsNamedAt (owner_in look w.node) name from n f → In (matches_behind look name from ws) (match_at w n f)
matching look name from [] w n f h has = absurd h
matching look name from (v ∷ ws) w n f (inl e) has =
    let own : IsNamedAt (owner_in look v.node) name from n f = subst (λ (x : Trail). IsNamedAt (owner_in look x.node) name from n f) (sym e) has in
    let there = among_found v name from 0 (members_of (owner_in look v.node)) n own.0 own.1 own.2 in
    let number : 0 + n ≡ n = omega arith in
    in_front (matches_among v name from 0 (members_of (owner_in look v.node))) (matches_behind look name from ws) (match_at w n f)
    (subst (λ m. In (matches_among v name from 0 (members_of (owner_in look v.node))) m) (λ k. match_at (e k) (number k) (own.3 k)) there)
matching look name from (v ∷ ws) w n f (inr h) has =
    in_back (matches_among v name from 0 (members_of (owner_in look v.node))) (matches_behind look name from ws) (match_at w n f) (matching look name from ws w n f h has)

matches_apart : (look : EntryLook) (name from : List ℕ) (ws : List Trail) → Apart SamePath ws → Apart SameMatch (matches_behind look name from ws)
matches_apart look name from [] a = tt
matches_apart look name from (w ∷ ws) a =
    apart_append SameMatch (matches_among w name from 0 (members_of (owner_in look w.node))) (matches_behind look name from ws)
    (among_apart w name from 0 (members_of (owner_in look w.node))) (matches_apart look name from ws a.1)
    (λ x y h k same.
    let r = among w name from 0 (members_of (owner_in look w.node)) x h in
    let s = matched look name from ws y k in
    a.0 y.trail s.0 (sym (ap (λ (v : Trail). v.path) r.0) ∙ same.0))

-- the matches of a depth are the hits whose paths are so long, each once

pub hit_of : (look : EntryLook) (t : Term) (name from : List ℕ) (depth : ℕ) (m : Match) → In (matches_of look t name from depth) m
    → Hit look t name from m.trail.path m.trail.pointer m.number m.member × (length m.trail.path ≡ depth)
hit_of look t name from depth m h =
    let r = matched look name from (trails_of look depth t) m h in
    let l = led look depth t m.trail r.0 in
    (record { at = m.trail.node; leads = l.0; has = r.1 }, l.1)

pub of_hit : (look : EntryLook) (t : Term) (name from : List ℕ) (q : List ℕ) (p : Bool) (n : ℕ) (f : Found) (h : Hit look t name from q p n f)
    → In (matches_of look t name from (length q)) (match_at (trail q p h.at) n f)
of_hit look t name from q p n f h = matching look name from (trails_of look (length q) t) (trail q p h.at) n f (leading look t q p h.at h.leads) h.has

pub all_apart : (look : EntryLook) (t : Term) (name from : List ℕ) (depth : ℕ) → Apart SameMatch (matches_of look t name from depth)
all_apart look t name from depth = matches_apart look name from (trails_of look depth t) (trails_apart look depth t)
