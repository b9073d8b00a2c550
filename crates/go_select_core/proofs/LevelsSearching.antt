-- The search as a whole.
use Rattle.std.proofs.Common.{◌≡◌, ℕ, zero, suc, ◌+◌, ◌<◌, ◌≤◌, Bool, true, false, ◌||◌, List, [], ◌∷◌, length, get_or, Option, Some, None, refl, sym, ap, ◌∙◌, subst, arith, ◌⊎◌, inl, inr}
use Rattle.go_term_core.specs.Terms.{Term, NoType, Predeclared, ErrorType, Defined, PointerTo, StructOf, InterfaceOf}
use Rattle.go_term_core.specs.Shapes.{shape}
use Rattle.go_path_core.specs.text_core.declared.rule.Rule.TheVariants as rules
use Rattle.go_embed_core.specs.table_core.Entries.{Entry, EntryLook, find_entry}
use Rattle.go_embed_core.specs.Owners.{Found, owner_in, has_spelled}
use Rattle.go_embed_core.specs.OwnersShown.{IsNamedAt}
use Rattle.go_select_core.specs.declared.levels.level.Reached.{Reached}
use Rattle.go_select_core.specs.levels.Paths.{FieldsLead, Hit, HasHit, IsSelected, IsAmbiguous, IsMemberSpelled}
use Rattle.go_select_core.specs.levels.Selectors.{IsMissing, ambiguous, hidden, absent}
use Rattle.go_select_core.specs.levels.mirrors.Ways.{At, Way, way_of, ways, root, IsRight, Begins}
use Rattle.go_select_core.specs.levels.mirrors.Levels.{IsWay, IsLevel, IsAbove, HasOne, Spells, entry_weight, weight, bound, height, IsNext, IsOnly, IsClash, IsNone, IsSpelt}
use Rattle.go_select_core.proofs.LevelsListLemmas.{at_within, at_same}
use Rattle.go_select_core.proofs.LevelsWalks.{deeper_above, no_more, selects, clashes}
use Rattle.go_select_core.proofs.LevelsWeights.{height_falls}
use Rattle.go_select_core.proofs.LevelsWayLemmas.{ways_length, ways_at, ways_back}
use Rattle.go_select_core.proofs.LevelsGrowing.{level_next, bounded_next}
use Rattle.go_embed_core.specs.table_core.Nesting.{deepest}

-- whether a type to which a path of at most k fields leads has a member that is spelled so
abbrev pub SpeltWithin : EntryLook → Term → List ℕ → ℕ → Bool → Type 0
SpeltWithin look t name k true = IsMemberSpelled look t name
SpeltWithin look t name k false = IsAbove look t (Spells look name) (k + 1)

-- the search stands behind a level, of which no type has a member of the name
pub record SearchTo (es : List Entry) (t : Term) (name from : List ℕ) (first : ℕ) (paths : List (List ℕ)) (types : List Reached) (met : List (ℕ × ℕ)) (spelled : Bool) : Type 0 where
  pub k : ℕ
  pub sized : length paths ≡ length types
  pub inside : first ≤ length types
  pub level : IsLevel (find_entry es) t k first (ways paths types)
  pub above : IsAbove (find_entry es) t (HasOne (find_entry es) name from) (k + 1)
  pub spelt : SpeltWithin (find_entry es) t name k spelled
  pub right : IsRight es (ways paths types) met
  pub low : (n : ℕ) (x : Way) → At (ways paths types) n x → first ≤ n → weight es x.node ≤ bound es t

empty_path : (look : EntryLook) (t v : Term) (q : List ℕ) (p : Bool) → FieldsLead look t q p v → length q ≡ 0 → (q ≡ []) × (t ≡ v)
empty_path look t v [] p h z = (refl, h.0)
empty_path look t v (i ∷ q) p h z = absurd (omega (arith, z))

only_item : (x y : Way) (n : ℕ) → At (x ∷ []) n y → (n ≡ 0) × (y ≡ x)
only_item x y zero h = (refl, cc)
only_item x y (suc n) h = cc

pub root_low : (es : List Entry) (t : Term) → weight es t ≤ bound es t
root_low es NoType = omega arith
root_low es (Predeclared b) = omega arith
root_low es ErrorType = omega arith
root_low es (Defined k) = by (find_entry es k)
  where
    by : (r : Option Entry) → entry_weight (deepest es) r ≤ bound es (Defined k)
    by None = omega arith
    by (Some e) = omega arith
root_low es (PointerTo u) = omega arith
root_low es (StructOf path fs) = omega arith
root_low es (InterfaceOf path ms) = omega arith

-- no path at all: it leads to the searched type
first_above : (look : EntryLook) (t : Term) (P : Term → Type 0) → (P t → ⊥) → IsAbove look t P 1
first_above look t P none = record { least = λ q p v leads holds. at q p v leads holds }
  where
    at : (q : List ℕ) (p : Bool) (v : Term) → FieldsLead look t q p v → P v → 1 ≤ length q
    at [] p v leads holds = absurd (none (subst P (sym leads.0) holds))
    at (i ∷ q) p v leads holds = omega arith

-- the searched type alone is a level
pub first_level : (es : List Entry) (t : Term) → IsLevel (find_entry es) t 0 0 (root t ∷ [])
first_level es t =
    record {
      each = λ n x at l. subst (λ (w : Way). IsWay (find_entry es) t 0 w) (sym (only_item (root t) x n at).1) (record { leads = (refl, refl); long = refl; other = λ many. cc });
      older = λ n x at. subst (λ (w : Way). FieldsLead (find_entry es) t w.path w.pointer w.node × (length w.path ≤ 0)) (sym (only_item (root t) x n at).1) ((refl, refl), omega arith);
      apart = λ m n x y hx hy lx ly same. (only_item (root t) x m hx).0 ∙ sym (only_item (root t) y n hy).0;
      full = λ q p v leads z. inl (let e = empty_path (find_entry es) t v q p leads z in (0, root t, refl, omega arith, e.1, inr (sym e.0)));
    }

-- what a level says of a name that no shorter path has
module _ (look : EntryLook) (t : Term) (name from : List ℕ) (k first : ℕ) (paths : List (List ℕ)) (types : List Reached) (sized : length paths ≡ length types) (level : IsLevel look t k first (ways paths types))
    (above : IsAbove look t (HasOne look name from) k) where
  type_at : (n : ℕ) (r : Reached) → At types n r → At (ways paths types) n (way_of (get_or paths n []) r)
  type_at n r at = ways_at paths types n r sized at

  -- its only member, with its type's path
  pub level_one : (n : ℕ) (f : Found) → IsOnly look name from types first n f → (x : Way) × At (ways paths types) n x × IsSelected look t name from x.path x.pointer f
  level_one n f o = (
    way_of (get_or paths n []) o.x,
    type_at n o.x o.at,
    selects look t name from k first (ways paths types) n (way_of (get_or paths n []) o.x) o.m f level above (type_at n o.x o.at) o.in_level o.one o.has
        (λ i y j h at' l has. let q = ways_back paths types i y at' in o.only i q.0 j h q.1 l (subst (λ (w : Way). IsNamedAt (owner_in look w.node) name from j h) q.2 has)),
  )

  hit_at : (n : ℕ) (r : Reached) (m : ℕ) (f : Found) → At types n r → first ≤ n → IsNamedAt (owner_in look (shape r.term.now)) name from m f → Hit look t name from (get_or paths n []) r.pointer m f
  hit_at n r m f at l has = record { at = shape r.term.now; leads = (level.each n (way_of (get_or paths n []) r) (type_at n r at) l).leads; has = has }

  -- more than one
  pub level_more : IsClash look name from types first → IsAmbiguous look t name from
  level_more c = by c.more
    where
      w : IsWay look t k (way_of (get_or paths c.n []) c.x)
      w = level.each c.n (way_of (get_or paths c.n []) c.x) (type_at c.n c.x c.at) c.in_level

      by : (c.x.many ≡ true)
          ⊎ ((i : ℕ) × (y : Reached) × (j : ℕ) × (g : Found) × At types i y × (first ≤ i) × IsNamedAt (owner_in look (shape y.term.now)) name from j g × (c.n ≡ i → c.m ≡ j → ⊥)) → IsAmbiguous look t name from
      by (inl many) =
          let o = w.other many in
          clashes look t name from k (get_or paths c.n []) o.0 c.x.pointer o.1 c.m c.m c.f c.f above (hit_at c.n c.x c.m c.f c.at c.in_level c.has) (record { at = shape c.x.term.now; leads = o.2; has = c.has })
          w.long o.3 (λ same m. o.4 (sym same))
      by (inr o) =
          let v = level.each o.0 (way_of (get_or paths o.0 []) o.1) (type_at o.0 o.1 o.4) o.5 in
          clashes look t name from k (get_or paths c.n []) (get_or paths o.0 []) c.x.pointer o.1.pointer c.m o.2 c.f o.3 above (hit_at c.n c.x c.m c.f c.at c.in_level c.has) (hit_at o.0 o.1 o.2 o.3 o.4 o.5 o.6)
          w.long v.long (λ same m. o.7 (level.apart c.n o.0 (way_of (get_or paths c.n []) c.x) (way_of (get_or paths o.0 []) o.1) (type_at c.n c.x c.at) (type_at o.0 o.1 o.4) c.in_level o.5 same) m)

pub search_begin : (es : List Entry) (t : Term) (name from : List ℕ) (paths : List (List ℕ)) (types : List Reached) (met : List (ℕ × ℕ)) (spelled : Bool)
    → (HasOne (find_entry es) name from t → ⊥) → spelled ≡ has_spelled (owner_in (find_entry es) t) name → Begins es t paths types met → SearchTo es t name from 0 paths types met spelled
search_begin es t name from paths types met spelled none is b =
    record {
      k = 0;
      sized = b.sized;
      inside = omega arith;
      level = subst (λ ws. IsLevel (find_entry es) t 0 0 ws) (sym b.only) (first_level es t);
      above = first_above (find_entry es) t (HasOne (find_entry es) name from) none;
      spelt = spelt spelled is;
      right = subst (λ ws. IsRight es ws met) (sym b.only) b.right;
      low = λ n x at l. low n x (subst (λ ws. At ws n x) b.only at);
    }
  where
    spelt : (s : Bool) → s ≡ has_spelled (owner_in (find_entry es) t) name → SpeltWithin (find_entry es) t name 0 s
    spelt true e = ([], false, t, (refl, refl), sym e)
    spelt false e = first_above (find_entry es) t (Spells (find_entry es) name) (λ h. let z : true ≡ false = sym h ∙ sym e in (cc))

    low : (n : ℕ) (x : Way) → At (root t ∷ []) n x → weight es x.node ≤ bound es t
    low n x at = subst (λ (w : Way). weight es w.node ≤ bound es t) (sym (only_item (root t) x n at).1) (root_low es t)

module _ (es : List Entry) (t : Term) (name from : List ℕ) (first : ℕ) (paths paths' : List (List ℕ)) (types types' : List Reached) (met met' : List (ℕ × ℕ)) (spelled : Bool)
    (s : SearchTo es t name from first paths types met spelled) (sized : length paths' ≡ length types') (g : IsNext es first (ways paths types) met (length types) 0 (ways paths' types') met') where
  size : length (ways paths types) ≡ length types
  size = ways_length paths types s.sized

  next : IsNext es first (ways paths types) met (length (ways paths types)) 0 (ways paths' types') met'
  next = subst (λ n. IsNext es first (ways paths types) met n 0 (ways paths' types') met') (sym size) g

  deeper : IsLevel (find_entry es) t (s.k + 1) (length types) (ways paths' types')
  deeper = subst (λ n. IsLevel (find_entry es) t (s.k + 1) n (ways paths' types')) size (level_next es t s.k first (ways paths types) met (ways paths' types') met' s.level next)

  lower : (n : ℕ) (z : Way) → At (ways paths' types') n z → length types ≤ n → weight es z.node ≤ bound es t
  lower n z at l = bounded_next es t s.k first (ways paths types) met (ways paths' types') met' s.level next s.low n z at (omega (arith, size, l))

  at_type : (n : ℕ) (r : Reached) → At types' n r → At (ways paths' types') n (way_of (get_or paths' n []) r)
  at_type n r at = ways_at paths' types' n r sized at

  pub search_next : (h : Bool) → IsNone (find_entry es) name from types' (length types) → IsSpelt (find_entry es) name types' (length types) h → SearchTo es t name from (length types) paths' types' met' (spelled || h)
  search_next h none spelt =
      record {
        k = s.k + 1;
        sized = sized;
        inside = let a = next.longer in let b = ways_length paths' types' sized in omega (arith, a, b, size);
        level = deeper;
        above = deeper_above (find_entry es) t (HasOne (find_entry es) name from) (s.k + 1) (length types) (ways paths' types') deeper s.above (λ n x at l has. let r = ways_back paths' types' n x at in
            none n r.0 has.0 has.1 r.1 l (subst (λ (w : Way). IsNamedAt (owner_in (find_entry es) w.node) name from has.0 has.1) r.2 has.2));
        spelt = by spelled h s.spelt spelt;
        right = g.right;
        low = lower;
      }
    where
      by : (a b : Bool) → SpeltWithin (find_entry es) t name s.k a → IsSpelt (find_entry es) name types' (length types) b → SpeltWithin (find_entry es) t name (s.k + 1) (a || b)
      by true b w v = w
      by false true w v =
          let x = at_type v.0 v.1 v.2 in
          let y = deeper.each v.0 (way_of (get_or paths' v.0 []) v.1) x v.3 in
          (get_or paths' v.0 [], v.1.pointer, shape v.1.term.now, y.leads, v.4)
      by false false w v =
          deeper_above (find_entry es) t (Spells (find_entry es) name) (s.k + 1) (length types) (ways paths' types') deeper w (λ n x at l has. let r = ways_back paths' types' n x at in v n r.0 r.1 l (subst (λ (z : Way). Spells (find_entry es) name z.node) r.2 has))

  pub search_one : (n : ℕ) (f : Found) (r : Reached) → IsOnly (find_entry es) name from types' (length types) n f → At types' n r → IsSelected (find_entry es) t name from (get_or paths' n []) r.pointer f
  search_one n f r o at =
      let one = level_one (find_entry es) t name from (s.k + 1) (length types) paths' types' sized deeper s.above n f o in
      let same : one.0 ≡ way_of (get_or paths' n []) r = at_same (ways paths' types') n one.0 (way_of (get_or paths' n []) r) one.1 (at_type n r at) in
      subst (λ (w : Way). IsSelected (find_entry es) t name from w.path w.pointer f) same one.2

  pub search_more : IsClash (find_entry es) name from types' (length types) → IsAmbiguous (find_entry es) t name from
  search_more c = level_more (find_entry es) t name from (s.k + 1) (length types) paths' types' sized deeper s.above c

  pub search_falls : first < length types → height es t (length types) (ways paths' types') met' < height es t first (ways paths types) met
  search_falls less =
      subst (λ n. height es t n (ways paths' types') met' < height es t first (ways paths types) met) size
      (height_falls es t first (ways paths types) (ways paths' types') met met' (omega (arith, less, size)) (λ n z at l. lower n z at (omega (arith, size, l))) next.falls)

no_hits : (es : List Entry) (t : Term) (name from : List ℕ) (first : ℕ) (paths : List (List ℕ)) (types : List Reached) (met : List (ℕ × ℕ)) (spelled : Bool)
    → SearchTo es t name from first paths types met spelled → length types ≤ first → HasHit (find_entry es) t name from → ⊥
no_hits es t name from first paths types met spelled s all h =
    let size = ways_length paths types s.sized in
    no_more (find_entry es) t (HasOne (find_entry es) name from) s.k first (ways paths types) s.level (record { least = λ q p v leads has. let l = s.above.least q p v leads has in omega (arith, l) }) (omega (arith, size, all)) h.0 h.1 h.4.at h.4.leads (h.2, h.3, h.4.has)

pub search_hidden : (es : List Entry) (t : Term) (name from : List ℕ) (first : ℕ) (paths : List (List ℕ)) (types : List Reached) (met : List (ℕ × ℕ)) (spelled : Bool)
    → SearchTo es t name from first paths types met spelled → length types ≤ first → spelled ≡ true → IsMissing (find_entry es) t name from rules.S3
search_hidden es t name from first paths types met spelled s all is =
    hidden (λ h. no_hits es t name from first paths types met spelled s all h) (subst (λ b. SpeltWithin (find_entry es) t name s.k b) is s.spelt)

pub search_absent : (es : List Entry) (t : Term) (name from : List ℕ) (first : ℕ) (paths : List (List ℕ)) (types : List Reached) (met : List (ℕ × ℕ)) (spelled : Bool)
    → SearchTo es t name from first paths types met spelled → length types ≤ first → spelled ≡ false → IsMissing (find_entry es) t name from rules.S1
search_absent es t name from first paths types met spelled s all is =
    let a : IsAbove (find_entry es) t (Spells (find_entry es) name) (s.k + 1) = subst (λ b. SpeltWithin (find_entry es) t name s.k b) is s.spelt in
    let size = ways_length paths types s.sized in
    absent (λ h. no_hits es t name from first paths types met spelled s all h)
    (λ h. no_more (find_entry es) t (Spells (find_entry es) name) s.k first (ways paths types) s.level (record { least = λ q p v leads has. let l = a.least q p v leads has in omega (arith, l) }) (omega (arith, size, all)) h.0 h.1 h.2 h.3 h.4)

-- a turn of the loop, with a name for the level's end and one for the list of types as it is read
module _ (es : List Entry) (t : Term) (name from : List ℕ) (first end : ℕ) (paths paths' : List (List ℕ)) (types types' shown : List Reached) (met met' : List (ℕ × ℕ)) (spelled : Bool)
    (s : SearchTo es t name from first paths types met spelled) (ends : end ≡ length types) (same : shown ≡ types') (sized : length paths' ≡ length types')
    (g : IsNext es first (ways paths types) met end 0 (ways paths' types') met') where
  whole : IsNext es first (ways paths types) met (length types) 0 (ways paths' types') met'
  whole = subst (λ n. IsNext es first (ways paths types) met n 0 (ways paths' types') met') ends g

  pub turn_next : (h b : Bool) → IsNone (find_entry es) name from shown end × IsSpelt (find_entry es) name shown end h → spelled || h ≡ b → SearchTo es t name from end paths' types' met' b
  turn_next h b j is =
      let k : IsNone (find_entry es) name from types' (length types) × IsSpelt (find_entry es) name types' (length types) h = subst (λ n. IsNone (find_entry es) name from types' n × IsSpelt (find_entry es) name types' n h) ends
      (subst (λ (r : List Reached). IsNone (find_entry es) name from r end × IsSpelt (find_entry es) name r end h) same j) in
      subst (λ c. SearchTo es t name from end paths' types' met' c) is
      (subst (λ n. SearchTo es t name from n paths' types' met' (spelled || h)) (sym ends) (search_next es t name from first paths paths' types types' met met' spelled s sized whole h k.0 k.1))

  pub turn_one : (n : ℕ) (f : Found) (r : Reached) (path : List ℕ) → IsOnly (find_entry es) name from shown end n f → At types' n r → path ≡ get_or paths' n [] → IsSelected (find_entry es) t name from path r.pointer f
  turn_one n f r path o at is =
      subst (λ p. IsSelected (find_entry es) t name from p r.pointer f) (sym is)
      (search_one es t name from first paths paths' types types' met met' spelled s sized whole n f r (subst (λ m. IsOnly (find_entry es) name from types' m n f) ends (subst (λ (q : List Reached). IsOnly (find_entry es) name from q end n f) same o)) at)

  pub turn_more : IsClash (find_entry es) name from shown end → IsMissing (find_entry es) t name from rules.S2
  turn_more c =
      ambiguous (search_more es t name from first paths paths' types types' met met' spelled s sized whole (subst (λ m. IsClash (find_entry es) name from types' m) ends (subst (λ (q : List Reached). IsClash (find_entry es) name from q end) same c)))

  pub turn_falls : first < length types → height es t end (ways paths' types') met' < height es t first (ways paths types) met
  turn_falls less =
      subst (λ n. height es t n (ways paths' types') met' < height es t first (ways paths types) met) (sym ends) (search_falls es t name from first paths paths' types types' met met' spelled s sized whole less)

  pub turn_within : (n : ℕ) (f : Found) → IsOnly (find_entry es) name from shown end n f → n < length types'
  turn_within n f o = let w = at_within shown n o.x o.at in let l = ap length same in omega (arith, w, l)
