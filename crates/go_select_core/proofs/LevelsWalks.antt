-- Paths put together and cut, and what a level says of hits.
use Rattle.std.proofs.Common.{◌≡◌, ℕ, zero, suc, ◌+◌, ◌<◌, ◌≤◌, Bool, false, ◌||◌, List, [], ◌∷◌, ◌++◌, length, refl, sym, ap, ◌∙◌, subst, arith, ◌⊎◌, inl, inr, length-append}
use Rattle.go_term_core.specs.Terms.{Term}
use Rattle.go_embed_core.specs.table_core.Entries.{EntryLook}
use Rattle.go_embed_core.specs.Owners.{Found, owner_in}
use Rattle.go_embed_core.specs.OwnersShown.{IsNamedAt}
use Rattle.go_select_core.specs.levels.Paths.{Step, FieldsLead, Hit, IsSelected, IsAmbiguous}
use Rattle.go_select_core.specs.levels.mirrors.Ways.{At, Way}
use Rattle.go_select_core.specs.levels.mirrors.Levels.{Covers, IsLevel, IsAbove, HasOne}
use Rattle.go_select_core.proofs.LevelsListLemmas.{at_same, at_within, or_assoc, or_false, above_or_same, front_of, true_false}
use Rattle.go_select_core.proofs.LevelsEdges.{step_same}

pub leads_same : (look : EntryLook) (t : Term) (q : List ℕ) (a b : Bool) (u v : Term) → FieldsLead look t q a u → FieldsLead look t q b v → (a ≡ b) × (u ≡ v)
leads_same look t [] a b u v h g = (h.1 ∙ sym g.1, sym h.0 ∙ g.0)
leads_same look t (i ∷ q) a b u v h g =
    let s = step_same look t i h.1 g.1 h.0 g.0 h.3 g.3 in
    let r = leads_same look g.0 q h.2 g.2 u v (subst (λ w. FieldsLead look w q h.2 u) s.1 h.4) g.4 in
    (h.5 ∙ ap (λ x. x || h.2) s.0 ∙ ap (λ x. g.1 || x) r.0 ∙ sym g.5, r.1)

pub leads_append : (look : EntryLook) (t : Term) (q r : List ℕ) (a b : Bool) (v u : Term) → FieldsLead look t q a v → FieldsLead look v r b u → FieldsLead look t (q ++ r) (a || b) u
leads_append look t [] r a b v u h g =
    subst (λ x. FieldsLead look t r (x || b) u) (sym h.1) (subst (λ w. FieldsLead look w r b u) (sym h.0) g)
leads_append look t (i ∷ q) r a b v u h g =
    (h.0, h.1, h.2 || b, h.3, leads_append look h.0 q r h.2 b v u h.4 g, ap (λ x. x || b) h.5 ∙ or_assoc h.1 h.2 b)

pub leads_step : (look : EntryLook) (t : Term) (q : List ℕ) (a : Bool) (v : Term) (i : ℕ) (p : Bool) (u : Term) → FieldsLead look t q a v → Step look v i p u → FieldsLead look t (q ++ i ∷ []) (a || p) u
leads_step look t q a v i p u h s = leads_append look t q (i ∷ []) a p v u h (u, p, false, s, (refl, refl), sym (or_false p))

pub leads_cut : (look : EntryLook) (t : Term) (q r : List ℕ) (a : Bool) (u : Term) → FieldsLead look t (q ++ r) a u
    → (v : Term) × (b : Bool) × (c : Bool) × FieldsLead look t q b v × FieldsLead look v r c u
leads_cut look t [] r a u h = (t, false, a, (refl, refl), h)
leads_cut look t (i ∷ q) r a u h =
    let c = leads_cut look h.0 q r h.2 u h.4 in
    (c.0, h.1 || c.1, c.2, (h.0, h.1, c.1, h.3, c.3, refl), c.4)

pub leads_back : (look : EntryLook) (t : Term) (q : List ℕ) (i : ℕ) (a : Bool) (u : Term) → FieldsLead look t (q ++ i ∷ []) a u
    → (v : Term) × (b : Bool) × (p : Bool) × FieldsLead look t q b v × Step look v i p u
leads_back look t q i a u h =
    let c = leads_cut look t q (i ∷ []) a u h in
    (c.0, c.1, c.4.1, c.3, subst (λ w. Step look c.0 i c.4.1 w) c.4.4.0 c.4.3)

-- where no path shorter than k leads to a type of which P holds, one of length k has its type in the level
pub found_in : (look : EntryLook) (t : Term) (P : Term → Type 0) (k first : ℕ) (ws : List Way) (q : List ℕ) (p : Bool) (v : Term)
    → IsLevel look t k first ws → IsAbove look t P k → FieldsLead look t q p v → P v → length q ≡ k → Covers first ws q v
found_in look t P k first ws q p v l a leads holds long =
    elim (l.full q p v leads long) [
      | inl c ↦ c
      | inr s ↦ absurd (let low : k ≤ length s.0 = a.least s.0 s.1 v s.2 holds in omega (arith, low, s.3))
    ]

-- a level without a type of which P holds: paths to one are longer
pub deeper_above : (look : EntryLook) (t : Term) (P : Term → Type 0) (k first : ℕ) (ws : List Way)
    → IsLevel look t k first ws → IsAbove look t P k → ((n : ℕ) (x : Way) → At ws n x → first ≤ n → P x.node → ⊥) → IsAbove look t P (k + 1)
deeper_above look t P k first ws l a none = record { least = λ q p v leads holds. at q p v leads holds (above_or_same k (length q) (a.least q p v leads holds)) }
  where
    at : (q : List ℕ) (p : Bool) (v : Term) → FieldsLead look t q p v → P v → (k ≡ length q) ⊎ (k < length q) → k + 1 ≤ length q
    at q p v leads holds (inr s) = omega arith
    at q p v leads holds (inl s) =
        let c = found_in look t P k first ws q p v l a leads holds (sym s) in
        absurd (none c.0 c.1 c.2 c.3 (subst P (sym c.4) holds))

-- an empty level: no path at all leads to a type of which P holds
pub no_more : (look : EntryLook) (t : Term) (P : Term → Type 0) (k first : ℕ) (ws : List Way)
    → IsLevel look t k first ws → IsAbove look t P k → length ws ≤ first → (q : List ℕ) (p : Bool) (v : Term) → FieldsLead look t q p v → P v → ⊥
no_more look t P k first ws l a none q p v leads holds = go (suc (length q)) q p leads (omega arith)
  where
    go : (n : ℕ) (r : List ℕ) (b : Bool) → FieldsLead look t r b v → length r < n → ⊥
    go zero r b h less = omega arith
    go (suc n) r b h less =
        let f = front_of r k (a.least r b v h holds) in
        let c = leads_cut look t f.0 f.1 b v (subst (λ s. FieldsLead look t s b v) f.2 h) in
        elim (l.full f.0 c.1 c.0 c.3 f.3) [
          | inl x ↦ let w = at_within ws x.0 x.1 x.2 in omega (arith, w, x.3, none)
          | inr s ↦ go n (s.0 ++ f.1) (s.1 || c.2) (leads_append look t s.0 f.1 s.1 c.2 c.0 v s.2 c.4) (omega (arith, length-append s.0 f.1, length-append f.0 f.1, ap length f.2, s.3, f.3, less))
        ]

-- hits by the types that have a member of the name
pub hits_above : (look : EntryLook) (t : Term) (name from : List ℕ) (k : ℕ) → IsAbove look t (HasOne look name from) k
    → (q : List ℕ) (p : Bool) (m : ℕ) (f : Found) → Hit look t name from q p m f → k ≤ length q
hits_above look t name from k a q p m f h = a.least q p h.at h.leads (m, f, h.has)

-- the only member of its level, with one path: it is selected
pub selects : (look : EntryLook) (t : Term) (name from : List ℕ) (k first : ℕ) (ws : List Way) (n : ℕ) (x : Way) (m : ℕ) (f : Found)
    → IsLevel look t k first ws → IsAbove look t (HasOne look name from) k → At ws n x → first ≤ n → x.many ≡ false → IsNamedAt (owner_in look x.node) name from m f
    → ((i : ℕ) (y : Way) (j : ℕ) (g : Found) → At ws i y → first ≤ i → IsNamedAt (owner_in look y.node) name from j g → (i ≡ n) × (j ≡ m))
    → IsSelected look t name from x.path x.pointer f
selects look t name from k first ws n x m f l a at inside one has only =
    record {
      number = m;
      hit = record { at = x.node; leads = (l.each n x at inside).leads; has = has };
      shortest = λ q p j g h. pick q p j g h (above_or_same k (length q) (hits_above look t name from k a q p j g h));
    }
  where
    same : (q : List ℕ) (p : Bool) (j : ℕ) (g : Found) (h : Hit look t name from q p j g) → Covers first ws q h.at → (q ≡ x.path) × (j ≡ m)
    same q p j g h c =
        let y = c.1 in
        let o = only c.0 y j g c.2 c.3 (subst (λ v. IsNamedAt (owner_in look v) name from j g) (sym c.4) h.has) in
        let yx : y ≡ x = at_same ws n y x (subst (λ i. At ws i y) o.0 c.2) at in
        (elim c.5 [ inl b ↦ true_false y.many b (subst (λ (z : Way). z.many ≡ false) (sym yx) one) | inr e ↦ sym e ∙ ap (λ (z : Way). z.path) yx ], o.1)

    pick : (q : List ℕ) (p : Bool) (j : ℕ) (g : Found) → Hit look t name from q p j g → (k ≡ length q) ⊎ (k < length q) → ((q ≡ x.path) × (j ≡ m)) ⊎ (length x.path < length q)
    pick q p j g h (inl s) = inl (same q p j g h (found_in look t (HasOne look name from) k first ws q p h.at l a h.leads (j, g, h.has) (sym s)))
    pick q p j g h (inr s) = let w = (l.each n x at inside).long in inr (omega (arith, w))

-- two hits of the least length: none is selected
pub clashes : (look : EntryLook) (t : Term) (name from : List ℕ) (k : ℕ) (p q : List ℕ) (a b : Bool) (m n : ℕ) (f g : Found)
    → IsAbove look t (HasOne look name from) k → Hit look t name from p a m f → Hit look t name from q b n g → length p ≡ k → length q ≡ k → (p ≡ q → m ≡ n → ⊥) → IsAmbiguous look t name from
clashes look t name from k p q a b m n f g above h i lp lq apart =
    record { some = (p, a, m, f, h); none = λ r c e s. no r c e s (s.shortest p a m f h) (s.shortest q b n g i) }
  where
    no : (r : List ℕ) (c : Bool) (e : Found) (s : IsSelected look t name from r c e) → ((p ≡ r) × (m ≡ s.number)) ⊎ (length r < length p) → ((q ≡ r) × (n ≡ s.number)) ⊎ (length r < length q) → ⊥
    no r c e s (inl x) (inl y) = apart (x.0 ∙ sym y.0) (x.1 ∙ sym y.1)
    no r c e s (inr x) y = let z = hits_above look t name from k above r c s.number e s.hit in omega (arith, z)
    no r c e s (inl x) (inr y) = let z = hits_above look t name from k above r c s.number e s.hit in omega (arith, z)

-- a member of the searched type itself, and no other: it is selected
pub selects_here : (look : EntryLook) (t : Term) (name from : List ℕ) (m : ℕ) (f : Found) → IsNamedAt (owner_in look t) name from m f
    → ((j : ℕ) (g : Found) → IsNamedAt (owner_in look t) name from j g → m ≡ j) → IsSelected look t name from [] false f
selects_here look t name from m f has only =
    record { number = m; hit = record { at = t; leads = (refl, refl); has = has }; shortest = λ q p j g h. pick q p j g h }
  where
    pick : (q : List ℕ) (p : Bool) (j : ℕ) (g : Found) → Hit look t name from q p j g → ((q ≡ []) × (j ≡ m)) ⊎ (0 < length q)
    pick [] p j g h = inl (refl, sym (only j g (subst (λ v. IsNamedAt (owner_in look v) name from j g) (sym h.leads.0) h.has)))
    pick (i ∷ q) p j g h = inr (omega arith)

pub clashes_here : (look : EntryLook) (t : Term) (name from : List ℕ) (m n : ℕ) (f g : Found) → IsNamedAt (owner_in look t) name from m f → IsNamedAt (owner_in look t) name from n g → (m ≡ n → ⊥) → IsAmbiguous look t name from
clashes_here look t name from m n f g h i apart =
    clashes look t name from 0 [] [] false false m n f g (record { least = λ q p v leads holds. omega arith }) (record { at = t; leads = (refl, refl); has = h }) (record { at = t; leads = (refl, refl); has = i })
    refl refl (λ s. apart)
