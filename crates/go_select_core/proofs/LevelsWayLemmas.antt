-- The types that are reached, with their paths.
use Rattle.std.proofs.Common.{◌≡◌, ℕ, zero, suc, ◌+◌, ◌<◌, ◌≤◌, ◌-◌, true, ◌||◌, List, [], ◌∷◌, ◌++◌, length, set, get_or, reverse, Some, refl, sym, ap, ◌∙◌, subst, arith, ◌⊎◌, inl, inr, length-append, append_assoc}
use Rattle.std.specs.Prelude.{nat_eq}
use Rattle.std.specs.Map.{lookup}
use Rattle.std.proofs.lemmas.List.{append-nil, reverse-append}
use Rattle.go_term_core.specs.Shapes.{shape}
use Rattle.go_term_core.specs.Terms.{Term}
use Rattle.go_embed_core.specs.table_core.Entries.{Entry}
use Rattle.go_embed_core.specs.Owners.{EmbeddedEdge}
use Rattle.go_select_core.specs.declared.levels.level.Reached.{Reached}
use Rattle.go_select_core.specs.declared.levels.trails.Link.{Link}
use Rattle.go_select_core.specs.levels.mirrors.Trails.{paths_from, paths_of, Climbs}
use Rattle.go_select_core.specs.levels.mirrors.Ways.{At, Way, way_of, ways, arrow, crowded, root, IsNumbered, IsRight, Begins, Pushed, Noted, Marked}
use Rattle.go_select_core.proofs.LevelsListLemmas.{at_append, at_within}
use Rattle.go_select_core.proofs.LevelsWeights.{lookup_cases}

pub ways_length : (ps : List (List ℕ)) (rs : List Reached) → length ps ≡ length rs → length (ways ps rs) ≡ length rs
ways_length [] [] h = refl
ways_length [] (r ∷ rs) h = absurd (omega (arith, h))
ways_length (p ∷ ps) [] h = refl
ways_length (p ∷ ps) (r ∷ rs) h = let l = ways_length ps rs (omega (arith, h)) in omega (arith, l)

pub ways_at : (ps : List (List ℕ)) (rs : List Reached) (n : ℕ) (r : Reached) → length ps ≡ length rs → At rs n r → At (ways ps rs) n (way_of (get_or ps n []) r)
ways_at [] [] n r h at = cc
ways_at [] (x ∷ rs) n r h at = absurd (omega (arith, h))
ways_at (p ∷ ps) [] n r h at = cc
ways_at (p ∷ ps) (x ∷ rs) zero r h at = let e : x ≡ r = (cc) in ap (λ (y : Reached). Some (way_of p y)) e
ways_at (p ∷ ps) (x ∷ rs) (suc n) r h at = ways_at ps rs n r (omega (arith, h)) at

pub ways_back : (ps : List (List ℕ)) (rs : List Reached) (n : ℕ) (w : Way) → At (ways ps rs) n w → (r : Reached) × At rs n r × (w ≡ way_of (get_or ps n []) r)
ways_back [] rs n w at = cc
ways_back (p ∷ ps) [] n w at = cc
ways_back (p ∷ ps) (x ∷ rs) zero w at = (x, refl, cc)
ways_back (p ∷ ps) (x ∷ rs) (suc n) w at = ways_back ps rs n w at

pub ways_push : (ps : List (List ℕ)) (rs : List Reached) (p : List ℕ) (r : Reached) → length ps ≡ length rs → ways (ps ++ p ∷ []) (rs ++ r ∷ []) ≡ ways ps rs ++ way_of p r ∷ []
ways_push [] [] p r h = refl
ways_push [] (x ∷ rs) p r h = absurd (omega (arith, h))
ways_push (q ∷ ps) [] p r h = absurd (omega (arith, h))
ways_push (q ∷ ps) (x ∷ rs) p r h = ap (λ ws. way_of q x ∷ ws) (ways_push ps rs p r (omega (arith, h)))

pub ways_set : (ps : List (List ℕ)) (rs : List Reached) (n : ℕ) (r : Reached) → ways ps (set rs n r) ≡ set (ways ps rs) n (way_of (get_or ps n []) r)
ways_set [] [] n r = refl
ways_set [] (x ∷ rs) n r = refl
ways_set (p ∷ ps) [] n r = refl
ways_set (p ∷ ps) (x ∷ rs) zero r = refl
ways_set (p ∷ ps) (x ∷ rs) (suc n) r = ap (λ ws. way_of p x ∷ ws) (ways_set ps rs n r)

-- paths that are kept as links

-- a further link adds its path
pub paths_push : (done : List (List ℕ)) (ls : List Link) (l : Link) → paths_from done (ls ++ l ∷ []) ≡ paths_from done ls ++ (get_or (paths_from done ls) l.before [] ++ l.step ∷ []) ∷ []
paths_push done [] l = refl
paths_push done (x ∷ ls) l = paths_push (done ++ (get_or done x.before [] ++ x.step ∷ []) ∷ []) ls l

pub paths_length : (done : List (List ℕ)) (ls : List Link) → length (paths_from done ls) ≡ length done + length ls
paths_length done [] = omega arith
paths_length done (x ∷ ls) =
    let r = paths_length (done ++ (get_or done x.before [] ++ x.step ∷ []) ∷ []) ls in
    let s = length-append done ((get_or done x.before [] ++ x.step ∷ []) ∷ []) in
    omega (arith, r, s)

get_front : {A : Type 0} (xs : List A) (v d : A) (n : ℕ) → n < length xs → get_or (xs ++ v ∷ []) n d ≡ get_or xs n d
get_front [] v d n l = absurd (omega (arith, l))
get_front (x ∷ xs) v d zero l = refl
get_front (x ∷ xs) v d (suc n) l = get_front xs v d n (omega (arith, l))

get_last : {A : Type 0} (xs : List A) (v d : A) → get_or (xs ++ v ∷ []) (length xs) d ≡ v
get_last [] v d = refl
get_last (x ∷ xs) v d = get_last xs v d

paths_front : (done : List (List ℕ)) (ls : List Link) (n : ℕ) → n < length done → get_or (paths_from done ls) n [] ≡ get_or done n []
paths_front done [] n l = refl
paths_front done (x ∷ ls) n l =
    let s = length-append done ((get_or done x.before [] ++ x.step ∷ []) ∷ []) in
    paths_front (done ++ (get_or done x.before [] ++ x.step ∷ []) ∷ []) ls n (omega (arith, l, s)) ∙ get_front done (get_or done x.before [] ++ x.step ∷ []) [] n l

paths_link : (done : List (List ℕ)) (ls : List Link) (n : ℕ) (l : Link) → At ls n l → l.before < length done + n
    → get_or (paths_from done ls) (length done + n) [] ≡ get_or (paths_from done ls) l.before [] ++ l.step ∷ []
paths_link done [] n l at less = cc
paths_link done (x ∷ ls) zero l at less =
    let xl : x ≡ l = (cc) in
    let v = get_or done x.before [] ++ x.step ∷ [] in
    let s = length-append done (v ∷ []) in
    let b : l.before ≡ x.before = ap (λ (y : Link). y.before) (sym xl) in
    let z : length done + 0 ≡ length done = omega arith in
    ap (λ k. get_or (paths_from (done ++ v ∷ []) ls) k []) z
    ∙ paths_front (done ++ v ∷ []) ls (length done) (omega (arith, s))
    ∙ get_last done v []
    ∙ ap (λ p. p ++ x.step ∷ []) (sym (get_front done v [] x.before (omega (arith, less, b))) ∙ sym (paths_front (done ++ v ∷ []) ls x.before (omega (arith, s, less, b))))
    ∙ ap (λ (y : Link). get_or (paths_from (done ++ v ∷ []) ls) y.before [] ++ y.step ∷ []) xl
paths_link done (x ∷ ls) (suc n) l at less =
    let v = get_or done x.before [] ++ x.step ∷ [] in
    let s = length-append done (v ∷ []) in
    let k : length done + suc n ≡ length (done ++ v ∷ []) + n = omega (arith, s) in
    ap (λ m. get_or (paths_from (done ++ v ∷ []) ls) m []) k ∙ paths_link (done ++ v ∷ []) ls n l at (omega (arith, less, s))

-- the path of a link is one field longer than the one before
pub link_path : (ls : List Link) (n : ℕ) (l : Link) → Climbs ls → At ls n l → get_or (paths_of ls) (n + 1) [] ≡ get_or (paths_of ls) l.before [] ++ l.step ∷ []
link_path ls n l climbs at =
    let b = climbs.earlier n l at in
    let k : n + 1 ≡ 1 + n = omega arith in
    ap (λ m. get_or (paths_of ls) m []) k ∙ paths_link ([] ∷ []) ls n l at (omega (arith, b))

pub climbs_push : (ls : List Link) (l : Link) → Climbs ls → l.before < length (paths_of ls) → Climbs (ls ++ l ∷ [])
climbs_push ls l climbs less =
    record {
      earlier = λ n x at. elim (at_append ls l n x at) [
        | inl h ↦ climbs.earlier n x h
        | inr h ↦ let b : x.before ≡ l.before = ap (λ (y : Link). y.before) h.1 in let s = paths_length ([] ∷ []) ls in omega (arith, b, s, less, h.0)
      ];
    }

-- what the loop that follows links has found
pub record PathTo (ls : List Link) (number at : ℕ) (steps : List ℕ) : Type 0 where
  pub inside : at < length (paths_of ls)
  pub path : get_or (paths_of ls) number [] ≡ get_or (paths_of ls) at [] ++ reverse steps

pub path_start : (ls : List Link) (number : ℕ) (steps : List ℕ) → number < length (paths_of ls) → steps ≡ [] → PathTo ls number number steps
path_start ls number steps less is =
    record { inside = less; path = sym (append-nil (get_or (paths_of ls) number [])) ∙ ap (λ xs. get_or (paths_of ls) number [] ++ reverse xs) (sym is) }

-- one link back
pub path_link : (ls : List Link) (number at : ℕ) (l : Link) (steps new : List ℕ) → Climbs ls → PathTo ls number at steps → 0 < at → At ls (at - 1) l → new ≡ steps ++ l.step ∷ []
    → PathTo ls number l.before new
path_link ls number at l steps new climbs p some here is =
    let e : at - 1 + 1 ≡ at = omega (arith, some) in
    let b = climbs.earlier (at - 1) l here in
    let s = p.inside in
    record {
      inside = omega (arith, b, s);
      path = p.path ∙ ap (λ q. q ++ reverse steps) (ap (λ k. get_or (paths_of ls) k []) (sym e) ∙ link_path ls (at - 1) l climbs here)
          ∙ append_assoc (get_or (paths_of ls) l.before []) (l.step ∷ []) (reverse steps)
          ∙ ap (λ q. get_or (paths_of ls) l.before [] ++ q) (sym (ap reverse is ∙ reverse-append steps (l.step ∷ [])));
    }

pub path_end : (ls : List Link) (number at : ℕ) (steps path : List ℕ) → PathTo ls number at steps → at ≤ 0 → path ≡ reverse steps → path ≡ get_or (paths_of ls) number []
path_end ls number at steps path p none is =
    let z : at ≡ 0 = omega (arith, none) in
    is ∙ ap (λ q. q ++ reverse steps) (sym (paths_front ([] ∷ []) ls 0 (omega arith))) ∙ ap (λ k. get_or (paths_of ls) k [] ++ reverse steps) (sym z) ∙ sym p.path

pub link_within : (ls : List Link) (number at : ℕ) (steps : List ℕ) → PathTo ls number at steps → 0 < at → at - 1 < length ls
link_within ls number at steps p some = let s = paths_length ([] ∷ []) ls in let i = p.inside in omega (arith, s, i, some)

-- a further type with its path

way_same : (p q : List ℕ) (r : Reached) (w : Way) → shape r.term.now ≡ w.node → r.many ≡ w.many → r.pointer ≡ w.pointer → p ≡ w.path → way_of p r ≡ w
way_same p q r w a b c d = λ i. record { node = a i; many = b i; pointer = c i; path = d i }

pub push_ways : (paths paths' : List (List ℕ)) (types types' : List Reached) (owner : ℕ) (e : EmbeddedEdge) (r z : Reached) → length paths ≡ length types → At types owner r
    → paths' ≡ paths ++ (get_or paths owner [] ++ e.position ∷ []) ∷ [] → types' ≡ types ++ z ∷ [] → shape z.term.now ≡ e.target → z.many ≡ r.many → z.pointer ≡ r.pointer || e.pointer
    → Pushed owner e (ways paths types) (ways paths' types')
push_ways paths paths' types types' owner e r z sized at ps ts node many pointer =
    let y = way_of (get_or paths owner []) r in
    record {
      y = y;
      at = ways_at paths types owner r sized at;
      is = (λ i. ways (ps i) (ts i)) ∙ ways_push paths types (get_or paths owner [] ++ e.position ∷ []) z sized
          ∙ ap (λ w. ways paths types ++ w ∷ []) (way_same (get_or paths owner [] ++ e.position ∷ []) [] z (arrow y e) node many pointer refl);
    }

pub mark_ways : (paths : List (List ℕ)) (old new : List Reached) (place : ℕ) → length paths ≡ length old → Marked old place new
    → (z : Way) × At (ways paths old) place z × (ways paths new ≡ set (ways paths old) place (crowded z))
mark_ways paths old new place sized m = (
  way_of (get_or paths place []) m.r,
  ways_at paths old place m.r sized m.at,
  ap (ways paths) m.is ∙ ways_set paths old place (record { term = m.r.term; many = true; pointer = m.r.pointer }),
)

-- the first type's number
pub right_none : (es : List Entry) (w : Way) (met : List (ℕ × ℕ)) → met ≡ [] → IsRight es (w ∷ []) met
right_none es w met is = record { at = λ n p h. absurd (let a : lookup (nat_eq n) [] ≡ Some p = subst (λ ms. lookup (nat_eq n) ms ≡ Some p) is h in (cc)) }

pub right_first : (es : List Entry) (w : Way) (n : ℕ) (met met' : List (ℕ × ℕ)) → met ≡ [] → IsNumbered es n w.node → Noted n 0 met met' → IsRight es (w ∷ []) met'
right_first es w n met met' none num noted = record { at = λ m p h. by m p (lookup_cases met met' n 0 m p noted h) }
  where
    by : (m p : ℕ) → ((m ≡ n) × (p ≡ 0)) ⊎ (lookup (nat_eq m) met ≡ Some p) → (z : Way) × At (w ∷ []) p z × IsNumbered es m z.node
    by m p (inl s) = (w, subst (λ k. At (w ∷ []) k w) (sym s.1) refl, subst (λ k. IsNumbered es k w.node) (sym s.0) num)
    by m p (inr s) = (right_none es w met none).at m p s

pub place_within : (es : List Entry) (paths : List (List ℕ)) (types : List Reached) (met : List (ℕ × ℕ)) (n p : ℕ) → length paths ≡ length types → IsRight es (ways paths types) met → lookup (nat_eq n) met ≡ Some p → p < length types
place_within es paths types met n p sized right h =
    let r = right.at n p h in
    let w = at_within (ways paths types) p r.0 r.1 in
    let l = ways_length paths types sized in
    omega (arith, w, l)

pub begins : (es : List Entry) (t : Term) (paths : List (List ℕ)) (none types : List Reached) (z : Reached) (met : List (ℕ × ℕ)) → paths ≡ [] ∷ [] → none ≡ [] → types ≡ none ++ z ∷ [] → way_of [] z ≡ root t → IsRight es (root t ∷ []) met
    → Begins es t paths types met
begins es t paths none types z met ps empty is first right =
    let ts : types ≡ z ∷ [] = is ∙ ap (λ xs. xs ++ z ∷ []) empty in
    record { sized = ap length ps ∙ sym (ap length ts); only = (λ i. ways (ps i) (ts i)) ∙ ap (λ w. w ∷ []) first; right = right }
