-- Along the steps of a function, the open names are the declarations that the intervals show at each place.
use Rattle.std.proofs.Common.{◌≡◌, ℕ, ◌+◌, ◌<◌, ◌≤◌, Bool, true, false, cond, not, ◌&&◌, ◌||◌, List, [], ◌∷◌, ◌++◌, refl, sym, ap, subst, ◌∙◌, arith}
use Rattle.std.specs.Prelude.{nat_le, nat_lt, nat_eq}
use Rattle.std.specs.List.{list_any}
use Rattle.std.specs.Str.{bytes_eq}
use Rattle.std.proofs.lemmas.Bool.{le-leb, lt-leb, lt-ltb, le-ltb, eq-eqb, ne_eqb}
use Rattle.std.proofs.lemmas.List.{append_assoc, append-nil}
use Rattle.std.proofs.lemmas.List.Elements.{filter-append}
use Rattle.std.proofs.lemmas.List.Folds.{list_any-append}
use Rattle.std.proofs.lemmas.Slice.Eq.{bytes_eq-Decides}
use Rattle.go_local_core.specs.Binding.{Local, region_has, is_second, shown}
use Rattle.go_tree_nodes.specs.text_core.Each.{Each, each-weaker, each-append, filter-none, any-none, any-same, none-each, and_false, and_true, or_false, absorbed, and_left, each-both}
use Rattle.go_local_core.proofs.Found.{IsOver, Nested, nested_push}

-- `past` are the declarations passed so far of `all`, and the walk stands in the block from o to c: what is open is what is
-- shown from lo on, and the declarations passed lie before at
pub record Fits (X : Type 0) (all past outer block : List (Local X)) (o c lo at : ℕ) : Type 0 where
  pub sees : (p : ℕ) → lo ≤ p → p < c → shown all p past ≡ outer ++ block
  pub tops : (n : List ℕ) → list_any (λ e. bytes_eq n e.name) block ≡ list_any (λ e. bytes_eq n e.name && nat_eq e.opens o) past
  pub earlier : Each (λ e. (e.at < at) × (e.opens < at)) past
  pub outside : Each (λ e. (e.opens < o) × (c ≤ e.closes)) outer
  pub own : Each (λ e. (e.opens ≡ o) × (e.closes ≡ c)) block
  pub nested : Nested (outer ++ block)
  pub low : o < at

-- before all steps
pub fits_start : (X : Type 0) (all : List (Local X)) (o c : ℕ) → Fits X all [] [] [] o c (o + 1) (o + 1)
fits_start X all o c = record { sees = λ p l r. refl; tops = λ n. refl; earlier = tt; outside = tt; own = tt; nested = tt; low = omega arith }

pub fits_later : (X : Type 0) (all past outer block : List (Local X)) (o c lo at hi to : ℕ) → Fits X all past outer block o c lo at → lo ≤ hi → at ≤ to → Fits X all past outer block o c hi to
fits_later X all past outer block o c lo at hi to f h k = record {
  sees = λ p l r. f.sees p (omega arith) r;
  tops = f.tops;
  earlier = each-weaker _ _ (λ e q. (omega (arith, q.0), omega (arith, q.1))) past f.earlier;
  outside = f.outside;
  own = f.own;
  nested = f.nested;
  low = let l = f.low in omega arith;
}

-- a block inside
pub fits_enter : (X : Type 0) (all past outer block : List (Local X)) (o c lo p d : ℕ) → Fits X all past outer block o c lo lo → lo ≤ p → d ≤ c → Fits X all past (outer ++ block) [] p d (p + 1) (p + 1)
fits_enter X all past outer block o c lo p d f h r =
    let low = f.low in
    record {
      sees = λ q l u. f.sees q (omega arith) (omega arith) ∙ sym (append-nil (outer ++ block));
      tops = λ n. sym (any-none (λ e. bytes_eq n e.name && nat_eq e.opens p) past (each-weaker _ _ (λ e q. ap (λ b. bytes_eq n e.name && b) (ne_eqb e.opens p (λ s. omega (arith, q.1, s))) ∙ and_false _) past f.earlier));
      earlier = each-weaker _ _ (λ e q. (omega (arith, q.0), omega (arith, q.1))) past f.earlier;
      outside = each-append _ outer block (each-weaker _ _ (λ e q. (omega (arith, q.0), omega (arith, q.1))) outer f.outside) (each-weaker _ _ (λ e q. (omega (arith, q.0), omega (arith, q.1))) block f.own);
      own = tt;
      nested = subst Nested (sym (append-nil (outer ++ block))) f.nested;
      low = omega arith;
    }

-- a declaration in a block from p to d, or inside it
abbrev pub IsInside : {X : Type 0} → ℕ → ℕ → Local X → Type 0
IsInside p d e = (p ≤ e.opens) × (e.opens < d) × (e.closes ≤ d) × (e.at < d)

pub region-after : {X : Type 0} (e : Local X) (q : ℕ) → e.closes ≤ q → region_has e q ≡ false
region-after e q h = ap (λ t. nat_le e.from q && t) (le-ltb q e.closes h) ∙ and_false _

pub region-before : {X : Type 0} (e : Local X) (q : ℕ) → q < e.from → region_has e q ≡ false
region-before e q h = ap (λ t. t && nat_lt q e.closes) (lt-leb e.from q h)

pub fits_leave : (X : Type 0) (all past inner outer block : List (Local X)) (o c lo p d : ℕ) → Fits X all past outer block o c lo lo → lo ≤ p → p ≤ d → Each (IsInside p d) inner → Fits X all (past ++ inner) outer block o c d d
fits_leave X all past inner outer block o c lo p d f h r k =
    let low = f.low in
    record {
      sees = λ q l u.
          filter-append (λ e. region_has e q && not (is_second all e.opens e.name e.at)) past inner
          ∙ (ap (λ l. shown all q past ++ l) (filter-none (λ e. region_has e q && not (is_second all e.opens e.name e.at)) inner (each-weaker _ _ (λ e g. ap (λ b. b && not (is_second all e.opens e.name e.at)) (region-after e q (omega (arith, g.2)))) inner k))
          ∙ (append-nil (shown all q past) ∙ f.sees q (omega arith) u));
      tops = λ n.
          f.tops n ∙ sym (list_any-append (λ e. bytes_eq n e.name && nat_eq e.opens o) past inner
          ∙ (ap (λ b. list_any (λ e. bytes_eq n e.name && nat_eq e.opens o) past || b) (any-none (λ e. bytes_eq n e.name && nat_eq e.opens o) inner (each-weaker _ _ (λ e g. ap (λ b. bytes_eq n e.name && b) (ne_eqb e.opens o (λ s. omega (arith, g.0, s))) ∙ and_false _) inner k))
          ∙ or_false _));
      earlier = each-append _ past inner (each-weaker _ _ (λ e q. (omega (arith, q.0), omega (arith, q.1))) past f.earlier) (each-weaker _ _ (λ e g. (g.3, g.1)) inner k);
      outside = f.outside;
      own = f.own;
      nested = f.nested;
      low = omega arith;
    }

-- whether a name is the second of its block, is what the block knows
pub second_is : (X : Type 0) (all past mine rest outer block : List (Local X)) (o c lo at here : ℕ) (n : List ℕ) → Fits X all past outer block o c lo at → at ≤ here
    → all ≡ past ++ (mine ++ rest) → Each (λ e. here ≤ e.at) mine → Each (λ e. here < e.at) rest → is_second all o n here ≡ list_any (λ e. bytes_eq n e.name) block
second_is X all past mine rest outer block o c lo at here n f h e own later =
    let t : Local X → Bool = λ x. bytes_eq n x.name && nat_eq x.opens o && nat_lt x.at here in
    let none : list_any t (mine ++ rest) ≡ false = any-none t (mine ++ rest) (each-append _ mine rest
    (each-weaker _ _ (λ x k. ap (λ b. (bytes_eq n x.name && nat_eq x.opens o) && b) (le-ltb x.at here (omega arith)) ∙ and_false _) mine own)
    (each-weaker _ _ (λ x k. ap (λ b. (bytes_eq n x.name && nat_eq x.opens o) && b) (le-ltb x.at here (omega arith)) ∙ and_false _) rest later)) in
    ap (list_any t) e ∙ (list_any-append t past (mine ++ rest) ∙ (ap (λ b. list_any t past || b) none ∙ (or_false _
    ∙ (any-same t (λ x. bytes_eq n x.name && nat_eq x.opens o) past (each-weaker _ _ (λ x k. ap (λ b. (bytes_eq n x.name && nat_eq x.opens o) && b) (lt-ltb x.at here (omega (arith, k.0))) ∙ and_true _) past f.earlier)
    ∙ sym (f.tops n)))))

-- a declaration that is not the first of its block is shown nowhere
pub fits_second : (X : Type 0) (all past outer block : List (Local X)) (o c lo at next : ℕ) (d : Local X) → Fits X all past outer block o c lo at → d.opens ≡ o → at ≤ d.at → d.at < next
    → is_second all d.opens d.name d.at ≡ true → list_any (λ e. bytes_eq d.name e.name) block ≡ true → Fits X all (past ++ d ∷ []) outer block o c lo next
fits_second X all past outer block o c lo at next d f own h i second taken =
    let low = f.low in
    record {
      sees = λ q l u.
          filter-append (λ x. region_has x q && not (is_second all x.opens x.name x.at)) past (d ∷ [])
          ∙ (ap (λ b. shown all q past ++ cond (region_has d q && not b) (d ∷ []) []) second
          ∙ (ap (λ b. shown all q past ++ cond b (d ∷ []) []) (and_false (region_has d q)) ∙ (append-nil (shown all q past) ∙ f.sees q l u)));
      tops = λ n. f.tops n ∙ sym (list_any-append (λ x. bytes_eq n x.name && nat_eq x.opens o) past (d ∷ []) ∙ absorbed _ _ (λ w.
          sym (f.tops n) ∙ (ap (λ m. list_any (λ e. bytes_eq m e.name) block) ((bytes_eq-Decides n d.name).0 (and_left _ _ w)) ∙ taken)));
      earlier = each-append _ past (d ∷ []) (each-weaker _ _ (λ x q. (omega (arith, q.0), omega (arith, q.1))) past f.earlier) ((i, omega arith), tt);
      outside = f.outside;
      own = f.own;
      nested = f.nested;
      low = omega arith;
    }

over_own : {X : Type 0} (o c : ℕ) (d e : Local X) → d.opens ≡ o → d.closes ≡ c → (e.opens ≡ o) × (e.closes ≡ c) → bytes_eq d.name e.name ≡ false → IsOver e d
over_own o c d e p q h k = (omega (arith, h.0), omega (arith, h.1), λ s. absurd (cc))

-- the first of its block
pub fits_first : (X : Type 0) (all past outer block : List (Local X)) (o c lo at next : ℕ) (d : Local X) → Fits X all past outer block o c lo at → d.opens ≡ o → d.closes ≡ c → d.from ≡ lo → at ≤ d.at → d.at < next
    → is_second all d.opens d.name d.at ≡ false → list_any (λ e. bytes_eq d.name e.name) block ≡ false → Fits X all (past ++ d ∷ []) outer (block ++ d ∷ []) o c lo next
fits_first X all past outer block o c lo at next d f own ends begins h i first absent =
    let low = f.low in
    record {
      sees = λ q l u.
          filter-append (λ x. region_has x q && not (is_second all x.opens x.name x.at)) past (d ∷ [])
          ∙ (ap (λ b. shown all q past ++ cond (region_has d q && not b) (d ∷ []) []) first
          ∙ (ap (λ b. shown all q past ++ cond ((b && nat_lt q d.closes) && true) (d ∷ []) []) (le-leb d.from q (omega arith))
          ∙ (ap (λ b. shown all q past ++ cond (b && true) (d ∷ []) []) (lt-ltb q d.closes (omega arith))
          ∙ (ap (λ l. l ++ d ∷ []) (f.sees q l u) ∙ append_assoc outer block (d ∷ [])))));
      tops = λ n.
          list_any-append (λ e. bytes_eq n e.name) block (d ∷ [])
          ∙ (ap (λ b. b || (bytes_eq n d.name || false)) (f.tops n)
          ∙ sym (list_any-append (λ x. bytes_eq n x.name && nat_eq x.opens o) past (d ∷ [])
          ∙ ap (λ b. list_any (λ x. bytes_eq n x.name && nat_eq x.opens o) past || (b || false)) (ap (λ b. bytes_eq n d.name && b) (eq-eqb d.opens o own) ∙ and_true _)));
      earlier = each-append _ past (d ∷ []) (each-weaker _ _ (λ x q. (omega (arith, q.0), omega (arith, q.1))) past f.earlier) ((i, omega arith), tt);
      outside = f.outside;
      own = each-append _ block (d ∷ []) f.own ((own, ends), tt);
      nested = subst Nested (append_assoc outer block (d ∷ [])) (nested_push (outer ++ block) d (each-append _ outer block
          (each-weaker _ _ (λ e q. (omega (arith, q.0), omega (arith, q.1), λ s. omega (arith, q.0))) outer f.outside)
          (each-weaker _ _ (λ e q. over_own o c d e own ends q.0 q.1) block (each-both _ _ block f.own (none-each (λ e. bytes_eq d.name e.name) block absent)))) f.nested);
      low = omega arith;
    }
