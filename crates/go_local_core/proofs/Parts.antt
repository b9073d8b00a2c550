-- Where the declarations of steps lie.
use Rattle.std.proofs.Common.{◌≡◌, ℕ, suc, ◌+◌, ◌<◌, ◌≤◌, Bool, true, false, ◌⊎◌, inl, inr, List, [], ◌∷◌, ◌++◌, Option, refl, arith, map}
use Rattle.std.specs.Prelude.{if◌then◌else◌}
use Rattle.go_tree_nodes.specs.text_core.Text.{is_blank}
use Rattle.go_tree_nodes.specs.declared.names.Ident.{Ident}
use Rattle.go_tree_nodes.proofs.InOrder.{in_order_ends, AreInTurn, turn_ends}
use Rattle.go_local_core.specs.Steps.{Steps, Done, Check, Declare, Inner, spell_piece}
use Rattle.go_local_core.specs.Binding.{Local, bound, is_first}
use Rattle.go_local_core.specs.Law.{Rules, locals_of_names, declared_from, law_out}
use Rattle.go_local_core.specs.mirrors.Walk.{Names, look_in, news, names_of, with_names, walk_out}
use Rattle.go_tree_nodes.specs.text_core.Each.{Each, each-weaker, each-append}
use Rattle.go_local_core.proofs.Placed.{Placed, placed_ends}
use Rattle.go_local_core.proofs.Fits.{IsInside}

-- a declaration of steps that stand from lo to hi in the block from o to c
pub record IsPart (X : Type 0) (o c lo hi : ℕ) (e : Local X) : Type 0 where
  pub own : ((e.opens ≡ o) × (e.closes ≡ c)) ⊎ ((lo ≤ e.opens) × (e.closes ≤ hi))
  pub low : e.opens < hi
  pub at_lo : lo ≤ e.at
  pub at_hi : e.at < hi
  pub from_lo : lo ≤ e.from

wider_own : (p d o c lo hi lo' hi' : ℕ) → lo' ≤ lo → hi ≤ hi' → ((p ≡ o) × (d ≡ c)) ⊎ ((lo ≤ p) × (d ≤ hi)) → ((p ≡ o) × (d ≡ c)) ⊎ ((lo' ≤ p) × (d ≤ hi'))
wider_own p d o c lo hi lo' hi' l h (inl q) = inl q
wider_own p d o c lo hi lo' hi' l h (inr q) = inr (omega (arith, q.0), omega (arith, q.1))

wider : (X : Type 0) (o c lo hi lo' hi' : ℕ) → lo' ≤ lo → hi ≤ hi' → (e : Local X) → IsPart X o c lo hi e → IsPart X o c lo' hi' e
wider X o c lo hi lo' hi' l h e k = record {
  own = wider_own e.opens e.closes o c lo hi lo' hi' l h k.own;
  low = let a = k.low in omega arith;
  at_lo = let a = k.at_lo in omega arith;
  at_hi = let a = k.at_hi in omega arith;
  from_lo = let a = k.from_lo in omega arith;
}

inside_own : (p d o c : ℕ) → ((p ≡ o) × (d ≡ c)) ⊎ ((o + 1 ≤ p) × (d ≤ c)) → (o ≤ p) × (d ≤ c)
inside_own p d o c (inl q) = (omega (arith, q.0), omega (arith, q.1))
inside_own p d o c (inr q) = (omega (arith, q.0), q.1)

-- a part of a block lies inside it
pub inside : (X : Type 0) (o c : ℕ) (e : Local X) → IsPart X o c (o + 1) c e → IsInside o c e
inside X o c e k = let own = inside_own e.opens e.closes o c k.own in (own.0, k.low, own.1, k.at_hi)

-- from a block inside to the steps that it is one of
outward : (X : Type 0) (o c lo o' c' : ℕ) → lo ≤ o' → (e : Local X) → IsPart X o' c' (o' + 1) c' e → IsPart X o c lo c' e
outward X o c lo o' c' l e k =
    let own = inside_own e.opens e.closes o' c' k.own in
    record {
      own = inr (omega (arith, own.0), own.1);
      low = k.low;
      at_lo = let a = k.at_lo in omega arith;
      at_hi = k.at_hi;
      from_lo = let a = k.from_lo in omega arith;
    }

pub names_parts : (X : Type 0) (o c lo at from : ℕ) (means : ℕ → X) (n : ℕ) (xs : List Ident) → o < lo → lo ≤ at → AreInTurn at xs from → Each (IsPart X o c lo from) (declared_from o c from means n xs)
names_parts X o c lo at from means n [] l m h = tt
names_parts X o c lo at from means n (x ∷ xs) l m h =
    let ends = turn_ends xs (x.span.start + 1) from h.1 in
    each-append (IsPart X o c lo from) (locals_of_names o c from means n x) (declared_from o c from means (suc n) xs) (by (is_blank x.name) ends) (names_parts X o c lo (x.span.start + 1) from means (suc n) xs l (omega (arith, h.0)) h.1)
  where
    by : (b : Bool) → x.span.start + 1 ≤ from → Each (IsPart X o c lo from) (if b then [] else record { name = x.name; at = x.span.start; from = from; opens = o; closes = c; means = means n } ∷ [])
    by true ends = tt
    by false ends = (record { own = inl (refl, refl); low = omega (arith, h.0); at_lo = omega (arith, h.0); at_hi = omega arith; from_lo = omega (arith, h.0) }, tt)

module _ (X N : Type 0) (rules : Rules X N) (beyond : List ℕ → Option X) (all : List (Local X)) where
  pub law_parts : (ss : Steps) (o c lo hi : ℕ) → o < lo → Placed lo hi ss → Each (IsPart X o c lo hi) (law_out rules beyond all o c ss).declares
  law_parts Done o c lo hi l h = tt
  law_parts (Check p rest) o c lo hi l h =
      let starts = in_order_ends (spell_piece p) lo h.0 h.1.0 in
      each-weaker _ _ (wider X o c h.0 hi lo hi starts (omega arith)) _ (law_parts rest o c h.0 hi (omega arith) h.1.1)
  law_parts (Declare m from p xs rest) o c lo hi l h =
      let starts = in_order_ends (spell_piece p) lo from h.0 in
      let ends = placed_ends rest from hi h.2 in
      each-append (IsPart X o c lo hi) (declared_from o c from (rules.means (bound beyond all) (map (is_first all o) xs) p) 0 xs) (law_out rules beyond all o c rest).declares
      (each-weaker _ _ (wider X o c lo from lo hi (omega arith) ends) _ (names_parts X o c lo lo from _ 0 xs l (omega arith) h.1))
      (each-weaker _ _ (wider X o c from hi lo hi starts (omega arith)) _ (law_parts rest o c from hi (omega arith) h.2))
  law_parts (Inner o' c' steps rest) o c lo hi l h =
      let inner = placed_ends steps (o' + 1) c' h.1 in
      let ends = placed_ends rest c' hi h.2 in
      each-append (IsPart X o c lo hi) (law_out rules beyond all o' c' steps).declares (law_out rules beyond all o c rest).declares
      (each-weaker _ _ (λ e k. wider X o c lo c' lo hi (omega arith) ends e (outward X o c lo o' c' h.0 e k)) _ (law_parts steps o' c' (o' + 1) c' (omega arith) h.1))
      (each-weaker _ _ (wider X o c c' hi lo hi (omega (arith, h.0)) (omega arith)) _ (law_parts rest o c c' hi (omega (arith, h.0)) h.2))

  pub walk_parts : (ss : Steps) (outer block : Names X) (o c lo hi : ℕ) → o < lo → Placed lo hi ss → Each (IsPart X o c lo hi) (walk_out rules beyond outer block o c ss).declares
  walk_parts Done outer block o c lo hi l h = tt
  walk_parts (Check p rest) outer block o c lo hi l h =
      let starts = in_order_ends (spell_piece p) lo h.0 h.1.0 in
      each-weaker _ _ (wider X o c h.0 hi lo hi starts (omega arith)) _ (walk_parts rest outer block o c h.0 hi (omega arith) h.1.1)
  walk_parts (Declare m from p xs rest) outer block o c lo hi l h =
      let starts = in_order_ends (spell_piece p) lo from h.0 in
      let ends = placed_ends rest from hi h.2 in
      let means : ℕ → X = rules.means (look_in beyond (outer ++ block)) (news (names_of block) xs) p in
      each-append (IsPart X o c lo hi) (declared_from o c from means 0 xs) (walk_out rules beyond outer (with_names block means 0 xs) o c rest).declares
      (each-weaker _ _ (wider X o c lo from lo hi (omega arith) ends) _ (names_parts X o c lo lo from means 0 xs l (omega arith) h.1))
      (each-weaker _ _ (wider X o c from hi lo hi starts (omega arith)) _ (walk_parts rest outer (with_names block means 0 xs) o c from hi (omega arith) h.2))
  walk_parts (Inner o' c' steps rest) outer block o c lo hi l h =
      let inner = placed_ends steps (o' + 1) c' h.1 in
      let ends = placed_ends rest c' hi h.2 in
      each-append (IsPart X o c lo hi) (walk_out rules beyond (outer ++ block) [] o' c' steps).declares (walk_out rules beyond outer block o c rest).declares
      (each-weaker _ _ (λ e k. wider X o c lo c' lo hi (omega arith) ends e (outward X o c lo o' c' h.0 e k)) _ (walk_parts steps (outer ++ block) [] o' c' (o' + 1) c' (omega arith) h.1))
      (each-weaker _ _ (wider X o c c' hi lo hi (omega (arith, h.0)) (omega arith)) _ (walk_parts rest outer block o c c' hi (omega (arith, h.0)) h.2))
