-- The block of each declaration of a function is the innermost one that contains its identifier.
use Rattle.std.proofs.Common.{◌≡◌, ℕ, suc, ◌+◌, ◌≤◌, ◌<◌, Bool, true, false, ◌⊎◌, inl, inr, List, [], ◌∷◌, ◌++◌, map, Option, refl, sym, ap, subst, ◌∙◌, arith}
use Rattle.std.specs.Prelude.{if◌then◌else◌}
use Rattle.go_denote_core.specs.text_core.Text.{is_blank}
use Rattle.go_denote_core.specs.text_core.Each.{Each, each-weaker, each-append}
use Rattle.go_tree_nodes.specs.declared.names.Ident.{Ident}
use Rattle.go_tree_nodes.specs.Trees.{FuncTree}
use Rattle.go_tree_nodes.proofs.InOrder.{in_order_ends}
use Rattle.go_local_core.specs.Binding.{Local, bound, is_first}
use Rattle.go_local_core.specs.Denoted.{IsAmong}
use Rattle.go_local_core.specs.Law.{Rules, declared_from, law_out}
use Rattle.go_local_core.specs.Outline.{func_steps}
use Rattle.go_local_core.specs.Steps.{Steps, Done, Check, Declare, Inner, spell_piece}
use Rattle.go_local_core.specs.Tables.{IsFuncPlaced}
use Rattle.go_local_core.proofs.Parts.{IsPart, inside, names_parts, law_parts}
use Rattle.go_local_core.proofs.Placed.{Placed, func_placed, placed_ends}
use Rattle.go_spec_laws.specs.front.LocalLaws.{BlockPlace, block_between, func_blocks, IsBlockOf, ContainsPlace, LiesWithin, owner, BlocksAreInnermost}
use Rattle.go_spec_laws.proofs.FrontLocalNames.{step_blocks, body_blocks}

-- ---- lists

among_left : (bs cs : List BlockPlace) (b : BlockPlace) → IsBlockOf bs b → IsBlockOf (bs ++ cs) b
among_left [] cs b h = absurd h
among_left (d ∷ bs) cs b h = elim h [ inl e ↦ inl e | inr k ↦ inr (among_left bs cs b k) ]

among_right : (bs cs : List BlockPlace) (b : BlockPlace) → IsBlockOf cs b → IsBlockOf (bs ++ cs) b
among_right [] cs b h = h
among_right (d ∷ bs) cs b h = inr (among_right bs cs b h)

each_block : (P : BlockPlace → Type 0) (bs : List BlockPlace) → Each P bs → (b : BlockPlace) → IsBlockOf bs b → P b
each_block P [] h b k = absurd k
each_block P (c ∷ bs) h b k = elim k [ inl e ↦ subst P (sym e) h.0 | inr r ↦ each_block P bs h.1 b r ]

each_local : {X : Type 0} (P : Local X → Type 0) (ds : List (Local X)) → Each P ds → (d : Local X) → IsAmong d ds → P d
each_local P [] h d k = absurd k
each_local P (e ∷ ds) h d k = elim k [ inl q ↦ subst P (sym q) h.0 | inr r ↦ each_local P ds h.1 d r ]

each_two : {X : Type 0} (P Q R : Local X → Type 0) → ((d : Local X) → P d → Q d → R d) → (ds : List (Local X)) → Each P ds → Each Q ds → Each R ds
each_two P Q R f [] h k = tt
each_two P Q R f (d ∷ ds) h k = (f d h.0 k.0, each_two P Q R f ds h.1 k.1)

-- ---- where a declaration belongs

-- no block of the list contains the place
abbrev NoneHasPlace : List BlockPlace → ℕ → Type 0
NoneHasPlace bs place = Each (λ b. ¬ ContainsPlace b place) bs

-- the block of a declaration is the innermost of the list that contains its identifier
record IsDeepest (X : Type 0) (bs : List BlockPlace) (d : Local X) : Type 0 where
  one : IsBlockOf bs (owner d)
  has : ContainsPlace (owner d) d.at
  inner : Each (λ c. ContainsPlace c d.at → LiesWithin (owner d) c) bs

-- it is the block that is open, and none of the list contains the identifier
record IsOwn (X : Type 0) (o c : ℕ) (bs : List BlockPlace) (d : Local X) : Type 0 where
  opens : d.opens ≡ o
  closes : d.closes ≡ c
  none : NoneHasPlace bs d.at

-- a declaration in a block with these blocks inside
abbrev Sits : (X : Type 0) → ℕ → ℕ → List BlockPlace → Local X → Type 0
Sits X o c bs d = IsOwn X o c bs d ⊎ IsDeepest X bs d

same_block : (p q o c : ℕ) → p ≡ o → q ≡ c → block_between p q ≡ block_between o c
same_block p q o c e f = ap (λ n. block_between n q) e ∙ ap (λ n. block_between o n) f

module _ (X : Type 0) where
  -- seen from outside, the block itself is one of the list
  settled : (o c : ℕ) (bs : List BlockPlace) (d : Local X) → Sits X o c bs d → IsPart X o c (o + 1) c d → IsDeepest X (block_between o c ∷ bs) d
  settled o c bs d (inl own) part =
      let low = part.at_lo in
      let high = part.at_hi in
      let opens = own.opens in
      let closes = own.closes in
      record {
        one = inl (same_block d.opens d.closes o c opens closes);
        has = (omega (arith, low, opens), omega (arith, high, closes));
        inner = (λ h. (omega (arith, opens), omega (arith, closes)), each-weaker _ _ (λ b k h. absurd (k h)) bs own.none);
      }
  settled o c bs d (inr deep) part =
      let within = inside X o c d part in
      record { one = inr deep.one; has = deep.has; inner = (λ h. (within.0, within.2), deep.inner) }

  -- with blocks behind that don't contain the identifier
  before_others : (bs cs : List BlockPlace) (d : Local X) → NoneHasPlace cs d.at → IsDeepest X bs d → IsDeepest X (bs ++ cs) d
  before_others bs cs d none deep = record {
    one = among_left bs cs (owner d) deep.one;
    has = deep.has;
    inner = each-append _ bs cs deep.inner (each-weaker _ _ (λ b k h. absurd (k h)) cs none);
  }

  -- with blocks in front that don't
  behind_others : (o c : ℕ) (bs cs : List BlockPlace) (d : Local X) → NoneHasPlace bs d.at → Sits X o c cs d → Sits X o c (bs ++ cs) d
  behind_others o c bs cs d none (inl own) = inl (record { opens = own.opens; closes = own.closes; none = each-append _ bs cs none own.none })
  behind_others o c bs cs d none (inr deep) = inr (record {
    one = among_right bs cs (owner d) deep.one;
    has = deep.has;
    inner = each-append _ bs cs (each-weaker _ _ (λ b k h. absurd (k h)) bs none) deep.inner;
  })

-- ---- steps

-- the blocks of steps lie where the steps do
blocks_lie : (ss : Steps) (lo hi : ℕ) → Placed lo hi ss → Each (λ b. (lo ≤ b.opens) × (b.closes ≤ hi)) (step_blocks ss)
blocks_lie Done lo hi h = tt
blocks_lie (Check p rest) lo hi h =
    let starts = in_order_ends (spell_piece p) lo h.0 h.1.0 in
    each-weaker _ _ (λ b k. (omega (arith, k.0, starts), k.1)) (step_blocks rest) (blocks_lie rest h.0 hi h.1.1)
blocks_lie (Declare m from p xs rest) lo hi h =
    let starts = in_order_ends (spell_piece p) lo from h.0 in
    each-weaker _ _ (λ b k. (omega (arith, k.0, starts), k.1)) (step_blocks rest) (blocks_lie rest from hi h.2)
blocks_lie (Inner o c inner rest) lo hi h =
    let ends = placed_ends rest c hi h.2 in
    let starts = placed_ends inner (o + 1) c h.1 in (
      (h.0, ends),
      each-append _ (step_blocks inner) (step_blocks rest)
          (each-weaker _ _ (λ b k. (omega (arith, k.0, h.0), omega (arith, k.1, ends))) (step_blocks inner) (blocks_lie inner (o + 1) c h.1))
          (each-weaker _ _ (λ b k. (omega (arith, k.0, h.0, starts), k.1)) (step_blocks rest) (blocks_lie rest c hi h.2)),
    )

-- names belong to the block that declares them
names_own : {X : Type 0} (o c from : ℕ) (means : ℕ → X) (n : ℕ) (xs : List Ident) → Each (λ d. (d.opens ≡ o) × (d.closes ≡ c)) (declared_from o c from means n xs)
names_own {X = X} o c from means n [] = tt
names_own {X = X} o c from means n (x ∷ xs) = by (is_blank x.name) (names_own o c from means (suc n) xs)
  where
    by : (b : Bool) → Each (λ d. (d.opens ≡ o) × (d.closes ≡ c)) (declared_from o c from means (suc n) xs)
        → Each (λ d. (d.opens ≡ o) × (d.closes ≡ c)) ((if b then [] else record { name = x.name; at = x.span.start; from = from; opens = o; closes = c; means = means n } ∷ []) ++ declared_from o c from means (suc n) xs)
    by true h = h
    by false h = ((refl, refl), h)

-- what ends before a place, or begins behind it, does not contain it
none_before : (bs : List BlockPlace) (lo hi place : ℕ) → hi ≤ place → Each (λ b. (lo ≤ b.opens) × (b.closes ≤ hi)) bs → NoneHasPlace bs place
none_before bs lo hi place l h = each-weaker _ _ (λ b k q. omega (arith, k.1, q.1, l)) bs h

none_behind : (bs : List BlockPlace) (lo hi place : ℕ) → place < lo → Each (λ b. (lo ≤ b.opens) × (b.closes ≤ hi)) bs → NoneHasPlace bs place
none_behind bs lo hi place l h = each-weaker _ _ (λ b k q. omega (arith, k.0, q.0, l)) bs h

module _ (X N : Type 0) (rules : Rules X N) (beyond : List ℕ → Option X) (all : List (Local X)) where
  each_sits : (ss : Steps) (o c lo hi : ℕ) → o < lo → Placed lo hi ss → Each (Sits X o c (step_blocks ss)) (law_out rules beyond all o c ss).declares
  each_sits Done o c lo hi l h = tt
  each_sits (Check p rest) o c lo hi l h = each_sits rest o c h.0 hi (omega (arith, l, in_order_ends (spell_piece p) lo h.0 h.1.0)) h.1.1
  each_sits (Declare m from p xs rest) o c lo hi l h =
      let starts = in_order_ends (spell_piece p) lo from h.0 in
      let means : ℕ → X = rules.means (bound beyond all) (map (is_first all o) xs) p in
      let lie = blocks_lie rest from hi h.2 in
      let bs = step_blocks rest in
      each-append _ (declared_from o c from means 0 xs) (law_out rules beyond all o c rest).declares
      (each_two _ _ (Sits X o c bs) (λ d k q. inl (record { opens = k.0; closes = k.1; none = none_behind bs from hi d.at q.at_hi lie }))
      (declared_from o c from means 0 xs) (names_own o c from means 0 xs) (names_parts X o c lo lo from means 0 xs l (omega arith) h.1))
      (each_sits rest o c from hi (omega (arith, l, starts)) h.2)
  each_sits (Inner o' c' inner rest) o c lo hi l h =
      let bs = step_blocks inner in
      let cs = step_blocks rest in
      let here = block_between o' c' in
      let in_bs = blocks_lie inner (o' + 1) c' h.1 in
      let in_cs = blocks_lie rest c' hi h.2 in
      let ends = placed_ends inner (o' + 1) c' h.1 in
      let later : o < c' = omega (arith, l, h.0, ends) in
      each-append _ (law_out rules beyond all o' c' inner).declares (law_out rules beyond all o c rest).declares
      (each_two _ _ (Sits X o c (here ∷ (bs ++ cs))) (λ d k q. inr (before_others X (here ∷ bs) cs d (none_behind cs c' hi d.at q.at_hi in_cs) (settled X o' c' bs d k q)))
      (law_out rules beyond all o' c' inner).declares (each_sits inner o' c' (o' + 1) c' (omega arith) h.1) (law_parts X N rules beyond all inner o' c' (o' + 1) c' (omega arith) h.1))
      (each_two _ _ (Sits X o c (here ∷ (bs ++ cs))) (λ d k q. behind_others X o c (here ∷ bs) cs d (outside d q.at_lo, none_before bs (o' + 1) c' d.at q.at_lo in_bs) k)
      (law_out rules beyond all o c rest).declares (each_sits rest o c c' hi later h.2) (law_parts X N rules beyond all rest o c c' hi later h.2))
    where
      outside : (d : Local X) → c' ≤ d.at → ¬ ContainsPlace (block_between o' c') d.at
      outside d low k = omega (arith, low, k.1)

  func_deepest : (f : FuncTree) → IsFuncPlaced f → Each (IsDeepest X (func_blocks f)) (law_out rules beyond all f.func.start f.close_brace.start (func_steps f)).declares
  func_deepest f p =
      let o = f.func.start in
      let c = f.close_brace.start in
      let placed = func_placed f p.0 p.1.0 p.1.1 in
      let ds = (law_out rules beyond all o c (func_steps f)).declares in
      subst (λ bs. Each (IsDeepest X (block_between o c ∷ bs)) ds) (body_blocks f)
      (each_two _ _ (IsDeepest X (block_between o c ∷ step_blocks (func_steps f))) (λ d k q. settled X o c (step_blocks (func_steps f)) d k q)
      ds (each_sits (func_steps f) o c (o + 1) c (omega arith) placed) (law_parts X N rules beyond all (func_steps f) o c (o + 1) c (omega arith) placed))

pub blocks_are_innermost : (X N : Type 0) → BlocksAreInnermost X N
blocks_are_innermost X N rules beyond f p all h d among =
    let deep = each_local (IsDeepest X (func_blocks f)) all (subst (λ l. Each (IsDeepest X (func_blocks f)) l) (sym h) (func_deepest X N rules beyond all f p)) d among in
    record { one = deep.one; has = deep.has; inner = λ c m k. each_block (λ c. ContainsPlace c d.at → LiesWithin (owner d) c) (func_blocks f) deep.inner c m k }
