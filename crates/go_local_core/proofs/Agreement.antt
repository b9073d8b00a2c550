-- What comes of the steps on the way through them is what the intervals give.
use Rattle.std.proofs.Common.{◌≡◌, ℕ, suc, ◌+◌, ◌<◌, ◌≤◌, Bool, true, false, not, ◌&&◌, ◌||◌, List, [], ◌∷◌, ◌++◌, map, filter, Option, refl, sym, ap, subst, ◌∙◌, arith}
use Rattle.std.specs.Prelude.{if◌then◌else◌}
use Rattle.std.specs.List.{list_any}
use Rattle.std.specs.Str.{bytes_eq}
use Rattle.std.proofs.lemmas.List.{append_assoc, append-nil, map-append}
use Rattle.std.proofs.lemmas.List.Elements.{filter-append}
use Rattle.std.proofs.lemmas.List.Folds.{list_any-append}
use Rattle.std.proofs.lemmas.Slice.Eq.{bytes_eq-Decides}
use Rattle.go_tree_nodes.specs.text_core.Text.{is_blank}
use Rattle.go_tree_nodes.specs.declared.names.Ident.{Ident}
use Rattle.go_tree_nodes.specs.Terminals.{Terminal, TerminalKind, Spelled, Number, Quoted, Word, Mark, Stray, InOrder, least_width}
use Rattle.go_tree_nodes.proofs.InOrder.{in_order_ends, AreInTurn, turn_ends}
use Rattle.go_local_core.specs.Steps.{Steps, Done, Check, Declare, Inner, spell_piece}
use Rattle.go_scope_stack.specs.Blocks.{or_else}
use Rattle.go_local_core.specs.Binding.{Local, NameLook, region_has, is_second, shown, innermost_of, bound, is_first}
use Rattle.go_local_core.specs.Law.{Rules, Out, out, both, locals_of_names, declared_from, declare_out, check_out, law_out}
use Rattle.go_local_core.specs.Faults.{name_faults}
use Rattle.go_local_core.specs.mirrors.Walk.{latest, look_in, is_new, with_names, news, names_of, walk_out}
use Rattle.go_local_core.specs.Alike.{AlikeAt, Alike, LookAtNames}
use Rattle.go_tree_nodes.specs.text_core.Each.{Each, each-weaker, each-append, filter-none}
use Rattle.go_local_core.proofs.Found.{pairs, found}
use Rattle.go_local_core.proofs.Placed.{Placed, placed_ends}
use Rattle.go_local_core.proofs.Parts.{IsPart, inside, names_parts, law_parts, walk_parts}
use Rattle.go_local_core.proofs.Fits.{Fits, fits_later, fits_enter, fits_leave, fits_second, fits_first, second_is, region-before}

-- a declaration that comes no earlier than m
abbrev pub IsAfter : {X : Type 0} → ℕ → Local X → Type 0
IsAfter m e = (m ≤ e.from) × (m ≤ e.at)

-- what names mean

one_look : (X : Type 0) (beyond : List ℕ → Option X) (all past rest outer block : List (Local X)) (o c lo at q : ℕ) (n : List ℕ) → Fits X all past outer block o c lo at → all ≡ past ++ rest → lo ≤ q → q < c → Each (λ e. q < e.from) rest
    → bound beyond all n q ≡ look_in beyond (pairs outer ++ pairs block) n q
one_look X beyond all past rest outer block o c lo at q n f e l r later =
    let hidden : shown all q rest ≡ [] = filter-none (λ d. region_has d q && not (is_second all d.opens d.name d.at)) rest (each-weaker _ _ (λ d k. ap (λ b. b && not (is_second all d.opens d.name d.at)) (region-before d q k)) rest later) in
    let here : shown all q all ≡ outer ++ block =
    ap (shown all q) e ∙ (filter-append (λ d. region_has d q && not (is_second all d.opens d.name d.at)) past rest
    ∙ (ap (λ l. shown all q past ++ l) hidden ∙ (append-nil (shown all q past) ∙ f.sees q l r))) in
    ap (λ o. or_else o (beyond n))
    (ap (λ l. innermost_of (filter (λ d. bytes_eq n d.name) l)) here ∙ (found n (outer ++ block) f.nested ∙ ap (λ l. latest l n) (map-append (λ d. (d.name, d.means)) outer block)))

looks : (X : Type 0) (beyond : List ℕ → Option X) (all past rest outer block : List (Local X)) (o c lo at hi : ℕ) → Fits X all past outer block o c lo at → all ≡ past ++ rest → hi ≤ c → Each (λ e. hi ≤ e.from) rest
    → (low : ℕ) → lo ≤ low → (ts : List Terminal) → InOrder low ts hi → Alike (bound beyond all) (look_in beyond (pairs outer ++ pairs block)) ts
looks X beyond all past rest outer block o c lo at hi f e r later low l [] h = tt
looks X beyond all past rest outer block o c lo at hi f e r later low l (t ∷ ts) h =
    (by t.kind h.1, looks X beyond all past rest outer block o c lo at hi f e r later t.span.end (omega (arith, h.0, h.1)) ts h.2)
  where
    ends : t.span.end ≤ hi
    ends = in_order_ends ts t.span.end hi h.2

    by : (k : TerminalKind) → t.span.start + least_width k ≤ t.span.end → AlikeAt (bound beyond all) (look_in beyond (pairs outer ++ pairs block)) k t.span
    by (Spelled n) w = one_look X beyond all past rest outer block o c lo at t.span.start n f e (omega (arith, h.0)) (omega (arith, ends)) (each-weaker _ _ (λ d k. omega (arith, k, ends)) rest later)
    by (Number n) w = tt
    by (Quoted bs) w = tt
    by (Word k) w = tt
    by (Mark o) w = tt
    by Stray w = tt

-- names that are declared

-- the declarations of a block after names that a piece declares
abbrev with_locals : {X : Type 0} → ℕ → ℕ → ℕ → (ℕ → X) → List (Local X) → ℕ → List Ident → List (Local X)
with_locals o c from means block n [] = block
with_locals o c from means block n (x ∷ xs) =
    with_locals o c from means (if is_new (pairs block) x then block ++ record { name = x.name; at = x.span.start; from = from; opens = o; closes = c; means = means n } ∷ [] else block) (suc n) xs

pairs_push : {X : Type 0} (b : Bool) (block : List (Local X)) (d : Local X) → pairs (if b then block ++ d ∷ [] else block) ≡ (if b then pairs block ++ (d.name, d.means) ∷ [] else pairs block)
pairs_push true block d = map-append (λ d. (d.name, d.means)) block (d ∷ [])
pairs_push false block d = refl

pairs_with : {X : Type 0} (o c from : ℕ) (means : ℕ → X) (xs : List Ident) (block : List (Local X)) (n : ℕ) → pairs (with_locals o c from means block n xs) ≡ with_names (pairs block) means n xs
pairs_with o c from means [] block n = refl
pairs_with o c from means (x ∷ xs) block n =
    let d : Local _ = record { name = x.name; at = x.span.start; from = from; opens = o; closes = c; means = means n } in
    pairs_with o c from means xs (if is_new (pairs block) x then block ++ d ∷ [] else block) (suc n)
    ∙ ap (λ l. with_names l means (suc n) xs) (pairs_push (is_new (pairs block) x) block d)

any_pairs : {X : Type 0} (n : List ℕ) (block : List (Local X)) → list_any (λ e. bytes_eq n e.0) (pairs block) ≡ list_any (λ e. bytes_eq n e.name) block
any_pairs n [] = refl
any_pairs n (d ∷ ds) = ap (λ b. bytes_eq n d.name || b) (any_pairs n ds)

-- the names seen are, but for blank ones, those of the block
abbrev AreSeen : {X : Type 0} → List (List ℕ) → List (Local X) → Type 0
AreSeen seen block = (n : List ℕ) → is_blank n ≡ false → list_any (bytes_eq n) seen ≡ list_any (λ e. bytes_eq n e.name) block

seen_names : {X : Type 0} (block : List (Local X)) → AreSeen (names_of (pairs block)) block
seen_names [] n h = refl
seen_names (d ∷ ds) n h = ap (λ b. bytes_eq n d.name || b) (seen_names ds n h)

-- one name
module _ (X : Type 0) (all past rest outer block : List (Local X)) (seen : List (List ℕ)) (o c from at : ℕ) (means : ℕ → X) (n : ℕ) (x : Ident) where
  abbrev d : Local X
  d = record { name = x.name; at = x.span.start; from = from; opens = o; closes = c; means = means n }

  abbrev taken : Bool
  taken = list_any (λ e. bytes_eq x.name e.name) block

  one_name : Fits X all past outer block o c from at → at ≤ x.span.start → AreSeen seen block → all ≡ past ++ (locals_of_names o c from means n x ++ rest) → Each (λ e. x.span.start < e.at) rest
      → (is_first all o x ≡ (not (is_blank x.name) && not (list_any (bytes_eq x.name) seen))) × (is_new (pairs block) x ≡ (not (is_blank x.name) && not taken))
      × Fits X all (past ++ locals_of_names o c from means n x) outer (if not (is_blank x.name) && not taken then block ++ d ∷ [] else block) o c from (x.span.start + 1)
      × AreSeen (seen ++ x.name ∷ []) (if not (is_blank x.name) && not taken then block ++ d ∷ [] else block)
  one_name f l s e later = by (is_blank x.name) refl e
    where
      same : (b : Bool) → (n : List ℕ) → is_blank n ≡ false → taken ≡ b → is_blank x.name ≡ false
          → list_any (bytes_eq n) (seen ++ x.name ∷ []) ≡ list_any (λ e. bytes_eq n e.name) (if not b then block ++ d ∷ [] else block)
      same false n h t k = list_any-append (bytes_eq n) seen (x.name ∷ []) ∙ (ap (λ b. b || (bytes_eq n x.name || false)) (s n h) ∙ sym (list_any-append (λ e. bytes_eq n e.name) block (d ∷ [])))
      same true n h t k = list_any-append (bytes_eq n) seen (x.name ∷ []) ∙ (ap (λ b. b || (bytes_eq n x.name || false)) (s n h) ∙ again (bytes_eq n x.name) refl)
        where
          again : (w : Bool) → bytes_eq n x.name ≡ w → (list_any (λ e. bytes_eq n e.name) block || (w || false)) ≡ list_any (λ e. bytes_eq n e.name) block
          again true q = ap (λ b. b || true) there ∙ sym there
            where
              there : list_any (λ e. bytes_eq n e.name) block ≡ true
              there = ap (λ m. list_any (λ e. bytes_eq m e.name) block) ((bytes_eq-Decides n x.name).0 q) ∙ t
          again false q = or_false (list_any (λ e. bytes_eq n e.name) block)
            where
              or_false : (b : Bool) → (b || false) ≡ b
              or_false true = refl
              or_false false = refl

      blank_seen : is_blank x.name ≡ true → AreSeen (seen ++ x.name ∷ []) block
      blank_seen k n h = list_any-append (bytes_eq n) seen (x.name ∷ []) ∙ (ap (λ b. list_any (bytes_eq n) seen || (b || false)) (other (bytes_eq n x.name) refl) ∙ (or_false (list_any (bytes_eq n) seen) ∙ s n h))
        where
          or_false : (b : Bool) → (b || false) ≡ b
          or_false true = refl
          or_false false = refl

          other : (w : Bool) → bytes_eq n x.name ≡ w → w ≡ false
          other false q = refl
          other true q = sym (ap is_blank ((bytes_eq-Decides n x.name).0 q) ∙ k) ∙ h

      first : (t : Bool) → taken ≡ t → is_blank x.name ≡ false → (e : all ≡ past ++ (d ∷ rest))
          → (not (is_second all o x.name x.span.start) ≡ not (list_any (bytes_eq x.name) seen)) × ((not (list_any (λ e. bytes_eq x.name e.0) (pairs block))) ≡ not t)
          × Fits X all (past ++ d ∷ []) outer (if not t then block ++ d ∷ [] else block) o c from (x.span.start + 1)
          × AreSeen (seen ++ x.name ∷ []) (if not t then block ++ d ∷ [] else block)
      first t q k e =
          let second : is_second all o x.name x.span.start ≡ taken = second_is X all past (d ∷ []) rest outer block o c from at x.span.start x.name f l e (omega arith, tt) later in
          (ap not (second ∙ sym (s x.name k)), ap not (any_pairs x.name block ∙ q), fit t q second, λ n h. same t n h q k)
        where
          fit : (t : Bool) → taken ≡ t → is_second all o x.name x.span.start ≡ taken → Fits X all (past ++ d ∷ []) outer (if not t then block ++ d ∷ [] else block) o c from (x.span.start + 1)
          fit true q second = fits_second X all past outer block o c from at (x.span.start + 1) d f refl l (omega arith) (second ∙ q) q
          fit false q second = fits_first X all past outer block o c from at (x.span.start + 1) d f refl refl refl l (omega arith) (second ∙ q) q

      by : (w : Bool) → is_blank x.name ≡ w → all ≡ past ++ ((if w then [] else d ∷ []) ++ rest)
          → ((not w && not (is_second all o x.name x.span.start)) ≡ (not w && not (list_any (bytes_eq x.name) seen))) × ((not w && not (list_any (λ e. bytes_eq x.name e.0) (pairs block))) ≡ (not w && not taken))
          × Fits X all (past ++ (if w then [] else d ∷ [])) outer (if not w && not taken then block ++ d ∷ [] else block) o c from (x.span.start + 1)
          × AreSeen (seen ++ x.name ∷ []) (if not w && not taken then block ++ d ∷ [] else block)
      by true k e = (refl, refl, subst (λ l. Fits X all l outer block o c from (x.span.start + 1)) (sym (append-nil past)) (fits_later X all past outer block o c from at from (x.span.start + 1) f (omega arith) (omega arith)), blank_seen k)
      by false k e = first taken refl k e

-- names one after the other
names_agree : (X : Type 0) (all rest outer : List (Local X)) (o c from : ℕ) (means : ℕ → X) (xs : List Ident) (past block : List (Local X)) (seen : List (List ℕ)) (at n : ℕ) → Fits X all past outer block o c from at → AreInTurn at xs from → AreSeen seen block
    → all ≡ past ++ (declared_from o c from means n xs ++ rest) → Each (λ e. from ≤ e.at) rest
    → (map (is_first all o) xs ≡ news seen xs) × Fits X all (past ++ declared_from o c from means n xs) outer (with_locals o c from means block n xs) o c from from
names_agree X all rest outer o c from means [] past block seen at n f h s e later = (refl, subst (λ l. Fits X all l outer block o c from from) (sym (append-nil past)) (fits_later X all past outer block o c from at from from f (omega arith) h))
names_agree X all rest outer o c from means (x ∷ xs) past block seen at n f h s e later =
    let d : Local X = record { name = x.name; at = x.span.start; from = from; opens = o; closes = c; means = means n } in
    let mine = locals_of_names o c from means n x in
    let theirs = declared_from o c from means (suc n) xs in
    let low = f.low in
    let ends = turn_ends xs (x.span.start + 1) from h.1 in
    let e' : all ≡ past ++ (mine ++ (theirs ++ rest)) = e ∙ ap (λ l. past ++ l) (append_assoc mine theirs rest) in
    let after : Each (λ y. x.span.start < y.at) (theirs ++ rest) = each-append _ theirs rest
    (each-weaker _ _ (λ y q. let k = q.at_lo in omega arith) theirs (names_parts X o c (x.span.start + 1) (x.span.start + 1) from means (suc n) xs (omega (arith, h.0)) (omega arith) h.1))
    (each-weaker _ _ (λ y q. omega (arith, q)) rest later) in
    let step = one_name X all past (theirs ++ rest) outer block seen o c from at means n x f h.0 s e' after in
    let block' = if is_new (pairs block) x then block ++ d ∷ [] else block in
    let same : (if not (is_blank x.name) && not (list_any (λ e. bytes_eq x.name e.name) block) then block ++ d ∷ [] else block) ≡ block' = ap (λ b. if b then block ++ d ∷ [] else block) (sym step.1) in
    let there = names_agree X all rest outer o c from means xs (past ++ mine) block' (seen ++ x.name ∷ []) (x.span.start + 1) (suc n)
    (subst (λ b. Fits X all (past ++ mine) outer b o c from (x.span.start + 1)) same step.2) h.1 (subst (AreSeen (seen ++ x.name ∷ [])) same step.3) (e' ∙ sym (append_assoc past mine (theirs ++ rest))) later in (
      ap (λ b. b ∷ map (is_first all o) xs) step.0 ∙ ap (λ l. (not (is_blank x.name) && not (list_any (bytes_eq x.name) seen)) ∷ l) there.0,
      subst (λ l. Fits X all l outer (with_locals o c from means block' (suc n) xs) o c from from) (append_assoc past mine theirs) there.1,
    )

-- one of two, by a test
abbrev pub pick : {A : Type 0} → Bool → A → A → A
pick k a b = if k then a else b

pick_append : {A : Type 0} (k : Bool) (es bs cs ds : List A) → pick k (es ++ bs) (cs ++ ds) ≡ pick k es cs ++ pick k bs ds
pick_append true es bs cs ds = refl
pick_append false es bs cs ds = refl

pick_same : {A : Type 0} (k : Bool) (a b : A) → a ≡ b → pick k a b ≡ b
pick_same true a b h = h
pick_same false a b h = refl

pick_each : {A : Type 0} (P : A → Type 0) (k : Bool) (es bs : List A) → Each P es → Each P bs → Each P (pick k es bs)
pick_each P true es bs h i = h
pick_each P false es bs h i = i

pick_declared : {X : Type 0} (k : Bool) (o c from n : ℕ) (means other : ℕ → X) (xs : List Ident) → pick k (declared_from o c from means n xs) (declared_from o c from other n xs) ≡ declared_from o c from (pick k means other) n xs
pick_declared true o c from n means other xs = refl
pick_declared false o c from n means other xs = refl

module _ (X N : Type 0) (rules : Rules X N) (at_names : LookAtNames X N rules) (beyond : List ℕ → Option X) (all : List (Local X)) (k : Bool) where
  abbrev law : ℕ → ℕ → Steps → Out X N
  law o c ss = law_out rules beyond all o c ss

  abbrev walk : List (Local X) → List (Local X) → ℕ → ℕ → Steps → Out X N
  walk outer block o c ss = walk_out rules beyond (pairs outer) (pairs block) o c ss

  -- the declarations of steps that stand in the list of all: those that the intervals give, or those of the walk
  abbrev mine : List (Local X) → List (Local X) → ℕ → ℕ → Steps → List (Local X)
  mine outer block o c ss = pick k (law o c ss).declares (walk outer block o c ss).declares

  mine_parts : (ss : Steps) (outer block : List (Local X)) (o c lo hi : ℕ) → o < lo → Placed lo hi ss → Each (IsPart X o c lo hi) (mine outer block o c ss)
  mine_parts ss outer block o c lo hi l h = pick_each (IsPart X o c lo hi) k (law o c ss).declares (walk outer block o c ss).declares (law_parts X N rules beyond all ss o c lo hi l h) (walk_parts X N rules beyond all ss (pairs outer) (pairs block) o c lo hi l h)

  parts_after : (o c lo hi : ℕ) (ds : List (Local X)) → Each (IsPart X o c lo hi) ds → Each (IsAfter lo) ds
  parts_after o c lo hi ds h = each-weaker _ _ (λ e q. (q.from_lo, q.at_lo)) ds h

  pub steps_agree : (ss : Steps) (past rest outer block : List (Local X)) (o c lo hi : ℕ) → Fits X all past outer block o c lo lo → Placed lo hi ss → hi ≤ c
      → all ≡ past ++ (mine outer block o c ss ++ rest) → Each (IsAfter hi) rest → law o c ss ≡ walk outer block o c ss
  steps_agree Done past rest outer block o c lo hi f h r e later = refl
  steps_agree (Check p ss) past rest outer block o c lo hi f h r e later =
      let mid = h.0 in
      let low = f.low in
      let starts = in_order_ends (spell_piece p) lo mid h.1.0 in
      let ends = placed_ends ss mid hi h.1.1 in
      let after : Each (IsAfter mid) (mine outer block o c ss ++ rest) = each-append _ (mine outer block o c ss) rest (parts_after o c mid hi _ (mine_parts ss outer block o c mid hi (omega arith) h.1.1)) (each-weaker _ _ (λ y q. (omega (arith, q.0), omega (arith, q.1))) rest later) in
      let alike = looks X beyond all past (mine outer block o c ss ++ rest) outer block o c lo lo mid f e (omega arith) (each-weaker _ _ (λ y q. q.0) _ after) lo (omega arith) (spell_piece p) h.1.0 in
      let there = steps_agree ss past rest outer block o c mid hi (fits_later X all past outer block o c lo lo mid mid f starts starts) h.1.1 r e later in
      ap (λ ns. both (out [] ns []) (law o c ss)) (at_names.notes (bound beyond all) (look_in beyond (pairs outer ++ pairs block)) [] p alike)
      ∙ ap (both (check_out rules (look_in beyond (pairs outer ++ pairs block)) p)) there
  steps_agree (Declare m from p xs ss) past rest outer block o c lo hi f h r e later =
      let low = f.low in
      let starts = in_order_ends (spell_piece p) lo from h.0 in
      let ends = placed_ends ss from hi h.2 in
      let here : NameLook X = look_in beyond (pairs outer ++ pairs block) in
      let new = news (names_of (pairs block)) xs in
      let firsts = map (is_first all o) xs in
      let law_means : ℕ → X = rules.means (bound beyond all) firsts p in
      let means : ℕ → X = rules.means here new p in
      let block' = with_locals o c from means block 0 xs in
      let picked : ℕ → X = pick k law_means means in
      let law_rest = (law o c ss).declares in
      let walk_rest = (walk_out rules beyond (pairs outer) (with_names (pairs block) means 0 xs) o c ss).declares in
      let others : List (Local X) = pick k law_rest walk_rest in
      let e' : all ≡ past ++ (declared_from o c from picked 0 xs ++ (others ++ rest)) =
      e ∙ ap (λ l. past ++ l) (ap (λ l. l ++ rest) (pick_append k (declared_from o c from law_means 0 xs) law_rest (declared_from o c from means 0 xs) walk_rest
      ∙ ap (λ l. l ++ others) (pick_declared k o c from 0 law_means means xs)) ∙ append_assoc (declared_from o c from picked 0 xs) others rest) in
      let parts : Each (IsPart X o c from hi) others = pick_each (IsPart X o c from hi) k law_rest walk_rest (law_parts X N rules beyond all ss o c from hi (omega arith) h.2) (walk_parts X N rules beyond all ss (pairs outer) (with_names (pairs block) means 0 xs) o c from hi (omega arith) h.2) in
      let after : Each (IsAfter from) (others ++ rest) = each-append _ others rest (parts_after o c from hi others parts) (each-weaker _ _ (λ y q. (omega (arith, q.0), omega (arith, q.1))) rest later) in
      let all_after : Each (λ y. from ≤ y.from) (declared_from o c from picked 0 xs ++ (others ++ rest)) = each-append _ (declared_from o c from picked 0 xs) (others ++ rest) (names_from o c from picked 0 xs) (each-weaker _ _ (λ y q. q.0) (others ++ rest) after) in
      let alike : Alike (bound beyond all) here (spell_piece p) = looks X beyond all past (declared_from o c from picked 0 xs ++ (others ++ rest)) outer block o c lo lo from f e' (omega arith) all_after lo (omega arith) (spell_piece p) h.0 in
      let names = names_agree X all (others ++ rest) outer o c from picked xs past block (names_of (pairs block)) lo 0 (fits_later X all past outer block o c lo lo from lo f starts (omega arith)) h.1 (seen_names block) e' (each-weaker _ _ (λ y q. q.1) (others ++ rest) after) in
      let same_means : law_means ≡ means = ap (λ bs. rules.means (bound beyond all) bs p) names.0 ∙ at_names.means (bound beyond all) here new p alike in
      let same_notes : rules.notes (bound beyond all) firsts p ≡ rules.notes here new p = ap (λ bs. rules.notes (bound beyond all) bs p) names.0 ∙ at_names.notes (bound beyond all) here new p alike in
      let chosen : picked ≡ means = pick_same k law_means means same_means in
      let fits : Fits X all (past ++ declared_from o c from picked 0 xs) outer block' o c from from = subst (λ g. Fits X all (past ++ declared_from o c from picked 0 xs) outer (with_locals o c from g block 0 xs) o c from from) chosen names.1 in
      let open_names : pairs block' ≡ with_names (pairs block) means 0 xs = pairs_with o c from means xs block 0 in
      let there = steps_agree ss (past ++ declared_from o c from picked 0 xs) rest outer block' o c from hi fits h.2 r
      (e' ∙ (sym (append_assoc past (declared_from o c from picked 0 xs) (others ++ rest)) ∙ ap (λ b. (past ++ declared_from o c from picked 0 xs) ++ (pick k law_rest (walk_out rules beyond (pairs outer) b o c ss).declares ++ rest)) (sym open_names))) later in
      ap (λ g. both (out (declared_from o c from g 0 xs) (rules.notes (bound beyond all) firsts p) (name_faults m firsts xs)) (law o c ss)) same_means
      ∙ (ap (λ ns. both (out (declared_from o c from means 0 xs) ns (name_faults m firsts xs)) (law o c ss)) same_notes
      ∙ (ap (λ bs. both (out (declared_from o c from means 0 xs) (rules.notes here new p) (name_faults m bs xs)) (law o c ss)) names.0
      ∙ ap (both (declare_out rules o c here new m from p xs)) (there ∙ ap (λ b. walk_out rules beyond (pairs outer) b o c ss) open_names)))
    where
      names_from : (o c from : ℕ) (means : ℕ → X) (n : ℕ) (xs : List Ident) → Each (λ y. from ≤ y.from) (declared_from o c from means n xs)
      names_from o c from means n [] = tt
      names_from o c from means n (x ∷ xs) = each-append _ (locals_of_names o c from means n x) (declared_from o c from means (suc n) xs) (by (is_blank x.name)) (names_from o c from means (suc n) xs)
        where
          by : (b : Bool) → Each (λ (y : Local X). from ≤ y.from) (if b then [] else record { name = x.name; at = x.span.start; from = from; opens = o; closes = c; means = means n } ∷ [])
          by true = tt
          by false = (omega arith, tt)
  steps_agree (Inner p d inner ss) past rest outer block o c lo hi f h r e later =
      let low = f.low in
      let inside_ends = placed_ends inner (p + 1) d h.1 in
      let ends = placed_ends ss d hi h.2 in
      let around : pairs (outer ++ block) ≡ pairs outer ++ pairs block = map-append (λ d. (d.name, d.means)) outer block in
      let walk_inner : Out X N = walk_out rules beyond (pairs outer ++ pairs block) [] p d inner in
      let theirs : List (Local X) = mine (outer ++ block) [] p d inner in
      let others : List (Local X) = mine outer block o c ss in
      let e' : all ≡ past ++ (theirs ++ (others ++ rest)) =
      e ∙ ap (λ l. past ++ l) (ap (λ l. l ++ rest) (pick_append k (law p d inner).declares (law o c ss).declares walk_inner.declares (walk outer block o c ss).declares
      ∙ ap (λ b. pick k (law p d inner).declares (walk_out rules beyond b [] p d inner).declares ++ others) (sym around)) ∙ append_assoc theirs others rest) in
      let parts : Each (IsPart X p d (p + 1) d) theirs = mine_parts inner (outer ++ block) [] p d (p + 1) d (omega arith) h.1 in
      let after : Each (IsAfter d) (others ++ rest) = each-append _ others rest (parts_after o c d hi others (mine_parts ss outer block o c d hi (omega (arith, h.0)) h.2)) (each-weaker _ _ (λ y q. (omega (arith, q.0), omega (arith, q.1))) rest later) in
      let here : law p d inner ≡ walk_inner = steps_agree inner past (others ++ rest) (outer ++ block) [] p d (p + 1) d (fits_enter X all past outer block o c lo p d f h.0 (omega arith)) h.1 (omega arith) e' after
      ∙ ap (λ b. walk_out rules beyond b [] p d inner) around in
      let there = steps_agree ss (past ++ theirs) rest outer block o c d hi (fits_leave X all past theirs outer block o c lo p d f h.0 (omega arith) (each-weaker _ _ (inside X p d) theirs parts)) h.2 r (e' ∙ sym (append_assoc past theirs (others ++ rest))) later in
      ap (λ a. both a (law o c ss)) here ∙ ap (both walk_inner) there
