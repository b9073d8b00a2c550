-- The next level, arrow by arrow.
use Rattle.std.proofs.Common.{◌≡◌, ℕ, zero, suc, ◌+◌, ◌<◌, ◌≤◌, Bool, true, ◌||◌, List, [], ◌∷◌, ◌++◌, length, set, get_or, Some, None, refl, sym, ap, ◌∙◌, subst, arith, ◌⊎◌, inl, inr, length-append, length-set}
use Rattle.std.specs.Prelude.{slice_get, nat_eq}
use Rattle.std.specs.Map.{lookup}
use Rattle.go_term_core.specs.Terms.{Term, Defined}
use Rattle.go_embed_core.specs.table_core.Entries.{Entry, find_entry}
use Rattle.go_embed_core.specs.Owners.{OwnerModel, EmbeddedEdge, owner_in, embeds_at, owner_field_count}
use Rattle.go_select_core.specs.levels.Paths.{Step, FieldsLead}
use Rattle.go_select_core.specs.declared.levels.level.Reached.{Reached}
use Rattle.go_select_core.specs.levels.mirrors.Ways.{At, Way, way_of, ways, arrow, crowded, IsNumbered, IsNumber, IsRight, Pushed, Noted, Entered, known, again, fresh, loose}
use Rattle.go_select_core.specs.levels.mirrors.Levels.{Sooner, IsWay, Covers, Apart, IsLevel, Before, OtherArrow, IsMade, Carries, weight, left, bound, IsLighter, IsNext}
use Rattle.go_select_core.proofs.LevelsListLemmas.{at_old, at_new, at_append, at_set_same, at_set_other, at_set, at_same, at_within, same_or_not, last_same, last_of, less_or_same, below_or_not}
use Rattle.go_select_core.proofs.LevelsEdges.{step_at, step_edge, step_same, step_within, edge_place}
use Rattle.go_select_core.proofs.LevelsWayLemmas.{ways_length, ways_at}
use Rattle.go_select_core.proofs.LevelsWalks.{leads_step, leads_back}
use Rattle.go_select_core.proofs.LevelsWeights.{lookup_cases, left_falls, step_lighter, number_or_none}

before_more : (b j a i : ℕ) → Before b j a i → Before b j a (i + 1)
before_more b j a i (inl l) = inl l
before_more b j a i (inr r) = inr (r.0, omega (arith, r.1))

before_cases : (b j a i : ℕ) → Before b j a (i + 1) → Before b j a i ⊎ ((b ≡ a) × (j ≡ i))
before_cases b j a i (inl l) = inl (inl l)
before_cases b j a i (inr r) = elim (less_or_same j i r.1) [ inl l ↦ inl (inr (r.0, l)) | inr e ↦ inr (r.0, e) ]

not_before : (b j a i : ℕ) → Before b j a i → a ≡ b → i ≡ j → ⊥
not_before b j a i (inl l) e f = omega (arith, l, e)
not_before b j a i (inr r) e f = omega (arith, r.1, f)

made_more : (es : List Entry) (first : ℕ) (level : List Way) (a i : ℕ) (z : Way) → IsMade (find_entry es) first level a i z → IsMade (find_entry es) first level a (i + 1) z
made_more es first level a i z m =
    record { b = m.b; j = m.j; p = m.p; y = m.y; before = before_more m.b m.j a i m.before; at = m.at; in_level = m.in_level; step = m.step; path = m.path; pointer = m.pointer; other = m.other }

pub numbered_same : (es : List Entry) (n : ℕ) (u v : Term) → IsNumbered es n u → IsNumbered es n v → u ≡ v
numbered_same es n u v a b =
    let s : a.entry ≡ b.entry = at_same es n a.entry b.entry a.at b.at in
    a.is ∙ ap (λ (e : Entry). Defined e.key) s ∙ sym b.is

-- before the first arrow
pub next_start : (es : List Entry) (first : ℕ) (level : List Way) (met : List (ℕ × ℕ)) → IsRight es level met → IsNext es first level met first 0 level met
next_start es first level met right =
    record {
      longer = omega arith;
      same = λ n l. refl;
      made = λ n z at l. absurd (let w = at_within level n z at in omega (arith, w, l));
      apart = λ given m n x y hx hy lx ly same. absurd (let w = at_within level m x hx in omega (arith, w, lx));
      covers = λ b j p y v before at inside step. absurd (none b j before inside);
      right = right;
      falls = inr (refl, λ n z at l. absurd (let w = at_within level n z at in omega (arith, w, l)));
    }
  where
    none : (b j : ℕ) → Before b j first 0 → first ≤ b → ⊥
    none b j (inl l) inside = omega (arith, l, inside)
    none b j (inr r) inside = omega (arith, r.1)

module _ (es : List Entry) (first : ℕ) (level : List Way) (met : List (ℕ × ℕ)) (a i : ℕ) (y : Way) (e : EmbeddedEdge) (ws : List Way) (mets : List (ℕ × ℕ))
    (g : IsNext es first level met a i ws mets) (at : At level a y) (inside : first ≤ a) (step : Step (find_entry es) y.node i e.pointer e.target) (place : e.position ≡ i) where
  -- what is new at (a, i) is the arrow there
  here : (b j : ℕ) (p : Bool) (w : Way) (u : Term) → b ≡ a → j ≡ i → At level b w → Step (find_entry es) w.node j p u → (w ≡ y) × (u ≡ e.target)
  here b j p w u ba ji aw sw =
      let wy : w ≡ y = at_same level a w y (subst (λ k. At level k w) ba aw) at in
      let s : Step (find_entry es) y.node i p u = subst (λ k. Step (find_entry es) y.node k p u) ji (subst (λ (q : Way). Step (find_entry es) q.node j p u) wy sw) in
      (wy, (step_same (find_entry es) y.node i p e.pointer u e.target s step).1)

  -- an earlier level has it
  next_known : (n : ℕ) (z : Way) → At level n z → z.node ≡ e.target → IsNext es first level met a (i + 1) ws mets
  next_known n z az node =
      record {
        longer = g.longer;
        same = g.same;
        made = λ m x h l. made_more es first level a i x (g.made m x h l);
        apart = g.apart;
        covers = λ b j p w u before aw iw sw. pick b j p w u (before_cases b j a i before) aw iw sw;
        right = g.right;
        falls = g.falls;
      }
    where
      pick : (b j : ℕ) (p : Bool) (w : Way) (u : Term) → Before b j a i ⊎ ((b ≡ a) × (j ≡ i)) → At level b w → first ≤ b → Step (find_entry es) w.node j p u
          → Carries (length level) ws w j u ⊎ ((m : ℕ) × (x : Way) × At level m x × (x.node ≡ u))
      pick b j p w u (inl x) aw iw sw = g.covers b j p w u x aw iw sw
      pick b j p w u (inr x) aw iw sw = inr (n, z, az, node ∙ sym (here b j p w u x.0 x.1 aw sw).1)

  -- the next level has it already
  next_again : (n : ℕ) (z : Way) → At ws n z → length level ≤ n → z.node ≡ e.target → IsNext es first level met a (i + 1) (set ws n (crowded z)) mets
  next_again n z az behind node =
      record {
        longer = let l = g.longer in let s = length-set ws n (crowded z) in omega (arith, l, s);
        same = λ m l. at_set_other ws n m (crowded z) (λ s. omega (arith, s, l, behind)) ∙ g.same m l;
        made = λ m x h l. made_at m x l (at_set ws n z (crowded z) m x az h);
        apart = λ given l m x w hx hw lx lw same. apart_at given l m x w lx lw (at_set ws n z (crowded z) l x az hx) (at_set ws n z (crowded z) m w az hw) same;
        covers = λ b j p w u before aw iw sw. pick b j p w u (before_cases b j a i before) aw iw sw;
        right = record { at = λ m q h. right_at m q (g.right.at m q h) };
        falls = falls_at g.falls;
      }
    where
      made_new : (x : Way) → x ≡ crowded z → IsMade (find_entry es) first level a i z → IsMade (find_entry es) first level a (i + 1) x
      made_new x is m =
          subst (λ (q : Way). IsMade (find_entry es) first level a (i + 1) q) (sym is) (record {
            b = m.b;
            j = m.j;
            p = m.p;
            y = m.y;
            before = before_more m.b m.j a i m.before;
            at = m.at;
            in_level = m.in_level;
            step = m.step;
            path = m.path;
            pointer = m.pointer;
            other = λ h. inr (a, i, e.pointer, y, at, inside, subst (λ u. Step (find_entry es) y.node i e.pointer u) (sym node) step, λ ab ij. not_before m.b m.j a i m.before ab ij);
          })

      made_at : (m : ℕ) (x : Way) → length level ≤ m → ((m ≡ n) × (x ≡ crowded z)) ⊎ ((m ≡ n → ⊥) × At ws m x) → IsMade (find_entry es) first level a (i + 1) x
      made_at m x l (inl s) = made_new x s.1 (g.made n z az behind)
      made_at m x l (inr s) = made_more es first level a i x (g.made m x s.1 l)

      old_at : (m : ℕ) (x : Way) → ((m ≡ n) × (x ≡ crowded z)) ⊎ ((m ≡ n → ⊥) × At ws m x) → (w : Way) × At ws m w × (w.path ≡ x.path) × (w.node ≡ x.node)
      old_at m x (inl s) = (z, subst (λ k. At ws k z) (sym s.0) az, sym (ap (λ (q : Way). q.path) s.1), sym (ap (λ (q : Way). q.node) s.1))
      old_at m x (inr s) = (x, s.1, refl, refl)

      apart_at : Apart first level → (l m : ℕ) (x w : Way) → length level ≤ l → length level ≤ m → ((l ≡ n) × (x ≡ crowded z)) ⊎ ((l ≡ n → ⊥) × At ws l x)
          → ((m ≡ n) × (w ≡ crowded z)) ⊎ ((m ≡ n → ⊥) × At ws m w) → x.path ≡ w.path → l ≡ m
      apart_at given l m x w lx lw px pw same =
          let p = old_at l x px in
          let q = old_at m w pw in
          g.apart given l m p.0 q.0 p.1 q.1 lx lw (p.2 ∙ same ∙ sym q.2)

      carry : (w : Way) (j : ℕ) (u : Term) → Carries (length level) ws w j u → Carries (length level) (set ws n (crowded z)) w j u
      carry w j u c =
          elim (same_or_not c.0 n) [
            | inl s ↦ (n, crowded z, at_set_same ws n z (crowded z) az, behind, (let zc : c.1 ≡ z = at_same ws n c.1 z (subst (λ k. At ws k c.1) s c.2) az in sym (ap (λ (q : Way). q.node) zc) ∙ c.4), inl refl)
            | inr d ↦ (c.0, c.1, at_set_other ws n c.0 (crowded z) d ∙ c.2, c.3, c.4, c.5)
          ]

      pick : (b j : ℕ) (p : Bool) (w : Way) (u : Term) → Before b j a i ⊎ ((b ≡ a) × (j ≡ i)) → At level b w → first ≤ b → Step (find_entry es) w.node j p u
          → Carries (length level) (set ws n (crowded z)) w j u ⊎ ((m : ℕ) × (x : Way) × At level m x × (x.node ≡ u))
      pick b j p w u (inl x) aw iw sw = elim (g.covers b j p w u x aw iw sw) [ inl c ↦ inl (carry w j u c) | inr k ↦ inr k ]
      pick b j p w u (inr x) aw iw sw =
          inl (n, crowded z, at_set_same ws n z (crowded z) az, behind, node ∙ sym (here b j p w u x.0 x.1 aw sw).1, inl refl)

      right_at : (m q : ℕ) → (x : Way) × At ws q x × IsNumbered es m x.node → (x : Way) × At (set ws n (crowded z)) q x × IsNumbered es m x.node
      right_at m q r =
          elim (same_or_not q n) [
            | inl s ↦ (
              crowded z,
              subst (λ k. At (set ws n (crowded z)) k (crowded z)) (sym s) (at_set_same ws n z (crowded z) az),
              (let zr : r.0 ≡ z = at_same ws n r.0 z (subst (λ k. At ws k r.0) s r.1) az in subst (λ (x : Way). IsNumbered es m x.node) zr r.2),
            )
            | inr d ↦ (r.0, at_set_other ws n q (crowded z) d ∙ r.1, r.2)
          ]

      falls_at : (left es mets < left es met) ⊎ ((left es mets ≡ left es met) × IsLighter es first level ws) → (left es mets < left es met) ⊎ ((left es mets ≡ left es met) × IsLighter es first level (set ws n (crowded z)))
      falls_at (inl l) = inl l
      falls_at (inr r) = inr (r.0, λ m x h l. let o = old_at m x (at_set ws n z (crowded z) m x az h) in let k = r.1 m o.0 o.1 l in (k.0, k.1, k.2, k.3, subst (λ u. weight es u < weight es k.1.node) o.3 k.4))

  -- it is new
  next_new : (mets' : List (ℕ × ℕ)) → IsRight es (ws ++ arrow y e ∷ []) mets' → (left es mets' < left es met) ⊎ ((left es mets' ≡ left es met) × IsLighter es first level (ws ++ arrow y e ∷ []))
      → IsNext es first level met a (i + 1) (ws ++ arrow y e ∷ []) mets'
  next_new mets' right falls =
      record {
        longer = let l = g.longer in let s = length-append ws (arrow y e ∷ []) in omega (arith, l, s);
        same = λ n l. same_at n l;
        made = λ m x h l. made_at m x l (at_append ws (arrow y e) m x h);
        apart = λ given l m x w hx hw lx lw same. apart_at given l m x w lx lw (at_append ws (arrow y e) l x hx) (at_append ws (arrow y e) m w hw) same;
        covers = λ b j p w u before aw iw sw. pick b j p w u (before_cases b j a i before) aw iw sw;
        right = right;
        falls = falls;
      }
    where
      get_front : {A : Type 0} (xs : List A) (v : A) (n : ℕ) → n < length xs → slice_get (xs ++ v ∷ []) n ≡ slice_get xs n
      get_front [] v n l = absurd (omega (arith, l))
      get_front (x ∷ xs) v zero l = refl
      get_front (x ∷ xs) v (suc n) l = get_front xs v n (omega (arith, l))

      same_at : (n : ℕ) → n < length level → slice_get (ws ++ arrow y e ∷ []) n ≡ slice_get level n
      same_at n l = let k = g.longer in get_front ws (arrow y e) n (omega (arith, l, k)) ∙ g.same n l

      path_is : (arrow y e).path ≡ y.path ++ i ∷ []
      path_is = ap (λ k. y.path ++ k ∷ []) place

      made_at : (m : ℕ) (x : Way) → length level ≤ m → At ws m x ⊎ ((m ≡ length ws) × (x ≡ arrow y e)) → IsMade (find_entry es) first level a (i + 1) x
      made_at m x l (inl h) = made_more es first level a i x (g.made m x h l)
      made_at m x l (inr h) =
          subst (λ (q : Way). IsMade (find_entry es) first level a (i + 1) q) (sym h.1) (record {
            b = a;
            j = i;
            p = e.pointer;
            y = y;
            before = inr (refl, omega arith);
            at = at;
            in_level = inside;
            step = step;
            path = path_is;
            pointer = refl;
            other = λ many. inl many;
          })

      -- an arrow before has another path
      other_path : Apart first level → (m : ℕ) (x : Way) → At ws m x → length level ≤ m → x.path ≡ (arrow y e).path → ⊥
      other_path given m x h l same =
          let k = g.made m x h l in
          let s = last_same k.y.path y.path k.j i (sym k.path ∙ same ∙ path_is) in
          not_before k.b k.j a i k.before (given a k.b y k.y at k.at inside k.in_level (sym s.0)) (sym s.1)

      apart_at : Apart first level → (l m : ℕ) (x w : Way) → length level ≤ l → length level ≤ m → At ws l x ⊎ ((l ≡ length ws) × (x ≡ arrow y e)) → At ws m w ⊎ ((m ≡ length ws) × (w ≡ arrow y e)) → x.path ≡ w.path → l ≡ m
      apart_at given l m x w lx lw (inl h) (inl k) same = g.apart given l m x w h k lx lw same
      apart_at given l m x w lx lw (inl h) (inr k) same = absurd (other_path given l x h lx (same ∙ ap (λ (q : Way). q.path) k.1))
      apart_at given l m x w lx lw (inr h) (inl k) same = absurd (other_path given m w k lw (sym same ∙ ap (λ (q : Way). q.path) h.1))
      apart_at given l m x w lx lw (inr h) (inr k) same = h.0 ∙ sym k.0

      carry : (w : Way) (j : ℕ) (u : Term) → Carries (length level) ws w j u → Carries (length level) (ws ++ arrow y e ∷ []) w j u
      carry w j u c = (c.0, c.1, at_old ws (arrow y e) c.0 c.1 c.2, c.3, c.4, c.5)

      pick : (b j : ℕ) (p : Bool) (w : Way) (u : Term) → Before b j a i ⊎ ((b ≡ a) × (j ≡ i)) → At level b w → first ≤ b → Step (find_entry es) w.node j p u
          → Carries (length level) (ws ++ arrow y e ∷ []) w j u ⊎ ((m : ℕ) × (x : Way) × At level m x × (x.node ≡ u))
      pick b j p w u (inl x) aw iw sw = elim (g.covers b j p w u x aw iw sw) [ inl c ↦ inl (carry w j u c) | inr k ↦ inr k ]
      pick b j p w u (inr x) aw iw sw =
          let s = here b j p w u x.0 x.1 aw sw in
          inl (
            length ws,
            arrow y e,
            at_new ws (arrow y e),
            g.longer,
            sym s.1,
            inr (path_is ∙ ap (λ (q : Way). q.path ++ i ∷ []) (sym s.0) ∙ ap (λ k. w.path ++ k ∷ []) (sym x.1), ap (λ (q : Way). q.many) (sym s.0)),
          )

  -- the type of a number, in the level that is made or before
  noted : (n p : ℕ) → IsNumbered es n e.target → lookup (nat_eq n) mets ≡ Some p → (z : Way) × At ws p z × (z.node ≡ e.target)
  noted n p num met_at = let r = g.right.at n p met_at in (r.0, r.1, numbered_same es n r.0.node e.target r.2 num)

  owner_same : (w : Way) → At ws a w → w ≡ y
  owner_same w h = let l = at_within level a y at in at_same level a w y (sym (g.same a l) ∙ h) at

  right_old : IsRight es (ws ++ arrow y e ∷ []) mets
  right_old = record { at = λ m q h. let r = g.right.at m q h in (r.0, at_old ws (arrow y e) q r.0 r.1, r.2) }

  right_new : (n : ℕ) (mets' : List (ℕ × ℕ)) → IsNumbered es n e.target → Noted n (length ws) mets mets' → IsRight es (ws ++ arrow y e ∷ []) mets'
  right_new n mets' num noted =
      record {
        at = λ m q h. elim (lookup_cases mets mets' n (length ws) m q noted h) [
          | inl s ↦ (arrow y e, subst (λ k. At (ws ++ arrow y e ∷ []) k (arrow y e)) (sym s.1) (at_new ws (arrow y e)), subst (λ k. IsNumbered es k e.target) (sym s.0) num)
          | inr r ↦ let o = g.right.at m q r in (o.0, at_old ws (arrow y e) q o.0 o.1, o.2)
        ];
      }

  falls_new : (n : ℕ) (mets' : List (ℕ × ℕ)) → IsNumbered es n e.target → lookup (nat_eq n) mets ≡ None → Noted n (length ws) mets mets'
      → (left es mets' < left es met) ⊎ ((left es mets' ≡ left es met) × IsLighter es first level (ws ++ arrow y e ∷ []))
  falls_new n mets' num none noted =
      let l = left_falls es mets mets' n (length ws) e.target num none noted in
      elim g.falls [ inl k ↦ inl (omega (arith, l, k)) | inr k ↦ inl (omega (arith, l, k.0)) ]

  falls_loose : IsNumber es e.target None → (left es mets < left es met) ⊎ ((left es mets ≡ left es met) × IsLighter es first level (ws ++ arrow y e ∷ []))
  falls_loose none = by g.falls
    where
      lighter : IsLighter es first level ws → IsLighter es first level (ws ++ arrow y e ∷ [])
      lighter old n z h l =
          elim (at_append ws (arrow y e) n z h) [
            | inl k ↦ old n z k l
            | inr k ↦ (a, y, at, inside, subst (λ (x : Way). weight es x.node < weight es y.node) (sym k.1) (step_lighter es y.node i e.pointer e.target step none))
          ]

      by : (left es mets < left es met) ⊎ ((left es mets ≡ left es met) × IsLighter es first level ws) → (left es mets < left es met) ⊎ ((left es mets ≡ left es met) × IsLighter es first level (ws ++ arrow y e ∷ []))
      by (inl l) = inl l
      by (inr r) = inr (r.0, lighter r.1)

  pushed : (ws' : List Way) → Pushed a e ws ws' → ws' ≡ ws ++ arrow y e ∷ []
  pushed ws' h = h.is ∙ ap (λ (w : Way). ws ++ arrow w e ∷ []) (owner_same h.y h.at)

  -- one arrow more
  pub grown : (ws' : List Way) (mets' : List (ℕ × ℕ)) → Entered es (length level) a e ws mets ws' mets' → IsNext es first level met a (i + 1) ws' mets'
  grown ws' mets' (known n p num met_at l same_ws same_met) =
      let z = noted n p num met_at in
      subst (λ xs. IsNext es first level met a (i + 1) xs mets') (sym same_ws)
      (subst (λ ms. IsNext es first level met a (i + 1) ws ms) (sym same_met) (next_known p z.0 (sym (g.same p l) ∙ z.1) z.2))
  grown ws' mets' (again n p z num met_at l az is same_met) =
      let o = noted n p num met_at in
      let zo : o.0 ≡ z = at_same ws p o.0 z o.1 az in
      subst (λ xs. IsNext es first level met a (i + 1) xs mets') (sym is)
      (subst (λ ms. IsNext es first level met a (i + 1) (set ws p (crowded z)) ms) (sym same_met) (next_again p z az l (sym (ap (λ (q : Way). q.node) zo) ∙ o.2)))
  grown ws' mets' (fresh n num none push noted_new) =
      subst (λ xs. IsNext es first level met a (i + 1) xs mets') (sym (pushed ws' push)) (next_new mets' (right_new n mets' num noted_new) (falls_new n mets' num none noted_new))
  grown ws' mets' (loose none push is) =
      subst (λ xs. IsNext es first level met a (i + 1) xs mets') (sym (pushed ws' push))
      (subst (λ ms. IsNext es first level met a (i + 1) (ws ++ arrow y e ∷ []) ms) (sym is) (next_new mets right_old (falls_loose none)))

-- no field is embedded at the place
pub next_skip : (es : List Entry) (first : ℕ) (level : List Way) (met : List (ℕ × ℕ)) (a i : ℕ) (y : Way) (ws : List Way) (mets : List (ℕ × ℕ))
    → IsNext es first level met a i ws mets → At level a y → embeds_at (owner_in (find_entry es) y.node) i ≡ None → IsNext es first level met a (i + 1) ws mets
next_skip es first level met a i y ws mets g at none =
    record {
      longer = g.longer;
      same = g.same;
      made = λ m x h l. made_more es first level a i x (g.made m x h l);
      apart = g.apart;
      covers = λ b j p w u before aw iw sw. pick b j p w u (before_cases b j a i before) aw iw sw;
      right = g.right;
      falls = g.falls;
    }
  where
    pick : (b j : ℕ) (p : Bool) (w : Way) (u : Term) → Before b j a i ⊎ ((b ≡ a) × (j ≡ i)) → At level b w → first ≤ b → Step (find_entry es) w.node j p u
        → Carries (length level) ws w j u ⊎ ((m : ℕ) × (x : Way) × At level m x × (x.node ≡ u))
    pick b j p w u (inl x) aw iw sw = g.covers b j p w u x aw iw sw
    pick b j p w u (inr x) aw iw sw =
        let wy : w ≡ y = at_same level a w y (subst (λ k. At level k w) x.0 aw) at in
        let s : Step (find_entry es) y.node i p u = subst (λ k. Step (find_entry es) y.node k p u) x.1 (subst (λ (q : Way). Step (find_entry es) q.node j p u) wy sw) in
        let f = step_edge (find_entry es) y.node i p u s in
        absurd (let k = f.1 in (cc))

-- all arrows of a type are done
pub next_row : (es : List Entry) (first : ℕ) (level : List Way) (met : List (ℕ × ℕ)) (a i : ℕ) (y : Way) (ws : List Way) (mets : List (ℕ × ℕ))
    → IsNext es first level met a i ws mets → At level a y → owner_field_count (owner_in (find_entry es) y.node) ≤ i → IsNext es first level met (a + 1) 0 ws mets
next_row es first level met a i y ws mets g at all =
    record {
      longer = g.longer;
      same = g.same;
      made = λ m x h l. made_at x (g.made m x h l);
      apart = g.apart;
      covers = λ b j p w u before aw iw sw. g.covers b j p w u (earlier b j p w u before aw sw) aw iw sw;
      right = g.right;
      falls = g.falls;
    }
  where
    later : (b j : ℕ) → Before b j a i → Before b j (a + 1) 0
    later b j (inl l) = inl (omega (arith, l))
    later b j (inr r) = inl (omega (arith, r.0))

    made_at : (z : Way) → IsMade (find_entry es) first level a i z → IsMade (find_entry es) first level (a + 1) 0 z
    made_at z m = record { b = m.b; j = m.j; p = m.p; y = m.y; before = later m.b m.j m.before; at = m.at; in_level = m.in_level; step = m.step; path = m.path; pointer = m.pointer; other = m.other }

    earlier : (b j : ℕ) (p : Bool) (w : Way) (u : Term) → Before b j (a + 1) 0 → At level b w → Step (find_entry es) w.node j p u → Before b j a i
    earlier b j p w u (inr r) aw sw = absurd (omega (arith, r.1))
    earlier b j p w u (inl l) aw sw =
        elim (less_or_same b a l) [
          | inl x ↦ inl x
          | inr x ↦ inr (
            x,
            let wy : w ≡ y = at_same level a w y (subst (λ k. At level k w) x aw) at in
                let s : Step (find_entry es) y.node j p u = subst (λ (q : Way). Step (find_entry es) q.node j p u) wy sw in
                let within = step_within (find_entry es) y.node j p u s in omega (arith, within, all),
          )
        ]

module _ (es : List Entry) (t : Term) (k first : ℕ) (level : List Way) (met : List (ℕ × ℕ)) (ws : List Way) (mets : List (ℕ × ℕ))
    (l : IsLevel (find_entry es) t k first level) (g : IsNext es first level met (length level) 0 ws mets) where
  made_way : (z : Way) → IsMade (find_entry es) first level (length level) 0 z → IsWay (find_entry es) t (k + 1) z
  made_way z m =
      record {
        leads = subst (λ b. FieldsLead (find_entry es) t z.path b z.node) (sym m.pointer)
            (subst (λ q. FieldsLead (find_entry es) t q (m.y.pointer || m.p) z.node) (sym m.path) (leads_step (find_entry es) t m.y.path m.y.pointer m.y.node m.j m.p z.node (l.each m.b m.y m.at m.in_level).leads m.step));
        long = ap length m.path ∙ length-append m.y.path (m.j ∷ []) ∙ ap (λ n. n + 1) (l.each m.b m.y m.at m.in_level).long;
        other = λ many. other_at (m.other many);
      }
    where
      other_at : (m.y.many ≡ true) ⊎ OtherArrow (find_entry es) first level m.b m.j z.node → (q : List ℕ) × (p : Bool) × FieldsLead (find_entry es) t q p z.node × (length q ≡ k + 1) × (q ≡ z.path → ⊥)
      other_at (inl many) =
          let o = (l.each m.b m.y m.at m.in_level).other many in
          (o.0 ++ m.j ∷ [], o.1 || m.p, leads_step (find_entry es) t o.0 o.1 m.y.node m.j m.p z.node o.2 m.step, length-append o.0 (m.j ∷ []) ∙ ap (λ n. n + 1) o.3, λ same. o.4 (last_same o.0 m.y.path m.j m.j (same ∙ m.path)).0)
      other_at (inr a) =
          let x = l.each a.0 a.3 a.4 a.5 in (
            a.3.path ++ a.1 ∷ [],
            a.3.pointer || a.2,
            leads_step (find_entry es) t a.3.path a.3.pointer a.3.node a.1 a.2 z.node x.leads a.6,
            length-append a.3.path (a.1 ∷ []) ∙ ap (λ n. n + 1) x.long,
            λ same. let s = last_same a.3.path m.y.path a.1 m.j (same ∙ m.path) in a.7 (l.apart a.0 m.b a.3 m.y a.4 m.at a.5 m.in_level s.0) s.1,
          )

  carried : (q r : List ℕ) (i : ℕ) (v : Term) (y : Way) → q ≡ r ++ i ∷ [] → (y.many ≡ true) ⊎ (y.path ≡ r) → Carries (length level) ws y i v → Covers (length level) ws q v
  carried q r i v y is way c = (
    c.0,
    c.1,
    c.2,
    c.3,
    c.4,
    elim c.5 [
      | inl m ↦ inl m
      | inr s ↦ elim way [ inl m ↦ inl (s.1 ∙ m) | inr e ↦ inr (s.0 ∙ ap (λ x. x ++ i ∷ []) e ∙ sym is) ]
    ],
  )

  full_at : (q : List ℕ) (p : Bool) (v : Term) → FieldsLead (find_entry es) t q p v → (r : List ℕ) × (i : ℕ) × (q ≡ r ++ i ∷ []) × (length r ≡ k) → Covers (length level) ws q v ⊎ Sooner (find_entry es) t (k + 1) v
  full_at q p v leads r =
      let b = leads_back (find_entry es) t r.0 r.1 p v (subst (λ s. FieldsLead (find_entry es) t s p v) r.2 leads) in
      elim (l.full r.0 b.1 b.0 b.3 r.3) [
        | inr s ↦ inr (s.0 ++ r.1 ∷ [], s.1 || b.2, leads_step (find_entry es) t s.0 s.1 b.0 r.1 b.2 v s.2 b.4, omega (arith, length-append s.0 (r.1 ∷ []), s.3))
        | inl c ↦
            let y = c.1 in
            let step : Step (find_entry es) y.node r.1 b.2 v = subst (λ w. Step (find_entry es) w r.1 b.2 v) (sym c.4) b.4 in
            elim (g.covers c.0 r.1 b.2 y v (inl (at_within level c.0 y c.2)) c.2 c.3 step) [
              | inl e ↦ inl (carried q r.0 r.1 v y r.2 c.5 e)
              | inr e ↦ let o = l.older e.0 e.1 e.2 in inr (e.1.path, e.1.pointer, subst (λ w. FieldsLead (find_entry es) t e.1.path e.1.pointer w) e.3 o.0, omega (arith, o.1))
            ]
      ]

  older_at : (n : ℕ) (x : Way) → At ws n x → FieldsLead (find_entry es) t x.path x.pointer x.node × (length x.path ≤ k + 1)
  older_at n x h =
      elim (below_or_not n (length level)) [
        | inl s ↦ let o = l.older n x (sym (g.same n s) ∙ h) in (o.0, omega (arith, o.1))
        | inr s ↦ let w = made_way x (g.made n x h s) in (w.leads, omega (arith, w.long))
      ]

  -- the next level is a level
  pub level_next : IsLevel (find_entry es) t (k + 1) (length level) ws
  level_next =
      record {
        each = λ n z h s. made_way z (g.made n z h s);
        older = older_at;
        apart = g.apart l.apart;
        full = λ q p v leads long. full_at q p v leads (last_of q k long);
      }

  pub bounded_next : ((n : ℕ) (x : Way) → At level n x → first ≤ n → weight es x.node ≤ bound es t) → (n : ℕ) (z : Way) → At ws n z → length level ≤ n → weight es z.node ≤ bound es t
  bounded_next low n z h s =
      let m = g.made n z h s in
      number_or_none es m.y.node m.j m.p z.node (bound es t) m.step (low m.b m.y m.at m.in_level) (omega arith)

-- what the loops over a level have made
pub record NextTo (es : List Entry) (first : ℕ) (level : List Way) (met : List (ℕ × ℕ)) (a i : ℕ) (paths : List (List ℕ)) (types : List Reached) (mets : List (ℕ × ℕ)) : Type 0 where
  pub sized : length paths ≡ length types
  pub next : IsNext es first level met a i (ways paths types) mets

pub next_to_start : (es : List Entry) (first : ℕ) (paths : List (List ℕ)) (types : List Reached) (met : List (ℕ × ℕ)) → length paths ≡ length types → IsRight es (ways paths types) met
    → NextTo es first (ways paths types) met first 0 paths types met
next_to_start es first paths types met sized right = record { sized = sized; next = next_start es first (ways paths types) met right }

-- there are as many types as the level has, and more
pub level_within : (es : List Entry) (first : ℕ) (paths' : List (List ℕ)) (types' : List Reached) (met : List (ℕ × ℕ)) (a i n : ℕ) (paths : List (List ℕ)) (types : List Reached) (mets : List (ℕ × ℕ))
    → length paths' ≡ length types' → NextTo es first (ways paths' types') met a i paths types mets → n < length types' → n < length types
level_within es first paths' types' met a i n paths types mets size g less =
    let l = g.next.longer in
    let x = ways_length paths types g.sized in
    let y = ways_length paths' types' size in
    omega (arith, l, x, y, less)

pub level_at : (es : List Entry) (first : ℕ) (level : List Way) (met : List (ℕ × ℕ)) (a i n : ℕ) (paths : List (List ℕ)) (types : List Reached) (mets : List (ℕ × ℕ)) (r : Reached)
    → NextTo es first level met a i paths types mets → n < length level → At types n r → At level n (way_of (get_or paths n []) r)
level_at es first level met a i n paths types mets r g less at = sym (g.next.same n less) ∙ ways_at paths types n r g.sized at

pub enter_grown : (es : List Entry) (first : ℕ) (level : List Way) (met : List (ℕ × ℕ)) (a i begin : ℕ) (y : Way) (e : EmbeddedEdge) (o : OwnerModel) (paths : List (List ℕ)) (types : List Reached) (mets : List (ℕ × ℕ)) (paths' : List (List ℕ)) (types' : List Reached) (mets' : List (ℕ × ℕ))
    → NextTo es first level met a i paths types mets → At level a y → first ≤ a → o ≡ owner_in (find_entry es) y.node → Some e ≡ embeds_at o i → begin ≡ length level → length paths' ≡ length types'
    → Entered es begin a e (ways paths types) mets (ways paths' types') mets' → NextTo es first level met a (i + 1) paths' types' mets'
enter_grown es first level met a i begin y e o paths types mets paths' types' mets' g at inside own edge begins sized entered =
    let h : embeds_at (owner_in (find_entry es) y.node) i ≡ Some e = sym (edge ∙ ap (λ p. embeds_at p i) own) in
    record {
      sized = sized;
      next = grown es first level met a i y e (ways paths types) mets g.next at inside (step_at (find_entry es) y.node i e h) (edge_place (owner_in (find_entry es) y.node) i e h) (ways paths' types') mets'
          (subst (λ n. Entered es n a e (ways paths types) mets (ways paths' types') mets') begins entered);
    }

pub skip_grown : (es : List Entry) (first : ℕ) (level : List Way) (met : List (ℕ × ℕ)) (a i : ℕ) (y : Way) (o : OwnerModel) (paths : List (List ℕ)) (types : List Reached) (mets : List (ℕ × ℕ))
    → NextTo es first level met a i paths types mets → At level a y → o ≡ owner_in (find_entry es) y.node → embeds_at o i ≡ None → NextTo es first level met a (i + 1) paths types mets
skip_grown es first level met a i y o paths types mets g at own none =
    record { sized = g.sized; next = next_skip es first level met a i y (ways paths types) mets g.next at (sym (ap (λ p. embeds_at p i) own) ∙ none) }

pub row_grown : (es : List Entry) (first : ℕ) (level : List Way) (met : List (ℕ × ℕ)) (a i n : ℕ) (y : Way) (o : OwnerModel) (paths : List (List ℕ)) (types : List Reached) (mets : List (ℕ × ℕ))
    → NextTo es first level met a i paths types mets → At level a y → o ≡ owner_in (find_entry es) y.node → n ≡ owner_field_count o → n ≤ i → NextTo es first level met (a + 1) 0 paths types mets
row_grown es first level met a i n y o paths types mets g at own count all =
    let c : n ≡ owner_field_count (owner_in (find_entry es) y.node) = count ∙ ap owner_field_count own in
    record { sized = g.sized; next = next_row es first level met a i y (ways paths types) mets g.next at (omega (arith, c, all)) }
