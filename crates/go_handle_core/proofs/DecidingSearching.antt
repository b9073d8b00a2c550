-- The first depth at which an identifier names members tells what it denotes.
use Rattle.std.proofs.Common.{◌≡◌, ℕ, zero, suc, ◌+◌, ◌<◌, ◌≤◌, Bool, true, false, List, [], ◌∷◌, length, Result, Ok, Err, refl, sym, ap, ◌∙◌, subst, arith, inl, inr}
use Rattle.std.proofs.lemmas.Bool.{or_cases, or_left, or_right}
use Rattle.go_denote_core.specs.text_core.declared.rule.Rule.{Rule}
use Rattle.go_term_core.specs.Terms.{Term}
use Rattle.go_term_core.proofs.Members.{In}
use Rattle.go_table_core.specs.Entries.{Entry, EntryLook, find_entry}
use Rattle.go_mset_core.specs.embed_core.Owners.{owner_in, Found, has_spelled}
use Rattle.go_mset_core.specs.select_core.LevelsPaths.{Hit, HasHit, IsSelected, IsAmbiguous, IsMemberSpelled}
use Rattle.go_mset_core.specs.select_core.LevelsSelectors.{IsMissing, ambiguous, hidden, absent}
use Rattle.go_mset_core.specs.select_core.LevelsListLemmas.{above_or_same, below_or_not}
use Rattle.go_handle_core.specs.deciding.Selecting.{Trail, trail, trails_of, Match, match_at, matches_of, unless_some, first_matches, some_spelled, spelled_from, last_depth, Choice, only_match, match_in}
use Rattle.go_handle_core.proofs.DecidingLists.{Apart}
use Rattle.go_handle_core.proofs.DecidingShortening.{short_path}
use Rattle.go_handle_core.proofs.DecidingMatching.{led, leading, SameMatch, hit_of, of_hit, all_apart}

-- the first depth that has some

record IsFirst (matches : ℕ → List Match) (depth more : ℕ) (ms : List Match) : Type 0 where
  at : ℕ
  is : matches at ≡ ms
  above : (k : ℕ) → depth ≤ k → k < at → matches k ≡ []
  nowhere : ms ≡ [] → (k : ℕ) → depth ≤ k → k ≤ depth + more → matches k ≡ []

first_step : (matches : ℕ → List Match) (depth more : ℕ) (ms rest : List Match) → matches depth ≡ ms → IsFirst matches (suc depth) more rest → IsFirst matches depth (suc more) (unless_some ms rest)
first_step matches depth more [] rest h r =
    record {
      at = r.at;
      is = r.is;
      above = λ k l m. elim (above_or_same depth k l) [ inl e ↦ subst (λ j. matches j ≡ []) e h | inr s ↦ r.above k (omega (arith, s)) m ];
      nowhere = λ e k l m. elim (above_or_same depth k l) [ inl s ↦ subst (λ j. matches j ≡ []) s h | inr s ↦ r.nowhere e k (omega (arith, s)) (omega (arith, m)) ];
    }
first_step matches depth more (m ∷ ms) rest h r =
    record { at = depth; is = h; above = λ k l s. absurd (omega (arith, l, s)); nowhere = λ e k l s. cc }

first : (matches : ℕ → List Match) (depth more : ℕ) → IsFirst matches depth more (first_matches matches depth more)
first matches depth zero =
    record {
      at = depth;
      is = refl;
      above = λ k l m. absurd (omega (arith, l, m));
      nowhere = λ e k l m. let s : depth ≡ k = omega (arith, l, m) in subst (λ j. matches j ≡ []) s e;
    }
first matches depth (suc more) = first_step matches depth more (matches depth) (first_matches matches (suc depth) more) refl (first matches (suc depth) more)

-- spellings

spelled_some : (spelled : ℕ → Bool) (depth more : ℕ) → spelled_from spelled depth more ≡ true → (k : ℕ) × (spelled k ≡ true)
spelled_some spelled depth zero h = (depth, h)
spelled_some spelled depth (suc more) h =
    elim (or_cases (spelled depth) (spelled_from spelled (suc depth) more) h) [ inl e ↦ (depth, e) | inr r ↦ spelled_some spelled (suc depth) more r ]

spelled_there : (spelled : ℕ → Bool) (depth more k : ℕ) → depth ≤ k → k ≤ depth + more → spelled k ≡ true → spelled_from spelled depth more ≡ true
spelled_there spelled depth zero k l m h = let e : k ≡ depth = omega (arith, l, m) in subst (λ j. spelled j ≡ true) e h
spelled_there spelled depth (suc more) k l m h =
    elim (above_or_same depth k l) [
      | inl e ↦ or_left (spelled depth) (spelled_from spelled (suc depth) more) (subst (λ j. spelled j ≡ true) (sym e) h)
      | inr s ↦ or_right (spelled depth) (spelled_from spelled (suc depth) more) (spelled_there spelled (suc depth) more k (omega (arith, s)) (omega (arith, m)) h)
    ]

spelled_found : (look : EntryLook) (name : List ℕ) (ws : List Trail) → some_spelled look name ws ≡ true → (w : Trail) × In ws w × (has_spelled (owner_in look w.node) name ≡ true)
spelled_found look name [] h = cc
spelled_found look name (w ∷ ws) h =
    elim (or_cases (has_spelled (owner_in look w.node) name) (some_spelled look name ws) h) [
      | inl e ↦ (w, inl refl, e)
      | inr r ↦ let x = spelled_found look name ws r in (x.0, inr x.1, x.2)
    ]

found_spelled : (look : EntryLook) (name : List ℕ) (ws : List Trail) (w : Trail) → In ws w → has_spelled (owner_in look w.node) name ≡ true → some_spelled look name ws ≡ true
found_spelled look name [] w h s = absurd h
found_spelled look name (v ∷ ws) w (inl e) s =
    or_left (has_spelled (owner_in look v.node) name) (some_spelled look name ws) (subst (λ (x : Trail). has_spelled (owner_in look x.node) name ≡ true) (sym e) s)
found_spelled look name (v ∷ ws) w (inr h) s = or_right (has_spelled (owner_in look v.node) name) (some_spelled look name ws) (found_spelled look name ws w h s)

-- what a name denotes in a type

abbrev pub IsMatched : EntryLook → Term → List ℕ → List ℕ → Result Choice Rule → Type 0
IsMatched look t name from (Ok c) = IsSelected look t name from c.path c.passes c.member
IsMatched look t name from (Err rule) = IsMissing look t name from rule

nothing_in : (ms : List Match) (m : Match) → ms ≡ [] → In ms m → ⊥
nothing_in ms m e h = subst (λ xs. In xs m) e h

module _ (es : List Entry) (t : Term) (name from : List ℕ) where
  abbrev matches : ℕ → List Match
  matches depth = matches_of (find_entry es) t name from depth

  abbrev spelled : ℕ → Bool
  spelled depth = some_spelled (find_entry es) name (trails_of (find_entry es) depth t)

  no_hits : ((k : ℕ) → 0 ≤ k → k ≤ 0 + last_depth es t → matches k ≡ []) → HasHit (find_entry es) t name from → ⊥
  no_hits none h =
      let r = short_path es t h.0 h.1 h.4.at h.4.leads in
      let l = r.3 in
      nothing_in (matches (length r.0)) (match_at (trail r.0 r.1 h.4.at) h.2 h.3) (none (length r.0) (omega arith) (omega (arith, l)))
      (of_hit (find_entry es) t name from r.0 r.1 h.2 h.3 (record { at = h.4.at; leads = r.2; has = h.4.has }))

  spelled_is : spelled_from spelled 0 (last_depth es t) ≡ true → IsMemberSpelled (find_entry es) t name
  spelled_is h =
      let k = spelled_some spelled 0 (last_depth es t) h in
      let w = spelled_found (find_entry es) name (trails_of (find_entry es) k.0 t) k.1 in
      (w.0.path, w.0.pointer, w.0.node, (led (find_entry es) k.0 t w.0 w.1).0, w.2)

  is_spelled : IsMemberSpelled (find_entry es) t name → spelled_from spelled 0 (last_depth es t) ≡ true
  is_spelled h =
      let r = short_path es t h.0 h.1 h.2 h.3 in
      let l = r.3 in
      spelled_there spelled 0 (last_depth es t) (length r.0) (omega arith) (omega (arith, l))
      (found_spelled (find_entry es) name (trails_of (find_entry es) (length r.0) t) (trail r.0 r.1 h.2) (leading (find_entry es) t r.0 r.1 h.2 r.2) h.4)

  -- no hit lies above the first depth that has some
  never_above : (k : ℕ) → ((j : ℕ) → 0 ≤ j → j < k → matches j ≡ []) → (q : List ℕ) (p : Bool) (n : ℕ) (g : Found) → Hit (find_entry es) t name from q p n g → length q < k → ⊥
  never_above k above q p n g h l =
      nothing_in (matches (length q)) (match_at (trail q p h.at) n g) (above (length q) (omega arith) l) (of_hit (find_entry es) t name from q p n g h)

  one_alone : (m : Match) (k : ℕ) → matches k ≡ m ∷ [] → ((j : ℕ) → 0 ≤ j → j < k → matches j ≡ []) → IsSelected (find_entry es) t name from m.trail.path m.trail.pointer m.member
  one_alone m k is above =
      record {
        number = m.number;
        hit = own.0;
        shortest = λ q p n g h.
            elim (below_or_not (length q) k) [
              | inl l ↦ absurd (never_above k above q p n g h l)
              | inr l ↦ elim (above_or_same k (length q) l) [
                | inl e ↦ inl (same q p n g h e)
                | inr s ↦ inr (let e = own.1 in omega (arith, e, s))
              ]
            ];
      }
    where
      own : Hit (find_entry es) t name from m.trail.path m.trail.pointer m.number m.member × (length m.trail.path ≡ k)
      own = hit_of (find_entry es) t name from k m (subst (λ xs. In xs m) (sym is) (inl refl))

      same : (q : List ℕ) (p : Bool) (n : ℕ) (g : Found) → Hit (find_entry es) t name from q p n g → k ≡ length q → (q ≡ m.trail.path) × (n ≡ m.number)
      same q p n g h e =
          let there : In (matches k) (match_at (trail q p h.at) n g) = subst (λ j. In (matches j) (match_at (trail q p h.at) n g)) (sym e) (of_hit (find_entry es) t name from q p n g h) in
          elim (subst (λ xs. In xs (match_at (trail q p h.at) n g)) is there) [
            | inl x ↦ (sym (ap (λ (y : Match). y.trail.path) x), sym (ap (λ (y : Match). y.number) x))
            | inr x ↦ absurd x
          ]

  two_clash : (m n : Match) (ms : List Match) (k : ℕ) → matches k ≡ m ∷ (n ∷ ms) → ((j : ℕ) → 0 ≤ j → j < k → matches j ≡ []) → IsAmbiguous (find_entry es) t name from
  two_clash m n ms k is above =
      let a = own m (inl refl) in
      record {
        some = (m.trail.path, m.trail.pointer, m.number, m.member, a.0);
        none = λ path pointer f s.
            let x = chosen path pointer f s m (inl refl) in
            let y = chosen path pointer f s n (inr (inl refl)) in
            let apart : Apart SameMatch (m ∷ (n ∷ ms)) = subst (λ xs. Apart SameMatch xs) is (all_apart (find_entry es) t name from k) in
            apart.0 n (inl refl) (x.0 ∙ sym y.0, x.1 ∙ sym y.1);
      }
    where
      own : (x : Match) → In (m ∷ (n ∷ ms)) x → Hit (find_entry es) t name from x.trail.path x.trail.pointer x.number x.member × (length x.trail.path ≡ k)
      own x h = hit_of (find_entry es) t name from k x (subst (λ xs. In xs x) (sym is) h)

      -- what is selected would be each of them
      chosen : (path : List ℕ) (pointer : Bool) (f : Found) (s : IsSelected (find_entry es) t name from path pointer f) (x : Match) → In (m ∷ (n ∷ ms)) x → (x.trail.path ≡ path) × (x.number ≡ s.number)
      chosen path pointer f s x h =
          let o = own x h in
          elim (s.shortest x.trail.path x.trail.pointer x.number x.member o.0) [
            | inl e ↦ e
            | inr l ↦ absurd (never_above k above path pointer s.number f s.hit (let e = o.1 in omega (arith, l, e)))
          ]

  only : (b : Bool) (ms : List Match) → b ≡ spelled_from spelled 0 (last_depth es t) → IsFirst matches 0 (last_depth es t) ms → IsMatched (find_entry es) t name from (only_match b ms)
  only true [] is f = hidden (no_hits (f.nowhere refl)) (spelled_is (sym is))
  only false [] is f = absent (no_hits (f.nowhere refl)) (λ s. let e : false ≡ true = is ∙ is_spelled s in cc)
  only b (m ∷ []) is f = one_alone m f.at f.is f.above
  only b (m ∷ (n ∷ ms)) is f = ambiguous (two_clash m n ms f.at f.is f.above)

  pub matched_in : IsMatched (find_entry es) t name from (match_in es t name from)
  matched_in = only (spelled_from spelled 0 (last_depth es t)) (first_matches matches 0 (last_depth es t)) refl (first matches 0 (last_depth es t))
