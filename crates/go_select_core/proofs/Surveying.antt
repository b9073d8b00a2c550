-- All names, level by level.
use Rattle.std.proofs.Common.{◌≡◌, ℕ, zero, suc, ◌+◌, ◌<◌, ◌≤◌, List, [], ◌∷◌, length, Option, Some, None, sym, ap, ◌∙◌, subst, arith}
use Rattle.go_term_core.specs.Terms.{Term}
use Rattle.go_embed_core.specs.table_core.Entries.{Entry, find_entry}
use Rattle.go_embed_core.specs.declared.member.Member as declared_member
use Rattle.go_embed_core.specs.Owners.{owner_in}
use Rattle.go_embed_core.specs.OwnersShown.{IsNamedAt, found_shown, name_shown, member_package_shown}
use Rattle.go_select_core.specs.declared.levels.level.Reached.{Reached}
use Rattle.go_select_core.specs.declared.names.Known.{Known}
use Rattle.go_select_core.specs.declared.names.Known.TheVariants.{One, More}
use Rattle.go_select_core.specs.levels.Paths.{IsSelected, IsAmbiguous}
use Rattle.go_select_core.specs.levels.mirrors.Ways.{At, Way, ways, root, IsRight, Begins}
use Rattle.go_select_core.specs.levels.mirrors.Levels.{IsLevel, IsAbove, HasOne, weight, bound, height, IsNext}
use Rattle.go_select_core.specs.mirrors.Names.{Identifier, identifier_of, identifier_in, known_of, IsSaid, IsSaidOrKnown, AreSaid, AreBefore, AreNamed, NothingSelected, IsKnown, AreKnown}
use Rattle.go_select_core.proofs.LevelsListLemmas.{at_within}
use Rattle.go_select_core.proofs.LevelsWalks.{deeper_above, no_more}
use Rattle.go_select_core.proofs.LevelsWeights.{height_falls}
use Rattle.go_select_core.proofs.LevelsWayLemmas.{ways_length, ways_back}
use Rattle.go_select_core.proofs.LevelsGrowing.{level_next, bounded_next}
use Rattle.go_select_core.proofs.LevelsSearching.{first_level, root_low, level_one, level_more}

-- what is known of a name once all paths of fewer than k fields are gone through; the types that they lead to stand before the place end
abbrev pub KnownTo : List Entry → Term → List ℕ → List ℕ → ℕ → ℕ → List Way → Option Known → Type 0
KnownTo es t name from k end ws None = IsAbove (find_entry es) t (HasOne (find_entry es) name from) k
KnownTo es t name from k end ws (Some (One n m)) = (n < end) × ((x : Way) × At ws n x × IsSelected (find_entry es) t name from x.path x.pointer (found_shown m))
KnownTo es t name from k end ws (Some More) = IsAmbiguous (find_entry es) t name from

-- the levels stand at the one that begins at a place, whose members are still to be noted
pub record NamesTo (es : List Entry) (t : Term) (first : ℕ) (paths : List (List ℕ)) (types : List Reached) (met : List (ℕ × ℕ)) (ns : List (Identifier × Known)) : Type 0 where
  pub k : ℕ
  pub sized : length paths ≡ length types
  pub inside : first ≤ length types
  pub level : IsLevel (find_entry es) t k first (ways paths types)
  pub right : IsRight es (ways paths types) met
  pub low : (n : ℕ) (x : Way) → At (ways paths types) n x → first ≤ n → weight es x.node ≤ bound es t
  pub named : AreNamed ns
  pub each : (name from : List ℕ) → KnownTo es t name from k first (ways paths types) (known_of ns (identifier_of name from))

-- 1. At the start.

pub names_begin : (es : List Entry) (t : Term) (paths : List (List ℕ)) (types : List Reached) (met : List (ℕ × ℕ)) (ns : List (Identifier × Known)) → Begins es t paths types met → ns ≡ [] → NamesTo es t 0 paths types met ns
names_begin es t paths types met ns b none =
    record {
      k = 0;
      sized = b.sized;
      inside = omega arith;
      level = subst (λ ws. IsLevel (find_entry es) t 0 0 ws) (sym b.only) (first_level es t);
      right = subst (λ ws. IsRight es ws met) (sym b.only) b.right;
      low = λ n x at l. low n x (subst (λ ws. At ws n x) b.only at);
      named = λ id n m h. absurd (let z : known_of [] id ≡ Some (One n m) = sym (ap (λ l. known_of l id) none) ∙ h in (cc));
      each = λ name from. subst (λ l. KnownTo es t name from 0 0 (ways paths types) (known_of l (identifier_of name from))) (sym none) (record { least = λ q p v leads holds. omega arith });
    }
  where
    low : (n : ℕ) (x : Way) → At (root t ∷ []) n x → weight es x.node ≤ bound es t
    low zero x at = let e : root t ≡ x = (cc) in subst (λ (w : Way). weight es w.node ≤ bound es t) e (root_low es t)
    low (suc n) x at = cc

known_before : (es : List Entry) (t : Term) (name from : List ℕ) (k end : ℕ) (ws : List Way) (known : Option Known) (n : ℕ) (m : declared_member.Member) → KnownTo es t name from k end ws known → known ≡ Some (One n m) → n < end
known_before es t name from k end ws None n m h e = cc
known_before es t name from k end ws (Some (One p other)) n m h e = let same : p ≡ n = (cc) in omega (arith, h.0, same)
known_before es t name from k end ws (Some More) n m h e = cc

pub names_before : (es : List Entry) (t : Term) (first : ℕ) (paths : List (List ℕ)) (types : List Reached) (met : List (ℕ × ℕ)) (ns : List (Identifier × Known)) → NamesTo es t first paths types met ns → AreBefore first ns
names_before es t first paths types met ns s id n m e =
    let r : known_of ns (identifier_in m) ≡ Some (One n m) = ap (known_of ns) (s.named id n m e) ∙ e in
    known_before es t (name_shown m) (member_package_shown m) s.k first (ways paths types) (known_of ns (identifier_in m)) n m (s.each (name_shown m) (member_package_shown m)) r

-- 2. The members of a level.

module _ (es : List Entry) (t : Term) (name from : List ℕ) (k first : ℕ) (paths : List (List ℕ)) (types : List Reached) (sized : length paths ≡ length types) (level : IsLevel (find_entry es) t k first (ways paths types))
    (above : IsAbove (find_entry es) t (HasOne (find_entry es) name from) k) where
  said : (new : Option Known) → IsSaid (find_entry es) name from types first new → KnownTo es t name from (k + 1) (length types) (ways paths types) new
  said None none =
      deeper_above (find_entry es) t (HasOne (find_entry es) name from) k first (ways paths types) level above
      (λ n x at l has. let r = ways_back paths types n x at in none n r.0 has.0 has.1 r.1 l (subst (λ (w : Way). IsNamedAt (owner_in (find_entry es) w.node) name from has.0 has.1) r.2 has.2))
  said (Some (One n m)) o =
      let one = level_one (find_entry es) t name from k first paths types sized level above n (found_shown m) o in
      (at_within types n o.x o.at, one)
  said (Some More) c = level_more (find_entry es) t name from k first paths types sized level above c

said_or_known : (es : List Entry) (t : Term) (name from : List ℕ) (k first : ℕ) (paths : List (List ℕ)) (types : List Reached) → length paths ≡ length types → IsLevel (find_entry es) t k first (ways paths types) → first ≤ length types
    → (old new : Option Known) → KnownTo es t name from k first (ways paths types) old → IsSaidOrKnown (find_entry es) name from types first old new → KnownTo es t name from (k + 1) (length types) (ways paths types) new
said_or_known es t name from k first paths types sized level inside None new above s = said es t name from k first paths types sized level above new s
said_or_known es t name from k first paths types sized level inside (Some (One n m)) new h s =
    subst (λ q. KnownTo es t name from (k + 1) (length types) (ways paths types) q) (sym s) (omega (arith, h.0, inside), h.1)
said_or_known es t name from k first paths types sized level inside (Some More) new h s = subst (λ q. KnownTo es t name from (k + 1) (length types) (ways paths types) q) (sym s) h

-- 3. The next level.

known_next : (es : List Entry) (t : Term) (name from : List ℕ) (k end : ℕ) (ws ws' : List Way) → ((n : ℕ) (x : Way) → n < end → At ws n x → At ws' n x) → (known : Option Known) → KnownTo es t name from k end ws known → KnownTo es t name from k end ws' known
known_next es t name from k end ws ws' same None h = h
known_next es t name from k end ws ws' same (Some (One n m)) h = (h.0, (h.1.0, same n h.1.0 h.0 h.1.1, h.1.2))
known_next es t name from k end ws ws' same (Some More) h = h

-- a turn of the loop, with a name for the level's end and one for the list of types as it is read
module _ (es : List Entry) (t : Term) (first end : ℕ) (paths paths' : List (List ℕ)) (types types' shown : List Reached) (met met' : List (ℕ × ℕ)) (old new : List (Identifier × Known))
    (s : NamesTo es t first paths types met old) (ends : end ≡ length types) (is : shown ≡ types) (noted : AreSaid (find_entry es) shown first old new) (named : AreNamed new) (sized : length paths' ≡ length types')
    (g : IsNext es first (ways paths types) met end 0 (ways paths' types') met') where
  size : length (ways paths types) ≡ end
  size = ways_length paths types s.sized ∙ sym ends

  next : IsNext es first (ways paths types) met (length (ways paths types)) 0 (ways paths' types') met'
  next = subst (λ n. IsNext es first (ways paths types) met n 0 (ways paths' types') met') (sym size) g

  deeper : IsLevel (find_entry es) t (s.k + 1) end (ways paths' types')
  deeper = subst (λ n. IsLevel (find_entry es) t (s.k + 1) n (ways paths' types')) size (level_next es t s.k first (ways paths types) met (ways paths' types') met' s.level next)

  lower : (n : ℕ) (z : Way) → At (ways paths' types') n z → end ≤ n → weight es z.node ≤ bound es t
  lower n z at l = bounded_next es t s.k first (ways paths types) met (ways paths' types') met' s.level next s.low n z at (omega (arith, size, l))

  kept : (n : ℕ) (x : Way) → n < end → At (ways paths types) n x → At (ways paths' types') n x
  kept n x l at = next.same n (omega (arith, l, size)) ∙ at

  known : (name from : List ℕ) → KnownTo es t name from (s.k + 1) end (ways paths' types') (known_of new (identifier_of name from))
  known name from =
      let id = identifier_of name from in
      known_next es t name from (s.k + 1) end (ways paths types) (ways paths' types') kept (known_of new id)
      (subst (λ n. KnownTo es t name from (s.k + 1) n (ways paths types) (known_of new id)) (sym ends)
      (said_or_known es t name from s.k first paths types s.sized s.level s.inside (known_of old id) (known_of new id) (s.each name from) (subst (λ l. AreSaid (find_entry es) l first old new) is noted name from)))

  pub names_next : NamesTo es t end paths' types' met' new
  names_next =
      record {
        k = s.k + 1;
        sized = sized;
        inside = let a = next.longer in let b = ways_length paths' types' sized in omega (arith, a, b, size);
        level = deeper;
        right = g.right;
        low = lower;
        named = named;
        each = known;
      }

  pub names_fall : first < length types → height es t end (ways paths' types') met' < height es t first (ways paths types) met
  names_fall less =
      subst (λ n. height es t n (ways paths' types') met' < height es t first (ways paths types) met) size
      (height_falls es t first (ways paths types) (ways paths' types') met met' (omega (arith, less, size, ends)) (λ n z at l. lower n z at (omega (arith, size, l))) next.falls)

-- 4. The end.

module _ (es : List Entry) (t : Term) (first : ℕ) (paths : List (List ℕ)) (types : List Reached) (met : List (ℕ × ℕ)) (ns : List (Identifier × Known)) (s : NamesTo es t first paths types met ns) (all : length types ≤ first) where
  nothing : (name from : List ℕ) → IsAbove (find_entry es) t (HasOne (find_entry es) name from) s.k → NothingSelected (find_entry es) t name from
  nothing name from above path pointer f h =
      let size = ways_length paths types s.sized in
      no_more (find_entry es) t (HasOne (find_entry es) name from) s.k first (ways paths types) s.level above (omega (arith, size, all)) path pointer h.hit.at h.hit.leads (h.number, f, h.hit.has)

  known_end : (name from : List ℕ) (known : Option Known) → KnownTo es t name from s.k first (ways paths types) known → IsKnown (find_entry es) t name from paths types known
  known_end name from None h = nothing name from h
  known_end name from (Some (One n m)) h =
      let r = ways_back paths types n h.1.0 h.1.1 in
      (r.0, r.1, subst (λ (w : Way). IsSelected (find_entry es) t name from w.path w.pointer (found_shown m)) r.2 h.1.2)
  known_end name from (Some More) h = h.none

  pub names_end : AreKnown (find_entry es) t paths types ns
  names_end = record { sized = s.sized; named = s.named; each = λ name from. known_end name from (known_of ns (identifier_of name from)) (s.each name from) }
