-- Blanks change little.
use Rattle.std.proofs.Common.{◌≡◌, ◌==◌, ◌+◌, ◌<◌, ◌≤◌, ◌||◌, ◌&&◌, ◌∙◌, ℕ, zero, suc, Bool, true, false, cond, nat_le, nat_lt, List, [], ◌∷◌, length, get_or, set, drop, slice_index_or, drop-cons, add-one, min, refl, sym, ap, ap₂, subst, inl, inr, arith, get_or-set_other, get_or-set_same}
use Rattle.std.proofs.lemmas.Bool.{cases_eq}
use Rattle.std.proofs.lemmas.Bool.Decides.{nat_tests}
use Rattle.std.proofs.lemmas.List.{ext_get_or}
use Rattle.go_recovery_core.specs.declared.standin.part.Interval.{Interval}
use Rattle.go_recovery_core.specs.standin.Blanks.{BlankedIsAlike, all_blanked, blank, blanked_from, is_in, is_in_any}

pub long : (parts : List Interval) (at : ℕ) (bs : List ℕ) → length (blanked_from parts at bs) ≡ length bs
long parts at [] = refl
long parts at (b ∷ bs) = ap suc (long parts (suc at) bs)

-- a byte of the blanked text
pub place : (parts : List Interval) (at : ℕ) (bs : List ℕ) (k j : ℕ) → k < length bs → j ≡ at + k → get_or (blanked_from parts at bs) k 0 ≡ cond (is_in_any parts j) (blank (get_or bs k 0)) (get_or bs k 0)
place parts at [] k j lt e = absurd (omega (arith, lt))
place parts at (b ∷ bs) zero j lt e = let same : at ≡ j = omega (arith, e) in ap (λ i. cond (is_in_any parts i) (blank b) b) same
place parts at (b ∷ bs) (suc k) j lt e = place parts (suc at) bs k j (omega (arith, lt)) (omega (arith, e))

outside : (parts : List Interval) (at : ℕ) (bs : List ℕ) (k j : ℕ) → j ≡ at + k → is_in_any parts j ≡ false → get_or (blanked_from parts at bs) k 0 ≡ get_or bs k 0
outside parts at [] k j e h = refl
outside parts at (b ∷ bs) zero j e h = let same : j ≡ at = omega (arith, e) in ap (λ t. cond t (blank b) b) (sym (ap (is_in_any parts) same) ∙ h)
outside parts at (b ∷ bs) (suc k) j e h = outside parts (suc at) bs k j (omega (arith, e)) h

end_kept : (n : ℕ) → ((b : ℕ) → (blank b == n) ≡ (b == n)) → (parts : List Interval) (at : ℕ) (bs : List ℕ) (k : ℕ) → (get_or (blanked_from parts at bs) k 0 == n) ≡ (get_or bs k 0 == n)
end_kept n h parts at [] k = refl
end_kept n h parts at (b ∷ bs) zero = by (is_in_any parts at)
  where
    by : (t : Bool) → (cond t (blank b) b == n) ≡ (b == n)
    by true = h b
    by false = refl
end_kept n h parts at (b ∷ bs) (suc k) = end_kept n h parts (suc at) bs k

newline : (b : ℕ) → (blank b == 10) ≡ (b == 10)
newline b = by (b == 10) refl (b == 13) refl
  where
    by : (t : Bool) → (b == 10) ≡ t → (z : Bool) → (b == 13) ≡ z → (cond (t || z) b 32 == 10) ≡ t
    by true e z f = e
    by false e true f = e
    by false e false f = refl

return : (b : ℕ) → (blank b == 13) ≡ (b == 13)
return b = by (b == 10) refl (b == 13) refl
  where
    by : (t : Bool) → (b == 10) ≡ t → (z : Bool) → (b == 13) ≡ z → (cond (t || z) b 32 == 13) ≡ z
    by true e z f = f
    by false e true f = f
    by false e false f = refl

pub blanked_alike : BlankedIsAlike
blanked_alike parts text = record {
  long = long parts 0 text;
  outside = λ k h. outside parts 0 text k k (omega arith) h;
  within = λ k lt h. place parts 0 text k k lt (omega arith) ∙ ap (λ t. cond t (blank (get_or text k 0)) (get_or text k 0)) h;
  newlines = end_kept 10 newline parts 0 text;
  returns = end_kept 13 return parts 0 text;
}

-- ---- one part, byte by byte

-- of these bytes those from a start up to an offset are blanked
abbrev pub IsBlankedUpTo : ℕ → ℕ → List ℕ → List ℕ → Type 0
IsBlankedUpTo start at old new = (k : ℕ) → get_or new k 0 ≡ cond (nat_le start k && nat_lt k at) (blank (get_or old k 0)) (get_or old k 0)

pub blank_begins : (start : ℕ) (old : List ℕ) → IsBlankedUpTo start start old old
blank_begins start old k = let none : (nat_le start k && nat_lt k start) ≡ false = grind (arith, nat_tests) in sym (ap (λ t. cond t (blank (get_or old k 0)) (get_or old k 0)) none)

pub blank_step : (start at v : ℕ) (old bs : List ℕ) → start ≤ at → at < length bs → v ≡ blank (get_or bs at 0) → IsBlankedUpTo start at old bs → IsBlankedUpTo start (at + 1) old (set bs at v)
blank_step start at v old bs le lt is h k = elim (cases_eq k at) [
  | inl same ↦
      let yes : (nat_le start at && nat_lt at (at + 1)) ≡ true = grind (arith, nat_tests, le) in
      let none : (nat_le start at && nat_lt at at) ≡ false = grind (arith, nat_tests) in
      let old' : get_or bs at 0 ≡ get_or old at 0 = h at ∙ ap (λ t. cond t (blank (get_or old at 0)) (get_or old at 0)) none in
      let here : get_or (set bs at v) at 0 ≡ blank (get_or old at 0) = get_or-set_same bs at v 0 lt ∙ (is ∙ ap blank old') in
      let whole : get_or (set bs at v) at 0 ≡ cond (nat_le start at && nat_lt at (at + 1)) (blank (get_or old at 0)) (get_or old at 0) = here ∙ sym (ap (λ t. cond t (blank (get_or old at 0)) (get_or old at 0)) yes) in
      subst (λ j. get_or (set bs at v) j 0 ≡ cond (nat_le start j && nat_lt j (at + 1)) (blank (get_or old j 0)) (get_or old j 0)) (sym same) whole
  | inr other ↦
      let test : (nat_le start k && nat_lt k at) ≡ (nat_le start k && nat_lt k (at + 1)) = grind (arith, nat_tests, other) in
      get_or-set_other bs at k v 0 other ∙ (h k ∙ ap (λ t. cond t (blank (get_or old k 0)) (get_or old k 0)) test)
]

in_one : (part : Interval) (k : ℕ) → is_in_any (part ∷ []) k ≡ is_in part k
in_one part k = by (is_in part k)
  where
    by : (t : Bool) → (t || false) ≡ t
    by true = refl
    by false = refl

pub blank_ends : (part : Interval) (at : ℕ) (old new : List ℕ) → length new ≡ length old → IsBlankedUpTo part.start at old new → min part.end (length old) ≤ at → (part.start ≤ min part.end (length old) → at ≤ min part.end (length old))
    → (min part.end (length old) < part.start → at ≡ part.start) → new ≡ all_blanked (part ∷ []) old
blank_ends part at old new size h over within none =
    ext_get_or 0 new (all_blanked (part ∷ []) old) (size ∙ sym (long (part ∷ []) 0 old)) (λ k lt.
    (let few : k < length old = omega (arith, lt, size) in
    let test : (nat_le part.start k && nat_lt k at) ≡ (nat_le part.start k && nat_lt k part.end) = grind (arith, nat_tests, few, over, within, none) in
    h k ∙ (ap (λ t. cond t (blank (get_or old k 0)) (get_or old k 0)) (test ∙ sym (in_one part k)) ∙ sym (place (part ∷ []) 0 old k k few (omega arith)))))

-- ---- parts, one after the other

pub none_blanked : (at : ℕ) (bs : List ℕ) → blanked_from [] at bs ≡ bs
none_blanked at [] = refl
none_blanked at (b ∷ bs) = ap (λ l. b ∷ l) (none_blanked (suc at) bs)

blank_again : (b : ℕ) → blank (blank b) ≡ blank b
blank_again b = by (b == 10) refl (b == 13) refl
  where
    by : (t : Bool) → (b == 10) ≡ t → (z : Bool) → (b == 13) ≡ z → blank (cond (t || z) b 32) ≡ cond (t || z) b 32
    by true e z f = ap (λ t. cond (t || (b == 13)) b 32) e
    by false e true f = ap₂ (λ t z. cond (t || z) b 32) e f
    by false e false f = refl

twice_byte : (t z : Bool) (b : ℕ) → cond z (blank (cond (t || false) (blank b) b)) (cond (t || false) (blank b) b) ≡ cond (t || z) (blank b) b
twice_byte true true b = blank_again b
twice_byte true false b = refl
twice_byte false true b = refl
twice_byte false false b = refl

twice : (part : Interval) (parts : List Interval) (at : ℕ) (bs : List ℕ) → blanked_from parts at (blanked_from (part ∷ []) at bs) ≡ blanked_from (part ∷ parts) at bs
twice part parts at [] = refl
twice part parts at (b ∷ bs) = ap₂ (λ c cs. c ∷ cs) (twice_byte (is_in part at) (is_in_any parts at) b) (twice part parts (suc at) bs)

pub blank_more : (parts : List Interval) (i : ℕ) (d : Interval) (bs : List ℕ) → i < length parts → all_blanked (drop (i + 1) parts) (all_blanked (slice_index_or parts i d ∷ []) bs) ≡ all_blanked (drop i parts) bs
blank_more parts i d bs lt =
    let cut : drop i parts ≡ slice_index_or parts i d ∷ drop (i + 1) parts = drop-cons parts i d lt ∙ ap (λ m. slice_index_or parts i d ∷ drop m parts) (sym (add-one i)) in
    twice (slice_index_or parts i d) (drop (i + 1) parts) 0 bs ∙ ap (λ ps. all_blanked ps bs) (sym cut)
