-- Where lines start, and what stands there.
use Rattle.std.proofs.Common.{◌≡◌, ◌+◌, ◌-◌, ◌<◌, ◌≤◌, ◌==◌, ◌&&◌, ◌∙◌, ℕ, zero, suc, Bool, true, false, cond, not, leb, nat_le, List, [], ◌∷◌, length, drop, get_or, refl, sym, ap, subst, arith, le-leb}
use Rattle.std.specs.Prelude.{count_by}
use Rattle.std.specs.List.Sorted.{IsNonDecreasingBy, IsPartitionPoint}
use Rattle.std.proofs.lemmas.List.Sums.{sum_by-cons}
use Rattle.go_lsp_core.specs.declared.positions.place.Position.{Position}
use Rattle.go_lsp_core.specs.positions.Positions.{at, after_byte, ends_line, offset_at, position_at}
use Rattle.go_lsp_core.specs.positions.mirrors.Starts.{IsStart, further, start_at, starts_from}

-- a start more, where there is one
abbrev more : Bool → ℕ → List ℕ → List ℕ
more t s xs = cond t (s ∷ xs) xs

past_more : (t : Bool) (offset : ℕ) (xs : List ℕ) → ((i d : ℕ) → i < length xs → suc offset < get_or xs i d) → (i d : ℕ) → i < length (more t (suc offset) xs) → offset < get_or (more t (suc offset) xs) i d
past_more true offset xs h zero d lt = omega arith
past_more true offset xs h (suc i) d lt = let k : suc offset < get_or xs i d = h i d (omega (arith, lt)) in omega (arith, k)
past_more false offset xs h i d lt = let k : suc offset < get_or xs i d = h i d lt in omega (arith, k)

-- each start lies after_byte the offset from which the bytes stand
past : (offset : ℕ) (bs : List ℕ) (i d : ℕ) → i < length (starts_from offset bs) → offset < get_or (starts_from offset bs) i d
past offset [] i d lt = absurd (omega (arith, lt))
past offset (b ∷ bs) i d lt = past_more (ends_line b bs) offset (starts_from (suc offset) bs) (past (suc offset) bs) i d lt

rise_more : (t : Bool) (offset : ℕ) (xs : List ℕ) → ((i d : ℕ) → i < length xs → suc offset < get_or xs i d) → IsNonDecreasingBy (λ s. s) xs → IsNonDecreasingBy (λ s. s) (more t (suc offset) xs)
rise_more true offset xs p h zero zero d le lt = omega arith
rise_more true offset xs p h zero (suc j) d le lt = let k : suc offset < get_or xs j d = p j d (omega (arith, lt)) in omega (arith, k)
rise_more true offset xs p h (suc i) zero d le lt = absurd (omega (arith, le))
rise_more true offset xs p h (suc i) (suc j) d le lt = h i j d (omega (arith, le)) (omega (arith, lt))
rise_more false offset xs p h i j d le lt = h i j d le lt

pub starts_rise : (offset : ℕ) (bs : List ℕ) → IsNonDecreasingBy (λ s. s) (starts_from offset bs)
starts_rise offset [] i j d le lt = absurd (omega (arith, lt))
starts_rise offset (b ∷ bs) i j d le lt = rise_more (ends_line b bs) offset (starts_from (suc offset) bs) (past (suc offset) bs) (starts_rise (suc offset) bs) i j d le lt

-- how many starts lie at an offset or before it
abbrev before : ℕ → List ℕ → ℕ
before o xs = count_by (λ s. nat_le s o) xs

before_later : (t : Bool) (o s : ℕ) (xs : List ℕ) → o < s → before o xs ≡ 0 → before o (more t s xs) ≡ 0
before_later true o s xs lt h =
    let no : leb s o ≡ false = grind (arith, lt) in
    sum_by-cons (λ x. cond (nat_le x o) 1 0) s xs ∙ (ap (λ t. cond t 1 0 + before o xs) no ∙ omega (arith, h))
before_later false o s xs lt h = h

before_here : (t : Bool) (o s n : ℕ) (xs : List ℕ) → s ≤ o → before o xs ≡ n → before o (more t s xs) ≡ cond t (suc n) n
before_here true o s n xs le h =
    let yes : leb s o ≡ true = le-leb s o le in
    sum_by-cons (λ x. cond (nat_le x o) 1 0) s xs ∙ (ap (λ t. cond t 1 0 + before o xs) yes ∙ omega (arith, h))
before_here false o s n xs le h = h

none_before : (offset o : ℕ) (bs : List ℕ) → o ≤ offset → before o (starts_from offset bs) ≡ 0
none_before offset o [] le = refl
none_before offset o (b ∷ bs) le = before_later (ends_line b bs) o (suc offset) (starts_from (suc offset) bs) (omega (arith, le)) (none_before (suc offset) o bs (omega (arith, le)))

-- the line of a place from the line of the place in what stands after_byte a byte
line_behind : (t z : Bool) (u l c : ℕ) → (z ≡ true → l ≡ 0) → (cond t (at (suc l) c) (cond z (at 0 (u + c)) (at l c))).line ≡ cond t (suc l) l
line_behind true z u l c h = refl
line_behind false true u l c h = sym (h refl)
line_behind false false u l c h = refl

first_line : (l : ℕ) (q : Bool) → ((l == 0) && q) ≡ true → l ≡ 0
first_line l q h = grind (arith, h)

-- the line of a place: so many lines start at its offset or before it
pub line_counted : (units : ℕ → ℕ) (offset n o : ℕ) (bs : List ℕ) → o ≡ offset + n → before o (starts_from offset bs) ≡ (position_at units bs n).line
line_counted units offset n o [] e = refl
line_counted units offset zero o (b ∷ bs) e = none_before offset o (b ∷ bs) (omega (arith, e))
line_counted units offset (suc n) o (b ∷ bs) e =
    let p = position_at units bs n in
    before_here (ends_line b bs) o (suc offset) p.line (starts_from (suc offset) bs) (omega (arith, e)) (line_counted units (suc offset) n o bs (omega (arith, e)))
    ∙ sym (line_behind (ends_line b bs) ((p.line == 0) && not (b == 13)) (units b) p.line p.character (first_line p.line (not (b == 13))))

-- ---- what stands at a start

first_start : (units : ℕ → ℕ) (bs : List ℕ) → IsStart units bs 0 0
first_start units bs = record {
  within = omega arith;
  offset = λ character. omega arith;
  place = λ n. (let h : 0 + n ≡ n = omega arith in ap (position_at units bs) h ∙ again (position_at units bs n));
}
  where
    again : (p : Position) → p ≡ further 0 p
    again p = ap (λ l. at l p.character) (omega arith)

behind_further : (units : ℕ → ℕ) (b : ℕ) (bs : List ℕ) (t : Bool) → ends_line b bs ≡ t → (k : ℕ) (q : Position) → after_byte units b bs (further (cond t k (suc k)) q) ≡ further (suc k) q
behind_further units b bs true e k q =
    subst (λ t. cond t (at (suc (k + q.line)) q.character) (cond (((k + q.line) == 0) && not (b == 13)) (at 0 (units b + q.character)) (at (k + q.line) q.character)) ≡ at (suc k + q.line) q.character) (sym e)
    (ap (λ l. at l q.character) (omega arith))
behind_further units b bs false e k q =
    let no : ((suc k + q.line) == 0) ≡ false = grind arith in
    subst (λ t. cond t (at (suc (suc k + q.line)) q.character) (cond (((suc k + q.line) == 0) && not (b == 13)) (at 0 (units b + q.character)) (at (suc k + q.line) q.character)) ≡ at (suc k + q.line) q.character) (sym e)
    (subst (λ z. cond (z && not (b == 13)) (at 0 (units b + q.character)) (at (suc k + q.line) q.character) ≡ at (suc k + q.line) q.character) (sym no) refl)

over_byte : (units : ℕ → ℕ) (b : ℕ) (bs : List ℕ) (t : Bool) → ends_line b bs ≡ t → (k m : ℕ) → IsStart units bs (cond t k (suc k)) m → IsStart units (b ∷ bs) (suc k) (suc m)
over_byte units b bs t e k m h = record {
  within = omega (arith, h.within);
  offset = λ character.
      (let same : offset_at units bs (cond (ends_line b bs) k (suc k)) character ≡ m + offset_at units (drop m bs) 0 character = subst (λ u. offset_at units bs (cond u k (suc k)) character ≡ m + offset_at units (drop m bs) 0 character) (sym e) (h.offset character) in
      ap suc same ∙ omega arith);
  place = λ n.
      (let next : suc m + n ≡ suc (m + n) = omega arith in
      ap (position_at units (b ∷ bs)) next ∙ (ap (after_byte units b bs) (h.place n) ∙ behind_further units b bs t e k (position_at units (drop m bs) n)));
}

abbrev Found : (ℕ → ℕ) → ℕ → List ℕ → List ℕ → ℕ → ℕ → Type 0
Found units offset bs xs k d = (m : ℕ) × (get_or xs k d ≡ offset + m) × IsStart units bs (suc k) m

found_more : (units : ℕ → ℕ) (offset b : ℕ) (bs xs : List ℕ) (d : ℕ) → ((k : ℕ) → k < length xs → Found units (suc offset) bs xs k d)
    → (t : Bool) → ends_line b bs ≡ t → (k : ℕ) → k < length (more t (suc offset) xs) → Found units offset (b ∷ bs) (more t (suc offset) xs) k d
found_more units offset b bs xs d h true e zero lt = (1, omega arith, over_byte units b bs true e 0 0 (first_start units bs))
found_more units offset b bs xs d h true e (suc k) lt = let f = h k (omega (arith, lt)) in (suc f.0, omega (arith, f.1), over_byte units b bs true e (suc k) f.0 f.2)
found_more units offset b bs xs d h false e k lt = let f = h k lt in (suc f.0, omega (arith, f.1), over_byte units b bs false e k f.0 f.2)

found : (units : ℕ → ℕ) (offset : ℕ) (bs : List ℕ) (d k : ℕ) → k < length (starts_from offset bs) → Found units offset bs (starts_from offset bs) k d
found units offset [] d k lt = absurd (omega (arith, lt))
found units offset (b ∷ bs) d k lt = found_more units offset b bs (starts_from (suc offset) bs) d (found units (suc offset) bs d) (ends_line b bs) refl k lt

pub start_is : (units : ℕ → ℕ) (bs : List ℕ) (line : ℕ) → line ≤ length (starts_from 0 bs) → IsStart units bs line (start_at (starts_from 0 bs) line)
start_is units bs zero le = first_start units bs
start_is units bs (suc k) le =
    let f = found units 0 bs 0 k (omega (arith, le)) in
    let same : start_at (starts_from 0 bs) (suc k) ≡ f.0 = f.1 ∙ omega arith in
    subst (IsStart units bs (suc k)) (sym same) f.2

none_more : (units : ℕ → ℕ) (b : ℕ) (bs xs : List ℕ) (s character : ℕ) → ((k : ℕ) → length xs ≤ k → offset_at units bs (suc k) character ≡ length bs)
    → (t : Bool) → ends_line b bs ≡ t → (k : ℕ) → length (more t s xs) ≤ k → offset_at units bs (cond t k (suc k)) character ≡ length bs
none_more units b bs xs s character h true e zero le = absurd (omega (arith, le))
none_more units b bs xs s character h true e (suc k) le = h k (omega (arith, le))
none_more units b bs xs s character h false e k le = h k le

-- a line after_byte the text is at its end
pub no_start : (units : ℕ → ℕ) (offset : ℕ) (bs : List ℕ) (character k : ℕ) → length (starts_from offset bs) ≤ k → offset_at units bs (suc k) character ≡ length bs
no_start units offset [] character k le = refl
no_start units offset (b ∷ bs) character k le =
    ap suc (none_more units b bs (starts_from (suc offset) bs) (suc offset) character (no_start units (suc offset) bs character) (ends_line b bs) refl k le)

-- ---- what the code finds

-- of elements that rise, so many are at most a number as stand before the first greater one
pub counted : (o : ℕ) (xs : List ℕ) (i : ℕ) → i ≤ length xs → IsPartitionPoint (λ y. nat_le y o ≡ true) (λ y. nat_le y o ≡ false) xs i → before o xs ≡ i
counted o [] i le h = omega (arith, le)
counted o (x ∷ xs) zero le h =
    let no : nat_le x o ≡ false = h.1 0 0 (omega arith) (omega arith) in
    let rest = counted o xs 0 (omega arith) ((λ k d a lt. absurd (omega (arith, lt))), λ k d a lt. h.1 (suc k) d (omega arith) (omega (arith, lt))) in
    sum_by-cons (λ y. cond (nat_le y o) 1 0) x xs ∙ (ap (λ t. cond t 1 0 + before o xs) no ∙ omega (arith, rest))
counted o (x ∷ xs) (suc i) le h =
    let yes : nat_le x o ≡ true = h.0 0 0 (omega arith) (omega arith) in
    let rest = counted o xs i (omega (arith, le)) ((λ k d a lt. h.0 (suc k) d (omega arith) (omega (arith, lt))), λ k d a lt. h.1 (suc k) d (omega (arith, a)) (omega (arith, lt))) in
    sum_by-cons (λ y. cond (nat_le y o) 1 0) x xs ∙ (ap (λ t. cond t 1 0 + before o xs) yes ∙ omega (arith, rest))

pub start_before : (o : ℕ) (xs : List ℕ) (line : ℕ) → ((i : ℕ) → i < line → get_or xs i 0 ≤ o) → start_at xs line ≤ o
start_before o xs zero h = omega arith
start_before o xs (suc k) h = h k (omega arith)

pub place_found : (units : ℕ → ℕ) (bs : List ℕ) (o s line character : ℕ) → IsStart units bs line s → s ≤ o → line ≡ (position_at units bs o).line
    → ((position_at units (drop s bs) (o - s)).line ≡ 0) × (character ≡ (position_at units (drop s bs) (o - s)).character → at line character ≡ position_at units bs o)
place_found units bs o s line character h le same =
    let q = position_at units (drop s bs) (o - s) in
    let sum : s + (o - s) ≡ o = omega (arith, le) in
    let whole : position_at units bs o ≡ further line q = sym (ap (position_at units bs) sum) ∙ h.place (o - s) in
    let kept : line ≡ line + q.line = same ∙ ap (λ p. p.line) whole in
    (omega (arith, kept), λ e. ap (at line) e ∙ (ap (λ l. at l q.character) kept ∙ sym whole))
