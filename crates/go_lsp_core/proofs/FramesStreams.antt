-- What stands before the end of the input.
use Rattle.std.proofs.Common.{◌≡◌, ◌+◌, ◌-◌, ◌<◌, ◌≤◌, ◌∙◌, ℕ, Option, Some, None, List, [], ◌++◌, length, take, drop, min, refl, sym, ap, subst, inl, inr, arith, append_assoc, append-nil, length-append, take-append-drop, length-drop, length-take-le}
use Rattle.std.proofs.lemmas.List.{drop-append-le, drop-drop, drop_all, take-append-le}
use Rattle.std.specs.Prelude.{⊤}
use Rattle.std.proofs.KnownBytes.{Keeps-trans}
use Rattle.std.specs.Io.KnownBytes.{Consumes, IsAtEnd, Keeps}
use Rattle.go_lsp_core.specs.declared.frames.reading.FrameEnd.{FrameEnd}
use Rattle.go_lsp_core.specs.declared.frames.reading.FrameEnd.TheVariants as ends
use Rattle.go_lsp_core.specs.frames.Frames.{IsEnd, IsMessage, SaysLong, Took, content_length, head_in, most_body, most_head, stream}
use Rattle.go_lsp_core.specs.frames.mirrors.Reading.{IsFailed, IsPassed, IsShortOf, IsUnread}
use Rattle.go_lsp_core.proofs.FramesEnds.{head_stays, head_within, none_stays}

-- bytes that came are put after those that were there
pub came : (old : List ℕ) (a b : Option (List ℕ)) (bs : List ℕ) → Consumes a b bs → Keeps (stream old a) (stream (old ++ bs) b)
came old None b bs h = tt
came old (Some xs) None bs h = absurd h
came old (Some xs) (Some ys) bs h = append_assoc old bs ys ∙ ap (λ l. old ++ l) (sym h)

pub kept : (old : List ℕ) (a b : Option (List ℕ)) → Keeps a b → Keeps (stream old a) (stream old b)
kept old None b h = tt
kept old (Some xs) None h = absurd h
kept old (Some xs) (Some ys) h = ap (λ l. old ++ l) h

-- bytes that came are lost, but something is left
pub lost : (old new : List ℕ) (a b : Option (List ℕ)) (bs : List ℕ) → Consumes a b bs → Took (stream old a) (stream new b) (λ _ _. ⊤)
lost old new None b bs h = tt
lost old new (Some xs) None bs h = absurd h
lost old new (Some xs) (Some ys) bs h = tt

pub took_kept : (P : List ℕ → List ℕ → Type 0) (a b c : Option (List ℕ)) → Keeps a b → Took b c P → Took a c P
took_kept P None b c h k = tt
took_kept P (Some xs) None c h k = absurd h
took_kept P (Some xs) (Some ys) None h k = absurd k
took_kept P (Some xs) (Some ys) (Some zs) h k = subst (λ l. P l zs) h k

pub took_same : (P : List ℕ → List ℕ → Type 0) (a b : Option (List ℕ)) → Keeps a b → ((xs : List ℕ) → P xs xs) → Took a b P
took_same P None b h f = tt
took_same P (Some xs) None h f = absurd h
took_same P (Some xs) (Some ys) h f = subst (P xs) (sym h) (f xs)

pub took_weaker : (P Q : List ℕ → List ℕ → Type 0) (a b : Option (List ℕ)) → ((xs ys : List ℕ) → P xs ys → Q xs ys) → Took a b P → Took a b Q
took_weaker P Q None b f h = tt
took_weaker P Q (Some xs) None f h = absurd h
took_weaker P Q (Some xs) (Some ys) f h = f xs ys h

-- ---- before a head

-- the input is over, and these bytes have no head
pub cut_before_head : (a b : Option (List ℕ)) (old bs : List ℕ) → IsAtEnd b → Keeps (stream old a) (stream bs b) → head_in bs ≡ None → length bs < most_head → 0 < length bs → Took (stream old a) (stream bs b) (IsEnd ends.Cut)
cut_before_head None b old bs o h none few some = tt
cut_before_head (Some xs) None old bs o h none few some = absurd h
cut_before_head (Some xs) (Some ys) old bs o h none few some =
    let all : old ++ xs ≡ bs = sym h ∙ (ap (λ l. bs ++ l) o ∙ append-nil bs) in
    inl (ap head_in all ∙ none, subst (λ l. 0 < length l) (sym all) some, subst (λ l. length l < most_head) (sym all) few)

pub done_before_head : (a b : Option (List ℕ)) (old bs : List ℕ) → IsAtEnd b → Keeps (stream old a) (stream bs b) → bs ≡ [] → Took (stream old a) (stream bs b) (IsEnd ends.Done)
done_before_head None b old bs o h e = tt
done_before_head (Some xs) None old bs o h e = absurd h
done_before_head (Some xs) (Some ys) old bs o h e = sym h ∙ (ap (λ l. bs ++ l) o ∙ (append-nil bs ∙ e))

-- the first bytes have no head
pub long_head : (a b : Option (List ℕ)) (old bs : List ℕ) → Keeps (stream old a) (stream bs b) → head_in bs ≡ None → most_head ≤ length bs → Took (stream old a) (stream bs b) (IsEnd ends.LongHead)
long_head None b old bs h none many = tt
long_head (Some xs) None old bs h none many = absurd h
long_head (Some xs) (Some ys) old bs h none many =
    (ap head_in (sym h) ∙ none_stays bs ys many none, subst (λ l. most_head ≤ length l) h (let n = length-append bs ys in omega (arith, n, many)))

-- one read failed, after those before it
pub failed_head : (end : FrameEnd) (a b c : Option (List ℕ)) → Keeps a b → IsFailed end b c → Took a c (IsEnd end)
failed_head ends.Done a b c h k = absurd k
failed_head ends.Cut a b c h k = absurd k
failed_head ends.LongHead a b c h k = absurd k
failed_head ends.NoLength a b c h k = absurd k
failed_head ends.LongBody a b c h k = absurd k
failed_head ends.ReadFault a b c h k = took_same (IsEnd ends.ReadFault) a c (Keeps-trans a b c h k) (λ xs. inl refl)
failed_head ends.Turns a b c h k = absurd k
failed_head ends.Memory a b c h k = took_kept (IsEnd ends.Memory) a b c h k

pub turns_spent : (a b : Option (List ℕ)) → Keeps a b → Took a b (IsEnd ends.Turns)
turns_spent a b h = took_same (IsEnd ends.Turns) a b h (λ xs. inl refl)

pub failed_fill : (wanted : ℕ) (end : FrameEnd) (a b c : Option (List ℕ)) → Keeps a b → IsFailed end b c → IsShortOf wanted end a c
failed_fill wanted ends.Done a b c h k = k
failed_fill wanted ends.Cut a b c h k = absurd k
failed_fill wanted ends.LongHead a b c h k = k
failed_fill wanted ends.NoLength a b c h k = k
failed_fill wanted ends.LongBody a b c h k = k
failed_fill wanted ends.ReadFault a b c h k = Keeps-trans a b c h k
failed_fill wanted ends.Turns a b c h k = absurd k
failed_fill wanted ends.Memory a b c h k = took_kept (λ _ _. ⊤) a b c h k

pub cut_fill : (wanted : ℕ) (a b : Option (List ℕ)) (old bs : List ℕ) → IsAtEnd b → Keeps (stream old a) (stream bs b) → length bs < wanted → Took (stream old a) (stream bs b) (λ all left. length all < wanted)
cut_fill wanted None b old bs o h few = tt
cut_fill wanted (Some xs) None old bs o h few = absurd h
cut_fill wanted (Some xs) (Some ys) old bs o h few =
    let all : old ++ xs ≡ bs = sym h ∙ (ap (λ l. bs ++ l) o ∙ append-nil bs) in
    subst (λ l. length l < wanted) (sym all) few

-- ---- after a head

take_head : (p rest : List ℕ) (head : ℕ) → head_in p ≡ Some head → take head (p ++ rest) ≡ take head p
take_head p rest head e = take-append-le head p rest (head_within p head e)

-- a head that says no length is taken
pub no_length : (a : Option (List ℕ)) (p : List ℕ) (head : ℕ) → head_in p ≡ Some head → content_length (take head p) ≡ None → Took (stream p a) (stream (drop head p) a) (IsEnd ends.NoLength)
no_length None p head e k = tt
no_length (Some ys) p head e k = (head, head_stays p ys head e, ap content_length (take_head p ys head e) ∙ k, sym (drop-append-le head p ys (head_within p head e)))

pub short_of : (end : FrameEnd) (a b c : Option (List ℕ)) (old p : List ℕ) (head n : ℕ) → Keeps (stream old a) (stream p b) → head_in p ≡ Some head → content_length (take head p) ≡ Some n
    → IsShortOf (head + n) end (stream p b) c → Took (stream old a) c (IsEnd end)
short_of end a b c old p head n h e l k = by end k
  where
    cut : (a b c : Option (List ℕ)) → Keeps (stream old a) (stream p b) → Took (stream p b) c (λ all left. length all < head + n) → Took (stream old a) c (IsEnd ends.Cut)
    cut None b c h k = tt
    cut (Some xs) None c h k = absurd h
    cut (Some xs) (Some ys) None h k = absurd k
    cut (Some xs) (Some ys) (Some zs) h k =
        let found : head_in (old ++ xs) ≡ Some head = ap head_in (sym h) ∙ head_stays p ys head e in
        let same : take head (old ++ xs) ≡ take head p = ap (take head) (sym h) ∙ take_head p ys head e in
        inr (head, n, found, ap content_length same ∙ l, subst (λ m. length m < head + n) h k)

    by : (f : FrameEnd) → IsShortOf (head + n) f (stream p b) c → Took (stream old a) c (IsEnd f)
    by ends.Done k = absurd k
    by ends.Cut k = cut a b c h k
    by ends.LongHead k = absurd k
    by ends.NoLength k = absurd k
    by ends.LongBody k = absurd k
    by ends.ReadFault k = took_same (IsEnd ends.ReadFault) (stream old a) c (Keeps-trans (stream old a) (stream p b) c h k) (λ xs. inl refl)
    by ends.Turns k = took_same (IsEnd ends.Turns) (stream old a) c (Keeps-trans (stream old a) (stream p b) c h k) (λ xs. inl refl)
    by ends.Memory k = took_kept (IsEnd ends.Memory) (stream old a) (stream p b) c h k

pub memory : (a b : Option (List ℕ)) → Keeps a b → (c : Option (List ℕ)) → Took b c (λ _ _. ⊤) → Took a c (IsEnd ends.Memory)
memory a b h c k = took_kept (IsEnd ends.Memory) a b c h k

pub any_left : (p q : List ℕ) (b : Option (List ℕ)) → Took (stream p b) (stream q b) (λ _ _. ⊤)
any_left p q None = tt
any_left p q (Some ys) = tt

pub message_read : (a b c : Option (List ℕ)) (old p q message rest : List ℕ) (head n : ℕ) → Keeps (stream old a) (stream p b) → head_in p ≡ Some head → content_length (take head p) ≡ Some n → n ≤ most_body
    → Keeps (stream p b) (stream q c) → head + n ≤ length q → message ≡ take n (drop head q) → rest ≡ drop (head + n) q → Took (stream old a) (stream rest c) (IsMessage message)
message_read None b c old p q message rest head n h e l few k enough is left = tt
message_read (Some xs) None c old p q message rest head n h e l few k enough is left = absurd h
message_read (Some xs) (Some ys) None old p q message rest head n h e l few k enough is left = absurd k
message_read (Some xs) (Some ys) (Some zs) old p q message rest head n h e l few k enough is left =
    let all = old ++ xs in
    let from_q : q ++ zs ≡ old ++ xs = k ∙ h in
    let found : head_in all ≡ Some head = ap head_in (sym h) ∙ head_stays p ys head e in
    let same : take head all ≡ take head p = ap (take head) (sym h) ∙ take_head p ys head e in
    let size : length message ≡ n = ap length is ∙ length-take-le n (drop head q) (omega (arith, length-drop head q, enough)) in
    let front : take head all ≡ take head q = ap (take head) (sym from_q) ∙ take-append-le head q zs (omega (arith, enough)) in
    let left' : rest ≡ drop n (drop head q) = left ∙ sym (drop-drop n head q) in
    let cut : q ≡ take head q ++ (message ++ rest) =
    sym (take-append-drop head q) ∙ ap (λ l. take head q ++ l) (sym (take-append-drop n (drop head q)) ∙ (ap (λ m. m ++ drop n (drop head q)) (sym is) ∙ ap (λ m. message ++ m) (sym left'))) in
    record {
      head = head;
      found = found;
      long = ap content_length same ∙ (l ∙ ap Some (sym size));
      short = subst (λ m. m ≤ most_body) (sym size) few;
      whole = sym from_q ∙ (ap (λ l. l ++ zs) cut ∙ (append_assoc (take head q) (message ++ rest) zs ∙ (ap (λ l. take head q ++ l) (append_assoc message rest zs) ∙ ap (λ l. l ++ (message ++ (rest ++ zs))) (sym front))));
    }

-- ---- passing over bytes

-- so many bytes are yet to be passed over, of those that are to be
abbrev pub IsToPass : ℕ → ℕ → List ℕ → List ℕ → Type 0
IsToPass count n all left = drop n left ≡ drop count all

pub pass_begins : (count : ℕ) (a : Option (List ℕ)) → Took a a (IsToPass count count)
pass_begins count None = tt
pass_begins count (Some xs) = refl

pub some_passed : (a b : Option (List ℕ)) (p q : List ℕ) (count n m : ℕ) → Took a (stream p b) (IsToPass count n) → IsPassed p q n m → Took a (stream q b) (IsToPass count m)
some_passed None b p q count n m h k = tt
some_passed (Some xs) None p q count n m h k = absurd h
some_passed (Some xs) (Some ys) p q count n m h k =
    let front : drop (n - m) (p ++ ys) ≡ q ++ ys = drop-append-le (n - m) p ys k.there ∙ ap (λ l. l ++ ys) (sym k.rest) in
    let sum : (n - m) + m ≡ n = omega (arith, k.few) in
    ap (drop m) (sym front) ∙ (drop-drop m (n - m) (p ++ ys) ∙ (ap (λ i. drop i (p ++ ys)) sum ∙ h))

-- what one step takes
pub passed : (old new : List ℕ) (count there size : ℕ) → size ≡ length old → there ≡ min size count → new ≡ drop there old → IsPassed old new count (count - there)
passed old new count there size s t e =
    let same : there ≡ count - (count - there) = omega (arith, t) in
    record {
      few = omega arith;
      there = omega (arith, s, t);
      rest = e ∙ ap (λ n. drop n old) same;
      none = λ some. e ∙ drop_all there old (omega (arith, s, t, some));
    }

pub took_on : (P : List ℕ → List ℕ → Type 0) (a b c : Option (List ℕ)) → Took a b P → Keeps b c → Took a c P
took_on P None b c h k = tt
took_on P (Some xs) None c h k = absurd h
took_on P (Some xs) (Some ys) None h k = absurd k
took_on P (Some xs) (Some ys) (Some zs) h k = subst (P xs) (sym k) h

took_all : (P Q : List ℕ → List ℕ → Type 0) (a b c : Option (List ℕ)) → Took a b P → Took b c Q → Took a c (λ _ _. ⊤)
took_all P Q None b c h k = tt
took_all P Q (Some xs) None c h k = absurd h
took_all P Q (Some xs) (Some ys) None h k = absurd k
took_all P Q (Some xs) (Some ys) (Some zs) h k = tt

keeps_took : (b c : Option (List ℕ)) → Keeps b c → Took b c (λ _ _. ⊤)
keeps_took None c h = tt
keeps_took (Some xs) None h = absurd h
keeps_took (Some xs) (Some ys) h = tt

pub pass_done : (a b : Option (List ℕ)) (count n : ℕ) → n ≡ 0 → Took a b (IsToPass count n) → Took a b (λ all left. left ≡ drop count all)
pass_done a b count n none h = subst (λ m. Took a b (IsToPass count m)) none h

-- the input is over, and all that was there was taken
pub pass_cut : (a b : Option (List ℕ)) (p : List ℕ) (count n : ℕ) → p ≡ [] → IsAtEnd b → Took a (stream p b) (IsToPass count n) → Took a (stream p b) (λ all left. left ≡ drop count all)
pass_cut None b p count n e o h = tt
pass_cut (Some xs) None p count n e o h = absurd h
pass_cut (Some xs) (Some ys) p count n e o h =
    let none : p ++ ys ≡ [] = ap (λ l. p ++ l) o ∙ (append-nil p ∙ e) in
    none ∙ (sym (drop_all n [] (omega arith)) ∙ (ap (drop n) (sym none) ∙ h))

pub failed_pass : (P : List ℕ → List ℕ → Type 0) (end : FrameEnd) (a b c : Option (List ℕ)) → Took a b P → IsFailed end b c → IsUnread end a c
failed_pass P ends.Done a b c h k = k
failed_pass P ends.Cut a b c h k = k
failed_pass P ends.LongHead a b c h k = k
failed_pass P ends.NoLength a b c h k = k
failed_pass P ends.LongBody a b c h k = k
failed_pass P ends.ReadFault a b c h k = took_all P (λ _ _. ⊤) a b c h (keeps_took b c k)
failed_pass P ends.Turns a b c h k = absurd k
failed_pass P ends.Memory a b c h k = took_all P (λ _ _. ⊤) a b c h k

pub turns_pass : (P : List ℕ → List ℕ → Type 0) (a b : Option (List ℕ)) → Took a b P → IsUnread ends.Turns a b
turns_pass P None b h = tt
turns_pass P (Some xs) None h = absurd h
turns_pass P (Some xs) (Some ys) h = tt

-- what the head said of all that stood there
says : (p ys : List ℕ) (head n : ℕ) → head_in p ≡ Some head → content_length (take head p) ≡ Some n → most_body < n → SaysLong (p ++ ys)
says p ys head n e l long = (head, n, head_stays p ys head e, ap content_length (take_head p ys head e) ∙ l, long)

pub long_body : (a b : Option (List ℕ)) (p q : List ℕ) (head n : ℕ) → head_in p ≡ Some head → content_length (take head p) ≡ Some n → most_body < n
    → Took (stream (drop head p) a) (stream q b) (λ all left. left ≡ drop n all) → Took (stream p a) (stream q b) (IsEnd ends.LongBody)
long_body None b p q head n e l long h = tt
long_body (Some ys) None p q head n e l long h = absurd h
long_body (Some ys) (Some zs) p q head n e l long h =
    (head, n, head_stays p ys head e, ap content_length (take_head p ys head e) ∙ l, long, h ∙ ap (drop n) (sym (drop-append-le head p ys (head_within p head e))))

pub long_unread : (end : FrameEnd) (a b : Option (List ℕ)) (p q : List ℕ) (head n : ℕ) → head_in p ≡ Some head → content_length (take head p) ≡ Some n → most_body < n
    → IsUnread end (stream (drop head p) a) (stream q b) → Took (stream p a) (stream q b) (IsEnd end)
long_unread end None b p q head n e l long h = tt
long_unread end (Some ys) b p q head n e l long h = by end b h
  where
    by : (f : FrameEnd) (b : Option (List ℕ)) → IsUnread f (stream (drop head p) (Some ys)) (stream q b) → Took (stream p (Some ys)) (stream q b) (IsEnd f)
    by ends.Done b h = absurd h
    by ends.Cut b h = absurd h
    by ends.LongHead b h = absurd h
    by ends.NoLength b h = absurd h
    by ends.LongBody b h = absurd h
    by ends.ReadFault None h = absurd h
    by ends.ReadFault (Some zs) h = inr (says p ys head n e l long)
    by ends.Turns None h = absurd h
    by ends.Turns (Some zs) h = inr (says p ys head n e l long)
    by ends.Memory None h = absurd h
    by ends.Memory (Some zs) h = tt
