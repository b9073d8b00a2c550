-- A line asks a request exactly where it is an object of its members.
use Rattle.std.proofs.Common.{◌≡◌, ◌≤◌, ℕ, List, Bool, true, false, cond, Option, Some, None, codes, bytes_eq, refl, sym, ap, subst, ◌∙◌, nat_le}
use Rattle.std.specs.Prelude.{option_map, option_and_then, ◌&&◌}
use Rattle.std.proofs.lemmas.Bool.{leb-true, le-leb}
use Rattle.std.proofs.lemmas.Slice.Eq.{bytes_eq-Decides}
use Rattle.serde_json.specs.Data.{Data, null, boolean, number, unsigned, negative, float, string, array, object, Members, no_members, member}
use Rattle.serde_json.specs.Find.{as_str, get_member}
use Rattle.go_wire_core.specs.declared.request.Command.{Command}
use Rattle.go_wire_core.specs.declared.request.Command.TheVariants.{Open, Edit, Build, List as ListOf, Doc, Complete, Define, Run, Close}
use Rattle.go_wire_core.specs.declared.request.Request.{Request}
use Rattle.go_wire_core.specs.declared.step.Step.TheVariants.{Ask, Refuse}
use Rattle.go_wire_core.specs.declared.step.Step.{Step}
use Rattle.go_wire_core.specs.Requests.{IsFor, IsStepFor, Reading, as_count, as_session, as_steps, as_text_or_null, asked, asked_by, asked_of, count_at, docs, docs_of, edits, finished, first, first_with, is_over, known, lists, most_steps, named, object_of, opens, places, reading_of, runs, session_of, step_of, steps_at, text_at, text_or_null_at, without}
use Rattle.go_wire_core.specs.Table.{AreOf, AreOfRequest, AsksByTable, HasFewSteps, if_given, name_of, others, text_or_null}

-- ---- what an option comes from

pub and_then_is : {A B : Type 0} (f : A → Option B) (r : Option A) (b : B) → option_and_then f r ≡ Some b → (a : A) × (r ≡ Some a) × (f a ≡ Some b)
and_then_is f None b h = cc
and_then_is f (Some a) b h = (a, refl, h)

map_is : {A B : Type 0} (f : A → B) (r : Option A) (b : B) → option_map f r ≡ Some b → (a : A) × (r ≡ Some a) × (f a ≡ b)
map_is f None b h = cc
map_is f (Some a) b h = (a, refl, cc)

-- ---- the first member

first_if : (b : Bool) (key k : List ℕ) (e d : Data) (ms rest : Members) → bytes_eq k key ≡ b → cond {A = Option (Data × Members)} b (Some (e, ms)) None ≡ Some (d, rest) → member k e ms ≡ member key d rest
first_if true key k e d ms rest same h =
    let pair : (e, ms) ≡ (d, rest) = cc in
    let named : k ≡ key = (bytes_eq-Decides k key).0 same in
    ap (λ l. member l e ms) named ∙ ap (λ (p : Data × Members). member key p.0 p.1) pair
first_if false key k e d ms rest same h = cc

first_is : (key : List ℕ) (ms : Members) (d : Data) (rest : Members) → first key ms ≡ Some (d, rest) → ms ≡ member key d rest
first_is key no_members d rest h = cc
first_is key (member k e ms) d rest h = first_if (bytes_eq k key) key k e d ms rest refl h

with_is : {A : Type 0} (reads : Data → Option A) (shown : A → Data) → ((d : Data) (a : A) → reads d ≡ Some a → d ≡ shown a)
    → (key : List ℕ) (ms : Members) (x : A × Members) → first_with reads key ms ≡ Some x → ms ≡ member key (shown x.0) x.1
with_is reads shown back key ms x h =
    let p = and_then_is (λ m. option_map (λ a. (a, m.1)) (reads m.0)) (first key ms) x h in
    let q = map_is (λ a. (a, p.0.1)) (reads p.0.0) x p.2 in
    first_is key ms p.0.0 p.0.1 p.1 ∙ (ap (λ d. member key d p.0.1) (back p.0.0 q.0 q.1) ∙ ap (λ y. member key (shown y.0) y.1) q.2)

pub text_back : (d : Data) (t : List ℕ) → as_str d ≡ Some t → d ≡ string t
text_back null t h = cc
text_back (boolean b) t h = cc
text_back (number n) t h = cc
text_back (string s) t h = cc
text_back (array ds) t h = cc
text_back (object ms) t h = cc

count_back : (d : Data) (n : ℕ) → as_count d ≡ Some n → d ≡ number (unsigned n)
count_back null n h = cc
count_back (boolean b) n h = cc
count_back (number (unsigned m)) n h = cc
count_back (number (negative z)) n h = cc
count_back (number (float x)) n h = cc
count_back (string s) n h = cc
count_back (array ds) n h = cc
count_back (object ms) n h = cc

in_range : (most : ℕ) (a b : Bool) (m n : ℕ) → nat_le 1 m ≡ a → nat_le m most ≡ b → cond (a && b) (Some m) None ≡ Some n → (m ≡ n) × (1 ≤ m) × (m ≤ most)
in_range most true true m n x y h = (cc, leb-true 1 m x, leb-true m most y)
in_range most true false m n x y h = cc
in_range most false true m n x y h = cc
in_range most false false m n x y h = cc

steps_back : (d : Data) (n : ℕ) → as_steps d ≡ Some n → (d ≡ number (unsigned n)) × (1 ≤ n) × (n ≤ most_steps)
steps_back d n h =
    let m = and_then_is (λ m. cond (nat_le 1 m && nat_le m most_steps) (Some m) None) (as_count d) n h in
    let r = in_range most_steps (nat_le 1 m.0) (nat_le m.0 most_steps) m.0 n refl refl m.2 in
    (count_back d m.0 m.1 ∙ ap (λ k. number (unsigned k)) r.0, subst (λ k. 1 ≤ k) r.0 r.1, subst (λ k. k ≤ most_steps) r.0 r.2)

text_or_null_back : (d : Data) (t : Option (List ℕ)) → as_text_or_null d ≡ Some t → d ≡ text_or_null t
text_or_null_back null t h = let same : None ≡ t = cc in ap text_or_null same
text_or_null_back (boolean b) t h = cc
text_or_null_back (number n) t h = cc
text_or_null_back (string s) t h = let same : Some s ≡ t = cc in ap text_or_null same
text_or_null_back (array ds) t h = cc
text_or_null_back (object ms) t h = cc

text_is : (key : List ℕ) (ms : Members) (x : List ℕ × Members) → text_at key ms ≡ Some x → ms ≡ member key (string x.0) x.1
text_is = with_is as_str string text_back

count_is : (key : List ℕ) (ms : Members) (x : ℕ × Members) → count_at key ms ≡ Some x → ms ≡ member key (number (unsigned x.0)) x.1
count_is = with_is as_count (λ n. number (unsigned n)) count_back

steps_is : (key : List ℕ) (ms : Members) (x : ℕ × Members) → steps_at key ms ≡ Some x → ms ≡ member key (number (unsigned x.0)) x.1
steps_is = with_is as_steps (λ n. number (unsigned n)) (λ d n h. (steps_back d n h).0)

steps_in_range : (key : List ℕ) (ms : Members) (x : ℕ × Members) → steps_at key ms ≡ Some x → (1 ≤ x.0) × (x.0 ≤ most_steps)
steps_in_range key ms x h =
    let p = and_then_is (λ m. option_map (λ a. (a, m.1)) (as_steps m.0)) (first key ms) x h in
    let q = map_is (λ a. (a, p.0.1)) (as_steps p.0.0) x p.2 in
    let b = steps_back p.0.0 q.0 q.1 in
    (subst (λ (y : ℕ × Members). 1 ≤ y.0) q.2 b.1, subst (λ (y : ℕ × Members). y.0 ≤ most_steps) q.2 b.2)

text_or_null_is : (key : List ℕ) (ms : Members) (x : Option (List ℕ) × Members) → text_or_null_at key ms ≡ Some x → ms ≡ member key (text_or_null x.0) x.1
text_or_null_is = with_is as_text_or_null text_or_null text_or_null_back

-- ---- the commands

-- what is read is the command of these members
pub record Reads (name : List ℕ) (ms : Members) (command : Command) (rest : Members) : Type 0 where
  pub named' : name_of command ≡ name
  pub members : rest ≡ no_members → ms ≡ others command
  pub steps : HasFewSteps command

reads_as : (name : List ℕ) (ms : Members) (x : Command × Members) (command : Command) (rest : Members) → Reads name ms x.0 x.1 → x ≡ (command, rest) → Reads name ms command rest
reads_as name ms x command rest h same = subst (λ (y : Command × Members). Reads name ms y.0 y.1) same h

opens_is : (ms : Members) (command : Command) (rest : Members) → opens ms ≡ Some (command, rest) → Reads (codes "open") ms command rest
opens_is ms command rest h =
    let m = map_is (λ m. (Open m.0, m.1)) (text_at (codes "module") ms) (command, rest) h in
    reads_as (codes "open") ms (Open m.0.0, m.0.1) command rest
    (record { named' = refl; members = λ over. text_is (codes "module") ms m.0 m.1 ∙ ap (λ l. member (codes "module") (string m.0.0) l) over; steps = tt }) m.2

edits_is : (ms : Members) (command : Command) (rest : Members) → edits ms ≡ Some (command, rest) → Reads (codes "edit") ms command rest
edits_is ms command rest h =
    let f = and_then_is (λ f. option_and_then (λ p. option_map (λ t. (Edit p.0 f.0 t.0, t.1)) (text_or_null_at (codes "text") p.1)) (text_at (codes "path") f.1)) (text_at (codes "file") ms) (command, rest) h in
    let p = and_then_is (λ p. option_map (λ t. (Edit p.0 f.0.0 t.0, t.1)) (text_or_null_at (codes "text") p.1)) (text_at (codes "path") f.0.1) (command, rest) f.2 in
    let t = map_is (λ t. (Edit p.0.0 f.0.0 t.0, t.1)) (text_or_null_at (codes "text") p.0.1) (command, rest) p.2 in
    reads_as (codes "edit") ms (Edit p.0.0 f.0.0 t.0.0, t.0.1) command rest
    (record {
      named' = refl;
      members = λ over.
          text_is (codes "file") ms f.0 f.1 ∙ (ap (λ l. member (codes "file") (string f.0.0) l) (text_is (codes "path") f.0.1 p.0 p.1)
          ∙ (ap (λ l. member (codes "file") (string f.0.0) (member (codes "path") (string p.0.0) l)) (text_or_null_is (codes "text") p.0.1 t.0 t.1)
          ∙ ap (λ l. member (codes "file") (string f.0.0) (member (codes "path") (string p.0.0) (member (codes "text") (text_or_null t.0.0) l))) over));
      steps = tt;
    }) t.2

lists_is : (ms : Members) (command : Command) (rest : Members) → lists ms ≡ Some (command, rest) → Reads (codes "list") ms command rest
lists_is ms command rest h =
    let m = map_is (λ f. (ListOf f.0, f.1)) (text_at (codes "from") ms) (command, rest) h in
    reads_as (codes "list") ms (ListOf m.0.0, m.0.1) command rest
    (record { named' = refl; members = λ over. text_is (codes "from") ms m.0 m.1 ∙ ap (λ l. member (codes "from") (string m.0.0) l) over; steps = tt }) m.2

-- the members behind the path, where a type may stand
record ReadsDoc (from path : List ℕ) (ms : Members) (command : Command) (rest : Members) : Type 0 where
  type_name : Option (List ℕ)
  is : command ≡ Doc from path type_name
  members : rest ≡ no_members → ms ≡ if_given type_name

docs_if : (b : Bool) (from path : List ℕ) (ms : Members) (command : Command) (rest : Members) → is_over ms ≡ b
    → cond {A = Reading} b (Some (Doc from path None, ms)) (option_map (λ t. (Doc from path (Some t.0), t.1)) (text_at (codes "type") ms)) ≡ Some (command, rest) → ReadsDoc from path ms command rest
docs_if true from path ms command rest over h =
    let pair : (Doc from path None, ms) ≡ (command, rest) = cc in
    record { type_name = None; is = sym (ap (λ (p : Command × Members). p.0) pair); members = λ none. ap (λ (p : Command × Members). p.1) pair ∙ none }
docs_if false from path ms command rest over h =
    let t = map_is (λ t. (Doc from path (Some t.0), t.1)) (text_at (codes "type") ms) (command, rest) h in
    record {
      type_name = Some t.0.0;
      is = sym (ap (λ (p : Command × Members). p.0) t.2);
      members = λ none. text_is (codes "type") ms t.0 t.1 ∙ ap (λ l. member (codes "type") (string t.0.0) l) (ap (λ (p : Command × Members). p.1) t.2 ∙ none);
    }

docs_is : (ms : Members) (command : Command) (rest : Members) → docs ms ≡ Some (command, rest) → Reads (codes "doc") ms command rest
docs_is ms command rest h =
    let f = and_then_is (λ f. option_and_then (λ p. docs_of f.0 p.0 p.1) (text_at (codes "path") f.1)) (text_at (codes "from") ms) (command, rest) h in
    let p = and_then_is (λ p. docs_of f.0.0 p.0 p.1) (text_at (codes "path") f.0.1) (command, rest) f.2 in
    let t = docs_if (is_over p.0.1) f.0.0 p.0.0 p.0.1 command rest refl p.2 in
    subst (λ c. Reads (codes "doc") ms c rest) (sym t.is)
    (record {
      named' = refl;
      members = λ over.
          text_is (codes "from") ms f.0 f.1 ∙ (ap (λ l. member (codes "from") (string f.0.0) l) (text_is (codes "path") f.0.1 p.0 p.1)
          ∙ ap (λ l. member (codes "from") (string f.0.0) (member (codes "path") (string p.0.0) l)) (t.members over));
      steps = tt;
    })

completes_is : (ms : Members) (command : Command) (rest : Members) → places Complete ms ≡ Some (command, rest) → Reads (codes "complete") ms command rest
completes_is ms command rest h =
    let f = and_then_is (λ f. option_and_then (λ o. option_map (λ p. (Complete p.0 f.0 o.0, p.1)) (text_at (codes "path") o.1)) (count_at (codes "offset") f.1)) (text_at (codes "file") ms) (command, rest) h in
    let o = and_then_is (λ o. option_map (λ p. (Complete p.0 f.0.0 o.0, p.1)) (text_at (codes "path") o.1)) (count_at (codes "offset") f.0.1) (command, rest) f.2 in
    let p = map_is (λ p. (Complete p.0 f.0.0 o.0.0, p.1)) (text_at (codes "path") o.0.1) (command, rest) o.2 in
    reads_as (codes "complete") ms (Complete p.0.0 f.0.0 o.0.0, p.0.1) command rest
    (record {
      named' = refl;
      members = λ over.
          text_is (codes "file") ms f.0 f.1 ∙ (ap (λ l. member (codes "file") (string f.0.0) l) (count_is (codes "offset") f.0.1 o.0 o.1)
          ∙ (ap (λ l. member (codes "file") (string f.0.0) (member (codes "offset") (number (unsigned o.0.0)) l)) (text_is (codes "path") o.0.1 p.0 p.1)
          ∙ ap (λ l. member (codes "file") (string f.0.0) (member (codes "offset") (number (unsigned o.0.0)) (member (codes "path") (string p.0.0) l))) over));
      steps = tt;
    }) p.2

defines_is : (ms : Members) (command : Command) (rest : Members) → places Define ms ≡ Some (command, rest) → Reads (codes "define") ms command rest
defines_is ms command rest h =
    let f = and_then_is (λ f. option_and_then (λ o. option_map (λ p. (Define p.0 f.0 o.0, p.1)) (text_at (codes "path") o.1)) (count_at (codes "offset") f.1)) (text_at (codes "file") ms) (command, rest) h in
    let o = and_then_is (λ o. option_map (λ p. (Define p.0 f.0.0 o.0, p.1)) (text_at (codes "path") o.1)) (count_at (codes "offset") f.0.1) (command, rest) f.2 in
    let p = map_is (λ p. (Define p.0 f.0.0 o.0.0, p.1)) (text_at (codes "path") o.0.1) (command, rest) o.2 in
    reads_as (codes "define") ms (Define p.0.0 f.0.0 o.0.0, p.0.1) command rest
    (record {
      named' = refl;
      members = λ over.
          text_is (codes "file") ms f.0 f.1 ∙ (ap (λ l. member (codes "file") (string f.0.0) l) (count_is (codes "offset") f.0.1 o.0 o.1)
          ∙ (ap (λ l. member (codes "file") (string f.0.0) (member (codes "offset") (number (unsigned o.0.0)) l)) (text_is (codes "path") o.0.1 p.0 p.1)
          ∙ ap (λ l. member (codes "file") (string f.0.0) (member (codes "offset") (number (unsigned o.0.0)) (member (codes "path") (string p.0.0) l))) over));
      steps = tt;
    }) p.2

runs_is : (ms : Members) (command : Command) (rest : Members) → runs ms ≡ Some (command, rest) → Reads (codes "run") ms command rest
runs_is ms command rest h =
    let p = and_then_is (λ p. option_map (λ n. (Run p.0 n.0, n.1)) (steps_at (codes "steps") p.1)) (text_at (codes "path") ms) (command, rest) h in
    let n = map_is (λ n. (Run p.0.0 n.0, n.1)) (steps_at (codes "steps") p.0.1) (command, rest) p.2 in
    reads_as (codes "run") ms (Run p.0.0 n.0.0, n.0.1) command rest
    (record {
      named' = refl;
      members = λ over.
          text_is (codes "path") ms p.0 p.1 ∙ (ap (λ l. member (codes "path") (string p.0.0) l) (steps_is (codes "steps") p.0.1 n.0 n.1)
          ∙ ap (λ l. member (codes "path") (string p.0.0) (member (codes "steps") (number (unsigned n.0.0)) l)) over);
      steps = steps_in_range (codes "steps") p.0.1 n.0 n.1;
    }) n.2

alone_is : (name : List ℕ) (alone : Command) (ms : Members) (command : Command) (rest : Members) → name_of alone ≡ name → others alone ≡ no_members → HasFewSteps alone → ◌≡◌ {A = Reading} (Some (alone, ms)) (Some (command, rest)) → Reads name ms command rest
alone_is name alone ms command rest named' none few h =
    let pair : ◌≡◌ {A = Command × Members} (alone, ms) (command, rest) = cc in
    reads_as name ms (alone, ms) command rest (record { named' = named'; members = λ over. over ∙ sym none; steps = few }) pair

-- ---- the names, one after another

abbrev Named : List ℕ → Members → Option Reading → Type 0
Named name ms r = (command : Command) (rest : Members) → r ≡ Some (Some (command, rest)) → Reads name ms command rest

-- one more name
or_named : (lit name : List ℕ) (ms : Members) (read : Reading) (later : Option Reading) → ((command : Command) (rest : Members) → read ≡ Some (command, rest) → Reads lit ms command rest) → Named name ms later
    → Named name ms (cond (bytes_eq name lit) (Some read) later)
or_named lit name ms read later here there = by (bytes_eq name lit) refl
  where
    by : (b : Bool) → bytes_eq name lit ≡ b → (command : Command) (rest : Members) → cond b (Some read) later ≡ Some (Some (command, rest)) → Reads name ms command rest
    by true same command rest h = (let is : read ≡ Some (command, rest) = cc in subst (λ n. Reads n ms command rest) (sym ((bytes_eq-Decides name lit).0 same)) (here command rest is))
    by false same command rest h = there command rest h

no_name : (name : List ℕ) (ms : Members) → Named name ms None
no_name name ms command rest h = cc

reading_is : (name : List ℕ) (ms : Members) → Named name ms (reading_of name ms)
reading_is name ms =
    or_named (codes "open") name ms (opens ms) _ (opens_is ms)
    (or_named (codes "edit") name ms (edits ms) _ (edits_is ms)
    (or_named (codes "build") name ms (Some (Build, ms)) _ (λ command rest. alone_is (codes "build") Build ms command rest refl refl tt)
    (or_named (codes "list") name ms (lists ms) _ (lists_is ms)
    (or_named (codes "doc") name ms (docs ms) _ (docs_is ms)
    (or_named (codes "complete") name ms (places Complete ms) _ (completes_is ms)
    (or_named (codes "define") name ms (places Define ms) _ (defines_is ms)
    (or_named (codes "run") name ms (runs ms) _ (runs_is ms)
    (or_named (codes "close") name ms (Some (Close, ms)) None (λ command rest. alone_is (codes "close") Close ms command rest refl refl tt) (no_name name ms)))))))))

-- ---- what a line asks

finished_is : (session : Option ℕ) (r : Reading) (q : Request) → finished session r ≡ Ask q → (q.session ≡ session) × (◌≡◌ {A = Reading} r (Some (q.command, no_members)))
finished_is session None q h = cc
finished_is session (Some (command, no_members)) q h =
    let same : record { session = session; command = command } ≡ q = cc in
    (sym (ap (λ (p : Request). p.session) same), ap {B = Reading} (λ (p : Request). Some (p.command, no_members)) same)
finished_is session (Some (command, member k d ms)) q h = cc

known_is : (session : Option ℕ) (r : Option Reading) (q : Request) → known session r ≡ Ask q → (reading : Reading) × (r ≡ Some reading) × (finished session reading ≡ Ask q)
known_is session None q h = cc
known_is session (Some reading) q h = (reading, refl, h)

named_is : (session : Option ℕ) (ms : Members) (o : Option (List ℕ)) (q : Request) → named session ms o ≡ Ask q → (name : List ℕ) × (o ≡ Some name) × (known session (reading_of name ms) ≡ Ask q)
named_is session ms None q h = cc
named_is session ms (Some name) q h = (name, refl, h)

asked_is : (session : Option ℕ) (ms : Members) (q : Request) → asked session ms ≡ Ask q → (q.session ≡ session) × AreOf q.command ms
asked_is session ms q h =
    let n = named_is session (without (codes "cmd") ms) (option_and_then as_str (get_member (codes "cmd") ms)) q h in
    let d = and_then_is as_str (get_member (codes "cmd") ms) n.0 n.1 in
    let k = known_is session (reading_of n.0 (without (codes "cmd") ms)) q n.2 in
    let f = finished_is session k.0 q k.2 in
    let r = reading_is n.0 (without (codes "cmd") ms) q.command no_members (k.1 ∙ ap Some f.1) in
    (f.0, record { name = d.1 ∙ ap Some (text_back d.0 n.0 d.2 ∙ ap string (sym r.named')); rest = r.members refl; steps = r.steps })

pub session_is : (ms : Members) (n : ℕ) → session_of ms ≡ Some n → (1 ≤ n) × (n ≤ 32) × (get_member (codes "s") ms ≡ Some (number (unsigned n)))
session_is ms n h =
    let d = and_then_is as_session (get_member (codes "s") ms) n h in
    let m = and_then_is (λ m. cond (nat_le 1 m && nat_le m 32) (Some m) None) (as_count d.0) n d.2 in
    let r = in_range 32 (nat_le 1 m.0) (nat_le m.0 32) m.0 n refl refl m.2 in
    (subst (λ k. 1 ≤ k) r.0 r.1, subst (λ k. k ≤ 32) r.0 r.2, d.1 ∙ ap Some (count_back d.0 m.0 m.1 ∙ ap (λ k. number (unsigned k)) r.0))

by_session : (ms : Members) (o : Option ℕ) (q : Request) → session_of ms ≡ o → asked_by (without (codes "s") ms) o ≡ Ask q → AreOfRequest true q ms
by_session ms None q same h = cc
by_session ms (Some n) q same h =
    let a = asked_is (Some n) (without (codes "s") ms) q h in
    let s = session_is ms n same in
    (record { number' = n; is = a.0; least = s.0; most = s.1; there = s.2 }, a.1)

pub asks : (numbered : Bool) (o : Option Members) (q : Request) → asked_of numbered o ≡ Ask q → (ms : Members) × (o ≡ Some ms) × AreOfRequest numbered q ms
asks true None q h = cc
asks false None q h = cc
asks true (Some ms) q h = (ms, refl, by_session ms (session_of ms) q refl h)
asks false (Some ms) q h = (ms, refl, asked_is None ms q h)

-- ---- and back

of_command : (session : Option ℕ) (command : Command) → HasFewSteps command → known session (reading_of (name_of command) (others command)) ≡ Ask (record { session = session; command = command })
of_command session (Open path) h = refl
of_command session (Edit path file None) h = refl
of_command session (Edit path file (Some text)) h = refl
of_command session Build h = refl
of_command session (ListOf from) h = refl
of_command session (Doc from path None) h = refl
of_command session (Doc from path (Some type_name)) h = refl
of_command session (Complete path file offset) h = refl
of_command session (Define path file offset) h = refl
of_command session (Run path steps) h =
    let low : nat_le 1 steps ≡ true = le-leb 1 steps h.0 in
    let high : nat_le steps most_steps ≡ true = le-leb steps most_steps h.1 in
    ap (λ (b : Bool). finished session (option_map (λ (n : ℕ × Members). (Run path n.0, n.1)) (option_map (λ (n : ℕ). (n, no_members)) (cond b (Some steps) None))))
    (ap (λ b. b && nat_le steps most_steps) low ∙ high)
of_command session Close h = refl

of_members : (session : Option ℕ) (command : Command) (ms : Members) → AreOf command ms → asked session ms ≡ Ask (record { session = session; command = command })
of_members session command ms h =
    ap (λ o. named session (without (codes "cmd") ms) (option_and_then as_str o)) h.name
    ∙ (ap (λ r. known session (reading_of (name_of command) r)) h.rest ∙ of_command session command h.steps)

pub session_there : (ms : Members) (n : ℕ) → get_member (codes "s") ms ≡ Some (number (unsigned n)) → 1 ≤ n → n ≤ 32 → session_of ms ≡ Some n
session_there ms n h least most =
    let low : nat_le 1 n ≡ true = le-leb 1 n least in
    let high : nat_le n 32 ≡ true = le-leb n 32 most in
    ap (option_and_then as_session) h ∙ ap (λ (b : Bool). cond b (Some n) None) (ap (λ b. b && nat_le n 32) low ∙ high)

pub asks_back : (numbered : Bool) (ms : Members) (q : Request) → AreOfRequest numbered q ms → asked_of numbered (Some ms) ≡ Ask q
asks_back true ms q h =
    let s = h.0 in
    ap (asked_by (without (codes "s") ms)) (session_there ms s.number' s.there s.least s.most)
    ∙ (of_members (Some s.number') q.command (without (codes "s") ms) h.1 ∙ ap (λ (o : Option ℕ). Ask (record { session = o; command = q.command })) (sym s.is))
asks_back false ms q h = of_members None q.command ms h.1 ∙ ap (λ (o : Option ℕ). Ask (record { session = o; command = q.command })) (sym h.0)

pub by_table : AsksByTable
by_table numbered line q = (
  asks numbered (object_of line) q,
  λ h. ap (asked_of numbered) h.1 ∙ asks_back numbered h.0 q h.2,
)

-- ---- the session of what is asked

session_for : (numbered : Bool) (q : Request) (ms : Members) → AreOfRequest numbered q ms → IsFor numbered q.session
session_for true q ms h = let s = h.0 in subst (IsFor true) (sym s.is) (s.least, s.most)
session_for false q ms h = subst (IsFor false) (sym h.0) tt

for_if : (numbered : Bool) (o : Option Members) (s : Step) → asked_of numbered o ≡ s → IsStepFor numbered s
for_if numbered o (Ask q) h = let a = asks numbered o q h in session_for numbered q a.0 a.2
for_if numbered o (Refuse session rule) h = tt

pub step_is_for : (numbered : Bool) (line : List ℕ) → IsStepFor numbered (step_of numbered line)
step_is_for numbered line = for_if numbered (object_of line) (step_of numbered line) refl
